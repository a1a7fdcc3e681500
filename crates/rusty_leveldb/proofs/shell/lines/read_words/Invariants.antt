use Rattle.std.proofs.Common.{◌≡◌, ◌∷◌, ◌++◌, List, length}
use Rattle.std.specs.Prelude.{All}
use Rattle.rusty_leveldb.specs.declared.shell.commands.Item.{Item}
use Rattle.rusty_leveldb.specs.Programs.Language.{item_word, words_text, ItemHasBytes}
use Rattle.rusty_leveldb.specs.Programs.Readings.{IsItems, rest_text}
use Rattle.rusty_leveldb.proofs.shell.lines.read_words.Given as goal

abbrev pub invariant-loop-rest : goal.invariant-loop-rest
invariant-loop-rest l = record {
  bytes : All ItemHasBytes l.items.items;
  text_is : 32 ∷ l.fn.words ≡ words_text item_word l.items.items ++ rest_text l.rest;
  others : (all : List Item) → IsItems (32 ∷ l.fn.words) all → (left : List Item) × IsItems (rest_text l.rest) left;
}

abbrev pub decreases-loop-rest : goal.decreases-loop-rest
decreases-loop-rest l = length (rest_text l.rest)
