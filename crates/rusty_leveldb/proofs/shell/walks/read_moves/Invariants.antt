use Rattle.std.proofs.Common.{◌≡◌, ◌++◌, List, length}
use Rattle.std.specs.Prelude.{All}
use Rattle.leveldb_iter.specs.declared.moves.Move.{Move}
use Rattle.rusty_leveldb.specs.Programs.Language.{move_word, words_text, MoveHasBytes}
use Rattle.rusty_leveldb.specs.Programs.Readings.{IsMoves, rest_text}
use Rattle.rusty_leveldb.proofs.shell.walks.read_moves.Given as goal

abbrev pub invariant-loop-rest : goal.invariant-loop-rest
invariant-loop-rest l = record {
  bytes : All MoveHasBytes l.moves.items;
  text_is : rest_text l.fn.words ≡ words_text move_word l.moves.items ++ rest_text l.rest;
  others : (all : List Move) → IsMoves (rest_text l.fn.words) all → (left : List Move) × IsMoves (rest_text l.rest) left;
}

abbrev pub decreases-loop-rest : goal.decreases-loop-rest
decreases-loop-rest l = length (rest_text l.rest)
