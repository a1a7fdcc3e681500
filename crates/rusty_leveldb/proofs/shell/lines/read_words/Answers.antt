use Rattle.std.proofs.Common.{rules, ◌≡◌, ◌∷◌, ◌++◌, [], ℕ, List, Option, Bor, sym, subst}
use Rattle.std.specs.Prelude.{All}
use Rattle.std.proofs.lemmas.List.Elements.{All-nil, All-cons, All-append}
use Rattle.rusty_leveldb.specs.declared.shell.commands.Item.{Item}
use Rattle.rusty_leveldb.specs.Programs.Language.{item_word, words_text, ItemHasBytes}
use Rattle.rusty_leveldb.specs.Programs.Readings.{IsItems, IsItemReading, rest_text}
use Rattle.rusty_leveldb.proofs.Programs.Lines.{words_more, first_item}
use Rattle.rusty_leveldb.proofs.shell.lines.read_words.Goals as goal

pub returns-in_default-2 : goal.returns-in_default-2
returns-in_default-2 c items is =
    let left = c.loop-rest.invariant.others items is in
    let Q : Option (Bor (List ℕ)) → Type 0 = λ o. IsItems (rest_text o) left.0 in
    let first = first_item c.in-Some.words.now c.split_once.result.0.now c.split_once.result.1 left.0 c.split_once.ensures.before c.split_once.ensures.parts (subst Q c.in-Some.is left.1) in
    let P : Option Item → Type 0 = λ o. IsItemReading c.split_once.result.0.now o in
    subst P c.in_default-2.is c.in_ok-item.ensures first.one first.bytes first.word_is

pub loop-rest-preserved : goal.loop-rest-preserved
loop-rest-preserved c =
    let so_far = c.loop-rest.invariant in
    let word = c.split_once.result.0.now in
    let more = c.split_once.result.1 in
    let item = c.in-Some-2.item in
    let P : Option Item → Type 0 = λ o. IsItemReading word o in
    let has = subst P c.in-Some-2.is c.in_ok-item.ensures in
    let pushed : c.push.new.self.items ≡ c.loop-rest.items.items ++ item ∷ [] = search rules in
    let T : Option (Bor (List ℕ)) → Type 0 = λ o. 32 ∷ c.args.words.now ≡ words_text item_word c.loop-rest.items.items ++ rest_text o in
    let A : List Item → Type 0 = λ items. All ItemHasBytes items in
    let B : List Item → Type 0 = λ items. 32 ∷ c.args.words.now ≡ words_text item_word items ++ rest_text more in
    record {
      bytes = subst A (sym pushed) (All-append ItemHasBytes c.loop-rest.items.items (item ∷ []) so_far.bytes (All-cons ItemHasBytes item [] has.0 (All-nil ItemHasBytes)));
      text_is = subst B (sym pushed) (words_more item_word (32 ∷ c.args.words.now) c.in-Some.words.now word more c.loop-rest.items.items item (subst T c.in-Some.is so_far.text_is) c.split_once.ensures.parts has.1);
      others = λ all is.
          let left = so_far.others all is in
          let Q : Option (Bor (List ℕ)) → Type 0 = λ o. IsItems (rest_text o) left.0 in
          let first = first_item c.in-Some.words.now word more left.0 c.split_once.ensures.before c.split_once.ensures.parts (subst Q c.in-Some.is left.1) in
          (first.others, (first.all, first.rest_is));
    }
