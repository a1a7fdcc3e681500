use Rattle.std.proofs.Common.{rules, ◌≡◌, ◌∷◌, ◌++◌, [], ℕ, List, Option, Bor, sym, subst}
use Rattle.std.specs.Prelude.{All}
use Rattle.std.proofs.lemmas.List.Elements.{All-nil, All-cons, All-append}
use Rattle.leveldb_iter.specs.declared.moves.Move.{Move}
use Rattle.rusty_leveldb.specs.Programs.Language.{move_word, words_text, MoveHasBytes}
use Rattle.rusty_leveldb.specs.Programs.Readings.{IsMoves, IsMoveReading, rest_text}
use Rattle.rusty_leveldb.proofs.Programs.Lines.{words_more, first_move}
use Rattle.rusty_leveldb.proofs.shell.walks.read_moves.Goals as goal

pub returns-in_default-2 : goal.returns-in_default-2
returns-in_default-2 c items is =
    let left = c.loop-rest.invariant.others items is in
    let Q : Option (Bor (List ℕ)) → Type 0 = λ o. IsMoves (rest_text o) left.0 in
    let first = first_move c.in-Some.words.now c.split_once.result.0.now c.split_once.result.1 left.0 c.split_once.ensures.before c.split_once.ensures.parts (subst Q c.in-Some.is left.1) in
    let P : Option Move → Type 0 = λ o. IsMoveReading c.split_once.result.0.now o in
    subst P c.in_default-2.is c.in_ok-one.ensures first.one first.bytes first.word_is

pub loop-rest-preserved : goal.loop-rest-preserved
loop-rest-preserved c =
    let so_far = c.loop-rest.invariant in
    let word = c.split_once.result.0.now in
    let more = c.split_once.result.1 in
    let one = c.in-Some-2.one in
    let P : Option Move → Type 0 = λ o. IsMoveReading word o in
    let has = subst P c.in-Some-2.is c.in_ok-one.ensures in
    let pushed : c.push.new.self.items ≡ c.loop-rest.moves.items ++ one ∷ [] = search rules in
    let T : Option (Bor (List ℕ)) → Type 0 = λ o. rest_text c.args.words ≡ words_text move_word c.loop-rest.moves.items ++ rest_text o in
    let A : List Move → Type 0 = λ moves. All MoveHasBytes moves in
    let B : List Move → Type 0 = λ moves. rest_text c.args.words ≡ words_text move_word moves ++ rest_text more in
    record {
      bytes = subst A (sym pushed) (All-append MoveHasBytes c.loop-rest.moves.items (one ∷ []) so_far.bytes (All-cons MoveHasBytes one [] has.0 (All-nil MoveHasBytes)));
      text_is = subst B (sym pushed) (words_more move_word (rest_text c.args.words) c.in-Some.words.now word more c.loop-rest.moves.items one (subst T c.in-Some.is so_far.text_is) c.split_once.ensures.parts has.1);
      others = λ all is.
          let left = so_far.others all is in
          let Q : Option (Bor (List ℕ)) → Type 0 = λ o. IsMoves (rest_text o) left.0 in
          let first = first_move c.in-Some.words.now word more left.0 c.split_once.ensures.before c.split_once.ensures.parts (subst Q c.in-Some.is left.1) in
          (first.others, (first.all, first.rest_is));
    }
