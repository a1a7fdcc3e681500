use Rattle.std.proofs.Common.{ℕ, Option, subst}
use Rattle.std.specs.Prelude.{Vec}
use Rattle.std.specs.declared.alloc.Global.{Global}
use Rattle.leveldb_iter.specs.declared.moves.Move.{Move}
use Rattle.rusty_leveldb.specs.Programs.Readings.{IsViewReading, IsMovesReading, rest_text}
use Rattle.rusty_leveldb.proofs.Programs.Lines.{no_walk_view, no_walk_moves, walk_text}
use Rattle.rusty_leveldb.proofs.shell.walks.read_walk.Goals as goal

pub returns-in_default : goal.returns-in_default
returns-in_default c =
    let P : Option (Option ℕ) → Type 0 = λ o. IsViewReading c.split_once.result.0.now o in
    no_walk_view c.args.words.now c.split_once.result.0.now c.split_once.result.1 c.split_once.ensures.before c.split_once.ensures.parts
    (subst P c.in_default.is c.read_view.ensures)

pub returns-in_default-2 : goal.returns-in_default-2
returns-in_default-2 c =
    let P : Option (Vec Move Global) → Type 0 = λ o. IsMovesReading (rest_text c.split_once.result.1) o in
    no_walk_moves c.args.words.now c.split_once.result.0.now c.split_once.result.1 c.split_once.ensures.before c.split_once.ensures.parts
    (subst P c.in_default-2.is c.in_ok-moves.ensures)

pub returns : goal.returns
returns c =
    let V : Option (Option ℕ) → Type 0 = λ o. IsViewReading c.split_once.result.0.now o in
    let view = subst V c.in-Some.is c.read_view.ensures in
    let P : Option (Vec Move Global) → Type 0 = λ o. IsMovesReading (rest_text c.split_once.result.1) o in
    let moves = subst P c.in-Some-2.is c.in_ok-moves.ensures in
    (moves.0, (c.split_once.result.0.now, view, walk_text c.args.words.now c.split_once.result.0.now c.split_once.result.1 c.in-Some-2.moves.items c.split_once.ensures.parts moves.1))
