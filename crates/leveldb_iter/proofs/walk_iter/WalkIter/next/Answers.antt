use Rattle.std.proofs.Common.{refl, sym, Ok, None}
use Rattle.std.proofs.lemmas.Result.{err_from_is_err_and}
use Rattle.leveldb_iter.proofs.WalkIterLemmas.{move_fails, copies, copy_fails}
use Rattle.leveldb_iter.proofs.walk_iter.WalkIter.next.Goals as goal

pub returns-in_err-advance-clause-moves : goal.returns-in_err-advance-clause-moves
returns-in_err-advance-clause-moves g c =
    let p = err_from_is_err_and c.from_residual.result c.from_residual.ensures.1 in
    rw p.1 (rw p.2 (record { moves = move_fails g.W.Walk g.met.W.Walk.laws c.in_err-advance.ensures.moves; env_reference = refl; tables_reference = refl }))

pub returns-then-not-branch-clause-moves : goal.returns-then-not-branch-clause-moves
returns-then-not-branch-clause-moves g c = record {
  moves = copies g.W.Walk g.met.W.Walk.laws (Ok None) refl c.in_ok-advance.ensures.moves;
  env_reference = refl;
  tables_reference = refl;
}

pub returns-then-is_err-clause-moves : goal.returns-then-is_err-clause-moves
returns-then-is_err-clause-moves g c = record {
  moves = copy_fails g.W.Walk g.met.W.Walk.laws c.copy_pair-pair.result (sym c.if-is_err.ensures.value) c.copy_pair-pair.ensures.cause c.in_ok-advance.ensures.moves c.reset.ensures;
  env_reference = refl;
  tables_reference = refl;
}

pub returns-else-is_err-clause-moves : goal.returns-else-is_err-clause-moves
returns-else-is_err-clause-moves g c = record {
  moves = copies g.W.Walk g.met.W.Walk.laws c.copy_pair-pair.result (sym c.if-is_err.ensures.value) c.in_ok-advance.ensures.moves;
  env_reference = refl;
  tables_reference = refl;
}
