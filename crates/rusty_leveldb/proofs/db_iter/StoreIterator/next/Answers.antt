use Rattle.std.proofs.lemmas.Result.{err_from_is_err_and}
use Rattle.leveldb_base.specs.Types.{next_position}
use Rattle.rusty_leveldb.specs.Walks.Iterator.{no_cause}
use Rattle.rusty_leveldb.proofs.Walks.IteratorLemmas.{moves_err, moves_lost}
use Rattle.rusty_leveldb.proofs.db_iter.StoreIterator.next.Goals as goal

pub returns-in_err-advance-clause-moves : goal.returns-in_err-advance-clause-moves
returns-in_err-advance-clause-moves g c =
    let p = err_from_is_err_and c.from_residual.result c.from_residual.ensures.1 in
    rw (p.1, p.2) (moves_err _ g.E.Env g.met.E.Env.counts g.C.Cmp g.FP.FilterPolicy g.K.Compressors.codings g.V.Walk no_cause
    (λ _. next_position) c.args.self.now _ c.in_err-advance.field-0.0 c.in_err-advance.ensures.moves)

pub returns-in-Err-clause-moves : goal.returns-in-Err-clause-moves
returns-in-Err-clause-moves g c = moves_lost _ g.E.Env g.met.E.Env.counts g.C.Cmp g.FP.FilterPolicy g.K.Compressors.codings g.V.Walk no_cause
    (λ _. next_position) c.args.self.now _ _ _ tt c.in_ok-advance.ensures.moves c.reset.ensures.moves c.reset.ensures.none c.in-Err.status c.in-Err.ensures.cause
