use Rattle.std.proofs.Common.{refl, ◌≡◌}
use Rattle.leveldb_base.specs.Types.{seek_position}
use Rattle.leveldb_base.specs.declared.error.StatusCode.TheVariants.{InvalidArgument}
use Rattle.leveldb_base.specs.KeyTypes.{IsLongKey}
use Rattle.rusty_leveldb.proofs.Walks.IteratorLemmas.{moved, moves_refused}
use Rattle.rusty_leveldb.specs.Headline as headline
use Rattle.rusty_leveldb.specs.Machines.State as machine
use Rattle.rusty_leveldb.proofs.Headline.WalkRowLemmas.{same_position}
use Rattle.rusty_leveldb.proofs.Walks.SaysLemmas.{move_says}
use Rattle.rusty_leveldb.proofs.db_iter.StoreIterator.seek.Goals as goal

pub returns-in-Err-clause-moves : goal.returns-in-Err-clause-moves
returns-in-Err-clause-moves g c =
    (moves_refused _ g.E.Env g.met.E.Env.counts g.C.Cmp g.FP.FilterPolicy g.K.Compressors.codings g.V.Walk
    (λ e. (e.code ≡ InvalidArgument) × IsLongKey c.args.key.now) (λ order pairs _. seek_position order pairs c.args.key.now)
    c.args.self.now _ tt c.reset.ensures.moves c.reset.ensures.none c.in-Err.status c.in-Err.ensures.long)

pub returns-clause-moves : goal.returns-clause-moves
returns-clause-moves g c = rw c.count_read.ensures.rest (
    moved _ g.E.Env g.met.E.Env.counts g.C.Cmp g.FP.FilterPolicy g.K.Compressors.codings g.V.Walk
    (λ e. (e.code ≡ InvalidArgument) × IsLongKey c.args.key.now)
    (λ order pairs _. seek_position order pairs c.args.key.now) c.args.self.now _ refl _
    (λ laws order pairs position at. (laws.over_list _ _ _ pairs position at, refl)) c.seek-moved.result c.seek-moved.ensures.moves)

pub returns-clause-says : goal.returns-clause-says
returns-clause-says g c = move_says (headline.seek c.args.key.now) (λ order pairs position. same_position order pairs position (machine.seek c.args.key.now))
    (λ status misfit. misfit.0) (returns-clause-moves g c)

pub returns-in-Err-clause-says : goal.returns-in-Err-clause-says
returns-in-Err-clause-says g c = move_says (headline.seek c.args.key.now) (λ order pairs position. same_position order pairs position (machine.seek c.args.key.now))
    (λ status misfit. misfit.0) (returns-in-Err-clause-moves g c)
