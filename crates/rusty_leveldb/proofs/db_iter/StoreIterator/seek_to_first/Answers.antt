use Rattle.std.proofs.Common.{refl}
use Rattle.leveldb_base.specs.Types.{position_within}
use Rattle.rusty_leveldb.specs.Walks.Iterator.{no_cause}
use Rattle.rusty_leveldb.proofs.Walks.IteratorLemmas.{moved}
use Rattle.rusty_leveldb.specs.Headline as headline
use Rattle.rusty_leveldb.specs.Machines.State as machine
use Rattle.rusty_leveldb.proofs.Headline.WalkRowLemmas.{same_position}
use Rattle.rusty_leveldb.proofs.Walks.SaysLemmas.{move_says}
use Rattle.rusty_leveldb.proofs.db_iter.StoreIterator.seek_to_first.Goals as goal

pub returns-clause-moves : goal.returns-clause-moves
returns-clause-moves g c = rw c.count_read.ensures.rest (
    moved _ g.E.Env g.met.E.Env.counts g.C.Cmp g.FP.FilterPolicy g.K.Compressors.codings g.V.Walk no_cause
    (λ _ pairs _. position_within pairs 0) c.args.self.now _ refl _ (λ laws order pairs position at. laws.over_list _ _ _ pairs position at) c.seek_to_first-moved.result c.seek_to_first-moved.ensures.moves)

pub returns-clause-says : goal.returns-clause-says
returns-clause-says g c = move_says headline.seek_to_first (λ order pairs position. same_position order pairs position machine.seek_to_first)
    (λ status never. absurd never) (returns-clause-moves g c)
