use Rattle.std.proofs.Common.{refl}
use Rattle.leveldb_base.specs.Types.{last_position}
use Rattle.rusty_leveldb.specs.Walks.Iterator.{no_cause}
use Rattle.rusty_leveldb.proofs.Walks.IteratorLemmas.{moved}
use Rattle.rusty_leveldb.proofs.db_iter.StoreIterator.seek_to_last.Goals as goal

pub returns : goal.returns
returns g c = rw c.count_read.ensures.rest (
    moved _ g.E.Env g.met.E.Env.counts g.C.Cmp g.FP.FilterPolicy g.K.Compressors.codings g.V.Walk no_cause
    (λ _ pairs _. last_position pairs) c.args.self.now _ refl _ (λ laws order pairs position at. laws.over_list _ _ _ pairs position at) c.seek_to_last-moved.result c.seek_to_last-moved.ensures.moves)
