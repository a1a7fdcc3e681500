use Rattle.leveldb_store.proofs.Reading.StoreWalkLemmas.{tables_resets}
use Rattle.leveldb_store.proofs.store_walk.StoreWalkWalkReadTables.reset.Goals as goal

pub returns-in-Tables : goal.returns-in-Tables
returns-in-Tables g c =
    tables_resets _ g.E.Env g.C.Cmp g.FP.FilterPolicy g.K.Compressors.codings g.M.LdbIterator c.in-Tables.walk c.reset-in-Tables.new.self
    c.reset-in-Tables.ensures c.args.self.now c.in-Tables.is
