use Rattle.leveldb_store.proofs.Reading.StoreWalkLemmas.{memory_moves, tables_moves}
use Rattle.leveldb_store.proofs.store_walk.StoreWalkWalkReadTables.seek_to_last.Goals as goal

pub returns-in-Memory : goal.returns-in-Memory
returns-in-Memory g c = record {
  moves = memory_moves _ g.E.Env g.C.Cmp g.FP.FilterPolicy g.K.Compressors.codings g.M.LdbIterator _ _ _ (c.args.env.now, c.args.tables.now) c.in-Memory.walk c.seek_to_last.result (c.seek_to_last.new._env, c.seek_to_last.new._tables) c.seek_to_last.new.self (λ keys pairs position from. from) c.seek_to_last.ensures.moves c.args.self.now c.in-Memory.is;
}

pub returns-in-Tables : goal.returns-in-Tables
returns-in-Tables g c = record {
  moves = tables_moves _ g.E.Env g.C.Cmp g.FP.FilterPolicy g.K.Compressors.codings g.M.LdbIterator _ _ _ (c.args.env.now, c.args.tables.now) c.in-Tables.walk c.seek_to_last-in-Tables.result (c.seek_to_last-in-Tables.new.env, c.seek_to_last-in-Tables.new.tables) c.seek_to_last-in-Tables.new.self (λ keys pairs position from. from) c.seek_to_last-in-Tables.ensures.moves c.args.self.now c.in-Tables.is;
}
