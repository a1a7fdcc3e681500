use Rattle.leveldb_store.proofs.Reading.StoreWalkLemmas.{memory_moves, tables_moves}
use Rattle.leveldb_store.proofs.store_walk.StoreWalkWalkReadTables.prev.Goals as goal

pub returns-in-Memory-clause-moves : goal.returns-in-Memory-clause-moves
returns-in-Memory-clause-moves g c =
    memory_moves _ g.E.Env g.C.Cmp g.FP.FilterPolicy g.K.Compressors.codings g.M.LdbIterator _ _ _ (c.args.env.now, c.args.tables.now) c.in-Memory.walk c.prev.result (c.prev.new._env, c.prev.new._tables) c.prev.new.self (λ keys pairs position from. from) c.prev.ensures.moves c.args.self.now c.in-Memory.is

pub returns-in-Tables-clause-moves : goal.returns-in-Tables-clause-moves
returns-in-Tables-clause-moves g c =
    tables_moves _ g.E.Env g.C.Cmp g.FP.FilterPolicy g.K.Compressors.codings g.M.LdbIterator _ _ _ (c.args.env.now, c.args.tables.now) c.in-Tables.walk c.prev-in-Tables.result (c.prev-in-Tables.new.env, c.prev-in-Tables.new.tables) c.prev-in-Tables.new.self (λ keys pairs position from. from) c.prev-in-Tables.ensures.moves c.args.self.now c.in-Tables.is
