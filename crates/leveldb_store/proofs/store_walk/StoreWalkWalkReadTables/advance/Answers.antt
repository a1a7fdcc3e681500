use Rattle.leveldb_store.proofs.Reading.StoreWalkLemmas.{memory_moves, tables_moves}
use Rattle.leveldb_store.proofs.store_walk.StoreWalkWalkReadTables.advance.Goals as goal

pub returns-in-Memory-clause-moves : goal.returns-in-Memory-clause-moves
returns-in-Memory-clause-moves g c =
    memory_moves _ g.E.Env g.C.Cmp g.FP.FilterPolicy g.K.Compressors.codings g.M.LdbIterator _ _ _ (c.args.env.now, c.args.tables.now) c.in-Memory.walk c.advance.result (c.advance.new._env, c.advance.new._tables) c.advance.new.self (λ keys pairs position from. from) c.advance.ensures.moves c.args.self.now c.in-Memory.is

pub returns-in-Tables-clause-moves : goal.returns-in-Tables-clause-moves
returns-in-Tables-clause-moves g c =
    tables_moves _ g.E.Env g.C.Cmp g.FP.FilterPolicy g.K.Compressors.codings g.M.LdbIterator _ _ _ (c.args.env.now, c.args.tables.now) c.in-Tables.walk c.advance-in-Tables.result (c.advance-in-Tables.new.env, c.advance-in-Tables.new.tables) c.advance-in-Tables.new.self (λ keys pairs position from. from) c.advance-in-Tables.ensures.moves c.args.self.now c.in-Tables.is
