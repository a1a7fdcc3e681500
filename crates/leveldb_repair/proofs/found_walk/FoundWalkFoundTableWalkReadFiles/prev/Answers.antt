use Rattle.leveldb_repair.proofs.FoundWalkLemmas.{memory_moves, table_moves}
use Rattle.leveldb_repair.proofs.found_walk.FoundWalkFoundTableWalkReadFiles.prev.Goals as goal

pub returns-in-Memory-clause-moves : goal.returns-in-Memory-clause-moves
returns-in-Memory-clause-moves g c =
    memory_moves _ g.E.Env g.K.Compressors.codings g.M.LdbIterator _ _ _ (c.args.env.now, c.args.files.now) c.in-Memory.walk c.prev.result (c.prev.new._env, c.prev.new._tables) c.prev.new.self (λ keys pairs position from. from) c.prev.ensures.moves c.args.self.now c.in-Memory.is

pub returns-in-Table-clause-moves : goal.returns-in-Table-clause-moves
returns-in-Table-clause-moves g c =
    table_moves _ g.E.Env g.K.Compressors.codings g.M.LdbIterator _ _ _ (c.args.env.now, c.args.files.now) c.in-Table.walk c.prev-in-Table.result (c.prev-in-Table.new.env, c.prev-in-Table.new.files) c.prev-in-Table.new.self (λ keys pairs position from. from) c.prev-in-Table.ensures.moves c.args.self.now c.in-Table.is
