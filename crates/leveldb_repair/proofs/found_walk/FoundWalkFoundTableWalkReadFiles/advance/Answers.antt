use Rattle.leveldb_repair.proofs.FoundWalkLemmas.{memory_moves, table_moves}
use Rattle.leveldb_repair.proofs.found_walk.FoundWalkFoundTableWalkReadFiles.advance.Goals as goal

pub returns-in-Memory-clause-moves : goal.returns-in-Memory-clause-moves
returns-in-Memory-clause-moves g c =
    memory_moves _ g.E.Env g.K.Compressors.codings g.M.LdbIterator _ _ _ (c.args.env.now, c.args.files.now) c.in-Memory.walk c.advance.result (c.advance.new._env, c.advance.new._tables) c.advance.new.self (λ keys pairs position from. from) c.advance.ensures.moves c.args.self.now c.in-Memory.is

pub returns-in-Table-clause-moves : goal.returns-in-Table-clause-moves
returns-in-Table-clause-moves g c =
    table_moves _ g.E.Env g.K.Compressors.codings g.M.LdbIterator _ _ _ (c.args.env.now, c.args.files.now) c.in-Table.walk c.advance-in-Table.result (c.advance-in-Table.new.env, c.advance-in-Table.new.files) c.advance-in-Table.new.self (λ keys pairs position from. from) c.advance-in-Table.ensures.moves c.args.self.now c.in-Table.is
