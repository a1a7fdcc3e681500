use Rattle.leveldb_repair.proofs.FoundWalkLemmas.{memory_moves, table_moves}
use Rattle.leveldb_repair.proofs.found_walk.FoundWalkFoundTableWalkReadFiles.seek.Goals as goal

pub returns-in-Memory : goal.returns-in-Memory
returns-in-Memory g c = record {
  moves = memory_moves _ g.E.Env g.K.Compressors.codings g.M.LdbIterator _ _ _ (c.args.env.now, c.args.files.now) c.in-Memory.walk c.seek.result (c.seek.new._env, c.seek.new._tables) c.seek.new.self (λ keys pairs position from. from) c.seek.ensures.moves c.args.self.now c.in-Memory.is;
}

pub returns-in-Table : goal.returns-in-Table
returns-in-Table g c = record {
  moves = table_moves _ g.E.Env g.K.Compressors.codings g.M.LdbIterator _ _ _ (c.args.env.now, c.args.files.now) c.in-Table.walk c.seek-in-Table.result (c.seek-in-Table.new.env, c.seek-in-Table.new.files) c.seek-in-Table.new.self (λ keys pairs position from. from) c.seek-in-Table.ensures.moves c.args.self.now c.in-Table.is;
}
