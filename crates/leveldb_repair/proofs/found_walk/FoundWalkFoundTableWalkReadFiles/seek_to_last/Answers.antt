use Rattle.leveldb_repair.proofs.FoundWalkLemmas.{memory_moves, table_moves}
use Rattle.leveldb_repair.proofs.found_walk.FoundWalkFoundTableWalkReadFiles.seek_to_last.Goals as goal

pub returns-in-Memory : goal.returns-in-Memory
returns-in-Memory g c = record {
  moves = memory_moves _ g.E.Env g.K.Compressors.codings g.M.LdbIterator _ _ _ (c.args.env.now, c.args.files.now) c.in-Memory.walk c.seek_to_last.result (c.seek_to_last.new._env, c.seek_to_last.new._tables) c.seek_to_last.new.self (λ keys pairs position from. from) c.seek_to_last.ensures.moves c.args.self.now c.in-Memory.is;
}

pub returns-in-Table : goal.returns-in-Table
returns-in-Table g c = record {
  moves = table_moves _ g.E.Env g.K.Compressors.codings g.M.LdbIterator _ _ _ (c.args.env.now, c.args.files.now) c.in-Table.walk c.seek_to_last-in-Table.result (c.seek_to_last-in-Table.new.env, c.seek_to_last-in-Table.new.files) c.seek_to_last-in-Table.new.self (λ keys pairs position from. from) c.seek_to_last-in-Table.ensures.moves c.args.self.now c.in-Table.is;
}
