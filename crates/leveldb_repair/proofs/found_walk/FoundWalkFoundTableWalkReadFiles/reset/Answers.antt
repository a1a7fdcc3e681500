use Rattle.leveldb_repair.proofs.FoundWalkLemmas.{table_resets}
use Rattle.leveldb_repair.proofs.FoundWalkTableLemmas.{walk_resets}
use Rattle.leveldb_repair.proofs.found_walk.FoundWalkFoundTableWalkReadFiles.reset.Goals as goal

pub returns-in-Table : goal.returns-in-Table
returns-in-Table g c =
    table_resets _ g.E.Env g.K.Compressors.codings g.M.LdbIterator c.in-Table.walk c.leave.new.self
    (walk_resets _ g.E.Env g.K.Compressors.codings c.in-Table.walk c.leave.new.self c.leave.ensures) c.args.self.now c.in-Table.is
