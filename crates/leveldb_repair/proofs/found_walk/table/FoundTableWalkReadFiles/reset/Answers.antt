use Rattle.leveldb_repair.proofs.FoundWalkTableLemmas.{walk_resets}
use Rattle.leveldb_repair.proofs.found_walk.table.FoundTableWalkReadFiles.reset.Goals as goal

pub returns : goal.returns
returns g c = walk_resets _ g.E.Env g.K.Compressors.codings c.args.self.now c.leave.new.self c.leave.ensures
