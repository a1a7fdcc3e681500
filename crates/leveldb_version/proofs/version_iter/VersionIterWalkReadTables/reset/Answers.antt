use Rattle.std.proofs.Common.{ap}
use Rattle.leveldb_version.proofs.Walks.VersionIterLemmas.{walk_resets}
use Rattle.leveldb_version.proofs.version_iter.VersionIterWalkReadTables.reset.Goals as goal

pub returns : goal.returns
returns g c = walk_resets _ g.E.Env g.C.Cmp g.FP.FilterPolicy g.K.Compressors.codings c.args.self.now c.leave.new.self c.leave.ensures.core c.leave.ensures.at (ap (λ f. f.now) c.leave.ensures.files)
