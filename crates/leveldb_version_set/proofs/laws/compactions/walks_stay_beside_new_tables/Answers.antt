use Rattle.leveldb_version.proofs.Walks.WalksBesideLemmas.{walks_stay_beside}
use Rattle.leveldb_version_set.proofs.laws.compactions.walks_stay_beside_new_tables.Goals as goal

pub returns : goal.returns
returns g c = λ codings. walks_stay_beside _ g.E.Env g.C.Cmp g.FP.FilterPolicy codings
