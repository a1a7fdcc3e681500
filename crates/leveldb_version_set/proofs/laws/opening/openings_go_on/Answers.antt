use Rattle.leveldb_version_set.proofs.Engines.OpeningEndLemmas.{openings_go_on}
use Rattle.leveldb_version_set.proofs.laws.opening.openings_go_on.Goals as goal

pub returns : goal.returns
returns g c = λ store. openings_go_on store g.F.StoreFormat.cmp g.F.StoreFormat.is_table
    g.F.StoreFormat.allowed
