use Rattle.leveldb_version_set.proofs.Engines.OpeningEndLemmas.{openings_end}
use Rattle.leveldb_version_set.proofs.laws.opening.openings_end.Goals as goal

pub returns : goal.returns
returns g c = λ store. openings_end store g.F.StoreFormat.cmp g.F.StoreFormat.is_table
    g.F.StoreFormat.allowed
