use Rattle.leveldb_files.proofs.Steps.KeepsLemmas.{keeping_holds}
use Rattle.leveldb_files.proofs.laws.stores.keeping_steps_hold.Goals as goal

pub returns : goal.returns
returns g c = λ store. keeping_holds store g.F.StoreFormat.cmp g.F.StoreFormat.is_table g.F.StoreFormat.allowed
