use Rattle.leveldb_files.proofs.Steps.KeepsLemmas.{edit_keeps}
use Rattle.leveldb_files.proofs.laws.stores.edits_keep_histories.Goals as goal

pub returns : goal.returns
returns g c = λ store. edit_keeps store g.F.StoreFormat.cmp g.F.StoreFormat.is_table g.F.StoreFormat.allowed
