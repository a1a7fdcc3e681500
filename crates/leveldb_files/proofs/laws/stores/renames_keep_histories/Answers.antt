use Rattle.leveldb_files.proofs.Steps.KeepsLemmas.{rename_keeps, first_current_keeps}
use Rattle.leveldb_files.proofs.laws.stores.renames_keep_histories.Goals as goal

pub returns : goal.returns
returns g c = record {
  next = λ store. rename_keeps store g.F.StoreFormat.cmp g.F.StoreFormat.is_table g.F.StoreFormat.allowed;
  first = λ store. first_current_keeps store g.F.StoreFormat.cmp g.F.StoreFormat.is_table g.F.StoreFormat.allowed;
}
