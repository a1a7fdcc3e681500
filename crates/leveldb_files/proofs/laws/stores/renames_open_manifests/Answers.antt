use Rattle.leveldb_files.proofs.Steps.FirstCurrentLemmas.{first_current_kept}
use Rattle.leveldb_files.proofs.Steps.RenameOpensLemmas.{rename_opens}
use Rattle.leveldb_files.proofs.laws.stores.renames_open_manifests.Goals as goal

pub returns : goal.returns
returns g c = record {
  opened = λ store. rename_opens store g.F.StoreFormat.cmp g.F.StoreFormat.is_table;
  first = λ store. first_current_kept store g.F.StoreFormat.cmp g.F.StoreFormat.is_table;
}
