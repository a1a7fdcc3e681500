use Rattle.leveldb_files.proofs.Steps.SwapEditLemmas.{swap_refines}
use Rattle.leveldb_files.proofs.Steps.SwitchEditLemmas.{switch_refines}
use Rattle.leveldb_files.proofs.Steps.StaysLemmas.{refine_onwards, full_edits_refine}
use Rattle.leveldb_files.proofs.Edits.EditTablesLemmas.{tables_then}
use Rattle.leveldb_files.proofs.laws.stores.edits_that_change_nothing_shown.Goals as goal

pub returns : goal.returns
returns g c = record {
  swap = λ store one. swap_refines store g.F.StoreFormat.cmp g.F.StoreFormat.is_table one;
  switch = λ store one. switch_refines store g.F.StoreFormat.cmp g.F.StoreFormat.is_table one;
  snapshot = λ store. full_edits_refine store g.F.StoreFormat.cmp g.F.StoreFormat.is_table;
  onwards = λ store. refine_onwards store g.F.StoreFormat.cmp g.F.StoreFormat.is_table;
  tables = λ store. tables_then store g.F.StoreFormat.cmp g.F.StoreFormat.is_table;
}
