use Rattle.leveldb_version_set.proofs.Compactions.ReplacingLemmas.{replacing_refines, swaps_replace, switches_replace}
use Rattle.leveldb_version_set.proofs.laws.compactions.replaced_tables_show_the_same.Goals as goal

pub returns-clause-refines : goal.returns-clause-refines
returns-clause-refines g c = λ store. replacing_refines store g.F.StoreFormat.cmp g.F.StoreFormat.is_table

pub returns-clause-swaps : goal.returns-clause-swaps
returns-clause-swaps g c = λ store. swaps_replace store g.F.StoreFormat.cmp g.F.StoreFormat.is_table

pub returns-clause-switches : goal.returns-clause-switches
returns-clause-switches g c = λ store. switches_replace store g.F.StoreFormat.cmp g.F.StoreFormat.is_table
