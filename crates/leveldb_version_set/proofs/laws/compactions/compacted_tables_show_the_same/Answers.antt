use Rattle.leveldb_version_set.proofs.Compactions.ShownFromLemmas.{compactions_keep_shown, shown_is_kept}
use Rattle.leveldb_version_set.proofs.laws.compactions.compacted_tables_show_the_same.Goals as goal

pub returns-clause-keeps : goal.returns-clause-keeps
returns-clause-keeps g c = compactions_keep_shown g.F.StoreFormat.cmp

pub returns-clause-kept : goal.returns-clause-kept
returns-clause-kept g c = shown_is_kept g.F.StoreFormat.cmp
