use Rattle.leveldb_version_set.proofs.Compactions.CompactionEditLemmas.{compactions_are_logged, live_tables_are_known, made_outputs_compact, moves_compact}
use Rattle.leveldb_version_set.proofs.Sets.EditLoggedLemmas.{edits_are_logged}
use Rattle.leveldb_version_set.proofs.laws.compactions.compactions_are_logged.Goals as goal

pub returns-clause-edits : goal.returns-clause-edits
returns-clause-edits g c = λ store. edits_are_logged store g.F.StoreFormat.cmp g.F.StoreFormat.is_table
    g.F.StoreFormat.allowed

pub returns-clause-outputs : goal.returns-clause-outputs
returns-clause-outputs g c = λ store. made_outputs_compact store g.F.StoreFormat.cmp g.F.StoreFormat.is_table

pub returns-clause-moved : goal.returns-clause-moved
returns-clause-moved g c = λ store. moves_compact store g.F.StoreFormat.cmp g.F.StoreFormat.is_table

pub returns-clause-logged : goal.returns-clause-logged
returns-clause-logged g c = λ store. compactions_are_logged store g.F.StoreFormat.cmp g.F.StoreFormat.is_table
    g.F.StoreFormat.allowed

pub returns-clause-known : goal.returns-clause-known
returns-clause-known g c = λ store. live_tables_are_known store g.F.StoreFormat.cmp g.F.StoreFormat.is_table
