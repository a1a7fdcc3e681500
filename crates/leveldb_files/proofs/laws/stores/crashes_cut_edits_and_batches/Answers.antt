use Rattle.leveldb_files.proofs.Steps.CrashLemmas.{crash_cuts}
use Rattle.leveldb_files.proofs.laws.stores.crashes_cut_edits_and_batches.Goals as goal

pub returns : goal.returns
returns g c = λ store. crash_cuts store g.F.StoreFormat.cmp g.F.StoreFormat.is_table
