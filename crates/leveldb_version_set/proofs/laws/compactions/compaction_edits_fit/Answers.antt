use Rattle.leveldb_version_set.proofs.Compactions.CompactionEditFitsLemmas.{compaction_edits_fit}
use Rattle.leveldb_version_set.proofs.laws.compactions.compaction_edits_fit.Goals as goal

pub returns : goal.returns
returns c = compaction_edits_fit
