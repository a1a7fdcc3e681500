use Rattle.leveldb_version_set.proofs.Compactions.ChoosingLemmas.{edited_files_stay_apart, files_are_edited}
use Rattle.leveldb_version_set.proofs.Compactions.CompactedFilesLemmas.{compacted_files_stay_apart}
use Rattle.leveldb_version_set.proofs.Compactions.CompactionLemmas.{outputs_lie_within}
use Rattle.leveldb_version_set.proofs.laws.compactions.compacted_files_stay_apart.Goals as goal

pub returns-clause-within : goal.returns-clause-within
returns-clause-within c = outputs_lie_within

pub returns-clause-apart : goal.returns-clause-apart
returns-clause-apart c = compacted_files_stay_apart

pub returns-clause-edited : goal.returns-clause-edited
returns-clause-edited c = edited_files_stay_apart

pub returns-clause-files : goal.returns-clause-files
returns-clause-files c = files_are_edited
