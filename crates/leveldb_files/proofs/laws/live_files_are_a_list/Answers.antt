use Rattle.leveldb_files.proofs.Edits.VersionSetLemmas.{lists_live_files}
use Rattle.leveldb_files.proofs.laws.live_files_are_a_list.Goals as goal

pub returns : goal.returns
returns c = lists_live_files
