use Rattle.leveldb_files.proofs.Edits.VersionSetLemmas.{live_is_added_last}
use Rattle.leveldb_files.proofs.laws.live_files_were_added_last.Goals as goal

pub returns : goal.returns
returns c = live_is_added_last
