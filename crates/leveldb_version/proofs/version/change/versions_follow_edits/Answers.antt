use Rattle.leveldb_version.proofs.Versions.ChangeLemmas.{versions_follow_edits}
use Rattle.leveldb_version.proofs.version.change.versions_follow_edits.Goals as goal

pub returns : goal.returns
returns g c = versions_follow_edits
