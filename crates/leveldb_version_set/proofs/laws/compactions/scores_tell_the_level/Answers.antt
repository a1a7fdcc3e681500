use Rattle.leveldb_version.proofs.Versions.ScoresLemmas.{scores_tell_level}
use Rattle.leveldb_version_set.proofs.laws.compactions.scores_tell_the_level.Goals as goal

pub returns : goal.returns
returns c = scores_tell_level
