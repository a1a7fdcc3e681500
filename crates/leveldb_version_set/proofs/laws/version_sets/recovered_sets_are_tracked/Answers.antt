use Rattle.leveldb_version_set.proofs.Sets.TracksLemmas.{going_on_is_tracked, starting_anew_is_tracked}
use Rattle.leveldb_version_set.proofs.laws.version_sets.recovered_sets_are_tracked.Goals as goal

pub returns : goal.returns
returns c = record { going_on = going_on_is_tracked; anew = starting_anew_is_tracked }
