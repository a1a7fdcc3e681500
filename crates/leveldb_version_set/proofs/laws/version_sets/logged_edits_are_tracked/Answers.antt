use Rattle.leveldb_version_set.proofs.Sets.NewManifestKeepsLemmas.{begun_is_tracked}
use Rattle.leveldb_version_set.proofs.Sets.TracksLemmas.{appended_is_tracked, stays_tracked}
use Rattle.leveldb_version_set.proofs.laws.version_sets.logged_edits_are_tracked.Goals as goal

pub returns : goal.returns
returns c = record {
  appended = appended_is_tracked;
  begun = begun_is_tracked;
  stay = stays_tracked;
}
