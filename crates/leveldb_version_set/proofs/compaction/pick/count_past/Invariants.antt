use Rattle.std.proofs.Common.{◌≡◌}
use Rattle.leveldb_version.specs.Versions.Version.{borrowed_files}
use Rattle.leveldb_version_set.proofs.Compactions.InputsLemmas.{AreCountedTo}
use Rattle.leveldb_version_set.proofs.compaction.pick.count_past.Given as goal

abbrev pub invariant-loop-file : goal.invariant-loop-file
invariant-loop-file l = record {
  count_is : l.count ≡ l.file-index;
  counted : AreCountedTo l.limit l.left l.file-index (borrowed_files l.files);
}
