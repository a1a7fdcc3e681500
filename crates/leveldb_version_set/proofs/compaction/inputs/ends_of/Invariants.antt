use Rattle.std.proofs.Common.{take}
use Rattle.leveldb_base.specs.KeyTypes.{internal_cmp}
use Rattle.leveldb_version.specs.Versions.Version.{borrowed_files}
use Rattle.leveldb_version_set.proofs.Compactions.InputsLemmas.{AreKeyEndsSoFar}
use Rattle.leveldb_version_set.proofs.compaction.inputs.ends_of.Given as goal

abbrev pub invariant-loop-file : goal.invariant-loop-file
invariant-loop-file g l =
    AreKeyEndsSoFar (internal_cmp (g.C.Cmp.cmp l.ucmp)) (borrowed_files l.files) (borrowed_files (take l.file-index l.files)) l.low l.high
