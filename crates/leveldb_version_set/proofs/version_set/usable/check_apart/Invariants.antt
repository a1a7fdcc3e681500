use Rattle.std.proofs.Common.{take}
use Rattle.leveldb_version_set.specs.Sets.Usable.{AreAllApart}
use Rattle.leveldb_version_set.proofs.Sets.UsableLemmas.{as_new_files}
use Rattle.leveldb_version_set.proofs.version_set.usable.check_apart.Given as goal

abbrev pub invariant-loop-file : goal.invariant-loop-file
invariant-loop-file g l = AreAllApart (g.C.Cmp.cmp l.ucmp) (as_new_files (take l.file-index l.files)) (as_new_files l.files)
