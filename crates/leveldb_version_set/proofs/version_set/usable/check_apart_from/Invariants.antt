use Rattle.std.proofs.Common.{take}
use Rattle.leveldb_version_set.specs.Sets.Usable.{IsApartFrom}
use Rattle.leveldb_version.specs.Edits.VersionEdit.{new_file_of}
use Rattle.leveldb_version_set.proofs.Sets.UsableLemmas.{as_new_files}
use Rattle.leveldb_version_set.proofs.version_set.usable.check_apart_from.Given as goal

abbrev pub invariant-loop-other : goal.invariant-loop-other
invariant-loop-other g l = IsApartFrom (g.C.Cmp.cmp l.ucmp) (new_file_of l.file) (as_new_files (take l.other-index l.files))
