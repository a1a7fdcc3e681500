use Rattle.std.proofs.Common.{take}
use Rattle.std.specs.List.{All}
use Rattle.leveldb_files.specs.Edits.VersionSet.{IsKeyRange}
use Rattle.leveldb_version_set.proofs.version_set.check_key_ranges.Given as goal

abbrev pub invariant-loop-file : goal.invariant-loop-file
invariant-loop-file g l =
    All (λ file. IsKeyRange (g.C.Cmp.cmp l.ucmp) file.1.smallest file.1.largest) (take l.file-index l.files)
