use Rattle.std.proofs.Common.{◌≡◌, fold, map, max, take}
use Rattle.leveldb_version.specs.Edits.VersionEdit.{new_file_of}
use Rattle.leveldb_repair.proofs.numbers.raised_to_files.Given as goal

-- the number is raised to those of the first files
abbrev pub invariant-loop-file : goal.invariant-loop-file
invariant-loop-file l = l.greatest ≡ fold max l.fn.least (map (λ file. file.number) (map new_file_of (take l.file-index l.files)))
