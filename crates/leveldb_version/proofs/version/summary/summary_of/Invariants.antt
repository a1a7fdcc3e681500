use Rattle.std.proofs.Common.{◌≡◌, map, take}
use Rattle.std.specs.Prelude.{string_bytes}
use Rattle.leveldb_files.specs.Levels.Summary.{levels_text}
use Rattle.leveldb_version.specs.Edits.VersionEdit.{new_file_of}
use Rattle.leveldb_files.proofs.Levels.SummaryLemmas.{seven}
use Rattle.leveldb_version.proofs.version.summary.summary_of.Given as goal

abbrev pub invariant-loop-level : goal.invariant-loop-level
invariant-loop-level l = string_bytes l.text ≡ levels_text (map new_file_of l.files) (take l.level seven)
