use Rattle.std.proofs.Common.{◌≡◌, ◌++◌, [], map, take}
use Rattle.std.specs.Prelude.{string_bytes}
use Rattle.leveldb_files.specs.Levels.Summary.{files_of_level, files_text}
use Rattle.leveldb_version.specs.Edits.VersionEdit.{new_file_of}
use Rattle.leveldb_files.proofs.Levels.SummaryLemmas.{lead_after}
use Rattle.leveldb_version.proofs.version.summary.put_files.Given as goal

abbrev pub invariant-loop-file : goal.invariant-loop-file
invariant-loop-file l = record {
  text : string_bytes l.text ≡ string_bytes l.initial.text ++ files_text [] (files_of_level l.level (map new_file_of (take l.file-index l.files)));
  lead : l.lead ≡ lead_after (files_of_level l.level (map new_file_of (take l.file-index l.files)));
}
