use Rattle.std.proofs.Common.{◌+◌, ◌∙◌, ap, map}
use Rattle.leveldb_version_set.specs.Compactions.Picking.{CompactionValue}
use Rattle.leveldb_files.specs.Levels.Summary.{files_of_level}
use Rattle.leveldb_version.specs.Versions.Version.{new_files_of}
use Rattle.leveldb_version.specs.Edits.VersionEdit.{new_file_of}
use Rattle.leveldb_version.proofs.Versions.VersionLemmas.{at_level_map}
use Rattle.leveldb_version_set.proofs.compaction.Compaction.files_two_down.Goals as goal

pub returns : goal.returns
returns g c =
    ap (map new_file_of) c.part.ensures ∙ at_level_map (c.self.inside.level + 2) c.self.inside.version.files
    ∙ ap (λ (v : CompactionValue g.row.C.Denot). files_of_level (v.level + 2) (new_files_of v.version)) c.self.view_is
