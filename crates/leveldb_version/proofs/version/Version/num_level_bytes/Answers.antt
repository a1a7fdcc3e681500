use Rattle.std.proofs.Common.{◌∙◌, ap, map}
use Rattle.leveldb_files.specs.Levels.Summary.{total_size}
use Rattle.leveldb_version.specs.Edits.VersionEdit.{new_file_of}
use Rattle.leveldb_version.proofs.Versions.VersionLemmas.{at_level_map}
use Rattle.leveldb_version.proofs.version.Version.num_level_bytes.Goals as goal

pub returns : goal.returns
returns g c =
    c.total_size.ensures
    ∙ ap total_size (ap (map new_file_of) c.files.ensures.files ∙ at_level_map c.args.level c.args.self.now.files)
