use Rattle.std.proofs.Common.{◌∙◌, ap, map}
use Rattle.std.specs.List.{list_any}
use Rattle.leveldb_files.specs.Levels.Overlap.{is_overlapped, overlaps}
use Rattle.leveldb_version.specs.Versions.Version.{VersionValue, new_files_of}
use Rattle.leveldb_version.specs.Edits.VersionEdit.{new_file_of}
use Rattle.leveldb_version.proofs.Versions.VersionLemmas.{at_level_map}
use Rattle.leveldb_version.proofs.version.Version.is_overlapped.Goals as goal

pub returns : goal.returns
returns g c =
    c.is_overlapped.ensures
    ∙ ap (list_any (overlaps (g.C.Cmp.cmp c.self.inside.cmp) c.args.range.now))
    (ap (map new_file_of) c.files.ensures.files ∙ at_level_map c.args.level c.args.self.now.files)
    ∙ ap (λ (v : VersionValue g.row.C.Denot). is_overlapped (g.C.Cmp.cmp v.cmp) c.args.level c.args.range.now (new_files_of c.args.self.now)) c.self.view_is
