use Rattle.std.proofs.Common.{◌≡◌, ◌∙◌, ap, map}
use Rattle.std.specs.List.{filter}
use Rattle.leveldb_version.specs.Versions.DeeperLevels.{closed_range}
use Rattle.leveldb_files.specs.Levels.Overlap.{UserRange, overlapping, overlaps}
use Rattle.leveldb_files.specs.Levels.Summary.{files_of_level}
use Rattle.leveldb_version.specs.Versions.Version.{VersionValue, new_files_of}
use Rattle.leveldb_version.specs.Edits.VersionEdit.{new_file_of}
use Rattle.leveldb_files.proofs.Levels.OverlapLemmas.{if_ok_more}
use Rattle.leveldb_version.proofs.Versions.VersionLemmas.{at_level_map}
use Rattle.leveldb_version.proofs.version.Version.files_between.Goals as goal

pub returns-clause-ok : goal.returns-clause-ok
returns-clause-ok g c =
    let cmp = g.C.Cmp.cmp c.self.inside.cmp in
    let all = new_files_of c.args.self.now in
    let range = closed_range c.args.low.now c.args.high.now in
    let same : map new_file_of c.part.result.now ≡ files_of_level c.args.level all =
    ap (map new_file_of) c.part.ensures ∙ at_level_map c.args.level c.args.self.now.files in
    if_ok_more c.files_in.result c.files_in.ensures.ok (λ found is.
    is ∙ (ap (λ (r : UserRange). filter (overlaps cmp r) (map new_file_of c.part.result.now)) c.closed-range.ensures
    ∙ (ap (filter (overlaps cmp range)) same
    ∙ ap (λ (v : VersionValue g.row.C.Denot). overlapping (g.C.Cmp.cmp v.cmp) c.args.level range all) c.self.view_is)))
