use Rattle.std.proofs.Common.{◌≡◌, ◌∙◌, List, ap, map, subst}
use Rattle.std.specs.Option.{option_copied, option_map}
use Rattle.std.specs.List.Sorted.{IsSortedByKey}
use Rattle.leveldb_base.specs.KeyTypes.{internal_cmp}
use Rattle.leveldb_files.specs.Levels.Overlap.{AreDisjointRanges, IsFileFor}
use Rattle.leveldb_files.specs.Levels.Summary.{files_of_level}
use Rattle.leveldb_version.specs.Versions.Version.{AreInVersionOrder, VersionValue, new_files_of}
use Rattle.leveldb_files.specs.Edits.Edit.{NewFile}
use Rattle.leveldb_version.specs.Edits.VersionEdit.{new_file_of}
use Rattle.leveldb_version.proofs.Versions.VersionLemmas.{at_level_map, keys_rise}
use Rattle.leveldb_version.proofs.version.Version.file_for.Goals as goal

pub returns : goal.returns
returns g c = λ deep ranges.
    let cmp = g.C.Cmp.cmp c.args.self.now.cmp in
    let found = option_map new_file_of (option_copied c.file_with_key.result) in
    let same : map new_file_of c.files.result.now ≡ files_of_level c.args.level (new_files_of c.args.self.now) =
    ap (map new_file_of) c.files.ensures.files ∙ at_level_map c.args.level c.args.self.now.files in
    let here = subst (λ (v : VersionValue g.row.C.Denot).
    IsSortedByKey (λ (f : NewFile). f.smallest) (internal_cmp (g.C.Cmp.cmp v.cmp)) (map new_file_of c.files.result.now)
    → AreDisjointRanges (g.C.Cmp.cmp v.cmp) (map new_file_of c.files.result.now)
    → IsFileFor (g.C.Cmp.cmp v.cmp) (map new_file_of c.files.result.now) c.args.key.now found) c.self.view_is c.file_with_key.ensures.found in
    subst (λ (files : List NewFile).
    IsSortedByKey (λ (f : NewFile). f.smallest) (internal_cmp cmp) files
    → AreDisjointRanges cmp files → IsFileFor cmp files c.args.key.now found) same here
    (keys_rise cmp c.args.level deep (new_files_of c.args.self.now) (subst (AreInVersionOrder cmp) same c.files.ensures.in_order)) ranges
