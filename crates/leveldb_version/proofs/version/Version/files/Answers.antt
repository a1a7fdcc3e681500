use Rattle.std.proofs.Common.{◌≡◌, ◌∙◌, List, ap, map, subst, sym, ℕ}
use Rattle.std.specs.List.Sorted.{IsNonDecreasingBy}
use Rattle.leveldb_base.specs.CmpLaws.{total_order}
use Rattle.leveldb_base.specs.declared.types.FileMetaData.{FileMetaData}
use Rattle.leveldb_files.specs.Levels.Summary.{files_of_level}
use Rattle.leveldb_version.specs.Versions.Version.{AreInVersionOrder, VersionValue, at_level}
use Rattle.leveldb_version.specs.Edits.VersionEdit.{new_file_of}
use Rattle.leveldb_version.proofs.Versions.VersionLemmas.{at_level_map, level_in_order, levels_rise}
use Rattle.leveldb_version.proofs.version.Version.files.Goals as goal

pub part_of_level-requires : goal.part_of_level-requires
part_of_level-requires g c =
    subst (λ (files : List (ℕ × FileMetaData)). IsNonDecreasingBy (λ (file : ℕ × FileMetaData). file.0) files) (sym c.as_slice.ensures.value)
    (levels_rise (g.C.Cmp.cmp c.self.inside.cmp) c.self.inside.files.items c.self.invariant.0)

pub returns-clause-in_order : goal.returns-clause-in_order
returns-clause-in_order g c =
    let files = c.self.inside.files.items in
    let cmp = c.self.inside.cmp in
    let same : map new_file_of c.part_of_level.result.now ≡ files_of_level c.args.level (map new_file_of files) =
    ap (map new_file_of) (c.part_of_level.ensures ∙ ap (at_level c.args.level) c.as_slice.ensures.value) ∙ at_level_map c.args.level files in
    let sorted : AreInVersionOrder (g.C.Cmp.cmp cmp) (map new_file_of c.part_of_level.result.now) =
    subst (AreInVersionOrder (g.C.Cmp.cmp cmp)) (sym same)
    (level_in_order (total_order (g.met.C.Cmp.preorder cmp) (g.met.C.UserCmp.accepts_all cmp)) c.args.level (map new_file_of files) c.self.invariant.0) in
    subst (λ (v : VersionValue g.row.C.Denot). AreInVersionOrder (g.C.Cmp.cmp v.cmp) (map new_file_of c.part_of_level.result.now)) c.self.view_is sorted
