use Rattle.std.proofs.Common.{◌≡◌, ◌∙◌, ◌++◌, ◌∷◌, List, [], ap, map, subst, sym, ℕ}
use Rattle.std.proofs.lemmas.List.{map_push}
use Rattle.std.specs.Borrow.{Bor}
use Rattle.leveldb_base.specs.declared.types.FileMetaData.{FileMetaData}
use Rattle.leveldb_version_set.proofs.Compactions.CompactionCallLemmas.{none_of_level, pointer_is_set}
use Rattle.leveldb_version_set.specs.Compactions.Inputs.{AreKeyEnds}
use Rattle.leveldb_version.specs.Versions.Version.{borrowed_files}
use Rattle.leveldb_files.specs.Edits.Edit.{Edit, Pointer}
use Rattle.leveldb_version.specs.Edits.VersionEdit.{edit_of, pointer_of}
use Rattle.leveldb_version_set.proofs.compaction.pointing_edit.Goals as goal

pub returns-in_default-clause-pointer : goal.returns-in_default-clause-pointer
returns-in_default-clause-pointer g c = λ files may.
    let none : c.as_slice.result.now ≡ [] = c.ends_of.ensures.none.0 c.in_default.is in
    absurd (none_of_level (g.C.Cmp.cmp c.args.ucmp.now) files c.args.level c.args.inputs.now may (ap borrowed_files (sym c.as_slice.ensures.value ∙ none)))

pub returns-clause-pointer : goal.returns-clause-pointer
returns-clause-pointer g c =
    let cmp = g.C.Cmp.cmp c.args.ucmp.now in
    let low = c.in-Some.field-0-0.now in
    let high = c.in-Some.largest.now in
    let started : map pointer_of c.new-edit.result.compaction_ptrs.items ≡ [] = ap (λ (e : Edit). e.pointers) c.new-edit.ensures in
    let points : map pointer_of c.set_compact_pointer.new.self.compaction_ptrs.items ≡ record { level = c.args.level; key = high } ∷ [] =
    ap (map pointer_of) c.in_ok-set_compact_pointer.ensures.ok
    ∙ (map_push pointer_of c.new-edit.result.compaction_ptrs.items (record { level = c.args.level; key = high })
    ∙ ap (λ (ps : List Pointer). ps ++ record { level = c.args.level; key = high } ∷ []) started) in
    pointer_is_set cmp c.args.level c.args.inputs.now low high (edit_of c.set_compact_pointer.new.self)
    (subst (λ (all : List (Bor (ℕ × FileMetaData))). AreKeyEnds cmp (borrowed_files all) low high) c.as_slice.ensures.value c.in-Some.ensures.ends) points
