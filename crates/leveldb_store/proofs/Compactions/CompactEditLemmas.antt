-- The edit of a compaction: what it is, that it can be written, and that it leaves levels apart.
use Rattle.std.specs.Prelude.{All, Contains, IsPermutation}
use Rattle.std.proofs.Common.{◌≡◌, ◌∙◌, ◌∷◌, ◌++◌, ◌<◌, ◌^◌, inr, ⊎_elim, ℕ, Bool, true, false, List, [], map, Some, ap, arith, refl, subst, sym}
use Rattle.std.proofs.lemmas.List.{map-append}
use Rattle.std.proofs.lemmas.List.Elements.{All-append, All-cons, All-contains, All-nil}
use Rattle.std.proofs.lemmas.List.Sorted.{Contains-permutation, IsPermutation-map, IsPermutation-sym}
use Rattle.std.proofs.lemmas.Map.Keys.{IsDistinct-IsPermutation}
use Rattle.std.specs.Cmp.{IsTotalOrder}
use Rattle.std.specs.List.Sorted.{IsStrictlySortedBy}
use Rattle.std.specs.declared.cmp.Ordering.{Ordering}
use Rattle.leveldb_base.proofs.EntriesLemmas.{in_map, map_in}
use Rattle.leveldb_base.proofs.HistoryLemmas.{in_front, in_none, in_rest}
use Rattle.leveldb_base.specs.declared.types.FileMetaData.{FileMetaData}
use Rattle.leveldb_version_set.proofs.Compactions.ChoosingLemmas.{choices_go_by_sets, edited_files_stay_apart, files_are_edited}
use Rattle.leveldb_version.proofs.Versions.SearchLemmas.{all_from_contains}
use Rattle.leveldb_files.proofs.Edits.VersionSetLemmas.{not_same}
use Rattle.leveldb_version_set.specs.Compactions.Compaction.{MayCompact, files_of_tables}
use Rattle.leveldb_version_set.specs.Compactions.CompactionEdit.{IsCompactionEdit, SetsPointer, compaction_edit}
use Rattle.leveldb_version.specs.Edits.FullEdit.{files_after}
use Rattle.leveldb_files.specs.Levels.Levels.{LiveTable}
use Rattle.leveldb_version_set.specs.Sets.LogEdit.{written_edit}
use Rattle.leveldb_version_set.specs.Compactions.Picking.{CompactionValue, DeletesFiles, OnlyPoints}
use Rattle.leveldb_version.specs.Versions.Version.{VersionValue, new_files_of}
use Rattle.leveldb_files.specs.Edits.Edit.{Edit, Field, FieldFits, IsEncodable, LevelFile, LevelsFit, NewFile, Pointer, adds, deletes, empty_edit, file_order, last_sequence_is, log_is, next_file_is, points, previous_log_is}
use Rattle.leveldb_version.specs.Edits.VersionEdit.{edit_of, new_file_of}
use Rattle.leveldb_files.specs.Edits.VersionSet.{is_same_file, level_file}
use Rattle.leveldb_version_set.specs.Sets.VersionSetValue.{VersionSetValue}
use Rattle.leveldb_version.specs.declared.version_edit.VersionEdit.{VersionEdit}
use Rattle.leveldb_store.specs.Compactions.Compact.{AreReplacements, ReplacesFiles}
use Rattle.leveldb_store.specs.Keeping.OpenStore.{AreInLevels}

-- ---- the edit as it is made

-- files of a level, as an edit has them
with_level : (level : ℕ) (files : List FileMetaData)
    → map new_file_of (map (λ (file : FileMetaData). (level, file)) files)
    ≡ map (λ (file : FileMetaData). new_file_of (level, file)) files
with_level level [] = refl
with_level level (file ∷ files) = ap (λ fs. new_file_of (level, file) ∷ fs) (with_level level files)

-- an edit that sets pointers, then deletes files, names a log, and adds files
pub edit_made : (pointed : Edit) (deleted : List LevelFile) (taken numbered added : VersionEdit)
    (log level : ℕ) (files : List FileMetaData) → OnlyPoints pointed
    → edit_of taken ≡ record pointed { deleted = deleted }
    → numbered ≡ record taken { log_number = Some log }
    → added.new_files.items
    ≡ numbered.new_files.items ++ map (λ (file : FileMetaData). (level, file)) files
    → added ≡ record numbered { new_files = added.new_files }
    → edit_of added ≡ compaction_edit log pointed.pointers deleted
    (map (λ (file : FileMetaData). new_file_of (level, file)) files)
edit_made pointed deleted taken numbered added log level files only taken_is numbered_is items
    others =
    let With : Edit → List NewFile → Edit =
    λ e fs. record e { log_number = Some log; added = fs } in
    let plain : Edit = record empty_edit { pointers = pointed.pointers; deleted = deleted } in
    let Deleting : Edit → Edit = λ e. record e { deleted = deleted } in
    let is_plain : edit_of taken ≡ plain = taken_is ∙ ap Deleting only in
    let none : map new_file_of taken.new_files.items ≡ [] = ap (λ (e : Edit). e.added) is_plain in
    let all : map new_file_of added.new_files.items
    ≡ map (λ (file : FileMetaData). new_file_of (level, file)) files =
    ap (map new_file_of)
    (items ∙ ap (λ (e : VersionEdit). e.new_files.items
    ++ map (λ (file : FileMetaData). (level, file)) files) numbered_is)
    ∙ map-append new_file_of taken.new_files.items
    (map (λ (file : FileMetaData). (level, file)) files)
    ∙ ap (λ fs. fs ++ map new_file_of (map (λ (file : FileMetaData). (level, file)) files)) none
    ∙ with_level level files in
    let edit : edit_of added ≡ With (edit_of taken) (map new_file_of added.new_files.items) =
    ap edit_of others
    ∙ ap (λ (e : VersionEdit). edit_of (record e { new_files = added.new_files })) numbered_is in
    edit ∙ ap (λ e. With e (map new_file_of added.new_files.items)) is_plain ∙ ap (With plain) all

-- ---- that it can be written

fit_each : {A : Type 0} (make : A → Field) (values : List A)
    → ((value : A) → Contains values value → FieldFits (make value))
    → All FieldFits (map make values)
fit_each make [] fit = All-nil FieldFits
fit_each make (value ∷ values) fit =
    All-cons FieldFits (make value) (map make values) (fit value (in_front value values))
    (fit_each make values (λ other c. fit other (in_rest value other values c)))

-- where its numbers and levels fit and its deleted files are in order
pub compaction_encodable : (set : VersionSetValue) (log : ℕ) (pointers : List Pointer)
    (deleted : List LevelFile) (added : List NewFile) → log < 2 ^ 64 → set.next_file < 2 ^ 64
    → set.last_sequence < 2 ^ 64
    → ((pointer : Pointer) → Contains pointers pointer → pointer.level < 7)
    → ((at : LevelFile) → Contains deleted at → (at.0 < 7) × (at.1 < 2 ^ 64))
    → IsStrictlySortedBy file_order deleted
    → ((file : NewFile) → Contains added file → FieldFits (adds file))
    → IsEncodable (written_edit set (compaction_edit log pointers deleted added))
compaction_encodable set log pointers deleted added log_fits next_fits last_fits points_fit
    deletes_fit ordered adds_fit = record {
      fits = All-cons FieldFits (log_is log) (previous_log_is 0 ∷ next_file_is set.next_file
          ∷ last_sequence_is set.last_sequence
          ∷ (map points pointers ++ (map deletes deleted ++ map adds added))) log_fits
          (All-cons FieldFits (previous_log_is 0) (next_file_is set.next_file
          ∷ last_sequence_is set.last_sequence
          ∷ (map points pointers ++ (map deletes deleted ++ map adds added))) (omega arith)
          (All-cons FieldFits (next_file_is set.next_file) (last_sequence_is set.last_sequence
          ∷ (map points pointers ++ (map deletes deleted ++ map adds added))) next_fits
          (All-cons FieldFits (last_sequence_is set.last_sequence)
          (map points pointers ++ (map deletes deleted ++ map adds added)) last_fits
          (All-append FieldFits (map points pointers) (map deletes deleted ++ map adds added)
          (fit_each points pointers points_fit)
          (All-append FieldFits (map deletes deleted) (map adds added)
          (fit_each deletes deleted deletes_fit) (fit_each adds added adds_fit))))));
      ordered = ordered;
    }

-- ---- what it replaces

flips : (a b : LevelFile) → is_same_file a b ≡ is_same_file b a
flips a b = by (is_same_file a b) refl (is_same_file b a) refl
  where
    by : (x : Bool) → is_same_file a b ≡ x → (y : Bool) → is_same_file b a ≡ y → x ≡ y
    by true e true f = refl
    by false e false f = refl
    by true e false f = sym e ∙ not_same b a f
    by false e true f = sym (not_same a b e) ∙ f

module _ {C : Type 0} (cmp : List ℕ → List ℕ → Ordering) (it : CompactionValue C) (log : ℕ) where
  -- the files that the compaction takes, by others
  pub replaces_files : (deleted : List LevelFile) (files : List NewFile) → OnlyPoints it.edit
      → SetsPointer cmp it.level (new_files_of it.inputs) it.edit
      → DeletesFiles (new_files_of it.inputs) it.edit.deleted deleted
      → AreReplacements cmp it files
      → ReplacesFiles cmp log it (compaction_edit log it.edit.pointers deleted files)
  replaces_files deleted files only pointer takes fit =
      let none : it.edit.deleted ≡ [] = ap (λ (e : Edit). e.deleted) only in
      record {
        comparator = refl;
        log_number = refl;
        deleted = λ at. (
          λ c. ⊎_elim
              (λ (before : Contains it.edit.deleted at).
              absurd (in_none at (subst (λ d. Contains d at) none before)))
              (λ of. of) ((takes.deleted at).0 c),
          λ of. (takes.deleted at).1 (inr of),
        );
        added = fit;
        pointer = record {
          key = pointer.key;
          pointers = pointer.pointers;
          there = pointer.there;
          greatest = pointer.greatest;
        };
      }

  module _ (edit : Edit) (r : ReplacesFiles cmp log it edit) where
    -- it is the edit of a compaction of these tables
    pub is_compaction_edit : (inputs outputs : List LiveTable)
        → files_of_tables inputs ≡ new_files_of it.inputs → files_of_tables outputs ≡ edit.added
        → IsCompactionEdit log inputs outputs edit
    is_compaction_edit inputs outputs inputs_are outputs_are = record {
      comparator = r.comparator;
      log_number = r.log_number;
      deleted = λ at. (
        λ c. let of = (r.deleted at).0 c in
            let t = in_map (λ (table : LiveTable). table.file) inputs of.0
            (subst (λ fs. Contains fs of.0) (sym inputs_are) of.1) in
            (t.0, t.1, ap level_file t.2 ∙ of.2),
        λ of. (r.deleted at).1 (
          of.0.file,
          subst (λ fs. Contains fs of.0.file) inputs_are
              (map_in (λ (table : LiveTable). table.file) inputs of.0 of.1),
          of.2,
        ),
      );
      added = λ file. (
        λ c. in_map (λ (table : LiveTable). table.file) outputs file
            (subst (λ fs. Contains fs file) (sym outputs_are) c),
        λ of. subst (λ fs. Contains fs file) outputs_are
            (subst (Contains (files_of_tables outputs)) of.2
            (map_in (λ (table : LiveTable). table.file) outputs of.0 of.1)),
      );
    }

    -- each level that it names is one of the seven
    pub compaction_levels : (files : List NewFile)
        → MayCompact cmp files it.level (new_files_of it.inputs) → LevelsFit edit
    compaction_levels files may = record {
      pointers = subst (All (λ (p : Pointer). p.level < 7)) (sym r.pointer.pointers)
          (All-cons (λ (p : Pointer). p.level < 7)
          (record { level = it.level; key = r.pointer.key }) [] (omega (arith, may.shallow))
          (All-nil (λ (p : Pointer). p.level < 7)));
      deleted = all_from_contains (λ (at : LevelFile). at.0 < 7) edit.deleted (λ at c.
          let of = (r.deleted at).0 c in
          let level : of.0.level ≡ at.0 = ap (λ (one : LevelFile). one.0) of.2 in
          ⊎_elim (λ here. omega (arith, level, here, may.shallow))
          (λ below. omega (arith, level, below, may.shallow)) (may.levels of.0 of.1));
      added = all_from_contains (λ (file : NewFile). file.level < 7) edit.added (λ file c.
          omega (arith, (r.added.within file c).0, may.shallow));
    }

    -- the files of a set stay in levels, where a version has the same
    pub compaction_keeps_levels : (models_disk : Bool) → IsTotalOrder cmp
        → (files : List NewFile) (current : VersionValue C)
        → IsPermutation files (new_files_of current)
        → MayCompact cmp (new_files_of current) it.level (new_files_of it.inputs)
        → AreInLevels models_disk cmp files → AreInLevels models_disk cmp (files_after edit files)
    compaction_keeps_levels models_disk total files current same may levels = record {
      apart = edited_files_stay_apart cmp total it.level files (new_files_of it.inputs) edit
          levels.apart may_here (λ file c. (r.deleted (level_file file)).1 (file, c, refl))
          r.added.within r.added.apart;
      once = (files_are_edited edit files).once levels.once;
      ordered = λ file c. ⊎_elim
          (λ (new : Contains edit.added file). (r.added.within file new).1.ordered)
          (λ (was : Contains files file × ((at : LevelFile) → Contains edit.deleted at
          → is_same_file (level_file file) at ≡ false)). levels.ordered file was.0)
          ((files_are_edited edit files).among file c);
      seven = λ modelled. all_from_contains (λ (file : NewFile). file.level < 7)
          (files_after edit files) (λ file c. ⊎_elim
          (λ (new : Contains edit.added file).
          omega (arith, (r.added.within file new).0, may.shallow))
          (λ (was : Contains files file × ((at : LevelFile) → Contains edit.deleted at
          → is_same_file (level_file file) at ≡ false)).
          All-contains (λ (one : NewFile). one.level < 7) files file (levels.seven modelled) was.0)
          ((files_are_edited edit files).among file c));
    }
      where
        may_here : MayCompact cmp files it.level (new_files_of it.inputs)
        may_here = choices_go_by_sets cmp it.level (new_files_of current) files
            (new_files_of it.inputs) (new_files_of it.inputs)
            (λ file. (
              Contains-permutation (new_files_of current) files file
                  (IsPermutation-sym files (new_files_of current) same),
              Contains-permutation files (new_files_of current) file same,
            ))
            (λ file. (λ c. c, λ c. c))
            (λ once. may.once (IsDistinct-IsPermutation is_same_file flips (map level_file files)
            (map level_file (new_files_of current))
            (IsPermutation-map level_file files (new_files_of current) same) once)) may
