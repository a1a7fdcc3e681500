-- The levels of files whose edits were read.
use Rattle.std.specs.Prelude.{All, IfSome, fold}
use Rattle.std.proofs.Common.{◌≡◌, ◌<◌, ◌++◌, ◌∷◌, ⊎_elim, ℕ, Bool, List, [], Option, None, Some, subst, sym}
use Rattle.std.proofs.lemmas.List.Elements.{All-append, All-cons, All-filter, All-head, All-nil, All-tail}
use Rattle.std.specs.List.{cons_option, filter, filter_map}
use Rattle.std.proofs.Common.{not}
use Rattle.leveldb_files.specs.Stores.Batches.{Each}
use Rattle.leveldb_version.specs.Edits.FullEdit.{files_after, files_with, files_without, full_after}
use Rattle.leveldb_files.specs.Edits.Edit.{Edit, Field, FieldFits, IsEdit, LevelFile, NewFile, added_in, adds, comparator_is, deletes, edit_of_fields, empty_edit, last_sequence_is, log_is, next_file_is, points, previous_log_is}
use Rattle.leveldb_files.specs.Edits.VersionSet.{is_same_file, level_file}

-- one of the seven levels
abbrev IsInSeven : NewFile → Type 0
IsInSeven file = file.level < 7

field_in_seven : (field : Field) → FieldFits field → IfSome (added_in field) IsInSeven
field_in_seven (comparator_is name) fits = tt
field_in_seven (log_is n) fits = tt
field_in_seven (previous_log_is n) fits = tt
field_in_seven (next_file_is n) fits = tt
field_in_seven (last_sequence_is n) fits = tt
field_in_seven (points it) fits = tt
field_in_seven (deletes it) fits = tt
field_in_seven (adds it) fits = fits.0

cons_in_seven : (o : Option NewFile) (files : List NewFile) → IfSome o IsInSeven
    → All IsInSeven files → All IsInSeven (cons_option o files)
cons_in_seven None files one all = all
cons_in_seven (Some file) files one all = All-cons IsInSeven file files one all

fields_in_seven : (fields : List Field) → All FieldFits fields
    → All IsInSeven (filter_map added_in fields)
fields_in_seven [] all = All-nil IsInSeven
fields_in_seven (field ∷ fields) all =
    cons_in_seven (added_in field) (filter_map added_in fields)
    (field_in_seven field (All-head FieldFits field fields all))
    (fields_in_seven fields (All-tail FieldFits field fields all))

-- those that an edit adds which was read
added_in_seven : (bytes : List ℕ) (edit : Edit) → IsEdit bytes edit → All IsInSeven edit.added
unfolding edit_of_fields
added_in_seven bytes edit is = subst (λ (e : Edit). All IsInSeven e.added) (sym is.made)
    (fields_in_seven is.fields is.fits)

without_in_seven : (deleted : List LevelFile) (files : List NewFile) → All IsInSeven files
    → All IsInSeven (fold files_without files deleted)
without_in_seven [] files all = all
without_in_seven (at ∷ deleted) files all = without_in_seven deleted (files_without files at)
    (All-filter (λ it. not (is_same_file (level_file it) at)) IsInSeven files all)

with_in_seven : (added files : List NewFile) → All IsInSeven files → All IsInSeven added
    → All IsInSeven (fold files_with files added)
with_in_seven [] files all more = all
with_in_seven (file ∷ added) files all more =
    let keeps : NewFile → Bool = λ it. not (is_same_file (level_file it) (level_file file)) in
    with_in_seven added (files_with files file)
    (All-append IsInSeven (filter keeps files) (file ∷ []) (All-filter keeps IsInSeven files all)
    (All-cons IsInSeven file [] (All-head IsInSeven file added more) (All-nil IsInSeven)))
    (All-tail IsInSeven file added more)

each_in_seven : (records : List (List ℕ)) (edits : List Edit) (full : Edit)
    → Each IsEdit records edits → All IsInSeven full.added
    → All IsInSeven (fold full_after full edits).added
each_in_seven [] [] full each all = all
each_in_seven (bytes ∷ records) (edit ∷ edits) full each all =
    each_in_seven records edits (full_after full edit) each.1
    (with_in_seven edit.added (fold files_without full.added edit.deleted)
    (without_in_seven edit.deleted full.added all) (added_in_seven bytes edit each.0))
each_in_seven [] (edit ∷ edits) full each all = absurd each
each_in_seven (bytes ∷ records) [] full each all = absurd each

-- the live files of edits that were read
pub read_levels : (records : List (List ℕ)) (edits : List Edit) → Each IsEdit records edits
    → All (λ (file : NewFile). file.level < 7) (fold full_after empty_edit edits).added
read_levels records edits each = each_in_seven records edits empty_edit each (All-nil IsInSeven)
