-- What an open store's set says of its live tables, as walks over them ask for it.
use Rattle.std.specs.Prelude.{All, Contains}
use Rattle.std.proofs.Common.{◌≡◌, ℕ, ◌<◌, ◌^◌, List, ◌++◌, map, subst, sym}
use Rattle.std.proofs.lemmas.List.Elements.{All-contains, Contains-append_right}
use Rattle.std.specs.List.{IsDistinct}
use Rattle.std.specs.Option.{option_to_list}
use Rattle.leveldb_base.proofs.EntriesLemmas.{map_in}
use Rattle.leveldb_version.proofs.Versions.SearchLemmas.{all_from_contains}
use Rattle.leveldb_files.specs.Levels.Levels.{LiveTable}
use Rattle.leveldb_files.specs.Edits.Edit.{Edit, FieldFits, IsEncodable, NewFile, adds, comparator_is, deletes, fields_of, last_sequence_is, log_is, next_file_is, points, previous_log_is}
use Rattle.leveldb_files.specs.Edits.VersionSet.{FileSet, IsFullEdit, is_same_file, level_file}

-- the tables of one edit of all live files are there once
pub tables_once : (set : FileSet) (full : Edit) → IsFullEdit set full → (tables : List LiveTable) → map (λ (table : LiveTable). table.file) tables ≡ full.added
    → IsDistinct is_same_file (map level_file (map (λ table. table.file) tables))
tables_once set full is tables files = subst (λ (added : List NewFile). IsDistinct is_same_file (map level_file added)) (sym files) is.added.once

-- the files that an edit adds are its last fields
added_in : (full : Edit) (file : NewFile) → Contains full.added file → Contains (fields_of full) (adds file)
added_in full file c =
    let names = map comparator_is (option_to_list full.comparator) in
    let logs = map log_is (option_to_list full.log_number) in
    let before = map previous_log_is (option_to_list full.previous_log) in
    let nexts = map next_file_is (option_to_list full.next_file) in
    let lasts = map last_sequence_is (option_to_list full.last_sequence) in
    let pointing = map points full.pointers in
    let deleting = map deletes full.deleted in
    let adding = map adds full.added in
    Contains-append_right names (logs ++ (before ++ (nexts ++ (lasts ++ (pointing ++ (deleting ++ adding)))))) (adds file)
    (Contains-append_right logs (before ++ (nexts ++ (lasts ++ (pointing ++ (deleting ++ adding))))) (adds file)
    (Contains-append_right before (nexts ++ (lasts ++ (pointing ++ (deleting ++ adding)))) (adds file)
    (Contains-append_right nexts (lasts ++ (pointing ++ (deleting ++ adding))) (adds file)
    (Contains-append_right lasts (pointing ++ (deleting ++ adding)) (adds file)
    (Contains-append_right pointing (deleting ++ adding) (adds file)
    (Contains-append_right deleting adding (adds file) (map_in (λ (it : NewFile). adds it) full.added file c)))))))

added_fits : (full : Edit) → IsEncodable full → (file : NewFile) → Contains full.added file → FieldFits (adds file)
added_fits full is file c = All-contains FieldFits (fields_of full) (adds file) is.fits (added_in full file c)

-- and where the edit can be written, their levels, numbers and sizes fit, and numbers below a bound
-- are below it
pub tables_fit : (full : Edit) → IsEncodable full → (tables : List LiveTable) → map (λ (table : LiveTable). table.file) tables ≡ full.added
    → (below : ℕ) → ((file : NewFile) → Contains full.added file → file.number < below)
    → All (λ (table : LiveTable). (table.file.level < 7) × (table.file.number < 2 ^ 64) × (table.file.size < 2 ^ 64) × (table.file.number < below)) tables
tables_fit full is tables files below given = all_from_contains (λ (table : LiveTable). (table.file.level < 7) × (table.file.number < 2 ^ 64) × (table.file.size < 2 ^ 64) × (table.file.number < below)) tables
    (λ table c. (let there = subst (λ (added : List NewFile). Contains added table.file) files (map_in (λ (one : LiveTable). one.file) tables table c) in
    let fits = added_fits full is table.file there in (fits.0, fits.1, fits.2, given table.file there)))
