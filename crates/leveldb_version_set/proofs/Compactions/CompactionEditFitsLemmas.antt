-- The edit of a compaction can be written, and its record is bytes.
use Rattle.leveldb_base.proofs.VarintLemmas.{All-sized, All-varint}
use Rattle.leveldb_base.proofs.HistoryLemmas.{in_front, in_rest}
use Rattle.leveldb_base.specs.Varint.{sized, varint}
use Rattle.leveldb_env.specs.Env.{AreBytes}
use Rattle.leveldb_version_set.proofs.Sets.EditRecordLemmas.{AreSmall, are_bytes, are_small, both_small, file_small, tagged_small}
use Rattle.leveldb_version_set.specs.Compactions.CompactionEdit.{CompactionEditsFit}
use Rattle.leveldb_files.specs.Edits.Edit.{Field, FieldFits, LevelFile, NewFile, Pointer, adds, deletes, edit_bytes, field_bytes, last_sequence_is, log_is, next_file_is, points, previous_log_is}
use Rattle.leveldb_version_set.specs.Sets.VersionSetValue.{VersionSetValue}
use Rattle.std.proofs.Common.{◌++◌, ◌<◌, ◌^◌, ◌∷◌, List, [], subst, sym, arith, map, ℕ}
use Rattle.std.proofs.lemmas.List.Concat.{flat_map-append}
use Rattle.std.proofs.lemmas.List.Elements.{All-append, All-cons, All-nil}
use Rattle.std.specs.Prelude.{All, Contains, flat_map}

-- a tag, and bytes after it
tagged : (tag : ℕ) (bytes : List ℕ) → tag < 256 → AreSmall bytes → AreSmall (tag ∷ bytes)
tagged tag bytes small are = All-cons (λ (x : ℕ). x < 256) tag bytes small are

key_small : (key : List ℕ) → AreBytes key → AreSmall (sized key)
key_small key are = All-sized key (are_small key are)

-- ---- fields

-- the bytes of fields that are made of values, where those of each are bytes
all_small : {A : Type 0} (make : A → Field) (values : List A)
    → ((value : A) → Contains values value → AreSmall (field_bytes (make value)))
    → AreSmall (flat_map field_bytes (map make values))
all_small make [] are = All-nil (λ (x : ℕ). x < 256)
all_small make (value ∷ values) are =
    both_small (field_bytes (make value)) (flat_map field_bytes (map make values))
    (are value (in_front value values))
    (all_small make values (λ other c. are other (in_rest value other values c)))

all_fit_in : {A : Type 0} (make : A → Field) (values : List A)
    → ((value : A) → Contains values value → FieldFits (make value))
    → All FieldFits (map make values)
all_fit_in make [] fit = All-nil FieldFits
all_fit_in make (value ∷ values) fit =
    All-cons FieldFits (make value) (map make values) (fit value (in_front value values))
    (all_fit_in make values (λ other c. fit other (in_rest value other values c)))

small_in_row : (these those : List Field) → AreSmall (flat_map field_bytes these)
    → AreSmall (flat_map field_bytes those) → AreSmall (flat_map field_bytes (these ++ those))
small_in_row these those first second =
    subst AreSmall (sym (flat_map-append field_bytes these those))
    (both_small (flat_map field_bytes these) (flat_map field_bytes those) first second)

module _ (set : VersionSetValue) (log : ℕ) (pointers : List Pointer) (deleted : List LevelFile)
    (added : List NewFile) where
  abbrev files : List Field
  files = map points pointers ++ (map deletes deleted ++ map adds added)

  abbrev fields : List Field
  fields = log_is log ∷ previous_log_is 0 ∷ next_file_is set.next_file
      ∷ last_sequence_is set.last_sequence ∷ files

  all_fields_fit : log < 2 ^ 64 → set.next_file < 2 ^ 64 → set.last_sequence < 2 ^ 64
      → All FieldFits files → All FieldFits fields
  all_fields_fit log_fits next_fits last_fits fit =
      All-cons FieldFits (log_is log) (previous_log_is 0 ∷ next_file_is set.next_file
      ∷ last_sequence_is set.last_sequence ∷ files) log_fits
      (All-cons FieldFits (previous_log_is 0) (next_file_is set.next_file
      ∷ last_sequence_is set.last_sequence ∷ files) (omega arith)
      (All-cons FieldFits (next_file_is set.next_file) (last_sequence_is set.last_sequence
      ∷ files) next_fits
      (All-cons FieldFits (last_sequence_is set.last_sequence) files last_fits fit)))

  all_fields_small : AreSmall (flat_map field_bytes files) → AreSmall (flat_map field_bytes fields)
  all_fields_small small =
      both_small (2 ∷ varint log) (flat_map field_bytes (previous_log_is 0
      ∷ next_file_is set.next_file ∷ last_sequence_is set.last_sequence ∷ files))
      (tagged_small 2 log (omega arith))
      (both_small (9 ∷ varint 0) (flat_map field_bytes (next_file_is set.next_file
      ∷ last_sequence_is set.last_sequence ∷ files))
      (tagged_small 9 0 (omega arith))
      (both_small (3 ∷ varint set.next_file) (flat_map field_bytes
      (last_sequence_is set.last_sequence ∷ files))
      (tagged_small 3 set.next_file (omega arith))
      (both_small (4 ∷ varint set.last_sequence) (flat_map field_bytes files)
      (tagged_small 4 set.last_sequence (omega arith)) small)))

pub compaction_edits_fit : CompactionEditsFit
unfolding edit_bytes
compaction_edits_fit set log pointers deleted added log_fits next_fits last_fits points_fit
    deletes_fit ordered adds_fit = (
      record {
        fits = all_fields_fit set log pointers deleted added log_fits next_fits last_fits
            (All-append FieldFits (map points pointers) (map deletes deleted ++ map adds added)
            (all_fit_in points pointers (λ p c. (points_fit p c).0))
            (All-append FieldFits (map deletes deleted) (map adds added)
            (all_fit_in deletes deleted deletes_fit)
            (all_fit_in adds added (λ file c. (adds_fit file c).0))));
        ordered = ordered;
      },
      are_bytes (flat_map field_bytes (fields set log pointers deleted added))
          (all_fields_small set log pointers deleted added
          (small_in_row (map points pointers) (map deletes deleted ++ map adds added)
          (all_small points pointers (λ p c.
          tagged 5 (varint p.level ++ sized p.key) (omega arith)
          (both_small (varint p.level) (sized p.key) (All-varint p.level)
          (key_small p.key (points_fit p c).1))))
          (small_in_row (map deletes deleted) (map adds added)
          (all_small deletes deleted (λ at c.
          tagged 6 (varint at.0 ++ varint at.1) (omega arith)
          (both_small (varint at.0) (varint at.1) (All-varint at.0) (All-varint at.1))))
          (all_small adds added (λ file c. let keys = adds_fit file c in
          file_small file keys.1 keys.2))))),
    )
