-- The edit that adds tables can be written, and its record are bytes.
use Rattle.leveldb_base.proofs.VarintLemmas.{All-sized, All-varint}
use Rattle.leveldb_base.proofs.HistoryLemmas.{in_front, in_rest}
use Rattle.leveldb_base.specs.Varint.{sized, varint}
use Rattle.leveldb_env.specs.Env.{AreBytes}
use Rattle.leveldb_version_set.specs.Sets.LogEdit.{edit_record, written_edit}
use Rattle.leveldb_files.specs.Edits.Edit.{Edit, Field, FieldFits, IsEncodable, NewFile, adds, edit_bytes, field_bytes, file_bytes, file_order, last_sequence_is, log_is, next_file_is, previous_log_is}
use Rattle.leveldb_version_set.specs.Sets.VersionSetValue.{VersionSetValue}
use Rattle.leveldb_version_set.specs.Engines.Opening.{tables_edit}
use Rattle.std.proofs.Common.{◌++◌, ◌<◌, ◌^◌, ◌∷◌, List, [], arith, map, suc, zero, ℕ}
use Rattle.std.proofs.lemmas.List.Elements.{All-append, All-cons, All-from_recursion, All-head, All-nil, All-tail}
use Rattle.std.specs.List.Sorted.{IsStrictlySortedBy}
use Rattle.std.specs.List.{AllByRecursion}
use Rattle.std.specs.Prelude.{All, Contains, flat_map}

-- ---- bytes

abbrev pub AreSmall : List ℕ → Type 0
AreSmall bytes = All (λ (b : ℕ). b < 256) bytes

pub are_bytes : (bytes : List ℕ) → AreSmall bytes → AreBytes bytes
are_bytes [] small i = omega arith
are_bytes (b ∷ bytes) small zero = All-head (λ (x : ℕ). x < 256) b bytes small
are_bytes (b ∷ bytes) small (suc i) =
    are_bytes bytes (All-tail (λ (x : ℕ). x < 256) b bytes small) i

pub are_small : (bytes : List ℕ) → AreBytes bytes → AreSmall bytes
are_small [] are = All-nil (λ (x : ℕ). x < 256)
are_small (b ∷ bytes) are =
    All-cons (λ (x : ℕ). x < 256) b bytes (are zero) (are_small bytes (λ i. are (suc i)))

pub both_small : (these those : List ℕ) → AreSmall these → AreSmall those
    → AreSmall (these ++ those)
both_small = All-append (λ (x : ℕ). x < 256)

-- a tag, and a number after it
pub tagged_small : (tag n : ℕ) → tag < 256 → AreSmall (tag ∷ varint n)
tagged_small tag n small = All-cons (λ (x : ℕ). x < 256) tag (varint n) small (All-varint n)

pub file_small : (file : NewFile) → AreBytes file.smallest → AreBytes file.largest
    → AreSmall (field_bytes (adds file))
file_small file first last = All-cons (λ (x : ℕ). x < 256) 7 (file_bytes file) (omega arith)
    (both_small (varint file.level)
    (varint file.number ++ (varint file.size ++ (sized file.smallest ++ sized file.largest)))
    (All-varint file.level)
    (both_small (varint file.number)
    (varint file.size ++ (sized file.smallest ++ sized file.largest)) (All-varint file.number)
    (both_small (varint file.size) (sized file.smallest ++ sized file.largest)
    (All-varint file.size)
    (both_small (sized file.smallest) (sized file.largest)
    (All-sized file.smallest (are_small file.smallest first))
    (All-sized file.largest (are_small file.largest last))))))

fields_small : (fields : List Field) → AllByRecursion (λ field. AreSmall (field_bytes field)) fields
    → AreSmall (flat_map field_bytes fields)
fields_small [] small = All-nil (λ (x : ℕ). x < 256)
fields_small (field ∷ fields) small =
    both_small (field_bytes field) (flat_map field_bytes fields) small.0
    (fields_small fields small.1)

none_sorted : IsStrictlySortedBy file_order []
unfolding IsStrictlySortedBy
none_sorted = tt

-- ---- the edit of tables

-- a file may be written into an edit
all_fit : (files : List NewFile) → ((file : NewFile) → Contains files file → FieldFits (adds file))
    → AllByRecursion FieldFits (map adds files)
all_fit [] fit = tt
all_fit (file ∷ files) fit = (
  fit file (in_front file files),
  all_fit files (λ other c. fit other (in_rest file other files c)),
)

-- the two keys of a file are bytes
abbrev pub KeysAreBytes : NewFile → Type 0
KeysAreBytes file = AreBytes file.smallest × AreBytes file.largest

all_small : (files : List NewFile)
    → ((file : NewFile) → Contains files file → KeysAreBytes file)
    → AllByRecursion (λ field. AreSmall (field_bytes field)) (map adds files)
all_small [] are = tt
all_small (file ∷ files) are =
    let keys = are file (in_front file files) in (
      file_small file keys.0 keys.1,
      all_small files (λ other c. are other (in_rest file other files c)),
    )

module _ (set : VersionSetValue) (log : ℕ) (files : List NewFile) where
  abbrev edit : Edit
  edit = written_edit set (tables_edit log files)

  abbrev fields : List Field
  fields = log_is log ∷ previous_log_is 0 ∷ next_file_is set.next_file
      ∷ last_sequence_is set.last_sequence ∷ map adds files

  pub tables_edit_fits : log < 2 ^ 64 → set.next_file < 2 ^ 64 → set.last_sequence < 2 ^ 64
      → ((file : NewFile) → Contains files file → FieldFits (adds file)) → IsEncodable edit
  tables_edit_fits log_fits next_fits last_fits fit = record {
    fits = All-from_recursion FieldFits fields
        (log_fits, (omega arith, (next_fits, (last_fits, all_fit files fit))));
    ordered = none_sorted;
  }

  pub tables_record_bytes : ((file : NewFile) → Contains files file → KeysAreBytes file)
      → AreBytes (edit_record set (tables_edit log files))
  unfolding edit_bytes
  tables_record_bytes are = are_bytes (flat_map field_bytes fields)
      (fields_small fields (
        tagged_small 2 log (omega arith),
        (
          tagged_small 9 0 (omega arith),
          (
            tagged_small 3 set.next_file (omega arith),
            (tagged_small 4 set.last_sequence (omega arith), all_small files are),
          ),
        ),
      ))
