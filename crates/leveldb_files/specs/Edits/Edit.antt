-- A version edit: what a record of the manifest changes in a store's files, and the bytes that
-- encode it.
use Rattle.std.specs.Prelude.{◌≡◌, ℕ, ◌^◌, ◌<◌, List, [], ◌∷◌, ◌++◌, flat_map, fold, map, Option, Some, None, IsUtf8, All}
use Rattle.std.specs.declared.cmp.Ordering.{Ordering}
use Rattle.std.specs.List.{filter_map, last_or}
use Rattle.std.specs.List.Sorted.{IsStrictlySortedBy}
use Rattle.std.specs.Option.{option_to_list}
use Rattle.std.specs.Ordering.{ordering_then, nat_cmp}
use Rattle.std.specs.BTreeSet.{insert_key}
use Rattle.leveldb_base.specs.Varint.{varint, sized}

-- ---- what an edit says

-- a file of a level: the level, and the file's number
abbrev pub LevelFile : Type 0
LevelFile = ℕ × ℕ

-- a compaction pointer: the internal key after which a level's next compaction begins
pub record Pointer : Type 0 where
  pub level : ℕ
  pub key : List ℕ

-- a file that a level gains: its number, its size, and the first and the last of its internal keys
pub record NewFile : Type 0 where
  pub level : ℕ
  pub number : ℕ
  pub size : ℕ
  pub smallest : List ℕ
  pub largest : List ℕ

-- The single values that an edit sets, and what it changes in levels. Deleted files are in order of
-- level and then number, each once.
pub record Edit : Type 0 where
  pub comparator : Option (List ℕ)
  pub log_number : Option ℕ
  pub previous_log : Option ℕ
  pub next_file : Option ℕ
  pub last_sequence : Option ℕ
  pub pointers : List Pointer
  pub deleted : List LevelFile
  pub added : List NewFile

-- nothing is set, and no level changes
abbrev pub empty_edit : Edit
empty_edit = record {
  comparator = None;
  log_number = None;
  previous_log = None;
  next_file = None;
  last_sequence = None;
  pointers = [];
  deleted = [];
  added = [];
}

-- ---- fields

-- a field of an edit: one value that it sets, or one pointer or file that it changes
pub data Field : Type 0 where
  comparator_is : List ℕ → Field
  log_is : ℕ → Field
  previous_log_is : ℕ → Field
  next_file_is : ℕ → Field
  last_sequence_is : ℕ → Field
  points : Pointer → Field
  deletes : LevelFile → Field
  adds : NewFile → Field

-- a new file as bytes, without its tag
abbrev pub file_bytes : NewFile → List ℕ
file_bytes it =
    varint it.level
    ++ (varint it.number ++ (varint it.size ++ (sized it.smallest ++ sized it.largest)))

-- a field as bytes: its tag, and after it the parts of its value
abbrev pub field_bytes : Field → List ℕ
field_bytes (comparator_is name) = 1 ∷ sized name
field_bytes (log_is number) = 2 ∷ varint number
field_bytes (next_file_is number) = 3 ∷ varint number
field_bytes (last_sequence_is number) = 4 ∷ varint number
field_bytes (points it) = 5 ∷ (varint it.level ++ sized it.key)
field_bytes (deletes it) = 6 ∷ (varint it.0 ++ varint it.1)
field_bytes (adds it) = 7 ∷ file_bytes it
field_bytes (previous_log_is number) = 9 ∷ varint number

-- the fields of one kind for these values, as bytes
abbrev pub bytes_of_each : {A : Type 0} → (A → Field) → List A → List ℕ
bytes_of_each make values = flat_map field_bytes (map make values)

-- what a field may hold: a name that is text, numbers of 64 bits, and one of seven levels
abbrev pub FieldFits : Field → Type 0
FieldFits (comparator_is name) = IsUtf8 name
FieldFits (log_is number) = number < 2 ^ 64
FieldFits (previous_log_is number) = number < 2 ^ 64
FieldFits (next_file_is number) = number < 2 ^ 64
FieldFits (last_sequence_is number) = number < 2 ^ 64
FieldFits (points it) = it.level < 7
FieldFits (deletes it) = (it.0 < 7) × (it.1 < 2 ^ 64)
FieldFits (adds it) = (it.level < 7) × (it.number < 2 ^ 64) × (it.size < 2 ^ 64)

-- ---- the value that a field gives, if it is a field of this kind

-- the comparator's name in a field, if the field has one
abbrev pub comparator_in : Field → Option (List ℕ)
comparator_in (comparator_is name) = Some name
comparator_in _ = None

-- the log's number in a field, if the field has one
abbrev pub log_in : Field → Option ℕ
log_in (log_is number) = Some number
log_in _ = None

-- the previous log's number in a field, if the field has one
abbrev pub previous_log_in : Field → Option ℕ
previous_log_in (previous_log_is number) = Some number
previous_log_in _ = None

-- the next file's number in a field, if the field has one
abbrev pub next_file_in : Field → Option ℕ
next_file_in (next_file_is number) = Some number
next_file_in _ = None

-- the last sequence number in a field, if the field has one
abbrev pub last_sequence_in : Field → Option ℕ
last_sequence_in (last_sequence_is number) = Some number
last_sequence_in _ = None

-- the compaction pointer in a field, if the field has one
abbrev pub pointer_in : Field → Option Pointer
pointer_in (points it) = Some it
pointer_in _ = None

-- the deleted file in a field, if the field has one
abbrev pub deleted_in : Field → Option LevelFile
deleted_in (deletes it) = Some it
deleted_in _ = None

-- the added file in a field, if the field has one
abbrev pub added_in : Field → Option NewFile
added_in (adds it) = Some it
added_in _ = None

-- ---- the edit that fields make

-- of several values the last
abbrev pub last_value : {A : Type 0} → (Field → Option A) → List Field → Option A
last_value value fields = last_or None (filter_map value fields)

-- the order of files: by level, and in a level by number
abbrev pub file_order : LevelFile → LevelFile → Ordering
file_order a b = ordering_then (nat_cmp a.0 b.0) (nat_cmp a.1 b.1)

-- the files in order, each once
abbrev pub files_in_order : List LevelFile → List LevelFile
files_in_order files = fold (insert_key file_order) [] files

-- the edit that these fields make
unfoldable pub edit_of_fields : List Field → Edit
edit_of_fields fields = record {
  comparator = last_value comparator_in fields;
  log_number = last_value log_in fields;
  previous_log = last_value previous_log_in fields;
  next_file = last_value next_file_in fields;
  last_sequence = last_value last_sequence_in fields;
  pointers = filter_map pointer_in fields;
  deleted = files_in_order (filter_map deleted_in fields);
  added = filter_map added_in fields;
}

-- the edit after one more field
abbrev pub with_field : Edit → Field → Edit
with_field edit (comparator_is name) = record edit { comparator = Some name }
with_field edit (log_is number) = record edit { log_number = Some number }
with_field edit (previous_log_is number) = record edit { previous_log = Some number }
with_field edit (next_file_is number) = record edit { next_file = Some number }
with_field edit (last_sequence_is number) = record edit { last_sequence = Some number }
with_field edit (points it) = record edit { pointers = edit.pointers ++ it ∷ [] }
with_field edit (deletes it) = record edit { deleted = insert_key file_order edit.deleted it }
with_field edit (adds it) = record edit { added = edit.added ++ it ∷ [] }

-- the bytes encode the edit: they are fields in any order, one after the other, that make it
pub record IsEdit (bytes : List ℕ) (edit : Edit) : Type 0 where
  pub fields : List Field
  pub encoded : bytes ≡ flat_map field_bytes fields
  pub fits : All FieldFits fields
  pub made : edit ≡ edit_of_fields fields

-- ---- what is written

-- the fields in the one order in which they are written
abbrev pub fields_of : Edit → List Field
fields_of edit =
    map comparator_is (option_to_list edit.comparator)
    ++ (map log_is (option_to_list edit.log_number)
    ++ (map previous_log_is (option_to_list edit.previous_log)
    ++ (map next_file_is (option_to_list edit.next_file)
    ++ (map last_sequence_is (option_to_list edit.last_sequence)
    ++ (map points edit.pointers
    ++ (map deletes edit.deleted
    ++ map adds edit.added))))))

-- the bytes that are written for an edit
unfoldable pub edit_bytes : Edit → List ℕ
edit_bytes edit = flat_map field_bytes (fields_of edit)

-- the edit can be written and read: its fields fit, and its deleted files are in order
pub record IsEncodable (edit : Edit) : Type 0 where
  pub fits : All FieldFits (fields_of edit)
  pub ordered : IsStrictlySortedBy file_order edit.deleted

-- each level that the edit names is one of the seven
pub record LevelsFit (edit : Edit) : Type 0 where
  pub pointers : All (λ it. it.level < 7) edit.pointers
  pub deleted : All (λ it. it.0 < 7) edit.deleted
  pub added : All (λ it. it.level < 7) edit.added
