-- Reading an edit's fields one by one.
use Rattle.std.specs.Prelude.{◌≡◌, ℕ, List, [], ◌∷◌, ◌++◌, Option, Some, None}
use Rattle.std.specs.Borrow.{Bor}
use Rattle.leveldb_base.specs.declared.types.FileMetaData.{FileMetaData}
use Rattle.leveldb_files.specs.Edits.Edit.{Field, comparator_is, log_is, previous_log_is, next_file_is, last_sequence_is, points, deletes, adds}
use Rattle.leveldb_version.specs.declared.version_edit.fields.BorrowedField.{BorrowedField}
use Rattle.leveldb_version.specs.declared.version_edit.fields.BorrowedField.TheVariants.{Comparator, LogNumber, NextFileNumber, LastSequence, CompactPointer, DeletedFile, NewFile, PrevLogNumber}

-- What reading a value at the front of some bytes gives: one that fits and what follows its
-- encoding, or nothing where no encoding of such a value is a prefix of the bytes.
abbrev pub ReadsFront : {A : Type 0} → (A → Type 0) → (A → List ℕ) → List ℕ
    → Option (A × List ℕ) → Type 0
ReadsFront Fits encode bytes (Some (value, rest)) = Fits value × (bytes ≡ encode value ++ rest)
ReadsFront {A} Fits encode bytes None =
    (value : A) (rest : List ℕ) → Fits value → bytes ≡ encode value ++ rest → ⊥

-- a value, and the borrowed bytes after it
abbrev pub with_rest : {A : Type 0} → Option (A × Bor (List ℕ)) → Option (A × List ℕ)
with_rest None = None
with_rest (Some read) = Some (read.0, read.1.now)

-- the field of one whose texts are borrowed
abbrev pub field_of : BorrowedField → Field
field_of (Comparator name) = comparator_is name.now
field_of (LogNumber number) = log_is number
field_of (NextFileNumber number) = next_file_is number
field_of (LastSequence number) = last_sequence_is number
field_of (CompactPointer level key) = points (record { level = level; key = key.now })
field_of (DeletedFile level number) = deletes (level, number)
field_of (NewFile level number size smallest largest) = adds (record {
  level = level;
  number = number;
  size = size;
  smallest = smallest.now;
  largest = largest.now;
})
field_of (PrevLogNumber number) = previous_log_is number

-- the files that such a field adds: one that may take no seeks, or none
abbrev pub files_in : BorrowedField → List (ℕ × FileMetaData)
files_in (NewFile level number size smallest largest) = (
  level,
  record {
    allowed_seeks = 0;
    num = number;
    size = size;
    smallest = smallest.now;
    largest = largest.now;
  },
) ∷ []
files_in _ = []

-- such a field, and the borrowed bytes after it
abbrev pub field_with_rest : Option (BorrowedField × Bor (List ℕ)) → Option (Field × List ℕ)
field_with_rest None = None
field_with_rest (Some read) = Some (field_of read.0, read.1.now)
