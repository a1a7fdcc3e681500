-- What reading and putting the fields of an edit, one after the other, makes.
use Rattle.std.proofs.Common.{◌≡◌, ℕ, List, [], ◌∷◌, ◌++◌, length, flat_map, map, Option, Some, None, refl, sym, ◌∙◌, ap, subst, arith, append_assoc, length-append, ◌<◌, ◌^◌, IfSome, IsUtf8, ◌+◌, take, get_or}
use Rattle.std.specs.List.{All}
use Rattle.std.specs.List.Sorted.{IsStrictlySortedBy}
use Rattle.std.specs.Option.{option_to_list, option_map}
use Rattle.std.proofs.lemmas.List.{append-nil, nil_from_length, take_more}
use Rattle.std.proofs.lemmas.List.Elements.{All-nil, All-cons, All-head, All-tail, All-append, All-map}
use Rattle.leveldb_base.specs.Varint.{varint}
use Rattle.leveldb_files.specs.Edits.Edit.{with_field, Edit, Field, comparator_is, log_is, previous_log_is, next_file_is, last_sequence_is, points, deletes, adds, field_bytes, file_order, edit_of_fields, fields_of, edit_bytes, FieldFits, empty_edit, IsEdit, LevelsFit, IsEncodable}
use Rattle.leveldb_version.specs.Edits.VersionEdit.{edit_of, new_file_of, HasNoSeeks}
use Rattle.std.proofs.lemmas.List.Concat.{flat_map-append}
use Rattle.leveldb_version.specs.Edits.Fields.{ReadsFront, files_in}
use Rattle.std.specs.Prelude.{Result, Ok, Err, IfErr, String, string_bytes}
use Rattle.leveldb_base.specs.declared.error.Status.{Status}
use Rattle.leveldb_version.specs.declared.version_edit.VersionEdit.{VersionEdit}
use Rattle.leveldb_base.specs.declared.types.FileMetaData.{FileMetaData}
use Rattle.leveldb_version.specs.declared.version_edit.fields.BorrowedField.{BorrowedField}
use Rattle.leveldb_version.specs.declared.version_edit.fields.BorrowedField.TheVariants.{Comparator, LogNumber, NextFileNumber, LastSequence, CompactPointer, DeletedFile, NewFile as NewFileRead, PrevLogNumber}
use Rattle.std.proofs.lemmas.List.Folds.{flat_map-map}
use Rattle.std.proofs.lemmas.Str.{IsUtf8-string_bytes}
use Rattle.std.specs.declared.alloc.Global.{Global}
use Rattle.leveldb_files.proofs.Edits.EditLemmas.{edit_of_fields-push, field_front, length-field-pos, written_is_read}

-- ---- what reading fields, one after the other, finds

-- some fields have been read, which make the edit, and the rest is left
pub record HasRead (bytes rest : List ℕ) (edit : Edit) : Type 0 where
  pub fields : List Field
  pub front : bytes ≡ flat_map field_bytes fields ++ rest
  pub fits : All FieldFits fields
  pub made : edit ≡ edit_of_fields fields

pub nothing_read : (bytes : List ℕ) (edit : Edit) → edit ≡ empty_edit → HasRead bytes bytes edit
unfolding edit_of_fields
nothing_read bytes edit e = record { fields = []; front = refl; fits = All-nil FieldFits; made = e }

-- fields that begin with these continue with others
fields_after : (done fields : List Field) (rest : List ℕ) → flat_map field_bytes done ++ rest ≡ flat_map field_bytes fields → All FieldFits fields
    → (more : List Field) × (rest ≡ flat_map field_bytes more) × All FieldFits more
fields_after [] fields rest e fits = (fields, e, fits)
fields_after (field ∷ done) [] rest e fits =
    let empty = ap length e in
    absurd (omega (arith, empty, length-append (field_bytes field ++ flat_map field_bytes done) rest, length-append (field_bytes field) (flat_map field_bytes done), length-field-pos field))
fields_after (field ∷ done) (first ∷ fields) rest e fits =
    fields_after done fields rest (field_front field first _ _ (sym (append_assoc (field_bytes field) (flat_map field_bytes done) rest) ∙ e)).1 (All-tail FieldFits first fields fits)

no_more : {rest : List ℕ} (more : List Field) → rest ≡ flat_map field_bytes more → All FieldFits more → 0 < length rest → ReadsFront FieldFits field_bytes rest None → ⊥
no_more [] e fits some none = omega (arith, ap length e, some)
no_more (field ∷ more) e fits some none = none field (flat_map field_bytes more) (All-head FieldFits field more fits) e

module _ {bytes rest : List ℕ} {edit : Edit} (read : HasRead bytes rest edit) where
  -- one more field
  pub read_more : (field : Field) (others : List ℕ) (next : Edit) → ReadsFront FieldFits field_bytes rest (Some (field, others)) → next ≡ with_field edit field → HasRead bytes others next
  read_more field others next h e = record {
    fields = read.fields ++ field ∷ [];
    front = read.front ∙ ap (λ z. flat_map field_bytes read.fields ++ z) h.1 ∙ sym (append_assoc (flat_map field_bytes read.fields) (field_bytes field) others)
        ∙ ap (λ z. z ++ others) (sym (flat_map-append field_bytes read.fields (field ∷ []) ∙ ap (λ z. flat_map field_bytes read.fields ++ z) (append-nil (field_bytes field))));
    fits = All-append FieldFits read.fields (field ∷ []) read.fits (All-cons FieldFits field [] h.0 (All-nil FieldFits));
    made = e ∙ ap (λ z. with_field z field) read.made ∙ sym (edit_of_fields-push read.fields field);
  }

  -- something is left that begins with no field
  pub reads_none : 0 < length rest → ReadsFront FieldFits field_bytes rest None → (other : Edit) → IsEdit bytes other → ⊥
  reads_none some none other is =
      let more = fields_after read.fields is.fields rest (sym read.front ∙ is.encoded) is.fits in
      no_more more.0 more.1 more.2 some none

  -- nothing is left
  pub reads_all : length rest ≡ 0 → IsEdit bytes edit
  reads_all empty = record { fields = read.fields; encoded = read.front ∙ ap (λ z. flat_map field_bytes read.fields ++ z) (nil_from_length rest empty) ∙ append-nil (flat_map field_bytes read.fields); fits = read.fits; made = read.made }

pub shorter : {rest : List ℕ} (field : Field) (others : List ℕ) → ReadsFront FieldFits field_bytes rest (Some (field, others)) → length others < length rest
shorter field others h = omega (arith, ap length h.1, length-append (field_bytes field) others, length-field-pos field)

-- a borrowed field adds no file that may take a seek
no_seeks_in : (field : BorrowedField) → All (λ file. file.1.allowed_seeks ≡ 0) (files_in field)
no_seeks_in (NewFileRead level number size smallest largest) = All-cons (λ file. file.1.allowed_seeks ≡ 0) _ [] refl (All-nil (λ file. file.1.allowed_seeks ≡ 0))
no_seeks_in (Comparator name) = All-nil (λ file. file.1.allowed_seeks ≡ 0)
no_seeks_in (LogNumber number) = All-nil (λ file. file.1.allowed_seeks ≡ 0)
no_seeks_in (NextFileNumber number) = All-nil (λ file. file.1.allowed_seeks ≡ 0)
no_seeks_in (LastSequence number) = All-nil (λ file. file.1.allowed_seeks ≡ 0)
no_seeks_in (CompactPointer level key) = All-nil (λ file. file.1.allowed_seeks ≡ 0)
no_seeks_in (DeletedFile level number) = All-nil (λ file. file.1.allowed_seeks ≡ 0)
no_seeks_in (PrevLogNumber number) = All-nil (λ file. file.1.allowed_seeks ≡ 0)

pub no_more_seeks : (files new : List (ℕ × FileMetaData)) (field : BorrowedField) → All (λ file. file.1.allowed_seeks ≡ 0) files → new ≡ files ++ files_in field → All (λ file. file.1.allowed_seeks ≡ 0) new
no_more_seeks files new field none e =
    let P : List (ℕ × FileMetaData) → Type 0 = All (λ file. file.1.allowed_seeks ≡ 0) in
    subst P (sym e) (All-append (λ file. file.1.allowed_seeks ≡ 0) files (files_in field) none (no_seeks_in field))

no_first : (files : List (ℕ × FileMetaData)) → map new_file_of files ≡ [] → All (λ file. file.1.allowed_seeks ≡ 0) files
no_first [] e = All-nil (λ file. file.1.allowed_seeks ≡ 0)
no_first (file ∷ files) e = absurd (cc)

-- an edit that changes nothing has no new file
pub no_seeks_first : (edit : VersionEdit) → edit_of edit ≡ empty_edit → HasNoSeeks edit
no_seeks_first edit e = no_first edit.new_files.items (ap (λ z. z.added) e)

-- what holds in any case holds of an error
pub of_error : {T : Type 0} (Says : Status → Type 0) (r : Result T Status) → ((status : Status) → Says status) → IfErr r Says
of_error Says (Ok x) h = tt
of_error Says (Err status) h = h status

-- ---- what putting fields, one after the other, makes

-- what is put after some bytes, and fields after it
put_next : (before after : List ℕ) (put rest : List Field) → after ≡ before ++ flat_map field_bytes put → after ++ flat_map field_bytes rest ≡ before ++ flat_map field_bytes (put ++ rest)
put_next before after put rest e =
    ap (λ z. z ++ flat_map field_bytes rest) e ∙ append_assoc before (flat_map field_bytes put) (flat_map field_bytes rest)
    ∙ ap (λ z. before ++ z) (sym (flat_map-append field_bytes put rest))

-- numbers after their tag are fields
as_fields : (make : ℕ → Field) (before after : List ℕ) (numbers : List ℕ) → after ≡ before ++ flat_map (λ n. field_bytes (make n)) numbers → after ≡ before ++ flat_map field_bytes (map make numbers)
as_fields make before after numbers e = e ∙ ap (λ z. before ++ z) (sym (flat_map-map field_bytes make numbers))

-- the parts of an edit, one after the other, are its bytes
pub all_put : (edit : Edit) (none comparator log previous next last pointers deleted added : List ℕ) → none ≡ []
    → comparator ≡ none ++ flat_map field_bytes (map comparator_is (option_to_list edit.comparator))
    → log ≡ comparator ++ flat_map (λ n. 2 ∷ varint n) (option_to_list edit.log_number)
    → previous ≡ log ++ flat_map (λ n. 9 ∷ varint n) (option_to_list edit.previous_log)
    → next ≡ previous ++ flat_map (λ n. 3 ∷ varint n) (option_to_list edit.next_file)
    → last ≡ next ++ flat_map (λ n. 4 ∷ varint n) (option_to_list edit.last_sequence)
    → pointers ≡ last ++ flat_map field_bytes (map points edit.pointers)
    → deleted ≡ pointers ++ flat_map field_bytes (map deletes edit.deleted)
    → added ≡ deleted ++ flat_map field_bytes (map adds edit.added)
    → added ≡ edit_bytes edit
unfolding edit_bytes
all_put edit none comparator log previous next last pointers deleted added e a b c d f g h i =
    i
    ∙ put_next pointers deleted (map deletes edit.deleted) (map adds edit.added) h
    ∙ put_next last pointers (map points edit.pointers) (map deletes edit.deleted ++ map adds edit.added) g
    ∙ put_next next last (map last_sequence_is (option_to_list edit.last_sequence)) (map points edit.pointers ++ (map deletes edit.deleted ++ map adds edit.added))
    (as_fields last_sequence_is next last (option_to_list edit.last_sequence) f)
    ∙ put_next previous next (map next_file_is (option_to_list edit.next_file))
    (map last_sequence_is (option_to_list edit.last_sequence) ++ (map points edit.pointers ++ (map deletes edit.deleted ++ map adds edit.added)))
    (as_fields next_file_is previous next (option_to_list edit.next_file) d)
    ∙ put_next log previous (map previous_log_is (option_to_list edit.previous_log))
    (map next_file_is (option_to_list edit.next_file) ++ (map last_sequence_is (option_to_list edit.last_sequence) ++ (map points edit.pointers ++ (map deletes edit.deleted ++ map adds edit.added))))
    (as_fields previous_log_is log previous (option_to_list edit.previous_log) c)
    ∙ put_next comparator log (map log_is (option_to_list edit.log_number))
    (map previous_log_is (option_to_list edit.previous_log) ++ (map next_file_is (option_to_list edit.next_file) ++ (map last_sequence_is (option_to_list edit.last_sequence) ++ (map points edit.pointers ++ (map deletes edit.deleted ++ map adds edit.added)))))
    (as_fields log_is comparator log (option_to_list edit.log_number) b)
    ∙ put_next none comparator (map comparator_is (option_to_list edit.comparator))
    (map log_is (option_to_list edit.log_number) ++ (map previous_log_is (option_to_list edit.previous_log) ++ (map next_file_is (option_to_list edit.next_file) ++ (map last_sequence_is (option_to_list edit.last_sequence) ++ (map points edit.pointers ++ (map deletes edit.deleted ++ map adds edit.added)))))) a
    ∙ ap (λ z. z ++ flat_map field_bytes (fields_of edit)) e

-- one more field
spread_more : {A B : Type 0} (make : B → Field) (view : A → B) (items : List A) (item : A)
    → flat_map field_bytes (map make (map view (items ++ item ∷ []))) ≡ flat_map field_bytes (map make (map view items)) ++ field_bytes (make (view item))
spread_more make view [] item = append-nil (field_bytes (make (view item)))
spread_more make view (first ∷ items) item =
    ap (λ z. field_bytes (make (view first)) ++ z) (spread_more make view items item)
    ∙ sym (append_assoc (field_bytes (make (view first))) (flat_map field_bytes (map make (map view items))) (field_bytes (make (view item))))

pub put_more : {A B : Type 0} (make : B → Field) (view : A → B) (items : List A) (i : ℕ) (item : A) (before after next : List ℕ) → i < length items → item ≡ get_or items i item
    → after ≡ before ++ flat_map field_bytes (map make (map view (take i items))) → next ≡ after ++ field_bytes (make (view item))
    → next ≡ before ++ flat_map field_bytes (map make (map view (take (i + 1) items)))
put_more make view items i item before after next h is e f =
    f ∙ ap (λ z. z ++ field_bytes (make (view item))) e
    ∙ append_assoc before (flat_map field_bytes (map make (map view (take i items)))) (field_bytes (make (view item)))
    ∙ ap (λ z. before ++ z) (sym (spread_more make view (take i items) item))
    ∙ ap (λ z. before ++ flat_map field_bytes (map make (map view z))) (ap (λ z. take i items ++ z ∷ []) is ∙ sym (take_more items i item h))

-- the same at the end of what a loop was given
pub put_last : {A B : Type 0} (make : B → Field) (view : A → B) (items : List A) (item : A) (before after next : List ℕ)
    → after ≡ before ++ flat_map field_bytes (map make (map view items)) → next ≡ after ++ field_bytes (make (view item))
    → next ≡ before ++ flat_map field_bytes (map make (map view (items ++ item ∷ [])))
put_last make view items item before after next e f =
    f ∙ ap (λ z. z ++ field_bytes (make (view item))) e
    ∙ append_assoc before (flat_map field_bytes (map make (map view items))) (field_bytes (make (view item)))
    ∙ ap (λ z. before ++ z) (sym (spread_more make view items item))

-- a value that fits makes a field that fits
pub one_fits : {A : Type 0} (make : A → Field) (Fits : A → Type 0) → ((x : A) → Fits x → FieldFits (make x)) → (o : Option A) → IfSome o Fits → All FieldFits (map make (option_to_list o))
one_fits make Fits h None f = All-nil FieldFits
one_fits make Fits h (Some x) f = All-cons FieldFits (make x) [] (h x f) (All-nil FieldFits)

-- a comparator's name is text
pub name_fits : (name : Option (String Global)) → IfSome (option_map string_bytes name) IsUtf8
name_fits None = tt
name_fits (Some name) = IsUtf8-string_bytes name

-- what the types of an edit's values keep
pub record TypesKeep (edit : Edit) : Type 0 where
  pub comparator : IfSome edit.comparator IsUtf8
  pub log_number : IfSome edit.log_number (λ n. n < 2 ^ 64)
  pub previous_log : IfSome edit.previous_log (λ n. n < 2 ^ 64)
  pub next_file : IfSome edit.next_file (λ n. n < 2 ^ 64)
  pub last_sequence : IfSome edit.last_sequence (λ n. n < 2 ^ 64)
  pub deleted : All (λ it. it.1 < 2 ^ 64) edit.deleted
  pub ordered : IsStrictlySortedBy file_order edit.deleted
  pub added : All (λ it. (it.number < 2 ^ 64) × (it.size < 2 ^ 64)) edit.added

module _ {edit : Edit} (levels : LevelsFit edit) (kept : TypesKeep edit) where
  pub is_encodable : IsEncodable edit
  is_encodable = record {
    fits = All-append FieldFits _ _ (one_fits comparator_is IsUtf8 (λ x h. h) edit.comparator kept.comparator)
        (All-append FieldFits _ _ (one_fits log_is (λ n. n < 2 ^ 64) (λ x h. h) edit.log_number kept.log_number)
        (All-append FieldFits _ _ (one_fits previous_log_is (λ n. n < 2 ^ 64) (λ x h. h) edit.previous_log kept.previous_log)
        (All-append FieldFits _ _ (one_fits next_file_is (λ n. n < 2 ^ 64) (λ x h. h) edit.next_file kept.next_file)
        (All-append FieldFits _ _ (one_fits last_sequence_is (λ n. n < 2 ^ 64) (λ x h. h) edit.last_sequence kept.last_sequence)
        (All-append FieldFits _ _ (All-map FieldFits points edit.pointers levels.pointers)
        (All-append FieldFits _ _ (All-map FieldFits deletes edit.deleted (λ k d h. (levels.deleted k d h, kept.deleted k d h)))
        (All-map FieldFits adds edit.added (λ k d h. (levels.added k d h, (kept.added k d h).0, (kept.added k d h).1)))))))));
    ordered = kept.ordered;
  }

  pub is_read : {bytes : List ℕ} → bytes ≡ edit_bytes edit → IsEdit bytes edit
  is_read {bytes} e = let P : List ℕ → Type 0 = λ z. IsEdit z edit in subst P (sym e) (written_is_read edit is_encodable)
