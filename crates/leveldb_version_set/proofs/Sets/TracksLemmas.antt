-- Which version set is what edits leave, and which goes on to track its manifest.
use Rattle.leveldb_base.proofs.HistoryLemmas.{in_none}
use Rattle.leveldb_base.proofs.NamesLemmas.{made_name}
use Rattle.leveldb_base.specs.Names.{file_name}
use Rattle.leveldb_base.specs.declared.types.FileType.TheVariants.{Current, Descriptor}
use Rattle.leveldb_env.proofs.EnvLemmas.{SameBut-appending, SameBut-synced, appended, extended-same, synced-same}
use Rattle.leveldb_env.specs.Env.{File, Files, bytes_of, extended, file_kept, in_folder, longer_file, synced}
use Rattle.leveldb_mem.proofs.LawsLemmas.{log_laws}
use Rattle.leveldb_mem.specs.Log.{IsLogFile, clean, frame_at, log_block_size}
use Rattle.leveldb_mem.specs.Log.Writer.{after_frame, frame, new_writer}
use Rattle.leveldb_files.proofs.Stores.BatchesLemmas.{each_more}
use Rattle.leveldb_version.proofs.Edits.FullEditLemmas.{full_stays_full}
use Rattle.leveldb_version_set.proofs.Sets.LogKeepsLemmas.{frame_is, record_some}
use Rattle.leveldb_files.proofs.Stores.ManagedLemmas.{kinds_apart}
use Rattle.leveldb_version.proofs.Edits.VersionEditLemmas.{is_encodable}
use Rattle.leveldb_files.proofs.Edits.EditLemmas.{written_is_read}
use Rattle.leveldb_files.proofs.Edits.VersionSetLemmas.{applies_in_order, none_is_some}
use Rattle.leveldb_files.specs.Stores.Batches.{Each}
use Rattle.leveldb_files.specs.Edits.Current.{IsCurrentText}
use Rattle.leveldb_version.specs.Edits.FullEdit.{files_with, files_without, full_after, pointers_with}
use Rattle.leveldb_version_set.specs.Sets.LogEdit.{after_edit, edit_record, set_appended, with_bytes_kept, written_edit}
use Rattle.leveldb_files.specs.Stores.Paths.{current_path}
use Rattle.leveldb_version_set.specs.Sets.Recover.{IsRead, IsReusable, IsUsable, ReadManifest, greatest_file_number, next_number_after, set_going_on, set_left, set_starting_anew}
use Rattle.leveldb_files.specs.Stores.Store.{HasEdits}
use Rattle.leveldb_files.specs.Steps.StoreSteps.{IsKept, IsManifestOpen}
use Rattle.leveldb_version_set.specs.Sets.Tracks.{IsInUse, IsLeftBy, IsNumberedBelow, SetsNoNumber, Tracks}
use Rattle.leveldb_files.specs.Edits.Edit.{Edit, Field, FieldFits, IsEdit, IsEncodable, LevelFile, NewFile, Pointer, added_in, adds, comparator_in, comparator_is, deletes, edit_bytes, edit_of_fields, empty_edit, file_order, last_sequence_is, log_is, next_file_is, pointer_in, points, previous_log_is}
use Rattle.leveldb_files.specs.Edits.VersionSet.{IsFullEdit, ListsFiles, is_same_file, level_file, live_after}
use Rattle.leveldb_version_set.specs.Sets.VersionSetLaws.{NamesManifest, StaysTracked}
use Rattle.leveldb_version_set.specs.Sets.VersionSetValue.{ManifestState, OpenManifest, VersionSetValue, in_use, unmade, with_number_free, with_number_given, with_numbers_used}
use Rattle.std.proofs.Common.{◌++◌, ◌+◌, ◌%◌, ◌<◌, ◌≤◌, ◌^◌, ◌∙◌, ◌∷◌, ◌≡◌, ◌==◌, All, IfSome, IsUtf8, List, None, Option, Some, [], ap, append-nil, append_assoc, arith, false, fold, inr, length, length-append, max, not, refl, subst, suc, sym, ℕ}
use Rattle.std.proofs.Math.Nat.{le-max_left, le-max_right, mod-add-mod}
use Rattle.std.proofs.lemmas.List.Elements.{All-append, All-cons, All-filter, All-nil}
use Rattle.std.proofs.lemmas.Option.{IfSome_then}
use Rattle.std.specs.List.{IsDistinct, cons_option, filter, filter_map, last_or}
use Rattle.std.specs.List.Sorted.{IsStrictlySortedBy}
use Rattle.std.specs.Option.{option_or, unwrap_or}
use Rattle.std.specs.Prelude.{◌≢◌, Bool, IsSome, IsSomeAnd}
use Rattle.std.specs.Str.{bytes_eq}
use Rattle.std.specs.declared.cmp.Ordering.{Ordering}

-- ---- what an edit of all that there is may hold

-- the comparator's name, the pointers and the added files of an edit can be written
record FilesFit (edit : Edit) : Type 0 where
  comparator : IfSome edit.comparator IsUtf8
  pointers : All (λ (it : Pointer). it.level < 7) edit.pointers
  added : All (λ (it : NewFile). FieldFits (adds it)) edit.added

all_tail : {A : Type 0} (P : A → Type 0) (x : A) (xs : List A) → All P (x ∷ xs) → All P xs
all_tail P x xs all i d there = all (suc i) d (omega (arith, there))

all_head : {A : Type 0} (P : A → Type 0) (x : A) (xs : List A) → All P (x ∷ xs) → P x
all_head P x xs all = all 0 x (omega arith)

cons_fits : {A : Type 0} (P : A → Type 0) (o : Option A) (xs : List A) → IfSome o P → All P xs
    → All P (cons_option o xs)
cons_fits P None xs one all = all
cons_fits P (Some x) xs one all = All-cons P x xs one all

in_fits : {A : Type 0} (value : Field → Option A) (P : A → Type 0)
    → ((field : Field) → FieldFits field → IfSome (value field) P) → (fields : List Field)
    → All FieldFits fields → All P (filter_map value fields)
in_fits value P each [] all = All-nil P
in_fits value P each (field ∷ fields) all =
    cons_fits P (value field) (filter_map value fields)
    (each field (all_head FieldFits field fields all))
    (in_fits value P each fields (all_tail FieldFits field fields all))

last_fits : {A : Type 0} (P : A → Type 0) (o : Option A) (xs : List A) → IfSome o P → All P xs
    → IfSome (last_or o xs) P
last_fits P o [] one all = one
last_fits P o (x ∷ xs) one all = last_fits P (Some x) xs (all_head P x xs all) (all_tail P x xs all)

comparator_fits : (field : Field) → FieldFits field → IfSome (comparator_in field) IsUtf8
comparator_fits (comparator_is name) fits = fits
comparator_fits (log_is n) fits = tt
comparator_fits (previous_log_is n) fits = tt
comparator_fits (next_file_is n) fits = tt
comparator_fits (last_sequence_is n) fits = tt
comparator_fits (points it) fits = tt
comparator_fits (deletes it) fits = tt
comparator_fits (adds it) fits = tt

pointer_fits : (field : Field) → FieldFits field
    → IfSome (pointer_in field) (λ (it : Pointer). it.level < 7)
pointer_fits (comparator_is name) fits = tt
pointer_fits (log_is n) fits = tt
pointer_fits (previous_log_is n) fits = tt
pointer_fits (next_file_is n) fits = tt
pointer_fits (last_sequence_is n) fits = tt
pointer_fits (points it) fits = fits
pointer_fits (deletes it) fits = tt
pointer_fits (adds it) fits = tt

file_fits : (field : Field) → FieldFits field
    → IfSome (added_in field) (λ (it : NewFile). FieldFits (adds it))
file_fits (comparator_is name) fits = tt
file_fits (log_is n) fits = tt
file_fits (previous_log_is n) fits = tt
file_fits (next_file_is n) fits = tt
file_fits (last_sequence_is n) fits = tt
file_fits (points it) fits = tt
file_fits (deletes it) fits = tt
file_fits (adds it) fits = fits

-- an edit that was read, or can be written, has what fits
fits_of_read : (bytes : List ℕ) (edit : Edit) → IsEdit bytes edit → FilesFit edit
unfolding edit_of_fields
fits_of_read bytes edit is = subst FilesFit (sym is.made) (record {
  comparator = last_fits IsUtf8 None (filter_map comparator_in is.fields) tt
      (in_fits comparator_in IsUtf8 comparator_fits is.fields is.fits);
  pointers = in_fits pointer_in (λ (it : Pointer). it.level < 7) pointer_fits is.fields is.fits;
  added = in_fits added_in (λ (it : NewFile). FieldFits (adds it)) file_fits is.fields is.fits;
})

fits_of_encodable : (edit : Edit) → IsEncodable edit → FilesFit edit
fits_of_encodable edit can = fits_of_read (edit_bytes edit) edit (written_is_read edit can)

either_fits : {A : Type 0} (P : A → Type 0) (o p : Option A) → IfSome o P → IfSome p P
    → IfSome (option_or o p) P
either_fits P None p one other = other
either_fits P (Some x) p one other = one

pointers_fit : (added pointers : List Pointer) → All (λ (it : Pointer). it.level < 7) pointers
    → All (λ (it : Pointer). it.level < 7) added
    → All (λ (it : Pointer). it.level < 7) (fold pointers_with pointers added)
pointers_fit [] pointers fit more = fit
pointers_fit (pointer ∷ added) pointers fit more =
    let P : Pointer → Type 0 = λ it. it.level < 7 in
    let keeps : Pointer → Bool = λ it. not (it.level == pointer.level) in
    pointers_fit added (pointers_with pointers pointer)
    (All-append P (filter keeps pointers) (pointer ∷ []) (All-filter keeps P pointers fit)
    (All-cons P pointer [] (all_head P pointer added more) (All-nil P)))
    (all_tail P pointer added more)

without_fit : (P : NewFile → Type 0) (deleted : List LevelFile) (files : List NewFile) → All P files
    → All P (fold files_without files deleted)
without_fit P [] files fit = fit
without_fit P (at ∷ deleted) files fit =
    let keeps : NewFile → Bool = λ it. not (is_same_file (level_file it) at) in
    without_fit P deleted (files_without files at) (All-filter keeps P files fit)

with_fit : (P : NewFile → Type 0) (added files : List NewFile) → All P files → All P added
    → All P (fold files_with files added)
with_fit P [] files fit more = fit
with_fit P (file ∷ added) files fit more =
    let keeps : NewFile → Bool = λ it. not (is_same_file (level_file it) (level_file file)) in
    with_fit P added (files_with files file)
    (All-append P (filter keeps files) (file ∷ []) (All-filter keeps P files fit)
    (All-cons P file [] (all_head P file added more) (All-nil P)))
    (all_tail P file added more)

fits_after : (full edit : Edit) → FilesFit full → FilesFit edit → FilesFit (full_after full edit)
fits_after full edit fit more = record {
  comparator = either_fits IsUtf8 edit.comparator full.comparator more.comparator fit.comparator;
  pointers = pointers_fit edit.pointers full.pointers fit.pointers more.pointers;
  added =
      let P : NewFile → Type 0 = λ it. FieldFits (adds it) in
      with_fit P edit.added (fold files_without full.added edit.deleted)
      (without_fit P edit.deleted full.added fit.added) more.added;
}

none_sorted : (files : List LevelFile) → files ≡ [] → IsStrictlySortedBy file_order files
unfolding IsStrictlySortedBy
none_sorted files none = subst (IsStrictlySortedBy file_order) (sym none) tt

can_be_written : (full : Edit) → SetsNoNumber full → full.deleted ≡ [] → FilesFit full
    → IsEncodable full
can_be_written full none no_deleted fit = is_encodable {edit = full}
    (record {
      pointers = fit.pointers;
      deleted = subst (All (λ (it : LevelFile). it.0 < 7)) (sym no_deleted)
          (All-nil (λ (it : LevelFile). it.0 < 7));
      added = λ i d there. (fit.added i d there).0;
    })
    (record {
      comparator = fit.comparator;
      log_number = no_number full.log_number none.log_number;
      previous_log = no_number full.previous_log none.previous_log;
      next_file = no_number full.next_file none.next_file;
      last_sequence = no_number full.last_sequence none.last_sequence;
      deleted = subst (All (λ (it : LevelFile). it.1 < 2 ^ 64)) (sym no_deleted)
          (All-nil (λ (it : LevelFile). it.1 < 2 ^ 64));
      ordered = none_sorted full.deleted no_deleted;
      added = λ i d there. ((fit.added i d there).1, (fit.added i d there).2);
    })
  where
    no_number : (o : Option ℕ) → o ≡ None → IfSome o (λ n. n < 2 ^ 64)
    no_number o is = subst (λ p. IfSome p (λ n. n < 2 ^ 64)) (sym is) tt

none_set : (full edit : Edit) → SetsNoNumber full → SetsNoNumber (full_after full edit)
none_set full edit none = record {
  log_number = none.log_number;
  previous_log = none.previous_log;
  next_file = none.next_file;
  last_sequence = none.last_sequence;
}

-- ---- the set after an edit

log_then : (own : Option ℕ) (old : ℕ) (before : Option ℕ)
    → option_or (option_or own (Some old)) before ≡ Some (unwrap_or own old)
log_then None old before = refl
log_then (Some n) old before = refl

some_of_either : {A : Type 0} (o p : Option A) → IsSome p → IsSome (option_or o p)
some_of_either None p some = some
some_of_either (Some x) p some = refl

-- the single values that a written edit leaves, whatever was before it
pub record NumbersAre (edits : List Edit) (set : VersionSetValue) (edit : Edit) : Type 0 where
  pub log_number : (live_after (edits ++ written_edit set edit ∷ [])).log_number
      ≡ Some (unwrap_or edit.log_number set.log_number)
  pub previous_log : (live_after (edits ++ written_edit set edit ∷ [])).previous_log ≡ Some 0
  pub next_file : (live_after (edits ++ written_edit set edit ∷ [])).next_file ≡ Some set.next_file
  pub last_sequence : (live_after (edits ++ written_edit set edit ∷ [])).last_sequence
      ≡ Some set.last_sequence

pub numbers_are : (edits : List Edit) (set : VersionSetValue) (edit : Edit)
    → NumbersAre edits set edit
numbers_are edits set edit =
    let applied = applies_in_order edits (written_edit set edit) in
    record {
      log_number = applied.log_number
          ∙ log_then edit.log_number set.log_number (live_after edits).log_number;
      previous_log = applied.previous_log;
      next_file = applied.next_file;
      last_sequence = applied.last_sequence;
    }

-- the set is what the edits leave, once it was logged what it changed
pub left_then : (edits : List Edit) (set : VersionSetValue) (edit : Edit) (manifest : ManifestState)
    → IsFullEdit (live_after edits) set.full → IsEncodable set.full → SetsNoNumber set.full
    → IsSome set.full.comparator → IsEncodable (written_edit set edit)
    → IsLeftBy (edits ++ written_edit set edit ∷ [])
    (record (after_edit set edit) { manifest = manifest })
left_then edits set edit manifest full writable none some can =
    let are = numbers_are edits set edit in
    let written = written_edit set edit in
    record {
      full = full_stays_full edits set.full written full;
      writable = can_be_written (full_after set.full written) (none_set set.full written none)
          full.deleted
          (fits_after set.full written (fits_of_encodable set.full writable)
          (fits_of_encodable written can));
      no_numbers = none_set set.full written none;
      comparator = some_of_either edit.comparator set.full.comparator some;
      log_number = are.log_number;
      previous_log = ap (λ (o : Option ℕ). unwrap_or o 0) are.previous_log;
      next_file = subst (λ o. IfSome o (λ n. n ≤ set.next_file)) (sym are.next_file)
          (omega arith);
      given = subst (λ (o : Option ℕ). IfSome o (λ n. IfSome None (λ given. n ≤ given)))
          (sym are.next_file) tt;
      last_sequence = subst (λ o. IfSome o (λ n. n ≤ set.last_sequence)) (sym are.last_sequence)
          (omega arith);
    }

-- ---- the manifest in use

pub one_in_use : (a b : OpenManifest) → in_use a ≡ in_use b → a ≡ b
one_in_use a b e = cc

pub not_unmade : {P : Type 0} (manifest : OpenManifest) → in_use manifest ≡ unmade → P
not_unmade manifest e = absurd (let never : in_use manifest ≡ unmade = e in cc)

not_in_use : {P : Type 0} (manifest : OpenManifest) → unmade ≡ in_use manifest → P
not_in_use manifest e = absurd (let never : unmade ≡ in_use manifest = e in cc)

module _ (store : List ℕ) (files : Files) (edits : List Edit) (m : IsManifestOpen store files edits)
  where
    abbrev path : List ℕ
    path = in_folder store m.has_edits.name

    not_current : bytes_eq path (current_path store) ≡ false
    not_current = kinds_apart store m.has_edits.name (file_name Current 0) m.has_edits.number 0
        Descriptor Current m.has_edits.named.0 (made_name Current 0 refl) (λ e. cc)

    -- a manifest that is open is in use once it is synced
    pub synced_in_use : (manifest : OpenManifest) → manifest.path ≡ path
        → manifest.writer
        ≡ new_writer log_block_size (length (bytes_of m.has_edits.manifest) % log_block_size)
        → IsInUse store (synced path files) edits manifest
    synced_in_use manifest path_is writer_is = record {
      opened = record {
        has_edits = record {
          current = m.has_edits.current;
          current_there = SameBut-synced path files (synced path files) (inr refl)
              (current_path store) not_current ∙ m.has_edits.current_there;
          name = m.has_edits.name;
          number = m.has_edits.number;
          named = m.has_edits.named;
          manifest = file_kept m.has_edits.manifest;
          there = synced-same path files m.has_edits.manifest m.has_edits.there;
          is = record {
            records = m.has_edits.is.records;
            end = clean;
            read = read;
            each = m.has_edits.is.each;
          };
        };
        current_kept = m.current_kept;
        clean_end = read;
      };
      manifest_kept = refl;
      path = path_is;
      writer = writer_is
          ∙ ap (λ (b : List ℕ). new_writer log_block_size (length b % log_block_size))
          (sym (append-nil (bytes_of m.has_edits.manifest)));
    }
      where
        read : IsLogFile (bytes_of (file_kept m.has_edits.manifest)) m.has_edits.is.records clean
        read = subst (λ b. IsLogFile b m.has_edits.is.records clean)
            (sym (append-nil (bytes_of m.has_edits.manifest))) m.clean_end

-- after an edit is appended the manifest is open
module _ (store : List ℕ) (files : Files) (edits : List Edit) (m : IsManifestOpen store files edits)
    (text : List ℕ) (some : text ≢ []) (edit : Edit) (is : IsEdit text edit) where
  abbrev path_of_open : List ℕ
  path_of_open = in_folder store m.has_edits.name

  abbrev framed_text : List ℕ
  framed_text = frame_at (length (bytes_of m.has_edits.manifest)) text

  read_then : IsLogFile (bytes_of (longer_file framed_text m.has_edits.manifest))
      (m.has_edits.is.records ++ text ∷ []) clean
  read_then = subst (λ b. IsLogFile b (m.has_edits.is.records ++ text ∷ []) clean)
      (append_assoc m.has_edits.manifest.kept m.has_edits.manifest.since framed_text)
      (log_laws.more (bytes_of m.has_edits.manifest) m.has_edits.is.records text some
      m.clean_end)

  abbrev appended_open : IsManifestOpen store (extended path_of_open framed_text files)
      (edits ++ edit ∷ [])
  appended_open = record {
    has_edits = record {
      current = m.has_edits.current;
      current_there = SameBut-appending path_of_open framed_text files
          (extended path_of_open framed_text files) (appended path_of_open framed_text files)
          (current_path store) (not_current store files edits m) ∙ m.has_edits.current_there;
      name = m.has_edits.name;
      number = m.has_edits.number;
      named = m.has_edits.named;
      manifest = longer_file framed_text m.has_edits.manifest;
      there = extended-same path_of_open framed_text files m.has_edits.manifest m.has_edits.there;
      is = record {
        records = m.has_edits.is.records ++ text ∷ [];
        end = clean;
        read = read_then;
        each = each_more IsEdit m.has_edits.is.records edits text edit m.has_edits.is.each is;
      };
    };
    current_kept = m.current_kept;
    clean_end = read_then;
  }

  longer_is : length (bytes_of m.has_edits.manifest) + length framed_text
      ≡ length (bytes_of (longer_file framed_text m.has_edits.manifest))
  longer_is = sym (length-append (bytes_of m.has_edits.manifest) framed_text)
      ∙ ap length
      (append_assoc m.has_edits.manifest.kept m.has_edits.manifest.since framed_text)

  -- and in use once it is synced
  pub appended_in_use : (manifest : OpenManifest) → manifest.path ≡ path_of_open
      → manifest.writer
      ≡ new_writer log_block_size (length (bytes_of m.has_edits.manifest) % log_block_size)
      → IsInUse store (synced path_of_open (extended path_of_open framed_text files)) (edits ++ edit ∷ [])
      (record manifest { writer = after_frame manifest.writer text })
  appended_in_use manifest path_is writer_is =
      let size = length (bytes_of m.has_edits.manifest) in
      synced_in_use store (extended path_of_open framed_text files) (edits ++ edit ∷ []) appended_open
      (record manifest { writer = after_frame manifest.writer text }) path_is
      (ap (λ w. after_frame w text) writer_is
      ∙ ap (new_writer log_block_size) (mod-add-mod size log_block_size (length framed_text))
      ∙ ap (λ n. new_writer log_block_size (n % log_block_size)) longer_is)

pub appended_is_tracked : (files : Files) (edits : List Edit) (set : VersionSetValue) (edit : Edit)
    → Tracks files edits set → IsEncodable (written_edit set edit)
    → (manifest : OpenManifest) → set.manifest ≡ in_use manifest
    → Tracks (with_bytes_kept manifest.path (frame manifest.writer (edit_record set edit)) files)
    (edits ++ written_edit set edit ∷ []) (set_appended manifest set edit)
appended_is_tracked files edits set edit tracks can manifest is = record {
  left = left_then edits set edit (in_use then) tracks.left.full tracks.left.writable
      tracks.left.no_numbers tracks.left.comparator can;
  used = λ other e. subst
      (IsInUse set.store (with_bytes_kept manifest.path bytes files) (edits ++ written ∷ []))
      (one_in_use then other e) in_use_then;
  not_made = λ e. not_unmade then e;
}
  where
    written : Edit
    written = written_edit set edit

    bytes : List ℕ
    bytes = frame manifest.writer (edit_record set edit)

    then : OpenManifest
    then = record manifest { writer = after_frame manifest.writer (edit_record set edit) }

    u : IsInUse set.store files edits manifest
    u = tracks.used manifest is

    in_use_then : IsInUse set.store (with_bytes_kept manifest.path bytes files)
        (edits ++ written ∷ []) then
    in_use_then = subst
        (λ path. IsInUse set.store (with_bytes_kept path bytes files) (edits ++ written ∷ []) then)
        (sym u.path)
        (subst (λ b. IsInUse set.store
        (with_bytes_kept (in_folder set.store u.opened.has_edits.name) b files)
        (edits ++ written ∷ []) then)
        (sym (frame_is set.store files edits manifest u (edit_record set edit)))
        (appended_in_use set.store files edits u.opened (edit_record set edit)
        (record_some set edit can) written (written_is_read written can) manifest u.path u.writer))

-- ---- the set that was recovered

none_listed : ListsFiles (live_after []) []
unfolding IsDistinct
none_listed = record {
  live = λ file. (λ c. absurd (in_none file c), λ e. absurd (none_is_some e));
  once = tt;
}

nothing_full : IsFullEdit (live_after []) empty_edit
nothing_full = record {
  comparator = refl;
  pointers = λ level. refl;
  deleted = refl;
  added = none_listed;
}

-- what edits leave, one after another, is what all of them leave
full_of_each : (before edits : List Edit) (full : Edit) → IsFullEdit (live_after before) full
    → IsFullEdit (live_after (before ++ edits)) (fold full_after full edits)
full_of_each before [] full is =
    subst (λ those. IsFullEdit (live_after those) full) (sym (append-nil before)) is
full_of_each before (edit ∷ edits) full is =
    subst (λ those. IsFullEdit (live_after those) (fold full_after (full_after full edit) edits))
    (append_assoc before (edit ∷ []) edits)
    (full_of_each (before ++ edit ∷ []) edits (full_after full edit)
    (full_stays_full before full edit is))

none_set_by_each : (edits : List Edit) (full : Edit) → SetsNoNumber full
    → SetsNoNumber (fold full_after full edits)
none_set_by_each [] full none = none
none_set_by_each (edit ∷ edits) full none =
    none_set_by_each edits (full_after full edit) (none_set full edit none)

each_fits : (records : List (List ℕ)) (edits : List Edit) (full : Edit) → Each IsEdit records edits
    → FilesFit full → FilesFit (fold full_after full edits)
each_fits [] [] full each fit = fit
each_fits (bytes ∷ records) (edit ∷ edits) full each fit =
    each_fits records edits (full_after full edit) each.1
    (fits_after full edit fit (fits_of_read bytes edit each.0))
each_fits [] (edit ∷ edits) full each fit = absurd each
each_fits (bytes ∷ records) [] full each fit = absurd each

nothing_fits : FilesFit empty_edit
nothing_fits = record {
  comparator = tt;
  pointers = All-nil (λ (it : Pointer). it.level < 7);
  added = All-nil (λ (it : NewFile). FieldFits (adds it));
}

is_its_value : (o : Option ℕ) → IsSome o → o ≡ Some (unwrap_or o 0)
is_its_value None some = absurd cc
is_its_value (Some n) some = refl

at_most : (o : Option ℕ) (n : ℕ) → unwrap_or o 0 ≤ n → IfSome o (λ k. k ≤ n)
at_most None n most = tt
at_most (Some k) n most = most

no_condition : (o : Option ℕ) → IfSome o (λ n. IfSome None (λ given. n ≤ given))
no_condition None = tt
no_condition (Some n) = tt

-- a set that was recovered is what the edits leave
recovered_is_left : (cmp : List ℕ → List ℕ → Ordering) (comparator : List ℕ)
    (old : VersionSetValue) (records : List (List ℕ)) (edits : List Edit)
    → Each IsEdit records edits → IsUsable cmp comparator edits → (next number : ℕ)
    (manifest : ManifestState) → unwrap_or (live_after edits).next_file 0 ≤ next
    → IsLeftBy edits (record (set_left old edits) {
      next_file = next;
      manifest_number = number;
      manifest = manifest;
    })
recovered_is_left cmp comparator old records edits each usable next number manifest enough =
    record {
      full = full;
      writable = can_be_written (fold full_after empty_edit edits) none full.deleted
          (each_fits records edits empty_edit each nothing_fits);
      no_numbers = none;
      comparator = subst IsSome (sym (full.comparator ∙ usable.comparator_is)) refl;
      log_number = is_its_value (live_after edits).log_number usable.log_is;
      previous_log = refl;
      next_file = at_most (live_after edits).next_file next enough;
      given = no_condition (live_after edits).next_file;
      last_sequence = at_most (live_after edits).last_sequence
          (unwrap_or (live_after edits).last_sequence 0) (omega arith);
    }
  where
    full : IsFullEdit (live_after edits) (fold full_after empty_edit edits)
    full = full_of_each [] edits empty_edit nothing_full

    none : SetsNoNumber (fold full_after empty_edit edits)
    none = none_set_by_each edits empty_edit
        (record { log_number = refl; previous_log = refl; next_file = refl; last_sequence = refl })

-- the next number is above those of the edits and of their manifest
pub next_is_above : (old : VersionSetValue) (edits : List Edit) (number : ℕ)
    → (unwrap_or (live_after edits).next_file 0 < next_number_after old edits number)
    × (number < next_number_after old edits number)
next_is_above old edits number =
    let set = live_after edits in
    let others = max (unwrap_or set.log_number 0) (unwrap_or set.previous_log 0) in
    let next = unwrap_or set.next_file 0 in
    let all = greatest_file_number set number in
    let one = le-max_left next (max number others) in
    let two = le-max_right next (max number others) in
    let three = le-max_left number others in
    let four = le-max_right old.next_file (all + 1) in
    (omega (arith, one, four), omega (arith, two, three, four))

kept_is : (o : Option File) (file : File) → o ≡ Some file → IsKept o → file.since ≡ []
kept_is o file there kept = subst IsKept there kept

pub going_on_is_tracked : (cmp : List ℕ → List ℕ → Ordering) (comparator : List ℕ) (reuse : Bool)
    (limit : ℕ) (old : VersionSetValue) (manifest : ReadManifest) (files : Files)
    → IsRead old.store files manifest → IsUsable cmp comparator manifest.edits
    → IsReusable reuse limit manifest → IsKept (files (current_path old.store))
    → Tracks (synced (in_folder old.store manifest.name) files) manifest.edits
    (set_going_on old manifest)
going_on_is_tracked cmp comparator reuse limit old manifest files read usable reusable kept =
    record {
      left = recovered_is_left cmp comparator old read.has_edits.is.records manifest.edits
          read.has_edits.is.each usable (next_number_after old manifest.edits manifest.number)
          manifest.number (in_use opened)
          (let above = next_is_above old manifest.edits manifest.number in
          omega (arith, above.0));
      used = λ other e. subst
          (IsInUse old.store (synced (in_folder old.store manifest.name) files) manifest.edits)
          (one_in_use opened other e) in_use_then;
      not_made = λ e. not_unmade opened e;
    }
  where
    opened : OpenManifest
    opened = record {
      path = in_folder old.store manifest.name;
      writer = new_writer log_block_size (manifest.size % log_block_size);
    }

    m : IsManifestOpen old.store files manifest.edits
    m = record {
      has_edits = read.has_edits;
      current_kept = kept_is (files (current_path old.store)) read.has_edits.current
          read.has_edits.current_there kept;
      clean_end = subst (IsLogFile (bytes_of read.has_edits.manifest) read.has_edits.is.records)
          (read.end ∙ reusable.clean_end) read.has_edits.is.read;
    }

    in_use_then : IsInUse old.store (synced (in_folder old.store manifest.name) files)
        manifest.edits opened
    in_use_then = subst
        (λ name. IsInUse old.store (synced (in_folder old.store name) files) manifest.edits
        opened) read.name
        (synced_in_use old.store files manifest.edits m opened
        (ap (in_folder old.store) (sym read.name))
        (ap (λ n. new_writer log_block_size (n % log_block_size)) (sym read.size)))

pub starting_anew_is_tracked : (cmp : List ℕ → List ℕ → Ordering) (comparator : List ℕ)
    (old : VersionSetValue) (manifest : ReadManifest) (files : Files)
    → IsRead old.store files manifest → IsUsable cmp comparator manifest.edits
    → IsKept (files (current_path old.store))
    → (set_starting_anew old manifest).next_file < 2 ^ 64
    → Tracks files manifest.edits (set_starting_anew old manifest)
starting_anew_is_tracked cmp comparator old manifest files read usable kept fits =
    let next = next_number_after old manifest.edits manifest.number in
    let above = next_is_above old manifest.edits manifest.number in
    record {
      left = recovered_is_left cmp comparator old read.has_edits.is.records manifest.edits
          read.has_edits.is.each usable (next + 1) next unmade (omega (arith, above.0));
      used = λ other e. not_in_use other e;
      not_made = λ e. record {
        has_edits = read.has_edits;
        current_kept = kept_is (files (current_path old.store)) read.has_edits.current
            read.has_edits.current_there kept;
        below = omega (arith, above.1, read.number);
        fits = omega (arith, fits);
      };
    }

-- ---- what a set does between two edits

given_is_left : (edits : List Edit) (set : VersionSetValue) → IsLeftBy edits set
    → IsLeftBy edits (with_number_given set)
given_is_left edits set l = record {
  full = l.full;
  writable = l.writable;
  no_numbers = l.no_numbers;
  comparator = l.comparator;
  log_number = l.log_number;
  previous_log = l.previous_log;
  next_file = IfSome_then (live_after edits).next_file l.next_file (λ n most. omega (arith, most));
  given = l.next_file;
  last_sequence = l.last_sequence;
}

free_is_left : (edits : List Edit) (set : VersionSetValue) (n : ℕ) → set.given ≡ Some n
    → IsLeftBy edits set → IsLeftBy edits (with_number_free set n)
free_is_left edits set n e l = record {
  full = l.full;
  writable = l.writable;
  no_numbers = l.no_numbers;
  comparator = l.comparator;
  log_number = l.log_number;
  previous_log = l.previous_log;
  next_file = IfSome_then (live_after edits).next_file l.given
      (λ k h. subst (λ o. IfSome o (λ given. k ≤ given)) e h);
  given = no_condition (live_after edits).next_file;
  last_sequence = l.last_sequence;
}

used_is_left : (edits : List Edit) (set : VersionSetValue) (n : ℕ) → IsLeftBy edits set
    → IsLeftBy edits (with_numbers_used set n)
used_is_left edits set n l = record {
  full = l.full;
  writable = l.writable;
  no_numbers = l.no_numbers;
  comparator = l.comparator;
  log_number = l.log_number;
  previous_log = l.previous_log;
  next_file = IfSome_then (live_after edits).next_file l.next_file
      (λ k most. let more = le-max_left set.next_file (n + 1) in omega (arith, most, more));
  given = no_condition (live_after edits).next_file;
  last_sequence = l.last_sequence;
}

numbered_is_left : (edits : List Edit) (set : VersionSetValue) (last : ℕ)
    → set.last_sequence ≤ last → IsLeftBy edits set
    → IsLeftBy edits (record set { last_sequence = last })
numbered_is_left edits set last later l = record {
  full = l.full;
  writable = l.writable;
  no_numbers = l.no_numbers;
  comparator = l.comparator;
  log_number = l.log_number;
  previous_log = l.previous_log;
  next_file = l.next_file;
  given = l.given;
  last_sequence = IfSome_then (live_after edits).last_sequence l.last_sequence
      (λ n most. omega (arith, most, later));
}

module _ (store : List ℕ) (files now : Files) (edits : List Edit)
    (current : now (current_path store) ≡ files (current_path store))
    (named : (name : List ℕ) → NamesManifest store files name
    → now (in_folder store name) ≡ files (in_folder store name)) where
  abbrev still_has : HasEdits store files edits → HasEdits store now edits
  still_has e = record {
    current = e.current;
    current_there = current ∙ e.current_there;
    name = e.name;
    number = e.number;
    named = e.named;
    manifest = e.manifest;
    there = named e.name (
      e.number,
      subst
          (λ o. IsSomeAnd o (λ (file : File). IsCurrentText (bytes_of file) e.name e.number))
          (sym e.current_there) e.named,
    )
        ∙ e.there;
    is = e.is;
  }

  still_in_use : (manifest : OpenManifest) → IsInUse store files edits manifest
      → IsInUse store now edits manifest
  still_in_use manifest u = record {
    opened = record {
      has_edits = still_has u.opened.has_edits;
      current_kept = u.opened.current_kept;
      clean_end = u.opened.clean_end;
    };
    manifest_kept = u.manifest_kept;
    path = u.path;
    writer = u.writer;
  }

  still_below : (n : ℕ) → IsNumberedBelow store files edits n → IsNumberedBelow store now edits n
  still_below n b = record {
    has_edits = still_has b.has_edits;
    current_kept = b.current_kept;
    below = b.below;
    fits = b.fits;
  }

pub stays_tracked : (files : Files) (edits : List Edit) (set : VersionSetValue)
    → Tracks files edits set → StaysTracked files edits set
stays_tracked files edits set t = record {
  given = record {
    left = given_is_left edits set t.left;
    used = t.used;
    not_made = t.not_made;
  };
  free = λ n e. record {
    left = free_is_left edits set n e t.left;
    used = t.used;
    not_made = t.not_made;
  };
  used = λ n. record {
    left = used_is_left edits set n t.left;
    used = t.used;
    not_made = t.not_made;
  };
  numbered = λ last later. record {
    left = numbered_is_left edits set last later t.left;
    used = t.used;
    not_made = t.not_made;
  };
  others = λ now current named. record {
    left = t.left;
    used = λ manifest e. still_in_use set.store files now edits current named manifest
        (t.used manifest e);
    not_made = λ e. still_below set.store files now edits current named set.manifest_number
        (t.not_made e);
  };
}
