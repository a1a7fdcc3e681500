-- A new manifest in place of the one in use: what an engine does on the way keeps each history, and
-- then the set tracks it.
use Rattle.leveldb_base.proofs.HistoryLemmas.{in_cases, in_none}
use Rattle.leveldb_base.proofs.NamesLemmas.{made_name}
use Rattle.leveldb_base.specs.History.{History}
use Rattle.leveldb_base.specs.Names.{IsFileName, file_name}
use Rattle.leveldb_base.specs.Types.{Pair}
use Rattle.leveldb_base.specs.declared.types.FileType.{FileType}
use Rattle.leveldb_base.specs.declared.types.FileType.TheVariants.{Current, Descriptor, Log, Table, Temp}
use Rattle.leveldb_env.proofs.AppendedLemmas.{fine_kept, with_fine}
use Rattle.leveldb_env.proofs.EnvLemmas.{at_other, at_same, renamed-there, with_file-twice}
use Rattle.leveldb_env.specs.Env.{File, FileCrashesTo, Files, SameBut, bytes_of, deleted, in_folder, kept_file, renamed, with_file}
use Rattle.leveldb_mem.proofs.LawsLemmas.{framing_reads, records_framed, usual_size}
use Rattle.leveldb_mem.specs.Log.{IsLogFile, clean, framed_record, log_block_size, offset_after}
use Rattle.leveldb_mem.specs.Log.Writer.{new_writer}
use Rattle.leveldb_files.proofs.Steps.BytesLemmas.{bytes_stay}
use Rattle.leveldb_files.proofs.Edits.CurrentLemmas.{one_current, written_current}
use Rattle.leveldb_files.proofs.Steps.KeepsLemmas.{rename_keeps, unread_keeps}
use Rattle.leveldb_version_set.proofs.Sets.LogKeepsLemmas.{bytes_of_some, keeps_then, record_some}
use Rattle.leveldb_files.proofs.Stores.ManagedLemmas.{SameFor, kinds_apart, managed_on, numbers_apart, same_bytes, same_for_others}
use Rattle.leveldb_files.proofs.Stores.ManifestLemmas.{left_whole, managed_of}
use Rattle.leveldb_files.proofs.Histories.SafeLemmas.{by_name, cut_honest, cut_leaves, cut_off, honest_with, leaves_with, some_is}
use Rattle.leveldb_files.proofs.Steps.StaysLemmas.{full_edits_refine, refine_onwards}
use Rattle.leveldb_version_set.proofs.Sets.TracksLemmas.{left_then, not_unmade, numbers_are, one_in_use}
use Rattle.leveldb_files.proofs.Steps.UnreadLemmas.{other_unread, unread_stays_safe}
use Rattle.leveldb_files.proofs.Edits.EditLemmas.{written_is_read}
use Rattle.leveldb_files.proofs.Edits.VersionSetLemmas.{full_edit_replaces}
use Rattle.leveldb_files.specs.Stores.Batches.{Each}
use Rattle.leveldb_files.specs.Stores.Contents.{Contents, Store}
use Rattle.leveldb_files.specs.Edits.Current.{IsCurrentText, current_text}
use Rattle.leveldb_version_set.specs.Sets.CurrentFile.{temp_path}
use Rattle.leveldb_files.specs.Histories.Holds.{Carries}
use Rattle.leveldb_version_set.specs.Sets.LogEdit.{edit_record, new_manifest, new_records, set_begun, written_edit}
use Rattle.leveldb_version_set.specs.Sets.NewManifest.{MakingManifest, manifest_bytes, with_manifest}
use Rattle.leveldb_files.specs.Stores.Paths.{current_path, manifest_path, table_path}
use Rattle.leveldb_files.specs.Stores.Store.{HasEdits, IsManifest, IsStore, LastNumbersFit}
use Rattle.leveldb_files.specs.Steps.StoreSteps.{AppendedAreBytes, EditRefines, EditsRefine, HasNextCurrent, IsUnread, KeepsHistory, SameButNextFile}
use Rattle.leveldb_version_set.specs.Sets.Tracks.{IsInUse, IsNumberedBelow, Tracks}
use Rattle.leveldb_files.specs.Edits.Edit.{Edit, IsEdit, IsEncodable, edit_bytes}
use Rattle.leveldb_files.specs.Edits.VersionSet.{FileSet, IsFullEdit, level_file, live_after}
use Rattle.leveldb_version_set.specs.Sets.VersionSetValue.{VersionSetValue, in_use, unmade}
use Rattle.std.proofs.Common.{◌++◌, ◌+◌, ◌%◌, ◌<◌, ◌^◌, ◌∙◌, ◌∷◌, ◌≡◌, All, List, None, Option, Some, [], ap, append-nil, arith, false, inl, inr, ⊎_elim, length, length-append, refl, subst, sym, true, ℕ}
use Rattle.std.proofs.Math.Nat.{mod-add-mod}
use Rattle.std.proofs.lemmas.List.Elements.{All-cons, All-nil, Contains-push}
use Rattle.std.specs.Prelude.{◌≢◌, Contains, IsSome}
use Rattle.std.specs.Str.{bytes_eq}
use Rattle.std.specs.declared.cmp.Ordering.{Ordering}

-- ---- the files on the way

module _ (store : List ℕ) (n : ℕ) (fits : n < 2 ^ 64) where
  abbrev pub new_path : List ℕ
  new_path = manifest_path store n

  abbrev pub text_path : List ℕ
  text_path = temp_path store n

  abbrev pub to : List ℕ
  to = current_path store

  pub manifest_named : IsFileName (file_name Descriptor n) n Descriptor
  manifest_named = made_name Descriptor n fits

  pub temp_named : IsFileName (file_name Temp n) n Temp
  temp_named = made_name Temp n fits

  pub current_named : IsFileName (file_name Current 0) 0 Current
  current_named = made_name Current 0 refl

  pub manifest_to : bytes_eq new_path to ≡ false
  manifest_to = kinds_apart store (file_name Descriptor n) (file_name Current 0) n 0 Descriptor
      Current manifest_named current_named (λ d. cc)

  pub to_manifest : bytes_eq to new_path ≡ false
  to_manifest = kinds_apart store (file_name Current 0) (file_name Descriptor n) 0 n Current
      Descriptor current_named manifest_named (λ d. cc)

  pub temp_to : bytes_eq text_path to ≡ false
  temp_to = kinds_apart store (file_name Temp n) (file_name Current 0) n 0 Temp Current temp_named
      current_named (λ d. cc)

  pub temp_manifest : bytes_eq text_path new_path ≡ false
  temp_manifest = kinds_apart store (file_name Temp n) (file_name Descriptor n) n n Temp Descriptor
      temp_named manifest_named (λ d. cc)

  abbrev pub text_file : Option File
  text_file = Some (kept_file (current_text n))

  module _ (bytes : List ℕ) (files : Files) where
    -- the manifest is there
    abbrev pub step_one : Files
    step_one = with_file new_path (Some (kept_file bytes)) files

    -- so is the temporary file
    abbrev pub step_two : Files
    step_two = with_file text_path text_file step_one

    -- `CURRENT` names the manifest
    abbrev pub step_three : Files
    step_three = with_file to text_file (deleted text_path step_two)

    pub renamed_is : renamed text_path to step_two ≡ step_three
    renamed_is = renamed-there text_path to step_two (kept_file (current_text n))
        (at_same text_path text_file step_one)

    pub step_three_is : step_three ≡ with_manifest store n bytes files
    step_three_is = ap (with_file to text_file) (with_file-twice text_path None text_file step_one)

    manifest_in_two : step_two new_path ≡ Some (kept_file bytes)
    manifest_in_two = at_other text_path text_file step_one new_path temp_manifest
        ∙ at_same new_path (Some (kept_file bytes)) files

    pub next_current : (edits : List Edit) → IsManifest (kept_file bytes) edits
        → HasNextCurrent store step_two (file_name Temp n) edits
    next_current edits is = record {
      temp_number = n;
      temp_name = temp_named;
      text = kept_file (current_text n);
      text_there = at_same text_path text_file step_one;
      text_kept = refl;
      name = file_name Descriptor n;
      number = n;
      named = subst (λ b. IsCurrentText b (file_name Descriptor n) n)
          (sym (append-nil (current_text n))) (written_current n fits);
      manifest = kept_file bytes;
      manifest_there = manifest_in_two;
      manifest_kept = refl;
      is = is;
    }

    module _ (old_bytes : AppendedAreBytes files) where
      pub one_bytes : AppendedAreBytes step_one
      one_bytes = with_fine new_path (Some (kept_file bytes)) files old_bytes (fine_kept bytes)

      pub two_bytes : AppendedAreBytes step_two
      two_bytes = with_fine text_path text_file step_one one_bytes (fine_kept (current_text n))

      pub three_bytes : AppendedAreBytes step_three
      three_bytes = with_fine to text_file (deleted text_path step_two)
          ((bytes_stay step_two two_bytes).delete text_path) (fine_kept (current_text n))

    module _ (now : Files) (making : MakingManifest store n bytes files now) where
      -- a file of another type is as it was
      pub elsewhere : (name : List ℕ) (k : ℕ) (kind : FileType) → IsFileName name k kind
          → Descriptor ≢ kind → Temp ≢ kind → Current ≢ kind
          → now (in_folder store name) ≡ files (in_folder store name)
      elsewhere name k kind is no_manifest no_temp no_current = making.others (in_folder store name)
          (kinds_apart store (file_name Descriptor n) name n k Descriptor kind manifest_named is
          no_manifest)
          (kinds_apart store (file_name Temp n) name n k Temp kind temp_named is no_temp)
          (kinds_apart store (file_name Current 0) name 0 k Current kind current_named is
          no_current)

      pub same_set : (set : FileSet) → SameFor store set files now
      same_set set = record {
        tables = λ file small live.
            same_bytes (files (table_path store file.number)) (now (table_path store file.number))
            (elsewhere (file_name Table file.number) file.number Table
            (made_name Table file.number small) (λ d. cc) (λ d. cc) (λ d. cc));
        logs = λ name k is replayed.
            same_bytes (files (in_folder store name)) (now (in_folder store name))
            (elsewhere name k Log is (λ d. cc) (λ d. cc) (λ d. cc));
      }

      -- while `CURRENT` is as it was, only the manifest and the temporary file differ
      abbrev pub half_way : Files
      half_way = with_file new_path (now new_path) files

      pub half_same : SameBut new_path files half_way
      half_same other away = at_other new_path (now new_path) files other away

      pub then_same : now to ≡ files to → SameBut text_path half_way now
      then_same same other apart =
          by_name (λ q. now q ≡ half_way q) new_path other
          (sym (at_same new_path (now new_path) files))
          (λ away. by_name (λ q. now q ≡ half_way q) to other
          (same ∙ sym (at_other new_path (now new_path) files to manifest_to))
          (λ far. making.others other away apart far
          ∙ sym (at_other new_path (now new_path) files other away)))

      -- once it names the manifest, only the temporary file differs from what the rename left
      pub three_same : now to ≡ text_file → now new_path ≡ Some (kept_file bytes)
          → SameBut text_path step_three now
      three_same current manifest other apart =
          by_name (λ q. now q ≡ step_three q) to other
          (current ∙ sym (at_same to text_file (deleted text_path step_two)))
          (λ far. by_name (λ q. now q ≡ step_three q) new_path other
          (manifest ∙ sym (at_other to text_file (deleted text_path step_two) new_path to_manifest
          ∙ at_other text_path None step_two new_path temp_manifest ∙ manifest_in_two))
          (λ away. making.others other away apart far
          ∙ sym (at_other to text_file (deleted text_path step_two) other far
          ∙ at_other text_path None step_two other apart
          ∙ at_other text_path text_file step_one other apart
          ∙ at_other new_path (Some (kept_file bytes)) files other away)))

-- ---- a manifest of records

pub framed_is_read : (records : List (List ℕ)) → All (λ text. text ≢ []) records
    → IsLogFile (bytes_of (kept_file (manifest_bytes records))) records clean
framed_is_read records some =
    subst (λ b. IsLogFile b records clean) (sym (append-nil (manifest_bytes records)))
    (framing_reads true log_block_size 0 records (manifest_bytes records)
    (records_framed log_block_size 0 records usual_size (omega arith) some))

pub framed_is_manifest : (records : List (List ℕ)) (edits : List Edit) → Each IsEdit records edits
    → All (λ text. text ≢ []) records → IsManifest (kept_file (manifest_bytes records)) edits
framed_is_manifest records edits each some = record {
  records = records;
  end = clean;
  read = framed_is_read records some;
  each = each;
}

-- the two edits of a new manifest
module _ (files : Files) (edits : List Edit) (set : VersionSetValue) (edit : Edit)
    (tracks : Tracks files edits set) (can : IsEncodable (written_edit set edit)) where
  abbrev written : Edit
  written = written_edit set edit

  full_some : edit_bytes set.full ≢ []
  full_some = bytes_of_some set.full tracks.left.writable
      (λ e. let never : false ≡ true = subst (λ (it : Edit). IsSome it.comparator) e
      tracks.left.comparator in cc)

  pub both_some : All (λ text. text ≢ []) (new_records set edit)
  both_some =
      let P : List ℕ → Type 0 = λ text. text ≢ [] in
      All-cons P (edit_bytes set.full) (edit_record set edit ∷ []) full_some
      (All-cons P (edit_record set edit) [] (record_some set edit can) (All-nil P))

  pub both_read : Each IsEdit (new_records set edit) (set.full ∷ written ∷ [])
  both_read = (
    written_is_read set.full tracks.left.writable,
    (written_is_read written can, tt),
  )

  -- the first one alone is all that there was
  first_full : IsFullEdit (live_after (set.full ∷ [])) set.full
  first_full =
      let same = full_edit_replaces edits set.full tracks.left.full [] in
      let is = subst (λ those. IsFullEdit (live_after those) set.full) (sym (append-nil edits))
      tracks.left.full in
      record {
        comparator = is.comparator ∙ sym same.comparator;
        pointers = λ level. is.pointers level ∙ sym (same.pointer level);
        deleted = is.deleted;
        added = record {
          live = λ file. (
            λ c. same.file (level_file file) ∙ (is.added.live file).0 c,
            λ e. (is.added.live file).1 (sym (same.file (level_file file)) ∙ e),
          );
          once = is.added.once;
        };
      }

  -- both leave the same files and numbers as all edits and the one
  pub both_same : SameButNextFile (live_after (edits ++ written ∷ []))
      (live_after (set.full ∷ written ∷ []))
  both_same =
      let same = full_edit_replaces edits set.full tracks.left.full (written ∷ []) in
      let old = numbers_are edits set edit in
      let new = numbers_are (set.full ∷ []) set edit in
      record {
        file = λ file. same.file (level_file file);
        comparator = same.comparator;
        log_number = new.log_number ∙ sym old.log_number;
        previous_log = new.previous_log ∙ sym old.previous_log;
        next_file = subst IsSome (sym new.next_file) refl;
        last_sequence = new.last_sequence ∙ sym old.last_sequence;
      }

  pub both_fit : LastNumbersFit (edits ++ written ∷ []) → LastNumbersFit (set.full ∷ written ∷ [])
  both_fit fit one n c is = ⊎_elim
      (λ (first : set.full ≡ one). absurd
      (let never : None ≡ Some n = sym tracks.left.no_numbers.last_sequence
      ∙ subst (λ (it : Edit). it.last_sequence ≡ Some n) (sym first) is in cc))
      (λ (rest : Contains (written ∷ []) one). ⊎_elim
      (λ (second : written ≡ one).
      fit one n (subst (Contains (edits ++ written ∷ [])) second (Contains-push edits written)) is)
      (λ (none : Contains [] one). absurd (in_none one none))
      (in_cases written one [] rest))
      (in_cases set.full one (written ∷ []) c)

  -- the set after it
  module _ (made : set.manifest ≡ unmade) where
    abbrev n : ℕ
    n = set.manifest_number

    b : IsNumberedBelow set.store files edits n
    b = tracks.not_made made

    abbrev bytes : List ℕ
    bytes = manifest_bytes (new_records set edit)

    abbrev then_files : Files
    then_files = with_manifest set.store n bytes files

    writer_is : (new_manifest set edit).writer
        ≡ new_writer log_block_size (length (bytes_of (kept_file bytes)) % log_block_size)
    writer_is =
        let one = framed_record log_block_size (edit_bytes set.full) 0 in
        let two = framed_record log_block_size (edit_record set edit)
        (offset_after log_block_size 0 one) in
        let first = length-append one (two ++ []) in
        let second = length-append two [] in
        let third = length-append (one ++ (two ++ [])) [] in
        let total : 0 + length one + length two ≡ length (bytes_of (kept_file bytes))
        = omega (arith, first, second, third) in
        ap (new_writer log_block_size) (mod-add-mod (0 + length one) log_block_size (length two)
        ∙ ap (λ k. k % log_block_size) total)

    begun_in_use : IsInUse set.store then_files (set.full ∷ written ∷ []) (new_manifest set edit)
    begun_in_use =
        let fits = b.fits in
        let to = current_path set.store in
        let path = manifest_path set.store n in
        let text = text_path set.store n fits in
        let one = step_one set.store n fits bytes files in
        record {
          opened = record {
            has_edits = record {
              current = kept_file (current_text n);
              current_there = at_same to (Some (kept_file (current_text n))) (deleted text one);
              name = file_name Descriptor n;
              number = n;
              named = subst (λ t. IsCurrentText t (file_name Descriptor n) n)
                  (sym (append-nil (current_text n))) (written_current n fits);
              manifest = kept_file bytes;
              there = at_other to (Some (kept_file (current_text n))) (deleted text one) path
                  (to_manifest set.store n fits)
                  ∙ at_other text None one path (temp_manifest set.store n fits)
                  ∙ at_same path (Some (kept_file bytes)) files;
              is = record {
                records = new_records set edit;
                end = clean;
                read = framed_is_read (new_records set edit) both_some;
                each = both_read;
              };
            };
            current_kept = refl;
            clean_end = framed_is_read (new_records set edit) both_some;
          };
          manifest_kept = refl;
          path = refl;
          writer = writer_is;
        }

    pub begun_is_tracked : Tracks then_files (set.full ∷ written ∷ []) (set_begun set edit)
    begun_is_tracked = record {
      left = left_then (set.full ∷ []) set edit (in_use (new_manifest set edit)) first_full
          tracks.left.writable tracks.left.no_numbers tracks.left.comparator can;
      used = λ other e. subst (IsInUse set.store then_files (set.full ∷ written ∷ []))
          (one_in_use (new_manifest set edit) other e) begun_in_use;
      not_made = λ e. not_unmade (new_manifest set edit) e;
    }

-- ---- histories

module _ (store : List ℕ) (cmp : List ℕ → List ℕ → Ordering)
    (IsTableOf : List ℕ → List Pair → Type 0) where
  abbrev reads : Files → Contents → Type 0
  reads = IsStore store cmp IsTableOf

  -- what refines does so for files that differ at one name that is no table's and no log's
  refines_with : (name : List ℕ) (k : ℕ) (kind : FileType) → IsFileName name k kind → kind ≢ Table
      → kind ≢ Log → (bound : ℕ) (old new : Files) (edits others : List Edit)
      → SameBut (in_folder store name) old new
      → EditsRefine store cmp IsTableOf bound old edits others
      → EditsRefine store cmp IsTableOf bound new edits others
  refines_with name k kind is no_table no_log bound old new edits others same refines left contents
      leaves honest most m =
      let path = in_folder store name in
      let before : Files = with_file path (cut_off (old path)) left in
      let then = refines before contents
      (leaves_with path old new left (cut_off (old path)) same leaves (cut_leaves (old path)))
      (honest_with store path old new left (cut_off (old path)) same honest
      (cut_honest (old path))) most
      (managed_on store cmp IsTableOf left before edits contents
      (same_for_others store cmp IsTableOf (live_after edits) name k kind left before is no_table
      no_log (λ other away. at_other path (cut_off (old path)) left other away)) m) in (
        then.0,
        managed_on store cmp IsTableOf before left others then.0
            (same_for_others store cmp IsTableOf (live_after others) name k kind before left is
            no_table no_log
            (λ other away. sym (at_other path (cut_off (old path)) left other away))) then.1,
        then.2,
      )

  module _ (allowed : Store → Type 0) (files : Files) (edits : List Edit) (n : ℕ)
      (b : IsNumberedBelow store files edits n) (old_bytes : AppendedAreBytes files)
      (bytes : List ℕ) (others : List Edit)
      (is_manifest : IsManifest (kept_file bytes) others) (bound : ℕ)
      (refines : EditsRefine store cmp IsTableOf bound (step_two store n b.fits bytes files) edits
      others) where
    abbrev e : HasEdits store files edits
    e = b.has_edits

    abbrev old_path : List ℕ
    old_path = in_folder store e.name

    abbrev one : Files
    one = step_one store n b.fits bytes files

    abbrev two : Files
    two = step_two store n b.fits bytes files

    abbrev three : Files
    three = step_three store n b.fits bytes files

    old_apart : bytes_eq (manifest_path store n) old_path ≡ false
    old_apart = numbers_apart store (file_name Descriptor n) e.name n e.number Descriptor Descriptor
        (manifest_named store n b.fits) e.named.0 (λ same. omega (arith, same, b.below))

    temp_old : bytes_eq (temp_path store n) old_path ≡ false
    temp_old = kinds_apart store (file_name Temp n) e.name n e.number Temp Descriptor
        (temp_named store n b.fits) e.named.0 (λ d. cc)

    to_old : bytes_eq (current_path store) old_path ≡ false
    to_old = kinds_apart store (file_name Current 0) e.name 0 e.number Current Descriptor
        (current_named store n b.fits) e.named.0 (λ d. cc)

    -- the new manifest isn't read: `CURRENT` names another one, now and after a crash
    new_unread : IsUnread store files (manifest_path store n)
    new_unread = record {
      not_current = manifest_to store n b.fits;
      not_manifest = λ left file name k leaves honest there named.
          let to = current_path store in
          let c = left_whole e.current (left to) b.current_kept
          (subst (λ f. FileCrashesTo f (left to)) e.current_there (leaves to)) in
          let same = some_is file c.now (sym there ∙ c.there) in
          let text : bytes_of file ≡ bytes_of e.current = ap bytes_of same ∙ c.bytes in
          let alike = one_current (bytes_of e.current) name e.name k e.number
          (subst (λ t. IsCurrentText t name k) text named) e.named in
          subst (λ other. bytes_eq (manifest_path store n) (in_folder store other) ≡ false)
          (sym alike.0) old_apart;
      unnamed = λ left those leaves honest has. record {
        tables = λ file small live. kinds_apart store (file_name Descriptor n)
            (file_name Table file.number) n file.number Descriptor Table
            (manifest_named store n b.fits) (made_name Table file.number small) (λ d. cc);
        logs = λ name k is replayed. kinds_apart store (file_name Descriptor n) name n k Descriptor
            Log (manifest_named store n b.fits) is (λ d. cc);
      };
      bare = inl (λ none. let never : Some e.current ≡ None = sym e.current_there ∙ none in cc);
    }

    temp_unread : (any : Files) → IsUnread store any (temp_path store n)
    temp_unread any = other_unread store cmp IsTableOf any (file_name Temp n) n Temp
        (temp_named store n b.fits) (λ d. cc) (λ d. cc) (λ d. cc) (λ d. cc)

    two_edits : HasEdits store two edits
    two_edits = record {
      current = e.current;
      current_there = at_other (temp_path store n) (text_file store n b.fits) one
          (current_path store) (temp_to store n b.fits)
          ∙ at_other (manifest_path store n) (Some (kept_file bytes)) files (current_path store)
          (manifest_to store n b.fits) ∙ e.current_there;
      name = e.name;
      number = e.number;
      named = e.named;
      manifest = e.manifest;
      there = at_other (temp_path store n) (text_file store n b.fits) one old_path temp_old
          ∙ at_other (manifest_path store n) (Some (kept_file bytes)) files old_path old_apart
          ∙ e.there;
      is = e.is;
    }

    keeps_three : KeepsHistory store cmp IsTableOf allowed bound files three
    keeps_three =
        keeps_then store cmp IsTableOf allowed bound files one three
        (unread_keeps store cmp IsTableOf allowed (manifest_path store n) files one
        (λ other away. at_other (manifest_path store n) (Some (kept_file bytes)) files other away)
        old_bytes new_unread bound)
        (keeps_then store cmp IsTableOf allowed bound one two three
        (unread_keeps store cmp IsTableOf allowed (temp_path store n) one two
        (λ other away. at_other (temp_path store n) (text_file store n b.fits) one other away)
        (one_bytes store n b.fits bytes files old_bytes) (temp_unread one) bound)
        (rename_keeps store cmp IsTableOf allowed two edits others two_edits
        (two_bytes store n b.fits bytes files old_bytes) (file_name Temp n)
        (next_current store n b.fits bytes files others is_manifest) bound refines three
        (inr (sym (renamed_is store n b.fits bytes files)))))

    module _ (now : Files) (making : MakingManifest store n bytes files now) where
      half_carries : now (current_path store) ≡ files (current_path store) → (history : History)
          → Carries store reads allowed bound history files
          → Carries store reads allowed bound history now
      half_carries same history c = record {
        contents = c.contents;
        read = inr (record {
          edits = edits;
          has_edits = record {
            current = e.current;
            current_there = same ∙ e.current_there;
            name = e.name;
            number = e.number;
            named = e.named;
            manifest = e.manifest;
            there = making.others old_path old_apart temp_old to_old ∙ e.there;
            is = e.is;
          };
          managed = managed_on store cmp IsTableOf files now edits c.contents
              (same_set store n b.fits bytes files now making (live_after edits))
              (managed_of store cmp IsTableOf files edits c.contents e c.read);
        });
        matches = c.matches;
      }

      half_keeps : now (current_path store) ≡ files (current_path store)
          → KeepsHistory store cmp IsTableOf allowed bound files now
      half_keeps same =
          let half = half_way store n b.fits bytes files now making in
          record {
            now = half_carries same;
            crash = λ durable history safe.
                unread_stays_safe store cmp IsTableOf (temp_path store n) half now
                (then_same store n b.fits bytes files now making same) (temp_unread half) allowed
                bound durable history
                (unread_stays_safe store cmp IsTableOf (manifest_path store n) files half
                (half_same store n b.fits bytes files now making) new_unread allowed bound durable
                history safe);
          }

      pub begun_keeps : KeepsHistory store cmp IsTableOf allowed bound files now
      begun_keeps = ⊎_elim half_keeps
          (λ (both : (now (current_path store) ≡ text_file store n b.fits)
          × (now (manifest_path store n) ≡ Some (kept_file bytes))).
          keeps_then store cmp IsTableOf allowed bound files three now keeps_three
          (unread_keeps store cmp IsTableOf allowed (temp_path store n) three now
          (three_same store n b.fits bytes files now making both.0 both.1)
          (three_bytes store n b.fits bytes files old_bytes) (temp_unread three) bound))
          making.current

  pub begun_edits_keep : (allowed : Store → Type 0) (files : Files) (edits : List Edit)
      (set : VersionSetValue) (edit : Edit) → Tracks files edits set → set.store ≡ store
      → AppendedAreBytes files → IsEncodable (written_edit set edit) → (bound : ℕ)
      → EditRefines store cmp IsTableOf bound files edits (written_edit set edit)
      → set.manifest ≡ unmade → (now : Files)
      → MakingManifest store set.manifest_number (manifest_bytes (new_records set edit)) files now
      → KeepsHistory store cmp IsTableOf allowed bound files now
  begun_edits_keep allowed files edits set edit tracks same old_bytes can bound refines made now
      making =
      begun_keeps allowed files edits n b old_bytes bytes others
      (framed_is_manifest (new_records set edit) others (both_read files edits set edit tracks can)
      (both_some files edits set edit tracks can)) bound
      (refine_onwards store cmp IsTableOf bound two edits then others
      (refines_with (file_name Temp n) n Temp (temp_named store n b.fits) (λ d. cc) (λ d. cc) bound
      one two edits then
      (λ other away. at_other (temp_path store n) (text_file store n b.fits) one other away)
      (refines_with (file_name Descriptor n) n Descriptor (manifest_named store n b.fits)
      (λ d. cc) (λ d. cc) bound files one edits then
      (λ other away. at_other (manifest_path store n) (Some (kept_file bytes)) files other away)
      refines))
      (λ left contents leaves honest most m.
      full_edits_refine store cmp IsTableOf bound two then others
      (both_same files edits set edit tracks can)
      (both_fit files edits set edit tracks can m.numbers_fit) left contents leaves honest most m))
      now making
    where
      n : ℕ
      n = set.manifest_number

      bytes : List ℕ
      bytes = manifest_bytes (new_records set edit)

      then : List Edit
      then = edits ++ written_edit set edit ∷ []

      others : List Edit
      others = set.full ∷ written_edit set edit ∷ []

      b : IsNumberedBelow store files edits n
      b = subst (λ s. IsNumberedBelow s files edits n) same (tracks.not_made made)

      one : Files
      one = step_one store n b.fits bytes files

      two : Files
      two = step_two store n b.fits bytes files
