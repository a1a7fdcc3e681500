-- A store stays open for writing: after a batch is appended to the last log, and after a sync of
-- it; and its manifest is open after an edit is appended.
use Rattle.std.specs.Prelude.{◌≢◌}
use Rattle.std.proofs.Common.{◌≡◌, ◌<◌, ◌^◌, inr, ℕ, Bool, List, [], ◌∷◌, ◌++◌, length, true, false, refl, sym, ◌∙◌, subst, arith, append-nil, append_assoc, Some}
use Rattle.std.specs.Str.{bytes_eq}
use Rattle.std.specs.Cmp.Lexicographic.{bytes_decides}
use Rattle.std.specs.declared.cmp.Ordering.{Ordering}
use Rattle.leveldb_base.proofs.NamesLemmas.{made_name}
use Rattle.leveldb_base.specs.History.{Item}
use Rattle.leveldb_base.specs.Names.{IsFileName, file_name}
use Rattle.leveldb_base.specs.Types.{Pair}
use Rattle.leveldb_base.specs.declared.types.FileType.TheVariants.{Current, Descriptor, Log, Table}
use Rattle.leveldb_env.proofs.EnvLemmas.{SameBut-appending, SameBut-synced, appended, extended-same, synced-same}
use Rattle.leveldb_env.specs.Env.{AreBytes, File, Files, SameBut, bytes_of, extended, file_kept, in_folder, longer_file, synced}
use Rattle.leveldb_mem.proofs.LawsLemmas.{log_laws}
use Rattle.leveldb_mem.specs.Log.{IsLogFile, clean, frame_at}
use Rattle.leveldb_mem.specs.WriteBatch.{Batch, BatchOf, batch_of}
use Rattle.leveldb_files.proofs.Histories.BatchMatchesLemmas.{batch_some}
use Rattle.leveldb_files.proofs.Stores.BatchesLemmas.{each_more}
use Rattle.leveldb_files.proofs.Stores.ManagedLemmas.{kinds_apart, numbers_apart, same_name}
use Rattle.leveldb_files.specs.Stores.Batches.{Each, IsRecordOf}
use Rattle.leveldb_files.specs.Stores.Paths.{current_path, log_path, table_path}
use Rattle.leveldb_files.specs.Steps.StoreSteps.{AppendedAreBytes, IsKept, IsManifestOpen, IsWritable}
use Rattle.leveldb_files.specs.Edits.Edit.{Edit, IsEdit, NewFile}

module _ (store : List ℕ) (cmp : List ℕ → List ℕ → Ordering)
    (IsTableOf : List ℕ → List Pair → Type 0) where
  -- the last log has another file, and no other file changes
  module _ (files now : Files) (edits : List Edit) (w : IsWritable store files edits) (same : SameBut (log_path store w.log.number) files now)
      (file : File) (there : now (log_path store w.log.number) ≡ Some file)
      (bytes : AreBytes file.since) (records : List (List ℕ))
      (clean_end : IsLogFile (bytes_of file) records clean) (batches : List Batch)
      (each : Each IsRecordOf records batches) where
    abbrev path : List ℕ
    path = log_path store w.log.number

    pub named : IsFileName (file_name Log w.log.number) w.log.number Log
    named = made_name Log w.log.number w.log.fits

    pub table_apart : (one : NewFile) → one.number < 2 ^ 64
        → bytes_eq path (table_path store one.number) ≡ false
    table_apart one fits =
        kinds_apart store (file_name Log w.log.number) (file_name Table one.number) w.log.number
        one.number Log Table named (made_name Table one.number fits) (λ e. cc)

    pub other_name : (name : List ℕ) → name ≢ file_name Log w.log.number
        → bytes_eq path (in_folder store name) ≡ false
    other_name name differ = by (bytes_eq path (in_folder store name)) refl
      where
        by : (b : Bool) → bytes_eq path (in_folder store name) ≡ b
            → bytes_eq path (in_folder store name) ≡ false
        by false e = e
        by true e = absurd (differ (sym (same_name store (file_name Log w.log.number) name
            ((bytes_decides path (in_folder store name)).0 e))))

    pub current_apart : bytes_eq path (current_path store) ≡ false
    current_apart = kinds_apart store (file_name Log w.log.number) (file_name Current 0) w.log.number 0
        Log Current named (made_name Current 0 refl) (λ e. cc)

    pub manifest_apart : bytes_eq path (in_folder store w.has_edits.name) ≡ false
    manifest_apart = kinds_apart store (file_name Log w.log.number) w.has_edits.name w.log.number
        w.has_edits.number Log Descriptor named w.has_edits.named.0 (λ e. cc)

    -- the logs before it and after it are at other paths
    pub after_apart : (name : List ℕ) (n : ℕ) → IsFileName name n Log → w.log.number < n
        → bytes_eq path (in_folder store name) ≡ false
    after_apart name n is less = numbers_apart store (file_name Log w.log.number) name w.log.number n
        Log Log named is (λ e. omega (arith, less, e))

    pub before_apart : (n : ℕ) → n < w.log.number → bytes_eq path (log_path store n) ≡ false
    before_apart n less = numbers_apart store (file_name Log w.log.number) (file_name Log n)
        w.log.number n Log Log named (made_name Log n (omega (arith, less, w.log.fits)))
        (λ e. omega (arith, less, e))

    abbrev pub writable_with : IsWritable store now edits
    writable_with = record {
      has_edits = record {
        current = w.has_edits.current;
        current_there = same (current_path store) current_apart ∙ w.has_edits.current_there;
        name = w.has_edits.name;
        number = w.has_edits.number;
        named = w.has_edits.named;
        manifest = w.has_edits.manifest;
        there = same (in_folder store w.has_edits.name) manifest_apart ∙ w.has_edits.there;
        is = w.has_edits.is;
      };
      current = w.current;
      manifest = w.manifest;
      tables = λ one fits live. subst IsKept
          (sym (same (table_path store one.number) (table_apart one fits)))
          (w.tables one fits live);
      log = record {
        number = w.log.number;
        fits = w.log.fits;
        last = record {
          replayed = w.log.last.replayed;
          empty_after = λ name n other is replayed less found.
              w.log.last.empty_after name n other is replayed less
              (sym (same (in_folder store name) (after_apart name n is less)) ∙ found);
          others_kept = λ name n is replayed differ.
              subst IsKept (sym (same (in_folder store name) (other_name name differ)))
              (w.log.last.others_kept name n is replayed differ);
        };
        clean_before = λ n other less replayed found.
            w.log.clean_before n other less replayed
            (sym (same (log_path store n) (before_apart n less)) ∙ found);
        file = file;
        there = there;
        records = records;
        clean_end = clean_end;
        batches = batches;
        each = each;
      };
      bytes = bytes;
    }

  abbrev pub append_stays_writable : (files : Files) (edits : List Edit) (w : IsWritable store files edits)
      → (first : ℕ) (items : List Item) (text : List ℕ) → BatchOf text first items
      → AppendedAreBytes (extended (log_path store w.log.number)
      (frame_at (length (bytes_of w.log.file)) text) files)
      → IsWritable store (extended (log_path store w.log.number)
      (frame_at (length (bytes_of w.log.file)) text) files) edits
  append_stays_writable files edits w first items text is bytes =
      writable_with files now edits w
      (SameBut-appending path frame files now (appended path frame files))
      (longer_file frame w.log.file) there (bytes path (longer_file frame w.log.file) there)
      (w.log.records ++ text ∷ []) read (w.log.batches ++ batch_of first items ∷ [])
      (each_more IsRecordOf w.log.records w.log.batches text (batch_of first items) w.log.each is)
    where
      path : List ℕ
      path = log_path store w.log.number

      frame : List ℕ
      frame = frame_at (length (bytes_of w.log.file)) text

      now : Files
      now = extended path frame files

      there : now path ≡ Some (longer_file frame w.log.file)
      there = extended-same path frame files w.log.file w.log.there

      read : IsLogFile (bytes_of (longer_file frame w.log.file)) (w.log.records ++ text ∷ []) clean
      read = subst (λ b. IsLogFile b (w.log.records ++ text ∷ []) clean)
          (append_assoc w.log.file.kept w.log.file.since frame)
          (log_laws.more (bytes_of w.log.file) w.log.records text
          (batch_some text first items is) w.log.clean_end)

  abbrev pub sync_stays_writable : (files : Files) (edits : List Edit) (w : IsWritable store files edits)
      → IsWritable store (synced (log_path store w.log.number) files) edits
  sync_stays_writable files edits w =
      writable_with files (synced path files) edits w
      (SameBut-synced path files (synced path files) (inr refl)) (file_kept w.log.file)
      (synced-same path files w.log.file w.log.there) (λ i. omega arith) w.log.records
      (subst (λ b. IsLogFile b w.log.records clean) (sym (append-nil (bytes_of w.log.file)))
      w.log.clean_end) w.log.batches w.log.each
    where
      path : List ℕ
      path = log_path store w.log.number

-- ---- the manifest

pub edit_stays_open : (store : List ℕ) (files : Files) (edits : List Edit)
    (m : IsManifestOpen store files edits) (text : List ℕ) → text ≢ [] → (edit : Edit)
    → IsEdit text edit
    → IsManifestOpen store (extended (in_folder store m.has_edits.name)
    (frame_at (length (bytes_of m.has_edits.manifest)) text) files) (edits ++ edit ∷ [])
edit_stays_open store files edits m text some edit is = record {
  has_edits = record {
    current = m.has_edits.current;
    current_there = SameBut-appending path frame files (extended path frame files)
        (appended path frame files) (current_path store)
        (kinds_apart store m.has_edits.name (file_name Current 0) m.has_edits.number 0 Descriptor
        Current m.has_edits.named.0 (made_name Current 0 refl) (λ e. cc))
        ∙ m.has_edits.current_there;
    name = m.has_edits.name;
    number = m.has_edits.number;
    named = m.has_edits.named;
    manifest = longer_file frame m.has_edits.manifest;
    there = extended-same path frame files m.has_edits.manifest m.has_edits.there;
    is = record {
      records = m.has_edits.is.records ++ text ∷ [];
      end = clean;
      read = read;
      each = each_more IsEdit m.has_edits.is.records edits text edit m.has_edits.is.each is;
    };
  };
  current_kept = m.current_kept;
  clean_end = read;
}
  where
    path : List ℕ
    path = in_folder store m.has_edits.name

    frame : List ℕ
    frame = frame_at (length (bytes_of m.has_edits.manifest)) text

    read : IsLogFile (bytes_of (longer_file frame m.has_edits.manifest))
        (m.has_edits.is.records ++ text ∷ []) clean
    read = subst (λ b. IsLogFile b (m.has_edits.is.records ++ text ∷ []) clean)
        (append_assoc m.has_edits.manifest.kept m.has_edits.manifest.since frame)
        (log_laws.more (bytes_of m.has_edits.manifest) m.has_edits.is.records text some
        m.clean_end)
