-- What an honest crash leaves of a store: a store again, with fewer edits at the end of its
-- manifest and fewer batches at the end of its last log.
use Rattle.leveldb_base.proofs.HistoryLemmas.{in_none}
use Rattle.leveldb_base.proofs.NamesLemmas.{made_name}
use Rattle.leveldb_base.specs.History.{Entry, greatest}
use Rattle.leveldb_base.specs.Names.{IsFileName, file_name}
use Rattle.leveldb_base.specs.Types.{Pair}
use Rattle.leveldb_base.specs.declared.types.FileType.TheVariants.{Log, Table}
use Rattle.leveldb_env.proofs.EnvLemmas.{at_other, at_same}
use Rattle.leveldb_env.specs.Env.{File, FileCrashesTo, Files, FilesCrashTo, SameBut, bytes_of, file_kept, in_folder, kept_file, with_file}
use Rattle.leveldb_mem.proofs.LawsLemmas.{crash_leaves, each_reads, log_laws, usual_size}
use Rattle.leveldb_mem.specs.Log.{End, HonestTail, IsLogFile, clean, log_block_size}
use Rattle.leveldb_mem.specs.WriteBatch.{Batch}
use Rattle.leveldb_files.proofs.Stores.BatchesLemmas.{each_take}
use Rattle.leveldb_files.proofs.Stores.KeptLemmas.{kept_left}
use Rattle.leveldb_files.proofs.Stores.LastLogLemmas.{batches_now, batches_were, before_it, with_now}
use Rattle.leveldb_files.proofs.Stores.ManagedLemmas.{IsFoundAgain, SameBytes, found_again, kinds_apart, managed_on}
use Rattle.leveldb_files.proofs.Stores.ManifestLemmas.{left_whole}
use Rattle.leveldb_files.proofs.Histories.SafeLemmas.{Honest, some_is}
use Rattle.leveldb_files.specs.Stores.Batches.{AreInOrder, Each, IsRecordOf, all_entries, batch_entries}
use Rattle.leveldb_files.specs.Stores.Contents.{Contents}
use Rattle.leveldb_files.specs.Edits.Current.{IsCurrentText}
use Rattle.leveldb_files.specs.Histories.Holds.{IsHonest}
use Rattle.leveldb_files.specs.Levels.Levels.{table_entries}
use Rattle.leveldb_files.specs.Stores.Paths.{current_path, log_path, table_path}
use Rattle.leveldb_files.specs.Stores.Store.{IsManagedBy, LogIsReplayed, ReplayedLog}
use Rattle.leveldb_files.specs.Steps.StoreSteps.{AreCleanBefore, IsCutTo, IsCutStore, IsCuttable, IsTornJournal, IsKeptButLog}
use Rattle.leveldb_files.specs.Edits.Edit.{Edit, IsEdit}
use Rattle.leveldb_files.specs.Edits.VersionSet.{live_after}
use Rattle.std.proofs.Common.{◌++◌, ◌<◌, ◌^◌, ◌∙◌, ◌∷◌, ◌≡◌, ◌≤◌, ◌⊎◌, Bool, List, Option, Some, [], ap, append-nil, arith, false, inl, inr, length, length-append, refl, subst, suc, sym, take, true, zero, ℕ, ⊎_elim}
use Rattle.std.proofs.lemmas.List.{nil_from_length}
use Rattle.std.proofs.lemmas.List.Elements.{Contains-append_cases, Contains-append_left, Contains-append_right}
use Rattle.std.specs.Cmp.Lexicographic.{bytes_decides}
use Rattle.std.specs.Option.{option_map}
use Rattle.std.specs.Prelude.{Contains, max}
use Rattle.std.specs.Str.{bytes_eq}
use Rattle.std.specs.declared.cmp.Ordering.{Ordering}

-- ---- a journal

pub record IsJournalLeft (least : ℕ) (written : List (List ℕ)) (left : Option File) : Type 0 where
  pub now : File
  pub there : left ≡ Some now
  pub count : ℕ
  pub enough : least ≤ count
  pub fits : count ≤ length written
  pub end : End
  pub read : IsLogFile (bytes_of now) (take count written) end

pub journal_left : (file : File) (kept written : List (List ℕ)) (left : Option File)
    → IsTornJournal file kept written → FileCrashesTo (Some file) left → Honest (Some file) left
    → IsJournalLeft (length kept) written left
journal_left file kept written left j leaves honest =
    let now = kept_file (file.kept ++ leaves.0) in
    let found = each_reads true log_block_size 0 (file.kept ++ leaves.0) usual_size in
    let honest_here : HonestTail log_block_size (file.kept ++ file.since)
    (file.kept ++ leaves.0) =
    subst (λ b. HonestTail log_block_size (bytes_of file) b)
    (append-nil (file.kept ++ leaves.0)) (honest file now refl leaves.3) in
    let first = crash_leaves log_block_size file.kept file.since j.missing leaves.0 kept written
    j.records found.0 j.kept_end j.end found.1 usual_size j.kept_read j.read j.whole leaves.2
    honest_here found.2 in
    record {
      now = now;
      there = leaves.3;
      count = first.count;
      enough = first.enough;
      fits = first.there;
      end = found.1;
      read =
          subst (λ b. IsLogFile b (take first.count written) found.1)
          (sym (append-nil (file.kept ++ leaves.0)))
          (subst (λ rs. IsLogFile (file.kept ++ leaves.0) rs found.1) first.first found.2);
    }

-- ---- batches

order_take : (k low : ℕ) (batches : List Batch) → AreInOrder low batches
    → AreInOrder low (take k batches)
order_take zero low batches order = tt
order_take (suc k) low [] order = tt
order_take (suc k) low (batch ∷ batches) order = (
  order.0,
  order.1,
  order.2,
  order_take k (max low (greatest (batch_entries batch))) batches order.3,
)

order_cut : (k low : ℕ) (before batches : List Batch) → AreInOrder low (before ++ batches)
    → AreInOrder low (before ++ take k batches)
order_cut k low [] batches order = order_take k low batches order
order_cut k low (batch ∷ before) batches order = (
  order.0,
  order.1,
  order.2,
  order_cut k (max low (greatest (batch_entries batch))) before batches order.3,
)

in_cut : (k : ℕ) (batches : List Batch) (entry : Entry)
    → Contains (all_entries (take k batches)) entry → Contains (all_entries batches) entry
in_cut zero batches entry c = absurd (in_none entry c)
in_cut (suc k) [] entry c = absurd (in_none entry c)
in_cut (suc k) (batch ∷ batches) entry c = ⊎_elim
    (λ (here : Contains (batch_entries batch) entry). Contains-append_left (batch_entries batch)
    (all_entries batches) entry here)
    (λ (there : Contains (all_entries (take k batches)) entry). Contains-append_right
    (batch_entries batch) (all_entries batches) entry (in_cut k batches entry there))
    (Contains-append_cases (batch_entries batch) (all_entries (take k batches)) entry c)

each_length : {A B : Type 0} (R : A → B → Type 0) (xs : List A) (ys : List B) → Each R xs ys
    → length xs ≡ length ys
each_length R [] [] e = refl
each_length R (x ∷ xs) (y ∷ ys) e = ap suc (each_length R xs ys e.1)
each_length R [] (y ∷ ys) e = absurd e
each_length R (x ∷ xs) [] e = absurd e

-- ---- a store

module _ (store : List ℕ) (cmp : List ℕ → List ℕ → Ordering)
    (IsTableOf : List ℕ → List Pair → Type 0) where
  -- by one list of edits
  module _ (files left : Files) (edits : List Edit) (number : ℕ) (fits : number < 2 ^ 64)
      (s : IsKeptButLog store cmp IsTableOf files edits number) (leaves : FilesCrashTo files left)
      (file : File) (there : files (log_path store number) ≡ Some file)
      (written : List (List ℕ)) (end : End) (read : IsLogFile (bytes_of file) written end)
      (batches : List Batch) (each : Each IsRecordOf written batches) (now : File)
      (there_now : left (log_path store number) ≡ Some now) (k : ℕ) (now_end : End)
      (read_now : IsLogFile (bytes_of now) (take k written) now_end) where
    abbrev path : List ℕ
    path = log_path store number

    -- what is left, with all bytes of the last log
    abbrev whole : Files
    whole = with_file path (Some (file_kept file)) left

    whole_there : whole path ≡ Some (file_kept file)
    whole_there = at_same path (Some (file_kept file)) left

    named : IsFileName (file_name Log number) number Log
    named = made_name Log number fits

    at_log : SameBytes (files path) (whole path)
    at_log = ap (option_map bytes_of) whole_there ∙ ap (λ b. Some b) (append-nil (bytes_of file))
        ∙ sym (ap (option_map bytes_of) there)

    other_bytes : (name : List ℕ) (n : ℕ) → IsFileName name n Log → LogIsReplayed (live_after edits) n
        → SameBytes (files (in_folder store name)) (whole (in_folder store name))
    other_bytes name n is replayed = by (bytes_eq path (in_folder store name)) refl
      where
        by : (b : Bool) → bytes_eq path (in_folder store name) ≡ b
            → SameBytes (files (in_folder store name)) (whole (in_folder store name))
        by true e =
            subst (λ p. SameBytes (files p) (whole p))
            ((bytes_decides path (in_folder store name)).0 e) at_log
        by false e =
            ap (option_map bytes_of)
            (at_other path (Some (file_kept file)) left (in_folder store name) e)
            ∙ kept_left (files (in_folder store name)) (left (in_folder store name))
            (s.logs.others_kept name n is replayed
            (λ same_name. let is_it : false ≡ true = sym e
            ∙ (bytes_decides path (in_folder store name)).1
            (ap (in_folder store) (sym same_name)) in cc))
            (leaves (in_folder store name))

    managed : IsManagedBy store cmp IsTableOf whole edits s.contents
    managed = managed_on store cmp IsTableOf files whole edits s.contents (record {
      tables = λ file' file_fits live.
          ap (option_map bytes_of)
          (at_other path (Some (file_kept file)) left (table_path store file'.number)
          (kinds_apart store (file_name Log number)
          (file_name Table file'.number) number file'.number Log Table named
          (made_name Table file'.number file_fits) (λ e. cc)))
          ∙ kept_left (files (table_path store file'.number)) (left (table_path store file'.number))
          (s.tables file' file_fits live) (leaves (table_path store file'.number));
      logs = other_bytes;
    }) s.managed

    -- each log has the bytes that it had
    found_log : (log : ReplayedLog) (c : Contains managed.logs log)
        → IsFoundAgain (managed.has_logs.each log c).0.0 (files (log_path store log.number))
    found_log log c =
        let h = managed.has_logs.each log c in
        found_again (whole (log_path store log.number))
        (files (log_path store log.number)) h.0.0
        (sym
        (other_bytes (file_name Log log.number) log.number (made_name Log log.number h.2) h.1))
        h.0.1

    empty_later : (log : ReplayedLog) → Contains managed.logs log → number < log.number
        → log.size ≡ 0
    empty_later log c less =
        let h = managed.has_logs.each log c in
        let again = found_log log c in
        let none = s.logs.empty_after (file_name Log log.number) log.number again.now
        (made_name Log log.number h.2) h.1 less again.there in
        h.0.2.size ∙ ap length (sym again.bytes ∙ none)

    -- what a crash leaves of an empty log is empty
    now_empty : bytes_of file ≡ [] → bytes_of now ≡ []
    now_empty none =
        let l = subst (λ f. FileCrashesTo f (left path)) there (leaves path) in
        let is = some_is now (kept_file (file.kept ++ l.0)) (sym there_now ∙ l.3) in
        let size = ap (λ f. length (bytes_of f)) is in
        let zero_size = ap length none in
        let one = length-append (file.kept ++ l.0) [] in
        let two = length-append file.kept l.0 in
        let three = length-append file.kept file.since in
        nil_from_length (bytes_of now) (omega (arith, size, zero_size, one, two, three, l.2))

    clean_earlier : (log : ReplayedLog) → Contains managed.logs log → log.number < number
        → (log.end ≡ clean) ⊎ (bytes_of now ≡ [])
    clean_earlier log c less = ⊎_elim
        (λ (are_clean : AreCleanBefore store files (live_after edits) number).
        let h = managed.has_logs.each log c in
        let again = found_log log c in
        let clean_read = are_clean log.number again.now less h.1 again.there in
        inl (log_laws.one (bytes_of h.0.0) h.0.2.records clean_read.0 log.end clean h.0.2.read
        (subst (λ b. IsLogFile b clean_read.0 clean) again.bytes clean_read.1)).1)
        (λ (none : (f : File) → files path ≡ Some f → bytes_of f ≡ []).
        inr (now_empty (none file there)))
        s.clean_before

    whole_read : IsLogFile (bytes_of (file_kept file)) written end
    whole_read = subst (λ b. IsLogFile b written end) (sym (append-nil (bytes_of file))) read

    same : SameBut path whole left
    same other away = sym (at_other path (Some (file_kept file)) left other away)

    rises : (before : List Batch) → greatest (all_entries (before ++ batches)) ≤ s.contents.last
        → AreInOrder 0 (before ++ batches) → AreInOrder 0 (before ++ take k batches)
    rises before low order = order_cut k 0 before batches order

    known : (later : Entry) → Contains (all_entries (take k batches)) later
        → Contains (all_entries batches) later ⊎ (s.contents.last < later.sequence)
    known later c = inl (in_cut k batches later c)

    -- the manifest's last number is what it was
    same_last : managed.last ≡ s.managed.last
    same_last = some_is managed.last s.managed.last (sym managed.last_is ∙ s.managed.last_is)

    pub cut_store : (c : Contents) × IsManagedBy store cmp IsTableOf left edits c
        × IsCutTo batches k s.managed.last s.contents c
    cut_store = let front = before_it store cmp IsTableOf whole left edits s.contents managed number fits
        s.logs.replayed empty_later same (file_kept file) now clean_earlier whole_there there_now written
        (take k written) end now_end whole_read read_now batches (take k batches) each
        (each_take IsRecordOf k written batches each) rises known in
        let m =
        with_now store cmp IsTableOf whole left edits s.contents managed number fits
        s.logs.replayed empty_later same (file_kept file) now clean_earlier whole_there there_now written
        (take k written) end now_end whole_read read_now
        batches (take k batches) each
        (each_take IsRecordOf k written batches each) rises known in
        let were = batches_were store cmp IsTableOf whole left edits s.contents managed number fits
        s.logs.replayed empty_later same (file_kept file) now clean_earlier whole_there there_now written
        (take k written) end now_end whole_read read_now batches (take k batches) each
        (each_take IsRecordOf k written batches each) rises known in
        let are = batches_now store cmp IsTableOf whole left edits s.contents managed number fits
        s.logs.replayed empty_later same (file_kept file) now clean_earlier whole_there there_now written
        (take k written) end now_end whole_read read_now
        batches (take k batches) each
        (each_take IsRecordOf k written batches each) rises known in (
          _,
          m,
          record {
            in_tables = table_entries managed.tables;
            before = front;
            old_entries = ap (λ (c : Contents). c.entries) managed.is
                ∙ ap (λ bs. table_entries managed.tables ++ all_entries bs) were;
            new_entries = ap (λ bs. table_entries managed.tables ++ all_entries bs) are;
            old_last = ap (λ (c : Contents). c.last) managed.is
                ∙ ap (λ bs. max managed.last (greatest (all_entries bs))) were
                ∙ ap (λ l. max l (greatest (all_entries (front ++ batches)))) same_last;
            new_last = ap (λ bs. max managed.last (greatest (all_entries bs))) are
                ∙ ap (λ l. max l (greatest (all_entries (front ++ take k batches)))) same_last;
            store = sym (ap (λ (c : Contents). c.store) managed.is);
          },
        )

  -- what an honest crash leaves of files whose manifest and last log it may cut
  pub crash_cuts : (files : Files) (edits : List Edit) (number : ℕ) (batches : List Batch)
      (kept_edits kept_batches : ℕ)
      (s : IsCuttable store cmp IsTableOf files edits number batches kept_edits kept_batches)
      (left : Files) → FilesCrashTo files left → IsHonest store files left
      → IsCutStore store cmp IsTableOf files edits number batches kept_edits kept_batches s left
  crash_cuts files edits number batches kept_edits kept_batches s left leaves honest =
      let e = s.has_edits in
      let path = log_path store number in
      let mpath = in_folder store e.name in
      let named = made_name Log number s.fits in
      let c = left_whole e.current (left (current_path store)) s.current_kept
      (subst (λ f. FileCrashesTo f (left (current_path store))) e.current_there
      (leaves (current_path store))) in
      let m = journal_left e.manifest s.manifest_kept e.is.records (left mpath) s.manifest
      (subst (λ f. FileCrashesTo f (left mpath)) e.there (leaves mpath))
      (λ was is was_is is_is. honest mpath was is (inr (e.name, e.number, e.named.0, refl))
      (e.there ∙ was_is) is_is) in
      let l = journal_left s.file s.log_kept s.log_written (left path) s.log
      (subst (λ f. FileCrashesTo f (left path)) s.there (leaves path))
      (λ was is was_is is_is. honest path was is
      (inl (file_name Log number, number, named, refl)) (s.there ∙ was_is) is_is) in
      let same_length = each_length IsEdit e.is.records edits e.is.each in
      let most : m.count ≤ length edits = omega (arith, m.fits, same_length) in
      let enough : kept_edits ≤ m.count = omega (arith, m.enough, s.kept_edits_are) in
      let found = cut_store files left (take m.count edits) number s.fits
      (s.each m.count enough most) leaves s.file s.there s.log_written s.log.end s.log.read
      batches s.each_batch l.now l.there l.count l.end l.read in
      record {
        count = m.count;
        enough = enough;
        there = most;
        k = l.count;
        enough_batches = omega (arith, l.enough, s.kept_batches_are);
        there_batches = (
            let n = each_length IsRecordOf s.log_written batches s.each_batch in
            omega (arith, l.fits, n)
            );
        has_edits = record {
          current = c.now;
          current_there = c.there;
          name = e.name;
          number = e.number;
          named = subst (λ b. IsCurrentText b e.name e.number) (sym c.bytes) e.named;
          manifest = m.now;
          there = m.there;
          is = record {
            records = take m.count e.is.records;
            end = m.end;
            read = m.read;
            each = each_take IsEdit m.count e.is.records edits e.is.each;
          };
        };
        contents = found.0;
        managed = found.1;
        cut = found.2;
      }
