-- A log of the next number is made: the set goes on to track the store, and batches may go on to
-- the log that they went to, or to the new one.
use Rattle.std.proofs.Common.{◌≡◌, ◌<◌, ◌≤◌, ◌^◌, ◌+◌, ◌∙◌, ◌⊎◌, inl, inr, ⊎_elim, ℕ, Bool, List, None, Option, Some, [], ap, arith, false, length, refl, subst, sym, true}
use Rattle.std.proofs.lemmas.Bool.{cases_lt}
use Rattle.std.specs.Cmp.Lexicographic.{bytes_decides}
use Rattle.std.specs.Prelude.{Contains}
use Rattle.std.specs.Str.{bytes_eq}
use Rattle.std.specs.declared.cmp.Ordering.{Ordering}
use Rattle.leveldb_base.proofs.HistoryLemmas.{in_none}
use Rattle.leveldb_base.proofs.NamesLemmas.{made_name}
use Rattle.leveldb_base.specs.History.{Entry}
use Rattle.leveldb_base.specs.Names.{IsFileName, file_name}
use Rattle.leveldb_base.specs.Types.{Pair}
use Rattle.leveldb_base.specs.declared.types.FileType.TheVariants.{Log, Table}
use Rattle.leveldb_env.proofs.EnvLemmas.{SameBut-emptied, at_same}
use Rattle.leveldb_env.specs.Env.{BeforeOrAfter, File, Files, SameBut, bytes_of, emptied, in_folder, kept_file, with_file}
use Rattle.leveldb_mem.specs.Log.{IsLogFile, clean}
use Rattle.leveldb_files.proofs.Steps.BytesLemmas.{bytes_stay}
use Rattle.leveldb_files.proofs.Steps.KeepsLemmas.{new_log_keeps}
use Rattle.leveldb_version_set.proofs.Engines.LogsBelowLemmas.{IsInFileBelow, below_in_files, below_in_logs, one_there, waiting_on}
use Rattle.leveldb_files.proofs.Stores.ManagedLemmas.{kinds_apart, numbers_apart, same_bytes}
use Rattle.leveldb_files.proofs.Stores.ManifestLemmas.{edits_on}
use Rattle.leveldb_files.proofs.Steps.NewLogLemmas.{empty_log, with_new_log}
use Rattle.leveldb_files.proofs.Stores.OneStoreLemmas.{one_log}
use Rattle.leveldb_files.proofs.Histories.SafeLemmas.{by_name, some_is}
use Rattle.leveldb_files.proofs.Steps.SameStoreLemmas.{made_is}
use Rattle.leveldb_version_set.proofs.Sets.TrackedLemmas.{log_is_no_manifest, log_is_not_current, next_is_free, number_still, numbered_up_to, numbers_still, tracks_still}
use Rattle.leveldb_version_set.proofs.Sets.TracksLemmas.{stays_tracked}
use Rattle.leveldb_files.specs.Stores.Batches.{all_entries}
use Rattle.leveldb_files.specs.Stores.Contents.{Store}
use Rattle.leveldb_files.specs.Stores.Paths.{current_path, log_path, table_path}
use Rattle.leveldb_files.specs.Stores.Store.{HasEdits, HasLog, IsManagedBy, LogIsReplayed, ReplayedLog}
use Rattle.leveldb_files.specs.Steps.StoreSteps.{AppendedAreBytes, IsAboveLogs, IsKept, IsLogOpen, IsWritable, MakesFile, TablesAreKept}
use Rattle.leveldb_version_set.specs.Sets.Tracks.{Tracks}
use Rattle.leveldb_files.specs.Edits.Edit.{Edit}
use Rattle.leveldb_files.specs.Edits.VersionSet.{live_after}
use Rattle.leveldb_version_set.specs.Sets.VersionSetValue.{VersionSetValue, with_number_given}
use Rattle.leveldb_version_set.specs.Engines.Writing.{EngineMemory, IsInLogBelow, IsTrackedBy, IsWrittenBy, NumbersAreBelow, switched_memory}
use Rattle.leveldb_version_set.specs.Engines.WritingLaws.{NewLogIsWritten}

module _ (store : List ℕ) (cmp : List ℕ → List ℕ → Ordering)
    (IsTableOf : List ℕ → List Pair → Type 0) where
  -- ---- the set tracks the store

  module _ (files : Files) (edits : List Edit) (set : VersionSetValue)
      (t : IsTrackedBy store cmp IsTableOf files edits set)
      (fits : set.next_file + 1 < 2 ^ 64) where
    abbrev path : List ℕ
    path = log_path store set.next_file

    pub small : set.next_file < 2 ^ 64
    small = omega (arith, fits)

    pub is_above : IsAboveLogs store files set.next_file
    is_above name k is some = t.numbers name k Log is some

    pub is_missing : files path ≡ None
    is_missing =
        next_is_free store cmp IsTableOf files edits set t Log set.next_file (omega arith) small

    module _ (now : Files) (makes : MakesFile path files now) where
      pub is_made : (now ≡ files) ⊎ (now ≡ with_file path (Some (kept_file [])) files)
      is_made = made_is path files now is_missing makes

      pub same : SameBut path files now
      same = SameBut-emptied path files now is_made

      pub current_apart : bytes_eq path (current_path store) ≡ false
      current_apart = log_is_not_current store cmp IsTableOf set.next_file small

      manifest_apart : bytes_eq path (in_folder store t.has_edits.name) ≡ false
      manifest_apart = log_is_no_manifest store cmp IsTableOf set.next_file small t.has_edits.name
          t.has_edits.number t.has_edits.named.0

      pub tracks_then : Tracks now edits (with_number_given set)
      tracks_then = (stays_tracked now edits set
          (tracks_still store cmp IsTableOf path files now edits set t same current_apart
          manifest_apart)).given

      pub has_edits_then : HasEdits store now edits
      has_edits_then = edits_on store cmp IsTableOf path files now edits t.has_edits same
          current_apart manifest_apart

      pub managed_then : IsManagedBy store cmp IsTableOf now edits t.contents
      managed_then = ⊎_elim
          (λ (is : now ≡ files). subst
          (λ f. IsManagedBy store cmp IsTableOf f edits t.contents) (sym is) t.managed)
          (λ (is : now ≡ with_file path (Some (kept_file [])) files). subst
          (λ f. IsManagedBy store cmp IsTableOf f edits t.contents) (sym is)
          (with_new_log store cmp IsTableOf files edits t.contents t.managed set.next_file small
          is_above))
          is_made

      pub numbers_then : NumbersAreBelow store now (set.next_file + 1)
      numbers_then = numbers_still store cmp IsTableOf path files now (set.next_file + 1) same
          (numbered_up_to store cmp IsTableOf (file_name Log set.next_file) set.next_file Log
          (made_name Log set.next_file small) (set.next_file + 1) (omega arith))
          (λ name k kind is some. let less = t.numbers name k kind is some in omega (arith, less))

      pub bytes_then : AppendedAreBytes now
      bytes_then = ⊎_elim
          (λ (is : now ≡ files). subst AppendedAreBytes (sym is) t.bytes)
          (λ (is : now ≡ with_file path (Some (kept_file [])) files).
          subst AppendedAreBytes (sym is) ((bytes_stay files t.bytes).empty path))
          is_made

      abbrev pub tracked_then : IsTrackedBy store cmp IsTableOf now edits (with_number_given set)
      tracked_then = record {
        tracks = tracks_then;
        store_is = t.store_is;
        has_edits = has_edits_then;
        contents = t.contents;
        managed = managed_then;
        numbers = numbers_then;
        manifest_below = omega (arith, t.manifest_below);
        number_is = λ manifest used.
            number_still store cmp IsTableOf path files now set.manifest_number same
            current_apart (t.number_is manifest used);
        bytes = bytes_then;
      }

  pub tracked_after_new_log : (files : Files) (edits : List Edit) (set : VersionSetValue)
      → IsTrackedBy store cmp IsTableOf files edits set → set.next_file + 1 < 2 ^ 64
      → (now : Files) → MakesFile (log_path store set.next_file) files now
      → IsTrackedBy store cmp IsTableOf now edits (with_number_given set)
  tracked_after_new_log files edits set t fits now makes =
      tracked_then files edits set t fits now makes

  -- ---- the store is written

  module _ (files : Files) (edits : List Edit) (memory : EngineMemory)
      (w : IsWrittenBy store cmp IsTableOf files edits memory)
      (fits : memory.set.next_file + 1 < 2 ^ 64) (now : Files)
      (passes : BeforeOrAfter (emptied (log_path store memory.set.next_file)) files now) where
    abbrev n : ℕ
    n = memory.set.next_file

    abbrev new_path : List ℕ
    new_path = log_path store n

    abbrev log : IsLogOpen store files (live_after edits)
    log = w.writable.log

    abbrev tracked : IsTrackedBy store cmp IsTableOf now edits (with_number_given memory.set)
    tracked = tracked_then files edits memory.set w.tracked fits now (inr passes)

    others_same : SameBut new_path files now
    others_same = same files edits memory.set w.tracked fits now (inr passes)

    n_small : n < 2 ^ 64
    n_small = small files edits memory.set w.tracked fits

    new_named : IsFileName (file_name Log n) n Log
    new_named = made_name Log n n_small

    no_current : bytes_eq new_path (current_path store) ≡ false
    no_current = log_is_not_current store cmp IsTableOf n n_small

    log_less : log.number < n
    log_less = w.tracked.numbers (file_name Log log.number) log.number Log
        (made_name Log log.number log.fits)
        (λ gone. let never : Some log.file ≡ None = sym log.there ∙ gone in cc)

    -- the new log is empty
    new_is : (file : File) → now new_path ≡ Some file → kept_file [] ≡ file
    new_is file there = ⊎_elim
        (λ (is : now ≡ files). absurd
        (let never : None ≡ Some file = sym (is_missing files edits memory.set w.tracked fits)
        ∙ sym (ap (λ (f : Files). f new_path) is) ∙ there in cc))
        (λ (is : now ≡ with_file new_path (Some (kept_file [])) files).
        some_is (kept_file []) file (sym (at_same new_path (Some (kept_file [])) files)
        ∙ sym (ap (λ (f : Files). f new_path) is) ∙ there))
        (is_made files edits memory.set w.tracked fits now (inr passes))

    new_kept : IsKept (now new_path)
    new_kept = by (now new_path) refl
      where
        by : (file : Option File) → now new_path ≡ file → IsKept file
        by None e = tt
        by (Some file) e = sym (ap (λ (f : File). f.since) (new_is file e))

    -- logs of smaller numbers are as they were
    log_same : (k : ℕ) → k < n → now (log_path store k) ≡ files (log_path store k)
    log_same k less = others_same (log_path store k)
        (numbers_apart store (file_name Log n) (file_name Log k) n k Log Log new_named
        (made_name Log k (omega (arith, less, fits))) (λ e. omega (arith, less, e)))

    -- a log that is there is the new one, or it was there and has a smaller number
    log_cases : (name : List ℕ) (k : ℕ) (file : File) → IsFileName name k Log
        → now (in_folder store name) ≡ Some file
        → (kept_file [] ≡ file) ⊎ ((k < n) × (files (in_folder store name) ≡ Some file))
    log_cases name k file is there = by (bytes_eq new_path (in_folder store name)) refl
      where
        by : (b : Bool) → bytes_eq new_path (in_folder store name) ≡ b
            → (kept_file [] ≡ file) ⊎ ((k < n) × (files (in_folder store name) ≡ Some file))
        by true e = inl (new_is file
            (ap now ((bytes_decides new_path (in_folder store name)).0 e) ∙ there))
        by false e =
            let was = sym (others_same (in_folder store name) e) ∙ there in inr (
              w.tracked.numbers name k Log is
                  (λ gone. let never : Some file ≡ None = sym was ∙ gone in cc),
              was,
            )

    abbrev edits_then : HasEdits store now edits
    edits_then = record {
      current = w.writable.has_edits.current;
      current_there = others_same (current_path store) no_current
          ∙ w.writable.has_edits.current_there;
      name = w.writable.has_edits.name;
      number = w.writable.has_edits.number;
      named = w.writable.has_edits.named;
      manifest = w.writable.has_edits.manifest;
      there = others_same (in_folder store w.writable.has_edits.name)
          (log_is_no_manifest store cmp IsTableOf n n_small w.writable.has_edits.name
          w.writable.has_edits.number w.writable.has_edits.named.0)
          ∙ w.writable.has_edits.there;
      is = w.writable.has_edits.is;
    }

    tables_then : TablesAreKept store now (live_after edits)
    tables_then one one_fits live = subst IsKept
        (sym (others_same (table_path store one.number)
        (kinds_apart store (file_name Log n) (file_name Table one.number) n one.number Log Table
        new_named (made_name Table one.number one_fits) (λ e. cc))))
        (w.writable.tables one one_fits live)

    -- ---- with the log before

    abbrev writable_then : IsWritable store now edits
    writable_then = record {
      has_edits = edits_then;
      current = w.writable.current;
      manifest = w.writable.manifest;
      tables = tables_then;
      log = record {
        number = log.number;
        fits = log.fits;
        last = record {
          replayed = log.last.replayed;
          empty_after = λ name k file is replayed less there. ⊎_elim
              (λ (new : kept_file [] ≡ file). sym (ap bytes_of new))
              (λ (old : (k < n) × (files (in_folder store name) ≡ Some file)).
              log.last.empty_after name k file is replayed less old.1)
              (log_cases name k file is there);
          others_kept = λ name k is replayed differ.
              by_name (λ p. IsKept (now p)) new_path (in_folder store name) new_kept
              (λ away. subst IsKept (sym (others_same (in_folder store name) away))
              (log.last.others_kept name k is replayed differ));
        };
        clean_before = λ k file less replayed there. log.clean_before k file less replayed
            (sym (log_same k (omega (arith, less, log_less))) ∙ there);
        file = log.file;
        there = log_same log.number log_less ∙ log.there;
        records = log.records;
        clean_end = log.clean_end;
        batches = log.batches;
        each = log.each;
      };
      bytes = w.writable.bytes;
    }

    written_still : IsWrittenBy store cmp IsTableOf now edits
        (record memory { set = with_number_given memory.set })
    written_still = record {
      tracked = tracked;
      manifest = w.manifest;
      is_in_use = w.is_in_use;
      writable = writable_then;
      log_is = w.log_is;
      from_log = w.from_log;
      mem_is = w.mem_is;
      imm_is = waiting_on store cmp IsTableOf files now (live_after edits)
          w.tracked.managed.logs tracked.managed.logs memory.log w.tracked.managed.has_logs
          tracked.managed.has_logs
          (λ k less small. same_bytes (files (log_path store k)) (now (log_path store k))
          (log_same k (omega (arith, less, log_less, w.log_is)))) memory.imm w.imm_is;
      reached = w.reached;
      last_fits = w.last_fits;
    }

    -- ---- with the new log

    module _ (there : now new_path ≡ Some (kept_file []))
        (kept : IsKept (files (log_path store memory.log))) (none : memory.imm ≡ []) where
      new_replayed : LogIsReplayed (live_after edits) n
      new_replayed = inl (
        memory.set.log_number,
        w.tracked.tracks.left.log_number,
        omega (arith, w.from_log, log_less, w.log_is),
      )

      -- the logs before are kept
      was_kept : (name : List ℕ) (k : ℕ) → IsFileName name k Log
          → LogIsReplayed (live_after edits) k → IsKept (files (in_folder store name))
      was_kept name k is replayed =
          by_name (λ p. IsKept (files p)) (log_path store log.number) (in_folder store name)
          (subst (λ m. IsKept (files (log_path store m))) (sym w.log_is) kept)
          (λ away. log.last.others_kept name k is replayed
          (λ e. let never : false ≡ true = sym away
          ∙ (bytes_decides (log_path store log.number) (in_folder store name)).1
          (ap (in_folder store) (sym e)) in cc))

      -- a log above the one before is empty
      empty_above : (k : ℕ) (file : File) → log.number < k → k < n
          → LogIsReplayed (live_after edits) k → files (log_path store k) ≡ Some file
          → bytes_of file ≡ []
      empty_above k file more less replayed is = log.last.empty_after (file_name Log k) k file
          (made_name Log k (omega (arith, less, fits))) replayed more is

      -- and all of them end cleanly
      were_clean : (k : ℕ) (file : File) → k < n → LogIsReplayed (live_after edits) k
          → files (log_path store k) ≡ Some file
          → (records : List (List ℕ)) × IsLogFile (bytes_of file) records clean
      were_clean k file less replayed is = ⊎_elim
          (λ (before : k < log.number). log.clean_before k file before replayed is)
          (λ (from : log.number ≤ k). ⊎_elim
          (λ (more : log.number < k). (
            [],
            subst (λ b. IsLogFile b [] clean) (sym (empty_above k file more less replayed is))
                refl,
          ))
          (λ (to : k ≤ log.number). let number : log.number ≡ k = omega (arith, from, to) in
          let its = some_is log.file file
          (sym log.there ∙ ap (λ m. files (log_path store m)) number ∙ is) in
          (log.records, subst (λ f. IsLogFile (bytes_of f) log.records clean) its log.clean_end))
          (cases_lt log.number k))
          (cases_lt k log.number)

      abbrev writable_new : IsWritable store now edits
      writable_new = record {
        has_edits = edits_then;
        current = w.writable.current;
        manifest = w.writable.manifest;
        tables = tables_then;
        log = record {
          number = n;
          fits = omega (arith, fits);
          last = record {
            replayed = new_replayed;
            empty_after = λ name k file is replayed less found. ⊎_elim
                (λ (new : kept_file [] ≡ file). sym (ap bytes_of new))
                (λ (old : (k < n) × (files (in_folder store name) ≡ Some file)).
                absurd (omega (arith, less, old.0)))
                (log_cases name k file is found);
            others_kept = λ name k is replayed differ.
                by_name (λ p. IsKept (now p)) new_path (in_folder store name) new_kept
                (λ away. subst IsKept (sym (others_same (in_folder store name) away))
                (was_kept name k is replayed));
          };
          clean_before = λ k file less replayed found.
              were_clean k file less replayed (sym (log_same k less) ∙ found);
          file = kept_file [];
          there = there;
          records = [];
          clean_end = refl;
          batches = [];
          each = tt;
        };
        bytes = λ i. omega arith;
      }

      -- the log before, as it is read
      abbrev read_log : ReplayedLog
      read_log = record {
        number = log.number;
        batches = log.batches;
        end = clean;
        size = length (bytes_of log.file);
      }

      has_read : HasLog store files read_log
      has_read = (
        log.file,
        log.there,
        record {
          records = log.records;
          read = log.clean_end;
          each = log.each;
          size = refl;
        },
      )

      has_now : HasLog store now read_log
      has_now = (has_read.0, log_same log.number log_less ∙ has_read.1, has_read.2)

      mem_wait : (entry : Entry) → Contains memory.mem entry
          → IsInLogBelow tracked.managed.logs n entry
      mem_wait entry c = below_in_logs store now (live_after edits) tracked.managed.logs n
          entry tracked.managed.has_logs (record {
            log = read_log;
            has = has_now;
            replayed = log.last.replayed;
            less = log_less;
            fits = log.fits;
            is_entry = (w.mem_is entry).0 c;
          })

      are_mem : (entry : Entry) → IsInLogBelow tracked.managed.logs n entry
          → Contains memory.mem entry
      are_mem entry i = by_number (cases_lt f.log.number log.number)
          (cases_lt log.number f.log.number)
        where
          f : IsInFileBelow store now (live_after edits) n entry
          f = below_in_files store now (live_after edits) tracked.managed.logs n entry
              tracked.managed.has_logs i

          was : HasLog store files f.log
          was = (f.has.0, sym (log_same f.log.number f.less) ∙ f.has.1, f.has.2)

          by_number : (f.log.number < log.number) ⊎ (log.number ≤ f.log.number)
              → (log.number < f.log.number) ⊎ (f.log.number ≤ log.number)
              → Contains memory.mem entry
          by_number (inl less) up = absurd (in_none entry (subst (λ es. Contains es entry) none
              ((w.imm_is entry).1 (below_in_logs store files (live_after edits)
              w.tracked.managed.logs memory.log entry w.tracked.managed.has_logs (record {
                log = f.log;
                has = was;
                replayed = f.replayed;
                less = omega (arith, less, w.log_is);
                fits = f.fits;
                is_entry = f.is_entry;
              })))))
          by_number (inr from) (inl more) =
              let empty = empty_above f.log.number f.has.0 more f.less f.replayed was.1 in
              let none_there = one_log f.has.0 f.log (empty_log f.log.number) refl f.has.2
              (record {
                records = [];
                read = subst (λ b. IsLogFile b [] clean) (sym empty) refl;
                each = tt;
                size = sym (ap length empty);
              }) in
              absurd (in_none entry
              (subst (λ (l : ReplayedLog). Contains (all_entries l.batches) entry) none_there
              f.is_entry))
          by_number (inr from) (inr to) =
              let number : f.log.number ≡ log.number = omega (arith, from, to) in
              (w.mem_is entry).1
              (subst (λ (l : ReplayedLog). Contains (all_entries l.batches) entry)
              (one_there store files f.log read_log number was has_read) f.is_entry)

      written_new : IsWrittenBy store cmp IsTableOf now edits (switched_memory memory)
      written_new = record {
        tracked = tracked;
        manifest = w.manifest;
        is_in_use = w.is_in_use;
        writable = writable_new;
        log_is = refl;
        from_log = omega (arith, w.from_log, log_less, w.log_is);
        mem_is = λ entry. (λ c. c, λ c. c);
        imm_is = λ entry. (mem_wait entry, are_mem entry);
        reached = w.reached;
        last_fits = w.last_fits;
      }

    pub new_log_written : (allowed : Store → Type 0)
        → NewLogIsWritten store cmp IsTableOf allowed files edits memory now
    new_log_written allowed = record {
      keeps = λ bound. new_log_keeps store cmp IsTableOf allowed files n (omega (arith, fits))
          (is_above files edits memory.set w.tracked fits)
          (λ gone. let never : Some w.writable.has_edits.current ≡ None =
          sym w.writable.has_edits.current_there ∙ gone in cc)
          (is_missing files edits memory.set w.tracked fits) bound now (inr passes);
      stays = written_still;
      switches = written_new;
    }
