-- A batch that takes the next numbers is appended to the log of a store that an engine writes: the
-- engine goes on to write it.
use Rattle.std.proofs.Common.{◌≡◌, ◌≤◌, ◌<◌, ◌+◌, ◌∙◌, inl, ⊎_elim, ℕ, List, None, Some, [], ◌∷◌, ◌++◌, ap, append-nil, append_assoc, arith, false, length, subst, sym}
use Rattle.std.proofs.lemmas.List.Elements.{Contains-append_cases, Contains-append_left, Contains-append_right}
use Rattle.std.specs.Prelude.{Contains}
use Rattle.std.specs.Str.{bytes_eq}
use Rattle.std.specs.declared.cmp.Ordering.{Ordering}
use Rattle.leveldb_base.proofs.NamesLemmas.{made_name}
use Rattle.leveldb_base.specs.History.{Entry, History, Item, greatest, placed}
use Rattle.leveldb_base.specs.KeyTypes.{greatest_sequence}
use Rattle.leveldb_base.specs.Names.{IsFileName, file_name}
use Rattle.leveldb_base.specs.Types.{Pair}
use Rattle.leveldb_base.specs.declared.types.FileType.TheVariants.{Log}
use Rattle.leveldb_env.proofs.EnvLemmas.{SameBut-appending, appended, extended-same}
use Rattle.leveldb_env.specs.Env.{AreBytes, Files, PrefixAppended, SameBut, bytes_of, extended, in_folder, longer_file, synced}
use Rattle.leveldb_mem.proofs.LawsLemmas.{log_laws}
use Rattle.leveldb_mem.specs.Log.{IsLogFile, clean, frame_at}
use Rattle.leveldb_mem.specs.WriteBatch.{Batch, BatchOf, batch_of}
use Rattle.leveldb_files.proofs.Histories.BatchMatchesLemmas.{batch_some}
use Rattle.leveldb_files.proofs.Stores.BatchesLemmas.{each_more}
use Rattle.leveldb_files.proofs.Steps.BytesLemmas.{bytes_stay}
use Rattle.leveldb_files.proofs.Stores.LastLogLemmas.{with_batches, with_more}
use Rattle.leveldb_version_set.proofs.Engines.LogsBelowLemmas.{waiting_on}
use Rattle.leveldb_files.proofs.Stores.LogsLemmas.{all_append}
use Rattle.leveldb_files.proofs.Stores.ManagedLemmas.{numbers_apart, same_bytes}
use Rattle.leveldb_files.proofs.Stores.ManifestLemmas.{edits_on}
use Rattle.leveldb_files.proofs.Histories.NumbersLemmas.{placed_greatest}
use Rattle.leveldb_version_set.proofs.Sets.TrackedLemmas.{log_is_no_manifest, log_is_not_current, number_still, numbered_up_to, numbers_still, tracks_still}
use Rattle.leveldb_version_set.proofs.Sets.TracksLemmas.{stays_tracked}
use Rattle.leveldb_files.proofs.Steps.WritableLemmas.{append_stays_writable}
use Rattle.leveldb_files.proofs.Steps.WritesLemmas.{batches_append, log_sync_holds}
use Rattle.leveldb_files.specs.Stores.Batches.{IsRecordOf, all_entries}
use Rattle.leveldb_files.specs.Stores.Contents.{Store}
use Rattle.leveldb_files.specs.Histories.Holds.{Holds}
use Rattle.leveldb_files.specs.Stores.Paths.{current_path, log_path}
use Rattle.leveldb_files.specs.Stores.Store.{HasEdits, IsManagedBy, IsStore, ReplayedLog, SameEntries}
use Rattle.leveldb_files.specs.Steps.StoreSteps.{AppendedAreBytes, IsLogOpen, IsWritable}
use Rattle.leveldb_version_set.specs.Sets.Tracks.{Tracks}
use Rattle.leveldb_files.specs.Edits.Edit.{Edit}
use Rattle.leveldb_files.specs.Edits.VersionSet.{live_after}
use Rattle.leveldb_version_set.specs.Engines.Writing.{EngineMemory, IsTrackedBy, IsWrittenBy, NumbersAreBelow}
use Rattle.leveldb_version_set.specs.Engines.WritingLaws.{BatchIsWritten}

-- the same entries on both sides, and more after them
same_with_more : (these those more : List Entry) → SameEntries these those
    → SameEntries (these ++ more) (those ++ more)
same_with_more these those more same entry = (
  λ c. ⊎_elim
      (λ (one : Contains these entry).
      Contains-append_left those more entry ((same entry).0 one))
      (λ (new : Contains more entry). Contains-append_right those more entry new)
      (Contains-append_cases these more entry c),
  λ c. ⊎_elim
      (λ (one : Contains those entry).
      Contains-append_left these more entry ((same entry).1 one))
      (λ (new : Contains more entry). Contains-append_right these more entry new)
      (Contains-append_cases those more entry c),
)

module _ (store : List ℕ) (cmp : List ℕ → List ℕ → Ordering)
    (IsTableOf : List ℕ → List Pair → Type 0) where
  module _ (files : Files) (edits : List Edit) (memory : EngineMemory)
      (w : IsWrittenBy store cmp IsTableOf files edits memory) (items : List Item)
      (text : List ℕ) (is_batch : BatchOf text (memory.set.last_sequence + 1) items)
      (first_fits : memory.set.last_sequence + 1 ≤ greatest_sequence)
      (all_fit : memory.set.last_sequence + length items ≤ greatest_sequence) where
    abbrev log : IsLogOpen store files (live_after edits)
    log = w.writable.log

    abbrev path : List ℕ
    path = log_path store log.number

    abbrev frame : List ℕ
    frame = frame_at (length (bytes_of log.file)) text

    abbrev now : Files
    now = extended path frame files

    abbrev last : ℕ
    last = memory.set.last_sequence

    abbrev batch : Batch
    batch = batch_of (last + 1) items

    named : IsFileName (file_name Log log.number) log.number Log
    named = made_name Log log.number log.fits

    others_same : SameBut path files now
    others_same = SameBut-appending path frame files now (appended path frame files)

    no_current : bytes_eq path (current_path store) ≡ false
    no_current = log_is_not_current store cmp IsTableOf log.number log.fits

    no_manifest : bytes_eq path (in_folder store w.tracked.has_edits.name) ≡ false
    no_manifest = log_is_no_manifest store cmp IsTableOf log.number log.fits
        w.tracked.has_edits.name w.tracked.has_edits.number w.tracked.has_edits.named.0

    -- ---- the set tracks the store

    tracks_then : Tracks now edits (record memory.set { last_sequence = last + length items })
    tracks_then = (stays_tracked now edits memory.set
        (tracks_still store cmp IsTableOf path files now edits memory.set w.tracked others_same
        no_current no_manifest)).numbered (last + length items) (omega arith)

    has_edits_then : HasEdits store now edits
    has_edits_then = edits_on store cmp IsTableOf path files now edits w.tracked.has_edits
        others_same no_current no_manifest

    empty_after : (other : ReplayedLog) → Contains w.tracked.managed.logs other
        → log.number < other.number → other.size ≡ 0
    empty_after other c more =
        let h = w.tracked.managed.has_logs.each other c in
        h.0.2.size ∙ ap length (log.last.empty_after (file_name Log other.number) other.number
        h.0.0 (made_name Log other.number h.2) h.1 more h.0.1)

    clean_before : (other : ReplayedLog) → Contains w.tracked.managed.logs other
        → other.number < log.number → other.end ≡ clean
    clean_before other c less =
        let h = w.tracked.managed.has_logs.each other c in
        let read = log.clean_before other.number h.0.0 less h.1 h.0.1 in
        (log_laws.one (bytes_of h.0.0) h.0.2.records read.0 other.end clean h.0.2.read read.1).1

    read_then : IsLogFile (bytes_of (longer_file frame log.file)) (log.records ++ text ∷ []) clean
    read_then = subst (λ b. IsLogFile b (log.records ++ text ∷ []) clean)
        (append_assoc log.file.kept log.file.since frame)
        (log_laws.more (bytes_of log.file) log.records text
        (batch_some text (last + 1) items is_batch) log.clean_end)

    managed_then : IsManagedBy store cmp IsTableOf now edits
        (with_batches w.tracked.contents (batch ∷ []))
    managed_then = with_more store cmp IsTableOf files now edits w.tracked.contents
        w.tracked.managed log.number log.fits log.last.replayed empty_after others_same log.file
        (longer_file frame log.file) (λ other c less. inl (clean_before other c less)) log.there
        (extended-same path frame files log.file log.there) log.records
        (log.records ++ text ∷ []) clean clean log.clean_end read_then log.batches (batch ∷ [])
        log.each (each_more IsRecordOf log.records log.batches text batch log.each is_batch) (
          omega (arith, w.reached),
          first_fits,
          omega (arith, placed_greatest last items, all_fit),
          tt,
        )

    numbers_then : NumbersAreBelow store now memory.set.next_file
    numbers_then = numbers_still store cmp IsTableOf path files now memory.set.next_file
        others_same
        (numbered_up_to store cmp IsTableOf (file_name Log log.number) log.number Log named
        memory.set.next_file
        (w.tracked.numbers (file_name Log log.number) log.number Log named
        (λ gone. let never : Some log.file ≡ None = sym log.there ∙ gone in cc)))
        w.tracked.numbers

    module _ (are : AreBytes frame) where
      bytes_then : AppendedAreBytes now
      bytes_then = (bytes_stay files w.tracked.bytes).append path frame are

      abbrev tracked : IsTrackedBy store cmp IsTableOf now edits
          (record memory.set { last_sequence = last + length items })
      tracked = record {
        tracks = tracks_then;
        store_is = w.tracked.store_is;
        has_edits = has_edits_then;
        contents = with_batches w.tracked.contents (batch ∷ []);
        managed = managed_then;
        numbers = numbers_then;
        manifest_below = w.tracked.manifest_below;
        number_is = λ manifest used.
            number_still store cmp IsTableOf path files now memory.set.manifest_number
            others_same no_current (w.tracked.number_is manifest used);
        bytes = bytes_then;
      }

      -- ---- the store is written

      abbrev writable : IsWritable store now edits
      writable = append_stays_writable store cmp IsTableOf files edits w.writable (last + 1)
          items text is_batch bytes_then

      entries_then : all_entries writable.log.batches
          ≡ all_entries log.batches ++ placed (last + 1) items
      entries_then = all_append log.batches (batch ∷ [])
          ∙ ap (λ es. all_entries log.batches ++ es) (append-nil (placed (last + 1) items))

      mem_then : (mem : List Entry)
          → SameEntries mem (memory.mem ++ placed (last + 1) items)
          → SameEntries mem (all_entries writable.log.batches)
      mem_then mem is = subst (SameEntries mem) (sym entries_then)
          (λ entry.
          let more = same_with_more memory.mem (all_entries log.batches)
          (placed (last + 1) items) w.mem_is entry in
          (λ c. more.0 ((is entry).0 c), λ c. (is entry).1 (more.1 c)))

      reached_then : tracked.contents.last ≤ last + length items
      reached_then =
          let g = ap greatest (append-nil (placed (last + 1) items)) in
          omega (arith, w.reached, placed_greatest last items, g)

      written_then : (mem : List Entry)
          → SameEntries mem (memory.mem ++ placed (last + 1) items)
          → IsWrittenBy store cmp IsTableOf now edits
          (record memory {
            set = record memory.set { last_sequence = last + length items };
            mem = mem;
          })
      written_then mem is = record {
        tracked = tracked;
        manifest = w.manifest;
        is_in_use = w.is_in_use;
        writable = writable;
        log_is = w.log_is;
        from_log = w.from_log;
        mem_is = mem_then mem is;
        imm_is = waiting_on store cmp IsTableOf files now (live_after edits)
            w.tracked.managed.logs tracked.managed.logs memory.log w.tracked.managed.has_logs
            tracked.managed.has_logs
            (λ k less small. same_bytes (files (log_path store k)) (now (log_path store k))
            (others_same (log_path store k)
            (numbers_apart store (file_name Log log.number) (file_name Log k) log.number k Log Log
            named (made_name Log k small) (λ e. omega (arith, e, less, w.log_is)))))
            memory.imm w.imm_is;
        reached = reached_then;
        last_fits = all_fit;
      }

    module _ (allowed : Store → Type 0) (history : History) (durable : ℕ)
        (holds : Holds store (IsStore store cmp IsTableOf) allowed files history last durable None)
      where
        pub batch_is_written : BatchIsWritten store cmp IsTableOf allowed files edits memory w
            history durable items text
        batch_is_written =
            let appends = batches_append store cmp IsTableOf allowed files edits w.writable history
            last durable holds items text is_batch first_fits all_fit in
            record {
              meanwhile = subst
                  (λ k. (after : Files) → PrefixAppended (log_path store k) frame files after
                  → Holds store (IsStore store cmp IsTableOf) allowed after history last durable
                  (Some (placed (last + 1) items))) w.log_is appends.meanwhile;
              after = subst
                  (λ k. Holds store (IsStore store cmp IsTableOf) allowed
                  (extended (log_path store k) frame files)
                  (history ++ placed (last + 1) items ∷ []) (last + length items) durable None)
                  w.log_is appends.after;
              written = λ are mem is. subst
                  (λ k. IsWrittenBy store cmp IsTableOf (extended (log_path store k) frame files)
                  edits
                  (record memory {
                    set = record memory.set { last_sequence = last + length items };
                    mem = mem;
                  })) w.log_is (written_then are mem is);
            }

  -- ---- a sync of the log

  pub synced_log_is_durable : (allowed : Store → Type 0) (files : Files) (edits : List Edit)
      (memory : EngineMemory) (w : IsWrittenBy store cmp IsTableOf files edits memory)
      (history : History) (durable : ℕ)
      → Holds store (IsStore store cmp IsTableOf) allowed files history memory.set.last_sequence
      durable None
      → Holds store (IsStore store cmp IsTableOf) allowed
      (synced (log_path store memory.log) files) history memory.set.last_sequence
      (length history) None
  synced_log_is_durable allowed files edits memory w history durable holds = subst
      (λ k. Holds store (IsStore store cmp IsTableOf) allowed (synced (log_path store k) files)
      history memory.set.last_sequence (length history) None) w.log_is
      (log_sync_holds store cmp IsTableOf allowed files edits w.writable history
      memory.set.last_sequence durable holds)
