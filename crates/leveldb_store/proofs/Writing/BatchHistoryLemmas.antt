-- What a batch makes of a store's history while its record comes to the log, and after it.
use Rattle.std.proofs.Common.{◌≡◌, ◌∙◌, ◌≤◌, ◌∷◌, ◌++◌, ◌+◌, ◌%◌, inl, inr, ⊎_elim, ℕ, Bool, true, false, List, [], length, None, Some, ap, append_assoc, arith, refl, subst, sym}
use Rattle.std.specs.declared.cmp.Ordering.{Ordering}
use Rattle.leveldb_base.specs.History.{Entry, History, Item, entries_of, greatest}
use Rattle.leveldb_base.specs.Types.{Pair}
use Rattle.leveldb_env.proofs.EnvLemmas.{Run-mono, appended, begun, extended-same}
use Rattle.leveldb_env.specs.Env.{AreBytes, File, Files, Observed, Run, bytes_of, extended, longer_file, synced}
use Rattle.leveldb_mem.proofs.LogLemmas.{offset_after_both}
use Rattle.leveldb_mem.specs.Log.{frame_at, log_block_size, offset_after}
use Rattle.leveldb_mem.specs.Log.Writer.{WriterState, after_frame, frame, new_writer}
use Rattle.leveldb_mem.specs.MemTable.{IsUnion, Kept}
use Rattle.leveldb_mem.specs.WriteBatch.{BatchOf}
use Rattle.leveldb_version_set.proofs.Engines.BatchWrittenLemmas.{batch_is_written, synced_log_is_durable}
use Rattle.leveldb_files.proofs.Steps.BytesLemmas.{bytes_stay}
use Rattle.leveldb_files.proofs.Steps.KeepsLemmas.{keeping_holds, sync_keeps}
use Rattle.leveldb_version_set.proofs.Sets.LogKeepsLemmas.{framed_are_bytes}
use Rattle.leveldb_files.proofs.Histories.NumbersLemmas.{placed_above, placed_length}
use Rattle.leveldb_files.specs.Stores.Contents.{Store}
use Rattle.leveldb_files.specs.Histories.Holds.{Carries, IsSafe}
use Rattle.leveldb_version_set.specs.Sets.LogEdit.{AppendingAndSyncing}
use Rattle.leveldb_files.specs.Stores.Paths.{table_path}
use Rattle.leveldb_files.specs.Stores.Store.{IsStore}
use Rattle.leveldb_files.specs.Steps.StoreSteps.{AppendedAreBytes}
use Rattle.leveldb_version_set.specs.Engines.Writing.{IsWrittenBy}
use Rattle.leveldb_version_set.specs.Engines.WritingLaws.{BatchIsWritten}
use Rattle.leveldb_store.proofs.Keeping.HistoryLemmas.{keeps_history}
use Rattle.leveldb_store.proofs.Writing.BatchShownLemmas.{batch_is_shown}
use Rattle.leveldb_store.proofs.Writing.SwitchLemmas.{shows_stay, tables_same, tables_stay, written_as}
use Rattle.leveldb_store.proofs.Writing.SyncBatchLemmas.{log_there, written_after_sync}
use Rattle.leveldb_store.proofs.Keeping.TableKeepsLemmas.{KeepsHistory-refl, appending_and_syncing}
use Rattle.leveldb_files.specs.Stores.Format.{IsTableOf, Meaning}
use Rattle.leveldb_store.specs.Keeping.OpenStore.{OpenStoreValue}
use Rattle.leveldb_store.specs.Writing.Write.{HasNumbers, logged, open_log_path, with_mem, with_writer}
use Rattle.leveldb_store.specs.Writing.WriteBatch.{AddsBatch, HoldsBatches, IsOf, LeavesHistory, next_batch}
use Rattle.leveldb_store.specs.Keeping.Written.{IsWritten, KeepsShown, memory_of}

-- the store after a batch of these items, whose record has this text
abbrev pub after_batch : {C : Type 0} → OpenStoreValue C → List Item → List ℕ → Kept
    → OpenStoreValue C
after_batch old items text mem = record old {
  set = record old.set { last_sequence = old.set.last_sequence + length items };
  log = record old.log { writer = after_frame old.log.writer text };
  mem = mem;
}

module _ {C : Type 0} (cmp : List ℕ → List ℕ → Ordering) (meaning : Meaning)
    (allowed : Store → Type 0) (old : OpenStoreValue C) (from : Observed) (history : History)
    (durable : ℕ) (is_of : IsOf cmp meaning allowed old from.disk.files history durable) where
  abbrev store : List ℕ
  store = old.set.store

  abbrev T : List ℕ → List Pair → Type 0
  T = IsTableOf cmp meaning

  abbrev files : Files
  files = from.disk.files

  abbrev w : IsWritten cmp meaning old files
  w = is_of.written

  abbrev last : ℕ
  last = old.set.last_sequence

  abbrev path : List ℕ
  path = open_log_path old

  abbrev log_file : File
  log_file = w.by.writable.log.file

  -- no entry of the history is past the last number
  reached : greatest (entries_of history) ≤ last
  reached = ⊎_elim of of is_of.holds.now
    where
      of : Carries store (IsStore store cmp T) allowed (last + 0) history files
          → greatest (entries_of history) ≤ last
      of c = let least = c.matches.reached in let most = c.matches.bounded in
          omega (arith, least, most)

  -- ---- where nothing came to the log

  -- there may be more room in the memtable
  pub room_leaves : (mem : Kept) → mem.entries ≡ old.mem.entries
      → LeavesHistory cmp meaning allowed old from history durable None (with_mem old mem)
      from
  room_leaves mem same = keeps_history cmp meaning allowed old (with_mem old mem) from from
      history durable is_of
      (record {
        moments = λ bound reached. begun from (KeepsHistory-refl files);
        written = λ unbroken. written_as cmp meaning (with_mem old mem) files w.edits
            (subst (λ es. IsWrittenBy store cmp T files w.edits
            (record (memory_of old) { mem = es })) (sym same) w.by) log_file
            (log_there cmp meaning allowed old files w) w.writer;
        shows = λ then since s. shows_stay cmp meaning old (with_mem old mem) files files then
            since refl refl same refl (λ file live. refl) s;
      }) refl refl

  -- ---- while the record comes to the log

  module _ (items : List Item) (text : List ℕ) (is_batch : BatchOf text (last + 1) items)
      (text_bytes : AreBytes text) (numbers : HasNumbers last (length items)) where
    abbrev batch : List Entry
    batch = next_batch old items

    abbrev framing : List ℕ
    framing = frame_at (length (bytes_of log_file)) text

    abbrev longer : Files
    longer = extended path framing files

    pub frame_is : frame old.log.writer text ≡ framing
    frame_is = ap (λ writer. frame writer text) w.writer

    written : BatchIsWritten store cmp T allowed files w.edits (memory_of old) w.by history durable
        items text
    written = batch_is_written store cmp T files w.edits (memory_of old) w.by items text is_batch
        numbers.0 numbers.1 allowed history durable is_of.holds

    framing_bytes : AreBytes framing
    framing_bytes = framed_are_bytes log_block_size text
        (length (bytes_of log_file) % log_block_size) text_bytes

    longer_bytes : AppendedAreBytes longer
    longer_bytes = (bytes_stay files w.by.tracked.bytes).append path framing framing_bytes

    pending_at : (now : Files) → AppendingAndSyncing path framing files now
        → HoldsBatches cmp meaning allowed old now history durable (Some batch)
    pending_at now (inl part) = written.meanwhile now part
    pending_at now (inr is) = subst
        (λ f. HoldsBatches cmp meaning allowed old f history durable (Some batch)) (sym is)
        (keeping_holds store cmp T allowed longer (synced path longer) history last durable
        (Some batch)
        (sync_keeps store cmp T allowed path longer (λ file here. longer_bytes path file here)
        (last + length batch))
        (written.meanwhile longer (appended path framing files)))

    module _ (to : Observed) (run : Run
        (AppendingAndSyncing path (frame old.log.writer text) files) from to) where
      run_framed : Run (AppendingAndSyncing path framing files) from to
      run_framed = subst (λ bytes. Run (AppendingAndSyncing path bytes files) from to) frame_is run

      -- no table changes
      tables_then : (number : ℕ)
          → to.disk.files (table_path store number) ≡ files (table_path store number)
      tables_then number = tables_same store old.log.number files to.disk.files
          (appending_and_syncing path framing files to.disk.files run_framed.has) number

      safe_run : (bound : ℕ) → bound ≡ last + length batch → Run
          (IsSafe store (IsStore store cmp T) allowed bound durable (history ++ batch ∷ [])) from
          to
      safe_run bound is = Run-mono
          (λ now part. subst
          (λ n. IsSafe store (IsStore store cmp T) allowed n durable (history ++ batch ∷ []) now)
          (sym is) (pending_at now part).crash) run_framed

      -- a writer that broke on the way
      pub pending_leaves : (writer : WriterState) → writer.broken ≡ true → (mem : Kept)
          → mem.entries ≡ old.mem.entries
          → LeavesHistory cmp meaning allowed old from history durable (Some batch)
          (with_writer (with_mem old mem) writer) to
      pending_leaves writer broken mem same = record {
        written = λ unbroken. let never : true ≡ false = sym broken ∙ unbroken.log in
            absurd (cc never);
        shows = λ since s. shows_stay cmp meaning old (with_writer (with_mem old mem) writer)
            files to.disk.files history since refl refl same refl
            (λ file live. tables_then file.number) s;
        holds = pending_at to.disk.files run_framed.has;
        moments = safe_run (last + length batch) refl;
      }

      -- ---- after it

      module _ (mem : Kept) (union : IsUnion old.mem.entries batch mem.entries) where
        abbrev new : OpenStoreValue C
        new = after_batch old items text mem

        writer_is : after_frame old.log.writer text
            ≡ new_writer log_block_size
            (length (bytes_of (longer_file framing log_file)) % log_block_size)
        writer_is =
            let size = log_block_size in
            let before : List ℕ = bytes_of log_file in
            let whole : List ℕ = bytes_of (longer_file framing log_file) in
            let start : length before ≡ 0 + length before = omega arith in
            let end : 0 + length whole ≡ length whole = omega arith in
            let offsets : offset_after size (length before % size) framing ≡ length whole % size =
            ap (λ n. offset_after size (n % size) framing) start
            ∙ offset_after_both size 0 before framing whole
            (sym (append_assoc log_file.kept log_file.since framing))
            ∙ ap (λ n. n % size) end in
            ap (λ writer. after_frame writer text) w.writer
            ∙ ap (new_writer size) offsets

        longer_is_of : IsOf cmp meaning allowed new longer (history ++ batch ∷ []) durable
        longer_is_of = record {
          written = written_as cmp meaning new longer w.edits
              (written.written framing_bytes mem.entries union) (longer_file framing log_file)
              (extended-same path framing files log_file
              (log_there cmp meaning allowed old files w))
              writer_is;
          holds = written.after;
        }

        synced_is_of : IsOf cmp meaning allowed new (synced path longer) (history ++ batch ∷ [])
            (length (history ++ batch ∷ []))
        synced_is_of = record {
          written = written_after_sync cmp meaning allowed new longer longer_is_of.written;
          holds = synced_log_is_durable store cmp T allowed longer longer_is_of.written.edits
              (memory_of new) longer_is_of.written.by (history ++ batch ∷ []) durable
              longer_is_of.holds;
        }

        moments_then : Run
            (IsSafe store (IsStore store cmp T) allowed ((last + length items) + 0) durable
            (history ++ batch ∷ [])) from to
        moments_then = safe_run ((last + length items) + 0)
            (omega (arith, placed_length (last + 1) items))

        -- what was shown is shown with the batch
        shows_then : KeepsShown cmp meaning old files history new to.disk.files
            (history ++ batch ∷ [])
        shows_then since s = record {
          tables = s.tables;
          has = tables_stay cmp meaning old new files to.disk.files s.tables refl refl
              (λ file live. tables_then file.number) s.has;
          shows = batch_is_shown cmp (memory_of old) (memory_of new) s.tables history batch since
              last reached (placed_above (last + 1) items last (omega arith)) union refl s.shows;
        }

        pub batch_added : (sync : Bool)
            → to.disk.files ≡ logged path (frame old.log.writer text) sync files
            → AddsBatch cmp meaning allowed old from history durable batch sync new to
        batch_added false is = record {
          durable_now = durable;
          grows = inl refl;
          synced = λ asked. let never : false ≡ true = asked in absurd (cc never);
          is_of = subst
              (λ f. IsOf cmp meaning allowed new f (history ++ batch ∷ []) durable)
              (sym (is ∙ ap (λ bytes. extended path bytes files) frame_is)) longer_is_of;
          shows = shows_then;
          moments = moments_then;
        }
        batch_added true is = record {
          durable_now = length (history ++ batch ∷ []);
          grows = inr refl;
          synced = λ asked. refl;
          is_of = subst
              (λ f. IsOf cmp meaning allowed new f (history ++ batch ∷ [])
              (length (history ++ batch ∷ [])))
              (sym (is ∙ ap (λ bytes. synced path (extended path bytes files)) frame_is))
              synced_is_of;
          shows = shows_then;
          moments = moments_then;
        }
