-- What a sync of the log makes of a store's history.
use Rattle.std.proofs.Common.{◌≡◌, ◌∙◌, ◌+◌, ◌%◌, inl, inr, ⊎_elim, ℕ, Bool, true, false, List, None, Some, Ok, Err, Result, ap, append-nil, length, refl, subst, sym}
use Rattle.std.specs.Prelude.{IsTrue}
use Rattle.std.specs.declared.cmp.Ordering.{Ordering}
use Rattle.leveldb_base.specs.Error.{IsOutOfMemory}
use Rattle.leveldb_base.specs.History.{History}
use Rattle.leveldb_base.specs.declared.error.Status.{Status}
use Rattle.leveldb_env.proofs.EnvLemmas.{Run-call, Run-mono, SameBut-synced, begun, synced-same}
use Rattle.leveldb_env.specs.Env.{BeforeOrAfter, ChangesFiles, File, Files, Observed, Run, bytes_of, file_kept, synced}
use Rattle.leveldb_env.specs.declared.env.Env.{Ghosts}
use Rattle.leveldb_mem.specs.Log.{log_block_size}
use Rattle.leveldb_mem.specs.Log.Writer.{broken_writer, new_writer}
use Rattle.leveldb_version_set.proofs.Engines.BatchWrittenLemmas.{synced_log_is_durable}
use Rattle.leveldb_files.proofs.Steps.KeepsLemmas.{sync_keeps}
use Rattle.leveldb_version_set.proofs.Engines.WrittenLemmas.{written_synced}
use Rattle.leveldb_files.specs.Stores.Contents.{Store}
use Rattle.leveldb_files.specs.Stores.Paths.{log_path, table_path}
use Rattle.leveldb_files.specs.Steps.StoreSteps.{KeepsHistory}
use Rattle.leveldb_store.proofs.Keeping.HistoryLemmas.{keeps_history}
use Rattle.leveldb_store.proofs.Writing.SwitchLemmas.{shows_stay, tables_same, written_as}
use Rattle.leveldb_store.proofs.Keeping.TableKeepsLemmas.{KeepsHistory-refl}
use Rattle.leveldb_files.specs.Stores.Format.{IsTableOf, Meaning}
use Rattle.leveldb_store.specs.Keeping.OpenStore.{OpenStoreValue}
use Rattle.leveldb_store.specs.Writing.Write.{SyncsLog, open_log_path, with_writer}
use Rattle.leveldb_store.specs.Writing.WriteBatch.{IsOf, LeavesHistory, MakesDurable, SyncsBatches}
use Rattle.leveldb_store.specs.Keeping.Written.{IsWritten, KeepsStore, memory_of}

module _ {C : Type 0} (cmp : List ℕ → List ℕ → Ordering) (meaning : Meaning)
    (allowed : Store → Type 0) where
  module _ (old : OpenStoreValue C) (files : Files) (w : IsWritten cmp meaning old files) where
    abbrev path : List ℕ
    path = open_log_path old

    abbrev log_file : File
    log_file = w.by.writable.log.file

    -- a sync of the log keeps each history, on either side of it
    pub sync_passes : (bound : ℕ) (now : Files) → BeforeOrAfter (synced path) files now
        → KeepsHistory old.set.store cmp (IsTableOf cmp meaning) allowed bound files now
    sync_passes bound now (inl same) = subst
        (KeepsHistory old.set.store cmp (IsTableOf cmp meaning) allowed bound files) (sym same)
        (KeepsHistory-refl files)
    sync_passes bound now (inr is) = subst
        (KeepsHistory old.set.store cmp (IsTableOf cmp meaning) allowed bound files) (sym is)
        (sync_keeps old.set.store cmp (IsTableOf cmp meaning) allowed path files
        (λ file here. w.by.tracked.bytes path file here) bound)

    pub log_there : files path ≡ Some log_file
    log_there = subst (λ n. files (log_path old.set.store n) ≡ Some log_file) w.by.log_is
        w.by.writable.log.there

    -- the store is written on after it
    pub written_after_sync : IsWritten cmp meaning old (synced path files)
    written_after_sync = written_as cmp meaning old (synced path files) w.edits
        (written_synced old.set.store cmp (IsTableOf cmp meaning) files w.edits (memory_of old)
        w.by) (file_kept log_file) (synced-same path files log_file log_there)
        (w.writer ∙ ap (λ (b : List ℕ). new_writer log_block_size (length b % log_block_size))
        (sym (append-nil (bytes_of log_file))))

  module _ (old : OpenStoreValue C) (from : Observed) (history : History) (durable : ℕ)
      (is_of : IsOf cmp meaning allowed old from.disk.files history durable)
      {models_disk : Bool} (modelled : IsTrue models_disk) (to : Observed)
      {result : Result (Unit {0}) Status}
      (does : ChangesFiles models_disk (synced (open_log_path old))
      (BeforeOrAfter (synced (open_log_path old))) from to result) where
    sync_run : (bound : ℕ) → Run
        (KeepsHistory old.set.store cmp (IsTableOf cmp meaning) allowed bound from.disk.files)
        from to
    sync_run bound = Run-mono (sync_passes old from.disk.files is_of.written bound)
        (Run-call modelled does)

    -- all is durable after it
    pub sync_durable : to.disk.files ≡ synced (open_log_path old) from.disk.files
        → MakesDurable cmp meaning allowed old from history durable old to
    sync_durable is = record {
      is_of = subst
          (λ files. IsOf cmp meaning allowed old files history (length history)) (sym is)
          (record {
            written = written_after_sync old from.disk.files is_of.written;
            holds = synced_log_is_durable old.set.store cmp (IsTableOf cmp meaning) allowed
                from.disk.files is_of.written.edits (memory_of old) is_of.written.by history
                durable is_of.holds;
          });
      shows = λ since s. shows_stay cmp meaning old old from.disk.files to.disk.files history since
          refl refl refl refl
          (λ file live. ap (λ (f : Files). f (table_path old.set.store file.number)) is
          ∙ tables_same old.set.store old.log.number from.disk.files
          (synced (open_log_path old) from.disk.files)
          (SameBut-synced (open_log_path old) from.disk.files
          (synced (open_log_path old) from.disk.files) (inr refl)) file.number) s;
      moments = Run-mono (λ files each. each.crash durable history is_of.holds.crash)
          (sync_run (old.set.last_sequence + 0));
    }

    -- one that failed once it had begun breaks the store
    sync_broken : to.disk.files ≡ from.disk.files → KeepsStore cmp meaning allowed old from
        (with_writer old (broken_writer old.log.writer)) to
    sync_broken undone = record {
      moments = λ bound reached. sync_run bound;
      written = λ unbroken. let never : true ≡ false = unbroken.log in absurd (cc never);
      shows = λ history since s. shows_stay cmp meaning old
          (with_writer old (broken_writer old.log.writer)) from.disk.files to.disk.files history
          since refl refl refl refl
          (λ file live. ap (λ (f : Files). f (table_path old.set.store file.number)) undone) s;
    }

    pub sync_leaves : to.disk.files ≡ from.disk.files
        → LeavesHistory cmp meaning allowed old from history durable None
        (with_writer old (broken_writer old.log.writer)) to
    sync_leaves undone = keeps_history cmp meaning allowed old
        (with_writer old (broken_writer old.log.writer)) from to history durable is_of
        (sync_broken undone) refl refl

  -- where no call was made all stays
  pub still_leaves : (old : OpenStoreValue C) (from : Observed) (history : History) (durable : ℕ)
      → IsOf cmp meaning allowed old from.disk.files history durable
      → LeavesHistory cmp meaning allowed old from history durable None old from
  still_leaves old from history durable is_of = keeps_history cmp meaning allowed old old from from
      history durable is_of
      (record {
        moments = λ bound reached. begun from (KeepsHistory-refl from.disk.files);
        written = λ unbroken. is_of.written;
        shows = λ history since s. s;
      }) refl refl

module _ {E F C : Type 0} (env : Ghosts E F) (cmp : List ℕ → List ℕ → Ordering)
    (old : OpenStoreValue C) (from : E) where
  pub syncs_batches : (result : Result (Unit {0}) Status) (new : OpenStoreValue C) (to : E)
      → SyncsLog env old from result new to → SyncsBatches env cmp old from result new to
  syncs_batches (Ok done) new to sync = record {
    ok = λ modelled meaning allowed history durable is_of.
        subst (λ v. MakesDurable cmp meaning (λ it. IsTrue (allowed it)) old (env.observed from)
        history durable v (env.observed to)) (sym sync.ok)
        (sync_durable cmp meaning (λ it. IsTrue (allowed it)) old (env.observed from) history
        durable is_of modelled (env.observed to) (sync.does modelled)
        ((sync.does modelled).ok modelled));
    err = tt;
  }
  syncs_batches (Err status) new to sync = record {
    ok = tt;
    err = λ modelled meaning allowed history durable is_of. ⊎_elim
        (λ (stays : IsOutOfMemory status × (new ≡ old) × (to ≡ from)).
        subst (λ v. LeavesHistory cmp meaning (λ it. IsTrue (allowed it)) old (env.observed from)
        history durable None v (env.observed to)) (sym stays.1)
        (subst (λ at. LeavesHistory cmp meaning (λ it. IsTrue (allowed it)) old (env.observed from)
        history durable None old (env.observed at)) (sym stays.2)
        (still_leaves cmp meaning (λ it. IsTrue (allowed it)) old (env.observed from) history
        durable is_of)))
        (λ (breaks : new ≡ with_writer old (broken_writer old.log.writer)).
        subst (λ v. LeavesHistory cmp meaning (λ it. IsTrue (allowed it)) old (env.observed from)
        history durable None v (env.observed to)) (sym breaks)
        (sync_leaves cmp meaning (λ it. IsTrue (allowed it)) old (env.observed from) history
        durable is_of modelled (env.observed to) (sync.does modelled) (sync.undone modelled)))
        sync.err;
  }
