-- Syncs and writes of batches are sound: time goes on, what is appended are bytes, and a store that
-- is written breaks only if memory was out or the device failed.
use Rattle.std.specs.Prelude.{IsTrue}
use Rattle.std.proofs.Common.{◌≡◌, ◌⊎◌, ◌∙◌, ◌+◌, ◌-◌, ◌^◌, inl, inr, ⊎_elim, ℕ, Bool, true, false, List, Ok, Err, Result, subst, sym}
use Rattle.std.specs.declared.cmp.Ordering.{Ordering}
use Rattle.leveldb_base.specs.Error.{IsOutOfMemory}
use Rattle.leveldb_base.specs.declared.error.Status.{Status}
use Rattle.leveldb_env.proofs.AppendedLemmas.{synced_bytes}
use Rattle.leveldb_env.specs.Env.{AreBytes}
use Rattle.leveldb_env.specs.declared.env.Env.{Ghosts}
use Rattle.leveldb_mem.specs.Log.Writer.{frame}
use Rattle.leveldb_mem.specs.WriteBatch.{Batch}
use Rattle.leveldb_version_set.proofs.Sets.LogKeepsLemmas.{framed_are_bytes}
use Rattle.leveldb_store.proofs.Keeping.SoundLemmas.{GoesOn, appending_bytes, call_goes_on, failed_once, nothing_goes_on, sound_ok, sound_unbroken, written_log, written_unbroken}
use Rattle.leveldb_files.specs.Stores.Format.{Meaning}
use Rattle.leveldb_store.specs.Keeping.OpenStore.{OpenStoreValue}
use Rattle.leveldb_store.specs.Keeping.SoundCall.{IsSoundCall, any_meaning}
use Rattle.leveldb_store.specs.Writing.Write.{IsLogLost, LogsText, PreparesBatch, SyncsLog, open_log_path, with_mem}
use Rattle.leveldb_store.specs.Keeping.Written.{IsWritten}

module _ {E F C : Type 0} (env : Ghosts E F) (cmp : List ℕ → List ℕ → Ordering)
    (old : OpenStoreValue C) (from : E) where
  abbrev IsSound : Result (Unit {0}) Status → OpenStoreValue C → E → Type 0
  IsSound result new to = IsSoundCall env cmp any_meaning old from result new to

  -- the log of a store that is written isn't lost
  lost_memory : (to : E) (status : Status) → IsTrue env.models_disk → (meaning : Meaning)
      → IsWritten cmp meaning old (env.observed from).disk.files
      → IsLogLost env old from to status → IsOutOfMemory status
  lost_memory to status modelled meaning w (inl (inl memory)) = memory
  lost_memory to status modelled meaning w (inl (inr missing)) = absurd
      (written_log cmp meaning old (env.observed from).disk.files w (missing.1 modelled))
  lost_memory to status modelled meaning w (inr broke) =
      let unbroken = written_unbroken cmp meaning old (env.observed from).disk.files w in
      let never : true ≡ false = sym broke.0 ∙ unbroken.log in absurd (cc never)

  -- a call on the log that failed
  failed_sound : (status : Status) (new : OpenStoreValue C) (to : E) → GoesOn env from to
      → (IsLogLost env old from to status ⊎ (env.failures to ≡ env.failures from + 1)
      ⊎ ((env.failures from ≡ 2 ^ 64 - 1) × (env.failures to ≡ env.failures from)))
      → IsSound (Err status) new to
  failed_sound status new to goes_on cause = record {
    time = goes_on.0;
    bytes = goes_on.1;
    breaks = λ modelled meaning means w. inr (⊎_elim
        (λ lost. inl (lost_memory to status modelled meaning w lost))
        (λ counted. inr (failed_once (env.failures from) (env.failures to) counted)) cause);
  }

  -- ---- syncs

  pub sync_sound : (result : Result (Unit {0}) Status) (new : OpenStoreValue C) (to : E)
      → SyncsLog env old from result new to → IsSound result new to
  sync_sound (Ok done) new to sync = sound_ok env cmp any_meaning old from done new to
      (call_goes_on env from to sync.does (synced_bytes (open_log_path old)))
  sync_sound (Err status) new to sync = failed_sound status new to
      (call_goes_on env from to sync.does (synced_bytes (open_log_path old))) sync.cause.cause

  -- ---- batches

  module _ (batch : Batch) (answer : Result (Unit {0}) Status) (value : OpenStoreValue C)
      (prepared : Batch) (prepares : PreparesBatch old batch answer value prepared) where
    -- nothing was called
    pub prepare_sound : (status : Status) → IsSound (Err status) value from
    prepare_sound status = subst (λ v. IsSound (Err status) v from) (sym prepares.rest)
        (sound_unbroken env cmp any_meaning old from status (with_mem old value.mem) from
        (nothing_goes_on env from)
        (λ unbroken. record { manifest = unbroken.manifest; log = unbroken.log }))

    module _ (text : List ℕ) (are : AreBytes text) (sync : Bool) (then : OpenStoreValue C)
        (to : E) where
      logged_goes_on : (result : Result (Unit {0}) Status)
          → LogsText env value from text sync result then to → GoesOn env from to
      logged_goes_on result logs = (
        λ modelled. (logs.run modelled).time.later,
        λ modelled. appending_bytes (open_log_path value) (frame value.log.writer text)
            (framed_are_bytes value.log.writer.size text value.log.writer.offset are)
            (env.observed from).disk.files (env.observed to).disk.files (logs.run modelled).has,
      )

      -- the record wasn't logged
      pub part_sound : (status : Status)
          → LogsText env value from text sync (Err status) then to → IsSound (Err status) then to
      part_sound status logs = failed_sound status then to (logged_goes_on (Err status) logs)
          (⊎_elim
          (λ lost. inl (subst (λ v. IsLogLost env v from to status) prepares.rest lost))
          (λ counted. inr counted) logs.cause.cause)

      -- it was
      pub batch_sound : (new : OpenStoreValue C) → LogsText env value from text sync (Ok tt) then to
          → IsSound (Ok tt) new to
      batch_sound new logs = sound_ok env cmp any_meaning old from tt new to
          (logged_goes_on (Ok tt) logs)
