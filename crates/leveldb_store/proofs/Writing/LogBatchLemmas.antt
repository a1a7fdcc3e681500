-- A record is appended to the log, and the log is synced if that is asked for.
use Rattle.std.specs.Prelude.{IsTrue, OnErr}
use Rattle.std.proofs.Common.{◌≡◌, ◌∙◌, inl, inr, ⊎_elim, ℕ, Bool, true, false, List, Option, None, Some, Ok, Err, Result, ap, refl, subst, sym}
use Rattle.std.specs.Option.{option_map}
use Rattle.leveldb_base.specs.declared.error.Status.{Status}
use Rattle.leveldb_env.proofs.EnvLemmas.{Run-call, Run-mono, appended, at_same, call, cause_after, cause_same}
use Rattle.leveldb_env.specs.Env.{BeforeOrAfter, File, Files, HasCause, PrefixAppended, Run, extended, longer_file, synced}
use Rattle.leveldb_env.specs.declared.env.Env.{Ghosts}
use Rattle.leveldb_mem.specs.Log.Writer.{after_frame, broken_writer, frame}
use Rattle.leveldb_version_set.specs.Sets.LogEdit.{AppendingAndSyncing}
use Rattle.leveldb_store.specs.Keeping.OpenStore.{OpenStoreValue}
use Rattle.leveldb_store.specs.Writing.Write.{AppendsToLog, IsLogLost, LogsText, SyncsLog, open_log_path, with_writer}

-- a file that is longer is there exactly if it was
longer_none : (bytes : List ℕ) (file : Option File) → option_map (longer_file bytes) file ≡ None
    → file ≡ None
longer_none bytes None e = refl
longer_none bytes (Some file) e = absurd (cc e)

module _ {E F C : Type 0} (env : Ghosts E F) (old : OpenStoreValue C) (from : E) (text : List ℕ)
  where
    abbrev path : List ℕ
    path = open_log_path old

    abbrev bytes : List ℕ
    bytes = frame old.log.writer text

    abbrev files : E → Files
    files at = (env.observed at).disk.files

    -- ---- the append

    append_run : (result : Result (Unit {0}) Status) (new : OpenStoreValue C) (mid : E)
        → AppendsToLog env old from text result new mid → IsTrue env.models_disk
        → Run (AppendingAndSyncing path bytes (files from)) (env.observed from) (env.observed mid)
    append_run result new mid appends modelled =
        Run-mono (λ now part. inl part) (Run-call modelled (appends.does modelled))

    -- it failed
    pub logs_unappended : (sync : Bool) (status : Status) (new : OpenStoreValue C) (to : E)
        → AppendsToLog env old from text (Err status) new to
        → LogsText env old from text sync (Err status) new to
    logs_unappended sync status new to appends = record {
      run = append_run (Err status) new to appends;
      done = tt;
      locks = appends.locks;
      ok = tt;
      err = ⊎_elim (λ stays. inl stays)
          (λ (breaks : new ≡ with_writer old (broken_writer old.log.writer)). inr (
            breaks ∙ ap (λ (v : OpenStoreValue C). with_writer old v.log.writer) (sym breaks),
            ap (λ (v : OpenStoreValue C). v.log.writer.broken) breaks,
          )) appends.err;
      cause = appends.cause;
    }

    -- it was made, and no sync is asked for
    pub logs_appended : (new : OpenStoreValue C) (to : E)
        → AppendsToLog env old from text (Ok tt) new to
        → LogsText env old from text false (Ok tt) new to
    logs_appended new to appends = record {
      run = append_run (Ok tt) new to appends;
      done = λ modelled. (appends.does modelled).ok modelled;
      locks = appends.locks;
      ok = appends.ok;
      err = tt;
      cause = appends.cause;
    }

    -- ---- the sync after it

    abbrev then : OpenStoreValue C
    then = with_writer old (after_frame old.log.writer text)

    module _ (mid : E) (appends : AppendsToLog env old from text (Ok tt) then mid)
        (result : Result (Unit {0}) Status) (new : OpenStoreValue C) (to : E)
        (sync : SyncsLog env then mid result new to) where
      same_count : env.failures mid ≡ env.failures from
      same_count = appends.cause.ok

      mid_files : IsTrue env.models_disk → files mid ≡ extended path bytes (files from)
      mid_files modelled = (appends.does modelled).ok modelled

      log_file : IsTrue env.models_disk
          → files mid path ≡ option_map (longer_file bytes) (files from path)
      log_file modelled = ap (λ (f : Files). f path) (mid_files modelled)
          ∙ at_same path (option_map (longer_file bytes) (files from path)) (files from)

      synced_run : IsTrue env.models_disk
          → Run (AppendingAndSyncing path bytes (files from)) (env.observed from) (env.observed to)
      synced_run modelled = call modelled (append_run (Ok tt) then mid appends modelled) passes
          (sync.does modelled)
        where
          passes : (now : Files) → BeforeOrAfter (synced path) (files mid) now
              → AppendingAndSyncing path bytes (files from) now
          passes now (inl same) = inl (subst (PrefixAppended path bytes (files from))
              (sym (same ∙ mid_files modelled)) (appended path bytes (files from)))
          passes now (inr is) = inr (is ∙ ap (synced path) (mid_files modelled))

      -- why it failed, said of what was there before the append
      lost_before : (status : Status) → IsLogLost env then mid to status
          → IsLogLost env old from to status
      lost_before status (inl (inl memory)) = inl (inl memory)
      lost_before status (inl (inr missing)) = inl (inr (
        missing.0,
        λ modelled. longer_none bytes (files from path)
            (sym (log_file modelled) ∙ missing.1 modelled),
        missing.2 ∙ same_count,
      ))
      lost_before status (inr broken) = inr broken

      lost_then : (status : Status) → IsLogLost env old from to status
          → IsLogLost env then mid to status
      lost_then status (inl (inl memory)) = inl (inl memory)
      lost_then status (inl (inr missing)) = inl (inr (
        missing.0,
        λ modelled. log_file modelled ∙ ap (option_map (longer_file bytes)) (missing.1 modelled),
        missing.2 ∙ sym same_count,
      ))
      lost_then status (inr broken) = inr broken

      synced_cause : HasCause (IsLogLost env old from to) (env.failures from) (env.failures to) result
      synced_cause = cause_after same_count (cause_same result lost_before lost_then sync.cause)

    -- it was made
    logs_synced : (mid : E) → AppendsToLog env old from text (Ok tt) then mid
        → (new : OpenStoreValue C) (to : E) → SyncsLog env then mid (Ok tt) new to
        → LogsText env old from text true (Ok tt) new to
    logs_synced mid appends new to sync = record {
      run = synced_run mid appends (Ok tt) new to sync;
      done = λ modelled. (sync.does modelled).ok modelled
          ∙ ap (synced path) (mid_files mid appends (Ok tt) new to sync modelled);
      locks = λ modelled. sync.locks modelled ∙ appends.locks modelled;
      ok = sync.ok;
      err = tt;
      cause = synced_cause mid appends (Ok tt) new to sync;
    }

    -- it failed, which breaks the store
    logs_unsynced : (mid : E) → AppendsToLog env old from text (Ok tt) then mid
        → (status : Status) (new : OpenStoreValue C) (to : E)
        → SyncsLog env then mid (Err status) new to
        → new ≡ with_writer then (broken_writer then.log.writer)
        → LogsText env old from text true (Err status) new to
    logs_unsynced mid appends status new to sync breaks = record {
      run = synced_run mid appends (Err status) new to sync;
      done = tt;
      locks = λ modelled. sync.locks modelled ∙ appends.locks modelled;
      ok = tt;
      err = inr (
        breaks ∙ ap (λ (v : OpenStoreValue C). with_writer old v.log.writer) (sym breaks),
        ap (λ (v : OpenStoreValue C). v.log.writer.broken) breaks,
      );
      cause = synced_cause mid appends (Err status) new to sync;
    }

    -- whichever it was
    pub logs_then_synced : (value : OpenStoreValue C) (mid : E)
        → AppendsToLog env old from text (Ok tt) value mid → (result : Result (Unit {0}) Status)
        (new : OpenStoreValue C) (to : E) → SyncsLog env value mid result new to
        → OnErr result (new ≡ with_writer value (broken_writer value.log.writer))
        → LogsText env old from text true result new to
    logs_then_synced value mid appends result new to sync breaks =
        by result (subst (λ v. AppendsToLog env old from text (Ok tt) v mid) appends.ok appends)
        (subst (λ v. SyncsLog env v mid result new to) appends.ok sync)
        (subst (λ v. OnErr result (new ≡ with_writer v (broken_writer v.log.writer))) appends.ok
        breaks)
      where
        by : (answer : Result (Unit {0}) Status)
            → AppendsToLog env old from text (Ok tt) then mid → SyncsLog env then mid answer new to
            → OnErr answer (new ≡ with_writer then (broken_writer then.log.writer))
            → LogsText env old from text true answer new to
        by (Ok done) first second broke = logs_synced mid first new to second
        by (Err status) first second broke = logs_unsynced mid first status new to second broke
