-- What appends and a sync leave of a table's file, and why a call that writes it fails.
use Rattle.std.specs.Prelude.{IsTrue}
use Rattle.std.proofs.Common.{◌≡◌, ◌≤◌, ◌∙◌, inl, inr, ⊎_elim, ℕ, List, [], Option, None, Some, Result, Ok, Err, refl, sym, ap, subst, arith}
use Rattle.leveldb_base.specs.Error.{IsOutOfMemory}
use Rattle.leveldb_base.specs.Types.{Pair}
use Rattle.leveldb_base.specs.declared.cmp.Cmp.{Ghosts as CmpGhosts}
use Rattle.leveldb_base.specs.declared.error.Status.{Status}
use Rattle.leveldb_env.specs.Compressor.{Codings}
use Rattle.leveldb_env.specs.Env.{BeforeOrAfter, ChangesFiles, File, Files, HasCause, IsGone, SameLocks, emptied, file_kept, kept_file, longer_file}
use Rattle.leveldb_env.specs.EnvFile.{Appends, AppendsBorrowed, ChangesBorrowedFile, IsLonger, Opened, Syncs, SyncsBorrowed, opened, opened_file}
use Rattle.leveldb_env.specs.Sink.{PutsAll}
use Rattle.leveldb_env.specs.declared.env.Env.{Ghosts as EnvGhosts}
use Rattle.leveldb_env.specs.declared.env.env_file.EnvFile.{EnvFile}
use Rattle.leveldb_env.specs.declared.filter.FilterPolicy.{Ghosts as FilterGhosts}
use Rattle.leveldb_env.proofs.AppendedLemmas.{appended_bytes, emptied_bytes, synced_bytes}
use Rattle.leveldb_env.proofs.EnvFileLemmas.{IsLonger-borrowed}
use Rattle.leveldb_env.proofs.EnvLemmas.{Run-call, Run-mono, Run-trans, SameBut-appending, SameBut-emptied, SameBut-refl, SameBut-synced, SameBut-trans, at_same, begun, cause_refused, extended-same, synced-same}
use Rattle.leveldb_table.specs.TableBuilder.{TableBuilt}
use Rattle.leveldb_table.specs.TableBuilderAdd.{TakesNoPair, TakesPair}
use Rattle.leveldb_table.specs.TableBuilderFinish.{IsFinishError, IsFinished}
use Rattle.leveldb_store.specs.Tables.TableFile.{AddsToFile, ChangesOneFile, FailsToWrite, FinishesFile, IsAddFault, IsFinishFault, IsThere, IsUncounted, StopsWriting}
use Rattle.leveldb_store.proofs.Tables.StopsLemmas.{FailsAfter, Stops, add_stops, finish_stops}

-- ---- causes

module _ {T : Type 0} {Own : Status → Type 0} {before now : ℕ} where
  -- a failed call of the device
  pub device_fails : {status : Status} {Excused : Status → Type 0}
      → (Excused status → IsOutOfMemory status) → (IsOutOfMemory status → Excused status)
      → HasCause {T = T} Excused before now (Err status)
      → FailsToWrite {T = T} Own before now (Err status)
  device_fails {status} from to cause = record {
    later = cause.later;
    ok = tt;
    uncounted = ⊎_elim (λ (memory : IsOutOfMemory status). cause.uncounted (to memory)) (λ own. own.1);
    cause = ⊎_elim (λ excused. inl (inl (from excused))) (λ counted. inr counted) cause.cause;
  }

  -- one of these causes, where nothing was counted
  pub own_fails : {status : Status} → now ≡ before → IsUncounted Own before now status
      → FailsToWrite {T = T} Own before now (Err status)
  own_fails same why = record {
    later = omega (arith, same);
    ok = tt;
    uncounted = λ excused. same;
    cause = inl why;
  }

  -- nothing was counted
  pub all_written : {x : T} → now ≡ before → FailsToWrite {T = T} Own before now (Ok x)
  all_written same = record { later = omega (arith, same); ok = same; uncounted = tt; cause = tt }

-- after calls of which none was counted, and for a cause in other words
pub fails_later : {T U : Type 0} {Own Other : Status → Type 0} {before mid now : ℕ} {status : Status}
    → mid ≡ before → (Own status → Other status) → FailsToWrite {T = T} Own mid now (Err status)
    → FailsToWrite {T = U} Other before now (Err status)
fails_later {T} {U} {Own} {Other} {before} {mid} {now} {status} same so cause =
    subst (λ b. FailsToWrite {T = U} Other b now (Err status)) same here
  where
    here : FailsToWrite {T = U} Other mid now (Err status)
    here = record {
      later = cause.later;
      ok = tt;
      uncounted = ⊎_elim (λ (memory : IsOutOfMemory status). cause.uncounted (inl memory))
          (λ own. own.1);
      cause = ⊎_elim (λ excused. inl (⊎_elim (λ (memory : IsOutOfMemory status). inl memory)
          (λ own. inr (so own.0, own.1)) excused)) (λ counted. inr counted) cause.cause;
    }

-- the same of any result
pub fails_so : {T : Type 0} {Own Other : Status → Type 0} {before mid now : ℕ}
    (result : Result T Status) → mid ≡ before → ((status : Status) → Own status → Other status)
    → FailsToWrite Own mid now result → FailsToWrite Other before now result
fails_so (Ok x) same so cause = record {
  later = omega (arith, cause.later, same);
  ok = cause.ok ∙ same;
  uncounted = tt;
  cause = tt;
}
fails_so (Err status) same so cause = fails_later same (so status) cause

-- ---- what changes

module _ {E F : Type 0} (env : EnvGhosts E F) where
  pub changes-none : (path : List ℕ) (at : E) → ChangesOneFile env path at at
  changes-none path at = record {
    run = λ modelled. begun (env.observed at) (SameBut-refl path (env.observed at).disk.files);
    bytes = λ modelled before. before;
    locks = λ modelled. refl;
    later = omega arith;
  }

  pub changes-trans : {path : List ℕ} {from mid to : E} → ChangesOneFile env path from mid
      → ChangesOneFile env path mid to → ChangesOneFile env path from to
  changes-trans {path} first second = record {
    run = λ modelled. Run-trans (first.run modelled)
        (λ files then. SameBut-trans path (first.run modelled).has then) (second.run modelled);
    bytes = λ modelled before. second.bytes modelled (first.bytes modelled before);
    locks = λ modelled. second.locks modelled ∙ first.locks modelled;
    later = omega (arith, first.later, second.later);
  }

  -- of a path by its other name
  pub changes_named : {name path : List ℕ} {from to : E} → (IsTrue env.models_disk → name ≡ path)
      → ChangesOneFile env name from to → ChangesOneFile env path from to
  changes_named {name} {path} {from} {to} named changes = record {
    run = λ modelled.
        (subst (λ p. ChangesOneFile env p from to) (named modelled) changes).run modelled;
    bytes = changes.bytes;
    locks = changes.locks;
    later = changes.later;
  }

  pub opening_changes : {T : Type 0} {path : List ℕ} {from to : E} {result : Result T Status}
      → ChangesFiles {T = T} env.models_disk (emptied path) (BeforeOrAfter (emptied path))
      (env.observed from) (env.observed to) result
      → SameLocks env.models_disk (env.observed from) (env.observed to)
      → env.failures from ≤ env.failures to → ChangesOneFile env path from to
  opening_changes {path = path} {from = from} opening locks later = record {
    run = λ modelled. Run-mono (SameBut-emptied path (env.observed from).disk.files)
        (Run-call modelled opening);
    bytes = λ modelled. emptied_bytes path _ _ (opening.now modelled);
    locks = locks;
    later = later;
  }

  -- an append, whatever came of it
  append_changes : {from to : Opened E F} {bytes : List ℕ} {result : Result (Unit {0}) Status}
      → Appends env from bytes result to
      → ChangesOneFile env (env.name_of from.file) from.env to.env
  append_changes {from} {bytes = bytes} put = record {
    run = λ modelled. Run-mono (SameBut-appending (env.name_of from.file) bytes
        (env.observed from.env).disk.files) (Run-call modelled put.does);
    bytes = λ modelled. appended_bytes (env.name_of from.file) bytes put.are_bytes _ _
        (put.does.now modelled);
    locks = put.locks;
    later = put.cause.later;
  }

  pub sync_changes : {from to : Opened E F} {result : Result (Unit {0}) Status}
      → Syncs env from result to → ChangesOneFile env (env.name_of from.file) from.env to.env
  sync_changes {from} flushed = record {
    run = λ modelled. Run-mono (SameBut-synced (env.name_of from.file)
        (env.observed from.env).disk.files) (Run-call modelled flushed.does);
    bytes = λ modelled. synced_bytes (env.name_of from.file) _ _ (flushed.does.now modelled);
    locks = flushed.locks;
    later = flushed.cause.later;
  }

  pub longer_changes : {from to : Opened E F} {bytes : List ℕ} → IsLonger env from bytes to
      → ChangesOneFile env (env.name_of from.file) from.env to.env
  longer_changes {from} {bytes = bytes} longer = record {
    run = λ modelled. Run-mono (SameBut-appending (env.name_of from.file) bytes
        (env.observed from.env).disk.files) (Run-call modelled (longer.does modelled));
    bytes = λ modelled. appended_bytes (env.name_of from.file) bytes longer.are_bytes _ _
        ((longer.does modelled).now modelled);
    locks = longer.locks;
    later = omega (arith, longer.counted);
  }

  -- ---- the file then

  pub longer_file_is : {from to : Opened E F} {bytes : List ℕ} (file : File)
      → IsLonger env from bytes to → IsTrue env.models_disk → opened_file env from ≡ Some file
      → opened_file env to ≡ Some (longer_file bytes file)
  longer_file_is {from} {to} {bytes} file longer modelled there =
      let name = env.name_of from.file in
      ap (env.observed to.env).disk.files (longer.file modelled)
      ∙ ap (λ (now : Files). now name) ((longer.does modelled).ok modelled)
      ∙ extended-same name bytes (env.observed from.env).disk.files file there

  pub synced_file_is : {from to : Opened E F} (file : File) → Syncs env from (Ok tt) to
      → IsTrue env.models_disk → opened_file env from ≡ Some file
      → opened_file env to ≡ Some (file_kept file)
  synced_file_is {from} {to} file flushed modelled there =
      let name = env.name_of from.file in
      ap (env.observed to.env).disk.files (flushed.file modelled)
      ∙ ap (λ (now : Files). now name) (flushed.does.ok modelled)
      ∙ synced-same name (env.observed from.env).disk.files file there

  pub longer_there : {from to : Opened E F} {bytes : List ℕ} → IsLonger env from bytes to
      → IsThere env from → IsThere env to
  longer_there {bytes = bytes} longer there modelled =
      let was = there modelled in
      (longer_file bytes was.0, longer_file_is was.0 longer modelled was.1)

  -- a file that was opened is empty
  pub opened_is : {T : Type 0} {x : T} {path : List ℕ} {from mid : E} {file : F}
      → ChangesFiles {T = T} env.models_disk (emptied path) (BeforeOrAfter (emptied path))
      (env.observed from) (env.observed mid) (Ok x)
      → (IsTrue env.models_disk → env.name_of file ≡ path) → IsTrue env.models_disk
      → opened_file env (opened mid file) ≡ Some (kept_file [])
  opened_is {path = path} {from = from} {mid = mid} opening named modelled =
      ap (env.observed mid).disk.files (named modelled)
      ∙ ap (λ (f : Files). f path) (opening.ok modelled)
      ∙ at_same path (Some (kept_file [])) (env.observed from).disk.files

  -- ---- errors

  not_gone : {at : Opened E F} {e : Status} → IsThere env at
      → IsGone env.models_disk (env.name_of at.file) (env.observed at.env) e → IsOutOfMemory e
  not_gone there (inl memory) = memory
  not_gone there (inr gone) =
      let is = there gone.1 in let never : None ≡ Some is.0 = sym gone.2 ∙ is.1 in
      absurd (cc never)

  module _ {Own : Status → Type 0} where
    pub stops_after : {from mid : Opened E F} {to : E} {bytes : List ℕ} {status : Status}
        → IsLonger env from bytes mid → StopsWriting env Own mid status to
        → StopsWriting env Own from status to
    stops_after {from} {mid} {to} longer stops = record {
      changes = changes-trans (longer_changes longer)
          (changes_named longer.file stops.changes);
      cause = fails_later longer.counted (λ own. own) stops.cause;
    }

    append_stops : {from to : Opened E F} {bytes : List ℕ} {status : Status} → IsThere env from
        → Appends env from bytes (Err status) to → StopsWriting env Own from status to.env
    append_stops there put = record {
      changes = append_changes put;
      cause = device_fails (not_gone there) (λ memory. inl memory) put.cause;
    }

    sync_stops : {from to : Opened E F} {status : Status} → IsThere env from
        → Syncs env from (Err status) to → StopsWriting env Own from status to.env
    sync_stops there flushed = record {
      changes = sync_changes flushed;
      cause = device_fails (not_gone there) (λ memory. inl memory) flushed.cause;
    }

    pub own_stops : {from to : Opened E F} {bytes : List ℕ} {status : Status}
        → IsLonger env from bytes to → Own status → StopsWriting env Own from status to.env
    own_stops longer own = record {
      changes = longer_changes longer;
      cause = own_fails longer.counted (inr (own, longer.counted));
    }

    -- for a cause in other words
    pub stops_so : {Other : Status → Type 0} {from : Opened E F} {to : E} {status : Status}
        → (Own status → Other status) → StopsWriting env Own from status to
        → StopsWriting env Other from status to
    stops_so so stops = record {
      changes = stops.changes;
      cause = fails_later refl so stops.cause;
    }

    -- puts, and then a cause of the builder's own or of the device
    pub stops_borrowed : (status : Status) {from to : EnvFile E F}
        → Stops (AppendsBorrowed env) (SyncsBorrowed env) status (Own status) from to
        → ChangesBorrowedFile (λ before after. IsThere env before
        → StopsWriting env Own before status after.env) from to
    stops_borrowed status (inl own) =
        let longer = IsLonger-borrowed env own.2 in
        record {
          changes = λ there. own_stops longer.changes own.0;
          same_env = longer.same_env;
          same_file = longer.same_file;
        }
    stops_borrowed status {from} {to} (inr fails) =
        let longer = IsLonger-borrowed env fails.put in
        let at = opened from.env.now from.file.now in
        let mid = opened fails.mid.env.now fails.mid.file.now in
        ⊎_elim
        (λ put. record {
          changes = λ there.
              stops_after longer.changes (append_stops (longer_there {from = at} {to = mid} longer.changes there) put.1.changes);
          same_env = put.1.same_env ∙ longer.same_env;
          same_file = put.1.same_file ∙ longer.same_file;
        })
        (λ flushed. record {
          changes = λ there.
              stops_after longer.changes (sync_stops (longer_there {from = at} {to = mid} longer.changes there) flushed.changes);
          same_env = flushed.same_env ∙ longer.same_env;
          same_file = flushed.same_file ∙ longer.same_file;
        })
        fails.failed

-- ---- a builder's calls over a file that is borrowed with its environment

module _ {C FP E F : Type 0} (order : CmpGhosts C) (filters : FilterGhosts FP) (codings : Codings)
    (env : EnvGhosts E F) where
  pub added_borrowed : {old new : TableBuilt C FP} {from to : EnvFile E F} {pair : Pair}
      → TakesPair order filters codings (AppendsBorrowed env) old new pair from to
      → ChangesBorrowedFile (λ before after.
      AddsToFile order filters codings env old before pair new after) from to
  added_borrowed takes =
      let longer = IsLonger-borrowed env takes.added.put in
      record {
        changes = record {
          bytes = takes.added.bytes;
          longer = longer.changes;
          begun = takes.added.begun;
          last = takes.last;
          count = takes.count;
          counted = takes.counted;
          unbroken = takes.unbroken.1;
        };
        same_env = longer.same_env;
        same_file = longer.same_file;
      }

  pub not_added_borrowed : {old new : TableBuilt C FP} {from to : EnvFile E F} {pair : Pair}
      {status : Status}
      → TakesNoPair order filters codings (AppendsBorrowed env) old new pair from status to
      → ChangesBorrowedFile (λ before after. IsThere env before
      → StopsWriting env (IsAddFault order filters codings old pair) before status after.env) from
      to
  not_added_borrowed {old} {from = from} {to = to} {pair = pair} {status = status} none =
      stops_borrowed env status
      (add_stops (AppendsBorrowed env) (SyncsBorrowed env) status codings order filters old pair
      from to none.cause)

  pub finished_borrowed : {core : TableBuilt C FP} {from to : EnvFile E F} {size : ℕ}
      → IsFinished order filters codings core (AppendsBorrowed env) (SyncsBorrowed env) from size to
      → ChangesBorrowedFile (λ before after.
      FinishesFile order filters codings env core before size after.env) from to
  finished_borrowed {to = to} finished =
      let all = finished.finishes in
      let longer = IsLonger-borrowed env all.put in
      record {
        changes = record {
          bytes = all.bytes;
          mid = opened all.mid.env.now all.mid.file.now;
          longer = longer.changes;
          file = to.file.now;
          synced = all.flushed.changes;
          made = all.made;
        };
        same_env = all.flushed.same_env ∙ longer.same_env;
        same_file = all.flushed.same_file ∙ longer.same_file;
      }

  pub not_finished_borrowed : (core : TableBuilt C FP) {from to : EnvFile E F} {status : Status}
      → IsFinishError order filters codings core (AppendsBorrowed env) (SyncsBorrowed env) from
      status to
      → ChangesBorrowedFile (λ before after. IsThere env before
      → StopsWriting env (IsFinishFault order filters codings core) before status after.env) from to
  not_finished_borrowed core {from} {to} {status} failed =
      stops_borrowed env status
      (finish_stops (AppendsBorrowed env) (SyncsBorrowed env) status codings order filters core
      from to failed)
