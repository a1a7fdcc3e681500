-- Compactions of a range: first tables are made of all that is in memory.
use Rattle.std.proofs.Common.{◌≡◌, ◌⊎◌, inl, inr, ⊎_elim, ℕ, List, Some, Ok, Err, Result, ap, subst, sym}
use Rattle.std.specs.Prelude.{IsTrue, OnOk}
use Rattle.std.specs.declared.cmp.Ordering.{Ordering}
use Rattle.leveldb_base.specs.declared.cmp.Cmp.{Ghosts as CmpGhosts}
use Rattle.leveldb_base.specs.declared.cmp.internal.InternalKeyCmp.{InternalKeyCmp}
use Rattle.leveldb_base.specs.declared.error.Status.{Status}
use Rattle.leveldb_env.specs.declared.env.Env.{Ghosts}
use Rattle.leveldb_env.specs.declared.filter.FilterPolicy.{Ghosts as FilterGhosts}
use Rattle.leveldb_files.specs.Stores.Format.{Agrees, Format, Meaning}
use Rattle.leveldb_version.specs.Tables.TableCache.{TableOptions, files_at}
use Rattle.leveldb_version.specs.declared.table_cache.TableCache.{TableCache}
use Rattle.leveldb_store.proofs.Compactions.CompactedLemmas.{compacted_then, merge_between}
use Rattle.leveldb_store.proofs.Keeping.OpenTablesLemmas.{open_after_call}
use Rattle.leveldb_store.proofs.Keeping.WrittenFromLemmas.{keeps_from}
use Rattle.leveldb_store.specs.Tables.BuildTable.{TableChoices}
use Rattle.leveldb_store.specs.Compactions.Compact.{CompactsTables, FailsToCompactRange, KeepsCompacted}
use Rattle.leveldb_store.specs.Keeping.OpenStore.{OpenStoreValue}
use Rattle.leveldb_store.specs.Keeping.OpenTables.{ClosesObsolete}
use Rattle.leveldb_store.specs.Reading.Read.{HasOpenTables}
use Rattle.leveldb_store.specs.Writing.Room.{FailsFor, FailsToMakeRoom}
use Rattle.leveldb_store.specs.Writing.RoomSteps.{AddsNone, IsStepToRoom}
use Rattle.leveldb_store.specs.Keeping.Written.{IsWritten}
use Rattle.leveldb_store.specs.Keeping.WrittenFrom.{AddsNoEntry}

-- ---- tables of what is in memory

module _ {E F C FP D P : Type 0} (order : CmpGhosts (InternalKeyCmp C)) (env : Ghosts E F)
    (by : TableOptions C FP) (old : OpenStoreValue C) (from : E) (tables : TableCache E C FP F)
    {keys : CmpGhosts D} {filters : FilterGhosts P} (choices : TableChoices keys filters)
    (format_is : choices.format ≡ by.format) (smallest : ℕ) where
  abbrev pub Memory : (List ℕ → List ℕ → Ordering) → Result (Unit {0}) Status → OpenStoreValue C → E
      → Type 0
  Memory cmp result new to = IsStepToRoom env cmp by.format
      (FailsToMakeRoom env cmp old from choices) old from result new to

  abbrev pub Fails : OpenStoreValue C → Status → Type 0
  Fails = FailsToCompactRange order env by old from tables choices

  fails_in_memory : (new : OpenStoreValue C) (status : Status)
      → FailsToMakeRoom env by.format.order old from choices status → Fails new status
  fails_in_memory new status (inl memory) = inl (inl memory)
  fails_in_memory new status (inr (inl few)) = inr (inl few)
  fails_in_memory new status (inr (inr (inl mem))) = inr (inr (inl mem))
  fails_in_memory new status (inr (inr (inr (inl imm)))) = inr (inr (inr imm))
  fails_in_memory new status (inr (inr (inr (inr lost)))) = inl (inr (inr (inr (record {
    fault = inl lost.0;
    lacks = λ meaning live has. absurd (lost.1 has.has_open.modelled meaning
        (subst (λ (format : Format). Agrees format meaning) (sym format_is) has.agrees)
        has.written);
  }))))

  cause_in_memory : (result : Result (Unit {0}) Status) (new : OpenStoreValue C) (to : E)
      → FailsFor (FailsToMakeRoom env by.format.order old from choices) (env.failures from)
      (env.failures to) result
      → FailsFor (Fails new) (env.failures from) (env.failures to) result
  cause_in_memory (Ok unit) new to cause = record { later = cause.later; cause = tt }
  cause_in_memory (Err status) new to cause = record {
    later = cause.later;
    cause = ⊎_elim (λ excused. inl (fails_in_memory new status excused)) (λ counted. inr counted)
        cause.cause;
  }

  none_in_memory : (result : Result (Unit {0}) Status) (new : OpenStoreValue C) (to : E)
      → OnOk result (AddsNone env by.format.order by.format old from new to)
      → OnOk result (HasOpenTables order env by old from tables → (meaning : Meaning)
      → Agrees by.format meaning → IsWritten by.format.order meaning old (files_at env from)
      → AddsNoEntry by.format.order meaning old (files_at env from) new (files_at env to))
  none_in_memory (Ok unit) new to none =
      λ has meaning agrees w. none has.modelled meaning agrees w
  none_in_memory (Err status) new to none = tt

  memory_in_order : (result : Result (Unit {0}) Status) (new : OpenStoreValue C) (to : E)
      (now : TableCache E C FP F) → Memory by.format.order result new to
      → OnOk result (AddsNone env by.format.order by.format old from new to)
      → ClosesObsolete env old.set from tables to now
      → KeepsCompacted order env by old from tables smallest Fails result new to now
  memory_in_order result new to now step none closes = record {
    keeps = λ has meaning agrees. keeps_from by.format.order meaning smallest old
        (env.observed from) new (env.observed to) (step.keeps has.modelled meaning agrees);
    usable = step.usable;
    rest = step.rest;
    still_open = λ has. open_after_call env by old new from to step.rest tables now closes.closes
        has.modelled has.are;
    none_new = none_in_memory result new to none;
    sound = record {
      time = step.sound.time;
      bytes = step.sound.bytes;
      breaks = λ modelled meaning means w. step.sound.breaks modelled meaning means.1 w;
    };
    cause = cause_in_memory result new to step.cause;
  }

  -- what tables of all that is in memory keep, in the order of the store
  pub memory_compacted : {cmp : List ℕ → List ℕ → Ordering} → cmp ≡ by.format.order
      → (result : Result (Unit {0}) Status) (new : OpenStoreValue C) (to : E)
      (now : TableCache E C FP F) → Memory cmp result new to
      → OnOk result (AddsNone env cmp by.format old from new to)
      → ClosesObsolete env old.set from tables to now
      → KeepsCompacted order env by old from tables smallest Fails result new to now
  memory_compacted same result new to now step none closes =
      memory_in_order result new to now (subst (λ c. Memory c result new to) same step)
      (subst (λ c. OnOk result (AddsNone env c by.format old from new to)) same none) closes

  -- and compactions after those of a range
  pub range_then : {mid new : OpenStoreValue C} {at to : E} {between now : TableCache E C FP F}
      {result : Result (Unit {0}) Status}
      → KeepsCompacted order env by old from tables smallest Fails (Ok tt) mid at between
      → CompactsTables order env by mid at between choices smallest result new to now
      → KeepsCompacted order env by old from tables smallest Fails result new to now
  range_then {new = new} {to = to} {now = now} {result = result} first second =
      compacted_then first result new to now
      (λ status unmade. inl (merge_between first choices new status unmade)) second.keeps
