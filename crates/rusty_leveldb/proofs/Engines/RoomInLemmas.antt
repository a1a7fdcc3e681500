-- Room in the memtable of a store, and the compaction after it, or the one that is due where there
-- is room: as one step, which may drop entries that are shadowed at the smallest number that is
-- held.
use Rattle.std.specs.Prelude.{◌≢◌, IfErr, IsTrue, OnOk, Result}
use Rattle.std.proofs.Common.{◌≡◌, ◌⊎◌, ⊎_elim, inl, inr, ◌∙◌, ℕ, Bool, false, true, List, [], Ok, Err, None, ap, arith, refl, subst, sym}
use Rattle.std.specs.declared.cmp.Ordering.{Ordering}
use Rattle.leveldb_base.specs.Error.{IsOutOfMemory}
use Rattle.leveldb_base.specs.declared.cmp.Cmp.{Ghosts as CmpGhosts}
use Rattle.leveldb_base.specs.declared.cmp.internal.InternalKeyCmp.{InternalKeyCmp}
use Rattle.leveldb_base.specs.declared.error.Status.{Status}
use Rattle.leveldb_env.specs.declared.env.Env.{Ghosts}
use Rattle.leveldb_env.specs.declared.filter.FilterPolicy.{Ghosts as FilterGhosts}
use Rattle.leveldb_files.specs.Stores.Format.{Agrees}
use Rattle.leveldb_version_set.specs.Compactions.Picking.{needs_compaction}
use Rattle.leveldb_version.specs.Tables.TableCache.{TableOptions}
use Rattle.leveldb_version.specs.declared.table_cache.TableCache.{TableCache}
use Rattle.leveldb_store.proofs.Compactions.CompactedLemmas.{compacted_then, merge_between, nothing_compacted}
use Rattle.leveldb_store.proofs.Compactions.CompactRangeLemmas.{memory_compacted}
use Rattle.leveldb_store.proofs.Keeping.KeptEntriesLemmas.{entries_same}
use Rattle.leveldb_store.specs.Tables.BuildTable.{TableChoices}
use Rattle.leveldb_store.specs.Compactions.Compact.{CompactsTables, FailsToCompactRange, KeepsCompacted}
use Rattle.leveldb_store.specs.Keeping.KeptEntries.{CompactsOnceAtMost, KeepsEntries}
use Rattle.leveldb_store.specs.Keeping.LoggedEdits.{LogsByScore, LogsTableEdits}
use Rattle.leveldb_store.specs.Keeping.OpenStore.{IsUnbroken, OpenStoreValue}
use Rattle.leveldb_store.specs.Keeping.OpenTables.{ClosesObsolete}
use Rattle.leveldb_store.specs.Writing.Room.{FailsToMakeRoom, IsFull, MakesRoom}
use Rattle.leveldb_store.specs.Writing.RoomSteps.{AddsNone, IsStepToRoom}
use Rattle.leveldb_store.specs.Keeping.SoundCall.{IsSoundCall}
use Rattle.rusty_leveldb.proofs.Engines.KeepsOrCompactsLemmas.{kept_in_tables, kept_or_compacted, kept_as_they_are}
use Rattle.rusty_leveldb.specs.Engines.Room.{LogsIfDue, LogsRoom, StoreMakesRoom}

module _ {E F C FP D P : Type 0} (order : CmpGhosts (InternalKeyCmp C)) (env : Ghosts E F)
    (by : TableOptions C FP) (old : OpenStoreValue C) (from : E) (tables : TableCache E C FP F)
    {keys : CmpGhosts D} {filters : FilterGhosts P} (choices : TableChoices keys filters)
    (format_is : choices.format ≡ by.format) (limit smallest : ℕ) (due : Bool) where
  abbrev Makes : Result (Unit {0}) Status → OpenStoreValue C → E → TableCache E C FP F → Type 0
  Makes = StoreMakesRoom order env by old from tables choices limit smallest due

  abbrev Keeps : Result (Unit {0}) Status → OpenStoreValue C → E → TableCache E C FP F → Type 0
  Keeps = KeepsCompacted order env by old from tables smallest
      (FailsToCompactRange order env by old from tables choices)

  -- an Err leaves something to do
  unfinished : (result : Result (Unit {0}) Status) (new : OpenStoreValue C)
      → IfErr result (λ e. IsOutOfMemory e ⊎ IsTrue (needs_compaction new.current))
      → IfErr result (λ e. IsFull limit new.mem ⊎ (new.imm ≢ None)
      ⊎ IsTrue (needs_compaction new.current) ⊎ IsOutOfMemory e)
  unfinished (Ok unit) new asks = tt
  unfinished (Err status) new asks = ⊎_elim
      (λ (memory : IsOutOfMemory status). inr (inr (inr memory)))
      (λ (asks_still : IsTrue (needs_compaction new.current)). inr (inr (inl asks_still))) asks

  -- nothing is said of a memtable that isn't full
  of_full : (A : Type 0) → (IsFull limit old.mem → ⊥) → (result : Result (Unit {0}) Status)
      → OnOk result (IsFull limit old.mem → A)
  of_full A room (Ok unit) = λ full. absurd (room full)
  of_full A room (Err status) = tt

  -- there is room, and no compaction is due
  pub room_there : (IsFull limit old.mem → ⊥) → due ≡ false → IsUnbroken old
      → Makes (Ok tt) old from tables
  room_there room none unbroken = record {
    keeps = nothing_compacted order env by old from tables smallest
        (FailsToCompactRange order env by old from tables choices) unbroken;
    not_full = λ also. record {
      memory = refl;
      none = λ is. (refl, refl, tt);
      logs = subst (λ d. LogsIfDue d old.set old.set) (sym none) refl;
    };
    merges = λ also. record { later = omega arith; cause = tt };
    empties = λ full. absurd (room full);
    logs = λ full. absurd (room full);
    left = tt;
    entries = kept_as_they_are env by.format old from;
  }

  -- there is room, and the compaction that is due was done, or failed
  pub due_compacted : (IsFull limit old.mem → ⊥) → due ≡ true → IsUnbroken old
      → (result : Result (Unit {0}) Status) (new : OpenStoreValue C) (to : E)
      (now : TableCache E C FP F)
      → CompactsTables order env by old from tables choices smallest result new to now
      → OnOk result (LogsByScore old.set new.set)
      → IfErr result (λ e. IsOutOfMemory e ⊎ IsTrue (needs_compaction new.current))
      → {cmp : List ℕ → List ℕ → Ordering} → cmp ≡ by.format.order
      → CompactsOnceAtMost cmp env.models_disk old (env.observed from) new (env.observed to)
      → Makes result new to now
  due_compacted room is unbroken result new to now compacts by_score asks same once = record {
    keeps =
        let first = nothing_compacted order env by old from tables smallest
        (FailsToCompactRange order env by old from tables choices) unbroken in
        compacted_then first result new to now (λ status unmerged. inl unmerged) compacts.keeps;
    not_full = λ also. record {
      memory = compacts.memory;
      none = λ never. absurd (let no : true ≡ false = sym is ∙ never in cc);
      logs = subst (λ d. OnOk result (LogsIfDue d old.set new.set)) (sym is) by_score;
    };
    merges = λ also. compacts.keeps.cause;
    empties = of_full ((new.mem.entries ≡ []) × (new.mem.places ≡ 0) × (new.imm ≡ None)) room result;
    logs = of_full (LogsRoom old.set new.set) room result;
    left = unfinished result new asks;
    entries = kept_or_compacted env by.format old from old from refl
        (entries_same env by.format old from) old refl new to compacts.memory
        compacts.keeps.rest.last
        (subst (λ c. CompactsOnceAtMost c env.models_disk old (env.observed from) new
        (env.observed to)) same once);
  }

  module _ {cmp : List ℕ → List ℕ → Ordering} (same : cmp ≡ by.format.order)
      (result : Result (Unit {0}) Status) (new : OpenStoreValue C) (to : E)
      (now : TableCache E C FP F) (made : MakesRoom env cmp old from choices limit result new to)
      (sound : IsSoundCall env cmp (Agrees choices.format) old from result new to)
      (closes : ClosesObsolete env old.set from tables to now) where
    -- what tables of memory keep
    room_keeps : OnOk result (AddsNone env cmp choices.format old from new to) → Keeps result new to now
    room_keeps none = memory_compacted order env by old from tables choices format_is smallest same
        result new to now
        (subst (λ f. IsStepToRoom env cmp f (FailsToMakeRoom env cmp old from choices) old from
        result new to) format_is (record {
          keeps = made.keeps;
          usable = made.usable;
          rest = made.rest;
          cause = made.cause;
          sound = sound;
        }))
        (subst (λ f. OnOk result (AddsNone env cmp f old from new to)) format_is none) closes

  -- no room was made
  pub room_not_made : {cmp : List ℕ → List ℕ → Ordering} → cmp ≡ by.format.order
      → (status : Status) (new : OpenStoreValue C) (to : E) (now : TableCache E C FP F)
      → MakesRoom env cmp old from choices limit (Err status) new to
      → IsSoundCall {T = Unit {0}} env cmp (Agrees choices.format) old from (Err status) new to
      → ClosesObsolete env old.set from tables to now
      → KeepsEntries env choices.format old from new to → Makes (Err status) new to now
  room_not_made same status new to now made sound closes kept = record {
    keeps = room_keeps same (Err status) new to now made sound closes tt;
    not_full = λ room. absurd (made.not_full room).2;
    merges = λ room. absurd (made.not_full room).2;
    empties = tt;
    logs = tt;
    left = ⊎_elim (λ (full : IsFull limit new.mem). inl full)
        (λ (waits : new.imm ≢ None). inr (inl waits)) made.err;
    entries = kept_in_tables env by.format old from new to made.rest.store
        (subst (λ f. KeepsEntries env f old from new to) format_is kept);
  }

  -- it was, and then what the store asks for was compacted, or not
  pub room_compacted : {cmp : List ℕ → List ℕ → Ordering} → cmp ≡ by.format.order
      → IsFull limit old.mem → (mid : OpenStoreValue C) (at : E)
      (between : TableCache E C FP F) → MakesRoom env cmp old from choices limit (Ok tt) mid at
      → IsSoundCall {T = Unit {0}} env cmp (Agrees choices.format) old from (Ok tt) mid at
      → ClosesObsolete env old.set from tables at between
      → AddsNone env cmp choices.format old from mid at → LogsTableEdits 2 old.set mid.set
      → KeepsEntries env choices.format old from mid at
      → (result : Result (Unit {0}) Status) (new : OpenStoreValue C) (to : E)
      (now : TableCache E C FP F)
      → CompactsTables order env by mid at between choices smallest result new to now
      → {other : List ℕ → List ℕ → Ordering} → other ≡ by.format.order
      → OnOk result (LogsByScore mid.set new.set)
      → IfErr result (λ e. IsOutOfMemory e ⊎ IsTrue (needs_compaction new.current))
      → (charged : OpenStoreValue C)
      → charged ≡ record mid { current = charged.current }
      → CompactsOnceAtMost other env.models_disk charged (env.observed at) new (env.observed to)
      → Makes result new to now
  room_compacted same full mid at between made sound closes none tables kept result new to now
      compacts {other} also_same by_score asks charged only once = record {
        keeps =
            let first = room_keeps same (Ok tt) mid at between made sound closes none in
            compacted_then first result new to now
            (λ status unmade. inl (merge_between first choices new status unmade)) compacts.keeps;
        not_full = λ room. absurd (room full);
        merges = λ room. absurd (room full);
        empties = empties result;
        logs = logs result by_score;
        left = unfinished result new asks;
        entries = kept_or_compacted env by.format old from mid at made.rest.store
            (subst (λ f. KeepsEntries env f old from mid at) format_is kept) charged only new to
            compacts.memory compacts.keeps.rest.last
            (subst (λ c. CompactsOnceAtMost c env.models_disk charged (env.observed at) new
            (env.observed to)) also_same once);
      }
    where
      logs : (result : Result (Unit {0}) Status) → OnOk result (LogsByScore mid.set new.set)
          → OnOk result (IsFull limit old.mem → LogsRoom old.set new.set)
      logs (Ok unit) by_score = λ also. record {
        tables_made = mid.set;
        tables = tables;
        by_score = by_score;
      }
      logs (Err status) by_score = tt

      empties : (result : Result (Unit {0}) Status)
          → OnOk result (IsFull limit old.mem → (new.mem.entries ≡ [])
          × (new.mem.places ≡ 0) × (new.imm ≡ None))
      empties (Ok unit) = λ also. (
        ap (λ (v : OpenStoreValue C). v.mem.entries) compacts.memory ∙ (made.none_waits full).0,
        ap (λ (v : OpenStoreValue C). v.mem.places) compacts.memory ∙ made.places full,
        ap (λ (v : OpenStoreValue C). v.imm) compacts.memory ∙ (made.none_waits full).1,
      )
      empties (Err status) = tt
