-- What compactions in a row keep of an open store, where each follows on the one before: why one of
-- them fails is said of the first store. And what a call keeps that changes nothing.
use Rattle.std.proofs.Common.{◌≡◌, ◌∙◌, ◌++◌, ◌⊎◌, ◌≤◌, inl, inr, ⊎_elim, ℕ, Bool, true, List, Ok, Err, Result, ap, arith, refl, subst, sym}
use Rattle.std.specs.Prelude.{All, Contains, IsTrue, OnOk}
use Rattle.std.proofs.lemmas.List.Elements.{All-weaker}
use Rattle.leveldb_base.specs.Entries.{entry_of_pair}
use Rattle.leveldb_base.specs.History.{Entry}
use Rattle.leveldb_base.specs.Types.{Pair}
use Rattle.leveldb_base.specs.declared.cmp.Cmp.{Ghosts as CmpGhosts}
use Rattle.leveldb_base.specs.declared.cmp.internal.InternalKeyCmp.{InternalKeyCmp}
use Rattle.leveldb_base.specs.declared.error.Status.{Status}
use Rattle.leveldb_env.specs.declared.env.Env.{Ghosts}
use Rattle.leveldb_env.specs.declared.filter.FilterPolicy.{Ghosts as FilterGhosts}
use Rattle.leveldb_files.specs.Stores.Format.{Agrees, Meaning}
use Rattle.leveldb_files.specs.Levels.Levels.{LiveTable, table_entries}
use Rattle.leveldb_version.specs.Tables.TableCache.{TableOptions, files_at}
use Rattle.leveldb_version.specs.declared.table_cache.TableCache.{TableCache}
use Rattle.leveldb_store.proofs.Keeping.KeptBytesLemmas.{spares_kept_none}
use Rattle.leveldb_store.proofs.Keeping.GivenTablesLemmas.{given_same}
use Rattle.leveldb_store.proofs.Keeping.NoNewEntriesLemmas.{adds_none, adds_none_then}
use Rattle.leveldb_store.proofs.Writing.RoomLemmas.{spares_then}
use Rattle.leveldb_store.proofs.Keeping.SoundLemmas.{failed_later, goes_on_then, nothing_goes_on, sound_ok, sound_unbroken}
use Rattle.leveldb_store.proofs.Writing.Level0TableLemmas.{keeps_nothing}
use Rattle.leveldb_store.proofs.Keeping.WrittenFromLemmas.{keeps_from, keeps_from_then}
use Rattle.leveldb_store.specs.Tables.BuildTable.{TableChoices}
use Rattle.leveldb_store.specs.Compactions.Compact.{CompactsTables, FailsToMerge, HasTablesWritten, KeepsCompacted}
use Rattle.leveldb_store.specs.Keeping.OpenStore.{IsUnbroken, OpenStoreValue}
use Rattle.leveldb_store.specs.Keeping.OpenTables.{AreOpenTablesOf}
use Rattle.leveldb_store.specs.Reading.Read.{HasOpenTables, in_memory}
use Rattle.leveldb_store.specs.Writing.Room.{FailsFor}
use Rattle.leveldb_store.specs.Keeping.SoundCall.{IsSoundCall}
use Rattle.leveldb_store.specs.Keeping.Written.{IsWritten, SparesRest}
use Rattle.leveldb_store.specs.Keeping.WrittenFrom.{AddsNoEntry}

-- ---- one call after another

module _ {E F C FP : Type 0} {order : CmpGhosts (InternalKeyCmp C)} {env : Ghosts E F}
    {by : TableOptions C FP} {old mid : OpenStoreValue C} {from at : E}
    {tables between : TableCache E C FP F} {smallest : ℕ}
    {Before : OpenStoreValue C → Status → Type 0}
    (first : KeepsCompacted order env by old from tables smallest Before (Ok tt) mid at between)
  where
    -- the open tables are the store's after the first one
    pub open_between : HasOpenTables order env by old from tables
        → HasOpenTables order env by mid at between
    open_between has = record { modelled = has.modelled; are = first.still_open has }

    -- and so the store is written
    pub written_between : HasOpenTables order env by old from tables → (meaning : Meaning)
        → Agrees by.format meaning → IsWritten by.format.order meaning old (files_at env from)
        → IsWritten by.format.order meaning mid (files_at env at)
    written_between has meaning agrees w =
        (first.keeps has meaning agrees (λ store. true) w).written first.usable

    -- with its tables, which have no new entry
    pub tables_between : (meaning : Meaning) (live : List LiveTable)
        → HasTablesWritten order env by old from tables meaning live → (now : List LiveTable)
        × HasTablesWritten order env by mid at between meaning now
        × ((entry : Entry) → Contains (in_memory mid ++ table_entries now) entry
        → Contains (in_memory old ++ table_entries live) entry)
    tables_between meaning live has =
        let w = written_between has.has_open meaning has.agrees has.written in
        let none_new = first.none_new has.has_open meaning has.agrees has.written live has.has_live in (
          none_new.0,
          record {
            has_open = open_between has.has_open;
            agrees = has.agrees;
            written = w;
            has_live = none_new.1;
          },
          none_new.2,
        )

    -- why tables aren't merged then, said of the store before
    pub merge_between : {D P : Type 0} {keys : CmpGhosts D} {filters : FilterGhosts P}
        (choices : TableChoices keys filters) (new : OpenStoreValue C) (status : Status)
        → FailsToMerge order env by mid at between choices new status
        → FailsToMerge order env by old from tables choices new status
    merge_between choices new status (inl memory) = inl memory
    merge_between choices new status (inr (inl used)) = inr (inl used)
    merge_between choices new status (inr (inr (inl unbuilt))) = inr (inr (inl (record {
      pairs = unbuilt.pairs;
      not_built = unbuilt.not_built;
      theirs = λ meaning live has.
          let now = tables_between meaning live has in
          All-weaker
          (λ (pair : Pair). Contains (in_memory mid ++ table_entries now.0) (entry_of_pair pair))
          (λ (pair : Pair). Contains (in_memory old ++ table_entries live) (entry_of_pair pair))
          (λ pair c. now.2 (entry_of_pair pair) c) unbuilt.pairs (unbuilt.theirs meaning now.0 now.1);
    })))
    merge_between choices new status (inr (inr (inr lost))) = inr (inr (inr (record {
      fault = lost.fault;
      lacks = λ meaning live has.
          let now = tables_between meaning live has in lost.lacks meaning now.0 now.1;
    })))

    -- ---- what both keep

    cause_between : {P Q : Status → Type 0} → ((status : Status) → P status → Q status)
        → (result : Result (Unit {0}) Status) (to : E)
        → FailsFor P (env.failures at) (env.failures to) result
        → FailsFor Q (env.failures from) (env.failures to) result
    cause_between so (Ok unit) to cause = record {
      later = omega (arith, first.cause.later, cause.later);
      cause = tt;
    }
    cause_between so (Err status) to cause = record {
      later = omega (arith, first.cause.later, cause.later);
      cause = ⊎_elim (λ excused. inl (so status excused))
          (λ counted. inr (failed_later (env.failures from) (env.failures at) (env.failures to)
          first.cause.later cause.later counted)) cause.cause;
    }

    abbrev Means : OpenStoreValue C → E → TableCache E C FP F → Meaning → Type 0
    Means value state cache meaning =
        HasOpenTables order env by value state cache × Agrees by.format meaning

    sound_between : (result : Result (Unit {0}) Status) (new : OpenStoreValue C) (to : E)
        → env.failures at ≤ env.failures to
        → IsSoundCall env by.format.order (Means mid at between) mid at result new to
        → IsSoundCall env by.format.order (Means old from tables) old from result new to
    sound_between (Ok unit) new to later second = sound_ok env by.format.order
        (Means old from tables) old from unit new to
        (goes_on_then env (first.sound.time, first.sound.bytes) (second.time, second.bytes))
    sound_between (Err status) new to later second =
        let goes_on =
        goes_on_then env (first.sound.time, first.sound.bytes) (second.time, second.bytes) in
        record {
          time = goes_on.0;
          bytes = goes_on.1;
          breaks = λ modelled meaning means w. ⊎_elim (λ unbroken. inl unbroken)
              (λ other. inr (⊎_elim (λ memory. inl memory)
              (λ counted. inr (failed_later (env.failures from) (env.failures at)
              (env.failures to) first.cause.later later counted)) other))
              (second.breaks modelled meaning (open_between means.0, means.1)
              (written_between means.0 meaning means.1 w));
        }

    abbrev AddsNone : OpenStoreValue C → E → TableCache E C FP F → OpenStoreValue C → E → Type 0
    AddsNone value state cache new to = HasOpenTables order env by value state cache
        → (meaning : Meaning) → Agrees by.format meaning
        → IsWritten by.format.order meaning value (files_at env state)
        → AddsNoEntry by.format.order meaning value (files_at env state) new (files_at env to)

    none_between : (result : Result (Unit {0}) Status) (new : OpenStoreValue C) (to : E)
        → OnOk result (AddsNone mid at between new to)
        → OnOk result (AddsNone old from tables new to)
    none_between (Ok unit) new to none_new = λ has meaning agrees w.
        adds_none_then by.format.order meaning old mid new (files_at env from) (files_at env at)
        (files_at env to) (first.none_new has meaning agrees w)
        (none_new (open_between has) meaning agrees (written_between has meaning agrees w))
    none_between (Err status) new to none_new = tt

    -- `so` says of the store before the first why the second fails
    pub compacted_then : {P Q : OpenStoreValue C → Status → Type 0}
        (result : Result (Unit {0}) Status) (new : OpenStoreValue C) (to : E)
        (now : TableCache E C FP F) → ((status : Status) → P new status → Q new status)
        → KeepsCompacted order env by mid at between smallest P result new to now
        → KeepsCompacted order env by old from tables smallest Q result new to now
    compacted_then result new to now so second = record {
      keeps = λ has meaning agrees. keeps_from_then by.format.order meaning smallest old mid new
          (env.observed from) (env.observed at) (env.observed to) (first.keeps has meaning agrees)
          first.usable first.rest.store first.rest.last
          (second.keeps (open_between has) meaning agrees);
      usable = second.usable;
      rest = spares_then first.rest second.rest;
      still_open = λ has. second.still_open (open_between has);
      none_new = none_between result new to second.none_new;
      sound = sound_between result new to second.cause.later second.sound;
      cause = cause_between so result to second.cause;
    }

-- ---- tables

module _ {E F C FP D P : Type 0} {order : CmpGhosts (InternalKeyCmp C)} {env : Ghosts E F}
    {by : TableOptions C FP} {keys : CmpGhosts D} {filters : FilterGhosts P}
    {choices : TableChoices keys filters} {smallest : ℕ} where
  -- the compactions of one call after those of another
  pub compacts_then : {old mid new : OpenStoreValue C} {from at to : E}
      {tables between now : TableCache E C FP F} {result : Result (Unit {0}) Status}
      → CompactsTables order env by old from tables choices smallest (Ok tt) mid at between
      → CompactsTables order env by mid at between choices smallest result new to now
      → CompactsTables order env by old from tables choices smallest result new to now
  compacts_then {new = new} {to = to} {now = now} {result = result} first second = record {
    keeps = compacted_then first.keeps result new to now
        (merge_between first.keeps choices new) second.keeps;
    memory = second.memory ∙ ap
        (λ (value : OpenStoreValue C). record value { set = new.set; current = new.current })
        first.memory;
  }

-- ---- nothing changes

-- nothing of a store and of its files
spares_none : {E F C : Type 0} (env : Ghosts E F) (old : OpenStoreValue C) (from : E)
    → SparesRest env.models_disk old (env.observed from) old (env.observed from)
spares_none env old from = record {
  store = refl;
  cmp = refl;
  last = refl;
  kept_to = refl;
  files = λ modelled path spared. refl;
  numbers = omega arith;
  tables = λ modelled. given_same old.set (env.observed from).disk.files
      (env.observed from).disk.files (λ number fits given. refl);
  kept = spares_kept_none old.set old.kept_to (env.observed from);
  locks = λ modelled. refl;
}

module _ {E F C FP : Type 0} (order : CmpGhosts (InternalKeyCmp C)) (env : Ghosts E F)
    (by : TableOptions C FP) (old : OpenStoreValue C) (from : E) (tables : TableCache E C FP F)
    (smallest : ℕ) (Excused : OpenStoreValue C → Status → Type 0) where
  -- no compaction is done, where the store isn't broken
  pub nothing_compacted : IsUnbroken old
      → KeepsCompacted order env by old from tables smallest Excused (Ok tt) old from tables
  nothing_compacted unbroken = record {
    keeps = λ has meaning agrees. keeps_from by.format.order meaning smallest old
        (env.observed from) old (env.observed from)
        (keeps_nothing by.format.order meaning old (env.observed from));
    usable = unbroken;
    rest = spares_none env old from;
    still_open = λ has. has.are;
    none_new = λ has meaning agrees w. adds_none by.format.order meaning old (files_at env from);
    sound = sound_ok env by.format.order
        (λ meaning. HasOpenTables order env by old from tables × Agrees by.format meaning) old from
        tt old from (nothing_goes_on env from);
    cause = record { later = omega arith; cause = tt };
  }

  -- or a call failed before anything was done
  pub failed_at_once : (status : Status) → Excused old status
      → KeepsCompacted order env by old from tables smallest Excused (Err status) old from tables
  failed_at_once status excused = record {
    keeps = λ has meaning agrees. keeps_from by.format.order meaning smallest old
        (env.observed from) old (env.observed from)
        (keeps_nothing by.format.order meaning old (env.observed from));
    usable = tt;
    rest = spares_none env old from;
    still_open = λ has. has.are;
    none_new = tt;
    sound = sound_unbroken env by.format.order
        (λ meaning. HasOpenTables order env by old from tables × Agrees by.format meaning) old from
        status old from (nothing_goes_on env from) (λ unbroken. unbroken);
    cause = record { later = omega arith; cause = inl excused };
  }

-- ---- the open tables are the store's

module _ {E F C FP : Type 0} {order : CmpGhosts (InternalKeyCmp C)} {env : Ghosts E F}
    {by : TableOptions C FP} {old : OpenStoreValue C} {from : E} {tables : TableCache E C FP F}
    (are : IsTrue env.models_disk → AreOpenTablesOf order env by old.set (files_at env from) tables)
  where
    -- then a call is sound with no more said
    pub sound_of_open : {result : Result (Unit {0}) Status} {new : OpenStoreValue C} {to : E}
        → IsSoundCall env by.format.order
        (λ meaning. HasOpenTables order env by old from tables × Agrees by.format meaning) old from
        result new to
        → IsSoundCall env by.format.order (Agrees by.format) old from result new to
    sound_of_open sound = record {
      time = sound.time;
      bytes = sound.bytes;
      breaks = λ modelled meaning agrees w. sound.breaks modelled meaning
          (record { modelled = modelled; are = are modelled }, agrees) w;
    }
