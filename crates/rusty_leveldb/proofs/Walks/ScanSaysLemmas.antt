-- From the record of a scan to what it says in the words of the headline.
use Rattle.std.specs.Prelude.{Contains, OnErr, OnOk, Result, take}
use Rattle.std.proofs.Common.{◌≡◌, inl, inr, ℕ, List, [], refl, sym, ◌∙◌, ap, subst, arith, Option, Some, None, Ok, Err, IsTrue}
use Rattle.std.specs.declared.cmp.Ordering.{Ordering}
use Rattle.leveldb_base.specs.History.{IsView, entries_of}
use Rattle.leveldb_base.specs.Types.{Pair}
use Rattle.leveldb_base.specs.declared.error.Status.{Status}
use Rattle.leveldb_env.proofs.EnvLemmas.{Run-mono}
use Rattle.leveldb_env.specs.Options.{Boxed, OptionsOf}
use Rattle.leveldb_env.specs.declared.env.Env.{Ghosts}
use Rattle.leveldb_env.specs.declared.filter.FilterPolicy.{Ghosts as FilterGhosts}
use Rattle.leveldb_files.specs.Stores.Format.{Meaning}
use Rattle.leveldb_store.specs.Tables.BuildTable.{TableChoices}
use Rattle.rusty_leveldb.specs.Headline as headline
use Rattle.rusty_leveldb.specs.Headline.{Batch, CallOutcome, CallRow, StoreMode, UserStore, barred, done, failed, found, is_broken, is_closed, is_open, map_of, snapshot, walked}
use Rattle.rusty_leveldb.specs.Engines.Boxes.{EngineOf, InternalOrder}
use Rattle.rusty_leveldb.specs.Engines.Engine.{IsClosed, formats_of}
use Rattle.rusty_leveldb.specs.Engines.Rows.{RepresentsAt}
use Rattle.rusty_leveldb.specs.Engines.Witness.{showing_in}
use Rattle.rusty_leveldb.specs.Machines.Shown.{snapshot_number, store_mode_of}
use Rattle.rusty_leveldb.specs.Machines.State.{Mode, Snapshot, State, broken, closed, open_mode}
use Rattle.rusty_leveldb.specs.Says.{CrashLeaves, IsFailure, IsHeadlineRow, WalkedOr}
use Rattle.rusty_leveldb.specs.Walks.Scan.{scan_key, scanned}
use Rattle.rusty_leveldb.specs.Walks.StoreScan.{EngineScans, SaysScanned}
use Rattle.rusty_leveldb.specs.declared.scan.Scan.{Scan}
use Rattle.rusty_leveldb.proofs.Engines.SaysLemmas.{is_showing, says_found}
use Rattle.rusty_leveldb.proofs.Headline.ShownLemmas.{reads_map}
use Rattle.rusty_leveldb.proofs.Headline.WalkRowLemmas.{listing}
use Rattle.rusty_leveldb.proofs.Walks.SaysLemmas.{is_closed_state}

-- a walk of no move that is done, in a store that isn't closed
walked_row : (order : List ℕ → List ℕ → Ordering) (store : UserStore) (at : Option ℕ)
    (mode : StoreMode) → (mode ≡ is_closed → ⊥) → (shown : List Batch) (pairs : List Pair)
    → headline.IsShown store at shown → headline.IsListing order (map_of shown) pairs
    → CallRow order mode store (headline.walk at []) (headline.walked []) store
walked_row order store at is_closed open_so shown pairs is lists = absurd (open_so refl)
walked_row order store at is_open open_so shown pairs is lists =
    (tt, (refl, shown, pairs, is, lists, tt))
walked_row order store at is_broken open_so shown pairs is lists =
    (tt, (refl, shown, pairs, is, lists, tt))

-- a walk fails as a look-up does
allowed_as_walk : (order : List ℕ → List ℕ → Ordering) (store next : UserStore) (at : Option ℕ)
    (key : List ℕ) (status : Status) (meaning : Meaning) (outcome : CallOutcome)
    → IsFailure status meaning outcome
    → headline.IsCaused (headline.get at key) outcome
    × headline.AllowedRow order store (headline.get at key) outcome next
    → headline.IsCaused (headline.walk at []) outcome
    × headline.AllowedRow order store (headline.walk at []) outcome next
allowed_as_walk order store next at key status meaning done failure row = absurd failure.0
allowed_as_walk order store next at key status meaning (found value) failure row =
    absurd failure.0
allowed_as_walk order store next at key status meaning (walked results) failure row =
    absurd failure.0
allowed_as_walk order store next at key status meaning (snapshot number) failure row =
    absurd failure.0
allowed_as_walk order store next at key status meaning (failed why) failure row = (row.0, row.1)
allowed_as_walk order store next at key status meaning (barred mode) failure row = absurd row.1

fails_as_walk : (order : List ℕ → List ℕ → Ordering) (store next : UserStore) (at : Option ℕ)
    (key : List ℕ) (status : Status) (meaning : Meaning) (mode : StoreMode) (outcome : CallOutcome)
    → IsFailure status meaning outcome
    → CallRow order mode store (headline.get at key) outcome next
    → CallRow order mode store (headline.walk at []) outcome next
fails_as_walk order store next at key status meaning is_closed outcome failure row = row
fails_as_walk order store next at key status meaning is_open outcome failure row =
    allowed_as_walk order store next at key status meaning outcome failure row
fails_as_walk order store next at key status meaning is_broken outcome failure row =
    allowed_as_walk order store next at key status meaning outcome failure row

module _ {E C FP F P : Type 0} {B : Boxed} {keys : InternalOrder C} {key_filters : FilterGhosts P}
    {env : Ghosts E F} {choices : OptionsOf C FP B → TableChoices keys key_filters}
    {before : EngineOf E C FP F B} {from : E} {after : EngineOf E C FP F B} {to : E}
    {at : Option Snapshot} {scan : Scan} {count : ℕ} {given : List Pair} where
  pub scan_says : {result : Result (Unit {0}) Status}
      → EngineScans env choices before from at scan count given result after to
      → SaysScanned env (showing_in keys env (formats_of choices)) before from (snapshot_number at)
      scan count given result after to
  scan_says {result = result} does modelled place order store shown = by result does
    where
      -- the pairs of a scan that is done, in the map that is shown
      by : (result : Result (Unit {0}) Status)
          → EngineScans env choices before from at scan count given result after to
          → IsHeadlineRow env (showing_in keys env (formats_of choices)) place order store
          (headline.walk (snapshot_number at) []) (WalkedOr [] result)
          ((showing_in keys env (formats_of choices)).shows place order after
          (env.observed to).disk) from to
          × OnOk result ((batches : List Batch) × (pairs : List Pair)
          × headline.IsShown store (snapshot_number at) batches
          × headline.IsListing order (map_of batches) pairs
          × (given ≡ take count (scanned order scan pairs)))
          × OnErr result (given ≡ [])
      by (Ok nothing) does =
          let old = shown.0 in
          let goes = does.ok place.name place.meaning modelled old shown.1 in
          let row = goes.2 in
          let reads = reads_map old store shown.1.disk_is.is_state shown.2 at row.0 row.1 in
          let view = subst (λ o. IsView o (entries_of old.history) row.0 row.2) shown.3 row.3 in
          let lists = listing order (entries_of old.history) row.0 row.2 (map_of reads.shown)
          reads.map view in
          let open_so : store.mode ≡ is_closed → ⊥ = λ is. (does.refused_by_mode
          (shown.1.memory_is.mode ∙ is_closed_state old.mode (sym shown.2.mode ∙ is))).2 in (
            record {
              outcome = headline.walked [];
              returned = ([], refl, refl);
              faults = λ there. absurd (let low = there.1 in omega (arith, low));
              next = store;
              row = walked_row order store (snapshot_number at) store.mode open_so reads.shown row.2
                  reads.is lists;
              after = (
                old,
                subst (λ s. RepresentsAt keys env (formats_of choices) place.name place.meaning
                    (Some after) to s) row.5 goes.1,
                shown.2,
                shown.3,
              );
              crash = Run-mono (λ files is.
                  subst (CrashLeaves (showing_in keys env (formats_of choices)) place store None)
                  (sym is)
                  ((is_showing keys env (formats_of choices)).crash_shown place order before
                  (env.observed from).disk store shown)) (does.still.disk modelled);
            },
            (
              reads.shown,
              row.2,
              reads.is,
              lists,
              subst (λ o. given ≡ take count (scanned o scan row.2)) shown.3 row.4,
            ),
            tt,
          )
      by (Err status) does =
          let found = says_found keys env (formats_of choices) before from after to at (scan_key scan)
          (Err status) does.err modelled place order store shown in (
            record {
              outcome = found.outcome;
              returned = found.returned;
              faults = found.faults;
              next = found.next;
              row = fails_as_walk order store found.next (snapshot_number at) (scan_key scan) status
                  place.meaning store.mode found.outcome found.returned found.row;
              after = found.after;
              crash = found.crash;
            },
            tt,
            does.none,
          )
