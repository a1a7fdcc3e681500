-- What syncs of the log, and appends to it, make of an open store.
use Rattle.std.specs.Prelude.{Contains, IfErr, OnErr}
use Rattle.std.proofs.Common.{◌≡◌, ◌∷◌, ◌+◌, ◌≤◌, length, inl, inr, ⊎_elim, ℕ, List, [], Ok, Err, Result, ap, arith, subst}
use Rattle.std.proofs.lemmas.List.Elements.{Contains-append_cases}
use Rattle.std.proofs.lemmas.Result.{on_err_weaker, on_ok_weaker}
use Rattle.leveldb_base.proofs.HistoryLemmas.{in_cases, in_none}
use Rattle.leveldb_base.specs.History.{AreUpTo, Entry, Item, greatest, placed}
use Rattle.leveldb_base.specs.declared.error.Status.{Status}
use Rattle.leveldb_env.specs.declared.env.Env.{Ghosts}
use Rattle.leveldb_mem.specs.Log.LogFile.{AppendsRecord, LogFileState, SyncsRecords}
use Rattle.leveldb_mem.specs.Log.Writer.{broken_writer}
use Rattle.leveldb_mem.specs.MemTable.{IsUnion, entry_of}
use Rattle.leveldb_store.specs.Keeping.OpenStore.{OpenStoreValue}
use Rattle.leveldb_store.specs.Writing.Write.{AppendsToLog, SyncsLog, open_log_path, with_writer}

-- what each error says is said otherwise
errs_say : {T : Type 0} {P Q : Status → Type 0} (result : Result T Status)
    → ((e : Status) → P e → Q e) → IfErr result P → IfErr result Q
errs_say (Ok value) to says = tt
errs_say (Err status) to says = to status says

-- and what an error says
err_says : {T P : Type 0} {Q : Status → Type 0} (result : Result T Status)
    → (P → (e : Status) → Q e) → OnErr result P → IfErr result Q
err_says (Ok value) to says = tt
err_says (Err status) to says = to says status

module _ {E F C : Type 0} (env : Ghosts E F) (old : OpenStoreValue C) (from : E) where
  -- the log's file as the store has it
  abbrev its_log : LogFileState
  its_log = record { path = open_log_path old; writer = old.log.writer }

  -- the store with the writer of a log's file
  abbrev with_log : LogFileState → OpenStoreValue C
  with_log log = with_writer old log.writer

  module _ {result : Result (Unit {0}) Status} {new : LogFileState} {to : E} where
    -- a sync of the log's file is one of the store's log
    pub syncs_log : SyncsRecords env its_log from result new to
        → SyncsLog env old from result (with_writer old new.writer) to
    syncs_log syncs = record {
      does = syncs.does;
      undone = syncs.undone;
      locks = syncs.locks;
      ok = on_ok_weaker result (λ is. ap with_log is) syncs.ok;
      usable = syncs.usable;
      err = err_says result (λ is status. inr (ap with_log is)) syncs.err;
      broken = λ broken. (ap with_log (syncs.broken broken).0, (syncs.broken broken).1);
      cause = syncs.cause;
    }

    -- and an error of it breaks the store
    pub sync_breaks : SyncsRecords env its_log from result new to → OnErr result
        (with_writer old new.writer ≡ with_writer old (broken_writer old.log.writer))
    sync_breaks syncs = on_err_weaker result (λ is. ap with_log is) syncs.err

    -- so is an append
    pub appends_to_log : (text : List ℕ) → AppendsRecord env its_log from text result new to
        → AppendsToLog env old from text result (with_writer old new.writer) to
    appends_to_log text appends = record {
      does = appends.does;
      locks = appends.locks;
      ok = on_ok_weaker result (λ is. ap with_log is) appends.ok;
      usable = appends.usable;
      err = errs_say result
          (λ e why. ⊎_elim
          (λ memory. inl (memory.0, ap with_log memory.1, memory.2))
          (λ breaks. inr (ap with_log breaks)) why) appends.err;
      broken = λ broken. (ap with_log (appends.broken broken).0, (appends.broken broken).1);
      cause = appends.cause;
    }

-- ---- numbers

-- the entries of a batch have no greater numbers than those that it was given
pub greatest_below : (last : ℕ) (items : List Item) → greatest (placed (last + 1) items) ≤ last + length items
greatest_below last [] = omega arith
greatest_below last (item ∷ items) = let rest = greatest_below (last + 1) items in omega (arith, rest)

-- nor has any of them
placed_up_to : (last : ℕ) (items : List Item) → AreUpTo (last + length items) (placed (last + 1) items)
placed_up_to last [] entry there = absurd (in_none entry there)
placed_up_to last (item ∷ items) entry there = ⊎_elim
    (λ (e : entry_of (last + 1) item.key item.value ≡ entry). let s = ap (λ (x : Entry). x.sequence) e in omega (arith, s))
    (λ (rest : Contains (placed ((last + 1) + 1) items) entry). let low = placed_up_to (last + 1) items entry rest in omega (arith, low))
    (in_cases _ entry (placed ((last + 1) + 1) items) there)

-- so with them no entry has a greater one
pub inserted_up_to : (last : ℕ) (old : List Entry) (first : ℕ) (items : List Item) (new : List Entry) → AreUpTo last old → first ≡ last + 1 → IsUnion old (placed first items) new
    → AreUpTo (last + length items) new
inserted_up_to last old first items new low is gains entry there = ⊎_elim
    (λ (was : Contains old entry). let a = low entry was in omega (arith, a))
    (λ (more : Contains (placed first items) entry). placed_up_to last items entry (subst (λ n. Contains (placed n items) entry) is more))
    (Contains-append_cases old (placed first items) entry ((gains entry).0 there))
