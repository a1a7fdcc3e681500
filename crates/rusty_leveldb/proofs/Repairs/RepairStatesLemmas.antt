-- The states of a disk around a repair: the one that it represented is kept while `CURRENT` is as it
-- was, and then it is that of the set that was found.
use Rattle.std.specs.Cmp.{IsTotalOrder}
use Rattle.std.specs.declared.cmp.Ordering.{Ordering}
use Rattle.std.proofs.Common.{◌≡◌, ◌+◌, ◌⊎◌, ◌∙◌, ⊎_elim, inl, inr, ℕ, Bool, true, false, List, [], ◌∷◌, refl, sym, ap, subst, arith, append-nil, Option, None, Some, IsTrue}
use Rattle.std.proofs.lemmas.List.Elements.{All-nil}
use Rattle.leveldb_base.proofs.HistoryLemmas.{in_none}
use Rattle.leveldb_base.specs.History.{Entry, IsPlaced, count_of, entries_of, greatest, with_batch}
use Rattle.leveldb_env.specs.Compressor.{Coding, Decodes, decoded_under}
use Rattle.leveldb_env.specs.Env.{BeforeOrAfter, Disk, Files, Observed, created}
use Rattle.leveldb_env.proofs.EnvLemmas.{SameBut-created}
use Rattle.leveldb_table.specs.TableLaws.{DecodesMore}
use Rattle.leveldb_version_set.proofs.Repairs.FoundLemmas.{one_found_set}
use Rattle.leveldb_version_set.proofs.Repairs.RepairingKeepsLemmas.{repair_keeps}
use Rattle.leveldb_version_set.proofs.Repairs.RepairingLemmas.{repaired_holds}
use Rattle.leveldb_files.specs.Stores.Contents.{Store}
use Rattle.leveldb_files.specs.Stores.Format.{Agrees, Format, IsTableOf, Meaning}
use Rattle.leveldb_version_set.specs.Repairs.Found.{IsAnyTable}
use Rattle.leveldb_files.specs.Histories.Holds.{Holds}
use Rattle.leveldb_files.specs.Levels.Levels.{table_entries}
use Rattle.leveldb_files.specs.Stores.Paths.{current_path, lock_path}
use Rattle.leveldb_files.specs.Stores.Store.{SameEntries}
use Rattle.leveldb_files.specs.Steps.StoreSteps.{AppendedAreBytes, KeepsHistory}
use Rattle.leveldb_repair.specs.RepairStore.{HoldsOldOrAllFound, HoldsAllFound}
use Rattle.rusty_leveldb.specs.Machines.Machine.{risk_between}
use Rattle.rusty_leveldb.specs.Repairs.Repair.{AreFoundIn, IsMomentOfLockedRepair, IsSparedOrRepaired, StaysOrIsRepaired, repaired_state}
use Rattle.rusty_leveldb.specs.Engines.Serves.{IsSpared, Reads, StandsFor}
use Rattle.rusty_leveldb.specs.Machines.State.{IsState, Mode, Opening, State, SuitsMode, broken, closed, open_mode}
use Rattle.rusty_leveldb.proofs.Engines.EngineLemmas.{Stays}
use Rattle.rusty_leveldb.proofs.Openings.LockLemmas.{lock_keeps}
use Rattle.rusty_leveldb.proofs.Engines.ReadsLemmas.{IsNamed, KeepsBy, holds_of, if_stays, keeps_allowed, keeps_holds, keeps_of, name_in, stands_named, stays_if}
use Rattle.rusty_leveldb.proofs.Repairs.RepairedSetLemmas.{repaired_set}

-- ---- locks and modes

-- where the lock is free, the store is closed
pub closed_if_free : (mode : Mode) (state : State) → SuitsMode mode state → state.locked ≡ false
    → mode ≡ closed
closed_if_free closed state suits free = refl
closed_if_free open_mode state suits free =
    let never : true ≡ false = sym suits.1 ∙ free in cc
closed_if_free broken state suits free = let never : true ≡ false = sym suits ∙ free in cc

-- a mode suits a state with its lock as it is, or of a closed store with any
suits_with : (mode : Mode) (state : State) (held : Bool) → SuitsMode mode state
    → (mode ≡ closed) ⊎ (held ≡ state.locked) → SuitsMode mode (record state { locked = held })
suits_with closed state held suits which = record { held = suits.held; given = suits.given }
suits_with open_mode state held suits (inl is) =
    absurd (let never : open_mode ≡ closed = is in cc)
suits_with open_mode state held suits (inr same) = (suits.0, subst IsTrue (sym same) suits.1)
suits_with broken state held suits (inl is) = absurd (let never : broken ≡ closed = is in cc)
suits_with broken state held suits (inr same) = subst IsTrue (sym same) suits

-- ---- the old state

module _ (store : List ℕ) (meaning : Meaning) (asked : Opening) (from : Observed) (old : State)
    (was : StandsFor store meaning from.disk old) where
  abbrev own_name : List ℕ
  own_name = name_in asked old.store

  abbrev own : List ℕ → List ℕ → Ordering
  own = meaning.orders own_name

  abbrev bound : ℕ
  bound = old.last + count_of old.pending

  own_stays : (there : Store) → Stays old there → IsNamed own_name there
  own_stays there may = subst (IsNamed own_name) (sym (stays_if None old.store there may))
      (stands_named store meaning asked from.disk.files old.store old.history old.last old.durable
      old.pending was.holds)

  -- files that keep each history in the order of the store that was there
  abbrev KeepsOwn : Files → Type 0
  KeepsOwn now = KeepsHistory store own (IsTableOf own meaning) (Stays old) bound from.disk.files
      now

  keeps_by : (now : Files) → KeepsOwn now
      → KeepsBy store (Reads store meaning) (λ there. there ≡ old.store) bound from.disk.files now
  keeps_by now keeps = keeps_allowed store (Reads store meaning) (Stays old)
      (λ there. there ≡ old.store) (stays_if None old.store) (if_stays None old.store) bound
      from.disk.files now
      (keeps_of store meaning own_name own refl (Stays old) own_stays bound from.disk.files now
      keeps)

  still_spared : (now : Files) → KeepsOwn now → IsSpared store meaning old (risk_between old) now
  still_spared now keeps =
      (keeps_by now keeps).crash old.durable (with_batch old.history old.pending) was.holds.crash

  pub still_stands : (disk : Disk) → KeepsOwn disk.files → AppendedAreBytes disk.files
      → (old.mode ≡ closed) ⊎ (disk.locked (lock_path store) ≡ old.locked)
      → StandsFor store meaning disk (record old { locked = disk.locked (lock_path store) })
  still_stands disk keeps bytes which = record {
    is_state = record {
      history = was.is_state.history;
      reached = was.is_state.reached;
      pending = was.is_state.pending;
      durable = was.is_state.durable;
      held = was.is_state.held;
      mode = suits_with old.mode old (disk.locked (lock_path store)) was.is_state.mode which;
    };
    holds = keeps_holds store (Reads store meaning) (λ there. there ≡ old.store) from.disk.files
        disk.files old.history old.last old.durable old.pending (keeps_by disk.files keeps)
        was.holds;
    bytes = bytes;
    locked = refl;
    agrees = was.agrees;
  }

  -- the lock's file may be made
  pub made_keeps : (now : Files) → BeforeOrAfter (created (lock_path store)) from.disk.files now
      → KeepsOwn now
  made_keeps now passes = lock_keeps store meaning own from.disk.files now
      (SameBut-created (lock_path store) from.disk.files now passes) was.bytes (Stays old) bound

  pub made_spared : (now : Files) → BeforeOrAfter (created (lock_path store)) from.disk.files now
      → IsSpared store meaning old (risk_between old) now
  made_spared now passes = still_spared now (made_keeps now passes)

  -- while the set goes to its tables
  repair_keeps_own : (now : Files)
      → (it : HoldsOldOrAllFound store asked.format meaning from.disk.files now)
      → now (current_path store) ≡ from.disk.files (current_path store) → KeepsOwn now
  repair_keeps_own now it still = repair_keeps store own (IsTableOf own meaning) (Stays old)
      it.taken it.next from.disk.files now it.repairing still it.some bound

-- ---- the set that was found

-- what the compressors of a format decode means the same
decodes_by : (format : Format) (meaning : Meaning) → Agrees format meaning
    → DecodesMore (Decodes format.codings) (Decodes meaning.codings)
decodes_by format meaning agrees id stored text decoded = by (format.codings id) refl decoded
  where
    by : (o : Option Coding) → format.codings id ≡ o → decoded_under o stored ≡ Some text
        → Decodes meaning.codings id stored text
    by None e found = absurd (let never : None ≡ Some text = found in cc)
    by (Some coding) e found =
        ap (λ (o : Option Coding). decoded_under o stored) (agrees.codings id coding e) ∙ found

flat_one : (found : List Entry) → entries_of (found ∷ []) ≡ found
flat_one found = append-nil found

module _ (store : List ℕ) (meaning : Meaning) (asked : Opening)
    (agrees : Agrees asked.format meaning) (total : IsTotalOrder asked.format.order)
    (old : Files) (found : List Entry) (are : AreFoundIn store asked.format meaning old found) where
  abbrev repaired : State
  repaired = repaired_state asked.format found

  abbrev There : Store → Type 0
  There there = there ≡ repaired.store

  -- the entries of the tables are those that were found
  same_found : (now : Files) (it : HoldsAllFound store asked.format meaning old now)
      → SameEntries (table_entries it.tables) found
  same_found now it = (one_found_set store (IsAnyTable asked.format.order meaning) old
      (table_entries it.tables) found (it.found meaning (decodes_by asked.format meaning agrees))).0
      are

  found_holds : (now : Files) → HoldsAllFound store asked.format meaning old now
      → Holds store (Reads store meaning) There now (found ∷ []) (greatest found) 1 None
  found_holds now it = holds_of store meaning asked.format.order_name asked.format.order
      agrees.order There
      (λ there is. subst (IsNamed asked.format.order_name) (sym is) refl) now (found ∷ [])
      (greatest found) 1 None
      (repaired_holds store asked.format.order (IsTableOf asked.format.order meaning)
      asked.format.order_name (it.taken + 1) it.next it.last it.tables There now it.repaired refl
      found (same_found now it))

  found_spared : (now : Files) → HoldsAllFound store asked.format meaning old now
      → IsSpared store meaning repaired (risk_between repaired) now
  found_spared now it = (found_holds now it).crash

  -- which is a state, whoever has the lock
  is_repaired : (now : Files) → HoldsAllFound store asked.format meaning old now → (held : Bool)
      → IsState (record repaired { locked = held })
  is_repaired now it held = record {
    history = record {
      begins = repaired_set store asked.format.order total meaning now (it.taken + 1) it.next
          it.last it.tables it.repaired.has found (same_found now it);
      placed = All-nil IsPlaced;
      rising = tt;
    };
    reached = omega (arith, ap greatest (flat_one found));
    pending = omega (arith, ap greatest (flat_one found));
    durable = omega arith;
    held = λ one c. absurd (in_none one c);
    mode = record { held = refl; given = refl };
  }

  pub repaired_stands : (disk : Disk) → HoldsAllFound store asked.format meaning old disk.files
      → AppendedAreBytes disk.files
      → StandsFor store meaning disk (record repaired { locked = disk.locked (lock_path store) })
  repaired_stands disk it bytes = record {
    is_state = is_repaired disk.files it (disk.locked (lock_path store));
    holds = found_holds disk.files it;
    bytes = bytes;
    locked = refl;
    agrees = λ no. agrees;
  }

-- ---- both

module _ (store : List ℕ) (meaning : Meaning) (asked : Opening)
    (agrees : Agrees asked.format meaning) (total : IsTotalOrder asked.format.order)
    (from : Observed) (old : State) (was : StandsFor store meaning from.disk old)
    (found : List Entry)
    (are : AreFoundIn store asked.format meaning from.disk.files found) where
  -- at a moment of a repair
  pub repair_spares : (now : Files)
      → IsMomentOfLockedRepair store asked.format meaning from.disk.files now
      → IsSparedOrRepaired store meaning old (repaired_state asked.format found) now
  repair_spares now (inl passes) = inl (made_spared store meaning asked from old was now passes)
  repair_spares now (inr it) = ⊎_elim
      (λ (still : now (current_path store) ≡ from.disk.files (current_path store)).
      inl (still_spared store meaning asked from old was now
      (repair_keeps_own store meaning asked from old was now it still)))
      (λ (done : HoldsAllFound store asked.format meaning from.disk.files now).
      inr (
        is_repaired store meaning asked agrees total from.disk.files found are now done false,
        found_spared store meaning asked agrees total from.disk.files found are now done,
      ))
      it.current

  -- and at its end
  pub repair_leaves : (disk : Disk)
      → IsMomentOfLockedRepair store asked.format meaning from.disk.files disk.files
      → AppendedAreBytes disk.files
      → (old.mode ≡ closed) ⊎ (disk.locked (lock_path store) ≡ old.locked)
      → StaysOrIsRepaired store meaning old (repaired_state asked.format found) disk
  repair_leaves disk (inl passes) bytes which =
      inl (still_stands store meaning asked from old was disk
      (made_keeps store meaning asked from old was disk.files passes) bytes which)
  repair_leaves disk (inr it) bytes which = ⊎_elim
      (λ (still : disk.files (current_path store) ≡ from.disk.files (current_path store)).
      inl (still_stands store meaning asked from old was disk
      (repair_keeps_own store meaning asked from old was disk.files it still) bytes which))
      (λ (done : HoldsAllFound store asked.format meaning from.disk.files disk.files).
      inr (repaired_stands store meaning asked agrees total from.disk.files found are disk done bytes))
      it.current
