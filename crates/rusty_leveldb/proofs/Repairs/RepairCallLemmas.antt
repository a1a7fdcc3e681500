-- A repair, put together: one that ends before its lock is taken, and one that ends under it.
use Rattle.std.specs.Prelude.{IfErr, OnErr, OnOk, Result}
use Rattle.std.specs.Cmp.{IsTotalOrder}
use Rattle.std.specs.Str.{bytes_eq}
use Rattle.std.proofs.Common.{◌≡◌, ◌≢◌, ◌<◌, ◌≤◌, ◌+◌, ◌-◌, ◌^◌, ◌⊎◌, ◌∙◌, ⊎_elim, inl, inr, ℕ, Bool, true, false, List, refl, sym, ap, subst, arith, Option, None, Some, Ok, Err, IsTrue}
use Rattle.std.proofs.lemmas.Bool.{cases_lt}
use Rattle.leveldb_base.proofs.NamesLemmas.{made_name}
use Rattle.leveldb_base.specs.History.{Entry}
use Rattle.leveldb_base.specs.KeyTypes.{user_part}
use Rattle.leveldb_base.specs.Names.{MayHaveNumber, file_name}
use Rattle.leveldb_base.specs.declared.cmp.Cmp.{Ghosts as CmpGhosts}
use Rattle.leveldb_base.specs.declared.error.Status.{Status}
use Rattle.leveldb_base.specs.declared.types.FileType.{FileType}
use Rattle.leveldb_base.specs.declared.types.FileType.TheVariants.{Current, DBLock, Descriptor, Table, Temp}
use Rattle.leveldb_env.specs.Env.{BeforeOrAfter, ChangesFiles, ChangesLocks, File, Files, FilesUnchanged, HasCause, Run, SameBut, created, in_folder, lock_set, or_empty, same}
use Rattle.leveldb_env.specs.declared.env.Env.{Ghosts}
use Rattle.leveldb_env.specs.declared.filter.FilterPolicy.{Ghosts as FilterGhosts}
use Rattle.leveldb_env.proofs.EnvLemmas.{Run-mono, Run-trans, SameBut-created, at_same, bytes_eq-apart, call}
use Rattle.leveldb_table.specs.TableBlock.{HasLackCode}
use Rattle.leveldb_files.proofs.Steps.BytesLemmas.{bytes_stay}
use Rattle.leveldb_version_set.proofs.Repairs.RepairingKeepsLemmas.{manifest_fits, number_fits, still_there}
use Rattle.leveldb_files.proofs.Histories.SafeLemmas.{by_name}
use Rattle.leveldb_files.specs.Stores.Format.{Agrees, Format, Meaning}
use Rattle.leveldb_version_set.specs.Repairs.Found.{HasNoTableNorLog, IsAnyTable}
use Rattle.leveldb_files.specs.Stores.Paths.{lock_path}
use Rattle.leveldb_version_set.specs.Repairs.Repairing.{IsAmidRepair}
use Rattle.leveldb_files.specs.Steps.StoreSteps.{AppendedAreBytes}
use Rattle.leveldb_store.proofs.Keeping.TableKeepsLemmas.{types_apart}
use Rattle.leveldb_store.specs.Tables.BuildTable.{TableChoices}
use Rattle.leveldb_store.specs.Writing.Room.{HasFailed}
use Rattle.leveldb_repair.specs.FoundWalkTable.{FailsBetweenOr}
use Rattle.leveldb_repair.specs.RepairStore.{HasClash, HasLargeBatchInLog, HasTooFewNumbers, HasUndecodedTable, HasUnlikeDeletions, IsMomentOfRepair, IsOldOrPartlyRepaired, HoldsAllFound, RepairsStore, WhyNotBegun, WhyNotEnded}
use Rattle.rusty_leveldb.specs.Engines.Engine.{IsStoreName}
use Rattle.rusty_leveldb.specs.Engines.Frame.{IsKeptOrMade, IsStorePath, IsOwned, Spares}
use Rattle.rusty_leveldb.specs.Repairs.Repair.{AreFoundIn, IsLockedOrPartlyRepaired, IsMomentOfLockedRepair, IsAllRepaired, IsSparedOrRepaired, LeavesOthers, RepairExcused, RepairRefused, Repairs, repaired_state}
use Rattle.rusty_leveldb.specs.Engines.Serves.{StandsFor}
use Rattle.rusty_leveldb.specs.Machines.State.{Opening, State, closed}
use Rattle.rusty_leveldb.specs.Openings.Unopened.{FailsToUnlock, IsLockKept, MakesLockAlone}
use Rattle.rusty_leveldb.proofs.Openings.OpenCallLemmas.{IsNear}
use Rattle.rusty_leveldb.proofs.Engines.Others.{others_made}
use Rattle.rusty_leveldb.proofs.Repairs.RepairFilesLemmas.{bare_back, clash_back, few_back, in_repair_back, large_back, many_back, pairs_back, partly_back, repair_back, undecoded_back, unlike_back}
use Rattle.rusty_leveldb.proofs.Repairs.RepairStatesLemmas.{closed_if_free, made_keeps, made_spared, repaired_stands, repair_leaves, repair_spares, still_stands}
use Rattle.rusty_leveldb.proofs.Openings.UnderLockLemmas.{IsTaken, set_other, set_same, unlock_fails}

-- ---- what a repair leaves alone

made_bytes : (store : List ℕ) (files now : Files)
    → BeforeOrAfter (created (lock_path store)) files now → AppendedAreBytes files
    → AppendedAreBytes now
made_bytes store files now (inl is) bytes = subst AppendedAreBytes (sym is) bytes
made_bytes store files now (inr is) bytes =
    subst AppendedAreBytes (sym is) ((bytes_stay files bytes).make (lock_path store))

-- what names and ids mean by the format alone
abbrev meaning_by : Format → Meaning
meaning_by format = record {
  orders = λ name. format.order;
  codings = format.codings;
  filters = λ name. Some (λ key. format.matches (user_part key));
}

agrees_by : (format : Format) → Agrees format (meaning_by format)
agrees_by format = record { order = refl; codings = λ id coding is. is; filters = refl }

-- a path that isn't the store's is none that it makes
away : (store path : List ℕ) → (IsStorePath store path → ⊥) → (kind : FileType) (n : ℕ) → IsOwned kind
    → MayHaveNumber kind n → bytes_eq (in_folder store (file_name kind n)) path ≡ false
away store path foreign kind n owned may =
    bytes_eq-apart (in_folder store (file_name kind n)) path
    (λ e. foreign (subst (IsStorePath store) e
    (kind, owned, (file_name kind n, n, made_name kind n may, refl))))

module _ (store : List ℕ) (old now : Files) where
  -- the lock's file is made at most
  made_leaves : BeforeOrAfter (created (lock_path store)) old now → LeavesOthers store old now
  made_leaves passes path there far = by_name (λ p. old p ≢ None → now p ≡ old p)
      (lock_path store) path
      (λ some. ⊎_elim (λ (is : now ≡ old). ap (λ (f : Files). f (lock_path store)) is)
      (λ (is : now ≡ created (lock_path store) old).
      ap (λ (f : Files). f (lock_path store)) is
      ∙ at_same (lock_path store) (or_empty (old (lock_path store))) old
      ∙ there_is (old (lock_path store)) some) passes)
      (λ apart some. SameBut-created (lock_path store) old now passes path apart) there
    where
      there_is : (file : Option File) → file ≢ None → or_empty file ≡ file
      there_is None some = absurd (some refl)
      there_is (Some file) some = refl

  module _ (format : Format) (meaning : Meaning) where
    pub at_leaves : IsMomentOfLockedRepair store format meaning old now → LeavesOthers store old now
    at_leaves (inl passes) path there far = made_leaves passes path there far
    at_leaves (inr it) path there far = by (old path) refl
      where
        by : (file : Option File) → old path ≡ file → now path ≡ old path
        by None none = absurd (there none)
        by (Some file) is =
            still_there store it.taken it.next old now it.repairing path file is far

    -- a path that is none of the store's
    pub at_spares : IsMomentOfLockedRepair store format meaning old now
        → (path : List ℕ) → (IsStorePath store path → ⊥) → now path ≡ old path
    at_spares (inl passes) path foreign = SameBut-created (lock_path store) old now passes path
        (away store path foreign DBLock 0 tt refl)
    at_spares (inr it) path foreign =
        let r = it.repairing in
        r.others path
        (λ n from below. away store path foreign Table n tt
        (number_fits store it.taken it.next old now r n below))
        (away store path foreign Descriptor (it.taken + 1) tt
        (manifest_fits store it.taken it.next old now r))
        (away store path foreign Temp (it.taken + 1) tt
        (manifest_fits store it.taken it.next old now r))
        (away store path foreign Current 0 tt refl) (away store path foreign DBLock 0 tt refl)

    pub at_lock_file : IsMomentOfLockedRepair store format meaning old now
        → IsKeptOrMade (old (lock_path store)) (now (lock_path store))
    at_lock_file (inl passes) = ⊎_elim
        (λ (is : now ≡ old). inl (ap (λ (f : Files). f (lock_path store)) is))
        (λ (is : now ≡ created (lock_path store) old). inr
        (ap (λ (f : Files). f (lock_path store)) is
        ∙ at_same (lock_path store) (or_empty (old (lock_path store))) old)) passes
    at_lock_file (inr it) = it.repairing.lock

    -- nothing is repaired where neither a table nor a log is
    pub never_bare : IsMomentOfLockedRepair store format meaning old now
        → HoldsAllFound store format meaning old now → HasNoTableNorLog store old → ⊥
    never_bare (inr it) done bare = it.some bare
    never_bare (inl passes) done bare =
        let e = done.repaired.edits.has_edits in
        let path = in_folder store e.name in
        let apart = types_apart store (lock_path store) path DBLock Descriptor
        (file_name DBLock 0, 0, (refl, refl), refl) (e.name, e.number, e.named.0, refl)
        (λ d. let never : DBLock ≡ Descriptor = d in cc) in
        let below = done.repairing.taken_is.below e.name e.number Descriptor e.named.0
        (λ none. let never : None ≡ Some e.manifest =
        sym (SameBut-created (lock_path store) old now passes path apart ∙ none) ∙ e.there in cc)
        in
        let is = done.repaired.manifest_is in omega (arith, below, is)

-- ---- before the lock is taken

module _ {E F C FP : Type 0} {order : CmpGhosts C} {filters : FilterGhosts FP} (env : Ghosts E F)
    (store : List ℕ) (asked : Opening) (from to : E) (choices : TableChoices order filters)
    (e : Status) where
  pub early_repairs : (IsTrue env.models_disk → IsNear store (env.observed from) (env.observed to))
      → env.failures from ≤ env.failures to
      → RepairExcused env store asked from (WhyNotEnded choices env store from) to e
      ⊎ HasFailed (env.failures from) (env.failures to)
      → ((IsStoreName store × IsTrue asked.fits × IsTrue asked.compresses → ⊥) → to ≡ from)
      → Repairs env store asked from choices (Err e) to
  early_repairs near later why misnamed = record {
    ok = tt;
    becomes = tt;
    err = λ modelled meaning agrees old was found are. inl
        (still_stands store meaning asked (env.observed from) old was (env.observed to).disk
        (made_keeps store meaning asked (env.observed from) old was (env.observed to).disk.files
        (near modelled).run.has)
        (made_bytes store (env.observed from).disk.files (env.observed to).disk.files
        (near modelled).run.has was.bytes)
        (inr (ap (λ (l : List ℕ → Bool). l (lock_path store)) (near modelled).locks
        ∙ was.locked)));
    moments = λ modelled meaning agrees old was found are. Run-mono
        (λ now passes. inl (made_spared store meaning asked (env.observed from) old was now passes))
        (near modelled).run;
    in_repair = λ modelled meaning agrees. Run-mono (λ now passes. inl passes) (near modelled).run;
    parts = λ modelled meaning agrees. Run-mono (λ now passes. inl passes) (near modelled).run;
    kept = λ modelled. Run-mono (λ now passes. made_leaves store (env.observed from).disk.files now
        passes) (near modelled).run;
    others = λ modelled. others_made store (env.observed from).disk (env.observed to).disk
        (near modelled).run.has
        (λ path apart. ap (λ (l : List ℕ → Bool). l path) (near modelled).locks);
    bytes = λ modelled bytes. made_bytes store (env.observed from).disk.files
        (env.observed to).disk.files (near modelled).run.has bytes;
    freed = tt;
    returned = λ modelled.
        inl (ap (λ (l : List ℕ → Bool). l (lock_path store)) (near modelled).locks);
    misnamed = λ no. (misnamed no, tt);
    bare = λ modelled bare. tt;
    cause = record { later = later; cause = why };
  }

-- ---- under the lock

-- how the lock is left by the call that gives it back
record IsLockLeft {E F : Type 0} (env : Ghosts E F) (store : List ℕ) (mid to : E)
    (result : Result (Unit {0}) Status) : Type 0 where
  -- it is free, or giving it back failed
  pub free : OnOk result ((env.observed to).disk.locked (lock_path store) ≡ false)
  pub held : OnErr result (((env.observed to).disk.locked (lock_path store)
      ≡ (env.observed mid).disk.locked (lock_path store)) × FailsToUnlock env mid to)
  pub others : (path : List ℕ) → path ≢ lock_path store
      → (env.observed to).disk.locked path ≡ (env.observed mid).disk.locked path

lock_left : {E F : Type 0} (env : Ghosts E F) (store lock : List ℕ) (mid to : E)
    (result : Result (Unit {0}) Status) → lock ≡ lock_path store → IsTrue env.models_disk
    → ChangesFiles env.models_disk same FilesUnchanged (env.observed mid) (env.observed to) result
    → ChangesLocks env.models_disk (lock_set lock false) (env.observed mid) (env.observed to) result
    → HasCause (λ _. ⊥) (env.failures mid) (env.failures to) result
    → IsLockLeft env store mid to result
lock_left env store lock mid to (Ok nothing) is modelled does set cause = record {
  free = ap (λ (l : List ℕ → Bool). l (lock_path store)) (set modelled)
      ∙ ap (λ n. lock_set n false (env.observed mid).disk.locked (lock_path store)) is
      ∙ set_same (lock_path store) false (env.observed mid).disk.locked;
  held = tt;
  others = λ path differs. ap (λ (l : List ℕ → Bool). l path) (set modelled)
      ∙ set_other lock false (env.observed mid).disk.locked path (λ is_lock. differs (is_lock ∙ is));
}
lock_left env store lock mid to (Err status) is modelled does set cause = record {
  free = tt;
  held = (
    ap (λ (l : List ℕ → Bool). l (lock_path store)) (set modelled),
    unlock_fails env (lock_set lock false) mid to status does set cause,
  );
  others = λ path differs. ap (λ (l : List ℕ → Bool). l path) (set modelled);
}

-- it is one of the two
free_or_held : {E F : Type 0} (env : Ghosts E F) (store : List ℕ) (mid to : E)
    (result : Result (Unit {0}) Status) → IsLockLeft env store mid to result
    → ((env.observed to).disk.locked (lock_path store) ≡ false)
    ⊎ (((env.observed to).disk.locked (lock_path store)
    ≡ (env.observed mid).disk.locked (lock_path store)) × FailsToUnlock env mid to)
free_or_held env store mid to (Ok nothing) left = inl left.free
free_or_held env store mid to (Err status) left = inr left.held

-- a failure that was counted after others
failed_later : (before mid after : ℕ) → before ≤ mid → mid ≤ after → after < 2 ^ 64
    → HasFailed mid after → HasFailed before after
failed_later before mid after first second counts (inl more) = inl (omega (arith, first, more))
failed_later before mid after first second counts (inr full) = ⊎_elim
    (λ (less : before < mid). inl (omega (arith, less, second)))
    (λ (same : mid ≤ before). inr (omega (arith, same, first, full)))
    (cases_lt before mid)

failed_earlier : (before mid after : ℕ) → mid ≤ after → HasFailed before mid
    → HasFailed before after
failed_earlier before mid after later (inl less) = inl (omega (arith, less, later))
failed_earlier before mid after later (inr full) = inr full

module _ {E F C FP : Type 0} {order : CmpGhosts C} {filters : FilterGhosts FP} (env : Ghosts E F)
    (choices : TableChoices order filters) (store : List ℕ) (asked : Opening)
    (asked_is : choices.format ≡ asked.format) (total : IsTotalOrder asked.format.order)
    (from taken mid to : E)
    (took : IsTrue env.models_disk → IsTaken store (env.observed from) (env.observed taken))
    (counted : env.failures taken ≡ env.failures from)
    (result : Result (Unit {0}) Status)
    (repairs : RepairsStore choices env store taken result mid)
    (given : Result (Unit {0}) Status)
    (does : ChangesFiles env.models_disk same FilesUnchanged (env.observed mid) (env.observed to)
    given)
    (lock : List ℕ) (lock_is : lock ≡ lock_path store)
    (relocks : ChangesLocks env.models_disk (lock_set lock false) (env.observed mid)
    (env.observed to) given)
    (freed : HasCause (λ _. ⊥) (env.failures mid) (env.failures to) given)
    (counts : env.failures to < 2 ^ 64)
    (well : IsStoreName store × IsTrue asked.fits × IsTrue asked.compresses) where
  abbrev NotEnded : Status → Type 0
  NotEnded = WhyNotEnded choices env store from

  abbrev old : Files
  old = (env.observed from).disk.files

  abbrev here : Files
  here = (env.observed taken).disk.files

  abbrev end : Files
  end = (env.observed to).disk.files

  later : env.failures from ≤ env.failures to
  later =
      let first = repairs.later in
      let second = freed.later in omega (arith, counted, first, second)

  module _ (modelled : IsTrue env.models_disk) where
    but : SameBut (lock_path store) old here
    but = SameBut-created (lock_path store) old here (took modelled).run.has

    lock_made : here (lock_path store) ≡ or_empty (old (lock_path store))
    lock_made = ⊎_elim
        (λ (is : here ≡ old). by (old (lock_path store))
        (ap (λ (f : Files). f (lock_path store)) is))
        (λ (is : here ≡ created (lock_path store) old).
        ap (λ (f : Files). f (lock_path store)) is
        ∙ at_same (lock_path store) (or_empty (old (lock_path store))) old)
        (took modelled).run.has
      where
        by : (file : Option File) → here (lock_path store) ≡ file
            → here (lock_path store) ≡ or_empty file
        by None none = absurd ((took modelled).there none)
        by (Some file) is = is

    end_is : end ≡ (env.observed mid).disk.files
    end_is = does.now modelled

    left : IsLockLeft env store mid to given
    left = lock_left env store lock mid to given lock_is modelled does relocks freed

    held_mid : (env.observed mid).disk.locked (lock_path store) ≡ true
    held_mid = ap (λ (l : List ℕ → Bool). l (lock_path store)) (repairs.locks modelled)
        ∙ (took modelled).held

    other_locks : (path : List ℕ) → path ≢ lock_path store
        → (env.observed to).disk.locked path ≡ (env.observed from).disk.locked path
    other_locks path differs = left.others path differs
        ∙ ap (λ (l : List ℕ → Bool). l path) (repairs.locks modelled)
        ∙ (took modelled).others path differs

    -- ---- the files at each moment

    module _ (meaning : Meaning) (agrees : Agrees asked.format meaning) where
      run_mid : Run (IsMomentOfRepair store asked.format meaning here) (env.observed taken)
          (env.observed mid)
      run_mid = subst (λ (f : Format). Agrees f meaning
          → Run (IsMomentOfRepair store f meaning here) (env.observed taken) (env.observed mid)) asked_is
          (repairs.moments modelled meaning) agrees

      at_repair : (now : Files) → IsMomentOfRepair store asked.format meaning here now
          → IsMomentOfLockedRepair store asked.format meaning old now
      at_repair now (inl is) =
          inl (subst (BeforeOrAfter (created (lock_path store)) old) (sym is) (took modelled).run.has)
      at_repair now (inr it) =
          inr (in_repair_back store old here but lock_made asked.format meaning now it)

      whole_run : Run (IsMomentOfLockedRepair store asked.format meaning old) (env.observed from)
          (env.observed to)
      whole_run =
          let both = Run-trans (Run-mono (λ now passes. inl passes) (took modelled).run) at_repair
          run_mid in
          call modelled both
          (λ now is. subst (IsMomentOfLockedRepair store asked.format meaning old) (sym is) both.has) does

    whole_parts : (meaning : Meaning) → Agrees choices.format meaning
        → Run (IsLockedOrPartlyRepaired store choices meaning old) (env.observed from)
        (env.observed to)
    whole_parts meaning agrees =
        let both = Run-trans (Run-mono (λ now passes. inl passes) (took modelled).run) at_parts
        (repairs.parts modelled meaning agrees) in
        call modelled both
        (λ now is. subst (IsLockedOrPartlyRepaired store choices meaning old) (sym is) both.has) does
      where
        at_parts : (now : Files) → IsOldOrPartlyRepaired choices store meaning here now
            → IsLockedOrPartlyRepaired store choices meaning old now
        at_parts now (inl is) = inl (subst (BeforeOrAfter (created (lock_path store)) old) (sym is)
            (took modelled).run.has)
        at_parts now (inr it) = inr (partly_back store old here but lock_made choices meaning now it)

    -- ---- the call

    bytes_end : AppendedAreBytes old → AppendedAreBytes end
    bytes_end bytes = subst AppendedAreBytes (sym end_is) (repairs.bytes modelled
        (made_bytes store old here (took modelled).run.has bytes))

    abbrev any_meaning : Meaning
    any_meaning = meaning_by asked.format

    any_run : Run (IsMomentOfLockedRepair store asked.format any_meaning old) (env.observed from)
        (env.observed to)
    any_run = whole_run any_meaning (agrees_by asked.format)

    spares : Spares store (IsStorePath store) (env.observed from).disk (env.observed to).disk
    spares = record {
      files = at_spares store old end asked.format any_meaning any_run.has;
      lock_file = at_lock_file store old end asked.format any_meaning any_run.has;
      locks = other_locks;
    }

    unchanged_run : Run (FilesUnchanged here) (env.observed taken) (env.observed mid)
        → MakesLockAlone store (env.observed from) (env.observed to)
    unchanged_run still =
        let made : Files → Type 0 = BeforeOrAfter (created (lock_path store)) old in
        let both = Run-trans (took modelled).run
        (λ now is. subst made (sym is) (took modelled).run.has) still in
        call modelled both (λ now is. subst made (sym is) both.has) does

    time_mid : (env.observed from).moment ≤ (env.observed mid).moment
    time_mid =
        let first = (took modelled).run.time.later in
        let second = (run_mid any_meaning (agrees_by asked.format)).time.later in
        omega (arith, first, second)

    free_old : (before : State) (meaning : Meaning)
        → StandsFor store meaning (env.observed from).disk before → before.mode ≡ closed
    free_old before meaning was = closed_if_free before.mode before was.is_state.mode
        (sym was.locked ∙ (took modelled).was_free)

  -- ---- the lock

  later_mid : env.failures from ≤ env.failures mid
  later_mid = let more = repairs.later in omega (arith, counted, more)

  -- how the repair had ended when so many calls had failed
  abbrev Ended : Status → ℕ → Type 0
  Ended e by_then = RepairExcused env store asked from NotEnded to e
      ⊎ HasFailed (env.failures from) by_then ⊎ IsAllRepaired env store asked from to

  ended_of : (e : Status) → RepairExcused env store asked from NotEnded to e
      ⊎ HasFailed (env.failures from) (env.failures mid) → Ended e (env.failures mid)
  ended_of e (inl because) = inl because
  ended_of e (inr failed) = inr (inl failed)

  -- where it had ended so, and giving back the lock failed
  lock_kept : IsTrue env.models_disk → (e : Status) → Ended e (env.failures mid)
      → ((env.observed to).disk.locked (lock_path store)
      ≡ (env.observed mid).disk.locked (lock_path store)) × FailsToUnlock env mid to
      → IsLockKept env store (Ended e) from to
  lock_kept modelled e ended left_so = record {
    held = left_so.0 ∙ held_mid modelled;
    mid = mid;
    later = later_mid;
    time = λ told. time_mid told;
    ended = ended;
    unlock = left_so.1;
  }

  -- ---- why it fails

  refused_of : (e : Status) → WhyNotBegun env choices.format store taken e
      → RepairRefused env store asked from e
  refused_of e (inl bare) = inr (inr (inr (inr (inl (
    bare.0,
    λ modelled. absurd ((took modelled).there (bare.1 modelled (file_name DBLock 0))),
  )))))
  refused_of e (inr (inl bare)) = inr (inr (inr (inl (
    bare.0,
    λ modelled. bare_back store old here (but modelled) (lock_made modelled) (bare.1 modelled),
  ))))
  refused_of e (inr (inr (inl clash))) = inr (inr (inr (inr (inl (
    clash.0,
    λ modelled meaning agrees. ⊎_elim
        (λ (two : HasClash store here (IsAnyTable asked.format.order meaning)).
        inl (clash_back store old here (but modelled) (lock_made modelled)
        (IsAnyTable asked.format.order meaning) two))
        (λ (two : HasUnlikeDeletions store here (IsAnyTable asked.format.order meaning)).
        inr (unlike_back store old here (but modelled) (lock_made modelled)
        (IsAnyTable asked.format.order meaning) two))
        (subst (λ (f : Format). Agrees f meaning
        → HasClash store here (IsAnyTable f.order meaning)
        ⊎ HasUnlikeDeletions store here (IsAnyTable f.order meaning)) asked_is
        (clash.1 modelled meaning) agrees),
  )))))
  refused_of e (inr (inr (inr (inl not)))) = inr (inr (inr (inr (inr (inl (
    not.0,
    λ modelled. ⊎_elim
        (λ (large : HasLargeBatchInLog store here).
        inl (large_back store old here (but modelled) (lock_made modelled) large))
        (λ (few : HasTooFewNumbers store here).
        inr (few_back store old here (but modelled) (lock_made modelled) few)) (not.1 modelled),
  ))))))
  refused_of e (inr (inr (inr (inr block)))) = inr (inr (inr (inr (inr (inr (
    subst (λ (f : Format). HasLackCode env f.codings e) asked_is block.0,
    λ modelled. undecoded_back store old here (but modelled) (lock_made modelled) asked.format e
        (subst (λ (f : Format). HasUndecodedTable store here f e) asked_is (block.1 modelled)),
  ))))))

  not_ended_of : (e : Status) → WhyNotEnded choices env store taken e → NotEnded e
  not_ended_of e (inl not) = inl (
    not.0,
    λ modelled. pairs_back store old here (but modelled) (lock_made modelled) choices.format not.0
        (not.1 modelled),
    not.2,
  )
  not_ended_of e (inr (inl (code, many))) = inr (inl (
    code,
    λ modelled. many_back store old here (but modelled) (lock_made modelled) choices.format
        (many modelled),
  ))
  not_ended_of e (inr (inr lacking)) = inr (inr lacking)

  why_of_repair : (e : Status) → FailsBetweenOr env ((WhyNotBegun env choices.format store taken e
      × (IsTrue env.models_disk
      → Run (FilesUnchanged here) (env.observed taken) (env.observed mid)))
      ⊎ WhyNotEnded choices env store taken e) taken mid e
      → RepairExcused env store asked from NotEnded to e
      ⊎ HasFailed (env.failures from) (env.failures mid)
  why_of_repair e (inl memory) = inl (inl memory)
  why_of_repair e (inr (inl less)) = inr (inl (omega (arith, less, counted)))
  why_of_repair e (inr (inr (inl full))) = inr (⊎_elim
      (λ (less : env.failures from < env.failures mid). inl less)
      (λ (least : env.failures mid ≤ env.failures from).
      let first = repairs.later in inr (omega (arith, full, least, first, counted)))
      (cases_lt (env.failures from) (env.failures mid)))
  why_of_repair e (inr (inr (inr (inl why)))) =
      inl (inr (inl (refused_of e why.0, λ modelled. unchanged_run modelled (why.1 modelled))))
  why_of_repair e (inr (inr (inr (inr not)))) = inl (inr (inr (not_ended_of e not)))

  -- ---- each end

  -- the files couldn't be repaired
  pub late_repairs : (e : Status) → result ≡ Err e
      → Repairs env store asked from choices (Err e) to
  late_repairs e is = record {
    ok = tt;
    becomes = tt;
    err = λ modelled meaning agrees before was found are. repair_leaves store meaning asked
        agrees total (env.observed from) before was found are (env.observed to).disk
        (whole_run modelled meaning agrees).has (bytes_end modelled was.bytes)
        (inl (free_old modelled before meaning was));
    moments = λ modelled meaning agrees before was found are. Run-mono
        (repair_spares store meaning asked agrees total (env.observed from) before was found are)
        (whole_run modelled meaning agrees);
    in_repair = whole_run;
    parts = whole_parts;
    kept = λ modelled. Run-mono
        (λ now at. at_leaves store old now asked.format (any_meaning modelled) at)
        (any_run modelled);
    others = spares;
    bytes = bytes_end;
    freed = tt;
    returned = λ modelled. ⊎_elim
        (λ (free : (env.observed to).disk.locked (lock_path store) ≡ false).
        inl (free ∙ sym (took modelled).was_free))
        (λ held. inr (lock_kept modelled e (ended_of e why) held))
        (free_or_held env store mid to given (left modelled));
    misnamed = λ no. absurd (no well);
    bare = λ modelled bare. tt;
    cause = record {
      later = later;
      cause = ⊎_elim (λ (because : RepairExcused env store asked from NotEnded to e). inl because)
          (λ (failed : HasFailed (env.failures from) (env.failures mid)). inr
          (failed_earlier (env.failures from) (env.failures mid) (env.failures to) freed.later
          failed)) why;
    };
  }
    where
      why : RepairExcused env store asked from NotEnded to e
          ⊎ HasFailed (env.failures from) (env.failures mid)
      why = why_of_repair e (subst (λ (r : Result (Unit {0}) Status). IfErr r (λ status.
          FailsBetweenOr env ((WhyNotBegun env choices.format store taken status
          × (IsTrue env.models_disk
          → Run (FilesUnchanged here) (env.observed taken) (env.observed mid)))
          ⊎ WhyNotEnded choices env store taken status) taken mid status)) is repairs.cause)

  -- they were repaired, and the lock is given back or not
  pub done_repairs : result ≡ Ok tt → Repairs env store asked from choices given to
  done_repairs is = by given left freed
    where
      all : IsAllRepaired env store asked from to
      all modelled meaning agrees =
          let done = subst (λ (r : Result (Unit {0}) Status). OnOk r (IsTrue env.models_disk
          → (meaning : Meaning) → Agrees choices.format meaning
          → (it : HoldsAllFound store choices.format meaning here (env.observed mid).disk.files)
          × Run (IsAmidRepair store it.taken it.next here) (env.observed taken) (env.observed mid)))
          is repairs.ok modelled meaning
          (subst (λ (f : Format). Agrees f meaning) (sym asked_is) agrees) in
          subst (HoldsAllFound store asked.format meaning old) (sym (end_is modelled))
          (repair_back store old here (but modelled) (lock_made modelled) asked.format meaning
          (env.observed mid).disk.files
          (subst (λ (f : Format). HoldsAllFound store f meaning here (env.observed mid).disk.files)
          asked_is done.0))

      moments : IsTrue env.models_disk → (meaning : Meaning) → Agrees asked.format meaning
          → (before : State) → StandsFor store meaning (env.observed from).disk before
          → (found : List Entry) → AreFoundIn store asked.format meaning old found
          → Run (IsSparedOrRepaired store meaning before (repaired_state asked.format found))
          (env.observed from) (env.observed to)
      moments modelled meaning agrees before was found are = Run-mono
          (repair_spares store meaning asked agrees total (env.observed from) before was found are)
          (whole_run modelled meaning agrees)

      kept : IsTrue env.models_disk
          → Run (LeavesOthers store old) (env.observed from) (env.observed to)
      kept modelled = Run-mono
          (λ now at. at_leaves store old now asked.format (any_meaning modelled) at)
          (any_run modelled)

      by : (r : Result (Unit {0}) Status)
          → (IsTrue env.models_disk → IsLockLeft env store mid to r)
          → HasCause (λ _. ⊥) (env.failures mid) (env.failures to) r
          → Repairs env store asked from choices r to
      by (Ok nothing) left_so freed_so = record {
        ok = all;
        becomes = λ modelled meaning agrees bytes found are. subst
            (λ (held : Bool). StandsFor store meaning (env.observed to).disk
            (record (repaired_state asked.format found) { locked = held }))
            (left_so modelled).free
            (repaired_stands store meaning asked agrees total old found are (env.observed to).disk
            (all modelled meaning agrees) (bytes_end modelled bytes));
        err = tt;
        moments = moments;
        in_repair = whole_run;
        parts = whole_parts;
        kept = kept;
        others = spares;
        bytes = bytes_end;
        freed = λ modelled. (
          λ held. let never : true ≡ false = sym held ∙ (took modelled).was_free in cc,
          λ held. let never : true ≡ false = sym held ∙ (left_so modelled).free in cc,
        );
        returned = tt;
        misnamed = λ no. absurd (no well);
        bare = λ modelled bare. never_bare store old end asked.format (any_meaning modelled)
            (any_run modelled).has
            (all modelled (any_meaning modelled) (agrees_by asked.format)) bare;
        cause = record { later = later; cause = tt };
      }
      by (Err status) left_so freed_so = record {
        ok = tt;
        becomes = tt;
        err = λ modelled meaning agrees old_state was found are. inr
            (repaired_stands store meaning asked agrees total old found are (env.observed to).disk
            (all modelled meaning agrees) (bytes_end modelled was.bytes));
        moments = moments;
        in_repair = whole_run;
        parts = whole_parts;
        kept = kept;
        others = spares;
        bytes = bytes_end;
        freed = tt;
        returned = λ modelled.
            inr (lock_kept modelled status (inr (inr all)) (left_so modelled).held);
        misnamed = λ no. absurd (no well);
        bare = λ modelled bare. tt;
        cause = record {
          later = later;
          cause = inr (failed_later (env.failures from) (env.failures mid) (env.failures to)
              later_mid freed.later counts (counted_so freed_so.cause));
        };
      }
        where
          counted_so : ⊥ ⊎ (env.failures to ≡ env.failures mid + 1)
              ⊎ ((env.failures mid ≡ 2 ^ 64 - 1) × (env.failures to ≡ env.failures mid))
              → HasFailed (env.failures mid) (env.failures to)
          counted_so (inl never) = absurd never
          counted_so (inr (inl one)) = inl (omega (arith, one))
          counted_so (inr (inr full)) = inr full.0
