-- How the parts of a call join that have states between them, as a sync of the log and then a new
-- log: what a crash leaves at each moment of the call is spared if it is at each moment of each
-- part. `steps_join` joins two parts, `spared_now` begins one at a state that the disk represents,
-- and `grows_same` and `grows_by` say that a part risks no batch more, or one more. `spared_since`
-- is what the run of a whole call then says of a crash.
use Rattle.std.proofs.Common.{◌≡◌, ◌≤◌, ◌+◌, inl, ℕ, zero, suc, Bool, List, [], ◌∷◌, ◌++◌, length, take, refl, sym, ◌∙◌, ap, subst, arith, Result, IsTrue}
use Rattle.leveldb_base.specs.declared.error.Status.{Status}
use Rattle.std.proofs.lemmas.List.{length-take}
use Rattle.leveldb_base.specs.History.{Entry, History, IsPrefixAtLeast, count_of, with_batch}
use Rattle.leveldb_env.specs.Env.{Files, Disk, Observed, Since, Run, ChangesFiles, FilesUnchanged}
use Rattle.leveldb_env.proofs.EnvLemmas.{Run-mono, Run-trans, Run-call, begun, since_start}
use Rattle.leveldb_files.specs.Stores.Contents.{Store}
use Rattle.leveldb_files.specs.Histories.Holds.{IsHonest, CarriesPrefix}
use Rattle.rusty_leveldb.specs.Machines.State.{State, Request, open_store}
use Rattle.rusty_leveldb.specs.Machines.Machine.{StaysOr, Risk, risk_between, risk_of}
use Rattle.rusty_leveldb.specs.Engines.Serves.{Reads, StandsFor, IsSpared, AtEachMoment}
use Rattle.rusty_leveldb.proofs.Engines.Bounds.{carries_more, carries_allow, safe_allow}
use Rattle.leveldb_files.specs.Stores.Format.{Meaning}

-- ---- a greater risk

-- the history of the one is a prefix of the other's, and so is its bound
pub record Grows (risk more : Risk) : Type 0 where
  pub count : ℕ
  pub there : count ≤ length more.history
  pub first : risk.history ≡ take count more.history
  pub bound : risk.bound ≤ more.bound

take_twice : {A : Type 0} (n k : ℕ) (xs : List A) → k ≤ length (take n xs) → take k (take n xs) ≡ take k xs
take_twice n zero xs few = refl
take_twice zero (suc k) xs few = absurd (omega arith)
take_twice (suc n) (suc k) [] few = refl
take_twice (suc n) (suc k) (x ∷ xs) few = ap (λ ys. x ∷ ys) (take_twice n k xs (omega (arith, few)))

-- with no batch more
pub grows_same : (risk : Risk) (more : ℕ) → risk.bound ≤ more → Grows risk (record risk { bound = more })
grows_same risk more most = record { count = length risk.history; there = omega arith; first = sym (whole risk.history); bound = most }
  where
    whole : (xs : History) → take (length xs) xs ≡ xs
    whole [] = refl
    whole (x ∷ xs) = ap (λ ys. x ∷ ys) (whole xs)

-- with one batch more
pub grows_by : (risk : Risk) (batch : List Entry) (more : ℕ) → risk.bound ≤ more → Grows risk (record risk { history = risk.history ++ batch ∷ []; bound = more })
grows_by risk batch more most = record { count = length risk.history; there = longer risk.history; first = front risk.history; bound = most }
  where
    longer : (xs : History) → length xs ≤ length (xs ++ batch ∷ [])
    longer [] = omega arith
    longer (x ∷ xs) = let rest = longer xs in omega arith

    front : (xs : History) → xs ≡ take (length xs) (xs ++ batch ∷ [])
    front [] = refl
    front (x ∷ xs) = ap (λ ys. x ∷ ys) (front xs)

-- the stores that a step may leave are some that the whole call may
abbrev pub Allows : State → Risk → State → Risk → Type 0
Allows middle risk old more = (there : Store) → StaysOr risk.opening middle.store there → StaysOr more.opening old.store there

-- a prefix of a prefix
prefix_within : (least durable : ℕ) (risk more : Risk) (part : History) → least ≤ durable → Grows risk more → IsPrefixAtLeast durable risk.history part → IsPrefixAtLeast least more.history part
prefix_within least durable risk more part few grows b =
    let fits : b.count ≤ length (take grows.count more.history) = subst (λ h. b.count ≤ length h) grows.first b.there in
    let short = length-take grows.count more.history in
    record {
      count = b.count;
      enough = omega (arith, few, b.enough);
      there = omega (arith, fits, short, grows.there);
      first = b.first ∙ ap (take b.count) grows.first ∙ take_twice grows.count b.count more.history fits;
    }

module _ (store : List ℕ) (meaning : Meaning) where
  -- what is spared in a later step is spared in the whole call
  pub spared_more : (old middle : State) (risk more : Risk) → old.durable ≤ middle.durable → Allows middle risk old more → Grows risk more
      → (files : Files) → IsSpared store meaning middle risk files → IsSpared store meaning old more files
  spared_more old middle risk more few allows grows files spared left leaves honest =
      let c = spared left leaves honest in
      record {
        part = c.part;
        prefix = prefix_within old.durable middle.durable risk more c.part few grows c.prefix;
        carries = carries_more store (Reads store meaning) risk.bound more.bound grows.bound c.part left (carries_allow store (Reads store meaning) risk.bound c.part left allows c.carries);
      }

  -- One step after another: the first is spared with the state in which the call began, the second
  -- with the one between them.
  pub steps_join : {first mid now : Observed} (old middle : State) (risk more : Risk) → old.durable ≤ middle.durable → Allows old risk old more → Allows middle more old more → Grows risk more
      → Run (IsSpared store meaning old risk) first mid → Run (IsSpared store meaning middle more) mid now → Run (IsSpared store meaning old more) first now
  steps_join old middle risk more few first then grows before after = Run-trans
      (Run-mono (spared_more old old risk more (omega arith) first grows) before)
      (spared_more old middle more more few then (grows_same more more.bound (omega arith))) after

  -- a request that changes nothing of the state
  pub spared_still : (request : Request) (disk : Disk) (old : State) → StandsFor store meaning disk old → IsSpared store meaning old (risk_of request old old) disk.files
  spared_still (open_store opening) disk old stands =
      safe_allow store (Reads store meaning) (old.last + count_of old.pending) old.durable (with_batch old.history old.pending) disk.files (λ there is. inl is) stands.holds.crash
  spared_still request disk old stands = stands.holds.crash

  -- where nothing is asked of the device
  pub moments_none : (request : Request) (old : State) (told : Observed) → StandsFor store meaning told.disk old → AtEachMoment store meaning request old old told told
  moments_none request old told stands = begun told (spared_still request told.disk old stands)

  -- where no file is changed
  pub moments_still : {T : Type 0} {models_disk : Bool} {change : Files → Files} {first now : Observed} {result : Result T Status} (was : State) → IsTrue models_disk → StandsFor store meaning first.disk was
      → ChangesFiles models_disk change FilesUnchanged first now result → Run (IsSpared store meaning was (risk_between was)) first now
  moments_still {first = first} was modelled stands does =
      Run-mono (λ files same. subst (IsSpared store meaning was (risk_between was)) (sym same) stands.holds.crash) (Run-call modelled does)

  -- between two calls
  pub spared_now : (disk : Disk) (state : State) → StandsFor store meaning disk state → IsSpared store meaning state (risk_between state) disk.files
  spared_now disk state stands = stands.holds.crash

  -- Each honest disk that a crash leaves since the call began carries a prefix of what is at risk,
  -- with all that was durable then.
  pub spared_since : {first now : Observed} (old : State) (risk : Risk) → Run (IsSpared store meaning old risk) first now → ((files : Files) → now.at_moment now.moment files → files ≡ now.disk.files)
      → (files left : Files) → Since now first.moment files left → IsHonest store files left → CarriesPrefix store (Reads store meaning) (StaysOr risk.opening old.store) risk.bound old.durable risk.history left
  spared_since old risk run only files left since honest = since_start run only since.0 files since.1 since.2 since.3 left since.4 honest
