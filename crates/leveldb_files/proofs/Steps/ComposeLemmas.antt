-- Steps of a call, one after another: at each moment of all of them the files are as safe as what
-- the whole call has at risk says.
use Rattle.leveldb_base.specs.declared.error.Status.{Status}
use Rattle.leveldb_env.proofs.EnvLemmas.{Within-mono, Within-trans, call}
use Rattle.leveldb_env.specs.Env.{ChangesFiles, Files, Observed, Run, Within}
use Rattle.leveldb_files.proofs.Histories.SafeLemmas.{safe_more}
use Rattle.leveldb_files.specs.Stores.Contents.{Contents, Store}
use Rattle.leveldb_files.specs.Histories.Holds.{IsSafe}
use Rattle.leveldb_files.specs.Steps.StoreSteps.{IsPartOf, IsSafeFor, Risk}
use Rattle.std.proofs.Common.{◌≤◌, Bool, IsTrue, List, Result, [], append-nil, arith, subst, sym, ℕ}

pub whole_is_part : (risk : Risk) → IsPartOf risk risk
whole_is_part risk =
    record { bound = omega arith; rest = []; history = sym (append-nil risk.history) }

module _ (store : List ℕ) (reads : Files → Contents → Type 0) (allowed : Store → Type 0) where
  abbrev Safe : ℕ → Risk → Files → Type 0
  Safe durable risk files = IsSafeFor store reads allowed durable risk files

  -- what is safe for a part is safe for the whole
  pub part_safe : (durable least : ℕ) (risk whole : Risk) (files : Files) → IsPartOf risk whole
      → least ≤ durable → Safe durable risk files → Safe least whole files
  part_safe durable least risk whole files part few safe =
      subst (λ h. IsSafe store reads allowed whole.bound least h files) (sym part.history)
      (safe_more store reads allowed risk.bound whole.bound durable least risk.history part.rest
      files part.bound few safe)

  -- two steps, each with its own risk
  pub steps_compose : (least durable later : ℕ) (first second whole : Risk) (a b c : Observed)
      → IsPartOf first whole → IsPartOf second whole → least ≤ durable → least ≤ later
      → Within (Safe durable first) a b → Within (Safe later second) b c
      → Within (Safe least whole) a c
  steps_compose least durable later first second whole a b c is_first is_second few few_later
      one two =
      Within-trans
      (Within-mono (λ files safe. part_safe durable least first whole files is_first few safe) one)
      (Within-mono
      (λ files safe. part_safe later least second whole files is_second few_later safe) two)

  -- one more call of the device after a run, where each of the files that it passes is safe
  pub one_more_call : {T : Type 0} {models_disk : Bool} (least durable : ℕ) (risk whole : Risk)
      (first old new : Observed) (change : Files → Files) (Passes : Files → Files → Type 0)
      (result : Result T Status) → IsTrue models_disk → IsPartOf risk whole → least ≤ durable
      → Run (Safe least whole) first old
      → ((files : Files) → Passes old.disk.files files → Safe durable risk files)
      → ChangesFiles models_disk change Passes old new result
      → Run (Safe least whole) first new
  one_more_call least durable risk whole first old new change Passes result models part few run
      passes changes =
      call models run
      (λ files p. part_safe durable least risk whole files part few (passes files p)) changes
