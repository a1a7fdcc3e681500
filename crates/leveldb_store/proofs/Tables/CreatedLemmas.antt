-- A table's file that is created, and what its first pair changes.
use Rattle.std.specs.Prelude.{IsTrue, ◌&&◌}
use Rattle.std.proofs.Common.{◌≡◌, ◌∙◌, ℕ, ◌+◌, ◌<◌, ◌≤◌, ◌^◌, Bool, true, List, [], length, Option, None, Some, Result, Ok, Err, ap, subst, arith}
use Rattle.std.proofs.lemmas.Bool.{le-leb}
use Rattle.leveldb_base.specs.Cmp.{internal_accepts}
use Rattle.leveldb_base.specs.KeyTypes.{user_part}
use Rattle.leveldb_base.specs.Error.{IsOutOfMemory}
use Rattle.leveldb_base.specs.declared.error.Status.{Status}
use Rattle.leveldb_env.specs.Env.{BeforeOrAfter, ChangesFiles, HasCause, SameLocks, emptied, kept_file}
use Rattle.leveldb_env.specs.EnvFile.{IsLonger, opened}
use Rattle.leveldb_env.specs.declared.env.Env.{Ghosts as EnvGhosts}
use Rattle.leveldb_files.specs.Stores.Paths.{table_path}
use Rattle.leveldb_store.specs.Tables.Outputs.{ChangesNewTables}
use Rattle.leveldb_store.specs.Tables.TableFile.{ChangesOneFile, FailsToWrite, IsThere, StopsWriting}
use Rattle.leveldb_store.proofs.Tables.OutputsLemmas.{new-one}
use Rattle.leveldb_store.proofs.Tables.TableFileLemmas.{changes-trans, changes_named, fails_later, longer_changes, opened_is, opening_changes}

-- a key with a tag is accepted, as all users' keys are
pub key_accepted : {accepts : List ℕ → Bool} → ((key : List ℕ) → accepts key ≡ true)
    → (key : List ℕ) → 8 ≤ length key → internal_accepts accepts key ≡ true
key_accepted {accepts} all key tagged =
    ap (λ b. b && accepts (user_part key)) (le-leb 8 (length key) tagged) ∙ all (user_part key)

module _ {E F : Type 0} (env : EnvGhosts E F) (store : List ℕ) {path : List ℕ} {from mid : E}
    {X : Type 0} {x : X} {file : F}
    (opening : ChangesFiles {T = X} env.models_disk (emptied path) (BeforeOrAfter (emptied path))
    (env.observed from) (env.observed mid) (Ok x))
    (locks : SameLocks env.models_disk (env.observed from) (env.observed mid))
    (cause : HasCause {T = X} IsOutOfMemory (env.failures from) (env.failures mid) (Ok x))
    (named : IsTrue env.models_disk → env.name_of file ≡ path) {number next later : ℕ}
    (path_is : path ≡ table_path store number) (number_is : number ≡ next)
    (fits : number < 2 ^ 64) (later_is : later ≡ next + 1) where
  created : ChangesOneFile env path from mid
  created = opening_changes env opening locks cause.later

  created_there : IsThere env (opened mid file)
  created_there modelled = (kept_file [], opened_is env opening named modelled)

  new_table : {to : E} → ChangesOneFile env path from to
      → ChangesNewTables env store next later from to
  new_table {to} changes = new-one env store (omega (arith, number_is))
      (omega (arith, number_is, later_is)) fits
      (subst (λ p. ChangesOneFile env p from to) path_is changes)

  -- its first pair is added
  pub first_added : {bytes : List ℕ} {to : E} {after : F}
      → IsLonger env (opened mid file) bytes (opened to after) → ChangesOneFile env path from to
  first_added longer =
      changes-trans env created (changes_named env named (longer_changes env longer))

  pub first_changes : {bytes : List ℕ} {to : E} {after : F}
      → IsLonger env (opened mid file) bytes (opened to after)
      → ChangesNewTables env store next later from to
  first_changes longer = new_table (first_added longer)

  -- its first pair isn't added
  pub none_changes : {Own : Status → Type 0} {status : Status} {to : E}
      → (IsThere env (opened mid file) → StopsWriting env Own (opened mid file) status to)
      → ChangesNewTables env store next later from to
  none_changes stops = new_table
      (changes-trans env created (changes_named env named (stops created_there).changes))

  pub none_cause : {T : Type 0} {Own Other : Status → Type 0} {status : Status} {to : E}
      → (Own status → Other status)
      → (IsThere env (opened mid file) → StopsWriting env Own (opened mid file) status to)
      → FailsToWrite {T = T} Other (env.failures from) (env.failures to) (Err status)
  none_cause so stops = fails_later cause.ok so (stops created_there).cause

module _ {E F : Type 0} (env : EnvGhosts E F) (store : List ℕ) where
  -- the file isn't created
  pub uncreated_changes : {X : Type 0} {path : List ℕ} {from to : E} {result : Result X Status}
      {number next later : ℕ}
      → ChangesFiles {T = X} env.models_disk (emptied path) (BeforeOrAfter (emptied path))
      (env.observed from) (env.observed to) result
      → SameLocks env.models_disk (env.observed from) (env.observed to)
      → env.failures from ≤ env.failures to → path ≡ table_path store number → number ≡ next
      → number < 2 ^ 64 → later ≡ next + 1 → ChangesNewTables env store next later from to
  uncreated_changes {from = from} {to = to} opening locks counts path_is number_is fits later_is =
      new-one env store (omega (arith, number_is)) (omega (arith, number_is, later_is)) fits
      (subst (λ p. ChangesOneFile env p from to) path_is
      (opening_changes env opening locks counts))
