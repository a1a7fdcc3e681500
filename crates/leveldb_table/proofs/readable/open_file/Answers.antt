use Rattle.std.proofs.Common.{◌≡◌, ◌⊎◌, ◌∙◌, ℕ, List, Option, None, Some, Result, Ok, Err, inl, inr, subst, ⊎_elim}
use Rattle.std.specs.Prelude.{IfSome, IsErrAnd, IsSome, IsSomeAnd, IsTrue, OnOk}
use Rattle.std.proofs.lemmas.Result.{IfOk-at_ok}
use Rattle.leveldb_base.specs.declared.error.Status.{Status}
use Rattle.leveldb_base.specs.declared.error.StatusCode.TheVariants.{Corruption}
use Rattle.leveldb_base.specs.Error.{IsOutOfMemory}
use Rattle.leveldb_env.specs.Env.{ChangesFiles, File, FilesUnchanged, HasCause, IsMissing, SameLocks, same}
use Rattle.leveldb_env.specs.WholeFiles.{IsFoundOr, IsMissingFile}
use Rattle.leveldb_env.specs.declared.env.Env.{Ghosts}
use Rattle.leveldb_env.proofs.WholeFilesLemmas.{found_cause, found_ok}
use Rattle.leveldb_table.specs.ReadableTable.{OpensJudged}
use Rattle.leveldb_table.specs.TableBlock.{ReadsFile}
use Rattle.leveldb_table.proofs.TableBlockLemmas.{KeepsDisk-call, KeepsDisk-trans, reads_ok, reads_refused, reads_then, same_files}
use Rattle.leveldb_table.proofs.readable.open_file.Goals as goal

-- a file that is lost is a damage
lost_damaged : {T Kept : Type 0} {name : List ℕ} {before now : ℕ} (result : Result T Status)
    → HasCause (λ e. IsOutOfMemory e ⊎ (IsMissingFile name e × Kept × (now ≡ before))) before now result
    → HasCause (λ e. IsOutOfMemory e ⊎ ((now ≡ before) × ((e.code ≡ Corruption) × Kept))) before now result
lost_damaged (Ok value) cause = record { later = cause.later; ok = cause.ok; uncounted = tt; cause = tt }
lost_damaged (Err error) cause = record {
  later = cause.later;
  ok = tt;
  uncounted = λ excuse. ⊎_elim (λ memory. cause.uncounted (inl memory)) (λ own. own.0) excuse;
  cause = ⊎_elim (λ excuse. inl (⊎_elim (λ memory. inl memory) (λ lost. inr (lost.2, (lost.0.code, lost.1))) excuse)) (λ counted. inr counted) cause.cause;
}

-- a file that is there
some_is : (P : File → Type 0) (found : Option File) → IsSome found → IfSome found P → IsSomeAnd found P
some_is P None some holds = cc
some_is P (Some file) some holds = holds

-- what is said of an Ok
at_ok : {T Error P : Type 0} {value : T} (result : Result T Error) → result ≡ Ok value → OnOk result P → P
at_ok (Ok value) is p = p
at_ok (Err error) is p = cc

-- the file at the path is missing, which is damage
abbrev Missing : {E F : Type 0} → Ghosts E F → List ℕ → E → Status → Type 0
Missing env path state status = (status.code ≡ Corruption) × (IsTrue env.models_disk → (env.observed state).disk.files path ≡ None)

module _ {E F : Type 0} (env : Ghosts E F) {path : List ℕ} {old new : E} where
  -- what a call for a file says once the file must be there
  reads_found : {T : Type 0} (answer result : Result T Status) → IsFoundOr path answer result
      → ChangesFiles env.models_disk same FilesUnchanged (env.observed old) (env.observed new) answer
      → SameLocks env.models_disk (env.observed old) (env.observed new)
      → HasCause (IsMissing env.models_disk path (env.observed old)) (env.failures old) (env.failures new) answer
      → ReadsFile env (Missing env path old) old new result
  reads_found answer result found does locks cause = record {
    kept_disk = KeepsDisk-call env does locks;
    cause = lost_damaged result (found_cause path answer result (λ none. none) found cause);
  }

  -- a file that is not opened
  opens_none : {T : Type 0} {status : Status} (result : Result (F × ℕ) Status) → IsErrAnd result (λ other. other ≡ status)
      → ReadsFile env {T = T} (Missing env path old) old new (Err status) → OpensJudged env path old result new
  opens_none (Ok opened) refused reads = absurd refused
  opens_none {T = T} (Err error) refused reads = record { ok = tt; reads = reads_refused env {T = T} (Err error) refused reads }

pub returns-in_err-size : goal.returns-in_err-size
returns-in_err-size g c =
    let call = c.size_of.ensures in
    opens_none g.E.Env c.from_residual.result c.from_residual.ensures.1 (reads_found g.E.Env _ _ c.in_err-size.ensures call.does call.locks call.cause)

pub returns-in_err-file : goal.returns-in_err-file
returns-in_err-file g c =
    let first = c.size_of.ensures in
    let sized = reads_found g.E.Env _ _ c.in_ok-size.ensures first.does first.locks first.cause in
    let call = c.open_random_access_file.ensures in
    opens_none g.E.Env c.from_residual-in_err-file.result c.from_residual-in_err-file.ensures.1
    (reads_then g.E.Env _ sized.kept_disk sized.cause.ok
    (λ status missing. (missing.0, λ modelled. subst (λ files. files c.args.path.now ≡ None) (same_files g.E.Env sized.kept_disk modelled) (missing.1 modelled)))
    (reads_found g.E.Env _ _ c.in_err-file.ensures call.does call.locks call.cause))

pub returns : goal.returns
returns g c =
    let first = c.size_of.ensures in
    let sized = reads_found g.E.Env _ _ c.in_ok-size.ensures first.does first.locks first.cause in
    let call = c.open_random_access_file.ensures in
    let opened = reads_found g.E.Env _ _ c.in_ok-file.ensures call.does call.locks call.cause in
    let size_is = found_ok _ _ _ c.in_ok-size.ensures in
    record {
      ok = λ modelled. (
        IfOk-at_ok _ (found_ok _ _ _ c.in_ok-file.ensures) call.file modelled,
        some_is _ _ (at_ok _ size_is first.there modelled) (IfOk-at_ok _ size_is first.ok modelled),
      );
      reads = reads_ok g.E.Env (KeepsDisk-trans g.E.Env sized.kept_disk opened.kept_disk) (opened.cause.ok ∙ sized.cause.ok);
    }
