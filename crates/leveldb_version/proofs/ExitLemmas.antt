-- The exits of a `?`: what a clause says of the error that is passed on.
use Rattle.std.proofs.Common.{◌≡◌, ◌∙◌, ℕ, Bool, arith, inl, refl, sym, subst}
use Rattle.std.proofs.lemmas.Bool.{true≢false}
use Rattle.std.specs.Prelude.{Err, IfErr, IsErr, Ok, Result}
use Rattle.std.specs.Result.{IsErrAnd}
use Rattle.leveldb_base.specs.declared.error.Status.{Status}
use Rattle.leveldb_env.proofs.EnvLemmas.{ChangesFiles-refused, Run-trans, begun}
use Rattle.leveldb_env.specs.Env.{ChangesFiles, Files, FilesUnchanged, HasCause, Observed, Run}

module _ {T E : Type 0} (P : E → Type 0) where
  -- an error that is made there
  pub cause_is : (r : Result T E) → IsErrAnd r P → IfErr r P
  cause_is (Ok value) e = absurd e
  cause_is (Err status) e = e

  -- the error of a call, as it is
  pub cause_passed : (r : Result T E) (status : E) → IsErrAnd r (λ it. it ≡ status) → P status → IfErr r P
  cause_passed (Ok value) status e p = absurd e
  cause_passed (Err it) status e p = subst P (sym e) p

-- ---- calls of an environment that end before the first

-- nothing is done
pub nothing_done : {T : Type 0} {models_disk : Bool} {change : Files → Files} {Passes : Files → Files → Type 0} {observed : Observed} {result : Result T Status}
    → IsErr result → Passes observed.disk.files observed.disk.files → ChangesFiles models_disk change Passes observed observed result
nothing_done {observed = observed} refused stays = ChangesFiles-refused refused (begun observed stays)

-- nothing is counted
pub excused : {T : Type 0} {Excused : Status → Type 0} {failed : ℕ} (result : Result T Status) → IsErr result → IfErr result Excused → HasCause Excused failed failed result
excused (Ok value) refused why = absurd (true≢false (sym refused))
excused (Err status) refused why = record { later = omega arith; ok = tt; uncounted = λ is. refl; cause = inl why }

-- ---- calls of an environment one after another

-- no file changes
pub still_then : {first mid last : Observed} → Run (FilesUnchanged first.disk.files) first mid → Run (FilesUnchanged mid.disk.files) mid last → Run (FilesUnchanged first.disk.files) first last
still_then one two = Run-trans one (λ files is. is ∙ one.has) two

-- no failure was counted
pub uncounted : {T : Type 0} {Excused : Status → Type 0} {before now : ℕ} {value : T} → now ≡ before → HasCause Excused before now (Ok value)
uncounted is = record { later = omega arith; ok = is; uncounted = tt; cause = tt }
