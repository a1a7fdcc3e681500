-- The exits of a `?`: what clauses say of an error that is passed on.
use Rattle.std.proofs.Common.{◌≡◌, ℕ, Bool, true, Result, Ok, Err, arith, inl, refl, subst, sym}
use Rattle.std.proofs.lemmas.Bool.{true≢false}
use Rattle.std.proofs.lemmas.Result.{IfOk-from_err}
use Rattle.std.specs.Prelude.{IfErr, IfOk, IsErr, IsErrAnd}
use Rattle.leveldb_base.specs.declared.error.Status.{Status}
use Rattle.leveldb_env.proofs.EnvLemmas.{ChangesFiles-refused, begun}
use Rattle.leveldb_env.specs.Env.{ChangesFiles, Files, HasCause, Observed}

-- the error of a call, as it is
pub cause_passed : {T E : Type 0} (P : E → Type 0) (r : Result T E) (status : E)
    → IsErrAnd r (λ it. it ≡ status) → P status → IfErr r P
cause_passed P (Ok value) status e p = absurd e
cause_passed P (Err it) status e p = subst P (sym e) p

-- what is so of that error is so of what is passed on
pub at_error : {T E : Type 0} (P : Result T E → Type 0) (r : Result T E) {status : E}
    → IsErrAnd r (λ it. it ≡ status) → P (Err status) → P r
at_error P (Ok value) e p = absurd e
at_error P (Err it) e p = subst (λ x. P (Err x)) (sym e) p

-- and what is so of each such error
pub at_error_with : {T E : Type 0} {Q : E → Type 0} (P : Result T E → Type 0) (r : Result T E)
    → IsErrAnd r Q → ((status : E) → Q status → P (Err status)) → P r
at_error_with P (Ok value) e so = absurd e
at_error_with P (Err it) e so = so it e

-- there is no Ok
pub none_ok : {T E : Type 0} (Q : E → Type 0) (P : T → Type 0) (r : Result T E) → IsErrAnd r Q
    → IfOk r P
none_ok Q P (Ok value) e = absurd e
none_ok Q P (Err it) e = tt

-- ---- calls of an environment

-- none was made
pub nothing_done : {T : Type 0} {models_disk : Bool} {change : Files → Files}
    {Passes : Files → Files → Type 0} (observed : Observed) {result : Result T Status}
    → IsErr result → Passes observed.disk.files observed.disk.files
    → ChangesFiles models_disk change Passes observed observed result
nothing_done observed refused stays = ChangesFiles-refused refused (begun observed stays)

-- one returned this error, and it is passed on
pub change_passed : {T U : Type 0} {models_disk : Bool} {change : Files → Files}
    {Passes : Files → Files → Type 0} {old new : Observed} {answer : Result U Status}
    (result : Result T Status) → IsErr result
    → ChangesFiles models_disk change Passes old new answer
    → ChangesFiles models_disk change Passes old new result
change_passed {change = change} {old = old} {new = new} result refused does = record {
  ok = λ modelled. IfOk-from_err result (λ done. new.disk.files ≡ change old.disk.files) refused;
  now = does.now;
  time = does.time;
}

-- ---- what is counted

-- nothing, where no call was made
pub uncounted : {T : Type 0} {Excused : Status → Type 0} {failed : ℕ} (result : Result T Status)
    → IfErr result Excused → IsErr result → HasCause Excused failed failed result
uncounted (Ok value) why refused = absurd (true≢false (sym refused))
uncounted (Err status) why refused = record {
  later = omega arith;
  ok = tt;
  uncounted = λ is. refl;
  cause = inl why;
}
