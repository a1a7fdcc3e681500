-- What a call says that returns an error.
use Rattle.std.proofs.Common.{◌≡◌, Result, Ok, Err, subst, sym}
use Rattle.std.specs.Prelude.{IfErr, IfOk, IsErrAnd, OnOk}

-- it has nothing to say of an Ok
pub IfOk-refused : {T E : Type 0} (P : E → Type 0) (Q : T → Type 0) (result : Result T E) → IsErrAnd result P → IfOk result Q
IfOk-refused P Q (Ok value) refused = absurd refused
IfOk-refused P Q (Err error) refused = tt

pub OnOk-refused : {T E : Type 0} (P : E → Type 0) (Q : Type 0) (result : Result T E) → IsErrAnd result P → OnOk result Q
OnOk-refused P Q (Ok value) refused = absurd refused
OnOk-refused P Q (Err error) refused = tt

-- what each such error is, this one is
pub IfErr-refused : {T E : Type 0} (P Q : E → Type 0) (result : Result T E) → ((error : E) → P error → Q error) → IsErrAnd result P → IfErr result Q
IfErr-refused P Q (Ok value) why refused = tt
IfErr-refused P Q (Err error) why refused = why error refused

-- what is so of an error is so where that is passed on
pub IfErr-passed : {T E : Type 0} (P : E → Type 0) {error : E} (result : Result T E) → IsErrAnd result (λ other. other ≡ error) → P error → IfErr result P
IfErr-passed P (Ok value) same holds = tt
IfErr-passed P (Err other) same holds = subst P (sym same) holds

pub IsErrAnd-passed : {T E : Type 0} (P : E → Type 0) {error : E} (result : Result T E) → IsErrAnd result (λ other. other ≡ error) → P error → IsErrAnd result P
IsErrAnd-passed P (Ok value) same holds = absurd same
IsErrAnd-passed P (Err other) same holds = subst P (sym same) holds
