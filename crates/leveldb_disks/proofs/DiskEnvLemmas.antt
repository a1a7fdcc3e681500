-- What causes are where no disk is modelled.
use Rattle.std.specs.Prelude.{ℕ, List, Result, false}
use Rattle.std.proofs.Common.{inl, ⊎_elim}
use Rattle.std.proofs.lemmas.Bool.{false≢true}
use Rattle.leveldb_base.specs.declared.error.Status.{Status}
use Rattle.leveldb_base.specs.Error.{IsOutOfMemory}
use Rattle.leveldb_env.specs.Env.{Observed, HasCause, IsGone}
use Rattle.leveldb_env.proofs.EnvLemmas.{cause_same}

-- no name is known to be gone
pub cause_not_gone : {T : Type 0} {before now : ℕ} {result : Result T Status} (name : List ℕ) (observed : Observed) → HasCause IsOutOfMemory before now result
    → HasCause (IsGone false name observed) before now result
cause_not_gone {result = result} name observed cause =
    cause_same result (λ e. inl) (λ e. ⊎_elim (λ memory. memory) (λ gone. absurd (false≢true gone.1))) cause
