-- What an environment over the files of the system reports of itself: its count of failures, and the
-- texts of its errors.
use Rattle.std.specs.Prelude.{◌≡◌, ◌⊎◌, ◌++◌, ℕ, List, false, Option, None, Some, IfSome, codes, string_bytes}
use Rattle.leveldb_base.specs.Error.{IsOutOfMemory, status_text, annotated}
use Rattle.leveldb_base.specs.declared.error.Status.{Status}
use Rattle.leveldb_base.specs.declared.error.StatusCode.{StatusCode}
use Rattle.leveldb_env.specs.Env.{Observed}

-- nothing is observed of the files
abbrev pub nothing_observed : Observed
nothing_observed = record {
  disk = record { files = λ _. None; locked = λ _. false };
  moment = 0;
  at_moment = λ _ _. ⊥;
}

-- out of memory, or the code that is there
abbrev pub IsExcused : Option StatusCode → Status → Type 0
IsExcused None e = IsOutOfMemory e
IsExcused (Some code) e = IsOutOfMemory e ⊎ (e.code ≡ code)

-- what was being done to which name, and why it failed
abbrev pub failed_call : List ℕ → List ℕ → List ℕ → List ℕ
failed_call doing name why = doing ++ (codes " " ++ annotated name why)

-- the text, where there was memory for one, says what was being done to which name, and some reason
abbrev pub NamesCall : List ℕ → List ℕ → Status → Type 0
NamesCall doing name e = IfSome e.err (λ text.
    (why : List ℕ) × (string_bytes text ≡ status_text e.code (failed_call doing name why)))
