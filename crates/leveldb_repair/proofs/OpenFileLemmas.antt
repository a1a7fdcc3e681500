-- Calls on the file at a path, whose name an error tells where it is missing.
use Rattle.std.specs.Prelude.{IfOk, IfSome, IsErrAnd, IsSome, IsSomeAnd, IsTrue, OnOk}
use Rattle.std.proofs.Common.{◌<◌, ◌^◌, ◌≡◌, ◌∙◌, ◌⊎◌, inl, inr, ⊎_elim, ℕ, true, false, List, length, Option, None, Some, Result, Ok, Err, ap, subst, sym}
use Rattle.leveldb_base.specs.Error.{IsOutOfMemory}
use Rattle.leveldb_base.specs.declared.error.Status.{Status}
use Rattle.leveldb_base.specs.declared.error.StatusCode.TheVariants.{Corruption}
use Rattle.leveldb_env.proofs.WholeFilesLemmas.{found_cause, found_ok}
use Rattle.leveldb_env.specs.Env.{ChangesFiles, File, FilesUnchanged, HasCause, IsMissing, SameLocks, bytes_of, same}
use Rattle.leveldb_env.specs.WholeFiles.{IsFoundOr, IsMissingFile}
use Rattle.leveldb_env.specs.declared.env.Env.{Ghosts as EnvGhosts}
use Rattle.leveldb_table.proofs.TableBlockLemmas.{KeepsDisk-call, KeepsDisk-trans, reads_ok, reads_refused, reads_then}
use Rattle.leveldb_table.specs.TableBlock.{FailsFor, ReadsFile}
use Rattle.leveldb_version.specs.Tables.TableCache.{files_at}
use Rattle.leveldb_repair.specs.FoundTables.{SizesFile}
use Rattle.leveldb_repair.specs.FoundWalkTable.{OpensFile}

-- a file that is there has the size that is told
sized_there : (found : Option File) (size : ℕ) → IsSome found
    → IfSome found (λ file. size ≡ length (bytes_of file))
    → IsSomeAnd found (λ file. size ≡ length (bytes_of file))
sized_there None size some is = let never : false ≡ true = some in absurd (cc never)
sized_there (Some file) size some is = is

module _ {E F : Type 0} (env : EnvGhosts E F) (path : List ℕ) where
  -- the file is missing
  abbrev IsNone : E → Status → Type 0
  IsNone at status = (status.code ≡ Corruption) × (IsTrue env.models_disk → files_at env at path ≡ None)

  -- one call that looks at the file
  pub record Looks {T : Type 0} (from to : E) (answer result : Result T Status) : Type 0 where
    pub does : ChangesFiles env.models_disk same FilesUnchanged (env.observed from)
        (env.observed to) answer
    pub locks : SameLocks env.models_disk (env.observed from) (env.observed to)
    pub cause : HasCause (IsMissing env.models_disk path (env.observed from)) (env.failures from)
        (env.failures to) answer
    pub found : IsFoundOr path answer result

  fails : {T : Type 0} {from to : E} (result : Result T Status)
      → HasCause (λ e. IsOutOfMemory e ⊎ (IsMissingFile path e
      × (IsTrue env.models_disk → files_at env from path ≡ None)
      × (env.failures to ≡ env.failures from))) (env.failures from) (env.failures to) result
      → FailsFor env (IsNone from) from to result
  fails (Ok value) cause = record { later = cause.later; ok = cause.ok; uncounted = tt; cause = tt }
  fails (Err status) cause = record {
    later = cause.later;
    ok = tt;
    uncounted = λ excuse. ⊎_elim (λ memory. cause.uncounted (inl memory)) (λ own. own.0) excuse;
    cause = ⊎_elim (λ excuse. inl (⊎_elim (λ memory. inl memory)
        (λ lost. inr (lost.2, (lost.0.code, lost.1))) excuse)) (λ counted. inr counted) cause.cause;
  }

  -- it leaves the disk as it is
  pub looks_reads : {T : Type 0} {from to : E} {answer result : Result T Status}
      → Looks from to answer result → ReadsFile env (IsNone from) from to result
  looks_reads {answer = answer} {result = result} looks = record {
    kept_disk = KeepsDisk-call env looks.does looks.locks;
    cause = fails result (found_cause path answer result (λ none. none) looks.found looks.cause);
  }

  -- its size is told, or isn't known
  pub sizes : {from to : E} {answer : Result ℕ Status} (result : Result ℕ Status)
      → Looks from to answer result
      → IfOk answer (λ n. IsTrue env.models_disk → IfSome (files_at env from path) (λ f. n ≡ length (bytes_of f)))
      → OnOk answer (IsTrue env.models_disk → IsSome (files_at env from path))
      → IfOk result (λ n. n < 2 ^ 64) → SizesFile env path from result to
  sizes {from} {answer = answer} (Ok size) looks has_size there fits =
      let size_is : answer ≡ Ok size = found_ok path answer size looks.found in
      record {
        ok = λ modelled. sized_there (files_at env from path) size
            (subst (λ r. OnOk r (IsTrue env.models_disk → IsSome (files_at env from path))) size_is there modelled)
            (subst (λ r. IfOk r (λ n. IsTrue env.models_disk → IfSome (files_at env from path) (λ f. n ≡ length (bytes_of f)))) size_is has_size modelled);
        fits = fits;
        reads = looks_reads looks;
      }
  sizes (Err status) looks has_size there fits = record { ok = tt; fits = tt; reads = looks_reads looks }

  -- its size isn't known
  pub unsized : {from to : E} {answer : Result ℕ Status} {status : Status}
      (result : Result (F × ℕ) Status) → IsErrAnd result (λ other. other ≡ status)
      → Looks from to answer (Err status) → OpensFile env path from result to
  unsized (Ok value) refused looks = absurd refused
  unsized (Err other) refused looks = record {
    ok = tt;
    reads = reads_refused env (Err other) refused (looks_reads looks);
  }

  module _ {from mid : E} {answer : Result ℕ Status} {size : ℕ} (sized : Looks from mid answer (Ok size)) where
    -- it is missing still
    none_before : IsTrue env.models_disk → files_at env mid path ≡ None → files_at env from path ≡ None
    none_before modelled none = let reads = looks_reads sized in
        sym (ap (λ files. files path) (reads.kept_disk.disk modelled).has) ∙ none

    -- it isn't opened
    pub unopened : {to : E} {given : Result F Status} {status : Status} (result : Result (F × ℕ) Status)
        → IsErrAnd result (λ other. other ≡ status) → Looks mid to given (Err status)
        → OpensFile env path from result to
    unopened (Ok value) refused looks = absurd refused
    unopened (Err other) refused looks = let reads = looks_reads sized in record {
      ok = tt;
      reads = reads_then env (Err other) reads.kept_disk reads.cause.ok
          (λ status none. (none.0, λ modelled. none_before modelled (none.1 modelled)))
          (reads_refused env (Err other) refused (looks_reads looks));
    }

    -- it is opened
    pub opened : {to : E} {given : Result F Status} {file : F} → Looks mid to given (Ok file)
        → IfOk answer (λ n. IsTrue env.models_disk → IfSome (files_at env from path) (λ f. n ≡ length (bytes_of f)))
        → OnOk answer (IsTrue env.models_disk → IsSome (files_at env from path))
        → IfOk given (λ f. IsTrue env.models_disk → env.name_of f ≡ path)
        → OpensFile env path from (Ok (file, size)) to
    opened {to} {given} {file} looks has_size there named =
        let first = looks_reads sized in
        let second = looks_reads looks in
        let size_is : answer ≡ Ok size = found_ok path answer size sized.found in
        let file_is : given ≡ Ok file = found_ok path given file looks.found in
        record {
          ok = λ modelled. (
            subst (λ r. IfOk r (λ f. IsTrue env.models_disk → env.name_of f ≡ path)) file_is named modelled,
            sized_there (files_at env from path) size
                (subst (λ r. OnOk r (IsTrue env.models_disk → IsSome (files_at env from path))) size_is there modelled)
                (subst (λ r. IfOk r (λ n. IsTrue env.models_disk → IfSome (files_at env from path) (λ f. n ≡ length (bytes_of f)))) size_is has_size modelled),
          );
          reads = reads_ok env (KeepsDisk-trans env first.kept_disk second.kept_disk) (second.cause.ok ∙ first.cause.ok);
        }
