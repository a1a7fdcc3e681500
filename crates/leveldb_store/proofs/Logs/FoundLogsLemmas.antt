-- The batches with which logs begin, and what is few or many of them.
use Rattle.std.specs.Prelude.{Contains}
use Rattle.std.proofs.Common.{◌≡◌, ◌∙◌, inl, inr, ◌+◌, ◌≤◌, ℕ, Bool, List, [], ◌∷◌, ◌++◌, ap, append-nil, append_assoc, arith, length, length-append, refl, subst, sym}
use Rattle.leveldb_base.proofs.HistoryLemmas.{in_front, in_rest}
use Rattle.leveldb_base.specs.declared.error.Status.{Status}
use Rattle.leveldb_env.specs.Env.{Files}
use Rattle.leveldb_mem.specs.WriteBatch.{Batch}
use Rattle.leveldb_files.specs.Stores.Paths.{log_path}
use Rattle.leveldb_store.specs.Logs.FoundLogs.{LacksNumbersFor, LogBeginsWith, LogsBeginWith}

-- the front of batches is no more than all
pub front_few : (batches front last : List Batch) → batches ≡ front ++ last
    → length front ≤ length batches
front_few batches front last parts =
    let long = ap length parts in
    let both = length-append front last in
    omega (arith, long, both)

-- a log that is the same begins with the same batches
pub log_same : (store other : List ℕ) (files now : Files) (number : ℕ)
    → now (log_path other number) ≡ files (log_path store number) → (batches : List Batch)
    → LogBeginsWith store files number batches → LogBeginsWith other now number batches
log_same store other files now number same batches begins =
    (begins.0, same ∙ begins.1, begins.2)

module _ (store : List ℕ) (files : Files) where
  -- logs begin with no batch
  pub logs_none : (numbers : List ℕ) → LogsBeginWith store files numbers []
  logs_none [] = refl
  logs_none (number ∷ numbers) = inl (logs_none numbers)

  -- there are others after them
  pub logs_before : (numbers more : List ℕ) (batches : List Batch)
      → LogsBeginWith store files numbers batches
      → LogsBeginWith store files (numbers ++ more) batches
  logs_before [] more batches begin =
      subst (LogsBeginWith store files more) (sym begin) (logs_none more)
  logs_before (number ∷ numbers) more batches (inl begin) =
      inl (logs_before numbers more batches begin)
  logs_before (number ∷ numbers) more batches (inr (first, later, parts, log, logs)) =
      inr (first, later, parts, log, logs_before numbers more later logs)

  -- and then another one
  pub logs_then : (numbers : List ℕ) (batches : List Batch)
      → LogsBeginWith store files numbers batches → (number : ℕ) (more : List Batch)
      → LogBeginsWith store files number more
      → LogsBeginWith store files (numbers ++ number ∷ []) (batches ++ more)
  logs_then [] batches begin number more begins =
      inr (more, [], ap (λ bs. bs ++ more) begin ∙ sym (append-nil more), begins, refl)
  logs_then (one ∷ numbers) batches (inl begin) number more begins =
      inl (logs_then numbers batches begin number more begins)
  logs_then (one ∷ numbers) batches (inr (first, later, parts, log, logs)) number more begins = inr (
    first,
    later ++ more,
    ap (λ bs. bs ++ more) parts ∙ append_assoc first later more,
    log,
    logs_then numbers later logs number more begins,
  )

  -- logs that all are the same in other files
  pub logs_same : (other : List ℕ) (now : Files) (numbers : List ℕ)
      → ((number : ℕ) (batches : List Batch) → Contains numbers number
      → LogBeginsWith store files number batches → LogBeginsWith other now number batches)
      → (batches : List Batch) → LogsBeginWith store files numbers batches
      → LogsBeginWith other now numbers batches
  logs_same other now [] same batches begin = begin
  logs_same other now (number ∷ numbers) same batches (inl begin) =
      inl (logs_same other now numbers (λ n bs c. same n bs (in_rest number n numbers c)) batches
      begin)
  logs_same other now (number ∷ numbers) same batches (inr (first, later, parts, log, logs)) = inr (
    first,
    later,
    parts,
    same number first (in_front number numbers) log,
    logs_same other now numbers (λ n bs c. same n bs (in_rest number n numbers c)) later logs,
  )

-- too few for `more` files, numbers are too few for one more
pub lacks_one_more : (models_disk : Bool) (store : List ℕ) (files : Files) (numbers : List ℕ)
    (next more : ℕ) (status : Status)
    → LacksNumbersFor models_disk store files numbers next more status
    → LacksNumbersFor models_disk store files numbers next (more + 1) status
lacks_one_more models_disk store files numbers next more status lacks = record {
  batches = lacks.batches;
  begin = lacks.begin;
  too_few = record {
    code = lacks.too_few.code;
    too_few = let few = lacks.too_few.too_few in omega (arith, few);
  };
}
