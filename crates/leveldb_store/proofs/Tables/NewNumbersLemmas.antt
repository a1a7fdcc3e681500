-- What new tables leave of the numbers of a store's files.
use Rattle.std.proofs.Common.{◌≡◌, ◌≢◌, ◌∙◌, ⊎_elim, ◌<◌, ◌≤◌, ◌^◌, ℕ, List, arith, subst}
use Rattle.std.proofs.lemmas.Bool.{cases_lt}
use Rattle.leveldb_base.proofs.NamesLemmas.{made_name, one_reading}
use Rattle.leveldb_base.specs.Names.{IsFileName, file_name}
use Rattle.leveldb_base.specs.declared.types.FileType.TheVariants.{Table}
use Rattle.leveldb_env.proofs.EnvLemmas.{bytes_eq-apart}
use Rattle.leveldb_env.specs.Env.{Files, in_folder}
use Rattle.leveldb_files.proofs.Stores.ManagedLemmas.{same_name}
use Rattle.leveldb_files.specs.Stores.Paths.{table_path}
use Rattle.leveldb_version_set.specs.Engines.Writing.{NumbersAreBelow}
use Rattle.leveldb_store.specs.Tables.Outputs.{SameButNewTables}

-- each file's number is below the next one of the set that gave the tables' numbers
pub numbers_below_new : (store : List ℕ) (first next later : ℕ) (before after : Files)
    → next ≤ later → SameButNewTables store first later before after
    → NumbersAreBelow store before next → NumbersAreBelow store after later
numbers_below_new store first next later before after up same below name n kind is some =
    ⊎_elim (λ (less : n < later). less)
    (λ (above : later ≤ n).
    let less = below name n kind is (λ gone. some (same (in_folder store name)
    (λ m from_first under fits. bytes_eq-apart (table_path store m) (in_folder store name)
    (no_table above m under fits)) ∙ gone)) in omega (arith, less, up, above))
    (cases_lt n later)
  where
    no_table : later ≤ n → (m : ℕ) → m < later → m < 2 ^ 64
        → table_path store m ≢ in_folder store name
    no_table above m under fits e =
        let one = one_reading name m n Table kind (subst (λ z. IsFileName z m Table)
        (same_name store (file_name Table m) name e) (made_name Table m fits)) is in
        omega (arith, one.0, under, above)
