-- What is found in a store's folder, whether a manifest names it or not: the entries of each table
-- that is readable, and of each log up to its first bad end, or its first record that is no batch
-- whose numbers entries may have. A repair makes a store of them.
use Rattle.std.specs.Prelude.{◌≡◌, ◌⊎◌, ◌<◌, ◌≤◌, ◌↔◌, ℕ, List, [], ◌∷◌, ◌++◌, None, Some, Contains}
use Rattle.std.specs.declared.cmp.Ordering.{Ordering}
use Rattle.leveldb_base.specs.History.{Entry, greatest}
use Rattle.leveldb_base.specs.KeyTypes.{greatest_sequence}
use Rattle.leveldb_base.specs.Names.{IsFileName}
use Rattle.leveldb_base.specs.Types.{Pair}
use Rattle.leveldb_base.specs.declared.types.FileType.TheVariants.{Log, Table}
use Rattle.leveldb_env.specs.Compressor.{Decodes}
use Rattle.leveldb_env.specs.Env.{File, Files, bytes_of, in_folder}
use Rattle.leveldb_mem.specs.Log.{End, IsLogFile}
use Rattle.leveldb_mem.specs.WriteBatch.{Batch}
use Rattle.leveldb_files.specs.Stores.Batches.{Each, IsRecordOf, all_entries, batch_entries}
use Rattle.leveldb_files.specs.Stores.Format.{Meaning}
use Rattle.leveldb_files.specs.Stores.Store.{IsInternalPair, IsStoreTable}

-- ---- tables

-- Bytes are a table of these pairs, whatever its filters are: of no filter policy it is known what
-- its filters mean.
abbrev pub IsAnyTable : (List ℕ → List ℕ → Ordering) → Meaning → List ℕ → List Pair → Type 0
IsAnyTable cmp meaning =
    IsStoreTable (Decodes meaning.codings) cmp (λ name. None)

-- Bytes are a readable table of these entries: each key has its tag, of a kind that there is and a
-- number from 1 on.
pub record IsReadable (IsTableOf : List ℕ → List Pair → Type 0) (bytes : List ℕ)
    (entries : List Entry) : Type 0 where
  pub pairs : List Pair
  pub read : IsTableOf bytes pairs
  pub each : Each IsInternalPair pairs entries
  pub numbered : (entry : Entry) → Contains entries entry → 0 < entry.sequence

-- ---- logs

-- a record is a batch whose numbers are those that entries may have, from 1 to the greatest
pub record IsNumberedBatch (text : List ℕ) (batch : Batch) : Type 0 where
  pub record_is : IsRecordOf text batch
  pub from_one : 0 < batch.first
  pub first_fits : batch.first ≤ greatest_sequence
  pub fits : greatest (batch_entries batch) ≤ greatest_sequence

-- what comes after the batches that are read of a log: no record, or first one that is no batch
-- with numbers from 1 to the greatest
abbrev pub IsNoBatchNext : List (List ℕ) → Type 0
IsNoBatchNext [] = Unit {0}
IsNoBatchNext (text ∷ rest) = (batch : Batch) → IsNumberedBatch text batch → ⊥

-- The bytes of a log are read as these batches: up to its first bad end, or its first record that
-- is no batch with such numbers.
pub record IsFoundLog (bytes : List ℕ) (batches : List Batch) : Type 0 where
  pub front : List (List ℕ)
  pub rest : List (List ℕ)
  pub end : End
  pub read : IsLogFile bytes (front ++ rest) end
  pub each : Each IsNumberedBatch front batches
  pub stops : IsNoBatchNext rest

-- the file of this name is a log that has the entry as far as it is read
abbrev pub LogHas : List ℕ → List ℕ → Entry → Type 0
LogHas name bytes entry = (n : ℕ) × IsFileName name n Log
    × (batches : List Batch) × IsFoundLog bytes batches × Contains (all_entries batches) entry

-- ---- the folder

-- neither a table nor a log is there: there is nothing to repair
pub record HasNoTableNorLog (store : List ℕ) (files : Files) : Type 0 where
  pub no_table : (name : List ℕ) (n : ℕ) → IsFileName name n Table
      → files (in_folder store name) ≡ None
  pub no_log : (name : List ℕ) (n : ℕ) → IsFileName name n Log
      → files (in_folder store name) ≡ None

-- `store` is the store's path, and `IsTableOf` says which bytes are a table of which pairs.
module _ (store : List ℕ) (IsTableOf : List ℕ → List Pair → Type 0) where
  -- the file of this name is a readable table that has the entry
  abbrev pub TableHas : List ℕ → List ℕ → Entry → Type 0
  TableHas name bytes entry = (n : ℕ) × IsFileName name n Table
      × (entries : List Entry) × IsReadable IsTableOf bytes entries × Contains entries entry

  -- an entry is found: a readable table or a log of the folder has it
  abbrev pub IsFound : Files → Entry → Type 0
  IsFound files entry = (name : List ℕ) × (file : File)
      × (files (in_folder store name) ≡ Some file)
      × (TableHas name (bytes_of file) entry ⊎ LogHas name (bytes_of file) entry)

  -- these are the entries that are found, no more and no fewer
  abbrev pub AreFound : Files → List Entry → Type 0
  AreFound files found = (entry : Entry) → Contains found entry ↔ IsFound files entry
