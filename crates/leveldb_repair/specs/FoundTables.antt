-- The readable tables of a folder, each with a walk over its pairs.
use Rattle.std.specs.Prelude.{◌≡◌, ◌⊎◌, ◌↔◌, ◌<◌, ◌^◌, ℕ, List, [], ◌∷◌, All, Any, Contains, IfOk, IsSomeAnd, IsTrue, MatchOption, None, OnOk, Option, Result, Some, Vec, flat_map, length, string_bytes}
use Rattle.std.specs.Global.{Global}
use Rattle.std.specs.declared.cmp.Ordering.{Ordering}
use Rattle.leveldb_base.specs.Entries.{entries_of_pairs}
use Rattle.leveldb_base.specs.History.{AreAbove, AreRising, Entry}
use Rattle.leveldb_base.specs.KeyTypes.{internal_cmp}
use Rattle.leveldb_base.specs.Names.{IsFileName}
use Rattle.leveldb_base.specs.Types.{Pair}
use Rattle.leveldb_base.specs.declared.cmp.Cmp.{Ghosts as CmpGhosts}
use Rattle.leveldb_base.specs.declared.cmp.internal.InternalKeyCmp.{InternalKeyCmp}
use Rattle.leveldb_base.specs.declared.error.Status.{Status}
use Rattle.leveldb_base.specs.declared.error.StatusCode.TheVariants.{Corruption}
use Rattle.leveldb_base.specs.declared.types.FileType.TheVariants.{Table}
use Rattle.leveldb_env.specs.Compressor.{Codings, Decodes}
use Rattle.leveldb_env.specs.Env.{File, Files, FilesUnchanged, Run, SameLocks, bytes_of, in_folder}
use Rattle.leveldb_env.specs.declared.env.Env.{Ghosts as EnvGhosts}
use Rattle.leveldb_iter.specs.Merge.{IsPairOf}
use Rattle.leveldb_iter.specs.Walk.{key_order}
use Rattle.leveldb_table.specs.OpenTable.{file_of}
use Rattle.leveldb_table.specs.ReadableTable.{HasUndecodedBlock, IsReadableTable}
use Rattle.leveldb_table.specs.TableBlock.{HasLackCode, ReadsFile}
use Rattle.leveldb_table.specs.TableLaws.{DecodesMore}
use Rattle.leveldb_files.specs.Stores.Batches.{Each}
use Rattle.leveldb_files.specs.Stores.Format.{Meaning}
use Rattle.leveldb_version_set.specs.Repairs.Found.{IsAnyTable, IsReadable, TableHas}
use Rattle.leveldb_files.specs.Stores.Store.{IsInternalPair}
use Rattle.leveldb_store.specs.Openings.Listing.{AreFilesIn, MatchesName}
use Rattle.leveldb_store.specs.Logs.ReplayLog.{HasCauseOr}
use Rattle.leveldb_store.specs.declared.opening.listing.ListedFile.{ListedFile}
use Rattle.leveldb_repair.specs.FoundWalkTable.{IsFoundAt, IsNewFound}
use Rattle.leveldb_repair.specs.declared.found_walk.files.ReadFiles.{ReadFiles}
use Rattle.leveldb_repair.specs.declared.found_walk.table.FoundTable.{FoundTable}

-- ---- pairs

-- the pairs are those of entries, whose numbers are from 1 on: each key has its tag
pub record AreNumberedPairs (pairs : List Pair) : Type 0 where
  pub each : Each IsInternalPair pairs (entries_of_pairs pairs)
  pub numbered : AreAbove 0 (entries_of_pairs pairs)

-- the entries of lists of pairs
abbrev pub entries_of_lists : List (List Pair) → List Entry
entries_of_lists lists = flat_map entries_of_pairs lists

-- ---- the tables of a folder

module _ (store : List ℕ) (files : Files) where
  -- a readable table of the folder has the entry, where this says which bytes are a table
  abbrev pub IsInTable : (List ℕ → List Pair → Type 0) → Entry → Type 0
  IsInTable IsTableOf entry = (name : List ℕ) × (file : File)
      × (files (in_folder store name) ≡ Some file)
      × TableHas store IsTableOf name (bytes_of file) entry

  -- a readable table of the folder has the pair
  abbrev pub IsTablePair : (List ℕ → List Pair → Type 0) → Pair → Type 0
  IsTablePair IsTableOf pair = (name : List ℕ) × (n : ℕ) × IsFileName name n Table × (file : File)
      × (files (in_folder store name) ≡ Some file)
      × (readable : (entries : List Entry) × IsReadable IsTableOf (bytes_of file) entries)
      × Contains readable.1.pairs pair

  -- the file of this name is there
  abbrev pub IsListedFile : ListedFile → File → Type 0
  IsListedFile file found = files (in_folder store (string_bytes file.name)) ≡ Some found

  -- the file is there, if it is a table
  abbrev pub IsThereIfTable : ListedFile → Type 0
  IsThereIfTable file = file.kind ≡ Table → (found : File) × IsListedFile file found

  -- the file is a table that is missing
  abbrev pub IsMissingTable : ListedFile → Type 0
  IsMissingTable file = (file.kind ≡ Table)
      × (files (in_folder store (string_bytes file.name)) ≡ None)

  module _ (codings : Codings) (cmp : List ℕ → List ℕ → Ordering) where
    -- the file is a table with a block that isn't decoded, and the status says why
    abbrev pub IsUndecodedTable : Status → ListedFile → Type 0
    IsUndecodedTable status file = (file.kind ≡ Table) × (found : File) × IsListedFile file found
        × HasUndecodedBlock codings (internal_cmp cmp) (bytes_of found) status

    -- the file is no table, or bytes that are no readable table, nor would be with more compressors
    abbrev pub IsLeftOut : ListedFile → Type 0
    IsLeftOut file = file.kind ≡ Table → (found : File) → IsListedFile file found
        → (more : Codings) → DecodesMore (Decodes codings) (Decodes more) → (pairs : List Pair)
        → IsReadableTable (Decodes more) cmp (bytes_of found) pairs → ⊥

-- ---- calls

-- why tables among these files aren't found, where the device didn't fail, beside out of memory: a
-- table is missing, or has a block that isn't decoded
abbrev pub WhyNoTables : {E F : Type 0} → EnvGhosts E F → Codings
    → (List ℕ → List ℕ → Ordering) → List ℕ → Files → List ListedFile → Status → Type 0
WhyNoTables env codings cmp store files listed status =
    ((status.code ≡ Corruption)
    × (IsTrue env.models_disk → Any (IsMissingTable store files) listed))
    ⊎ (HasLackCode env codings status × (IsTrue env.models_disk
    → Any (IsUndecodedTable store files codings cmp status) listed))

-- what a call says that finds out how many bytes the file at a path has
pub record SizesFile {E F : Type 0} (env : EnvGhosts E F) (path : List ℕ) (from : E)
    (result : Result ℕ Status) (to : E) : Type 0 where
  pub ok : IfOk result (λ size. IsTrue env.models_disk
      → IsSomeAnd ((env.observed from).disk.files path) (λ file. size ≡ length (bytes_of file)))
  -- it has 64 bits
  pub fits : IfOk result (λ size. size < 2 ^ 64)
  -- it fails out of memory, at a failure of the device, or since the file is missing
  pub reads : ReadsFile env (λ status. (status.code ≡ Corruption)
      × (IsTrue env.models_disk → (env.observed from).disk.files path ≡ None)) from to result

module _ {E C F : Type 0} (order : CmpGhosts (InternalKeyCmp C)) (env : EnvGhosts E F)
    (cmp : CmpGhosts C) where
  -- ---- one file

  -- The file is a readable table of these pairs, and there is a walk over it, at no position.
  pub record IsFoundTable (codings : Codings) (compares : C) (store : List ℕ) (files : Files)
      (to : E) (file : ListedFile) (it : FoundTable E C F) (pairs : List Pair) : Type 0 where
    pub kind : file.kind ≡ Table
    pub found : File
    pub is_there : IsListedFile store files file found
    pub readable : IsReadableTable (Decodes codings) (cmp.cmp compares) (bytes_of found) pairs
    pub path_is : env.name_of (file_of it.table) ≡ in_folder store (string_bytes file.name)
    pub opened : IsNewFound order env cmp codings compares (λ bytes. bytes ≡ bytes_of found) to it

  -- what a call says that finds out whether a file is a readable table
  pub record FindsTable (codings : Codings) (compares : C) (store : List ℕ) (file : ListedFile)
      (from : E) (result : Result (Option (FoundTable E C F)) Status) (to : E) : Type 0 where
    -- there is a walk over it, or it is none
    pub finds : IfOk result (λ found. IsTrue env.models_disk → MatchOption found
        (IsLeftOut store (env.observed from).disk.files codings (cmp.cmp compares) file)
        (λ it. (pairs : List Pair) × IsFoundTable codings compares store
        (env.observed from).disk.files to file it pairs))
    -- a table that is missing is none
    pub there : OnOk result (IsTrue env.models_disk
        → IsThereIfTable store (env.observed from).disk.files file)
    -- no file changes; why it failed
    pub reads : ReadsFile env (WhyNoTables env codings (cmp.cmp compares) store
        (env.observed from).disk.files (file ∷ [])) from to result

  -- ---- all of them

  module _ {K : Type 0} (codings : K → Codings) (compressors : K) (compares : C) (store : List ℕ)
      (listed : List ListedFile) where
    -- A walk over these pairs, at no position, that is read with these compressors. No table that
    -- is made in the store meanwhile is its file, if it has a number above those of the names.
    abbrev pub IsNewWalkOver : E → FoundTable E C F → List Pair → Type 0
    IsNewWalkOver at it pairs = (files : ReadFiles K) → files.compressors.now ≡ compressors
        → files.store.now ≡ store → All (λ (file : ListedFile). file.number < files.below) listed
        → IsFoundAt order env codings (at, files) it (key_order order (record { 0 = compares }))
        pairs None

    -- Walks are over the readable tables among the listed files, each over all its pairs.
    pub record AreFoundTables (from to : E) (walks : List (FoundTable E C F)) : Type 0 where
      -- the pairs of each
      pub lists : List (List Pair)
      pub over : Each (IsNewWalkOver to) walks lists
      -- they are in the order of internal keys
      pub rising : All (λ pairs. AreRising (internal_cmp (cmp.cmp compares)) pairs) lists
      pub numbered : All AreNumberedPairs lists
      -- If these are the files of the folder, each pair is one of its readable tables, whatever
      -- other ids of compressors mean.
      pub pairs : AreFilesIn env store from listed → (meaning : Meaning)
          → DecodesMore (Decodes (codings compressors)) (Decodes meaning.codings)
          → (pair : Pair) → IsPairOf lists pair
          → IsTablePair store (env.observed from).disk.files
          (IsAnyTable (cmp.cmp compares) meaning) pair
      -- If these are the files of the folder, the lists have exactly the entries of its readable
      -- tables, whatever other ids of compressors mean.
      pub exactly : AreFilesIn env store from listed → (meaning : Meaning)
          → DecodesMore (Decodes (codings compressors)) (Decodes meaning.codings)
          → (entry : Entry) → Contains (entries_of_lists lists) entry
          ↔ IsInTable store (env.observed from).disk.files (IsAnyTable (cmp.cmp compares) meaning)
          entry

    -- what a call says that finds the readable tables among these files of the folder
    pub record FindsTables (from : E) (result : Result (Vec (FoundTable E C F) Global) Status)
        (to : E) : Type 0 where
      -- no file changes, at any moment, and no lock does
      pub still : IsTrue env.models_disk
          → Run (FilesUnchanged (env.observed from).disk.files) (env.observed from)
          (env.observed to)
      pub locks : SameLocks env.models_disk (env.observed from) (env.observed to)
      -- the walks, where the files have the numbers and types of their names
      pub finds : IfOk result (λ walks. IsTrue env.models_disk → All MatchesName listed
          → AreFoundTables from to walks.items)
      -- a table that is missing is no table that is left out
      pub there : OnOk result (IsTrue env.models_disk
          → All (IsThereIfTable store (env.observed from).disk.files) listed)
      -- why it failed
      pub cause : HasCauseOr (WhyNoTables env (codings compressors) (cmp.cmp compares) store
          (env.observed from).disk.files listed) (env.failures from) (env.failures to) result
