-- Which files a look-up of a key goes through, in what order, what it finds in their tables, and
-- why it fails.
use Rattle.std.specs.Prelude.{◌≡◌, ◌≢◌, ◌⊎◌, ◌<◌, ◌≤◌, ◌^◌, ℕ, List, [], ◌∷◌, ◌++◌, length, map, Option, None, Some, Result, IfOk, IfSome, IsSome, IsSomeAnd, IsTrue, OnOk, All, AllPairs, Contains, IsPermutation}
use Rattle.std.specs.Option.{option_to_list}
use Rattle.std.specs.Cmp.{IsTotalOrder}
use Rattle.std.specs.declared.cmp.Ordering.{Ordering}
use Rattle.std.specs.declared.cmp.Ordering.TheVariants.{Less}
use Rattle.leveldb_base.specs.Entries.{FindsNewest, found_at}
use Rattle.leveldb_base.specs.declared.types.Lookup.{Lookup}
use Rattle.leveldb_base.specs.declared.types.Lookup.TheVariants.{Absent}
use Rattle.leveldb_base.specs.KeyTypes.{sequence_part, user_part}
use Rattle.leveldb_base.specs.Types.{Pair}
use Rattle.leveldb_base.specs.declared.cmp.Cmp.{Ghosts as CmpGhosts}
use Rattle.leveldb_base.specs.declared.cmp.internal.InternalKeyCmp.{InternalKeyCmp}
use Rattle.leveldb_base.specs.declared.error.Status.{Status}
use Rattle.leveldb_base.specs.declared.error.StatusCode.TheVariants.{Corruption, NotSupported}
use Rattle.leveldb_env.specs.declared.env.Env.{Ghosts as EnvGhosts}
use Rattle.leveldb_table.specs.TableBlock.{FailsFor, ReadsFile}
use Rattle.leveldb_table.specs.TableReaderMoves.{FindsPair}
use Rattle.leveldb_files.specs.Stores.Format.{Agrees, IsTableFault, IsTableOf, LacksCompressor, Meaning}
use Rattle.leveldb_files.specs.Levels.Levels.{IsInRange, LevelOrder, LiveTable, table_entries}
use Rattle.leveldb_files.specs.Levels.Overlap.{AreDisjointRanges, file_range, output_level}
use Rattle.leveldb_files.specs.Stores.Store.{HasTable}
use Rattle.leveldb_files.specs.Levels.Summary.{files_of_level}
use Rattle.leveldb_version.specs.Tables.TableCache.{ForBytesAt, IsOpenOrThere, IsTableUnopened, LacksBlockFor, MatchesFiles, SomeTable, StoreTable, TableOptions, blocks_of, files_at, key_matches, path_at, store_of, table_at, tables_of}
use Rattle.leveldb_version.specs.Versions.Version.{AreInVersionOrder, VersionValue, new_files_of}
use Rattle.leveldb_files.specs.Edits.Edit.{Edit, LevelFile, NewFile}
use Rattle.leveldb_files.specs.Edits.VersionSet.{level_file, live_after}
use Rattle.leveldb_version.specs.declared.table_cache.TableCache.{TableCache}
use Rattle.leveldb_version.specs.declared.version.GetStats.{GetStats}

-- ---- the order of files

-- A look-up tries the first file before the second: it is in a level above, or both are in level 0
-- and its number is no lesser one.
abbrev pub IsTriedBefore : NewFile → NewFile → Type 0
IsTriedBefore a b =
    (a.level < b.level) ⊎ ((a.level ≡ 0) × (b.level ≡ 0) × (b.number ≤ a.number))

-- the file that a look-up in these files charges with a seek: the first, if there is a second
abbrev pub file_to_charge : List NewFile → Option LevelFile
file_to_charge [] = None
file_to_charge (file ∷ []) = None
file_to_charge (file ∷ second ∷ files) = Some (level_file file)

-- The files of a version that a look-up may still try: those of level 0, of which the last is tried
-- first, and those of deeper levels, in the order of a version.
pub record FilesLeftValue : Type 0 where
  pub newest : List NewFile
  pub deeper : List NewFile

-- all of them
abbrev pub files_left : FilesLeftValue → List NewFile
files_left left = left.newest ++ left.deeper

module _ (cmp : List ℕ → List ℕ → Ordering) where
  -- the files of each level from 1 on are apart
  abbrev pub AreDisjointLevels : List NewFile → Type 0
  AreDisjointLevels files =
      (level : ℕ) → 0 < level → AreDisjointRanges cmp (files_of_level level files)

  module _ (key : List ℕ) (files : List NewFile) where
    -- Some files of a version, in this order, are the first that a look-up of a user key tries.
    pub record AreTriedFirst (tried : List NewFile) : Type 0 where
      -- they are files of the version, each once
      pub rest : List NewFile
      pub once : IsPermutation files (tried ++ rest)
      -- the key is in the range of each
      pub in_range : All (λ file. IsInRange cmp file key) tried
      pub in_order : AllPairs IsTriedBefore tried
      -- any other file with the key in its range is tried after them
      pub others : (file : NewFile) → Contains files file → IsInRange cmp file key
          → Contains tried file ⊎ All (λ one. IsTriedBefore one file) tried

    -- each file with the key in its range is one of these
    abbrev pub AreAllTried : List NewFile → Type 0
    AreAllTried tried =
        (file : NewFile) → Contains files file → IsInRange cmp file key → Contains tried file

  -- Takes the next file to try for a user key from those that are left, passes over some files, and
  -- leaves the others; or says that none is to be tried.
  pub record TakesNextFile (key : List ℕ) (old : List NewFile) (next : Option NewFile)
      (new : List NewFile) : Type 0 where
    pub passed : List NewFile
    pub once : IsPermutation old (option_to_list next ++ (new ++ passed))
    pub in_order : AreInVersionOrder cmp new
    pub none_left : next ≡ None → new ≡ []
    -- it is before those that are left, and the key is in no other file's range that isn't left
    pub first : AreDisjointLevels old → IfSome next (λ file. IsInRange cmp file key
        × All (IsTriedBefore file) new)
    pub others : AreDisjointLevels old → (file : NewFile) → Contains old file
        → IsInRange cmp file key → (next ≡ Some file) ⊎ Contains new file

-- ---- what a look-up finds in a table

-- `by` says what tables are opened with, and `key` is an internal key; the environment and the
-- cache are those at the beginning.
module _ {E C FP F : Type 0} (order : CmpGhosts (InternalKeyCmp C)) (env : EnvGhosts E F)
    (by : TableOptions C FP) (key : List ℕ) (from : E) (old : TableCache E C FP F) where
  -- the disk is observed, and the open tables are those in its files
  pub record AreOpenTablesMatched : Type 0 where
    pub modelled : IsTrue env.models_disk
    pub matches : MatchesFiles order env by (files_at env from) old

  -- whatever bytes the file of a number's table has, the table's pair for the key has this property
  abbrev pub ForPairAt : ℕ → (Option Pair → Type 0) → Type 0
  ForPairAt number P = ForBytesAt (files_at env from) (path_at old number) (λ bytes.
      SomeTable by bytes (λ (table : StoreTable C FP F). (pair : Option Pair)
      × FindsPair order by.format.codings (key_matches by.format) table key bytes pair
      × P pair))

  -- what a number's table has of the key: a value, a deletion, or nothing
  abbrev pub FindsInTable : ℕ → Lookup (List ℕ) → Type 0
  FindsInTable number found = ForPairAt number (λ pair. found ≡ found_at (user_part key) pair)

  -- in the tables of these files nothing is found of the key
  abbrev pub FindsInNone : List NewFile → Type 0
  FindsInNone files = All (λ file. FindsInTable file.number Absent) files

  -- in the last of these files this is found, and in those before it nothing
  abbrev pub FindsInLast : List NewFile → Lookup (List ℕ) → Type 0
  FindsInLast [] found = found ≡ Absent
  FindsInLast (file ∷ []) found = FindsInTable file.number found
  FindsInLast (file ∷ second ∷ files) found =
      FindsInTable file.number Absent × FindsInLast (second ∷ files) found

  -- Why a number's table can't be read for the key: its file is missing or no table, it lacks a
  -- block on the way to the key, or the pair there has a key without a tag.
  pub data IsUnreadable (number : ℕ) (status : Status) : Type 0 where
    unopened : IsTableUnopened by.format (files_at env from) (path_at old number) status
        → IsUnreadable number status
    lacks_block : LacksBlockFor order env by key (files_at env from) old number status
        → IsUnreadable number status
    untagged : status.code ≡ Corruption
        → ForPairAt number (λ pair. IsSomeAnd pair (λ it. length it.0 < 8))
        → IsUnreadable number status

  -- Tables of these numbers may be opened, and any closed: the cache goes on to match the files of
  -- the same store, and its room stays.
  pub record OpensTablesOf (numbers : List ℕ) (to : E) (new : TableCache E C FP F)
      : Type 0 where
    pub path : store_of new ≡ store_of old
    pub room : (tables_of new).capacity ≡ (tables_of old).capacity
    pub block_room : (blocks_of new).capacity ≡ (blocks_of old).capacity
    pub matches : AreOpenTablesMatched → MatchesFiles order env by (files_at env to) new
    pub opened : (number : ℕ) → number < 2 ^ 64 → IsSome (table_at new number)
        → IsSome (table_at old number) ⊎ Contains numbers number

  -- what a search for the key in the table of a number returns and leaves
  pub record SearchesTable (number : ℕ) (result : Result (Lookup (List ℕ)) Status)
      (to : E) (new : TableCache E C FP F) : Type 0 where
    pub finds : AreOpenTablesMatched → IfOk result (FindsInTable number)
    pub there : OnOk result (IsOpenOrThere env from old number)
    pub reads : ReadsFile env (λ status. IsTableFault by.format status.code) from to result
    pub unread : AreOpenTablesMatched → FailsFor env (IsUnreadable number) from to result
    pub cache : OpensTablesOf (number ∷ []) to new

  -- ---- what it finds in a version

  module _ (version : VersionValue C) where
    -- the tables are those of the version's files, each is there, and they are in levels
    pub record AreVersionTables (meaning : Meaning) (tables : List LiveTable) : Type 0 where
      pub files_are : IsPermutation (map (λ table. table.file) tables) (new_files_of version)
      pub each : All (HasTable (store_of old) by.format.order (IsTableOf by.format.order meaning)
          (files_at env from)) tables
      pub levels : LevelOrder by.format.order tables

    -- so for all tables of the version, by whatever names and ids mean
    abbrev pub ForVersionTables : (Meaning → List LiveTable → Type 0) → Type 0
    ForVersionTables P = AreOpenTablesMatched → (meaning : Meaning) → Agrees by.format meaning
        → (tables : List LiveTable) → AreVersionTables meaning tables → P meaning tables

    -- these are the first of the version's files that a look-up of the key tries
    abbrev pub AreSearchedFirst : List NewFile → Type 0
    AreSearchedFirst = AreTriedFirst by.format.order (user_part key) (new_files_of version)

    -- The way of a look-up through the version's files, and the one that it charges with a seek.
    pub record SearchesFiles (found : Lookup (List ℕ)) (charge : Option LevelFile)
        : Type 0 where
      -- the files in whose tables it looked, in order
      pub looked : List NewFile
      pub first : AreSearchedFirst looked
      pub there : All (λ file. IsOpenOrThere env from old file.number) looked
      -- it ends at the first whose table has an entry of the key, or where no file is left
      pub finds : AreOpenTablesMatched → FindsInLast looked found
      pub all : found ≡ Absent
          → AreAllTried by.format.order (user_part key) (new_files_of version) looked
      pub charged : charge ≡ file_to_charge looked

    -- one of the version's tables can't be read, as a status says
    abbrev pub IsOneUnreadable : Status → Type 0
    IsOneUnreadable status =
        (file : NewFile) × Contains (new_files_of version) file × IsUnreadable file.number status

    -- The look-up stops at a table that can't be read, as a status says, after others in which
    -- nothing is found.
    pub record StopsAtTable (status : Status) : Type 0 where
      pub looked : List NewFile
      pub file : NewFile
      pub first : AreSearchedFirst (looked ++ file ∷ [])
      pub nothing : FindsInNone looked
      pub unread : IsUnreadable file.number status

    -- what a look-up in the version returns and leaves
    pub record LooksUpNewest (result : Result (Lookup (List ℕ) × GetStats) Status)
        (to : E) (new : TableCache E C FP F) : Type 0 where
      -- the value or the deletion of the newest entry of the user's key at or below the key's
      -- number, or nothing if no table has such an entry
      pub finds : ForVersionTables (λ meaning tables. IfOk result (λ found.
          FindsNewest (table_entries tables) (sequence_part key) (user_part key) found.0))
      -- it goes through the files in order, whatever is in them
      pub goes : AreDisjointLevels by.format.order (new_files_of version)
          → IfOk result (λ found. SearchesFiles found.0 found.1.file)
      -- It fails out of memory, at a failure of the device, or for the fault of a table. The disk
      -- stays as it is.
      pub reads : ReadsFile env (λ status. IsTableFault by.format status.code) from to result
      -- the table is one of the version's, and the first on the way that can't be read
      pub unread : AreOpenTablesMatched → FailsFor env IsOneUnreadable from to result
      pub stops : AreDisjointLevels by.format.order (new_files_of version)
          → AreOpenTablesMatched → FailsFor env StopsAtTable from to result
      -- where its files are tables, that is since the format lacks a compressor
      pub lacks : ForVersionTables (λ meaning tables. FailsFor env (λ status.
          (status.code ≡ NotSupported) × LacksCompressor by.format meaning) from to result)
      pub cache : OpensTablesOf (map (λ file. file.number) (new_files_of version)) to new
