-- The walks over a version's tables: one for each file of level 0, the newest first, and one for
-- each deeper level that has files.
use Rattle.std.specs.Prelude.{◌≡◌, ◌↔◌, ◌<◌, ◌^◌, ℕ, true, List, [], ◌∷◌, ◌++◌, All, Contains, IsPermutation, None, flat_map, length, map, reverse, slice_get, Some}
use Rattle.std.specs.List.{IsDistinct}
use Rattle.std.specs.declared.cmp.Ordering.{Ordering}
use Rattle.leveldb_base.specs.Cmp.{IsExactOrder, internal_accepts}
use Rattle.leveldb_base.specs.Entries.{entries_of_pairs}
use Rattle.leveldb_base.specs.History.{Entry, entries_of}
use Rattle.leveldb_base.specs.KeyTypes.{internal_cmp}
use Rattle.leveldb_base.specs.Layers.{AreLayered}
use Rattle.leveldb_base.specs.Types.{Pair}
use Rattle.leveldb_base.specs.declared.cmp.Cmp.{Ghosts as CmpGhosts}
use Rattle.leveldb_base.specs.declared.cmp.internal.InternalKeyCmp.{InternalKeyCmp}
use Rattle.leveldb_base.specs.declared.types.FileMetaData.{FileMetaData}
use Rattle.leveldb_env.specs.Compressor.{Codings}
use Rattle.leveldb_env.specs.declared.env.Env.{Ghosts as EnvGhosts}
use Rattle.leveldb_env.specs.declared.filter.FilterPolicy.{Ghosts as FilterGhosts}
use Rattle.leveldb_iter.specs.Walk.{key_order}
use Rattle.leveldb_files.specs.Stores.Batches.{Each}
use Rattle.leveldb_files.specs.Stores.Format.{Agrees, IsTableOf, Meaning}
use Rattle.leveldb_files.specs.Levels.Levels.{LevelOrder, LiveTable, table_entries}
use Rattle.leveldb_files.specs.Stores.Store.{HasTable, IsInternalPair, any_user_key}
use Rattle.leveldb_version.specs.Tables.TableCache.{files_at, store_of}
use Rattle.leveldb_version.specs.Tables.TableMoves.{AreTablesMatched}
use Rattle.leveldb_version.specs.Versions.Version.{AreInVersionOrder, VersionValue, at_level, new_files_of}
use Rattle.leveldb_files.specs.Edits.VersionSet.{is_same_file, level_file}
use Rattle.leveldb_version.specs.Walks.VersionIter.{IsOverTables, reading}
use Rattle.leveldb_version.specs.declared.table_cache.moves.ReadTables.{ReadTables}
use Rattle.leveldb_version.specs.declared.version_iter.VersionIter.{VersionIter}

-- a list alone, or none if it is empty
abbrev pub if_some : {T : Type 0} → List T → List (List T)
if_some [] = []
if_some (x ∷ xs) = (x ∷ xs) ∷ []

-- files one by one, the last first
abbrev pub each_alone : List (ℕ × FileMetaData) → List (List (ℕ × FileMetaData))
each_alone files = map (λ file. file ∷ []) (reverse files)

-- the files of each level from 1 on that has some
abbrev pub levels_of_walks : List (ℕ × FileMetaData) → List (List (ℕ × FileMetaData))
levels_of_walks files =
    flat_map (λ level. if_some (at_level level files)) (1 ∷ 2 ∷ 3 ∷ 4 ∷ 5 ∷ 6 ∷ [])

-- the files of each walk: those of level 0 one by one, the greatest number first, and then those of
-- each deeper level that has some
abbrev pub files_of_walks : List (ℕ × FileMetaData) → List (List (ℕ × FileMetaData))
files_of_walks files = each_alone (at_level 0 files) ++ levels_of_walks files

module _ {C : Type 0} where
  -- the files that each walk goes over
  abbrev pub files_of_iters : List (VersionIter C) → List (List (ℕ × FileMetaData))
  files_of_iters iters = map (λ (it : VersionIter C). it.files.now) iters

  -- none of the walks has begun
  abbrev pub HaveNotBegun : List (VersionIter C) → Type 0
  HaveNotBegun iters = All (λ (it : VersionIter C). it.core ≡ None) iters

  -- walks over these files, which have not begun, come after those that were there
  abbrev pub AreWalksOf : List (VersionIter C) → List (List (ℕ × FileMetaData))
      → List (VersionIter C) → Type 0
  AreWalksOf old files new = (more : List (VersionIter C)) × (new ≡ old ++ more)
      × (files_of_iters more ≡ files) × HaveNotBegun more

-- a new walk over the tables of these files
pub record IsNewVersionIter {C : Type 0} (files : List (ℕ × FileMetaData)) (it : VersionIter C)
    : Type 0 where
  -- it goes over these files
  pub over : it.files.now ≡ files
  -- from the first on
  pub first : it.at ≡ 0
  -- and has not begun in a table
  pub not_begun : it.core ≡ None

-- walks over a version's tables, which have not begun
pub record AreVersionIters {C : Type 0} (version : VersionValue C) (iters : List (VersionIter C))
    : Type 0 where
  -- which files each walk goes over
  pub files : files_of_iters iters ≡ files_of_walks version.files
  -- none is at a table yet
  pub not_begun : HaveNotBegun iters

-- ---- a law

-- a comparator orders internal keys by this order of user keys, and is meant for all of them
pub record OrdersInternalKeys {C : Type 0} (order : CmpGhosts (InternalKeyCmp C))
    (cmp : List ℕ → List ℕ → Ordering) (c : C) : Type 0 where
  -- it orders them so
  pub cmp_is : order.cmp (record { 0 = c }) ≡ internal_cmp cmp
  -- each key that has its tag is accepted
  pub accepts : (key : List ℕ) → internal_accepts any_user_key key ≡ true
      → order.accepts (record { 0 = c }) key ≡ true

module _ {E C FP K F : Type 0} (order : CmpGhosts (InternalKeyCmp C)) (env : EnvGhosts E F)
    (cmp : CmpGhosts C) (filters : FilterGhosts FP) (codings : K → Codings) where
  -- The tables of a version are there, by what names and ids mean, in a world whose open tables
  -- match the files.
  pub record AreTablesToWalk (version : VersionValue C) (meaning : Meaning)
      (world : E × ReadTables E C FP K F) (tables : List LiveTable) : Type 0 where
    -- the open tables match the files
    pub matched : AreTablesMatched order env (reading env cmp filters codings world.1) world.0
        world.1.cache.now
    -- the tables are read by what names and ids mean
    pub agrees : Agrees (reading env cmp filters codings world.1).format meaning
    -- in the version's order of user keys
    pub order_is : cmp.cmp version.cmp ≡ cmp.cmp world.1.cmp
    -- they are the tables of the version's files
    pub files_are : IsPermutation (map (λ table. table.file) tables) (new_files_of version)
    -- each level and number is there once
    pub once : IsDistinct is_same_file (map level_file (map (λ table. table.file) tables))
    -- the files are in a version's order
    pub in_order : AreInVersionOrder (cmp.cmp version.cmp) (new_files_of version)
    -- each table is in its file
    pub each : All (HasTable (store_of world.1.cache.now) (cmp.cmp world.1.cmp)
        (IsTableOf (cmp.cmp world.1.cmp) meaning) (files_at env world.0)) tables
    -- what an edit says of each fits, and its number was given
    pub fit : All (λ table. (table.file.level < 7) × (table.file.number < 2 ^ 64)
        × (table.file.size < 2 ^ 64) × (table.file.number < world.1.below)) tables
    -- they are in levels
    pub levels : LevelOrder (cmp.cmp world.1.cmp) tables

  -- Walks are over lists whose entries are layers, the newer first, and together exactly the
  -- entries of tables.
  pub record AreOverLayers (world : E × ReadTables E C FP K F)
      (iters : List (VersionIter C)) (tables : List LiveTable) : Type 0 where
    pub lists : List (List Pair)
    -- one list for each walk
    pub counted : length lists ≡ length iters
    -- which the walk is over
    pub over : (k : ℕ) (it : VersionIter C) (pairs : List Pair)
        → slice_get iters k ≡ Some it → slice_get lists k ≡ Some pairs
        → IsOverTables order env cmp filters codings world it
        (key_order order (record { 0 = world.1.cmp })) pairs
    -- the newer entries of a key first
    pub layered : AreLayered (map entries_of_pairs lists)
    -- each pair is that of its entry
    pub internal : (pairs : List Pair) → Contains lists pairs
        → Each IsInternalPair pairs (entries_of_pairs pairs)
    -- all entries of the tables, and no others
    pub exactly : (entry : Entry) → Contains (entries_of (map entries_of_pairs lists)) entry
        ↔ Contains (table_entries tables) entry

-- so are walks over a version's tables, in each such world
abbrev pub VersionItersAreLayers : {E C FP K F : Type 0} → CmpGhosts (InternalKeyCmp C)
    → EnvGhosts E F → CmpGhosts C → FilterGhosts FP → (K → Codings) → Type 0
VersionItersAreLayers {E} {C} {FP} {K} {F} order env cmp filters codings =
    (version : VersionValue C) (iters : List (VersionIter C))
    → AreVersionIters version iters → (world : E × ReadTables E C FP K F)
    → IsExactOrder (cmp.cmp world.1.cmp)
    → OrdersInternalKeys order (cmp.cmp world.1.cmp) world.1.cmp
    → (meaning : Meaning) (tables : List LiveTable)
    → AreTablesToWalk order env cmp filters codings version meaning world tables
    → AreOverLayers order env cmp filters codings world iters tables
