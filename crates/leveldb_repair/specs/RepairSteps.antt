-- The steps of a repair: the lists of pairs that have all that is found, walks over them, and what
-- is made of these.
use Rattle.std.specs.Prelude.{◌≡◌, ◌⊎◌, ◌↔◌, ◌+◌, ◌<◌, ◌≤◌, ◌^◌, ℕ, List, All, Contains, Result, IfErr, IfOk, IsTrue}
use Rattle.leveldb_base.specs.Entries.{entries_of_pairs}
use Rattle.leveldb_base.specs.History.{AreRising, Entry}
use Rattle.leveldb_base.specs.KeyTypes.{internal_cmp}
use Rattle.leveldb_base.specs.Types.{Pair}
use Rattle.leveldb_base.specs.declared.cmp.Cmp.{Ghosts as CmpGhosts}
use Rattle.leveldb_base.specs.declared.cmp.internal.InternalKeyCmp.{InternalKeyCmp}
use Rattle.leveldb_base.specs.declared.error.Status.{Status}
use Rattle.leveldb_base.specs.declared.error.StatusCode.TheVariants.{Corruption}
use Rattle.leveldb_base.specs.declared.types.LdbIterator.{Ghosts as IteratorGhosts}
use Rattle.leveldb_env.specs.Compressor.{Codings, Decodes}
use Rattle.leveldb_env.specs.Env.{Files}
use Rattle.leveldb_env.specs.declared.env.Env.{Ghosts as EnvGhosts}
use Rattle.leveldb_env.specs.declared.filter.FilterPolicy.{Ghosts as FilterGhosts}
use Rattle.leveldb_iter.specs.Merge.{HaveOnePairAKey, IsMerge, IsPairOf}
use Rattle.leveldb_iter.specs.Walk.{key_order}
use Rattle.leveldb_iter.specs.declared.in_memory.InMemory.{InMemory}
use Rattle.leveldb_iter.specs.declared.walk.Walk.{Ghosts as WalkGhosts}
use Rattle.leveldb_mem.specs.MemTable.{MemTableState}
use Rattle.leveldb_table.specs.TableBlock.{HasLackCode}
use Rattle.leveldb_table.specs.TableLaws.{DecodesMore}
use Rattle.leveldb_files.specs.Stores.Batches.{Each}
use Rattle.leveldb_files.specs.Stores.Format.{Agrees, Format, Meaning}
use Rattle.leveldb_version_set.specs.Repairs.Found.{AreFound, HasNoTableNorLog, IsAnyTable}
use Rattle.leveldb_version_set.specs.Repairs.Repairing.{IsGreatestInFolder}
use Rattle.leveldb_store.specs.Tables.BuildTable.{TableChoices}
use Rattle.leveldb_store.specs.Compactions.Merging.{BearsNewTables, LeavesFiles, MovesLeaveFiles}
use Rattle.leveldb_store.specs.Reading.View.{IsOverMemory}
use Rattle.leveldb_store.specs.declared.opening.listing.ListedFile.{ListedFile}
use Rattle.leveldb_repair.specs.FoundLogs.{HaveEntry, IsInLog}
use Rattle.leveldb_repair.specs.FoundTables.{AreNumberedPairs, IsInTable, IsNewWalkOver, IsTablePair, entries_of_lists}
use Rattle.leveldb_repair.specs.FoundWalk.{IsWalkOver}
use Rattle.leveldb_repair.specs.FoundWalkTable.{FailsBetweenOr, MakesFrom}
use Rattle.leveldb_repair.specs.LookOver.{AreLookedOver, IsOverMerges}
use Rattle.leveldb_repair.specs.RepairStore.{IsFoundPair, WhyNotBegun}
use Rattle.leveldb_repair.specs.FoundWalkOf.{FoundWalk}
use Rattle.leveldb_repair.specs.declared.found_walk.files.ReadFiles.{ReadFiles}
use Rattle.leveldb_repair.specs.declared.found_walk.table.FoundTable.{FoundTable}
use Rattle.leveldb_repair.specs.declared.look_over.LookedOver.{LookedOver}
use Rattle.leveldb_repair.specs.declared.repair_store.find.Found.{Found}

-- ---- lists of pairs

-- A table or a log is in the folder, in whose names and manifests this is the greatest number.
pub record IsToRepair (store : List ℕ) (files : Files) (taken : ℕ) : Type 0 where
  pub taken_is : IsGreatestInFolder store files taken
  pub some : HasNoTableNorLog store files → ⊥

module _ (store : List ℕ) (format : Format) (files : Files) where
  -- the lists have all that is found of a folder's files
  pub record HaveFound (lists : List (List Pair)) : Type 0 where
    -- the pairs are those of entries, with numbers from 1 on
    pub numbered : All AreNumberedPairs lists
    -- each is one of a table or of a log
    pub pairs : (meaning : Meaning) → Agrees format meaning → (pair : Pair) → IsPairOf lists pair
        → IsFoundPair store files (IsAnyTable format.order meaning) pair
    -- and the entries are exactly those that are found
    pub found : (more : Meaning) → DecodesMore (Decodes format.codings) (Decodes more.codings)
        → AreFound store (IsAnyTable format.order more) files (entries_of_lists lists)

  -- the pairs are all that is found, each once, and were looked over with this result
  pub record AreAllFound (pairs : List Pair) (found : LookedOver) : Type 0 where
    pub looked : AreLookedOver pairs found
    pub numbered : AreNumberedPairs pairs
    pub rising : AreRising (internal_cmp format.order) pairs
    pub found_is : (more : Meaning) → DecodesMore (Decodes format.codings) (Decodes more.codings)
        → AreFound store (IsAnyTable format.order more) files (entries_of_pairs pairs)

-- ---- the error of a clash

-- What a call says that may give a status of damage another text: no file changes.
pub record NamesClash {E F : Type 0} (env : EnvGhosts E F) (from : E) (status named : Status)
    (to : E) : Type 0 where
  pub leaves : LeavesFiles env from to
  -- it is the status, or has its code
  pub is : (named ≡ status) ⊎ ((status.code ≡ Corruption) × (named.code ≡ Corruption))

-- ---- a walk over them

module _ {C FP : Type 0} {order : CmpGhosts C} {filters : FilterGhosts FP}
    (choices : TableChoices order filters) {E F T W : Type 0} (env : EnvGhosts E F)
    (store : List ℕ) (taken : ℕ) (walk : WalkGhosts W E T) (start : E × T) (it : W) where
  -- The walk is over these lists merged. A move fails out of memory or at a failure of the device,
  -- or since the lists have two pairs of one key.
  pub record IsOverLists (lists : List (List Pair)) : Type 0 where
    pub pairs : List Pair
    pub merge : IsMerge (key_order order choices.cmp) lists pairs
    pub over : IsOverMerges walk start it (key_order order choices.cmp) lists
    pub fails : (later : E × T) (status : Status) → walk.fails start it later status
        → FailsBetweenOr env ((status.code ≡ Corruption)
        × (HaveOnePairAKey (key_order order choices.cmp) lists → ⊥)) start.0 later.0 status

  -- A walk over all that is found of the store's files, which it changes not, and which tables of
  -- numbers from the second one above the greatest on leave where it is.
  pub record IsOverFound : Type 0 where
    pub moves : MovesLeaveFiles env walk
    pub bears : (at : E × T) → walk.keeps start at
        → BearsNewTables env walk store (taken + 2) at
    -- whatever it reads, a move fails out of memory, at a failure of the device, or with the code
    -- of a block that is lacking
    pub fails : (later : E × T) (status : Status) → walk.fails start it later status
        → FailsBetweenOr env (HasLackCode env choices.format.codings status) start.0 later.0
        status
    pub over : IsTrue env.models_disk
        → IsToRepair store (env.observed start.0).disk.files taken × (lists : List (List Pair))
        × HaveFound store choices.format (env.observed start.0).disk.files lists
        × IsOverLists lists

  -- One over pairs that are all that was found of the files of an earlier environment, each once,
  -- and were looked over since. A move fails out of memory or at a failure of the device alone,
  -- where a disk is modelled.
  pub record IsOverAll (from : E) (found : LookedOver) : Type 0 where
    pub moves : MovesLeaveFiles env walk
    pub bears : BearsNewTables env walk store (taken + 2) start
    pub fails : (later : E × T) (status : Status) → walk.fails start it later status
        → FailsBetweenOr env (HasLackCode env choices.format.codings status
        × (IsTrue env.models_disk → ⊥)) from later.0 status
    -- the greatest number has 64 bits
    pub fits : found.last < 2 ^ 64
    pub over : IsTrue env.models_disk
        → IsToRepair store (env.observed from).disk.files taken × (pairs : List Pair)
        × walk.over start it (key_order order choices.cmp) pairs
        × AreAllFound store choices.format (env.observed from).disk.files pairs found

-- ---- the children of a merge

module _ {E C K M F FP : Type 0} {order : CmpGhosts (InternalKeyCmp C)} {filters : FilterGhosts FP}
    (choices : TableChoices order filters) (env : EnvGhosts E F) (codings : K → Codings)
    (iterator : IteratorGhosts M) where
  -- Walks over all that is found, which no table that is made from the second number above the
  -- greatest on changes.
  pub record AreOverFound (store : List ℕ) (taken : ℕ) (world : E × ReadFiles K)
      (children : List (FoundWalk E C M F)) : Type 0 where
    pub makes : MakesFrom store (taken + 2) world
    pub codings_are : codings world.1.compressors.now ≡ choices.format.codings
    -- those over memory don't fail
    pub never : (it after : M) (status : Status) → iterator.fails it after status → ⊥
    pub over : IsTrue env.models_disk
        → IsToRepair store (env.observed world.0).disk.files taken × (lists : List (List Pair))
        × HaveFound store choices.format (env.observed world.0).disk.files lists
        × Each (λ it pairs. IsWalkOver order env codings iterator world it
        (key_order order choices.cmp) pairs) children lists

-- these are walks over the memtables, each in its order of users' keys
abbrev pub AreOverMemory : {C M : Type 0} → IteratorGhosts M → CmpGhosts C
    → List (MemTableState C) → List (InMemory M) → Type 0
AreOverMemory {C} iterator cmp logs memory = Each (λ it (table : MemTableState C).
    IsOverMemory iterator (cmp.cmp table.cmp) it table.kept.entries) memory logs

-- ---- finding

module _ {E C K F FP : Type 0} {order : CmpGhosts (InternalKeyCmp C)} {filters : FilterGhosts FP}
    (choices : TableChoices order filters) (env : EnvGhosts E F) (cmp : CmpGhosts C)
    (codings : K → Codings) (compressors : K) (compares : C) (store : List ℕ)
    (listed : List ListedFile) (files : Files) where
  -- Walks are over the pairs of all readable tables of the folder, and memtables have the entries
  -- of its logs.
  pub record AreFoundIn (to : E) (walks : List (FoundTable E C F)) (logs : List (MemTableState C))
      : Type 0 where
    pub lists : List (List Pair)
    pub over : Each (IsNewWalkOver order env cmp codings compressors compares store listed to) walks
        lists
    pub numbered : All AreNumberedPairs lists
    pub pairs : (meaning : Meaning) → Agrees choices.format meaning → (pair : Pair)
        → IsPairOf lists pair
        → IsTablePair store files (IsAnyTable choices.format.order meaning) pair
    pub in_tables : (more : Meaning)
        → DecodesMore (Decodes choices.format.codings) (Decodes more.codings) → (entry : Entry)
        → Contains (entries_of_lists lists) entry
        ↔ IsInTable store files (IsAnyTable choices.format.order more) entry
    pub in_logs : (entry : Entry) → HaveEntry logs entry ↔ IsInLog store files entry

module _ {E C K F FP : Type 0} {order : CmpGhosts (InternalKeyCmp C)} {filters : FilterGhosts FP}
    (choices : TableChoices order filters) (env : EnvGhosts E F) (cmp : CmpGhosts C)
    (codings : K → Codings) (compressors : K) (compares : C) (store : List ℕ) where
  -- What is found of the files of the folder: the greatest number of a name or in a manifest, walks
  -- over the tables, and memtables, in this order of users' keys.
  pub record HasFound (from to : E) (found : Found E C F) : Type 0 where
    pub listed : List ListedFile
    pub above : All (λ (file : ListedFile). file.number ≤ found.greatest) listed
    pub ordered : All (λ (table : MemTableState C). table.cmp ≡ compares) found.logs.items
    pub repairs : IsTrue env.models_disk
        → IsToRepair store (env.observed from).disk.files found.greatest
    pub are : IsTrue env.models_disk → AreFoundIn choices env cmp codings compressors compares store
        listed (env.observed from).disk.files to found.tables.items found.logs.items

  -- what finding all returns and leaves
  pub record FindsAll (from : E) (result : Result (Found E C F) Status) (to : E) : Type 0 where
    -- no file changes, at any moment, and no lock does
    pub leaves : LeavesFiles env from to
    pub ok : IfOk result (HasFound from to)
    pub cause : IfErr result (λ status.
        FailsBetweenOr env (WhyNotBegun env choices.format store from status) from to status)
