-- What a repair of the files in a store's folder leaves and returns: a store of all that was found,
-- or the files as they were; what they are meanwhile, and why it fails.
use Rattle.std.specs.Prelude.{◌≡◌, ◌≢◌, ◌⊎◌, ◌≤◌, ◌+◌, ◌^◌, ℕ, List, Contains, length, Result, None, Some, IfErr, OnOk, IsTrue}
use Rattle.leveldb_base.specs.Entries.{entries_of_pairs, entry_of_pair, internal_pair}
use Rattle.leveldb_base.specs.History.{AreRising, Entry}
use Rattle.leveldb_base.specs.KeyTypes.{internal_cmp}
use Rattle.leveldb_base.specs.Names.{IsFileName}
use Rattle.leveldb_base.specs.Types.{Pair}
use Rattle.leveldb_base.specs.declared.cmp.Cmp.{Ghosts as CmpGhosts}
use Rattle.leveldb_base.specs.declared.error.Status.{Status}
use Rattle.leveldb_base.specs.declared.error.StatusCode.TheVariants.{Corruption, InvalidArgument, NotSupported}
use Rattle.leveldb_base.specs.declared.types.FileType.TheVariants.{Table}
use Rattle.leveldb_env.specs.Compressor.{Decodes}
use Rattle.leveldb_env.specs.Env.{File, Files, FilesUnchanged, Run, SameLocks, bytes_of, in_folder}
use Rattle.leveldb_env.specs.declared.env.Env.{Ghosts as EnvGhosts}
use Rattle.leveldb_env.specs.declared.filter.FilterPolicy.{Ghosts as FilterGhosts}
use Rattle.leveldb_table.specs.ReadableTable.{HasUndecodedBlock}
use Rattle.leveldb_table.specs.TableBlock.{HasLackCode}
use Rattle.leveldb_table.specs.TableLaws.{DecodesMore}
use Rattle.leveldb_files.specs.Stores.Format.{Agrees, Format, IsTableOf, Meaning}
use Rattle.leveldb_version_set.specs.Repairs.Found.{AreFound, HasNoTableNorLog, IsAnyTable, IsFound}
use Rattle.leveldb_files.specs.Levels.Levels.{LiveTable, table_entries}
use Rattle.leveldb_files.specs.Stores.Paths.{current_path}
use Rattle.leveldb_version_set.specs.Repairs.Repairing.{IsGreatestInFolder, IsRepairedStore, IsAmidRepair}
use Rattle.leveldb_store.specs.Tables.BuildTable.{AreSomeNotBuilt, TableChoices}
use Rattle.leveldb_store.specs.Tables.TableParts.{HaveTableParts}
use Rattle.leveldb_store.specs.Openings.Listing.{MatchesName}
use Rattle.leveldb_store.specs.Openings.OpensStore.{IsBareFolder}
use Rattle.leveldb_store.specs.Keeping.SoundCall.{BytesAreAppended}
use Rattle.leveldb_store.specs.declared.opening.listing.ListedFile.{ListedFile}
use Rattle.leveldb_repair.specs.FoundLogs.{HasLargeBatch, IsInLog}
use Rattle.leveldb_repair.specs.FoundTables.{IsTablePair}
use Rattle.leveldb_repair.specs.FoundWalkTable.{FailsBetweenOr}

-- ---- what it makes

-- `store` is the store's path; the format is that of the options, and the meaning that of the names
-- and ids in the files.
module _ (store : List ℕ) (format : Format) (meaning : Meaning) (old : Files) where
  -- The new files are what a repair of the old ones left: a store of tables that have exactly the
  -- entries that were found.
  pub record HoldsAllFound (new : Files) : Type 0 where
    -- the greatest number that a name in the folder had, or that a manifest there named
    pub taken : ℕ
    -- the number after the last one that a table took
    pub next : ℕ
    -- the greatest number of an entry, or 0
    pub last : ℕ
    pub tables : List LiveTable
    -- no file has changed but those of a repair
    pub repairing : IsAmidRepair store taken next old new
    -- they are a store of the tables
    pub repaired : IsRepairedStore store format.order (IsTableOf format.order meaning)
        format.order_name (taken + 1) next last tables new
    -- No entry is left out, and none came, whatever texts are decoded beside those that the
    -- format's compressors decode.
    pub found : (more : Meaning) → DecodesMore (Decodes format.codings) (Decodes more.codings)
        → AreFound store (IsAnyTable format.order more) old (table_entries tables)

  -- A repair of the old files, which have a table or a log, has come to these: no file has changed
  -- but those of a repair, and `CURRENT` is as it was, or all is done.
  pub record HoldsOldOrAllFound (now : Files) : Type 0 where
    pub taken : ℕ
    pub next : ℕ
    pub repairing : IsAmidRepair store taken next old now
    pub some : HasNoTableNorLog store old → ⊥
    pub current : (now (current_path store) ≡ old (current_path store)) ⊎ HoldsAllFound now

  -- the files at a moment of a repair: as they were, or as it has come to them
  abbrev pub IsMomentOfRepair : Files → Type 0
  IsMomentOfRepair now = (now ≡ old) ⊎ HoldsOldOrAllFound now

-- ---- what there is of its tables

module _ {C FP : Type 0} {order : CmpGhosts C} {filters : FilterGhosts FP}
    (choices : TableChoices order filters) (store : List ℕ) (meaning : Meaning) (old : Files) where
  -- the pair's entry is found of the old files
  abbrev pub HasFoundEntry : Pair → Type 0
  HasFoundEntry pair =
      IsFound store (IsAnyTable choices.format.order meaning) old (entry_of_pair pair)

  -- A repair of the old files has come to these, ended or not: no file has changed but those of a
  -- repair, and each new table is a part of one whose entries are all found.
  pub record IsPartlyRepaired (now : Files) : Type 0 where
    pub taken : ℕ
    pub next : ℕ
    pub repairing : IsAmidRepair store taken next old now
    pub parts : HaveTableParts choices HasFoundEntry store (taken + 2) next old now

  -- the files at a moment of a repair: as they were, or as it has come to them
  abbrev pub IsOldOrPartlyRepaired : Files → Type 0
  IsOldOrPartlyRepaired now = (now ≡ old) ⊎ IsPartlyRepaired now

-- ---- why nothing is repaired

module _ (store : List ℕ) (files : Files) where
  -- Two entries that are found have one key and one number, and differ: one is a deletion, or their
  -- values differ.
  pub record HasClash (IsTableOf : List ℕ → List Pair → Type 0) : Type 0 where
    pub one : Entry
    pub other : Entry
    pub one_found : IsFound store IsTableOf files one
    pub other_found : IsFound store IsTableOf files other
    pub key : one.key ≡ other.key
    pub sequence : one.sequence ≡ other.sequence
    pub differ : one.value ≢ other.value

  -- a readable table of the folder has the pair, or it is that of a log's entry
  abbrev pub IsFoundPair : (List ℕ → List Pair → Type 0) → Pair → Type 0
  IsFoundPair IsTableOf pair = IsTablePair store files IsTableOf pair
      ⊎ ((entry : Entry) × IsInLog store files entry × (internal_pair entry ≡ pair))

  -- Two pairs that are found are one deletion, and have different bytes in place of a value, which
  -- no reader looks at.
  pub record HasUnlikeDeletions (IsTableOf : List ℕ → List Pair → Type 0) : Type 0 where
    pub one : Pair
    pub other : Pair
    pub one_found : IsFoundPair IsTableOf one
    pub other_found : IsFoundPair IsTableOf other
    pub same : entry_of_pair one ≡ entry_of_pair other
    pub deletes : (entry_of_pair one).value ≡ None
    pub differ : one.1 ≢ other.1

  -- keys rise, and the entries are found
  pub record ArePairsFound (format : Format) (pairs : List Pair) : Type 0 where
    pub rising : AreRising (internal_cmp format.order) pairs
    pub found : (meaning : Meaning) → Agrees format meaning → (entry : Entry)
        → Contains (entries_of_pairs pairs) entry
        → IsFound store (IsAnyTable format.order meaning) files entry

  -- So many pairs are found that 64 bits don't have a number for a table of each, and three more,
  -- above those of all names and manifests: the manifest's, the next log's, and one after it.
  pub record AreTooManyFound (format : Format) : Type 0 where
    pub taken : ℕ
    pub taken_is : IsGreatestInFolder store files taken
    pub pairs : List Pair
    pub found : ArePairsFound format pairs
    pub too_many : 2 ^ 64 ≤ taken + 3 + length pairs

  -- a table of the folder has a block that isn't decoded, and the status says why
  abbrev pub HasUndecodedTable : Format → Status → Type 0
  HasUndecodedTable format status = (name : List ℕ) × (n : ℕ) × IsFileName name n Table
      × (file : File) × (files (in_folder store name) ≡ Some file)
      × HasUndecodedBlock format.codings (internal_cmp format.order) (bytes_of file) status

  -- a log of the folder has a batch that is too large for a memtable of its own
  abbrev pub HasLargeBatchInLog : Type 0
  HasLargeBatchInLog = (file : ListedFile) × MatchesName file × HasLargeBatch store files file

  -- 64 bits don't have three numbers above those of all names and manifests: the manifest's, the
  -- next log's, and one after it
  abbrev pub HasTooFewNumbers : Type 0
  HasTooFewNumbers = (taken : ℕ) × IsGreatestInFolder store files taken × (2 ^ 64 ≤ taken + 3)

module _ {E F : Type 0} (env : EnvGhosts E F) (format : Format) (store : List ℕ) (from : E) where
  -- Why the files of a folder aren't repaired: neither a table nor a log is there; two found
  -- entries clash, or two pairs of one deletion; a batch is too large for memory, or the numbers of
  -- files are used up; or a block's id has no compressor, or that one fails for it. Where no disk
  -- is modelled a file that is listed may be missing, too, or lack a block.
  abbrev pub WhyNotRepaired : Status → Type 0
  WhyNotRepaired status =
      let where_modelled : (Files → Type 0) → Type 0
      = λ P. IsTrue env.models_disk → P (env.observed from).disk.files in
      ((status.code ≡ InvalidArgument) × where_modelled (HasNoTableNorLog store))
      ⊎ ((status.code ≡ Corruption) × where_modelled (λ files. (meaning : Meaning)
      → Agrees format meaning → HasClash store files (IsAnyTable format.order meaning)
      ⊎ HasUnlikeDeletions store files (IsAnyTable format.order meaning)))
      ⊎ ((status.code ≡ NotSupported) × where_modelled (λ files.
      HasLargeBatchInLog store files ⊎ HasTooFewNumbers store files))
      ⊎ (HasLackCode env format.codings status × where_modelled (λ files.
      HasUndecodedTable store files format status))

  -- Why no repair is begun: the folder has no file at all, or its files aren't repaired.
  abbrev pub WhyNotBegun : Status → Type 0
  WhyNotBegun status = ((status.code ≡ Corruption) × (IsTrue env.models_disk
      → IsBareFolder store (env.observed from).disk.files)) ⊎ WhyNotRepaired status

module _ {C FP : Type 0} {order : CmpGhosts C} {filters : FilterGhosts FP}
    (choices : TableChoices order filters) {E F : Type 0} (env : EnvGhosts E F) where
  module _ (store : List ℕ) (from : E) where
    -- Why a repair that was begun isn't ended: no table is built of some pairs, whose entries are
    -- found; or the numbers of files are used up, where so many pairs are found. Where no disk is
    -- modelled a file that was there may be missing or lack a block.
    abbrev pub WhyNotEnded : Status → Type 0
    WhyNotEnded status =
        ((pairs : List Pair) × (IsTrue env.models_disk
        → ArePairsFound store (env.observed from).disk.files choices.format pairs)
        × AreSomeNotBuilt choices pairs status)
        ⊎ ((status.code ≡ NotSupported) × (IsTrue env.models_disk
        → AreTooManyFound store (env.observed from).disk.files choices.format))
        ⊎ (HasLackCode env choices.format.codings status × (IsTrue env.models_disk → ⊥))

    -- What a repair of the files in the store's folder returns and leaves.
    pub record RepairsStore (result : Result (Unit {0}) Status) (to : E) : Type 0 where
      -- the files are what it left, and at each moment no file had changed but its own
      pub ok : OnOk result (IsTrue env.models_disk → (meaning : Meaning)
          → Agrees choices.format meaning
          → (it : HoldsAllFound store choices.format meaning (env.observed from).disk.files
          (env.observed to).disk.files)
          × Run (IsAmidRepair store it.taken it.next (env.observed from).disk.files)
          (env.observed from) (env.observed to))
      -- now and at each moment the files are those of a moment of it, also where it fails
      pub moments : IsTrue env.models_disk → (meaning : Meaning) → Agrees choices.format meaning
          → Run (IsMomentOfRepair store choices.format meaning (env.observed from).disk.files)
          (env.observed from) (env.observed to)
      -- and each new table is a part of one of found entries, so that another repair finds the same
      pub parts : IsTrue env.models_disk → (meaning : Meaning) → Agrees choices.format meaning
          → Run (IsOldOrPartlyRepaired choices store meaning (env.observed from).disk.files)
          (env.observed from) (env.observed to)
      -- what was appended to files are bytes still
      pub bytes : BytesAreAppended env from to
      pub locks : SameLocks env.models_disk (env.observed from) (env.observed to)
      pub later : env.failures from ≤ env.failures to
      -- It fails out of memory or at a failure of the device; or it wasn't begun, and no file
      -- changed at any moment; or it wasn't ended.
      pub cause : IfErr result (λ status. FailsBetweenOr env
          ((WhyNotBegun env choices.format store from status × (IsTrue env.models_disk
          → Run (FilesUnchanged (env.observed from).disk.files) (env.observed from)
          (env.observed to))) ⊎ WhyNotEnded status) from to status)
