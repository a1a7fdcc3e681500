-- A store that is open: what is in memory of it.
use Rattle.std.specs.Prelude.{◌≡◌, ◌≢◌, ◌<◌, ℕ, Bool, List, Option, false, All, IsTrue, map}
use Rattle.std.specs.List.{IsDistinct}
use Rattle.std.specs.declared.cmp.Ordering.{Ordering}
use Rattle.leveldb_base.specs.declared.types.FileType.TheVariants.{Descriptor}
use Rattle.leveldb_mem.specs.Log.Writer.{WriterState}
use Rattle.leveldb_mem.specs.MemTable.{Kept}
use Rattle.leveldb_files.specs.Stores.Paths.{IsFilePath}
use Rattle.leveldb_version_set.specs.Compactions.Inputs.{AreOrdered}
use Rattle.leveldb_version.specs.Versions.Search.{AreDisjointLevels}
use Rattle.leveldb_version.specs.Versions.Version.{VersionValue}
use Rattle.leveldb_files.specs.Edits.Edit.{NewFile}
use Rattle.leveldb_files.specs.Edits.VersionSet.{is_same_file, level_file}
use Rattle.leveldb_version_set.specs.Sets.VersionSetValue.{OpenManifest, VersionSetValue, broken, in_use}

-- a log that batches are appended to
pub record OpenLogValue : Type 0 where
  -- its number
  pub number : ℕ
  -- the writer of its records
  pub writer : WriterState

-- an open store
pub record OpenStoreValue (C : Type 0) : Type 0 where
  -- the comparator of user keys
  pub cmp : C
  -- the version set, and its live files by levels, with the seeks that each may take
  pub set : VersionSetValue
  pub current : VersionValue C
  -- the log to which batches are appended
  pub log : OpenLogValue
  -- the memtable of that log, and the immutable one, of the logs before it, which is to be a table
  pub mem : Kept
  pub imm : Option Kept
  -- the greatest number of the files that are kept, if some are, since one of them is damaged
  pub kept_to : Option ℕ

-- no call on its manifest or its log has failed
pub record IsUnbroken {C : Type 0} (value : OpenStoreValue C) : Type 0 where
  pub manifest : value.set.manifest ≢ broken
  pub log : value.log.writer.broken ≡ false

-- the manifest to which edits are appended, if one is in use, is in the store's folder
abbrev pub HasOwnManifest : VersionSetValue → Type 0
HasOwnManifest set = (manifest : OpenManifest) → set.manifest ≡ in_use manifest
    → IsFilePath Descriptor set.store manifest.path

-- files of a set: those of each level from 1 on are apart, each is listed once, none is turned
-- round, and where the disk is modelled there are seven levels
pub record AreInLevels (models_disk : Bool) (order : List ℕ → List ℕ → Ordering)
    (files : List NewFile) : Type 0 where
  pub apart : AreDisjointLevels order files
  pub once : IsDistinct is_same_file (map level_file files)
  pub ordered : AreOrdered order files
  pub seven : IsTrue models_disk → All (λ (file : NewFile). file.level < 7) files

-- the set has given the number of each of these files
abbrev pub AreNumbersGiven : VersionSetValue → List NewFile → Type 0
AreNumbersGiven set files = All (λ (file : NewFile). file.number < set.next_file) files
