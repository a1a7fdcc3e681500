-- What a repair makes of the files in a store's folder, and what it leaves as it was: what the
-- folder holds meanwhile and then, and what is found in it. The statements here are those that the
-- contracts of module `laws::repairing` name.
use Rattle.std.specs.Prelude.{◌≡◌, ◌≢◌, ◌⊎◌, ◌<◌, ◌≤◌, ◌+◌, ◌-◌, ◌^◌, ◌↔◌, false, ℕ, List, [], ◌∷◌, flat_map, map, None, Some, Contains}
use Rattle.std.specs.Option.{option_map, unwrap_or}
use Rattle.std.specs.Str.{bytes_eq}
use Rattle.std.specs.declared.cmp.Ordering.{Ordering}
use Rattle.leveldb_base.specs.History.{AreAbove, Entry, SameView, greatest}
use Rattle.leveldb_base.specs.Names.{IsFileName, file_name}
use Rattle.leveldb_base.specs.Types.{Pair}
use Rattle.leveldb_base.specs.declared.types.FileType.{FileType}
use Rattle.leveldb_base.specs.declared.types.FileType.TheVariants.{Descriptor, Log, Table}
use Rattle.leveldb_env.specs.Env.{File, Files, FilesCrashTo, bytes_of, in_folder, kept_file, or_empty}
use Rattle.leveldb_mem.specs.WriteBatch.{Batch}
use Rattle.leveldb_version_set.specs.Compactions.Compaction.{AreKnownByNumber, files_of_tables}
use Rattle.leveldb_files.specs.Stores.Contents.{Contents, Store, made}
use Rattle.leveldb_files.specs.Edits.Current.{current_text}
use Rattle.leveldb_version_set.specs.Sets.CurrentFile.{temp_path}
use Rattle.leveldb_files.specs.Stores.Format.{IsTableOf, Meaning}
use Rattle.leveldb_version_set.specs.Repairs.Found.{AreFound, HasNoTableNorLog, IsAnyTable, IsFound, IsFoundLog, IsReadable}
use Rattle.leveldb_files.specs.Levels.Levels.{AreDisjoint, LiveTable, table_entries}
use Rattle.leveldb_version_set.specs.Sets.NewManifest.{MakingManifest, manifest_bytes, with_manifest}
use Rattle.leveldb_files.specs.Stores.Paths.{current_path, lock_path, manifest_path, table_path}
use Rattle.leveldb_files.specs.Stores.Store.{HasTable, IsManaged, IsManifest, LogIsReplayed, SameEntries}
use Rattle.leveldb_files.specs.Steps.StoreLaws.{StoreHolds}
use Rattle.leveldb_files.specs.Steps.StoreStays.{HasKeptEdits}
use Rattle.leveldb_files.specs.Steps.StoreSteps.{IsAboveLogs, IsAllKept, IsKept, KeepsHistory}
use Rattle.leveldb_files.specs.Edits.Edit.{Edit, IsEncodable, NewFile, edit_bytes, empty_edit}
use Rattle.leveldb_files.specs.Edits.VersionSet.{FileSet, level_file, live_after}
use Rattle.leveldb_version_set.specs.Engines.Writing.{NumbersAreBelow}

-- ---- the manifest

-- the one edit of a repair's manifest: the comparator's name, the next number for the next log, no
-- previous log, the last sequence number, and the tables
abbrev pub repaired_edit : List ℕ → ℕ → ℕ → List NewFile → Edit
repaired_edit comparator next last added = record empty_edit {
  comparator = Some comparator;
  log_number = Some next;
  previous_log = Some 0;
  next_file = Some (next + 1);
  last_sequence = Some last;
  added = added;
}

-- the bytes of its manifest
abbrev pub repaired_manifest : List ℕ → ℕ → ℕ → List NewFile → List ℕ
repaired_manifest comparator next last added =
    manifest_bytes (edit_bytes (repaired_edit comparator next last added) ∷ [])

-- the contents of a repaired store: the entries of its tables, up to the last sequence number
abbrev pub repaired_contents : List ℕ → List LiveTable → ℕ → Contents
repaired_contents comparator tables last = record {
  store = made (Some comparator);
  entries = table_entries tables;
  last = last;
}

-- ---- numbers that are taken

-- the numbers that an edit names: those of its logs, the one before the next file's, and those of
-- the files that it adds; 0 where it sets none
abbrev pub numbers_in : Edit → List ℕ
numbers_in edit =
    unwrap_or edit.log_number 0 ∷ unwrap_or edit.previous_log 0
    ∷ (unwrap_or edit.next_file 0 - 1) ∷ map (λ file. file.number) edit.added

-- the file is a manifest that can be read, an edit of which names the number
abbrev pub IsNumberIn : File → ℕ → Type 0
IsNumberIn file n =
    (edits : List Edit) × IsManifest file edits × Contains (flat_map numbers_in edits) n

-- a name in the folder has the number
abbrev pub IsNumberOfName : List ℕ → Files → ℕ → Type 0
IsNumberOfName store files n = (name : List ℕ) × (kind : FileType) × IsFileName name n kind
    × (files (in_folder store name) ≢ None)

-- a manifest in the folder names it
abbrev pub IsNumberInManifest : List ℕ → Files → ℕ → Type 0
IsNumberInManifest store files n = (name : List ℕ) × (number : ℕ)
    × IsFileName name number Descriptor × (file : File)
    × (files (in_folder store name) ≡ Some file) × IsNumberIn file n

-- this is the greatest number that a name in the folder has or a manifest there names, or 0 where
-- there is none
pub record IsGreatestInFolder (store : List ℕ) (files : Files) (number : ℕ) : Type 0 where
  pub below : NumbersAreBelow store files (number + 1)
  pub named : (n : ℕ) → IsNumberInManifest store files n → n ≤ number
  pub is : (number ≡ 0) ⊎ IsNumberOfName store files number ⊎ IsNumberInManifest store files number

-- ---- while it is made

-- A repair of the old files is being made, in whose names and manifests `taken` is the greatest
-- number. No file has changed but the manifest of the number after it, with its temporary file, the
-- tables of the numbers after that and below the next, `CURRENT` and the lock's file.
pub record IsAmidRepair (store : List ℕ) (taken next : ℕ) (old now : Files) : Type 0 where
  pub taken_is : IsGreatestInFolder store old taken
  pub others : (path : List ℕ)
      → ((n : ℕ) → taken + 2 ≤ n → n < next → bytes_eq (table_path store n) path ≡ false)
      → bytes_eq (manifest_path store (taken + 1)) path ≡ false
      → bytes_eq (temp_path store (taken + 1)) path ≡ false
      → bytes_eq (current_path store) path ≡ false → bytes_eq (lock_path store) path ≡ false
      → now path ≡ old path
  -- `CURRENT` is as it was, or it is kept and names that manifest
  pub current : (now (current_path store) ≡ old (current_path store))
      ⊎ (now (current_path store) ≡ Some (kept_file (current_text (taken + 1))))
  -- the lock's file is as it was, or was made empty where it was missing
  pub lock : (now (lock_path store) ≡ old (lock_path store))
      ⊎ (now (lock_path store) ≡ or_empty (old (lock_path store)))
  -- the next number is past the manifest's, and has 64 bits
  pub begun : taken + 2 ≤ next
  pub fits : next < 2 ^ 64

-- making the manifest is a part of the repair
abbrev pub ManifestsGoOn : List ℕ → Type 0
ManifestsGoOn store = (taken next : ℕ) (bytes : List ℕ) (old files now : Files)
    → IsAmidRepair store taken next old files
    → MakingManifest store (taken + 1) bytes files now
    → IsAmidRepair store taken next old now

module _ (store : List ℕ) (cmp : List ℕ → List ℕ → Ordering)
    (IsTableOf : List ℕ → List Pair → Type 0) where
  -- ---- what it left

  -- Tables that can be the only ones of a store, all in level 1: they are there and kept, each is
  -- known by its number, and no two have a user key in common.
  pub record AreLevelOne (files : Files) (tables : List LiveTable) : Type 0 where
    pub each : (table : LiveTable) → Contains tables table
        → HasTable store cmp IsTableOf files table
        × IsKept (files (table_path store table.file.number)) × (table.file.level ≡ 1)
        × (table.file.number < 2 ^ 64)
    pub known : AreKnownByNumber tables
    pub apart : (a b : LiveTable) → Contains tables a → Contains tables b
        → a.file.number ≢ b.file.number → AreDisjoint cmp a.file b.file

  -- The tables of a repair are a store's, all in level 1. They have all numbers between the
  -- manifest's and the next one, and no others: the next one is one past the last that was given.
  pub record HasRepairedTables (manifest next last : ℕ) (tables : List LiveTable) (files : Files)
      : Type 0 where
    pub level_one : AreLevelOne files tables
    pub past : manifest < next
    pub numbers : (n : ℕ) → Contains (map (λ table. table.file.number) tables) n
        ↔ ((manifest < n) × (n < next))
    -- the last sequence number is the greatest of their entries, or 0, and theirs are from 1 on
    pub last_is : last ≡ greatest (table_entries tables)
    pub numbered : AreAbove 0 (table_entries tables)
    -- no log that is there has the next number or a greater one
    pub above_logs : IsAboveLogs store files next

  -- The files are what a repair left: these tables, and a kept manifest of this number, which
  -- `CURRENT` names and whose one edit adds them.
  pub record IsRepairedStore (comparator : List ℕ) (manifest next last : ℕ)
      (tables : List LiveTable) (files : Files) : Type 0 where
    pub edits : HasKeptEdits store files
        (repaired_edit comparator next last (files_of_tables tables) ∷ [])
    pub manifest_is : edits.has_edits.number ≡ manifest
    pub has : HasRepairedTables manifest next last tables files

  -- ---- laws of it

  -- all that is read of what a repair left is kept, and its contents are the tables' entries
  abbrev pub RepairedIsKept : Type 0
  RepairedIsKept = (comparator : List ℕ) (manifest next last : ℕ) (tables : List LiveTable)
      (files : Files) → IsRepairedStore comparator manifest next last tables files
      → IsAllKept store cmp IsTableOf files (repaired_contents comparator tables last)

  -- Once the tables are there a manifest of this edit makes them a repaired store: at each moment
  -- `CURRENT` is as it was, or the files are what a repair leaves, and so they are then.
  pub record ManifestRepairs (comparator : List ℕ) (manifest next last : ℕ)
      (tables : List LiveTable) (files : Files) : Type 0 where
    pub meanwhile : (now : Files)
        → MakingManifest store manifest
        (repaired_manifest comparator next last (files_of_tables tables)) files now
        → (now (current_path store) ≡ files (current_path store))
        ⊎ IsRepairedStore comparator manifest next last tables now
    pub after : IsRepairedStore comparator manifest next last tables
        (with_manifest store manifest
        (repaired_manifest comparator next last (files_of_tables tables)) files)

  -- every such manifest does
  abbrev pub ManifestsRepair : Type 0
  ManifestsRepair = (comparator : List ℕ) (manifest next last : ℕ) (tables : List LiveTable)
      (files : Files) → manifest < 2 ^ 64 → HasRepairedTables manifest next last tables files
      → IsEncodable (repaired_edit comparator next last (files_of_tables tables))
      → ManifestRepairs comparator manifest next last tables files

  module _ (allowed : Store → Type 0) where
    -- what a repair left holds the set of its tables' entries, in whatever list, as one batch that
    -- is durable, and no number past theirs
    abbrev pub RepairedHolds : Type 0
    RepairedHolds = (comparator : List ℕ) (manifest next last : ℕ) (tables : List LiveTable)
        (files : Files) → IsRepairedStore comparator manifest next last tables files
        → allowed (made (Some comparator)) → (found : List Entry)
        → SameEntries (table_entries tables) found
        → StoreHolds store cmp IsTableOf allowed files (found ∷ []) (greatest found) 1 None

    -- while `CURRENT` is as it was each history is kept, where a table or a log was there
    abbrev pub RepairsKeep : Type 0
    RepairsKeep = (taken next : ℕ) (old now : Files) → IsAmidRepair store taken next old now
        → now (current_path store) ≡ old (current_path store)
        → (HasNoTableNorLog store old → ⊥) → (bound : ℕ)
        → KeepsHistory store cmp IsTableOf allowed bound old now

    -- The new files keep each history of the old ones, or they hold this set of entries, as one
    -- durable batch, and no number past theirs.
    abbrev pub HoldOldOrFound : List Entry → Files → Files → Type 0
    HoldOldOrFound found old new =
        ((bound : ℕ) → KeepsHistory store cmp IsTableOf allowed bound old new)
        ⊎ StoreHolds store cmp IsTableOf allowed new (found ∷ []) (greatest found) 1 None

    -- so they do at each moment of a repair whose tables have this set
    abbrev pub RepairsHold : Type 0
    RepairsHold = (comparator : List ℕ) (taken next last : ℕ) (tables : List LiveTable)
        (old now : Files) → IsAmidRepair store taken next old now
        → (HasNoTableNorLog store old → ⊥)
        → (now (current_path store) ≡ old (current_path store))
        ⊎ IsRepairedStore comparator (taken + 1) next last tables now
        → allowed (made (Some comparator)) → (found : List Entry)
        → SameEntries (table_entries tables) found → HoldOldOrFound found old now

-- ---- what is found

-- the tables and logs of the folder have the same bytes, and no others are there
abbrev pub SameTablesAndLogs : List ℕ → Files → Files → Type 0
SameTablesAndLogs store old new = (name : List ℕ) (n : ℕ)
    → (IsFileName name n Table ⊎ IsFileName name n Log)
    → option_map bytes_of (new (in_folder store name))
    ≡ option_map bytes_of (old (in_folder store name))

-- the bytes of a log are read as one list of batches
abbrev pub OneFoundLog : Type 0
OneFoundLog = (bytes : List ℕ) (these those : List Batch) → IsFoundLog bytes these
    → IsFoundLog bytes those → these ≡ those

-- those of a readable table are one list of entries
abbrev pub OneReadableTable : Type 0
OneReadableTable = (cmp : List ℕ → List ℕ → Ordering) (meaning : Meaning) (bytes : List ℕ)
    (these those : List Entry) → IsReadable (IsAnyTable cmp meaning) bytes these
    → IsReadable (IsAnyTable cmp meaning) bytes those → these ≡ those

module _ (store : List ℕ) (IsTableOf : List ℕ → List Pair → Type 0) where
  -- the bytes that are meant for the tables of new numbers have no entry but found ones
  abbrev pub MeantHaveFound : ℕ → ℕ → (ℕ → List ℕ) → Files → Type 0
  MeantHaveFound first next meant old = (n : ℕ) (entries : List Entry) (entry : Entry)
      → first ≤ n → n < next → IsReadable IsTableOf (meant n) entries → Contains entries entry
      → IsFound store IsTableOf old entry

  -- of these tables one is readable only if it has all the bytes that are meant for it
  abbrev pub NoCutTableIsReadable : ℕ → ℕ → (ℕ → List ℕ) → Files → Type 0
  NoCutTableIsReadable first next meant files = (n : ℕ) (file : File) (entries : List Entry)
      → first ≤ n → n < next → files (table_path store n) ≡ Some file
      → IsReadable IsTableOf (bytes_of file) entries → bytes_of file ≡ meant n

  -- the same entries are found
  abbrev pub SameFound : Files → Files → Type 0
  SameFound old new =
      (entry : Entry) → IsFound store IsTableOf old entry ↔ IsFound store IsTableOf new entry

  -- ---- laws of it

  -- while a repair is made the same is found, if no cut table is readable
  abbrev pub FoundStays : Type 0
  FoundStays = (taken next : ℕ) (meant : ℕ → List ℕ) (old now : Files)
      → IsAmidRepair store taken next old now → MeantHaveFound (taken + 2) next meant old
      → NoCutTableIsReadable (taken + 2) next meant now → SameFound old now

  -- so it is of what a crash leaves, where all bytes of the old files were kept
  abbrev pub CrashesLeaveFound : Type 0
  CrashesLeaveFound = (taken next : ℕ) (meant : ℕ → List ℕ) (old now left : Files)
      → IsAmidRepair store taken next old now → MeantHaveFound (taken + 2) next meant old
      → ((path : List ℕ) → IsKept (old path)) → FilesCrashTo now left
      → NoCutTableIsReadable (taken + 2) next meant left → SameFound old left

  -- what is found is one set, in whatever list
  abbrev pub OneFoundSet : Type 0
  OneFoundSet = (files : Files) (these those : List Entry) → AreFound store IsTableOf files these
      → AreFound store IsTableOf files those ↔ SameEntries these those

  -- it goes by the bytes of the folder's tables and logs alone
  abbrev pub FoundGoesByBytes : Type 0
  FoundGoesByBytes = (old new : Files) → SameTablesAndLogs store old new → SameFound old new

-- ---- a store's contents

-- each table that is there is live, and each log that is there is replayed
pub record HasNoOtherFile (store : List ℕ) (set : FileSet) (files : Files) : Type 0 where
  pub tables : (name : List ℕ) (n : ℕ) → IsFileName name n Table
      → files (in_folder store name) ≢ None
      → (file : NewFile) × (set.file (level_file file) ≡ Some file)
      × (name ≡ file_name Table file.number)
  pub logs : (name : List ℕ) (n : ℕ) → IsFileName name n Log
      → files (in_folder store name) ≢ None → LogIsReplayed set n

-- where a table's filters aren't looked at its bytes have its pairs, and no others
abbrev pub FiltersAreIgnored : Type 0
FiltersAreIgnored = (cmp : List ℕ → List ℕ → Ordering) (meaning : Meaning) (bytes : List ℕ)
    (pairs others : List Pair) → IsTableOf cmp meaning bytes pairs
    → IsAnyTable cmp meaning bytes others ↔ (others ≡ pairs)

-- so a table that is there is readable exactly as its entries, if they have numbers from 1 on
abbrev pub TablesAreReadable : List ℕ → Type 0
TablesAreReadable store = (cmp : List ℕ → List ℕ → Ordering) (meaning : Meaning) (files : Files)
    (table : LiveTable) (h : HasTable store cmp (IsTableOf cmp meaning) files table)
    (entries : List Entry) → IsReadable (IsAnyTable cmp meaning) (bytes_of h.file) entries
    ↔ ((entries ≡ table.entries)
    × ((entry : Entry) → Contains table.entries entry → 0 < entry.sequence))

-- of a store with no table and no log beside those that it reads, exactly its entries are found
abbrev pub StoresAreFound : List ℕ → Type 0
StoresAreFound store = (cmp : List ℕ → List ℕ → Ordering) (meaning : Meaning) (files : Files)
    (contents : Contents) (m : IsManaged store cmp (IsTableOf cmp meaning) files contents)
    → HasNoOtherFile store (live_after m.edits) files
    → AreFound store (IsAnyTable cmp meaning) files contents.entries

-- so all that is found of such a store shows what it shows, at every number
abbrev pub FoundShowsTheSame : List ℕ → Type 0
FoundShowsTheSame store = (cmp : List ℕ → List ℕ → Ordering) (meaning : Meaning) (files : Files)
    (contents : Contents) (m : IsManaged store cmp (IsTableOf cmp meaning) files contents)
    → HasNoOtherFile store (live_after m.edits) files → (found : List Entry)
    → AreFound store (IsAnyTable cmp meaning) files found → (t : ℕ)
    → SameView found contents.entries t
