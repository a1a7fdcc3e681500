-- The live files while edits are applied, found by level and number.
use Rattle.std.specs.Prelude.{◌≡◌, ◌<◌, ℕ, List, Some, Contains, map}
use Rattle.std.specs.BTreeMap.{IsOrdered, get}
use Rattle.std.specs.Ordering.{nat_cmp}
use Rattle.leveldb_base.specs.declared.types.FileMetaData.{FileMetaData}
use Rattle.leveldb_files.specs.Edits.Edit.{LevelFile, NewFile, file_order}
use Rattle.leveldb_version.specs.Edits.VersionEdit.{new_file_of}
use Rattle.leveldb_files.specs.Edits.VersionSet.{level_file}
use Rattle.leveldb_version_set.specs.declared.version_set.files_in_order.FilesInOrder.{FilesInOrder}

-- the files, in the order in which they were added
abbrev pub ordered_files : FilesInOrder → List NewFile
ordered_files it = map (λ entry. new_file_of entry.1) it.files.entries

-- each file has a place before the next, and is found there by its level and number
pub record ArePlaced (it : FilesInOrder) : Type 0 where
  pub ordered : IsOrdered nat_cmp it.files
  pub placed : (entry : ℕ × (ℕ × FileMetaData)) → Contains it.files.entries entry
      → get file_order it.places (level_file (new_file_of entry.1)) ≡ Some entry.0
  pub before : (at : LevelFile) (place : ℕ) → get file_order it.places at ≡ Some place
      → place < it.next
  -- and no other file is found there
  pub own : (at : LevelFile) (entry : ℕ × (ℕ × FileMetaData)) → Contains it.files.entries entry
      → get file_order it.places at ≡ Some entry.0 → level_file (new_file_of entry.1) ≡ at
