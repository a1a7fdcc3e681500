-- Which edits a call logs, by the version set before it and the one after it.
use Rattle.std.specs.Prelude.{◌≡◌, ◌≢◌, ◌≤◌, ℕ, List, [], ◌∷◌, Option, Some, All, Contains, IfSome, IsSomeAnd, length}
use Rattle.std.specs.List.{cons_option}
use Rattle.leveldb_version_set.specs.Sets.LogEdit.{set_appended}
use Rattle.leveldb_version.specs.Versions.Scores.{level_by_score}
use Rattle.leveldb_files.specs.Edits.Edit.{Edit, LevelFile, NewFile}
use Rattle.leveldb_version_set.specs.Sets.VersionSetValue.{OpenManifest, VersionSetValue, in_use}
use Rattle.leveldb_version_set.specs.Engines.Writing.{table_edit}
use Rattle.leveldb_store.specs.Openings.Opening.{GivesNumbers}

-- numbers of files were given and these edits logged, one after another, and nothing else
abbrev pub LogsEdits : VersionSetValue → List Edit → VersionSetValue → Type 0
LogsEdits set [] new = GivesNumbers set new
LogsEdits set (edit ∷ edits) new = (given : VersionSetValue) × GivesNumbers set given
    × (manifest : OpenManifest) × (given.manifest ≡ in_use manifest)
    × LogsEdits (set_appended manifest given edit) edits new

-- the edit of a memtable's table: it adds one file and deletes none
abbrev pub IsTableEdit : Edit → Type 0
IsTableEdit edit = (log : ℕ) × (file : NewFile) × (edit ≡ table_edit log file)

-- tables of memtables were logged, no more of them than this
pub record LogsTableEdits (count : ℕ) (old new : VersionSetValue) : Type 0 where
  pub edits : List Edit
  pub each : All IsTableEdit edits
  pub at_most : length edits ≤ count
  pub logs : LogsEdits old edits new

-- an edit takes a file from a level, and adds none to it
pub record TakesFromLevel (level : ℕ) (edit : Edit) : Type 0 where
  pub taken : (at : LevelFile) × Contains edit.deleted at × (at.0 ≡ level)
  pub none_added : (file : NewFile) → Contains edit.added file → file.level ≢ level

-- One edit was logged at most, which takes a file from a level. If the score of a level asks for a
-- compaction, one was, which takes a file from that level.
pub record LogsByScore (old new : VersionSetValue) : Type 0 where
  pub edit : Option Edit
  pub logs : LogsEdits old (cons_option edit []) new
  -- so it is none of a memtable's table, which takes no file away
  pub takes : IfSome edit (λ e. (level : ℕ) × TakesFromLevel level e)
  pub by_score : (level : ℕ) → level_by_score old.full.added ≡ Some level
      → IsSomeAnd edit (TakesFromLevel level)
