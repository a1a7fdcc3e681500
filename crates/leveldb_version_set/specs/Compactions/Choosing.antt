-- Which choices of files a compaction may take, and what its edit leaves of a set's files.
use Rattle.std.specs.Prelude.{◌≡◌, ◌≢◌, ◌<◌, ◌+◌, ◌⊎◌, ◌↔◌, true, false, ℕ, List, ◌++◌, Contains}
use Rattle.std.specs.Cmp.{IsTotalOrder}
use Rattle.std.specs.declared.cmp.Ordering.{Ordering}
use Rattle.std.specs.declared.cmp.Ordering.TheVariants.{Less}
use Rattle.leveldb_base.specs.KeyTypes.{user_part}
use Rattle.leveldb_version_set.specs.Compactions.Compaction.{AreOnce, IsWithinInputs, MayCompact}
use Rattle.leveldb_version.specs.Versions.DeeperLevels.{closed_range}
use Rattle.leveldb_version.specs.Edits.FullEdit.{files_after}
use Rattle.leveldb_files.specs.Levels.Levels.{AreDisjoint}
use Rattle.leveldb_files.specs.Levels.Overlap.{AreInputs, UserRange, overlapping, overlaps}
use Rattle.leveldb_version.specs.Versions.Search.{AreDisjointLevels}
use Rattle.leveldb_files.specs.Steps.StoreSteps.{LeavesAlone}
use Rattle.leveldb_files.specs.Edits.Edit.{Edit, LevelFile, NewFile}
use Rattle.leveldb_files.specs.Edits.VersionSet.{is_same_file, level_file}

module _ (cmp : List ℕ → List ℕ → Ordering) where
  -- the least first user key of these files, and the greatest last one
  pub record AreEnds (files : List NewFile) (low high : List ℕ) : Type 0 where
    pub from : (file : NewFile) → Contains files file → cmp (user_part file.smallest) low ≢ Less
    pub to : (file : NewFile) → Contains files file → cmp high (user_part file.largest) ≢ Less
    pub first : (file : NewFile) × Contains files file × (user_part file.smallest ≡ low)
    pub last : (file : NewFile) × Contains files file × (user_part file.largest ≡ high)

  -- files that were chosen in level 0 are all of it that overlap the range between these ends
  abbrev pub AreClosed : ℕ → List NewFile → List NewFile → List ℕ → List ℕ → Type 0
  AreClosed level files chosen low high = level ≡ 0 → (file : NewFile) → Contains files file
      → file.level ≡ 0 → overlaps cmp (closed_range low high) file ≡ true → Contains chosen file

-- ---- laws of choices

-- A compaction may take files of a level, closed if it is level 0, and all files of the next level
-- that overlap the range between their ends.
abbrev pub ChosenMayBeCompacted : Type 0
ChosenMayBeCompacted = (cmp : List ℕ → List ℕ → Ordering) (files : List NewFile) (level : ℕ)
    (chosen : List NewFile) (low high : List ℕ) → level < 6
    → ((file : NewFile) → Contains chosen file → Contains files file × (file.level ≡ level))
    → (AreOnce files → AreOnce chosen) → AreEnds cmp chosen low high
    → AreClosed cmp level files chosen low high → MayCompact cmp files level
    (chosen ++ overlapping cmp (level + 1) (closed_range low high) files)

-- What a widened range takes of level 0 is closed, also where the range is open at an end: no file
-- that it takes sticks out of it.
abbrev pub WidenedAreClosed : Type 0
WidenedAreClosed = (cmp : List ℕ → List ℕ → Ordering) → IsTotalOrder cmp → (files : List NewFile)
    (level : ℕ) (narrow : UserRange) (chosen : List NewFile) (low high : List ℕ)
    → AreInputs cmp level narrow files chosen → AreEnds cmp chosen low high
    → AreClosed cmp level files chosen low high

-- what may be taken depends on the sets of files alone, as a version has them or a set, where each
-- is there once
abbrev pub ChoicesGoBySets : Type 0
ChoicesGoBySets = (cmp : List ℕ → List ℕ → Ordering) (level : ℕ)
    (files others inputs those : List NewFile)
    → ((file : NewFile) → Contains files file ↔ Contains others file)
    → ((file : NewFile) → Contains inputs file ↔ Contains those file)
    → (AreOnce others → AreOnce those)
    → MayCompact cmp files level inputs → MayCompact cmp others level those

-- ---- laws of a set's files, whatever is in them

-- what an edit leaves of a set's files
pub record EditsFiles (edit : Edit) (files : List NewFile) : Type 0 where
  -- each is one that it adds, or was there and isn't one that it deletes
  pub among : (file : NewFile) → Contains (files_after edit files) file → Contains edit.added file
      ⊎ (Contains files file
      × ((at : LevelFile) → Contains edit.deleted at → is_same_file (level_file file) at ≡ false))
  -- each that it adds is there, unless it adds two of one level and number; and each that was there
  -- and that it leaves alone
  pub added : AreOnce edit.added → (file : NewFile) → Contains edit.added file
      → Contains (files_after edit files) file
  pub stays : (file : NewFile) → Contains files file → LeavesAlone edit (level_file file)
      → Contains (files_after edit files) file
  -- where each level and number was there once, it is so still
  pub once : AreOnce files → AreOnce (files_after edit files)

-- each edit leaves that
abbrev pub FilesAreEdited : Type 0
FilesAreEdited = (edit : Edit) (files : List NewFile) → EditsFiles edit files

-- an edit that deletes the inputs and adds outputs within them leaves the files of each level
-- apart
abbrev pub EditedFilesStayApart : Type 0
EditedFilesStayApart = (cmp : List ℕ → List ℕ → Ordering) → IsTotalOrder cmp → (level : ℕ)
    (files inputs : List NewFile) (edit : Edit) → AreDisjointLevels cmp files
    → MayCompact cmp files level inputs
    → ((file : NewFile) → Contains inputs file → Contains edit.deleted (level_file file))
    → ((file : NewFile) → Contains edit.added file
    → (file.level ≡ level + 1) × IsWithinInputs cmp inputs file)
    → ((a b : NewFile) → Contains edit.added a → Contains edit.added b
    → (a ≡ b) ⊎ AreDisjoint cmp a b)
    → AreDisjointLevels cmp (files_after edit files)
