-- Compactions: which files they may take, which tables they make of them, and what is live then.
use Rattle.std.specs.Prelude.{◌≡◌, ◌≢◌, ◌<◌, ◌+◌, ◌*◌, ◌⊎◌, ◌↔◌, ◌&&◌, true, false, not, nat_lt, Bool, ℕ, List, [], ◌∷◌, map, Some, AllPairs, Contains}
use Rattle.std.specs.List.{IsDistinct, list_any}
use Rattle.std.specs.declared.cmp.Ordering.{Ordering}
use Rattle.std.specs.declared.cmp.Ordering.TheVariants.{Less}
use Rattle.leveldb_base.specs.History.{Entry}
use Rattle.leveldb_base.specs.KeyTypes.{user_part}
use Rattle.leveldb_base.specs.Thinning.{Drops, HaveGone}
use Rattle.leveldb_files.specs.Levels.Levels.{AreDisjoint, IsBounded, IsInRange, LiveTable, table_entries}
use Rattle.leveldb_files.specs.Levels.Overlap.{UserRange, overlapping, overlaps, sticks_out}
use Rattle.leveldb_files.specs.Levels.Summary.{total_size}
use Rattle.leveldb_files.specs.Edits.Edit.{NewFile}
use Rattle.leveldb_files.specs.Edits.VersionSet.{is_same_file, level_file}
use Rattle.leveldb_version.specs.Versions.DeeperLevels.{IsBaseLevelFor, closed_range}

-- ---- tables and their files

-- the files of tables
abbrev pub files_of_tables : List LiveTable → List NewFile
files_of_tables tables = map (λ table. table.file) tables

-- a table is known by its level and number: two that share both are one
abbrev pub AreKnownByNumber : List LiveTable → Type 0
AreKnownByNumber tables = (a b : LiveTable) → Contains tables a → Contains tables b
    → a.file.level ≡ b.file.level → a.file.number ≡ b.file.number → a ≡ b

-- the tables that are live after outputs took the place of inputs: the outputs, and those that
-- were live before and are no inputs
abbrev pub ReplacesInputs : List LiveTable → List LiveTable → List LiveTable → List LiveTable
    → Type 0
ReplacesInputs before inputs outputs after = (table : LiveTable) → Contains after table
    ↔ (Contains outputs table ⊎ (Contains before table × (Contains inputs table → ⊥)))

-- the table, moved to the next level as it is
abbrev pub moved : LiveTable → LiveTable
moved table = record table { file = record table.file { level = table.file.level + 1 } }

-- the one input is moved: a table that is moved is its own output, with another level
abbrev pub IsMoved : List LiveTable → List LiveTable → Type 0
IsMoved inputs outputs =
    (table : LiveTable) × (inputs ≡ table ∷ []) × (outputs ≡ moved table ∷ [])

-- the first and the last user key of a table's file are keys of its entries
pub record IsTight (table : LiveTable) : Type 0 where
  pub first : (entry : Entry) × Contains table.entries entry
      × (entry.key ≡ user_part table.file.smallest)
  pub last : (entry : Entry) × Contains table.entries entry
      × (entry.key ≡ user_part table.file.largest)

-- ---- the files that a compaction takes

-- each level and number is there once
abbrev pub AreOnce : List NewFile → Type 0
AreOnce files = IsDistinct is_same_file (map level_file files)

module _ (cmp : List ℕ → List ℕ → Ordering) where
  -- each table's keys are in the range of its file
  abbrev pub AreBounded : List LiveTable → Type 0
  AreBounded tables = (table : LiveTable) → Contains tables table → IsBounded cmp table

  -- A compaction of a level may take these of the live files: some of that level, and of the next
  -- one exactly those that overlap a range which covers the former. In level 0, where files may
  -- overlap one another, it takes each that overlaps the range.
  pub record MayCompact (files : List NewFile) (level : ℕ) (inputs : List NewFile) : Type 0 where
    -- there is a next level
    pub shallow : level < 6
    -- they are live files, at least one of the level, and none but of the two levels
    pub there : (file : NewFile) → Contains inputs file → Contains files file
    pub some : (file : NewFile) × Contains inputs file × (file.level ≡ level)
    pub levels : (file : NewFile) → Contains inputs file
        → (file.level ≡ level) ⊎ (file.level ≡ level + 1)
    -- a range of user keys covers those of the level
    pub low : List ℕ
    pub high : List ℕ
    pub covered : (file : NewFile) → Contains inputs file → file.level ≡ level
        → sticks_out cmp (closed_range low high) file ≡ false
    -- which of the next level and of level 0 they are
    pub next : (file : NewFile) → Contains files file → file.level ≡ level + 1
        → Contains inputs file ↔ (overlaps cmp (closed_range low high) file ≡ true)
    pub zero : level ≡ 0 → (file : NewFile) → Contains files file → file.level ≡ 0
        → overlaps cmp (closed_range low high) file ≡ true → Contains inputs file
    -- each file is taken once, where each is there once
    pub once : AreOnce files → AreOnce inputs

  -- The one file that a compaction of a level takes may be moved to the next level as it is: the
  -- compaction isn't manual, which is one of a range that was asked for, and the files two levels
  -- down that it overlaps have less than ten file sizes together.
  pub record MayMove (file_size level : ℕ) (manual : Bool) (files inputs : List NewFile)
      : Type 0 where
    pub unasked : manual ≡ false
    pub file : NewFile
    pub alone : inputs ≡ file ∷ []
    pub at : file.level ≡ level
    pub light : total_size (overlapping cmp (level + 2)
        (closed_range (user_part file.smallest) (user_part file.largest)) files) < 10 * file_size

  -- ---- keys that are in no deeper table

  -- no table deeper than this level has an entry of the key
  abbrev pub IsInNoDeeper : ℕ → List LiveTable → List ℕ → Type 0
  IsInNoDeeper level tables key = (table : LiveTable) (entry : Entry) → Contains tables table
      → level < table.file.level → Contains table.entries entry → entry.key ≡ key → ⊥

  -- ---- the tables that it makes

  -- Tables that a compaction makes for a level: their files are of that level and have the ranges
  -- of their keys, no two of them share a number, and no user key is in two of them. That no other
  -- table of the level has such a number is said of the tables that are live after it
  -- (`HasTables`).
  pub record AreOutputs (level : ℕ) (outputs : List LiveTable) : Type 0 where
    pub levels : (table : LiveTable) → Contains outputs table → table.file.level ≡ level
    pub bounded : AreBounded outputs
    pub tight : (table : LiveTable) → Contains outputs table → IsTight table
    pub known : AreKnownByNumber outputs
    pub apart : (a b : LiveTable) → Contains outputs a → Contains outputs b
        → a.file.number ≢ b.file.number → AreDisjoint cmp a.file b.file

  -- A compaction of a level makes outputs for the next one of its inputs, which are live tables,
  -- and drops no more than may go.
  pub record Compacts (smallest level : ℕ) (before inputs outputs after : List LiveTable)
      : Type 0 where
    pub may : MayCompact (files_of_tables before) level (files_of_tables inputs)
    pub there : (table : LiveTable) → Contains inputs table → Contains before table
    pub made : AreOutputs (level + 1) outputs
    pub drops : Drops smallest (IsBaseLevelFor cmp (level + 1) (files_of_tables before))
        (table_entries inputs) (table_entries outputs)
    pub after_is : ReplacesInputs before inputs outputs after

  -- its inputs are merged, so that all that may go has gone, or the one input is moved that may be
  abbrev pub MergesOrMoves : ℕ → ℕ → ℕ → Bool → List LiveTable → List LiveTable → List LiveTable
      → Type 0
  MergesOrMoves smallest level file_size manual before inputs outputs =
      HaveGone smallest (IsBaseLevelFor cmp (level + 1) (files_of_tables before))
      (table_entries inputs) (table_entries outputs)
      ⊎ (MayMove file_size level manual (files_of_tables before) (files_of_tables inputs)
      × IsMoved inputs outputs)

  -- a compaction in full, manual or not
  pub record IsCompaction (smallest level file_size : ℕ) (manual : Bool)
      (before inputs outputs after : List LiveTable) : Type 0 where
    pub compacts : Compacts smallest level before inputs outputs after
    pub merges_or_moves : MergesOrMoves smallest level file_size manual before inputs outputs

  -- ---- what is known of outputs by their files alone

  -- a file's range isn't turned round, and lies within the inputs' ranges: from the first key of
  -- one to the last of one
  pub record IsWithinInputs (inputs : List NewFile) (file : NewFile) : Type 0 where
    pub ordered : cmp (user_part file.largest) (user_part file.smallest) ≢ Less
    pub from : (input : NewFile) × Contains inputs input
        × (cmp (user_part file.smallest) (user_part input.smallest) ≢ Less)
    pub to : (input : NewFile) × Contains inputs input
        × (cmp (user_part input.largest) (user_part file.largest) ≢ Less)

  -- ---- cuts between outputs

  -- each user key of one table is before each of another
  abbrev pub EndsBeforeTable : LiveTable → LiveTable → Type 0
  EndsBeforeTable a b = (x y : Entry) → Contains a.entries x → Contains b.entries y
      → cmp x.key y.key ≡ Less

  -- each table ends before those that follow: every cut is between two user keys
  abbrev pub AreCutBetweenKeys : List LiveTable → Type 0
  AreCutBetweenKeys tables = AllPairs EndsBeforeTable tables
