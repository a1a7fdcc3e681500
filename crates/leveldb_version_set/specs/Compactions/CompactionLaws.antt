-- Laws of compactions: what they keep of levels and views, what ranges tell of deeper levels, and
-- which outputs fit.
use Rattle.std.specs.Prelude.{◌≡◌, ◌≢◌, ◌≤◌, ◌+◌, ◌⊎◌, ◌↔◌, true, ℕ, List, [], ◌∷◌, ◌++◌, Contains}
use Rattle.std.specs.Cmp.{IsTotalOrder}
use Rattle.std.specs.declared.cmp.Ordering.{Ordering}
use Rattle.std.specs.declared.cmp.Ordering.TheVariants.{Less}
use Rattle.leveldb_base.specs.Cmp.{IsExactOrder}
use Rattle.leveldb_base.specs.Entries.{AreSorted}
use Rattle.leveldb_base.specs.History.{Entry, SameView, greatest}
use Rattle.leveldb_base.specs.Layers.{IsOlder}
use Rattle.leveldb_base.specs.Thinning.{Drops, DropsAll, Thins, thinned}
use Rattle.leveldb_version_set.specs.Compactions.Compaction.{AreBounded, AreCutBetweenKeys, AreKnownByNumber, Compacts, EndsBeforeTable, IsInNoDeeper, IsTight, IsWithinInputs, MayCompact, ReplacesInputs, files_of_tables}
use Rattle.leveldb_version.specs.Versions.DeeperLevels.{IsBaseLevelFor, is_base_level_for}
use Rattle.leveldb_files.specs.Levels.Levels.{AreDisjoint, LevelOrder, LiveTable, table_entries}
use Rattle.leveldb_version.specs.Versions.Search.{AreDisjointLevels}
use Rattle.leveldb_files.specs.Stores.Store.{SameEntries}
use Rattle.leveldb_files.specs.Edits.Edit.{NewFile}

-- ---- levels and views

-- What is kept where tables take the place of others, beside newer entries as those in memory.
pub record KeepsLevelsAndViews (cmp : List ℕ → List ℕ → Ordering) (smallest : ℕ)
    (before after : List LiveTable) (memory : List Entry) : Type 0 where
  -- the levels are in order, and the keys of each table in the range of its file
  pub order : LevelOrder cmp after
  pub bounded : AreBounded cmp after
  -- the tables are older than the entries in memory, and have no new entry
  pub older : IsOlder (table_entries after) memory
  pub none_new : (entry : Entry) → Contains (table_entries after) entry
      → Contains (table_entries before) entry
  -- all entries are thinned, and show the same from the smallest held number on and from their
  -- greatest on
  pub thins : Thins smallest (memory ++ table_entries before) (memory ++ table_entries after)
  pub views : (t : ℕ) → (smallest ≤ t) ⊎ (greatest (memory ++ table_entries before) ≤ t)
      → SameView (memory ++ table_entries before) (memory ++ table_entries after) t

-- a compaction keeps them
abbrev pub CompactionsKeepViews : Type 0
CompactionsKeepViews = (cmp : List ℕ → List ℕ → Ordering) → IsTotalOrder cmp
    → (smallest level : ℕ) (before inputs outputs after : List LiveTable) (memory : List Entry)
    → LevelOrder cmp before → AreBounded cmp before → AreKnownByNumber before
    → IsOlder (table_entries before) memory
    → Compacts cmp smallest level before inputs outputs after
    → KeepsLevelsAndViews cmp smallest before after memory

-- ---- keys that no deeper level has

-- a key that is in the range of no deeper file is in no deeper table
abbrev pub RangesTellBaseLevel : Type 0
RangesTellBaseLevel = (cmp : List ℕ → List ℕ → Ordering) (tables : List LiveTable) (level : ℕ)
    (key : List ℕ) → AreBounded cmp tables
    → IsBaseLevelFor cmp level (files_of_tables tables) key → IsInNoDeeper cmp level tables key

-- ---- what is dropped

-- what is dropped depends on the sets of entries alone
pub record DropsGoBySets : Type 0 where
  pub drops : (cmp : List ℕ → List ℕ → Ordering) (smallest level : ℕ) (files : List NewFile)
      (inputs others outputs those : List Entry) → SameEntries inputs others
      → SameEntries outputs those
      → Drops smallest (IsBaseLevelFor cmp level files) inputs outputs
      → Drops smallest (IsBaseLevelFor cmp level files) others those
  pub all : (cmp : List ℕ → List ℕ → Ordering) (smallest level : ℕ) (files : List NewFile)
      (inputs others outputs those : List Entry) → SameEntries inputs others
      → SameEntries outputs those
      → DropsAll smallest (IsBaseLevelFor cmp level files) inputs outputs
      → DropsAll smallest (IsBaseLevelFor cmp level files) others those
  -- and on the set of files, as a version has them or a set
  pub files : (cmp : List ℕ → List ℕ → Ordering) (smallest level : ℕ) (these those : List NewFile)
      (inputs outputs : List Entry)
      → ((file : NewFile) → Contains these file ↔ Contains those file)
      → DropsAll smallest (IsBaseLevelFor cmp level these) inputs outputs
      → DropsAll smallest (IsBaseLevelFor cmp level those) inputs outputs

-- Outputs that have what the rule leaves of the inputs' entries, merged or in any order, have
-- dropped exactly what may go.
abbrev pub ThinnedTablesDropAll : Type 0
ThinnedTablesDropAll = (cmp : List ℕ → List ℕ → Ordering) (smallest level : ℕ)
    (files : List NewFile) (merged : List Entry) (inputs outputs : List LiveTable)
    → SameEntries merged (table_entries inputs)
    → SameEntries (thinned smallest (is_base_level_for cmp level files) merged)
    (table_entries outputs)
    → DropsAll smallest (IsBaseLevelFor cmp level files) (table_entries inputs)
    (table_entries outputs)

-- and whatever has dropped exactly what may go has these entries
abbrev pub OneMergeIsLeft : Type 0
OneMergeIsLeft = (cmp : List ℕ → List ℕ → Ordering) (smallest level : ℕ) (files : List NewFile)
    (inputs these those : List Entry)
    → DropsAll smallest (IsBaseLevelFor cmp level files) inputs these
    → DropsAll smallest (IsBaseLevelFor cmp level files) inputs those → SameEntries these those

-- ---- outputs by their files

-- where the inputs are tables with their files' ranges, outputs lie within them
abbrev pub OutputsLieWithin : Type 0
OutputsLieWithin = (cmp : List ℕ → List ℕ → Ordering) (smallest level : ℕ)
    (before inputs outputs after : List LiveTable) → AreBounded cmp before
    → Compacts cmp smallest level before inputs outputs after → (output : LiveTable)
    → Contains outputs output → IsWithinInputs cmp (files_of_tables inputs) output.file

-- Whatever is in the files: where outputs lie within the inputs and are apart from one another,
-- the files of each level from 1 on are apart, as they were.
abbrev pub CompactedFilesStayApart : Type 0
CompactedFilesStayApart = (cmp : List ℕ → List ℕ → Ordering) → IsTotalOrder cmp → (level : ℕ)
    (files inputs outputs after : List NewFile) → AreDisjointLevels cmp files
    → MayCompact cmp files level inputs
    → ((file : NewFile) → Contains outputs file
    → (file.level ≡ level + 1) × IsWithinInputs cmp inputs file)
    → ((a b : NewFile) → Contains outputs a → Contains outputs b
    → (a ≡ b) ⊎ AreDisjoint cmp a b)
    → ((file : NewFile) → Contains after file
    → Contains outputs file ⊎ (Contains files file × (Contains inputs file → ⊥)))
    → AreDisjointLevels cmp after

-- ---- cuts

-- outputs that are cut between user keys are apart where they are tight
abbrev pub CutsAreApart : Type 0
CutsAreApart = (cmp : List ℕ → List ℕ → Ordering) (tables : List LiveTable)
    → AreCutBetweenKeys cmp tables
    → ((table : LiveTable) → Contains tables table → IsTight table)
    → (a b : LiveTable) → Contains tables a → Contains tables b
    → a.file.number ≢ b.file.number → AreDisjoint cmp a.file b.file

-- one more table, after all others, is cut so too
abbrev pub CutsGrow : Type 0
CutsGrow = (cmp : List ℕ → List ℕ → Ordering) (tables : List LiveTable) (table : LiveTable)
    → AreCutBetweenKeys cmp tables
    → ((other : LiveTable) → Contains tables other → EndsBeforeTable cmp other table)
    → AreCutBetweenKeys cmp (tables ++ table ∷ [])

-- where the user key changes between two sorted entries that follow one another, all that come
-- before have lesser keys than all that come after
abbrev pub KeysAreCut : Type 0
KeysAreCut = (cmp : List ℕ → List ℕ → Ordering) → IsExactOrder cmp → (front : List Entry)
    (last next : Entry) (rest : List Entry)
    → AreSorted cmp ((front ++ last ∷ []) ++ next ∷ rest) → last.key ≢ next.key
    → (x y : Entry) → Contains (front ++ last ∷ []) x → Contains (next ∷ rest) y
    → cmp x.key y.key ≡ Less

-- ---- tables that the laws speak of

-- files that are live tables' are those of some of these tables
abbrev pub InputsAreTables : Type 0
InputsAreTables = (tables : List LiveTable) (inputs : List NewFile)
    → ((file : NewFile) → Contains inputs file → Contains (files_of_tables tables) file)
    → (some : List LiveTable) × (files_of_tables some ≡ inputs)
    × ((table : LiveTable) → Contains some table → Contains tables table)

-- tables that are among others have their levels in order and their keys in their ranges, too
abbrev pub FewerTablesFit : Type 0
FewerTablesFit = (cmp : List ℕ → List ℕ → Ordering) (tables some : List LiveTable)
    → ((table : LiveTable) → Contains some table → Contains tables table)
    → LevelOrder cmp tables → AreBounded cmp tables → LevelOrder cmp some × AreBounded cmp some

-- there are the tables that are live after a compaction
abbrev pub ReplacedTablesExist : Type 0
ReplacedTablesExist = (before inputs outputs : List LiveTable) → AreKnownByNumber before
    → ((table : LiveTable) → Contains inputs table → Contains before table)
    → (after : List LiveTable) × ReplacesInputs before inputs outputs after
