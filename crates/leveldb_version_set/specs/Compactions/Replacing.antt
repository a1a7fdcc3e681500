-- Edits that put tables in the place of tables and logs.
use Rattle.std.specs.Prelude.{◌≡◌, ◌≤◌, ◌↔◌, ℕ, List, [], ◌∷◌, ◌++◌, IsSome, Contains}
use Rattle.std.specs.declared.cmp.Ordering.{Ordering}
use Rattle.leveldb_base.specs.History.{AreUpTo, Entry, SameView, greatest}
use Rattle.leveldb_base.specs.Types.{Pair}
use Rattle.leveldb_env.specs.Env.{Files}
use Rattle.leveldb_files.specs.Levels.Levels.{LevelOrder, LiveTable, table_entries}
use Rattle.leveldb_files.specs.Stores.Store.{LogIsReplayed, OneTableReading, ReplayedLog, log_entries}
use Rattle.leveldb_files.specs.Steps.StoreSteps.{AreLogsBelow, EditRefines, HasKeptTables, LastRises, SwapsTables, SwitchesLog}
use Rattle.leveldb_files.specs.Edits.Edit.{Edit}
use Rattle.leveldb_files.specs.Edits.VersionSet.{FileSet, live_after}

module _ (store : List ℕ) (cmp : List ℕ → List ℕ → Ordering)
    (IsTableOf : List ℕ → List Pair → Type 0) where
  -- An edit as it changes the set of files: tables take the place of the live tables and of the
  -- logs below a number, and show what these showed together. The edit of a memtable's table does
  -- so, and that of a compaction.
  pub record ReplacesTables (bound : ℕ) (files : Files) (old new : FileSet) : Type 0 where
    -- the tables that were live, and those that are live then, whose levels are in order
    pub before : List LiveTable
    pub has_before : HasKeptTables store cmp IsTableOf files old before
    pub after : List LiveTable
    pub has_after : HasKeptTables store cmp IsTableOf files new after
    pub levels : LevelOrder cmp after
    -- of the logs that were replayed exactly those from this number on are replayed still
    pub log : ℕ
    pub logs : (n : ℕ) → LogIsReplayed new n ↔ (LogIsReplayed old n × (log ≤ n))
    -- the ones below it, which are kept
    pub taken : List ReplayedLog
    pub has_taken : AreLogsBelow store files old log taken
    -- no entry of the tables is new
    pub none_new : (entry : Entry) → Contains (table_entries after) entry
        → Contains (table_entries before ++ log_entries taken) entry
    -- they show the same from the greatest number of the former entries on
    pub same : (t : ℕ) → greatest (table_entries before ++ log_entries taken) ≤ t
        → SameView (table_entries after) (table_entries before ++ log_entries taken) t
    -- the single values
    pub comparator : new.comparator ≡ old.comparator
    pub log_number : IsSome old.log_number → IsSome new.log_number
    pub next_file : IsSome new.next_file
    pub last : LastRises bound old new
    -- no entry of the logs that were taken is above the last number
    pub reached : AreUpTo last.last (log_entries taken)

  -- ---- laws

  -- such an edit changes nothing that is shown
  abbrev pub ReplacingRefines : Type 0
  ReplacingRefines = OneTableReading IsTableOf → (bound : ℕ) (files : Files) (edits : List Edit)
      (edit : Edit)
      → ReplacesTables bound files (live_after edits) (live_after (edits ++ edit ∷ []))
      → EditRefines store cmp IsTableOf bound files edits edit

  -- an edit that swaps tables is one
  abbrev pub SwapsReplace : Type 0
  SwapsReplace = (bound : ℕ) (files : Files) (old new : FileSet)
      → SwapsTables store cmp IsTableOf bound files old new → ReplacesTables bound files old new

  -- and so is one that has tables in the place of logs
  abbrev pub SwitchesReplace : Type 0
  SwitchesReplace = (bound : ℕ) (files : Files) (old new : FileSet)
      → SwitchesLog store cmp IsTableOf bound files old new → ReplacesTables bound files old new
