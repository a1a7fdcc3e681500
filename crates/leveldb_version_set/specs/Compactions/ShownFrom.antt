-- What is shown after entries were dropped: from which numbers on it is what was shown.
use Rattle.std.specs.Prelude.{◌≤◌, ◌⊎◌, ℕ, List}
use Rattle.std.specs.Cmp.{IsTotalOrder}
use Rattle.std.specs.declared.cmp.Ordering.{Ordering}
use Rattle.leveldb_base.specs.History.{History, entries_of, greatest}
use Rattle.leveldb_version_set.specs.Compactions.Compaction.{AreBounded, AreKnownByNumber, Compacts}
use Rattle.leveldb_files.specs.Levels.Levels.{LiveTable}
use Rattle.leveldb_version_set.specs.Engines.Writing.{EngineMemory, ShowsHistory}

-- the numbers at which a history shows the same after entries were dropped: those from the
-- smallest held one on, and those from its own greatest on
abbrev pub IsFrom : ℕ → History → ℕ → Type 0
IsFrom smallest history since = (smallest ≤ since) ⊎ (greatest (entries_of history) ≤ since)

-- What a call that may drop entries keeps, where `Was since` and `Is since` say that a history was
-- shown before it, and is after it, at each number from `since` on: from each number on from which
-- it was shown it is shown, if that is the smallest held one or later, or the history's greatest or
-- later. The smallest held number is the caller's.
abbrev pub KeepsFrom : ℕ → History → (ℕ → Type 0) → (ℕ → Type 0) → Type 0
KeepsFrom smallest history Was Is = (since from : ℕ) → Was since → since ≤ from
    → IsFrom smallest history from → Is from

module _ (cmp : List ℕ → List ℕ → Ordering) where
  -- so for memory and tables before a call, and memory and tables after it
  abbrev pub KeepsShownFrom : ℕ → EngineMemory → List LiveTable → EngineMemory → List LiveTable
      → History → Type 0
  KeepsShownFrom smallest memory before other after history = KeepsFrom smallest history
      (ShowsHistory cmp memory before history) (ShowsHistory cmp other after history)

  -- ---- laws

  -- a compaction keeps what is shown from the smallest held number on
  abbrev pub CompactionsKeepShown : Type 0
  CompactionsKeepShown = (memory : EngineMemory) (smallest level : ℕ)
      (before inputs outputs after : List LiveTable) (history : History)
      → IsTotalOrder cmp → AreBounded cmp before → AreKnownByNumber before
      → Compacts cmp smallest level before inputs outputs after
      → KeepsShownFrom smallest memory before memory after history

  -- what follows where a call keeps what is shown so
  pub record ShownIsKept : Type 0 where
    -- two such calls in a row keep it
    pub both : (smallest : ℕ) (a b c : EngineMemory) (these those others : List LiveTable)
        (history : History) → KeepsShownFrom smallest a these b those history
        → KeepsShownFrom smallest b those c others history
        → KeepsShownFrom smallest a these c others history
    -- a call that keeps what is shown from every number on keeps it so
    pub all : (smallest : ℕ) (memory other : EngineMemory) (before after : List LiveTable)
        (history : History)
        → ((since : ℕ) → ShowsHistory cmp memory before history since
        → ShowsHistory cmp other after history since)
        → KeepsShownFrom smallest memory before other after history
    -- what is shown from a number on is shown from each later one on
    pub later : (memory : EngineMemory) (tables : List LiveTable) (history : History)
        (since then : ℕ) → since ≤ then → ShowsHistory cmp memory tables history since
        → ShowsHistory cmp memory tables history then
