-- Ranges of user keys, and the keys that are in the range of no file of a deeper level.
use Rattle.std.specs.Prelude.{◌≡◌, ◌<◌, ◌↔◌, ◌&&◌, ℕ, Bool, Contains, List, Some, nat_lt, not, true}
use Rattle.std.specs.List.{list_any}
use Rattle.std.specs.declared.cmp.Ordering.{Ordering}
use Rattle.leveldb_files.specs.Edits.Edit.{NewFile}
use Rattle.leveldb_files.specs.Levels.Levels.{IsInRange}
use Rattle.leveldb_files.specs.Levels.Overlap.{UserRange, overlaps}

-- the range from one user key to another, with both of them, whichever keys they are
abbrev pub closed_range : List ℕ → List ℕ → UserRange
closed_range low high = record { begin = Some low; end = Some high }

module _ (cmp : List ℕ → List ℕ → Ordering) where
  -- no file deeper than this level has the key in its range
  abbrev pub IsBaseLevelFor : ℕ → List NewFile → List ℕ → Type 0
  IsBaseLevelFor level files key = (file : NewFile) → Contains files file → level < file.level
      → IsInRange cmp file key → ⊥

  -- the same as a test
  abbrev pub is_base_level_for : ℕ → List NewFile → List ℕ → Bool
  is_base_level_for level files key = not (list_any
      (λ file. nat_lt level file.level && overlaps cmp (closed_range key key) file) files)

-- ---- a law

-- the test says whether a key is in the range of no deeper file
abbrev pub TestTellsBaseLevel : Type 0
TestTellsBaseLevel = (cmp : List ℕ → List ℕ → Ordering) (level : ℕ) (files : List NewFile)
    (key : List ℕ) → (is_base_level_for cmp level files key ≡ true)
    ↔ IsBaseLevelFor cmp level files key
