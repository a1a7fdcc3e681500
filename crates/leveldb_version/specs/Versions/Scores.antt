-- Scores of levels, and the level that asks for a compaction.
use Rattle.std.specs.Prelude.{◌≡◌, ◌≤◌, ◌<◌, ◌*◌, ◌^◌, ◌↔◌, zero, suc, ℕ, Bool, if◌then◌else◌, nat_le, nat_lt, List, [], ◌∷◌, fold, length, Option, Some, None}
use Rattle.leveldb_files.specs.Levels.Summary.{files_of_level, total_size}
use Rattle.leveldb_files.specs.Edits.Edit.{NewFile}

-- what a level has: level 0 files, each other level bytes, whose sum ends at 2^64 - 1
abbrev pub level_load : List NewFile → ℕ → ℕ
level_load files zero = length (files_of_level 0 files)
level_load files (suc level) = total_size (files_of_level (suc level) files)

-- what it is to have: 4 files, or 10 MiB in level 1 and ten times more in each next level; its
-- score is its load over this
abbrev pub level_limit : ℕ → ℕ
level_limit zero = 4
level_limit (suc level) = 10 * 2 ^ 20 * 10 ^ level

-- the first level's score is greater than the second's: the fractions are compared crosswise
abbrev pub is_fuller : List NewFile → ℕ → ℕ → Bool
is_fuller files level other =
    nat_lt (level_load files other * level_limit level) (level_load files level * level_limit other)

-- of levels 0 to 5 the first of greatest score; level 6 has none
abbrev pub fullest_level : List NewFile → ℕ
fullest_level files =
    fold (λ best level. if is_fuller files level best then level else best) 0
    (1 ∷ 2 ∷ 3 ∷ 4 ∷ 5 ∷ [])

-- the level that asks for a compaction: that one, if its score is 1 or more
abbrev pub level_by_score : List NewFile → Option ℕ
level_by_score files =
    if nat_le (level_limit (fullest_level files)) (level_load files (fullest_level files))
    then Some (fullest_level files) else None

-- no level's score is greater than this one's, and those of levels above it are less
pub record IsFullest (files : List NewFile) (level : ℕ) : Type 0 where
  pub known : level < 6
  pub greatest : (other : ℕ) → other < 6
      → level_load files other * level_limit level ≤ level_load files level * level_limit other
  pub first : (other : ℕ) → other < level
      → level_load files other * level_limit level < level_load files level * level_limit other

-- ---- a law

-- the level that asks is the first of greatest score, and that is 1 or more
abbrev pub ScoresTellLevel : Type 0
ScoresTellLevel = (files : List NewFile) (level : ℕ) → (level_by_score files ≡ Some level)
    ↔ (IsFullest files level × (level_limit level ≤ level_load files level))
