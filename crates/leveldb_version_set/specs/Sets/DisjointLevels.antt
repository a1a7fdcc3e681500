-- When the files of each level from 1 on are apart.
use Rattle.std.specs.Prelude.{◌≡◌, ◌≢◌, ℕ, List, [], ◌∷◌, ◌++◌, Some, Contains}
use Rattle.std.specs.Cmp.{IsTotalOrder}
use Rattle.std.specs.declared.cmp.Ordering.{Ordering}
use Rattle.std.specs.declared.cmp.Ordering.TheVariants.{Less}
use Rattle.leveldb_base.specs.KeyTypes.{user_part}
use Rattle.leveldb_files.specs.Edits.Edit.{Edit, NewFile}
use Rattle.leveldb_files.specs.Edits.VersionSet.{level_file, live_after}
use Rattle.leveldb_files.specs.Levels.Overlap.{file_range, output_level}
use Rattle.leveldb_version.specs.Versions.Search.{AreDisjointLevels}
use Rattle.leveldb_version_set.specs.Sets.Recover.{IsUsable}

-- When the files of each level are apart: where a store may begin with the edits that leave them;
-- as long as files are left out or put in another order; and with one file more that isn't turned
-- round, in the level that is picked for its range.
pub record StayDisjoint : Type 0 where
  pub usable : (cmp : List ℕ → List ℕ → Ordering) → IsTotalOrder cmp → (comparator : List ℕ)
      (edits : List Edit) → IsUsable cmp comparator edits → (files : List NewFile)
      → ((file : NewFile) → Contains files file
      → (live_after edits).file (level_file file) ≡ Some file) → AreDisjointLevels cmp files
  pub fewer : (cmp : List ℕ → List ℕ → Ordering) (old new : List NewFile)
      → ((file : NewFile) → Contains new file → Contains old file) → AreDisjointLevels cmp old
      → AreDisjointLevels cmp new
  pub picked : (cmp : List ℕ → List ℕ → Ordering) (files : List NewFile) (file : NewFile)
      → file.level ≡ output_level cmp (file_range file) files
      → cmp (user_part file.largest) (user_part file.smallest) ≢ Less
      → AreDisjointLevels cmp files → AreDisjointLevels cmp (files ++ file ∷ [])
