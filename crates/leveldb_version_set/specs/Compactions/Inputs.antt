-- Which files of a level are chosen for a compaction, and the files that it takes.
use Rattle.std.specs.Prelude.{◌≡◌, ◌≢◌, ◌++◌, ◌+◌, ◌*◌, ◌<◌, ◌≤◌, ◌⊎◌, ℕ, List, Contains, length, sum_by, take}
use Rattle.std.specs.declared.cmp.Ordering.{Ordering}
use Rattle.std.specs.declared.cmp.Ordering.TheVariants.{Less}
use Rattle.leveldb_base.specs.KeyTypes.{internal_cmp, user_part}
use Rattle.leveldb_version_set.specs.Compactions.Choosing.{AreClosed, AreEnds}
use Rattle.leveldb_version_set.specs.Compactions.Compaction.{AreOnce, MayCompact}
use Rattle.leveldb_files.specs.Levels.Summary.{total_size}
use Rattle.leveldb_version.specs.Versions.Version.{borrowed_files}
use Rattle.leveldb_files.specs.Edits.Edit.{NewFile}
use Rattle.leveldb_version_set.specs.declared.compaction.inputs.Inputs.{Inputs}

-- the files of a level and of the next that a compaction takes
abbrev pub input_files : Inputs → List NewFile
input_files inputs = borrowed_files inputs.of_level.items ++ borrowed_files inputs.of_next.items

-- one has the files of the level that another has
abbrev pub KeepsFiles : Inputs → Inputs → Type 0
KeepsFiles narrow wide = (file : NewFile) → Contains (borrowed_files narrow.of_level.items) file
    → Contains (borrowed_files wide.of_level.items) file

-- Inputs that have grown take more files of the level than those before, and as many of the next,
-- and have fewer bytes than 25 files may.
pub record HaveGrown (file_size : ℕ) (narrow wide : Inputs) : Type 0 where
  pub more : length narrow.of_level.items < length wide.of_level.items
  pub same : length wide.of_next.items ≡ length narrow.of_next.items
  pub light : total_size (input_files wide) < 25 * file_size

-- So many of the files are those up to the one with which they have more bytes than this, or all.
pub record IsCountPast (limit : ℕ) (files : List NewFile) (count : ℕ) : Type 0 where
  pub most : (fewer : ℕ) → fewer < count
      → sum_by (λ file. file.size) (take fewer files) ≤ limit
  pub past : (limit < sum_by (λ file. file.size) (take count files)) ⊎ (length files ≤ count)

module _ (cmp : List ℕ → List ℕ → Ordering) where
  -- the least first key of these files and the greatest last one, in the order of internal keys
  pub record AreKeyEnds (files : List NewFile) (low high : List ℕ) : Type 0 where
    pub from : (file : NewFile) → Contains files file → internal_cmp cmp file.smallest low ≢ Less
    pub to : (file : NewFile) → Contains files file → internal_cmp cmp high file.largest ≢ Less
    pub first : (file : NewFile) × Contains files file × (file.smallest ≡ low)
    pub last : (file : NewFile) × Contains files file × (file.largest ≡ high)

  -- no file of these begins before one key or ends after the other
  abbrev pub AreWithin : List NewFile → List ℕ → List ℕ → Type 0
  AreWithin files low high = (file : NewFile) → Contains files file
      → (internal_cmp cmp file.smallest low ≢ Less) × (internal_cmp cmp high file.largest ≢ Less)

  -- Files of a level with which a compaction may begin. In level 0 they are all that overlap the
  -- range from end to end of them.
  pub record AreChosen (files : List NewFile) (level : ℕ) (chosen : List NewFile) : Type 0 where
    pub each : (file : NewFile) → Contains chosen file → Contains files file × (file.level ≡ level)
    pub once : AreOnce files → AreOnce chosen
    pub closed : (low high : List ℕ) → AreEnds cmp chosen low high
        → AreClosed cmp level files chosen low high

  -- a compaction of a level may take these files of it and of the next
  pub record MayTake (files : List NewFile) (level : ℕ) (inputs : Inputs) : Type 0 where
    pub may : MayCompact cmp files level (input_files inputs)
    pub of_level : (file : NewFile) → Contains (borrowed_files inputs.of_level.items) file
        → file.level ≡ level
    pub of_next : (file : NewFile) → Contains (borrowed_files inputs.of_next.items) file
        → file.level ≡ level + 1

  -- no file is turned round: its last user key isn't before its first
  abbrev pub AreOrdered : List NewFile → Type 0
  AreOrdered files = (file : NewFile) → Contains files file
      → cmp (user_part file.largest) (user_part file.smallest) ≢ Less
