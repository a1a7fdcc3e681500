-- Tables by levels, and the order in which a look-up goes through them. What it finds in layers of
-- entries is said where layers are defined.
use Rattle.std.specs.Prelude.{◌≡◌, ◌≢◌, ◌<◌, ◌⊎◌, ℕ, List, Contains, flat_map}
use Rattle.std.specs.declared.cmp.Ordering.{Ordering}
use Rattle.std.specs.declared.cmp.Ordering.TheVariants.{Less}
use Rattle.leveldb_base.specs.History.{Entry}
use Rattle.leveldb_base.specs.KeyTypes.{user_part}
use Rattle.leveldb_base.specs.Layers.{IsOlder}
use Rattle.leveldb_files.specs.Edits.Edit.{NewFile}

-- a live table: its file, as an edit says it, and its entries
pub record LiveTable : Type 0 where
  pub file : NewFile
  pub entries : List Entry

-- the entries of tables
abbrev pub table_entries : List LiveTable → List Entry
table_entries tables = flat_map (λ table. table.entries) tables

-- ---- the order of levels

module _ (cmp : List ℕ → List ℕ → Ordering) where
  -- the user keys of one file end before those of the other begin
  abbrev pub AreDisjoint : NewFile → NewFile → Type 0
  AreDisjoint a b = (cmp (user_part a.largest) (user_part b.smallest) ≡ Less)
      ⊎ (cmp (user_part b.largest) (user_part a.smallest) ≡ Less)

  -- which of two tables is older, by level and number, and which have no key in common
  pub record LevelOrder (tables : List LiveTable) : Type 0 where
    -- two files of one level, from level 1 on, are apart
    pub disjoint : (a b : LiveTable) → Contains tables a → Contains tables b
        → a.file.level ≡ b.file.level → 0 < a.file.level → a.file.number ≢ b.file.number
        → AreDisjoint a.file b.file
    -- of one key, what is in a deeper level is older
    pub deeper : (a b : LiveTable) → Contains tables a → Contains tables b
        → a.file.level < b.file.level → IsOlder b.entries a.entries
    -- in level 0 the file of the greater number is newer
    pub newer : (a b : LiveTable) → Contains tables a → Contains tables b
        → a.file.level ≡ 0 → b.file.level ≡ 0 → a.file.number < b.file.number
        → IsOlder a.entries b.entries

  -- a key is not before the first user key of the file, nor after its last
  pub record IsInRange (file : NewFile) (key : List ℕ) : Type 0 where
    pub from : cmp key (user_part file.smallest) ≢ Less
    pub to : cmp (user_part file.largest) key ≢ Less

  -- the keys of a table's entries are in the range of its file, which isn't turned round
  pub record IsBounded (table : LiveTable) : Type 0 where
    pub ordered : cmp (user_part table.file.largest) (user_part table.file.smallest) ≢ Less
    pub within : (entry : Entry) → Contains table.entries entry → IsInRange table.file entry.key

  -- A table may be added to a level: its entries are newer than all others of their keys, and it is
  -- apart from the tables above that level and, from level 1 on, from those in it. In level 0 its
  -- number is the greatest.
  pub record CanBeAdded (tables : List LiveTable) (table : LiveTable) : Type 0 where
    pub bounded : IsBounded table
    pub newer : IsOlder (table_entries tables) table.entries
    pub above : (a : LiveTable) → Contains tables a → a.file.level < table.file.level
        → AreDisjoint a.file table.file
    pub beside : (a : LiveTable) → Contains tables a → a.file.level ≡ table.file.level
        → 0 < a.file.level → AreDisjoint a.file table.file
    pub number : (a : LiveTable) → Contains tables a → a.file.level ≡ 0 → table.file.level ≡ 0
        → a.file.number < table.file.number

-- ---- look-ups

-- The first table is searched before the second: it is in a level above, or it has the greater
-- number in level 0. In a deeper level files may be searched in any order.
abbrev pub IsSearchedBefore : LiveTable → LiveTable → Type 0
IsSearchedBefore a b =
    (a.file.level < b.file.level)
    ⊎ ((a.file.level ≡ 0) × (b.file.level ≡ 0) × (b.file.number < a.file.number))
    ⊎ ((a.file.level ≡ b.file.level) × (0 < a.file.level) × (a.file.number ≢ b.file.number))
