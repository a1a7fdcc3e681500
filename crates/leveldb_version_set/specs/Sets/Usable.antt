-- What is asked of what a manifest's edits leave, a check at a time.
use Rattle.std.specs.Prelude.{◌≡◌, ◌≢◌, ◌⊎◌, ◌<◌, ◌+◌, ℕ, List, Option, None, Some, Contains, IsSome, max}
use Rattle.std.specs.Option.{unwrap_or}
use Rattle.std.specs.declared.cmp.Ordering.{Ordering}
use Rattle.leveldb_base.specs.declared.error.Status.{Status}
use Rattle.leveldb_base.specs.declared.error.StatusCode.TheVariants.{Corruption, InvalidArgument, NotSupported}
use Rattle.leveldb_files.specs.Levels.Levels.{AreDisjoint}
use Rattle.leveldb_version_set.specs.Sets.Recover.{Overlap, ShareUserKey}
use Rattle.leveldb_files.specs.Edits.Edit.{NewFile}
use Rattle.leveldb_version_set.specs.declared.version_set.replay.Replayed.{Replayed}

-- ---- single values

-- each number that a store begins with is set
pub record HasStartNumbers (it : Replayed) : Type 0 where
  pub log_number : IsSome it.log_number
  pub next_file : IsSome it.next_file
  pub last_sequence : IsSome it.last_sequence

-- one of them isn't set
pub record LacksStartNumber (it : Replayed) (status : Status) : Type 0 where
  pub code : status.code ≡ Corruption
  pub none : (it.log_number ≡ None) ⊎ (it.next_file ≡ None) ⊎ (it.last_sequence ≡ None)

-- the comparator's name isn't given, or is another one
abbrev pub IsOtherComparator : List ℕ → Option (List ℕ) → Status → Type 0
IsOtherComparator comparator found status =
    ((status.code ≡ Corruption) × (found ≡ None))
    ⊎ ((status.code ≡ InvalidArgument)
    × ((name : List ℕ) × (found ≡ Some name) × (name ≢ comparator)))

-- the number of a file that is above all that the value has, and not below this one
abbrev pub next_number_of : ℕ → ℕ → Replayed → ℕ
next_number_of old manifest it = max old (max (unwrap_or it.next_file 0)
    (max manifest (max (unwrap_or it.log_number 0) (unwrap_or it.previous_log 0))) + 1)

-- ---- files of one level

-- two files are of one level from 1 on
pub record ArePeers (a b : NewFile) : Type 0 where
  pub same_level : a.level ≡ b.level
  pub not_level_zero : 0 < a.level
  pub others : a.number ≢ b.number

module _ (cmp : List ℕ → List ℕ → Ordering) where
  -- files of one level from 1 on overlap, or share a user key
  pub record IsClash (a b : NewFile) (status : Status) : Type 0 where
    pub peers : ArePeers a b
    pub why : ((status.code ≡ Corruption) × Overlap cmp a b)
        ⊎ ((status.code ≡ NotSupported) × ShareUserKey cmp a b)

  -- one file and each other of its level are apart
  abbrev pub IsApartFrom : NewFile → List NewFile → Type 0
  IsApartFrom a files = (b : NewFile) → Contains files b → ArePeers a b → AreDisjoint cmp a b

  -- one file and another clash
  pub record ClashesWith (a : NewFile) (files : List NewFile) (status : Status) : Type 0 where
    pub b : NewFile
    pub b_there : Contains files b
    pub clash : IsClash a b status

  -- all files of one level are apart
  abbrev pub AreAllApart : List NewFile → List NewFile → Type 0
  AreAllApart these files = (a : NewFile) → Contains these a → IsApartFrom a files

  -- two of the files clash
  pub record HasClash (files : List NewFile) (status : Status) : Type 0 where
    pub a : NewFile
    pub a_there : Contains files a
    pub clashes : ClashesWith a files status
