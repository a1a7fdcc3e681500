-- Inputs of a compaction that contradict the edits which added them: their tables, read pair by
-- pair in one order, have a key that no such tables have. A compaction fails with `Corruption`
-- then.
use Rattle.std.specs.Prelude.{◌≡◌, ◌≢◌, ◌≤◌, ◌<◌, ◌⊎◌, ◌&&◌, Bool, not, ℕ, List, ◌∷◌, ◌++◌, length, Contains}
use Rattle.std.specs.Cmp.{IsTotalOrder}
use Rattle.std.specs.List.{list_any}
use Rattle.std.specs.Ordering.{is_lt}
use Rattle.std.specs.declared.cmp.Ordering.{Ordering}
use Rattle.std.specs.declared.cmp.Ordering.TheVariants.{Less}
use Rattle.leveldb_base.specs.declared.error.Status.{Status}
use Rattle.leveldb_base.specs.declared.error.StatusCode.TheVariants.{Corruption}
use Rattle.leveldb_base.specs.History.{AreRising, Entry}
use Rattle.leveldb_base.specs.KeyTypes.{internal_cmp, user_part}
use Rattle.leveldb_base.specs.Types.{Pair}
use Rattle.leveldb_files.specs.Stores.Batches.{Each}
use Rattle.leveldb_version_set.specs.Compactions.Compaction.{AreBounded, IsWithinInputs, files_of_tables}
use Rattle.leveldb_files.specs.Levels.Levels.{AreDisjoint, LiveTable, table_entries}
use Rattle.leveldb_files.specs.Stores.Store.{IsFirstKey, IsInternalPair, IsLastKey}
use Rattle.leveldb_files.specs.Edits.Edit.{NewFile}

module _ (cmp : List ℕ → List ℕ → Ordering) where
  -- a user key lies within the hull of the inputs: from the first key of one to the last of one
  pub record IsAmongInputs (inputs : List NewFile) (key : List ℕ) : Type 0 where
    pub from : (input : NewFile) × Contains inputs input
        × (cmp key (user_part input.smallest) ≢ Less)
    pub to : (input : NewFile) × Contains inputs input × (cmp (user_part input.largest) key ≢ Less)

  -- the file's first user key isn't after this one
  abbrev pub begins_by : List ℕ → NewFile → Bool
  begins_by key file = not (is_lt (cmp key (user_part file.smallest)))

  -- the file's last user key isn't before this one
  abbrev pub ends_from : List ℕ → NewFile → Bool
  ends_from key file = not (is_lt (cmp (user_part file.largest) key))

  -- the same as a test
  abbrev pub is_among_inputs : List NewFile → List ℕ → Bool
  is_among_inputs inputs key =
      list_any (begins_by key) inputs && list_any (ends_from key) inputs

  -- Pairs that are read from the inputs' tables, in this order, agree with the inputs' edits:
  -- their keys have tags, rise, and lie within the inputs' hull.
  pub record AgreeWithEdits (inputs : List NewFile) (pairs : List Pair) : Type 0 where
    pub tagged : (pair : Pair) → Contains pairs pair → 8 ≤ length pair.0
    pub rising : AreRising (internal_cmp cmp) pairs
    pub within : (pair : Pair) → Contains pairs pair → IsAmongInputs inputs (user_part pair.0)

  -- A pair that is read after others contradicts the inputs' edits: its key has no tag; it isn't
  -- after the key of one of these; or it is before the range of each input, or after it.
  pub data ContradictsEdits (inputs : List NewFile) (others : List Pair) (pair : Pair)
      : Type 0 where
    untagged : length pair.0 < 8 → ContradictsEdits inputs others pair
    not_after : (one : Pair) → Contains others one → internal_cmp cmp one.0 pair.0 ≢ Less
        → ContradictsEdits inputs others pair
    before_all : ((input : NewFile) → Contains inputs input
        → cmp (user_part pair.0) (user_part input.smallest) ≡ Less)
        → ContradictsEdits inputs others pair
    after_all : ((input : NewFile) → Contains inputs input
        → cmp (user_part input.largest) (user_part pair.0) ≡ Less)
        → ContradictsEdits inputs others pair

  -- among pairs that are read in this order one contradicts the edits, and those before it agree
  pub record HasContradiction (inputs : List NewFile) (pairs : List Pair) : Type 0 where
    pub front : List Pair
    pub pair : Pair
    pub rest : List Pair
    pub pairs_are : pairs ≡ front ++ pair ∷ rest
    pub agreed : AgreeWithEdits inputs front
    pub contradicts : ContradictsEdits inputs front pair

  -- a merge of such pairs fails: its code is `Corruption`, and there is a contradiction
  pub record FailsAtContradiction (inputs : List NewFile) (pairs : List Pair) (status : Status)
      : Type 0 where
    pub code : status.code ≡ Corruption
    pub why : HasContradiction inputs pairs

  -- a file's first and last key are those of some of these pairs, whose keys rise
  pub record IsMadeOf (pairs kept : List Pair) (file : NewFile) : Type 0 where
    pub among : (pair : Pair) → Contains kept pair → Contains pairs pair
    pub rising : AreRising (internal_cmp cmp) kept
    pub smallest : IsFirstKey file.smallest kept
    pub largest : IsLastKey file.largest kept

-- ---- laws

-- any pairs agree with the edits of any inputs, or have a contradiction, and not both
pub record AgreeOrContradict : Type 0 where
  pub one : (cmp : List ℕ → List ℕ → Ordering) (inputs : List NewFile) (pairs : List Pair)
      → AgreeWithEdits cmp inputs pairs ⊎ HasContradiction cmp inputs pairs
  pub not_both : (cmp : List ℕ → List ℕ → Ordering) (inputs : List NewFile) (pairs : List Pair)
      → AgreeWithEdits cmp inputs pairs → HasContradiction cmp inputs pairs → ⊥

-- the pairs of tables that have the ranges of their files agree with the edits: such inputs are
-- never refused
abbrev pub TablesAgreeWithEdits : Type 0
TablesAgreeWithEdits = (cmp : List ℕ → List ℕ → Ordering) (tables : List LiveTable)
    (pairs : List Pair) (entries : List Entry) → AreBounded cmp tables
    → Each IsInternalPair pairs entries
    → ((entry : Entry) → Contains entries entry → Contains (table_entries tables) entry)
    → AreRising (internal_cmp cmp) pairs → AgreeWithEdits cmp (files_of_tables tables) pairs

-- a file that is made of pairs which agree lies within the inputs, whatever is in them
abbrev pub AgreedFilesLieWithin : Type 0
AgreedFilesLieWithin = (cmp : List ℕ → List ℕ → Ordering) → IsTotalOrder cmp
    → (inputs : List NewFile) (pairs kept : List Pair) (file : NewFile)
    → AgreeWithEdits cmp inputs pairs → IsMadeOf cmp pairs kept file
    → IsWithinInputs cmp inputs file

-- files are apart that are made of pairs of which each user key is before each of the other's
abbrev pub CutFilesAreApart : Type 0
CutFilesAreApart = (cmp : List ℕ → List ℕ → Ordering) (pairs these those : List Pair)
    (a b : NewFile) → IsMadeOf cmp pairs these a → IsMadeOf cmp pairs those b
    → ((x y : Pair) → Contains these x → Contains those y
    → cmp (user_part x.0) (user_part y.0) ≡ Less)
    → AreDisjoint cmp a b
