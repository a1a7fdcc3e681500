-- Entries, histories, and the values of keys at a sequence number.
use Rattle.std.specs.Prelude.{◌≡◌, ◌<◌, ◌≤◌, ◌+◌, ℕ, List, [], ◌∷◌, ◌++◌, length, take, flat_map, max, Option, Some, None, All, ◌↔◌, Contains}
use Rattle.std.specs.Cmp.{IsTotalOrder}
use Rattle.std.specs.declared.cmp.Ordering.{Ordering}
use Rattle.std.specs.declared.cmp.Ordering.TheVariants.{Less}
use Rattle.leveldb_base.specs.Types.{Pair}
use Rattle.leveldb_base.specs.Cmp.{IsExactOrder}

-- ---- entries, placed batches and histories

-- a key given a value, or none, which deletes it
pub record Item : Type 0 where
  -- the user's key
  pub key : List ℕ
  -- its value, or none for a deletion
  pub value : Option (List ℕ)

-- a sequence number, a key, and its value or a deletion
pub record Entry : Type 0 where
  -- the sequence number, by which newer entries are told from older ones
  pub sequence : ℕ
  -- the user's key
  pub key : List ℕ
  -- its value, or none for a deletion
  pub value : Option (List ℕ)

-- the entries of a batch placed at a number: they take that one, the next and so on, in order
abbrev pub placed : ℕ → List Item → List Entry
placed first [] = []
placed first (item ∷ items) =
    record { sequence = first; key = item.key; value = item.value } ∷ placed (first + 1) items

-- the entries of each batch, the first batch first; an empty batch has none
abbrev pub History : Type 0
History = List (List Entry)

-- all entries of a history
abbrev pub entries_of : History → List Entry
entries_of history = flat_map (λ batch. batch) history

-- the greatest sequence, else 0
abbrev pub greatest : List Entry → ℕ
greatest [] = 0
greatest (entry ∷ entries) = max entry.sequence (greatest entries)

-- every entry is at or below a number
abbrev pub AreUpTo : ℕ → List Entry → Type 0
AreUpTo n entries = (entry : Entry) → Contains entries entry → entry.sequence ≤ n

-- every entry is above a number
abbrev pub AreAbove : ℕ → List Entry → Type 0
AreAbove n entries = (entry : Entry) → Contains entries entry → n < entry.sequence

-- sequences rise strictly, each above this number
abbrev pub RiseAbove : ℕ → List Entry → Type 0
RiseAbove low [] = Unit {0}
RiseAbove low (entry ∷ entries) = (low < entry.sequence) × RiseAbove entry.sequence entries

-- these entries are a batch placed at some number
abbrev pub IsPlaced : List Entry → Type 0
IsPlaced entries = (first : ℕ) × (items : List Item) × (entries ≡ placed first items)

-- no two different entries have one key and one number
abbrev pub AreConsistent : List Entry → Type 0
AreConsistent entries = (entry other : Entry) → Contains entries entry → Contains entries other
    → entry.key ≡ other.key → entry.sequence ≡ other.sequence → entry ≡ other

-- entries as a repair finds them, in any order; different keys may share a number
pub record IsFoundSet (entries : List Entry) : Type 0 where
  -- each number is at least 1
  pub numbered : AreAbove 0 entries
  -- a key has at most one entry of a number
  pub one : AreConsistent entries

-- a history has these as its first entries, and then these batches
pub record IsHistoryFrom (first : List Entry) (later : History) : Type 0 where
  -- it begins with a found set; a batch that is placed at 1 or above is one
  pub begins : IsFoundSet first
  -- each later batch is placed at some number
  pub placed : All IsPlaced later
  -- they rise strictly in sequence, above all of the first; numbers may be left out
  pub rising : RiseAbove (greatest first) (entries_of later)

-- A history is empty, or has a first batch and later ones. In place of the first it may have one
-- set of entries that a repair found.
abbrev pub IsHistory : History → Type 0
IsHistory [] = Unit {0}
IsHistory (first ∷ later) = IsHistoryFrom first later

-- a history and one more batch at its end, where there is one
abbrev pub with_batch : History → Option (List Entry) → History
with_batch history None = history
with_batch history (Some batch) = history ++ batch ∷ []

-- how many numbers a batch takes
abbrev pub count_of : Option (List Entry) → ℕ
count_of None = 0
count_of (Some batch) = length batch

-- the part is a prefix of the whole history that has at least `least` batches
pub record IsPrefixAtLeast (least : ℕ) (whole part : History) : Type 0 where
  -- how many batches the part has
  pub count : ℕ
  -- at least so many as are asked for
  pub enough : least ≤ count
  -- and no more than the whole has
  pub there : count ≤ length whole
  -- they are the first of the whole
  pub first : part ≡ take count whole

-- ---- the values of keys at a sequence number; a list represents the set of its elements

-- of the entries of its key at or below s, the one of greatest sequence
pub record IsNewest (entries : List Entry) (s : ℕ) (entry : Entry) : Type 0 where
  -- it is one of the entries
  pub there : Contains entries entry
  -- it is at or below s
  pub seen : entry.sequence ≤ s
  -- and so is no entry of its key with a greater number
  pub newest : (other : Entry) → Contains entries other → other.key ≡ entry.key → other.sequence ≤ s
      → other.sequence ≤ entry.sequence

-- the key's newest entry at or below s gives it this value
pub record HasValueAt (entries : List Entry) (s : ℕ) (key value : List ℕ) : Type 0 where
  -- the newest entry of the key
  pub entry : Entry
  -- at or below s
  pub newest : IsNewest entries s entry
  -- it is of this key
  pub key_is : entry.key ≡ key
  -- and gives it this value
  pub value_is : entry.value ≡ Some value

-- the result of a look-up of a key: its value, or none
abbrev pub IsValueAt : List Entry → ℕ → List ℕ → Option (List ℕ) → Type 0
IsValueAt entries s key (Some value) = HasValueAt entries s key value
IsValueAt entries s key None = (value : List ℕ) → HasValueAt entries s key value → ⊥

-- two sets give each key the same value, or none
abbrev pub SameView : List Entry → List Entry → ℕ → Type 0
SameView these those s =
    (key value : List ℕ) → HasValueAt these s key value ↔ HasValueAt those s key value

module _ (cmp : List ℕ → List ℕ → Ordering) where
  -- the key is before all of these
  abbrev pub IsBeforeAll : List ℕ → List Pair → Type 0
  IsBeforeAll key [] = Unit {0}
  IsBeforeAll key (pair ∷ pairs) = (cmp key pair.0 ≡ Less) × IsBeforeAll key pairs

  -- keys rise strictly
  abbrev pub AreRising : List Pair → Type 0
  AreRising [] = Unit {0}
  AreRising (pair ∷ pairs) = IsBeforeAll pair.0 pairs × AreRising pairs

  -- the view: exactly the keys that have a value, with it, sorted by key
  pub record IsView (entries : List Entry) (s : ℕ) (pairs : List Pair) : Type 0 where
    -- sorted by key, and no key twice
    pub sorted : AreRising pairs
    -- the pairs are those of the keys that have a value, and no others
    pub exactly : (key value : List ℕ)
        → Contains pairs (key, value) ↔ HasValueAt entries s key value

-- ---- laws of lists and views

-- lists of the same pairs whose keys rise are one list
abbrev pub OneRisingList : Type 0
OneRisingList = (cmp : List ℕ → List ℕ → Ordering) → IsTotalOrder cmp
    → (these those : List Pair) → AreRising cmp these → AreRising cmp those
    → ((pair : Pair) → Contains these pair ↔ Contains those pair) → these ≡ those

-- two views of one set are equal
abbrev pub OneView : Type 0
OneView = (cmp : List ℕ → List ℕ → Ordering) → IsExactOrder cmp
    → (entries : List Entry) (s : ℕ) (these those : List Pair)
    → IsView cmp entries s these → IsView cmp entries s those → these ≡ those

-- consistent entries have a view at every sequence
abbrev pub EachHasView : Type 0
EachHasView = (cmp : List ℕ → List ℕ → Ordering) → IsExactOrder cmp
    → (entries : List Entry) (s : ℕ) → AreConsistent entries
    → (pairs : List Pair) × IsView cmp entries s pairs

-- entries whose sequences rise are consistent
abbrev pub RisingIsConsistent : Type 0
RisingIsConsistent = (low : ℕ) (entries : List Entry) → RiseAbove low entries
    → AreConsistent entries

-- the entries of a history are consistent
abbrev pub HistoryIsConsistent : Type 0
HistoryIsConsistent = (history : History) → IsHistory history
    → AreConsistent (entries_of history)

-- placed batches are a history exactly if their entries rise strictly in sequence, from 1 on
abbrev pub BatchesAreHistory : Type 0
BatchesAreHistory = (history : History) → All IsPlaced history
    → IsHistory history ↔ RiseAbove 0 (entries_of history)

-- a view of one set is a view of every set that gives the same values
abbrev pub ViewPasses : Type 0
ViewPasses = (cmp : List ℕ → List ℕ → Ordering)
    (these those : List Entry) (s : ℕ) (pairs : List Pair)
    → SameView these those s → IsView cmp these s pairs → IsView cmp those s pairs

-- sets with one view give the same values
abbrev pub SharedViewIsSame : Type 0
SharedViewIsSame = (cmp : List ℕ → List ℕ → Ordering)
    (these those : List Entry) (s : ℕ) (pairs : List Pair)
    → IsView cmp these s pairs → IsView cmp those s pairs → SameView these those s

-- sets that give the same values still do when the same newer entries are added to both
abbrev pub SameWithMore : Type 0
SameWithMore = (these those more : List Entry) (last s : ℕ)
    → AreUpTo last these → AreUpTo last those → AreAbove last more
    → SameView these those s → SameView (these ++ more) (those ++ more) s
