-- The view of sorted entries, as it is read from the first to the last.
use Rattle.std.specs.Prelude.{◌&&◌, ℕ, Bool, false, not, if◌then◌else◌, nat_le, List, [], ◌∷◌, ◌++◌, Option, Some, None}
use Rattle.std.specs.Str.{bytes_eq}
use Rattle.std.specs.declared.cmp.Ordering.{Ordering}
use Rattle.leveldb_base.specs.Cmp.{IsExactOrder}
use Rattle.leveldb_base.specs.Types.{Pair}
use Rattle.leveldb_base.specs.History.{Entry, IsView}
use Rattle.leveldb_base.specs.Entries.{AreSorted}

-- the pair of a key that has a value; a deletion has none
abbrev pub pair_for : List ℕ → Option (List ℕ) → List Pair
pair_for key None = []
pair_for key (Some value) = (key, value) ∷ []

-- whether the key is the one whose older entries are skipped
abbrev pub is_skipped : Option (List ℕ) → List ℕ → Bool
is_skipped None key = false
is_skipped (Some skip) key = bytes_eq skip key

-- whether an entry is at or below s and not of the key to skip: then it is the newest of its key
abbrev pub is_newest : ℕ → Option (List ℕ) → Entry → Bool
is_newest s skip entry = nat_le entry.sequence s && not (is_skipped skip entry.key)

-- of each key but `skip` the first entry at or below s, where it has a value
abbrev pub shown_in : ℕ → Option (List ℕ) → List Entry → List Pair
shown_in s skip [] = []
shown_in s skip (entry ∷ entries) =
    if is_newest s skip entry
    then pair_for entry.key entry.value ++ shown_in s (Some entry.key) entries
    else shown_in s skip entries

-- of each key the first entry at or below s, where it has a value
abbrev pub view_of : ℕ → List Entry → List Pair
view_of s entries = shown_in s None entries

-- of sorted entries, these pairs are the view
abbrev pub SortedHasView : Type 0
SortedHasView = (cmp : List ℕ → List ℕ → Ordering) → IsExactOrder cmp
    → (entries : List Entry) (s : ℕ) → AreSorted cmp entries
    → IsView cmp entries s (view_of s entries)
