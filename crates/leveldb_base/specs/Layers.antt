-- A look-up of a key in layers of entries, such as memtables and tables, newer ones first. All
-- entries of layers are `entries_of`, as those of a history's batches.
use Rattle.std.specs.Prelude.{◌≡◌, ◌↔◌, ◌<◌, ◌+◌, ℕ, false, List, Some, Contains, AllPairs, length, take, slice_get}
use Rattle.leveldb_base.specs.History.{Entry, entries_of, IsValueAt}
use Rattle.leveldb_base.specs.Entries.{FindsNewest, is_absent, value_found}
use Rattle.leveldb_base.specs.declared.types.Lookup.{Lookup}
use Rattle.leveldb_base.specs.declared.types.Lookup.TheVariants.{Absent}

-- of a key that both have, each entry of the older is below each of the newer
abbrev pub IsOlder : List Entry → List Entry → Type 0
IsOlder older newer =
    (a b : Entry) → Contains older a → Contains newer b → a.key ≡ b.key → a.sequence < b.sequence

-- of two layers the later is older
abbrev pub AreLayered : List (List Entry) → Type 0
AreLayered layers = AllPairs (λ newer older. IsOlder older newer) layers

-- A look-up that goes from layer to layer and ends at the first that has an entry of the key at
-- or below s.
pub record IsSearch (layers : List (List Entry)) (s : ℕ) (key : List ℕ) : Type 0 where
  -- no layer, no entry
  pub starts : FindsNewest (entries_of (take 0 layers)) s key Absent
  -- a layer without an entry of the key adds none
  pub passes : (i : ℕ) (layer : List Entry) → slice_get layers i ≡ Some layer
      → FindsNewest (entries_of (take i layers)) s key Absent → FindsNewest layer s key Absent
      → FindsNewest (entries_of (take (i + 1) layers)) s key Absent
  -- what the first layer that has one finds, all find
  pub stops : (i : ℕ) (layer : List Entry) (found : Lookup (List ℕ)) → is_absent found ≡ false
      → slice_get layers i ≡ Some layer
      → FindsNewest (entries_of (take i layers)) s key Absent
      → FindsNewest layer s key found → FindsNewest (entries_of layers) s key found
  -- after the last layer there is none at all
  pub ends : FindsNewest (entries_of (take (length layers) layers)) s key Absent
      → FindsNewest (entries_of layers) s key Absent

-- ---- laws

-- layers can be looked up so where the newer come first
abbrev pub LayersAreSearched : Type 0
LayersAreSearched = (layers : List (List Entry)) (s : ℕ) (key : List ℕ) → AreLayered layers
    → IsSearch layers s key

-- the value that is found is the key's value
abbrev pub FoundIsValue : Type 0
FoundIsValue = (entries : List Entry) (s : ℕ) (key : List ℕ) (found : Lookup (List ℕ))
    → FindsNewest entries s key found → IsValueAt entries s key (value_found found)

-- what is found of a key depends on its entries alone, so layers without any can be left out
abbrev pub FoundByKey : Type 0
FoundByKey = (these those : List Entry) (s : ℕ) (key : List ℕ) (found : Lookup (List ℕ))
    → ((entry : Entry) → entry.key ≡ key → Contains these entry ↔ Contains those entry)
    → FindsNewest these s key found → FindsNewest those s key found
