-- What a cache holds: pairs of keys and values, the one that was used last first.
use Rattle.std.specs.Prelude.{ℕ, zero, suc, ◌-◌, List, ◌∷◌, take, Option, None, Some}
use Rattle.std.specs.Str.{bytes_eq}
use Rattle.std.specs.Map.{lookup, remove_entry}

-- the pairs, how many there may be, and the number that was given last, or 0
pub record Cached (T : Type 0) : Type 0 where
  pub pairs : List (List ℕ × T)
  pub capacity : ℕ
  pub given : ℕ

module _ {T : Type 0} where
  -- the value of a key
  abbrev pub value_of : List ℕ → List (List ℕ × T) → Option T
  value_of key pairs = lookup (bytes_eq key) pairs

  -- the pairs of other keys
  abbrev pub others : List ℕ → List (List ℕ × T) → List (List ℕ × T)
  others key pairs = remove_entry (bytes_eq key) pairs

  -- the pair of a key that was looked for comes first, where there is one
  abbrev pub looked_for : List ℕ → List (List ℕ × T) → List (List ℕ × T)
  looked_for key pairs =
      elim (value_of key pairs) [ None ↦ pairs | Some value ↦ (key, value) ∷ others key pairs ]

  -- A pair that was put comes first; after it are the others, and where its key is new, as many as
  -- there is room for. Where there is room for none, it isn't kept.
  abbrev pub put_first : ℕ → List ℕ → T → List (List ℕ × T) → List (List ℕ × T)
  put_first zero key value pairs = pairs
  put_first (suc room) key value pairs =
      (key, value) ∷ elim (value_of key pairs) [
        | None ↦ take room pairs
        | Some old ↦ others key pairs
      ]

  -- the pairs that leave room for one more: where there is none, the last one goes
  abbrev pub leaving_room : ℕ → List (List ℕ × T) → List (List ℕ × T)
  leaving_room capacity pairs = take (capacity - 1) pairs
