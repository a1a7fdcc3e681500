-- Keys that are stored one after another, and why a filter of them is not made.
use Rattle.std.specs.Prelude.{◌≡◌, ◌⊎◌, ℕ, List, [], ◌∷◌, length, slice_range}
use Rattle.leveldb_base.specs.declared.error.Status.{Status}
use Rattle.leveldb_base.specs.declared.error.StatusCode.TheVariants.{NotSupported}
use Rattle.leveldb_base.specs.Error.{IsOutOfMemory}

-- the first of these offsets, or the end
abbrev pub first_offset : List ℕ → ℕ → ℕ
first_offset [] end = end
first_offset (offset ∷ offsets) end = offset

-- each key goes from its offset on to the next one, or to the end
abbrev pub keys_at : List ℕ → List ℕ → List (List ℕ)
keys_at [] keys = []
keys_at (offset ∷ offsets) keys = slice_range keys offset
    (first_offset offsets (length keys)) ∷ keys_at offsets keys

-- out of memory; or the filter would have more bits than one can have
abbrev pub IsFilterError : Type 0 → Status → Type 0
IsFilterError too_large status = IsOutOfMemory status ⊎ ((status.code ≡ NotSupported) × too_large)
