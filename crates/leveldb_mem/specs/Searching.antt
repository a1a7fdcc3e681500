-- Indices in a list of pairs, by a test of their keys.
use Rattle.std.specs.Prelude.{◌≡◌, ℕ, ◌+◌, ◌<◌, ◌≤◌, Bool, true, List, [], ◌∷◌, if◌then◌else◌}
use Rattle.std.specs.Prelude.{length, slice_index_or}
use Rattle.leveldb_base.specs.Types.{Pair}

-- the key at an index
abbrev pub key_at : List Pair → ℕ → List ℕ
key_at pairs i = let pair = slice_index_or pairs i ([], []) in pair.0

-- how many pairs at the front have a key that passes
abbrev pub count_while : (List ℕ → Bool) → List Pair → ℕ
count_while test [] = 0
count_while test (pair ∷ pairs) = if test pair.0 then count_while test pairs + 1 else 0

-- where a key passes, those before it do
abbrev pub IsParted : (List ℕ → Bool) → List Pair → Type 0
IsParted test pairs = (i j : ℕ) → i ≤ j → j < length pairs → test (key_at pairs j) ≡ true
    → test (key_at pairs i) ≡ true
