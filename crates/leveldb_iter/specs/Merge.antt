-- The merge of sorted lists of pairs, and the positions beside a cut of the keys.
use Rattle.std.specs.Prelude.{◌≡◌, ◌≢◌, ◌↔◌, ◌+◌, ℕ, Bool, true, List, [], ◌∷◌, if◌then◌else◌, Option, Some, All, Any, Contains}
use Rattle.std.specs.Cmp.{IsTotalOrder}
use Rattle.std.specs.declared.cmp.Ordering.TheVariants.{Less, Equal}
use Rattle.leveldb_base.specs.declared.types.Direction.{Direction}
use Rattle.leveldb_base.specs.declared.types.Direction.TheVariants.{Forward, Reverse}
use Rattle.leveldb_base.specs.Types.{Pair, position_within, previous_position}
use Rattle.leveldb_iter.specs.Walk.{KeyOrder, IsSortedIn}

-- ---- the merge

-- a pair of one of these lists
abbrev pub IsPairOf : List (List Pair) → Pair → Type 0
IsPairOf lists pair = Any (λ list. Contains list pair) lists

-- pairs of equal key are the same pair, whichever lists have them
abbrev pub HaveOnePairAKey : KeyOrder → List (List Pair) → Type 0
HaveOnePairAKey order lists =
    (a b : Pair) → IsPairOf lists a → IsPairOf lists b → order.cmp a.0 b.0 ≡ Equal → a ≡ b

-- A merge of sorted lists: sorted, of their pairs alone, and with one of each of their keys. Where
-- pairs of equal key are the same pair, these are all pairs, each once, and there is no other
-- merge.
pub record IsMerge (order : KeyOrder) (lists : List (List Pair)) (merged : List Pair) : Type 0 where
  -- each list is sorted
  pub each : All (IsSortedIn order) lists
  -- the merge is sorted
  pub sorted : IsSortedIn order merged
  -- its pairs are pairs of the lists
  pub from : (pair : Pair) → Contains merged pair → IsPairOf lists pair
  -- and each key of the lists is one of its keys
  pub keys : (pair : Pair) → IsPairOf lists pair
      → (kept : Pair) × Contains merged kept × (order.cmp kept.0 pair.0 ≡ Equal)

-- ---- cuts

-- A cut parts the accepted keys: with a key that is before the cut, so are those at or before it.
abbrev pub IsCut : KeyOrder → (List ℕ → Bool) → Type 0
IsCut order before = (a b : List ℕ) → order.accepts a ≡ true → order.accepts b ≡ true
    → order.cmp b a ≢ Less → before b ≡ true → before a ≡ true

-- how many pairs at the front have a key that is before the cut
abbrev pub count_while : (List ℕ → Bool) → List Pair → ℕ
count_while before [] = 0
count_while before (pair ∷ pairs) = if before pair.0 then count_while before pairs + 1 else 0

-- The position beside a cut: of the first pair after it, or in reverse of the last pair before it.
abbrev pub beside_cut : Direction → (List ℕ → Bool) → List Pair → Option ℕ
beside_cut Forward before pairs = position_within pairs (count_while before pairs)
beside_cut Reverse before pairs = previous_position (Some (count_while before pairs))

-- ---- laws

-- sorted lists have a merge
abbrev pub EachHasMerge : Type 0
EachHasMerge = (order : KeyOrder) → IsTotalOrder order.cmp → (lists : List (List Pair))
    → All (IsSortedIn order) lists → (merged : List Pair) × IsMerge order lists merged

-- where pairs of equal key are the same pair, a merge has exactly the pairs of the lists
abbrev pub MergeIsExact : Type 0
MergeIsExact = (order : KeyOrder) (lists : List (List Pair)) (merged : List Pair)
    → IsMerge order lists merged → HaveOnePairAKey order lists
    → (pair : Pair) → Contains merged pair ↔ IsPairOf lists pair

-- and there is only one
abbrev pub OneMerge : Type 0
OneMerge = (order : KeyOrder) → IsTotalOrder order.cmp → (lists : List (List Pair))
    (these those : List Pair) → IsMerge order lists these → IsMerge order lists those
    → HaveOnePairAKey order lists → these ≡ those
