-- Entries one after the other: their pairs, and the last of their keys.
use Rattle.std.proofs.Common.{◌≡◌, ℕ, List, [], ◌∷◌, ◌++◌, length, Option, None, Some, refl, ap, arith}
use Rattle.std.specs.declared.cmp.Ordering.{Ordering}
use Rattle.leveldb_base.specs.Types.{Pair}
use Rattle.leveldb_table.specs.Block.{BlockEntry, key_of, pairs_of, AreEntries, RiseAfter}
use Rattle.leveldb_table.specs.BlockWalk.{last_key}

pub last_key-append : (last : Option (List ℕ)) (xs ys : List BlockEntry) → last_key last (xs ++ ys) ≡ last_key (last_key last xs) ys
last_key-append last [] ys = refl
last_key-append last (x ∷ xs) ys = last_key-append (Some (key_of last x)) xs ys

pub pairs_of-append : (last : Option (List ℕ)) (xs ys : List BlockEntry) → pairs_of last (xs ++ ys) ≡ pairs_of last xs ++ pairs_of (last_key last xs) ys
pairs_of-append last [] ys = refl
pairs_of-append last (x ∷ xs) ys = ap (λ z. (key_of last x, x.value) ∷ z) (pairs_of-append (Some (key_of last x)) xs ys)

pub length-pairs_of : (last : Option (List ℕ)) (entries : List BlockEntry) → length (pairs_of last entries) ≡ length entries
length-pairs_of last [] = refl
length-pairs_of last (entry ∷ entries) = let rest = length-pairs_of (Some (key_of last entry)) entries in omega (arith, rest)

-- entries after others
pub AreEntries-after : (last : Option (List ℕ)) (xs ys : List BlockEntry) → AreEntries last (xs ++ ys) → AreEntries (last_key last xs) ys
AreEntries-after last [] ys h = h
AreEntries-after last (x ∷ xs) ys h = AreEntries-after (Some (key_of last x)) xs ys h.2

pub AreEntries-append : (last : Option (List ℕ)) (xs ys : List BlockEntry) → AreEntries last xs → AreEntries (last_key last xs) ys → AreEntries last (xs ++ ys)
AreEntries-append last [] ys f g = g
AreEntries-append last (x ∷ xs) ys f g = (f.0, f.1, AreEntries-append (Some (key_of last x)) xs ys f.2 g)

-- a key that rises, and those after it
pub rise_parts : (cmp : List ℕ → List ℕ → Ordering) (last : Option (List ℕ)) (pair : Pair) (pairs : List Pair) → RiseAfter cmp last (pair ∷ pairs) → RiseAfter cmp last ((pair.0, []) ∷ []) × RiseAfter cmp (Some pair.0) pairs
rise_parts cmp None pair pairs h = (tt, h)
rise_parts cmp (Some last) pair pairs h = ((h.0, tt), h.1)

pub rise_both : (cmp : List ℕ → List ℕ → Ordering) (last : Option (List ℕ)) (pair : Pair) (pairs : List Pair) → RiseAfter cmp last ((pair.0, []) ∷ []) → RiseAfter cmp (Some pair.0) pairs → RiseAfter cmp last (pair ∷ pairs)
rise_both cmp None pair pairs f g = g
rise_both cmp (Some last) pair pairs f g = (f.0, g)
