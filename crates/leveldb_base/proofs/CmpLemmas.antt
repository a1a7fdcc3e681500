-- The raised keys of the bytewise comparator by the index of the byte that is raised.
use Rattle.std.proofs.Common.{◌≡◌, ◌≢◌, ℕ, zero, suc, ◌+◌, ◌<◌, ◌≤◌, true, false, nat_eq, nat_lt, List, [], ◌∷◌, Option, Some, None, refl, arith, length, get_or, set}
use Rattle.std.specs.Option.{option_map, MatchOption}
use Rattle.std.proofs.lemmas.Bool.{eq-eqb, ne_eqb, lt-ltb, le-ltb}
use Rattle.leveldb_base.specs.Cmp.{raised_at, raised_between, raised_last, raised_first}

-- each byte leaves no room below the other key's
abbrev LeavesNone : List ℕ → List ℕ → ℕ → Type 0
LeavesNone a b k = get_or b k 0 ≤ get_or a k 0 + 1

raised_between-none : (a b : List ℕ) → ((k : ℕ) → k < length a → k < length b → LeavesNone a b k) → raised_between a b ≡ None
raised_between-none [] b tight = refl
raised_between-none (x ∷ a) [] tight = refl
raised_between-none (x ∷ a) (y ∷ b) tight =
    let tail : raised_between a b ≡ None = raised_between-none a b (λ k h g. tight (suc k) (omega arith) (omega arith)) in
    let head : nat_lt (x + 1) y ≡ false = le-ltb (x + 1) y (tight 0 (omega arith) (omega arith)) in
    rw (head, tail) refl

raised_between-at : (a b : List ℕ) (i : ℕ) → i < length a → i < length b → get_or a i 0 + 1 < get_or b i 0 → ((k : ℕ) → k < i → LeavesNone a b k) → raised_between a b ≡ Some (raised_at a i)
raised_between-at [] b i h g room tight = absurd (omega arith)
raised_between-at (x ∷ a) [] i h g room tight = absurd (omega arith)
raised_between-at (x ∷ a) (y ∷ b) zero h g room tight =
    let head : nat_lt (x + 1) y ≡ true = lt-ltb (x + 1) y room in
    rw head refl
raised_between-at (x ∷ a) (y ∷ b) (suc i) h g room tight =
    let tail : raised_between a b ≡ Some (raised_at a i) = raised_between-at a b i (omega arith) (omega arith) room (λ k below. tight (suc k) (omega arith)) in
    let head : nat_lt (x + 1) y ≡ false = le-ltb (x + 1) y (tight 0 (omega arith)) in
    rw (head, tail) refl

-- the first index that leaves room is the one that is raised
pub raised_between-index : (a b : List ℕ) (index : Option ℕ)
    → MatchOption index ((k : ℕ) → k < length a → k < length b → get_or b k 0 ≤ get_or a k 0 + 1)
    (λ i. (i < length a) × (i < length b) × (get_or a i 0 + 1 < get_or b i 0) × ((k : ℕ) → k < i → get_or b k 0 ≤ get_or a k 0 + 1))
    → raised_between a b ≡ option_map (raised_at a) index
raised_between-index a b None h = raised_between-none a b h
raised_between-index a b (Some i) h = raised_between-at a b i h.0 h.1 h.2 h.3

raised_first-none : (a : List ℕ) → ((k : ℕ) → k < length a → get_or a k 0 ≡ 0xff) → raised_first a ≡ None
raised_first-none [] full = refl
raised_first-none (x ∷ a) full =
    let tail : raised_first a ≡ None = raised_first-none a (λ k h. full (suc k) (omega arith)) in
    let head : nat_eq x 0xff ≡ true = eq-eqb x 0xff (full 0 (omega arith)) in
    rw (head, tail) refl

raised_first-at : (a : List ℕ) (i : ℕ) → i < length a → get_or a i 0 ≢ 0xff → ((k : ℕ) → k < i → get_or a k 0 ≡ 0xff) → raised_first a ≡ Some (raised_at a i)
raised_first-at [] i h low full = absurd (omega arith)
raised_first-at (x ∷ a) zero h low full =
    let head : nat_eq x 0xff ≡ false = ne_eqb x 0xff low in
    rw head refl
raised_first-at (x ∷ a) (suc i) h low full =
    let tail : raised_first a ≡ Some (raised_at a i) = raised_first-at a i (omega arith) low (λ k below. full (suc k) (omega arith)) in
    let head : nat_eq x 0xff ≡ true = eq-eqb x 0xff (full 0 (omega arith)) in
    rw (head, tail) refl

-- the first byte that isn't 0xff is the one that is raised
pub raised_first-index : (a : List ℕ) (index : Option ℕ)
    → MatchOption index ((k : ℕ) → k < length a → get_or a k 0 ≡ 0xff) (λ i. (i < length a) × (get_or a i 0 ≢ 0xff) × ((k : ℕ) → k < i → get_or a k 0 ≡ 0xff))
    → raised_first a ≡ option_map (raised_at a) index
raised_first-index a None h = raised_first-none a h
raised_first-index a (Some i) h = raised_first-at a i h.0 h.1 h.2

raised_last-none : (a : List ℕ) → ((k : ℕ) → k < length a → get_or a k 0 ≡ 0xff) → raised_last a ≡ None
raised_last-none [] full = refl
raised_last-none (x ∷ a) full =
    let tail : raised_last a ≡ None = raised_last-none a (λ k h. full (suc k) (omega arith)) in
    let head : nat_eq x 0xff ≡ true = eq-eqb x 0xff (full 0 (omega arith)) in
    rw (tail, head) refl

raised_last-at : (a : List ℕ) (i : ℕ) → i < length a → get_or a i 0 ≢ 0xff → ((k : ℕ) → i < k → k < length a → get_or a k 0 ≡ 0xff) → raised_last a ≡ Some (set a i (get_or a i 0 + 1))
raised_last-at [] i h low full = absurd (omega arith)
raised_last-at (x ∷ a) zero h low full =
    let tail : raised_last a ≡ None = raised_last-none a (λ k h. full (suc k) (omega arith) (omega arith)) in
    let head : nat_eq x 0xff ≡ false = ne_eqb x 0xff low in
    rw (tail, head) refl
raised_last-at (x ∷ a) (suc i) h low full =
    let tail : raised_last a ≡ Some (set a i (get_or a i 0 + 1)) = raised_last-at a i (omega arith) low (λ k above below. full (suc k) (omega arith) (omega arith)) in
    rw tail refl

-- the last byte that isn't 0xff is the one that is raised
pub raised_last-index : (a : List ℕ) (index : Option ℕ)
    → MatchOption index ((k : ℕ) → k < length a → get_or a k 0 ≡ 0xff) (λ i. (i < length a) × (get_or a i 0 ≢ 0xff) × ((k : ℕ) → i < k → k < length a → get_or a k 0 ≡ 0xff))
    → raised_last a ≡ option_map (λ i. set a i (get_or a i 0 + 1)) index
raised_last-index a None h = raised_last-none a h
raised_last-index a (Some i) h = raised_last-at a i h.0 h.1 h.2
