-- A filter block has one list of filters. A ghost field of `FilterBlockReader` cites
-- `HasFiltersEndingAt-prop`, where the checker takes no term of proofs/; the rest is what it stands
-- on.
use Rattle.std.proofs.Common.{◌≡◌, ℕ, ◌+◌, ◌^◌, ◌<◌, List, [], ◌∷◌, ◌++◌, length, get_or, flat_map, refl, sym, ◌∙◌, ap, arith, append_assoc, length-append}
use Rattle.std.specs.List.{All, concat}
use Rattle.std.proofs.lemmas.List.{append-nil}
use Rattle.std.proofs.lemmas.List.Elements.{All-nil, All-cons, All-head, All-tail}
use Rattle.byteorder.specs.Endian.{little_from}
use Rattle.byteorder.specs.Numbers.{little_number-reads_back}
use Rattle.leveldb_base.specs.Varint.{little}
use Rattle.leveldb_base.proofs.VarintLemmas.{apart, apart_right}
use Rattle.leveldb_env.specs.FilterBlock.{offsets_from, filter_block, FilterBlocksAreInjective, places_from, IsBlockEndingAt, HasFiltersEndingAt}
use Rattle.std.proofs.Props.{props}
use mathlib.Core.HLevel.{Σ_prop_path}

-- ---- numbers of four bytes each

pub one_fixed : (m n : ℕ) (x y : List ℕ) → m < 2 ^ 32 → n < 2 ^ 32
    → little 4 m ++ x ≡ little 4 n ++ y → (m ≡ n) × (x ≡ y)
one_fixed m n x y hm hn e = (
  sym (little_number-reads_back 4 m x (omega (arith, hm))) ∙ ap (little_from 0 4) e
      ∙ little_number-reads_back 4 n y (omega (arith, hn)),
  (apart (little 4 m) (little 4 n) x y refl e).1,
)

pub one_numbers : (ms ns : List ℕ) → All (λ n. n < 2 ^ 32) ms → All (λ n. n < 2 ^ 32) ns
    → flat_map (little 4) ms ≡ flat_map (little 4) ns → ms ≡ ns
one_numbers [] [] hm hn e = refl
one_numbers [] (n ∷ ns) hm hn e = absurd (omega (arith, ap length e))
one_numbers (m ∷ ms) [] hm hn e = absurd (omega (arith, ap length e))
one_numbers (m ∷ ms) (n ∷ ns) hm hn e =
    let first = one_fixed m n (flat_map (little 4) ms) (flat_map (little 4) ns) (All-head
    (λ z. z < 2 ^ 32) m ms hm) (All-head (λ z. z < 2 ^ 32) n ns hn) e in
    ap (λ z. z ∷ ms) first.0
    ∙ ap (λ z. n ∷ z) (one_numbers ms ns (All-tail (λ z. z < 2 ^ 32) m ms hm) (All-tail
    (λ z. z < 2 ^ 32) n ns hn) first.1)

-- ---- where texts begin

pub length-places : (at : ℕ) (texts : List (List ℕ))
    → length (places_from at texts) ≡ length texts + 1
length-places at [] = refl
length-places at (text ∷ texts) = let rest = length-places (at + length text) texts in omega
    (arith, rest)

pub first_place : (at : ℕ) (texts : List (List ℕ)) → get_or (places_from at texts) 0 0 ≡ at
first_place at [] = refl
first_place at (text ∷ texts) = refl

pub places_small : (at limit : ℕ) (texts : List (List ℕ)) → at + length (concat texts) < limit
    → All (λ n. n < limit) (places_from at texts)
places_small at limit [] h = All-cons
    (λ n. n < limit) at [] (omega (arith, h)) (All-nil (λ n. n < limit))
places_small at limit (text ∷ texts) h =
    let size = length-append text (concat texts) in
    All-cons (λ n. n < limit) at (places_from (at + length text) texts) (omega (arith, h))
    (places_small (at + length text) limit texts (omega (arith, h, size)))

-- the offsets, and where these begin, are the places
offsets_end : (at : ℕ) (texts : List (List ℕ))
    → flat_map (little 4) (offsets_from at texts) ++ little 4
    (at + length (concat texts)) ≡ flat_map (little 4) (places_from at texts)
offsets_end at [] = let same : at + 0 ≡ at = omega arith in ap (little 4) same
    ∙ sym (append-nil (little 4 at))
offsets_end at (text ∷ texts) =
    let size : at + length (text ++ concat texts) ≡ (at + length text) + length
    (concat texts) = omega (arith, length-append text (concat texts)) in
    append_assoc (little 4 at) (flat_map (little 4) (offsets_from (at + length text) texts))
    (little 4 (at + length (text ++ concat texts)))
    ∙ ap (λ z. little 4 at ++
    (flat_map (little 4) (offsets_from (at + length text) texts) ++ little 4 z)) size
    ∙ ap (λ z. little 4 at ++ z) (offsets_end (at + length text) texts)

-- a filter block in three parts
pub by_places : (filters : List (List ℕ))
    → filter_block filters ≡ concat filters ++
    (flat_map (little 4) (places_from 0 filters) ++ 11 ∷ [])
unfolding filter_block
by_places filters =
    let begin = flat_map (little 4) (offsets_from 0 filters) in
    let end = little 4 (length (concat filters)) in
    let same : length (concat filters) ≡ 0 + length (concat filters) = omega arith in
    ap (λ z. concat filters ++ z) (sym (append_assoc begin end (11 ∷ [])))
    ∙ ap (λ z. concat filters ++ ((begin ++ little 4 z) ++ 11 ∷ [])) same
    ∙ ap (λ z. concat filters ++ (z ++ 11 ∷ [])) (offsets_end 0 filters)

-- ---- one reading

-- texts are determined by their bytes and places
one_texts : (at : ℕ) (xs ys : List (List ℕ)) → concat xs ≡ concat ys
    → places_from at xs ≡ places_from at ys → xs ≡ ys
one_texts at [] [] e p = refl
one_texts at [] (y ∷ ys) e p = absurd (omega (arith, ap length p, length-places (at + length y) ys))
one_texts at (x ∷ xs) [] e p = absurd (omega (arith, ap length p, length-places (at + length x) xs))
one_texts at (x ∷ xs) (y ∷ ys) e p =
    let rest : places_from (at + length x) xs ≡ places_from (at + length y) ys = cc in
    let begin = sym (first_place (at + length x) xs) ∙ ap (λ z. get_or z 0 0) rest
    ∙ first_place (at + length y) ys in
    let parts = apart x y (concat xs) (concat ys) (omega (arith, begin)) e in
    ap (λ z. z ∷ xs) parts.0
    ∙ ap (λ z. y ∷ z) (one_texts (at + length x) xs ys parts.1 (rest
    ∙ ap (λ z. places_from z ys) (sym begin)))

-- where the filters end
one_end : (xs ys : List (List ℕ)) → length (concat xs) < 2 ^ 32 → length (concat ys) < 2 ^ 32
    → filter_block xs ≡ filter_block ys → length (concat xs) ≡ length (concat ys)
unfolding filter_block
one_end xs ys hx hy e =
    let a = concat xs in
    let b = concat ys in
    let p = flat_map (little 4) (offsets_from 0 xs) in
    let q = flat_map (little 4) (offsets_from 0 ys) in
    let m = little 4 (length a) ++ 11 ∷ [] in
    let n = little 4 (length b) ++ 11 ∷ [] in
    let last = (apart_right (a ++ p) (b ++ q) m n refl (append_assoc a p m ∙ e
    ∙ sym (append_assoc b q n))).1 in
    (one_fixed (length a) (length b) (11 ∷ []) (11 ∷ []) hx hy last).0

pub one_reading : FilterBlocksAreInjective
one_reading bytes xs ys f g =
    let same = sym f.encoded ∙ g.encoded in
    let end = one_end xs ys f.fits g.fits same in
    let p = flat_map (little 4) (places_from 0 xs) in
    let q = flat_map (little 4) (places_from 0 ys) in
    let parts = apart (concat xs) (concat ys) (p ++ 11 ∷ []) (q ++ 11 ∷ []) end (sym (by_places xs)
    ∙ same ∙ by_places ys) in
    let places = (apart_right p q (11 ∷ []) (11 ∷ []) refl parts.1).0 in
    one_texts 0 xs ys parts.0
    (one_numbers (places_from 0 xs) (places_from 0 ys)
    (places_small 0 (2 ^ 32) xs (omega (arith, f.fits)))
    (places_small 0 (2 ^ 32) ys (omega (arith, g.fits))) places)

IsBlockEndingAt-prop : (bytes : List ℕ) (limit : ℕ) (filters : List (List ℕ))
    → IsProp (IsBlockEndingAt bytes limit filters)
IsBlockEndingAt-prop bytes limit filters = hlevel props

-- a filter block is held in one way
pub HasFiltersEndingAt-prop : (bytes : List ℕ) (limit : ℕ) → IsProp (HasFiltersEndingAt bytes limit)
HasFiltersEndingAt-prop bytes limit = λ u v. Σ_prop_path (IsBlockEndingAt-prop bytes limit)
    (one_reading bytes u.0 v.0 u.1.block v.1.block)
