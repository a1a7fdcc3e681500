-- Histories and the numbers in them.
use Rattle.leveldb_base.proofs.ConsistentLemmas.{rise_both, rise_front, rise_placed, rising_is_found}
use Rattle.leveldb_base.proofs.HistoryLemmas.{in_cases, in_none}
use Rattle.leveldb_base.specs.History.{AreAbove, AreUpTo, Entry, History, IsHistory, IsPlaced, IsPrefixAtLeast, Item, RiseAbove, entries_of, greatest, placed}
use Rattle.std.proofs.Common.{◌++◌, ◌+◌, ◌<◌, ◌∙◌, ◌∷◌, ◌≡◌, ◌≤◌, List, [], ap, append-nil, arith, drop, length, refl, subst, suc, sym, take, zero, ℕ, ⊎_elim}
use Rattle.std.proofs.lemmas.List.{take-append-drop}
use Rattle.std.proofs.lemmas.List.Concat.{flat_map-append}
use Rattle.std.proofs.lemmas.List.Elements.{All-append, All-nil, All-take}
use Rattle.std.specs.Prelude.{All, Contains, max}

-- ---- the greatest number

pub up_to_greatest : (entries : List Entry) → AreUpTo (greatest entries) entries
up_to_greatest [] entry c = absurd (in_none entry c)
up_to_greatest (first ∷ entries) entry c =
    ⊎_elim
    (λ (e : first ≡ entry). let s : first.sequence ≡ entry.sequence =
    ap (λ (x : Entry). x.sequence) e in omega (arith, s))
    (λ (rest : Contains entries entry). let low = up_to_greatest entries entry rest in omega arith)
    (in_cases first entry entries c)

pub up_to : (n : ℕ) (entries : List Entry) → greatest entries ≤ n → AreUpTo n entries
up_to n entries le = λ entry c. let low = up_to_greatest entries entry c in omega arith

pub greatest_append : (es fs : List Entry) → greatest (es ++ fs) ≡ max (greatest es) (greatest fs)
greatest_append [] fs = omega arith
greatest_append (e ∷ es) fs = ap (max e.sequence) (greatest_append es fs) ∙ omega arith

-- ---- placed batches

pub placed_above : (first : ℕ) (items : List Item) (low : ℕ) → low < first
    → AreAbove low (placed first items)
placed_above first [] low lt entry c = absurd (in_none entry c)
placed_above first (item ∷ items) low lt entry c =
    ⊎_elim
    (λ (e : record { sequence = first; key = item.key; value = item.value } ≡ entry). let s =
    ap (λ (x : Entry). x.sequence) e in omega arith)
    (λ (rest : Contains (placed (first + 1) items) entry). placed_above (first + 1) items low
    (omega arith) entry rest)
    (in_cases _ entry (placed (first + 1) items) c)

pub placed_greatest : (last : ℕ) (items : List Item)
    → greatest (placed (last + 1) items) ≤ last + length items
placed_greatest last [] = omega arith
placed_greatest last (item ∷ items) = let rest = placed_greatest (last + 1) items in omega arith

pub placed_length : (first : ℕ) (items : List Item) → length (placed first items) ≡ length items
placed_length first [] = refl
placed_length first (item ∷ items) = ap suc (placed_length (first + 1) items)

-- ---- histories

pub entries_more : (history : History) (batch : List Entry)
    → entries_of (history ++ batch ∷ []) ≡ entries_of history ++ batch
entries_more history batch = flat_map-append (λ b. b) history (batch ∷ [])
    ∙ ap (λ es. entries_of history ++ es) (append-nil batch)

rise_more : (low last : ℕ) (entries : List Entry) (items : List Item) → low ≤ last
    → greatest entries ≤ last → RiseAbove low entries
    → RiseAbove low (entries ++ placed (last + 1) items)
rise_more low last entries items a b r =
    rise_both low entries (placed (last + 1) items) r
    (rise_placed (max low (greatest entries)) (last + 1) items (omega (arith, a, b)))

-- the batch after it is one placed batch
one_placed : (last : ℕ) (items : List Item) → All IsPlaced (placed (last + 1) items ∷ [])
one_placed last items k d lt = let at : k ≡ 0 = omega arith in rw at (last + 1, items, refl)

-- a history and a batch placed after it are a history
pub history_more : (history : History) (last : ℕ) (items : List Item)
    → greatest (entries_of history) ≤ last → IsHistory history
    → IsHistory (history ++ placed (last + 1) items ∷ [])
history_more [] last items reached is = record {
  begins =
      rising_is_found (placed (last + 1) items) (rise_placed 0 (last + 1) items (omega arith));
  placed = All-nil IsPlaced;
  rising = tt;
}
history_more (first ∷ later) last items reached is = record {
  begins = is.begins;
  placed =
      All-append IsPlaced later (placed (last + 1) items ∷ []) is.placed (one_placed last items);
  rising =
      subst (RiseAbove (greatest first)) (sym (entries_more later (placed (last + 1) items)))
      (rise_more (greatest first) last (entries_of later) items (omega (arith, both))
      (omega (arith, both)) is.rising);
}
  where
    both : max (greatest first) (greatest (entries_of later)) ≤ last
    both = subst (λ n. n ≤ last) (greatest_append first (entries_of later)) reached

-- a prefix and what is after it
pub entries_split : (n : ℕ) (history : History)
    → entries_of history ≡ entries_of (take n history) ++ entries_of (drop n history)
entries_split n history = ap entries_of (sym (take-append-drop n history))
    ∙ flat_map-append (λ b. b) (take n history) (drop n history)

-- a prefix of a history is one
history_front : (n : ℕ) (history : History) → IsHistory history → IsHistory (take n history)
history_front zero history is = tt
history_front (suc n) [] is = tt
history_front (suc n) (first ∷ later) is = record {
  begins = is.begins;
  placed = All-take IsPlaced n later is.placed;
  rising =
      rise_front (greatest first) (entries_of (take n later)) (entries_of (drop n later))
      (subst (RiseAbove (greatest first)) (entries_split n later) is.rising);
}

pub history_part : (least : ℕ) (whole part : History) → IsHistory whole
    → IsPrefixAtLeast least whole part → IsHistory part
history_part least whole part is prefix =
    subst IsHistory (sym prefix.first) (history_front prefix.count whole is)

-- its numbers go no further
pub greatest_part : (least : ℕ) (whole part : History) → IsPrefixAtLeast least whole part
    → greatest (entries_of part) ≤ greatest (entries_of whole)
greatest_part least whole part prefix =
    let split = ap greatest (entries_split prefix.count whole)
    ∙ greatest_append (entries_of (take prefix.count whole))
    (entries_of (drop prefix.count whole)) in
    let here = ap (λ (h : History). greatest (entries_of h)) prefix.first in
    omega arith
