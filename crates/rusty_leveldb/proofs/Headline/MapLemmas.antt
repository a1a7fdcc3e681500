-- The map that batches make has the values of the entries that they are.
use Rattle.std.proofs.Common.{◌≡◌, ◌≤◌, ◌+◌, ⊎_elim, inl, inr, ℕ, Bool, true, false, List, [], ◌∷◌, ◌++◌, length, take, refl, sym, ◌∙◌, ap, subst, arith, Some, None, Contains, append-nil, append_assoc, length-append, length-take}
use Rattle.std.specs.Prelude.{◌↔◌, fold, bytes_eq, if◌then◌else◌, nat_le}
use Rattle.std.specs.Cmp.Lexicographic.{bytes_decides}
use Rattle.std.proofs.lemmas.Bool.{leb-true, leb-false}
use Rattle.std.proofs.lemmas.List.{take_all, take-take, take-append-le}
use Rattle.std.proofs.lemmas.List.Elements.{Contains-append_left, Contains-push}
use Rattle.std.proofs.lemmas.List.Sums.{fold-append}
use Rattle.leveldb_base.specs.History.{Item, Entry, History, placed, entries_of, greatest, AreUpTo, HasValueAt}
use Rattle.leveldb_base.proofs.HistoryLemmas.{in_none, AreBelow, last_or, Said, said_of, of_said}
use Rattle.leveldb_files.proofs.Histories.NumbersLemmas.{up_to, entries_more}
use Rattle.rusty_leveldb.specs.Headline.{KeyChange, Batch, Map, with_change, map_of}
use Rattle.rusty_leveldb.specs.Machines.Shown.{changes_of, HasMap, AreShownAs}

-- ---- entries one after another

pub none_shown : HasMap [] (λ key. None)
none_shown s up key value =
    (λ has. absurd (in_none has.entry has.newest.there), λ (is : None ≡ Some value). absurd (cc))

-- an item as an entry, and as a change
abbrev entry_at : ℕ → Item → Entry
entry_at q item = record { sequence = q; key = item.key; value = item.value }

abbrev change_by : Item → KeyChange
change_by item = record { key = item.key; value = item.value }

module _ (es : List Entry) (q : ℕ) (item : Item) (map : Map) (low : AreBelow q es)
    (has : HasMap es map) (s : ℕ) (up : AreUpTo s (es ++ entry_at q item ∷ []))
    (key value : List ℕ) where
  seen : q ≤ s
  seen = up (entry_at q item) (Contains-push es (entry_at q item))

  before : HasValueAt es s key value ↔ (map key ≡ Some value)
  before = has s (λ other c. up other
      (Contains-append_left es (entry_at q item ∷ []) other c)) key value

  by_key : (b : Bool) → bytes_eq item.key key ≡ b
      → HasValueAt (es ++ entry_at q item ∷ []) s key value
      ↔ ((if b then item.value else map key) ≡ Some value)
  by_key true e = (
    λ shows. to (said_of es (entry_at q item) low s key value seen shows),
    λ is. of_said es (entry_at q item) low s key value seen (inl (sym same, is)),
  )
    where
      same : item.key ≡ key
      same = (bytes_decides item.key key).0 e

      to : Said es (entry_at q item) low s key value → item.value ≡ Some value
      to (inl said) = said.1
      to (inr was) = absurd (was.0 (sym same))
  by_key false e = (
    λ shows. to (said_of es (entry_at q item) low s key value seen shows),
    λ is. of_said es (entry_at q item) low s key value seen (inr (differ, before.1 is)),
  )
    where
      differ : key ≡ item.key → ⊥
      differ k = let f : false ≡ true = sym e ∙ (bytes_decides item.key key).1 (sym k) in cc

      to : Said es (entry_at q item) low s key value → map key ≡ Some value
      to (inl said) = absurd (differ said.0)
      to (inr was) = before.0 was.1

one_shown : (es : List Entry) (q : ℕ) (item : Item) (map : Map) → AreBelow q es → HasMap es map
    → HasMap (es ++ entry_at q item ∷ []) (with_change map (change_by item))
one_shown es q item map low has s up key value =
    by_key es q item map low has s up key value (bytes_eq item.key key) refl

below_next : (es : List Entry) (q : ℕ) (item : Item) → AreBelow q es
    → AreBelow (q + 1) (es ++ entry_at q item ∷ [])
below_next es q item low other c = ⊎_elim
    (λ (e : entry_at q item ≡ other). let n = ap (λ (x : Entry). x.sequence) e in omega arith)
    (λ (old : Contains es other). let l = low other old in omega arith)
    (last_or es (entry_at q item) other c)

-- the entries of a batch after those that are shown
pub batch_shown : (items : List Item) (es : List Entry) (q : ℕ) (map : Map) → AreBelow q es
    → HasMap es map → HasMap (es ++ placed q items) (fold with_change map (changes_of items))
batch_shown [] es q map low has = subst (λ x. HasMap x map) (sym (append-nil es)) has
batch_shown (item ∷ items) es q map low has =
    subst (λ x. HasMap x (fold with_change map (changes_of (item ∷ items))))
    (append_assoc es (entry_at q item ∷ []) (placed (q + 1) items))
    (batch_shown items (es ++ entry_at q item ∷ []) (q + 1) (with_change map (change_by item))
    (below_next es q item low) (one_shown es q item map low has))

-- ---- histories

module _ (history : History) (batches : List Batch) (shown : AreShownAs history batches) where
  -- the whole history
  pub whole_shown : HasMap (entries_of history) (map_of batches)
  whole_shown =
      let count = shown.count in
      subst (λ x. HasMap (entries_of history) (map_of x))
      (take_all (length history) batches (omega arith))
      (subst (λ x. HasMap (entries_of x) (map_of (take (length history) batches)))
      (take_all (length history) history (omega arith)) (shown.maps (length history)))

  -- a prefix of it
  pub prefix_shown : (n : ℕ) → AreShownAs (take n history) (take n batches)
  prefix_shown n = record {
    count = let count = shown.count in omega (arith, length-take n history, length-take n batches);
    maps = λ m. by m (nat_le m n) refl;
  }
    where
      by : (m : ℕ) (b : Bool) → nat_le m n ≡ b
          → HasMap (entries_of (take m (take n history))) (map_of (take m (take n batches)))
      by m true e =
          let le = leb-true m n e in
          subst (λ x. HasMap (entries_of (take m (take n history))) (map_of x))
          (sym (take-take m n batches le))
          (subst (λ x. HasMap (entries_of x) (map_of (take m batches)))
          (sym (take-take m n history le)) (shown.maps m))
      by m false e =
          let lt = leb-false m n e in
          subst (λ x. HasMap (entries_of (take m (take n history))) (map_of x))
          (sym (take_all m (take n batches) (omega (arith, length-take n batches))))
          (subst (λ x. HasMap (entries_of x) (map_of (take n batches)))
          (sym (take_all m (take n history) (omega (arith, length-take n history))))
          (shown.maps n))

  module _ (last : ℕ) (items : List Item) (reached : greatest (entries_of history) ≤ last) where
    -- a batch is placed after it
    last_shown : HasMap (entries_of (history ++ placed (last + 1) items ∷ []))
        (map_of (batches ++ changes_of items ∷ []))
    last_shown =
        subst (λ x. HasMap (entries_of (history ++ placed (last + 1) items ∷ [])) x)
        (sym (fold-append (λ map batch. fold with_change map batch) (λ key. None) batches
        (changes_of items ∷ [])))
        (subst (λ x. HasMap x (fold with_change (map_of batches) (changes_of items)))
        (sym (entries_more history (placed (last + 1) items)))
        (batch_shown items (entries_of history) (last + 1) (map_of batches)
        (λ other c. let u = up_to last (entries_of history) reached other c in omega arith)
        whole_shown))

    pub more_shown : AreShownAs (history ++ placed (last + 1) items ∷ [])
        (batches ++ changes_of items ∷ [])
    more_shown = record {
      count = longer;
      maps = λ n. by n (nat_le n (length history)) refl;
    }
      where
        longer : length (batches ++ changes_of items ∷ [])
            ≡ length (history ++ placed (last + 1) items ∷ [])
        longer =
            let count = shown.count in
            omega (
              arith,
              length-append batches (changes_of items ∷ []),
              length-append history (placed (last + 1) items ∷ []),
            )

        by : (n : ℕ) (b : Bool) → nat_le n (length history) ≡ b
            → HasMap (entries_of (take n (history ++ placed (last + 1) items ∷ [])))
            (map_of (take n (batches ++ changes_of items ∷ [])))
        by n true e =
            let le = leb-true n (length history) e in
            let count = shown.count in
            subst (λ x. HasMap (entries_of (take n (history ++ placed (last + 1) items ∷ [])))
            (map_of x)) (sym (take-append-le n batches (changes_of items ∷ []) (omega arith)))
            (subst (λ x. HasMap (entries_of x) (map_of (take n batches)))
            (sym (take-append-le n history (placed (last + 1) items ∷ []) le)) (shown.maps n))
        by n false e =
            let lt = leb-false n (length history) e in
            let l = length-append history (placed (last + 1) items ∷ []) in
            let c = longer in
            subst (λ x. HasMap (entries_of (take n (history ++ placed (last + 1) items ∷ [])))
            (map_of x)) (sym (take_all n (batches ++ changes_of items ∷ []) (omega arith)))
            (subst (λ x. HasMap (entries_of x) (map_of (batches ++ changes_of items ∷ [])))
            (sym (take_all n (history ++ placed (last + 1) items ∷ []) (omega arith)))
            last_shown)
