-- A merge of pairs that represent entries.
use Rattle.std.proofs.Common.{◌≡◌, ◌⊎◌, ⊎_elim, ℕ, ◌<◌, true, List, [], ◌∷◌, ◌++◌, map, length, get_or, refl, sym, ◌∙◌, ap, subst, arith}
use Rattle.std.specs.Prelude.{◌↔◌, All, Contains, Any}
use Rattle.std.specs.Cmp.{IsTotalOrder}
use Rattle.std.proofs.lemmas.Bool.{cases_order}
use Rattle.std.specs.declared.cmp.Ordering.{Ordering}
use Rattle.std.specs.declared.cmp.Ordering.TheVariants.{Less, Equal, Greater}
use Rattle.std.specs.Ordering.{ordering_reverse, ordering_then, nat_cmp}
use Rattle.std.proofs.lemmas.Cmp.{ranked}
use Rattle.std.proofs.lemmas.List.{get_or-map, get_or_default, length-map}
use Rattle.std.proofs.lemmas.List.Elements.{Contains-append_left, Contains-append_right, Contains-append_cases}
use Rattle.leveldb_base.specs.Cmp.{IsExactOrder, IsPreorderOn}
use Rattle.leveldb_base.specs.Entries.{entry_of_pair, entries_of_pairs}
use Rattle.leveldb_base.specs.History.{Entry, entries_of}
use Rattle.leveldb_base.specs.KeyTypes.{internal_cmp, user_part, sequence_part}
use Rattle.leveldb_base.specs.Layers.{AreLayered, IsOlder}
use Rattle.leveldb_base.specs.Types.{Pair}
use Rattle.leveldb_base.proofs.HistoryLemmas.{in_none}
use Rattle.leveldb_base.proofs.EntriesLemmas.{map_in, in_map, rising_is_sorted, internal_is_total}
use Rattle.leveldb_iter.specs.Merge.{HaveOnePairAKey}
use Rattle.leveldb_iter.specs.Walk.{IsSortedIn, KeyOrder}
use Rattle.leveldb_iter.specs.MergedEntries.{internal_order, MergeIsOfEntries, LayersHaveMerge}
use Rattle.leveldb_iter.proofs.MergedLemmas.{any_front, any_rest, any_none, any_cases, each_has_merge, merge_is_exact}
use Rattle.leveldb_iter.proofs.CutLemmas.{one_pair}

-- the entries of all layers are those of each
in_layers : (lists : List (List Pair)) (e : Entry) → Contains (entries_of (map entries_of_pairs lists)) e ↔ Any (λ list. Contains (entries_of_pairs list) e) lists
in_layers [] e = ((λ c. absurd (in_none e c)), (λ any. absurd (any_none any)))
in_layers (list ∷ lists) e = by (in_layers lists e)
  where
    by : Contains (entries_of (map entries_of_pairs lists)) e ↔ Any (λ l. Contains (entries_of_pairs l) e) lists
        → Contains (entries_of_pairs list ++ entries_of (map entries_of_pairs lists)) e ↔ Any (λ l. Contains (entries_of_pairs l) e) (list ∷ lists)
    by more = (
      (λ c. ⊎_elim
          (λ (d : Contains (entries_of_pairs list) e). any_front list lists d)
          (λ (d : Contains (entries_of (map entries_of_pairs lists)) e). any_rest list lists (more.0 d))
          (Contains-append_cases (entries_of_pairs list) (entries_of (map entries_of_pairs lists)) e c)),
      (λ any. ⊎_elim
          (λ (d : Contains (entries_of_pairs list) e). Contains-append_left (entries_of_pairs list) (entries_of (map entries_of_pairs lists)) e d)
          (λ (d : Any (λ l. Contains (entries_of_pairs l) e) lists). Contains-append_right (entries_of_pairs list) (entries_of (map entries_of_pairs lists)) e (more.1 d))
          (any_cases list lists any)),
    )

pub merge_is_of_entries : MergeIsOfEntries
merge_is_of_entries order exact lists merged m one = record {
  sorted = rising_is_sorted order.cmp exact merged ((m.sorted).rising);
  exactly = λ e. (
    (λ c.
        let it = in_map entry_of_pair merged e c in
        let any = m.from it.0 it.1 in
        (in_layers lists e).1 (any.0, any.1, any.2, any.3, subst (λ x. Contains (entries_of_pairs any.1) x) it.2 (map_in entry_of_pair any.1 it.0 any.4))),
    (λ c.
        let any = (in_layers lists e).0 c in
        let it = in_map entry_of_pair any.1 e any.4 in
        subst (λ x. Contains (entries_of_pairs merged) x) it.2 (map_in entry_of_pair merged it.0 ((merge_is_exact (internal_order order) lists merged m one it.0).1 (any.0, any.1, any.2, any.3, it.1)))),
  );
}

-- ---- layers have one pair a key

then_equal : (r t : Ordering) → ordering_then r t ≡ Equal → (r ≡ Equal) × (t ≡ Equal)
then_equal Less t e = absurd cc
then_equal Equal t e = (refl, e)
then_equal Greater t e = absurd cc

number_equal : (m n : ℕ) (o : Ordering) → o ≡ nat_cmp m n → o ≡ Equal → m ≡ n
number_equal m n Less e f = absurd cc
number_equal m n Equal e f = ranked m n Equal e
number_equal m n Greater e f = absurd cc

-- an entry of the older layer has no number of the newer one
not_equal : {A : Type 0} (cmp : List ℕ → List ℕ → Ordering) → IsExactOrder cmp → (newer older : List Pair) → IsOlder (entries_of_pairs older) (entries_of_pairs newer)
    → (a b : Pair) → Contains newer a → Contains older b → internal_cmp cmp a.0 b.0 ≡ Equal → A
not_equal cmp exact newer older rule a b ca cb e =
    let parts = then_equal (cmp (user_part a.0) (user_part b.0)) (nat_cmp (sequence_part b.0) (sequence_part a.0)) e in
    let below = rule (entry_of_pair b) (entry_of_pair a) (map_in entry_of_pair older b cb) (map_in entry_of_pair newer a ca) (sym (exact.exact (user_part a.0) (user_part b.0) parts.0)) in
    let same = number_equal (sequence_part b.0) (sequence_part a.0) (nat_cmp (sequence_part b.0) (sequence_part a.0)) refl parts.1 in
    absurd (omega (arith, below, same))

-- a total order is one of all keys
total_preorder : {cmp : List ℕ → List ℕ → Ordering} → IsTotalOrder cmp → IsPreorderOn (λ key. true) cmp
total_preorder total = record {
  turned = λ a b p q. total.antisymm a b;
  less = λ a b c p q r. total.trans a b c;
  alike = λ a b c p q r. total.congr a b c;
}

layers_have_one_pair : (order : KeyOrder) → IsExactOrder order.cmp → (lists : List (List Pair)) → All (IsSortedIn (internal_order order)) lists → AreLayered (map entries_of_pairs lists)
    → HaveOnePairAKey (internal_order order) lists
layers_have_one_pair order exact lists each layered a b ina inb e = ⊎_elim
    (λ (same : ina.0 ≡ inb.0). in_one same)
    (λ (w : (ina.0 < inb.0) ⊎ (inb.0 < ina.0)). ⊎_elim
    (λ (lt : ina.0 < inb.0). not_equal order.cmp exact ina.1 inb.1 (older ina.0 inb.0 ina.1 inb.1 lt inb.2 ina.3 inb.3) a b ina.4 inb.4 e)
    (λ (gt : inb.0 < ina.0). not_equal order.cmp exact inb.1 ina.1 (older inb.0 ina.0 inb.1 ina.1 gt ina.2 inb.3 ina.3) b a inb.4 ina.4
    (total.antisymm b.0 a.0 ∙ ap ordering_reverse e)) w)
    (cases_order ina.0 inb.0)
  where
    total : IsTotalOrder (internal_cmp order.cmp)
    total = internal_is_total order.cmp exact

    in_one : ina.0 ≡ inb.0 → a ≡ b
    in_one same =
        let list = get_or lists ina.0 ina.1 in
        let is_other : get_or lists ina.0 ina.1 ≡ inb.1 = get_or_default lists ina.0 ina.1 inb.1 ina.2 ∙ ap (λ n. get_or lists n inb.1) same ∙ inb.3 in
        one_pair (total_preorder total) ina.1 (subst (λ (l : List Pair). IsSortedIn (internal_order order) l) ina.3 (each ina.0 ina.1 ina.2)).rising (λ pair c. refl) a b ina.4
        (subst (λ (l : List Pair). Contains l b) (sym is_other ∙ ina.3) inb.4) e

    -- the layer of the greater number is older
    older : (i j : ℕ) (newer old : List Pair) → i < j → j < length lists → get_or lists i newer ≡ newer → get_or lists j old ≡ old → IsOlder (entries_of_pairs old) (entries_of_pairs newer)
    older i j newer old l h e f =
        let d = entries_of_pairs newer in
        let first = get_or-map entries_of_pairs lists i newer d (omega (arith, l, h)) ∙ ap entries_of_pairs e in
        let second = get_or-map entries_of_pairs lists j newer d h ∙ ap entries_of_pairs (get_or_default lists j newer old h ∙ f) in
        subst (λ es. IsOlder es (entries_of_pairs newer)) second
        (subst (λ es. IsOlder (get_or (map entries_of_pairs lists) j d) es) first
        (layered i j d l (subst (λ n. j < n) (sym (length-map lists entries_of_pairs)) h)))

pub layers_have_merge : LayersHaveMerge
layers_have_merge order exact lists each layered =
    let has = each_has_merge (internal_order order) (internal_is_total order.cmp exact) lists each in
    (has.0, has.1, layers_have_one_pair order exact lists each layered)
