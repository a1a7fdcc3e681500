-- A look-up of a key in layers of entries, newer ones first.
use Rattle.std.proofs.Common.{◌≡◌, ⊎_elim, ℕ, zero, suc, ◌<◌, false, List, [], ◌∷◌, ◌++◌, length, take, sym, ◌∙◌, ap, subst, arith, add-one, Option, Some, None}
use Rattle.std.specs.Prelude.{◌↔◌, Contains, slice_get}
use Rattle.std.proofs.lemmas.List.Elements.{Contains-append_left, Contains-append_right, Contains-append_cases}
use Rattle.std.proofs.lemmas.List.{take_all}
use Rattle.leveldb_base.specs.History.{Entry, entries_of}
use Rattle.leveldb_base.specs.declared.types.Lookup.{Lookup}
use Rattle.leveldb_base.specs.declared.types.Lookup.TheVariants.{Value, Deleted, Absent}
use Rattle.leveldb_base.specs.Entries.{HasNewest, FindsNewest, is_absent}
use Rattle.leveldb_base.specs.Layers.{IsOlder, AreLayered, LayersAreSearched, FoundIsValue, FoundByKey}
use Rattle.leveldb_base.proofs.HistoryLemmas.{in_none, in_front, in_rest}
use Rattle.leveldb_base.proofs.EntriesLemmas.{finds_after, newest_after}

-- what newer entries find of a key, they find together with older ones
finds_before : (xs ys : List Entry) (s : ℕ) (key : List ℕ) (value : Option (List ℕ)) → IsOlder ys xs → HasNewest xs s key value → HasNewest (xs ++ ys) s key value
finds_before xs ys s key value older has = record {
  entry = has.entry;
  newest = record {
    there = Contains-append_left xs ys has.entry has.newest.there;
    seen = has.newest.seen;
    newest = λ other c k seen.
        ⊎_elim
        (λ (d : Contains xs other). has.newest.newest other d k seen)
        (λ (d : Contains ys other). let below = older other has.entry d has.newest.there k in omega arith)
        (Contains-append_cases xs ys other c);
  };
  key_is = has.key_is;
  value_is = has.value_is;
  only = λ other newest k. has.only other (record {
    there =
        ⊎_elim
        (λ (d : Contains xs other). d)
        (λ (d : Contains ys other).
        let below = older other has.entry d has.newest.there (k ∙ sym has.key_is) in
        let above = newest.newest has.entry (Contains-append_left xs ys has.entry has.newest.there) (has.key_is ∙ sym k) has.newest.seen in
        absurd (omega arith))
        (Contains-append_cases xs ys other newest.there);
    seen = newest.seen;
    newest = λ more c l seen. newest.newest more (Contains-append_left xs ys more c) l seen;
  }) k;
}

-- so an entry that newer entries find
pub finds_first : (xs ys : List Entry) (s : ℕ) (key : List ℕ) (found : Lookup (List ℕ)) → is_absent found ≡ false → IsOlder ys xs → FindsNewest xs s key found → FindsNewest (xs ++ ys) s key found
finds_first xs ys s key Absent some older has = absurd cc
finds_first xs ys s key Deleted some older has = finds_before xs ys s key None older has
finds_first xs ys s key (Value value) some older has = finds_before xs ys s key (Some value) older has

in_all : (layers : List (List Entry)) (e : Entry) → Contains (entries_of layers) e → (layer : List Entry) × Contains layers layer × Contains layer e
in_all [] e c = absurd (in_none e c)
in_all (layer ∷ layers) e c =
    ⊎_elim
    (λ (d : Contains layer e). (layer, in_front layer layers, d))
    (λ (d : Contains (entries_of layers) e). let from = in_all layers e d in (from.0, in_rest layer from.0 layers from.1, from.2))
    (Contains-append_cases layer (entries_of layers) e c)

later_layered : (layer : List Entry) (layers : List (List Entry)) → AreLayered (layer ∷ layers) → AreLayered layers
later_layered layer layers layered i j d l h = layered (suc i) (suc j) d (omega arith) (omega arith)

older_rest : (layer : List Entry) (layers : List (List Entry)) → AreLayered (layer ∷ layers) → IsOlder (entries_of layers) layer
older_rest layer layers layered a b c d k =
    let from = in_all layers a c in
    let i = from.1.0 in
    let within : suc i < suc (length layers) = let h = from.1.1 in omega arith in
    subst (λ (older : List Entry). IsOlder older layer) from.1.2 (layered zero (suc i) from.0 (omega arith) within) a b from.2 d k

stops_at : (layers : List (List Entry)) (s : ℕ) (key : List ℕ) → AreLayered layers → (i : ℕ) (layer : List Entry) (value : Option (List ℕ)) → slice_get layers i ≡ Some layer
    → FindsNewest (entries_of (take i layers)) s key Absent → HasNewest layer s key value → HasNewest (entries_of layers) s key value
stops_at [] s key layered i layer value e none has = absurd cc
stops_at (one ∷ layers) s key layered zero layer value e none has =
    let is : layer ≡ one = cc in
    finds_before one (entries_of layers) s key value (older_rest one layers layered) (subst (λ (x : List Entry). HasNewest x s key value) is has)
stops_at (one ∷ layers) s key layered (suc i) layer value e none has =
    newest_after one (entries_of layers) s key value (λ x c. none x (Contains-append_left one (entries_of (take i layers)) x c))
    (stops_at layers s key (later_layered one layers layered) i layer value e (λ x c. none x (Contains-append_right one (entries_of (take i layers)) x c)) has)

passes_over : (layers : List (List Entry)) (s : ℕ) (key : List ℕ) (i : ℕ) (layer : List Entry) → slice_get layers i ≡ Some layer
    → FindsNewest (entries_of (take i layers)) s key Absent → FindsNewest layer s key Absent → FindsNewest (entries_of (take (suc i) layers)) s key Absent
passes_over [] s key i layer e none more = absurd cc
passes_over (one ∷ layers) s key zero layer e none more =
    let is : layer ≡ one = cc in
    finds_after one [] s key Absent (subst (λ (x : List Entry). FindsNewest x s key Absent) is more) (λ x c k seen. absurd (in_none x c))
passes_over (one ∷ layers) s key (suc i) layer e none more =
    finds_after one (entries_of (take (suc i) layers)) s key Absent (λ x c. none x (Contains-append_left one (entries_of (take i layers)) x c))
    (passes_over layers s key i layer e (λ x c. none x (Contains-append_right one (entries_of (take i layers)) x c)) more)

-- so with the entry that is found
stops_found : (layers : List (List Entry)) (s : ℕ) (key : List ℕ) → AreLayered layers → (i : ℕ) (layer : List Entry) (found : Lookup (List ℕ)) → is_absent found ≡ false → slice_get layers i ≡ Some layer
    → FindsNewest (entries_of (take i layers)) s key Absent → FindsNewest layer s key found → FindsNewest (entries_of layers) s key found
stops_found layers s key layered i layer Absent some e none has = absurd cc
stops_found layers s key layered i layer Deleted some e none has = stops_at layers s key layered i layer None e none has
stops_found layers s key layered i layer (Value value) some e none has = stops_at layers s key layered i layer (Some value) e none has

pub layers_are_searched : LayersAreSearched
layers_are_searched layers s key layered = record {
  starts = λ e c k seen. in_none e c;
  passes = λ i layer e none more. subst (λ n. FindsNewest (entries_of (take n layers)) s key Absent) (sym (add-one i)) (passes_over layers s key i layer e none more);
  stops = λ i layer found some e none has. stops_found layers s key layered i layer found some e none has;
  ends = λ none. subst (λ x. FindsNewest (entries_of x) s key Absent) (take_all (length layers) layers (omega arith)) none;
}

-- ---- what is found

pub found_is_value : FoundIsValue
found_is_value entries s key Absent none = λ value shows. none shows.entry shows.newest.there shows.key_is shows.newest.seen
found_is_value entries s key Deleted has =
    λ value shows. let same = has.only shows.entry shows.newest shows.key_is in
    let f : Some value ≡ None = sym shows.value_is ∙ ap (λ (x : Entry). x.value) same ∙ has.value_is in cc
found_is_value entries s key (Value value) has = record { entry = has.entry; newest = has.newest; key_is = has.key_is; value_is = has.value_is }

-- the newest entry of a key depends on the key's entries alone
newest_by_key : (these those : List Entry) (s : ℕ) (key : List ℕ) (value : Option (List ℕ)) → ((entry : Entry) → entry.key ≡ key → Contains these entry ↔ Contains those entry)
    → HasNewest these s key value → HasNewest those s key value
newest_by_key these those s key value same has = record {
  entry = has.entry;
  newest = record {
    there = (same has.entry has.key_is).0 has.newest.there;
    seen = has.newest.seen;
    newest = λ other c k seen. has.newest.newest other ((same other (k ∙ has.key_is)).1 c) k seen;
  };
  key_is = has.key_is;
  value_is = has.value_is;
  only = λ other newest k. has.only other (record {
    there = (same other k).1 newest.there;
    seen = newest.seen;
    newest = λ more c l seen. newest.newest more ((same more (l ∙ k)).0 c) l seen;
  }) k;
}

pub found_by_key : FoundByKey
found_by_key these those s key Absent same none = λ entry c k seen. none entry ((same entry k).1 c) k seen
found_by_key these those s key Deleted same has = newest_by_key these those s key None same has
found_by_key these those s key (Value value) same has = newest_by_key these those s key (Some value) same has
