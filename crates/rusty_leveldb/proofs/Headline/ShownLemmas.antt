-- What a state shows: its pending batch, the snapshots that are held, and what its reads find.
use Rattle.std.proofs.Common.{◌≡◌, ◌≤◌, ◌+◌, ⊎_elim, ℕ, List, [], ◌∷◌, ◌++◌, length, take, refl, sym, ◌∙◌, ap, subst, arith, Option, Some, None, Contains, append-nil, length-append}
use Rattle.std.specs.Prelude.{◌↔◌, option_to_list}
use Rattle.std.proofs.lemmas.List.{take-append-le}
use Rattle.leveldb_base.specs.History.{Item, Entry, History, placed, entries_of, with_batch, HasValueAt, IsValueAt, SameView}
use Rattle.leveldb_base.proofs.HistoryLemmas.{in_none, in_front, in_rest, in_cases}
use Rattle.leveldb_files.proofs.Histories.NumbersLemmas.{up_to, entries_more, placed_above}
use Rattle.rusty_leveldb.specs.Headline.{Batch, Map, map_of, UserStore, IsShown}
use Rattle.rusty_leveldb.specs.Machines.State.{Snapshot, State, IsState}
use Rattle.rusty_leveldb.specs.Machines.Machine.{IsSequenceOf}
use Rattle.rusty_leveldb.specs.Machines.Shown.{changes_of, snapshot_number, AreShownAs, IsHeldAs, AreHeldAs, IsShownAs}
use Rattle.rusty_leveldb.proofs.Machines.ViewsLemmas.{views_more}
use Rattle.rusty_leveldb.proofs.Headline.MapLemmas.{whole_shown}

-- ---- what is pending

-- where the history has nothing pending the store has nothing
none_there : (batches : List Batch) (p : Option Batch) (n : ℕ) → length batches ≡ n
    → length (batches ++ option_to_list p) ≡ n → p ≡ None
none_there batches None n one two = refl
none_there batches (Some batch) n one two =
    absurd (let l = length-append batches (batch ∷ []) in omega arith)

pub none_pending_shown : (state : State) (store : UserStore) → IsShownAs state store
    → state.pending ≡ None → store.pending ≡ None
none_pending_shown state store shown none =
    none_there store.batches store.pending (length state.history) shown.batches.count
    (shown.pending.count ∙ ap (λ p. length (with_batch state.history p)) none)

pub shown_with_none : (history : History) (batches : List Batch) → AreShownAs history batches
    → AreShownAs history (batches ++ [])
shown_with_none history batches shown =
    subst (AreShownAs history) (sym (append-nil batches)) shown

-- where nothing is pending
pub nothing_pending : (history : History) (batches : List Batch) (p : Option (List Entry))
    (q : Option Batch) → p ≡ None → q ≡ None → AreShownAs history batches
    → AreShownAs (with_batch history p) (batches ++ option_to_list q)
nothing_pending history batches p q p_none q_none shown =
    subst (λ p. AreShownAs (with_batch history p) (batches ++ option_to_list q)) (sym p_none)
    (subst (λ q. AreShownAs history (batches ++ option_to_list q)) (sym q_none)
    (shown_with_none history batches shown))

-- ---- what is held

-- a snapshot that is held is shown
pub held_there : (history : History) (batches : List Batch) (held : List Snapshot)
    (shown : List (ℕ × ℕ)) (one : Snapshot) → AreHeldAs history batches held shown
    → Contains held one → (count : ℕ) × Contains shown (one.number, count)
    × IsHeldAs history batches one (one.number, count)
held_there history batches [] shown one are there = absurd (in_none one there)
held_there history batches (first ∷ held) [] one are there = absurd are
held_there history batches (first ∷ held) (pair ∷ shown) one are there =
    ⊎_elim here
    (λ (c : Contains held one). let rest = held_there history batches held shown one are.1 c in
    later rest) (in_cases first one held there)
  where
    here : first ≡ one → (count : ℕ) × Contains (pair ∷ shown) (one.number, count)
        × IsHeldAs history batches one (one.number, count)
    here e =
        let is : IsHeldAs history batches one pair =
        subst (λ s. IsHeldAs history batches s pair) e are.0 in
        let same : pair ≡ (one.number, pair.1) = ap (λ n. (n, pair.1)) is.number in (
          pair.1,
          subst (Contains (pair ∷ shown)) same (in_front pair shown),
          subst (IsHeldAs history batches one) same is,
        )

    later : ((count : ℕ) × Contains shown (one.number, count)
        × IsHeldAs history batches one (one.number, count))
        → (count : ℕ) × Contains (pair ∷ shown) (one.number, count)
        × IsHeldAs history batches one (one.number, count)
    later rest = (rest.0, in_rest pair (one.number, rest.0) shown rest.1, rest.2)

-- one more is held
pub held_push : (history : History) (batches : List Batch) (held : List Snapshot)
    (shown : List (ℕ × ℕ)) (one : Snapshot) (pair : ℕ × ℕ) → AreHeldAs history batches held shown
    → IsHeldAs history batches one pair
    → AreHeldAs history batches (held ++ one ∷ []) (shown ++ pair ∷ [])
held_push history batches [] [] one pair are is = (is, tt)
held_push history batches [] (x ∷ shown) one pair are is = absurd are
held_push history batches (first ∷ held) [] one pair are is = absurd are
held_push history batches (first ∷ held) (x ∷ shown) one pair are is =
    (are.0, held_push history batches held shown one pair are.1 is)

-- one of those that are held, and what is held without it
pub record HeldSplit (history : History) (batches : List Batch) (before after : List Snapshot)
    (one : Snapshot) (shown : List (ℕ × ℕ)) : Type 0 where
  pub front : List (ℕ × ℕ)
  pub back : List (ℕ × ℕ)
  pub count : ℕ
  pub was : shown ≡ front ++ (one.number, count) ∷ back
  pub without : AreHeldAs history batches (before ++ after) (front ++ back)

pub held_split : (history : History) (batches : List Batch) (before after : List Snapshot)
    (one : Snapshot) (shown : List (ℕ × ℕ))
    → AreHeldAs history batches (before ++ one ∷ after) shown
    → HeldSplit history batches before after one shown
held_split history batches [] after one [] are = absurd are
held_split history batches [] after one (pair ∷ shown) are = record {
  front = [];
  back = shown;
  count = pair.1;
  was = ap (λ n. (n, pair.1) ∷ shown) are.0.number;
  without = are.1;
}
held_split history batches (first ∷ before) after one [] are = absurd are
held_split history batches (first ∷ before) after one (pair ∷ shown) are =
    let rest = held_split history batches before after one shown are.1 in
    record {
      front = pair ∷ rest.front;
      back = rest.back;
      count = rest.count;
      was = ap (λ l. pair ∷ l) rest.was;
      without = (are.0, rest.without);
    }

-- a batch after all that is held changes none of it
module _ (history : History) (batches : List Batch) (last : ℕ) (items : List Item) where
  abbrev longer : History
  longer = history ++ placed (last + 1) items ∷ []

  abbrev more : List Batch
  more = batches ++ changes_of items ∷ []

  same_view : (s : ℕ) → s ≤ last → SameView (entries_of history) (entries_of longer) s
  same_view s below =
      subst (λ es. SameView (entries_of history) es s)
      (sym (entries_more history (placed (last + 1) items)))
      (views_more (entries_of history) (placed (last + 1) items) s
      (placed_above (last + 1) items s (omega arith)))

  one_held : (one : Snapshot) (pair : ℕ × ℕ) → one.sequence ≤ last
      → IsHeldAs history batches one pair → IsHeldAs longer more one pair
  one_held one pair below is = record {
    number = is.number;
    within = let w = is.within in omega (arith, length-append batches (changes_of items ∷ []));
    map = λ key value.
        let same = same_view one.sequence below key value in
        let map = is.map key value in
        let first = take-append-le pair.1 batches (changes_of items ∷ []) is.within in (
          λ has. subst (λ b. map_of b key ≡ Some value) (sym first) (map.0 (same.1 has)),
          λ e. same.0 (map.1 (subst (λ b. map_of b key ≡ Some value) first e)),
        );
  }

  pub held_more : (held : List Snapshot) (shown : List (ℕ × ℕ))
      → ((one : Snapshot) → Contains held one → one.sequence ≤ last)
      → AreHeldAs history batches held shown → AreHeldAs longer more held shown
  held_more [] [] below are = tt
  held_more [] (pair ∷ shown) below are = absurd are
  held_more (one ∷ held) [] below are = absurd are
  held_more (one ∷ held) (pair ∷ shown) below are = (
    one_held one pair (below one (in_front one held)) are.0,
    held_more held shown (λ other c. below other (in_rest one other held c)) are.1,
  )

-- ---- what a read finds

-- a map has the value that a look-up finds
pub looked_up : (entries : List Entry) (s : ℕ) (map : Map) (key : List ℕ)
    (looked : Option (List ℕ))
    → ((value : List ℕ) → HasValueAt entries s key value ↔ (map key ≡ Some value))
    → IsValueAt entries s key looked → looked ≡ map key
looked_up entries s map key (Some value) is looks = sym ((is value).0 looks)
looked_up entries s map key None is looks = by (map key) refl
  where
    by : (there : Option (List ℕ)) → map key ≡ there → None ≡ map key
    by None e = sym e
    by (Some value) e = absurd (looks value ((is value).1 e))

-- what is read, now or at a snapshot, is the map of the batches that are shown
pub record ReadsMap (state : State) (store : UserStore) (at : Option ℕ) (s : ℕ) : Type 0 where
  pub shown : List Batch
  pub is : IsShown store at shown
  pub map : (key value : List ℕ) → HasValueAt (entries_of state.history) s key value
      ↔ (map_of shown key ≡ Some value)

pub reads_map : (state : State) (store : UserStore) → IsState state → IsShownAs state store
    → (at : Option Snapshot) (s : ℕ) → IsSequenceOf state at s
    → ReadsMap state store (snapshot_number at) s
reads_map state store is shown None s now_is = record {
  shown = store.batches;
  is = refl;
  map = subst (λ n. (key value : List ℕ) → HasValueAt (entries_of state.history) n key value
      ↔ (map_of store.batches key ≡ Some value)) (sym now_is)
      (whole_shown state.history store.batches shown.batches state.last
      (up_to state.last (entries_of state.history) is.reached));
}
reads_map state store is shown (Some one) s at =
    let there = held_there state.history store.batches state.held store.held one shown.held at.0 in
    record {
      shown = take there.0 store.batches;
      is = (there.0, there.1, refl);
      map = subst (λ n. (key value : List ℕ) → HasValueAt (entries_of state.history) n key value
          ↔ (map_of (take there.0 store.batches) key ≡ Some value)) (sym at.1) there.2.map;
    }
