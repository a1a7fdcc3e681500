-- How the pairs of a map stay or change as bytes, a head and nodes come.
use Rattle.std.proofs.Common.{◌≡◌, ◌≢◌, ℕ, zero, suc, ◌+◌, ◌*◌, ◌-◌, ◌<◌, ◌≤◌, List, [], ◌∷◌, ◌++◌, length, get_or, take, drop, replicate, slice_index, slice_range, refl, sym, ◌∙◌, ap, subst, arith, ⊎_elim, length-append, length-drop, take-append-drop}
use Rattle.std.specs.Prelude.{All}
use Rattle.std.specs.List.{insert}
use Rattle.std.proofs.lemmas.Bool.{cases_lt}
use Rattle.std.proofs.lemmas.List.{get_or_append_left, get_or-append-add, get_or-replicate, get_or-take, length-take-le, take-map, drop-map, take_rest, drop-drop, take-append-le, drop-append-le, take_all, nil_from_length}
use Rattle.std.proofs.lemmas.List.Sums.{sum_by-append, sum_by-cons, sum_by-take-drop}
use Rattle.leveldb_base.specs.Types.{Pair}
use Rattle.leveldb_mem.specs.Placed.{head, head_words, link, level, last_after, AreLinkedAt, IsNode, IsSkipList, IsPathTo, IsLaid, place_of, pair_of_node, pairs_of_nodes, nodes_after, pairs_length, key_start, key_end, value_end}
use Rattle.leveldb_mem.proofs.PathLemmas.{last_place}
use Rattle.leveldb_mem.proofs.PlacedLemmas.{rank-same, level-keep, all_nodes, skip_list, length-nodes_after, length-pairs_of_nodes}
use Rattle.leveldb_mem.proofs.InsertionLemmas.{Links, before_within, same_map, new_skip, new_order, new_lasts, new_pairs}

-- a part of a text is there when more comes after the text
slice_range-append : (text more : List ℕ) (i j : ℕ) → i ≤ j → j ≤ length text → slice_range (text ++ more) i j ≡ slice_range text i j
slice_range-append text more i j p q =
    ap (λ z. take (j - i) z) (drop-append-le i text more (omega (arith, p, q))) ∙ take-append-le (j - i) (drop i text) more (omega (arith, q, length-drop i text))

pair_of_node-append : (text more words : List ℕ) (node : ℕ) → value_end words node ≤ length text → pair_of_node (text ++ more) words node ≡ pair_of_node text words node
pair_of_node-append text more words node h =
    let key = slice_range-append text more (key_start words node) (key_end words node) (omega arith) (omega (arith, h)) in
    let value = slice_range-append text more (key_end words node) (value_end words node) (omega arith) h in
    λ i. (key i, value i)

module _ {text words last : List ℕ} {count end : ℕ} (laid : IsLaid text words last count end) where
  abbrev nodes : List ℕ
  nodes = nodes_after words head count

  node_cut : All (λ n. value_end words n ≤ end) nodes
  node_cut k d h = (all_nodes (skip_list laid (omega (arith, h))) k d h).cut

  pairs_front : (first more : List ℕ) → end ≤ length first → pairs_of_nodes (first ++ more) words nodes ≡ pairs_of_nodes first words nodes
  pairs_front first more h =
      same_map (pair_of_node (first ++ more) words) (pair_of_node first words) nodes
      (λ k d lt. pair_of_node-append first more words (get_or nodes k d) (let cut = node_cut k d lt in omega (arith, cut, h)))

  -- the pairs stay when bytes come after the text, and when what is after them goes
  pub pairs-append : (more : List ℕ) → pairs_of_nodes (text ++ more) words nodes ≡ pairs_of_nodes text words nodes
  pairs-append more = pairs_front text more laid.within

  pub pairs-take : pairs_of_nodes (take end text) words nodes ≡ pairs_of_nodes text words nodes
  pairs-take =
      sym (pairs_front (take end text) (drop end text) (let size = length-take-le end text laid.within in omega (arith, size)))
      ∙ ap (λ z. pairs_of_nodes z words nodes) (take-append-drop end text)

  pub laid-append : (more : List ℕ) → IsLaid (text ++ more) words last count end
  laid-append more = record {
    within = omega (arith, laid.within, length-append text more);
    none = laid.none;
    counted = laid.counted;
    linked = laid.linked;
    lasts = laid.lasts;
    filled = ap pairs_length (pairs-append more) ∙ laid.filled;
  }

  pub laid-take : IsLaid (take end text) words last count end
  laid-take = record {
    within = let size = length-take-le end text laid.within in omega (arith, size);
    none = laid.none;
    counted = laid.counted;
    linked = laid.linked;
    lasts = laid.lasts;
    filled = ap pairs_length pairs-take ∙ laid.filled;
  }

head_alone : (end : ℕ) → IsSkipList head_words end []
head_alone end = record {
  high = refl;
  valid = valid;
  apart = (λ k d h. absurd (omega (arith, h)), tt);
  levels = λ k h. subst (λ l. AreLinkedAt head_words k l) (sym (level-keep head_words k head [] h)) (no_link k h, tt);
}
  where
    valid : All (IsNode head_words end) (head ∷ [])
    valid zero d h = record { low = omega arith; linked = omega arith; limited = omega arith; within = omega arith; cut = omega arith }
    valid (suc k) d h = absurd (omega (arith, h))

    no_link : (k : ℕ) → k < 12 → link head_words k head ≡ 0
    no_link k h = get_or-append-add (0 ∷ 0 ∷ 0 ∷ 12 ∷ []) (replicate 12 0) k 0 ∙ get_or-replicate 12 k 0 0 h

-- the head comes where there was none
pub laid-head : {text words last : List ℕ} {count end : ℕ} → IsLaid text words last count end → length words ≡ 0 → (words' : List ℕ) → words' ≡ head_words
    → IsLaid text words' last count end × (pairs_of_nodes text words' (nodes_after words' head count) ≡ pairs_of_nodes text words (nodes_after words head count))
    × (nodes_after words' head count ≡ nodes_after words head count)
laid-head {text} {words} {last} {count} {end} laid empty words' is =
    let none : count ≡ 0 = laid.none empty in
    let old : nodes_after words head count ≡ [] = ap (nodes_after words head) none in
    let new : nodes_after words' head count ≡ [] = ap (nodes_after words' head) none in
    let old_pairs : pairs_of_nodes text words (nodes_after words head count) ≡ [] = ap (pairs_of_nodes text words) old in
    let new_pairs : pairs_of_nodes text words' (nodes_after words' head count) ≡ [] = ap (pairs_of_nodes text words') new in
    let size = ap length is in (
      record {
        within = laid.within;
        none = λ h. absurd (omega (arith, h, size));
        counted = omega (arith, none);
        linked = λ _. subst (λ w. IsSkipList w end (nodes_after words' head count)) (sym is) (subst (λ ns. IsSkipList head_words end ns) (sym new) (head_alone end));
        lasts = λ k h. laid.lasts k h ∙ ap (λ ns. last_after head (level words k ns)) old ∙ ap (λ ns. last_after head (level words' k ns)) (sym new);
        filled = ap pairs_length (new_pairs ∙ sym old_pairs) ∙ laid.filled;
      },
      new_pairs ∙ sym old_pairs,
      new ∙ sym old,
    )

-- a path among no nodes is the head's, whatever the words are
pub path_nowhere : (words words' path : List ℕ) (at : ℕ) (nodes nodes' : List ℕ) → nodes ≡ [] → nodes' ≡ [] → IsPathTo words path 12 (take at nodes) → IsPathTo words' path 12 (take at nodes')
path_nowhere words words' path at these those none none' to k h =
    to k h ∙ ap (λ ns. last_after head (level words k (take at ns))) none ∙ nothing at ∙ ap (λ ns. last_after head (level words' k (take at ns))) (sym none')
  where
    nothing : (n : ℕ) → last_after head (level words k (take n [])) ≡ last_after head (level words' k (take n []))
    nothing zero = refl
    nothing (suc n) = refl

-- what is laid where a head comes if there was none
pub record Opens (text words last : List ℕ) (count end : ℕ) (text' words' : List ℕ) : Type 0 where
  pub laid' : IsLaid text' words' last count end
  pub pairs' : pairs_of_nodes text' words' (nodes_after words' head count) ≡ pairs_of_nodes text words (nodes_after words head count)
  pub order' : nodes_after words' head count ≡ nodes_after words head count
  pub some : 0 < length words'
  pub most : length words' ≤ length words + 16
  pub short : length words ≤ 16 * (count + 1) → length words' ≤ 16 * (count + 1)
  pub paths : (path : List ℕ) (at : ℕ) → IsPathTo words path 12 (take at (nodes_after words head count)) → IsPathTo words' path 12 (take at (nodes_after words' head count))

pub opens : {text words last : List ℕ} {count end : ℕ} → IsLaid text words last count end → (text' words' : List ℕ) → text' ≡ text
    → (length words ≡ 0 → words' ≡ head_words) → (0 < length words → words' ≡ words) → Opens text words last count end text' words'
opens {text} {words} {last} {count} {end} laid text' words' same none some =
    subst (λ t. Opens text words last count end t words') (sym same)
    (⊎_elim
    (λ (lt : length words < 1).
    let empty : length words ≡ 0 = omega (arith, lt) in
    let is = none empty in
    let all = laid-head laid empty words' is in
    let size = ap length is in
    let none_before : nodes_after words head count ≡ [] = ap (nodes_after words head) (laid.none empty) in
    record {
      laid' = all.0;
      pairs' = all.1;
      order' = all.2;
      some = omega (arith, size);
      most = omega (arith, size);
      short = λ _. omega (arith, size);
      paths = λ path at to. path_nowhere words words' path at (nodes_after words head count) (nodes_after words' head count) none_before (all.2 ∙ none_before) to;
    })
    (λ (ge : 1 ≤ length words).
    let is = some (omega (arith, ge)) in
    subst (λ w. Opens text words last count end text w) (sym is) (record {
      laid' = laid;
      pairs' = refl;
      order' = refl;
      some = omega (arith, ge);
      most = omega arith;
      short = λ h. h;
      paths = λ path at to. to;
    }))
    (cases_lt (length words) 1))

-- ---- a new pair

-- the words of a new node come after all others, and then the nodes of the path link to it
pub record NodeWords (words path record_words : List ℕ) (start key_length value_length height : ℕ) : Type 0 where
  pub size : length record_words ≡ 16
  pub start_is : slice_index record_words 0 ≡ start
  pub key_is : slice_index record_words 1 ≡ key_length
  pub value_is : slice_index record_words 2 ≡ value_length
  pub height_is : slice_index record_words 3 ≡ height
  pub links_are : (k : ℕ) → k < height → slice_index record_words (4 + k) ≡ slice_index words (slice_index path k + k)

module _ {text words last : List ℕ} {count end : ℕ} (laid : IsLaid text words last count end) (opened : 0 < length words) {path : List ℕ} {at : ℕ} (within : at ≤ length (nodes_after words head count))
    (to : IsPathTo words path 12 (take at (nodes_after words head count))) {height key_length : ℕ} (low : 0 < height) (high : height ≤ 12) (key_within : end + key_length ≤ length text)
    {added : List ℕ} (node : NodeWords words path added end key_length (length text - end - key_length) height) where
  abbrev grown : List ℕ
  grown = words ++ take (4 + height) added

  pub grown_size : length grown ≡ length words + 4 + height
  grown_size = length-append words (take (4 + height) added) ∙ (let size = length-take-le (4 + height) added (omega (arith, high, node.size)) in omega (arith, size))

  added_at : (k : ℕ) → k < 4 + height → slice_index grown (length words + k) ≡ slice_index added k
  added_at k h = get_or-append-add words (take (4 + height) added) k 0 ∙ get_or-take (4 + height) added k 0 h

  -- where the path's links are
  pub path_within : (k : ℕ) → k < 12 → slice_index path k + k < length words
  path_within k h = before_within (laid.linked opened) path (take at (nodes_after words head count)) (drop at (nodes_after words head count)) (sym (take-append-drop at (nodes_after words head count))) to k h

  module _ (words' : List ℕ) (new : ℕ) (new_is : new ≡ length words + 4) (size' : length words' ≡ length grown)
      (linked : (k : ℕ) → k < height → slice_index words' (slice_index path k + k) ≡ new)
      (others : (i : ℕ) → ((k : ℕ) → k < height → i ≢ slice_index path k + k) → slice_index words' i ≡ slice_index grown i) where
    added_still : (k : ℕ) → k < 4 + height → slice_index words' (length words + k) ≡ slice_index added k
    added_still k h = others (length words + k) (λ j lt e. let below = path_within j (omega (arith, lt, high)) in absurd (omega (arith, below, e))) ∙ added_at k h

    added_before : (j k : ℕ) → j + k ≡ 4 → 0 < j → slice_index words' (new - j) ≡ slice_index added k
    added_before j k e some =
        let place : new - j ≡ length words + k = omega (arith, new_is, e) in
        ap (slice_index words') place ∙ added_still k (omega (arith, e, some))

    links : Links words path words' new height
    links = record {
      low = low;
      high = high;
      at_end = new_is;
      long = size' ∙ grown_size ∙ omega (arith, new_is);
      tower_is = added_before 1 3 refl (omega arith) ∙ node.height_is;
      to = linked;
      from = λ k h.
          let place : new + k ≡ length words + (4 + k) = omega (arith, new_is) in
          ap (slice_index words') place ∙ added_still (4 + k) (omega (arith, h)) ∙ node.links_are k h;
      others = λ i h clear. others i clear ∙ get_or_append_left words (take (4 + height) added) 0 i h;
    }

    abbrev rest_pair : Pair
    rest_pair = (take key_length (drop end text), drop key_length (drop end text))

    key_start_is : key_start words' new ≡ end
    key_start_is = added_before 4 0 refl (omega arith) ∙ node.start_is

    key_end_is : key_end words' new ≡ end + key_length
    key_end_is = let key = added_before 3 1 refl (omega arith) ∙ node.key_is in omega (arith, key_start_is, key)

    value_end_is : value_end words' new ≡ length text
    value_end_is = let value = added_before 2 2 refl (omega arith) ∙ node.value_is in omega (arith, key_end_is, value, key_within)

    new_pair : pair_of_node text words' new ≡ rest_pair
    new_pair =
        let count_is : end + key_length - end ≡ key_length = omega arith in
        let key : take (end + key_length - end) (drop end text) ≡ take key_length (drop end text) = ap (λ n. take n (drop end text)) count_is in
        let value : take (length text - (end + key_length)) (drop (end + key_length) text) ≡ drop key_length (drop end text) =
        take_rest text (end + key_length) ∙ sym (drop-drop key_length end text) in
        (λ i. (slice_range text (key_start_is i) (key_end_is i), slice_range text (key_end_is i) (value_end_is i))) ∙ (λ i. (key i, value i))

    order_is : nodes_after words' head (suc count) ≡ take at (nodes_after words head count) ++ new ∷ drop at (nodes_after words head count)
    order_is =
        ap (λ n. nodes_after words' head (suc n)) (sym (length-nodes_after words head count))
        ∙ new_order (laid.linked opened) links (take at (nodes_after words head count)) (drop at (nodes_after words head count)) (sym (take-append-drop at (nodes_after words head count))) to laid.within value_end_is

    -- the pair is there
    pub pairs_placed : pairs_of_nodes text words' (nodes_after words' head (suc count)) ≡ insert (pairs_of_nodes text words (nodes_after words head count)) at rest_pair
    pairs_placed =
        let front : pairs_of_nodes text words (take at (nodes_after words head count)) ≡ take at (pairs_of_nodes text words (nodes_after words head count)) = sym (take-map (pair_of_node text words) at (nodes_after words head count)) in
        let back : pairs_of_nodes text words (drop at (nodes_after words head count)) ≡ drop at (pairs_of_nodes text words (nodes_after words head count)) = sym (drop-map (pair_of_node text words) at (nodes_after words head count)) in
        ap (pairs_of_nodes text words') order_is
        ∙ new_pairs (laid.linked opened) links (take at (nodes_after words head count)) (drop at (nodes_after words head count)) (sym (take-append-drop at (nodes_after words head count))) to laid.within value_end_is text
        ∙ (λ i. front i ++ new_pair i ∷ back i)

    length-rest_pair : length (rest_pair.0) + length (rest_pair.1) ≡ length text - end
    length-rest_pair =
        sym (length-append (take key_length (drop end text)) (drop key_length (drop end text)))
        ∙ ap length (take-append-drop key_length (drop end text)) ∙ length-drop end text

    pairs_length-insert : (pairs : List Pair) (pair : Pair) → pairs_length (insert pairs at pair) ≡ pairs_length pairs + (length pair.0 + length pair.1)
    pairs_length-insert pairs pair =
        let size = λ (p : Pair). length p.0 + length p.1 in
        let whole = sum_by-append size (take at pairs) (pair ∷ drop at pairs) in
        let more = sum_by-cons size pair (drop at pairs) in
        let parts = sum_by-take-drop size pairs at in
        omega (arith, whole, more, parts)

    pub laid_placed : (last' : List ℕ)
        → ((k : ℕ) → k < height → slice_index words' (new + k) ≡ 0 → slice_index last' k ≡ new)
        → ((k : ℕ) → k < height → slice_index words' (new + k) ≢ 0 → slice_index last' k ≡ slice_index last k)
        → ((k : ℕ) → height ≤ k → slice_index last' k ≡ slice_index last k)
        → IsLaid text words' last' (suc count) (length text)
    laid_placed last' none some other = record {
      within = omega arith;
      none = λ e. absurd (omega (arith, e, size', grown_size));
      counted = omega (arith, laid.counted, size', grown_size);
      linked = λ _. subst (λ ns. IsSkipList words' (length text) ns) (sym order_is) (new_skip (laid.linked opened) links (take at (nodes_after words head count)) (drop at (nodes_after words head count)) (sym (take-append-drop at (nodes_after words head count))) to laid.within value_end_is);
      lasts = subst (λ ns. IsPathTo words' last' 12 ns) (sym order_is)
          (new_lasts (laid.linked opened) links (take at (nodes_after words head count)) (drop at (nodes_after words head count)) (sym (take-append-drop at (nodes_after words head count))) to laid.within value_end_is last last' laid.lasts none some other);
      filled = ap pairs_length pairs_placed ∙ pairs_length-insert (pairs_of_nodes text words (nodes_after words head count)) rest_pair ∙ omega (arith, length-rest_pair, laid.filled, laid.within);
    }

-- the last nodes are the path to the end
module _ {text words last : List ℕ} {count end : ℕ} (laid : IsLaid text words last count end) where
  all_taken : take (length (pairs_of_nodes text words (nodes_after words head count))) (nodes_after words head count) ≡ nodes_after words head count
  all_taken =
      take_all (length (pairs_of_nodes text words (nodes_after words head count))) (nodes_after words head count)
      (omega (arith, length-pairs_of_nodes text words (nodes_after words head count)))

  pub lasts_are : IsPathTo words last 12 (take (length (pairs_of_nodes text words (nodes_after words head count))) (nodes_after words head count))
  lasts_are = subst (λ ns. IsPathTo words last 12 ns) (sym all_taken) laid.lasts

  pub lasts_place : place_of (nodes_after words head count) last ≡ length (pairs_of_nodes text words (nodes_after words head count))
  lasts_place =
      ⊎_elim
      (λ (lt : length (nodes_after words head count) < 1).
      let none = nil_from_length (nodes_after words head count) (omega (arith, lt)) in
      let first : slice_index last 0 ≡ head = laid.lasts 0 (omega arith) ∙ ap (λ ns. last_after head (level words 0 ns)) none in
      rank-same head (slice_index last 0) (nodes_after words head count) (sym first) ∙ omega (arith, lt, length-pairs_of_nodes text words (nodes_after words head count)))
      (λ (ge : 1 ≤ length (nodes_after words head count)).
      last_place (skip_list laid (omega (arith, ge))) last laid.lasts ∙ sym (length-pairs_of_nodes text words (nodes_after words head count)))
      (cases_lt (length (nodes_after words head count)) 1)
