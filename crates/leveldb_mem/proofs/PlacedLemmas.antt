-- Lists of nodes: indexes, links at a height, and a walk along them.
use Rattle.std.proofs.Common.{◌≡◌, ◌≢◌, ℕ, zero, suc, ◌+◌, ◌<◌, ◌≤◌, true, false, List, [], ◌∷◌, ◌++◌, length, get_or, slice_index, refl, sym, ◌∙◌, ap, subst, arith, ◌⊎◌, inl, inr, ⊎_elim}
use Rattle.std.specs.Prelude.{All, nat_eq, nat_lt}
use Rattle.std.proofs.lemmas.Bool.{cond_both, cond-true, cond-false, eqb-true, eq-eqb, ne_eqb, lt-ltb, ltb-true, ltb-false, cases_Bool, cases_lt}
use Rattle.std.proofs.lemmas.List.Elements.{All-head, All-tail, filter-append}
use Rattle.std.proofs.lemmas.List.{get_or-map, get_or_past, length-map}
use Rattle.leveldb_base.specs.Types.{Pair}
use Rattle.leveldb_mem.specs.Placed.{head, nodes_after, pair_of_node, pairs_of_nodes, IsLaid, tower, link, level, first_of_nodes, last_after, AreLinkedAt, IsApart, AreApart, IsNode, IsSkipList, rank, IsAt}

-- ---- indexes

-- a node that is there is the one at its index
pub get_or-rank : (nodes : List ℕ) (node d : ℕ) → rank nodes node < length nodes → get_or nodes (rank nodes node) d ≡ node
get_or-rank [] node d h = absurd (omega (arith, h))
get_or-rank (first ∷ nodes) node d h =
    cond_both (nat_eq first node) 0 (suc (rank nodes node)) (λ r. r < length (first ∷ nodes) → get_or (first ∷ nodes) r d ≡ node)
    (λ e k. eqb-true first node e) (λ e k. get_or-rank nodes node d (omega (arith, k))) h

pub rank-le : (nodes : List ℕ) (node : ℕ) → rank nodes node ≤ length nodes
rank-le [] node = omega arith
rank-le (first ∷ nodes) node =
    cond_both (nat_eq first node) 0 (suc (rank nodes node)) (λ r. r ≤ length (first ∷ nodes))
    (λ e. omega arith) (λ e. omega (arith, rank-le nodes node))

pub rank-same : (first node : ℕ) (nodes : List ℕ) → first ≡ node → rank (first ∷ nodes) node ≡ 0
rank-same first node nodes e = cond-true _ _ _ (eq-eqb first node e)

pub rank-other : (first node : ℕ) (nodes : List ℕ) → first ≢ node → rank (first ∷ nodes) node ≡ suc (rank nodes node)
rank-other first node nodes e = cond-false _ _ _ (ne_eqb first node e)

-- the first node alone has index 0
pub rank-zero : (first node : ℕ) (nodes : List ℕ) → rank (first ∷ nodes) node ≡ 0 → first ≡ node
rank-zero first node nodes =
    cond_both (nat_eq first node) 0 (suc (rank nodes node)) (λ r. r ≡ 0 → first ≡ node)
    (λ e z. eqb-true first node e) (λ e z. absurd (omega (arith, z)))

pub rank-later : (first node : ℕ) (nodes : List ℕ) → 0 < rank (first ∷ nodes) node → rank (first ∷ nodes) node ≡ suc (rank nodes node)
rank-later first node nodes h =
    cond_both (nat_eq first node) 0 (suc (rank nodes node)) (λ r. 0 < r → r ≡ suc (rank nodes node))
    (λ e z. absurd (omega (arith, z))) (λ e z. refl) h

-- where nodes share no word, the node between others has their number as its index
pub rank-append : (words front : List ℕ) (node : ℕ) (back : List ℕ) → AreApart words (front ++ node ∷ back) → rank (front ++ node ∷ back) node ≡ length front
rank-append words [] node back apart = rank-same node node back refl
rank-append words (first ∷ front) node back apart =
    let far : IsApart words first node = apart_at words first front node back apart.0 in
    rank-other first node (front ++ node ∷ back) far.other ∙ ap suc (rank-append words front node back apart.1)
  where
    apart_at : (words : List ℕ) (first : ℕ) (front : List ℕ) (node : ℕ) (back : List ℕ) → All (IsApart words first) (front ++ node ∷ back) → IsApart words first node
    apart_at words first [] node back all = All-head (IsApart words first) node back all
    apart_at words first (next ∷ front) node back all = apart_at words first front node back (All-tail (IsApart words first) next (front ++ node ∷ back) all)

-- ---- heights

pub level-append : (words : List ℕ) (height : ℕ) (front back : List ℕ) → level words height (front ++ back) ≡ level words height front ++ level words height back
level-append words height front back = filter-append (λ node. nat_lt height (tower words node)) front back

pub level-keep : (words : List ℕ) (height node : ℕ) (nodes : List ℕ) → height < tower words node → level words height (node ∷ nodes) ≡ node ∷ level words height nodes
level-keep words height node nodes h = cond-true _ _ _ (lt-ltb height (tower words node) h)

pub level-skip : (words : List ℕ) (height node : ℕ) (nodes : List ℕ) → tower words node ≤ height → level words height (node ∷ nodes) ≡ level words height nodes
level-skip words height node nodes h =
    cond_both (nat_lt height (tower words node)) (node ∷ level words height nodes) (level words height nodes) (λ l. l ≡ level words height nodes)
    (λ e. absurd (omega (arith, h, ltb-true height (tower words node) e))) (λ e. refl)

-- at the lowest height are all nodes
pub level-zero : (words : List ℕ) (end : ℕ) (nodes : List ℕ) → All (IsNode words end) nodes → level words 0 nodes ≡ nodes
level-zero words end [] all = refl
level-zero words end (node ∷ nodes) all =
    level-keep words 0 node nodes (All-head (IsNode words end) node nodes all).linked
    ∙ ap (λ l. node ∷ l) (level-zero words end nodes (All-tail (IsNode words end) node nodes all))

-- the first of these nodes that has a link at the height comes after some that have none
pub record Splits (words : List ℕ) (height : ℕ) (nodes : List ℕ) : Type 0 where
  pub front : List ℕ
  pub node : ℕ
  pub back : List ℕ
  pub whole : nodes ≡ front ++ node ∷ back
  pub skipped : level words height front ≡ []
  pub high : height < tower words node

pub split_level : (words : List ℕ) (height : ℕ) (nodes : List ℕ) → (level words height nodes ≡ []) ⊎ Splits words height nodes
split_level words height [] = inl refl
split_level words height (node ∷ nodes) =
    ⊎_elim
    (λ (t : nat_lt height (tower words node) ≡ true).
    inr (record { front = []; node = node; back = nodes; whole = refl; skipped = refl; high = ltb-true height (tower words node) t }))
    (λ (f : nat_lt height (tower words node) ≡ false).
    let low : tower words node ≤ height = ltb-false height (tower words node) f in
    ⊎_elim
    (λ (none : level words height nodes ≡ []). inl (level-skip words height node nodes low ∙ none))
    (λ (s : Splits words height nodes).
    inr (record {
      front = node ∷ s.front;
      node = s.node;
      back = s.back;
      whole = ap (λ l. node ∷ l) s.whole;
      skipped = level-skip words height node s.front low ∙ s.skipped;
      high = s.high;
    }))
    (split_level words height nodes))
    (cases_Bool (nat_lt height (tower words node)))

-- ---- links

pub AreLinkedAt-append : (words : List ℕ) (height : ℕ) (front back : List ℕ) → AreLinkedAt words height (front ++ back) → AreLinkedAt words height back
AreLinkedAt-append words height [] back linked = linked
AreLinkedAt-append words height (node ∷ front) back linked = AreLinkedAt-append words height front back linked.1

-- a node with a link at the height has there the first of those after it that have one
pub link_at : (words : List ℕ) (height : ℕ) (front : List ℕ) (node : ℕ) (back : List ℕ) → AreLinkedAt words height (level words height (front ++ node ∷ back))
    → height < tower words node → link words height node ≡ first_of_nodes (level words height back)
link_at words height front node back linked high =
    let parts = level-append words height front (node ∷ back) ∙ ap (λ l. level words height front ++ l) (level-keep words height node back high) in
    (AreLinkedAt-append words height (level words height front) (node ∷ level words height back) (subst (λ l. AreLinkedAt words height l) parts linked)).0

-- ---- the last of nodes

pub last_after-append : (before : ℕ) (front : List ℕ) (node : ℕ) → last_after before (front ++ node ∷ []) ≡ node
last_after-append before [] node = refl
last_after-append before (first ∷ front) node = last_after-append first front node

-- the last is one of them
pub record EndsIn (nodes : List ℕ) (last : ℕ) : Type 0 where
  pub front : List ℕ
  pub whole : nodes ≡ front ++ last ∷ []

pub ends_in : (before : ℕ) (nodes : List ℕ) → EndsIn (before ∷ nodes) (last_after before nodes)
ends_in before [] = record { front = []; whole = refl }
ends_in before (node ∷ nodes) =
    let rest = ends_in node nodes in
    record { front = before ∷ rest.front; whole = ap (λ l. before ∷ l) rest.whole }

-- the last after a node, where the node and those after it end in it
pub last_after-is : (before : ℕ) (nodes front : List ℕ) (last : ℕ) → before ∷ nodes ≡ front ++ last ∷ [] → last_after before nodes ≡ last
last_after-is before nodes front last e = same_last before nodes (front ++ last ∷ []) e (last_after-append before front last)
  where
    same_last : (before : ℕ) (nodes all : List ℕ) → before ∷ nodes ≡ all → last_after before all ≡ last → last_after before nodes ≡ last
    same_last before nodes all e h = ap (λ l. last_after before l) e ∙ h

-- ---- what the words of a map say

-- along linked nodes each link is the next
pub linked_at : (words : List ℕ) (height : ℕ) (nodes : List ℕ) (i : ℕ) → i < length nodes → AreLinkedAt words height nodes
    → link words height (get_or nodes i 0) ≡ get_or nodes (suc i) 0
linked_at words height [] i h linked = absurd (omega (arith, h))
linked_at words height (node ∷ []) zero h linked = linked.0
linked_at words height (node ∷ next ∷ nodes) zero h linked = linked.0
linked_at words height (node ∷ nodes) (suc i) h linked = linked_at words height nodes i (omega (arith, h)) linked.1

pub rank-get_or : (words nodes : List ℕ) (i d : ℕ) → i < length nodes → AreApart words nodes → rank nodes (get_or nodes i d) ≡ i
rank-get_or words [] i d h apart = absurd (omega (arith, h))
rank-get_or words (node ∷ nodes) zero d h apart = rank-same node node nodes refl
rank-get_or words (node ∷ nodes) (suc i) d h apart =
    let far : IsApart words node (get_or nodes i d) = apart.0 i d (omega (arith, h)) in
    rank-other node (get_or nodes i d) nodes far.other ∙ ap suc (rank-get_or words nodes i d (omega (arith, h)) apart.1)

pub length-nodes_after : (words : List ℕ) (node count : ℕ) → length (nodes_after words node count) ≡ count
length-nodes_after words node zero = refl
length-nodes_after words node (suc count) = ap suc (length-nodes_after words (link words 0 node) count)

module _ {words : List ℕ} {end : ℕ} {nodes : List ℕ} (skip : IsSkipList words end nodes) where
  pub all_nodes : All (IsNode words end) nodes
  all_nodes = All-tail (IsNode words end) head nodes skip.valid

  pub level_zero : level words 0 (head ∷ nodes) ≡ head ∷ nodes
  level_zero = level-zero words end (head ∷ nodes) skip.valid

  -- a node that is there
  pub node_at : (node : ℕ) → rank nodes node < length nodes → IsNode words end node
  node_at node h = subst (λ n. IsNode words end n) (get_or-rank nodes node 0 h) (all_nodes (rank nodes node) 0 h)

  -- a node that is there, or the head
  pub node_or_head : (node : ℕ) → rank (head ∷ nodes) node ≤ length nodes → IsNode words end node
  node_or_head node h =
      subst (λ n. IsNode words end n) (get_or-rank (head ∷ nodes) node 0 (omega (arith, h))) (skip.valid (rank (head ∷ nodes) node) 0 (omega (arith, h)))

  -- the node at an index, or 0 beyond the last
  pub is_at : (i : ℕ) → IsAt nodes i (get_or nodes i 0)
  is_at i = record {
    there = λ h. (rank-get_or words nodes i 0 h skip.apart.1, let low = (all_nodes i 0 h).low in omega (arith, low));
    none = λ h. get_or_past nodes i 0 h;
  }

  pub after_is : (node : ℕ) → rank (head ∷ nodes) node ≤ length nodes → IsAt nodes (rank (head ∷ nodes) node) (slice_index words node)
  after_is node h =
      let i = rank (head ∷ nodes) node in
      let linked = subst (λ l. AreLinkedAt words 0 l) level_zero (skip.levels 0 (omega arith)) in
      let there = linked_at words 0 (head ∷ nodes) i (omega (arith, h)) linked in
      let zero_is : node + 0 ≡ node = omega arith in
      let same : slice_index words node ≡ get_or nodes i 0 =
      ap (λ n. slice_index words n) (sym zero_is) ∙ ap (λ n. link words 0 n) (sym (get_or-rank (head ∷ nodes) node 0 (omega (arith, h)))) ∙ there in
      subst (λ n. IsAt nodes i n) (sym same) (is_at i)

-- a node that is there isn't the head
pub rank-after_head : {words : List ℕ} {end : ℕ} {nodes : List ℕ} → IsSkipList words end nodes → (node : ℕ) → rank nodes node < length nodes → rank (head ∷ nodes) node ≡ rank nodes node + 1
rank-after_head {words} {end} {nodes} skip node h =
    let far = skip.apart.0 (rank nodes node) 0 h in
    rank-other head node nodes (λ e. far.other (e ∙ sym (get_or-rank nodes node 0 h))) ∙ omega arith

-- the pair of a node that is there
pub pair_at_rank : (text words nodes : List ℕ) (node : ℕ) → rank nodes node < length nodes → get_or (pairs_of_nodes text words nodes) (rank nodes node) ([], []) ≡ pair_of_node text words node
pair_at_rank text words nodes node h =
    get_or-map (pair_of_node text words) nodes (rank nodes node) 0 ([], []) h ∙ ap (pair_of_node text words) (get_or-rank nodes node 0 h)

pub length-pairs_of_nodes : (text words nodes : List ℕ) → length (pairs_of_nodes text words nodes) ≡ length nodes
length-pairs_of_nodes text words nodes = length-map nodes (pair_of_node text words)

module _ {text words last : List ℕ} {count end : ℕ} (laid : IsLaid text words last count end) where
  pub opened : 0 < length (nodes_after words head count) → 0 < length words
  opened h =
      ⊎_elim
      (λ (e : length words < 1). absurd (omega (arith, laid.none (omega (arith, e)), length-nodes_after words head count, h)))
      (λ (e : 1 ≤ length words). omega (arith, e)) (cases_lt (length words) 1)

  pub skip_list : 0 < length (nodes_after words head count) → IsSkipList words end (nodes_after words head count)
  skip_list h = laid.linked (opened h)

  -- of the nodes and pairs as they are seen from outside
  module _ {nodes : List ℕ} (same : nodes_after words head count ≡ nodes) where
    pub skip_list_of : 0 < length nodes → IsSkipList words end nodes
    skip_list_of h = subst (λ ns. IsSkipList words end ns) same (skip_list (subst (λ ns. 0 < length ns) (sym same) h))

    pub some_node : (node : ℕ) → rank nodes node < length nodes → 0 < length nodes
    some_node node h = omega (arith, h)

    pub node_is : (node : ℕ) → rank nodes node < length nodes → IsNode words end node
    node_is node h = node_at (skip_list_of (omega (arith, h))) node h

    pub pair_is : {pairs : List Pair} → pairs_of_nodes text words (nodes_after words head count) ≡ pairs → (node : ℕ) → rank nodes node < length nodes
        → get_or pairs (rank nodes node) ([], []) ≡ pair_of_node text words node
    pair_is {pairs} e node h =
        ap (λ ps. get_or ps (rank nodes node) ([], [])) (sym e ∙ ap (pairs_of_nodes text words) same) ∙ pair_at_rank text words nodes node h

    pub length_is : {pairs : List Pair} → pairs_of_nodes text words (nodes_after words head count) ≡ pairs → length nodes ≡ length pairs
    length_is {pairs} e = sym (length-pairs_of_nodes text words nodes) ∙ ap (λ ns. length (pairs_of_nodes text words ns)) (sym same) ∙ ap length e
