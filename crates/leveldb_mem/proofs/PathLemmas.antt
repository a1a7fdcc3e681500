-- A search from the head of a skip list along each height, down to the lowest.
use Rattle.std.proofs.Common.{◌≡◌, ◌≢◌, ℕ, zero, suc, ◌+◌, ◌-◌, ◌<◌, ◌≤◌, Bool, true, false, List, [], ◌∷◌, ◌++◌, length, get_or, take, drop, set, slice_index, refl, sym, ◌∙◌, ap, subst, arith, ◌⊎◌, ⊎_elim, append_assoc, length-append, take-append-drop, length-drop, append-nil}
use Rattle.std.specs.Prelude.{All, nat_lt}
use Rattle.std.proofs.lemmas.Bool.{cases_order, cases_Bool, false≢true}
use Rattle.std.proofs.lemmas.List.{get_or-set_same, get_or-set_other, get_or-take, get_or-drop, length-take-le, length-set, get_or-map}
use Rattle.std.proofs.lemmas.List.Elements.{All-head, All-tail, All-filter, All-drop, All-from_get_or}
use Rattle.leveldb_base.specs.Types.{Pair}
use Rattle.leveldb_mem.specs.Searching.{key_at, count_while, IsParted}
use Rattle.leveldb_mem.specs.Placed.{head, most_height, tower, link, level, first_of_nodes, last_after, AreLinkedAt, AreApart, IsNode, IsSkipList, IsPathTo, rank, place_of, pair_of_node, pairs_of_nodes}
use Rattle.leveldb_mem.proofs.Halving.{before_count, at_count, count-le}
use Rattle.leveldb_mem.proofs.PlacedLemmas.{rank-append, rank-later, level-append, level-keep, level-zero, Splits, split_level, link_at, last_after-is, ends_in, all_nodes, node_or_head, length-pairs_of_nodes}

pub All-middle : {X : Type 0} (P : X → Type 0) (front : List X) (x : X) (back : List X) → All P (front ++ x ∷ back) → P x
All-middle P [] x back all = All-head P x back all
All-middle P (y ∷ front) x back all = All-middle P front x back (All-tail P y (front ++ x ∷ back) all)

pub All-after : {X : Type 0} (P : X → Type 0) (front : List X) (x : X) (back : List X) → All P (front ++ x ∷ back) → All P back
All-after P [] x back all = All-tail P x back all
All-after P (y ∷ front) x back all = All-after P front x back (All-tail P y (front ++ x ∷ back) all)

-- the nodes of a skip list, parted into those that pass and those that don't
pub record Parts (words nodes : List ℕ) (passes : ℕ → Bool) (from : ℕ) (front back : List ℕ) : Type 0 where
  pub whole : nodes ≡ front ++ back
  pub all_pass : All (λ node. passes node ≡ true) front
  pub stops : (height : ℕ) → height < from → (node : ℕ) (more : List ℕ) → level words height back ≡ node ∷ more → passes node ≡ false

-- a search is at a node that comes before the place, and has a path for the heights from this one
-- on
pub record Descends (words front : List ℕ) (passes : ℕ → Bool) (from node height : ℕ) (path : List ℕ) : Type 0 where
  pub before : List ℕ
  pub ahead : List ℕ
  pub parts : head ∷ front ≡ before ++ node ∷ ahead
  pub low : height ≤ from
  pub high : height ≤ tower words node
  pub all_pass : All (λ node. passes node ≡ true) ahead
  pub real : All (λ node. 0 < node) ahead
  pub done : (at : ℕ) → height ≤ at → at < from → slice_index path at ≡ last_after head (level words at front)
  pub long : length path ≡ 12

module _ {words : List ℕ} {end : ℕ} {nodes : List ℕ} (skip : IsSkipList words end nodes) {passes : ℕ → Bool} {from : ℕ} {front back : List ℕ}
    (parts : Parts words nodes passes from front back) (most : from ≤ 12) where
  real_front : All (λ node. 0 < node) front
  real_front = All-front (All-real nodes (all_nodes skip))
    where
      All-real : (ns : List ℕ) → All (IsNode words end) ns → All (λ node. 0 < node) ns
      All-real ns all k d h = let low = (all k d h).low in omega (arith, low)

      All-front : All (λ node. 0 < node) nodes → All (λ node. 0 < node) front
      All-front all = All-left front back (subst (λ l. All (λ node. 0 < node) l) parts.whole all)
        where
          All-left : (xs ys : List ℕ) → All (λ node. 0 < node) (xs ++ ys) → All (λ node. 0 < node) xs
          All-left [] ys all k d h = absurd (omega (arith, h))
          All-left (x ∷ xs) ys all zero d h = all zero d (omega arith)
          All-left (x ∷ xs) ys all (suc k) d h = All-left xs ys (All-tail (λ node. 0 < node) x (xs ++ ys) all) k d (omega (arith, h))

  -- at the head, with no path
  pub descends_from : (path : List ℕ) → length path ≡ 12 → Descends words front passes from head from path
  descends_from path long = record {
    before = [];
    ahead = front;
    parts = refl;
    low = omega arith;
    high = omega (arith, most, skip.high);
    all_pass = parts.all_pass;
    real = real_front;
    done = λ at h k. absurd (omega (arith, h, k));
    long = long;
  }

  module _ {node height : ℕ} {path : List ℕ} (descends : Descends words front passes from node height path) (more : 0 < height) where
    abbrev k : ℕ
    k = height - 1

    all_parts : head ∷ nodes ≡ descends.before ++ node ∷ (descends.ahead ++ back)
    all_parts =
        ap (λ l. head ∷ l) parts.whole ∙ ap (λ l. l ++ back) descends.parts ∙ append_assoc descends.before (node ∷ descends.ahead) back

    below : k < most_height
    below = omega (arith, most, descends.low, more)

    has_link : k < tower words node
    has_link = omega (arith, descends.high, more)

    apart : AreApart words (descends.before ++ node ∷ (descends.ahead ++ back))
    apart = subst (λ l. AreApart words l) all_parts skip.apart

    node_rank : rank (head ∷ nodes) node ≡ length descends.before
    node_rank = ap (λ l. rank l node) all_parts ∙ rank-append words descends.before node (descends.ahead ++ back) apart

    all_length : suc (length nodes) ≡ length descends.before + suc (length descends.ahead + length back)
    all_length =
        ap length all_parts ∙ length-append descends.before (node ∷ (descends.ahead ++ back)) ∙ ap (λ n. length descends.before + suc n) (length-append descends.ahead back)

    -- the node is there, or is the head
    pub node_there : rank (head ∷ nodes) node ≤ length nodes
    node_there = omega (arith, node_rank, all_length)

    pub node_within : node + k < length words
    node_within = let is = node_or_head skip node node_there in omega (arith, is.within, has_link)

    next_is : (next : ℕ) → next ≡ link words k node → next ≡ first_of_nodes (level words k descends.ahead ++ level words k back)
    next_is next e =
        e ∙ link_at words k descends.before node (descends.ahead ++ back) (subst (λ l. AreLinkedAt words k (level words k l)) all_parts (skip.levels k below)) has_link
        ∙ ap first_of_nodes (level-append words k descends.ahead back)

    -- the next node comes later among those that are there
    pub record Later (next : ℕ) : Type 0 where
      pub later : rank (head ∷ nodes) node < rank (head ∷ nodes) next
      pub there : rank nodes next < length nodes

    split_is : (s : Splits words k (descends.ahead ++ back)) → Later s.node
    split_is s =
        let whole : head ∷ nodes ≡ (descends.before ++ node ∷ s.front) ++ s.node ∷ s.back =
        all_parts ∙ ap (λ l. descends.before ++ node ∷ l) s.whole ∙ sym (append_assoc descends.before (node ∷ s.front) (s.node ∷ s.back)) in
        let rank_is : rank (head ∷ nodes) s.node ≡ length (descends.before ++ node ∷ s.front) =
        ap (λ l. rank l s.node) whole ∙ rank-append words (descends.before ++ node ∷ s.front) s.node s.back (subst (λ l. AreApart words l) whole skip.apart) in
        let size = length-append descends.before (node ∷ s.front) in
        let whole_size = ap length whole ∙ length-append (descends.before ++ node ∷ s.front) (s.node ∷ s.back) in
        let one = rank-later head s.node nodes (omega (arith, rank_is, size)) in
        record { later = omega (arith, rank_is, size, node_rank); there = omega (arith, one, rank_is, whole_size) }

    first-split : (words : List ℕ) (ns : List ℕ) (s : Splits words k ns) → first_of_nodes (level words k ns) ≡ s.node
    first-split words ns s =
        ap (λ l. first_of_nodes (level words k l)) s.whole ∙ ap first_of_nodes (level-append words k s.front (s.node ∷ s.back))
        ∙ ap (λ l. first_of_nodes (l ++ level words k (s.node ∷ s.back))) s.skipped ∙ ap first_of_nodes (level-keep words k s.node s.back s.high)

    pub later_next : (next : ℕ) → next ≡ link words k node → next ≢ 0 → Later next
    later_next next e other =
        let first : next ≡ first_of_nodes (level words k (descends.ahead ++ back)) = next_is next e ∙ ap first_of_nodes (sym (level-append words k descends.ahead back)) in
        ⊎_elim
        (λ (none : level words k (descends.ahead ++ back) ≡ []). absurd (other (first ∙ ap first_of_nodes none)))
        (λ (s : Splits words k (descends.ahead ++ back)). subst Later (sym (first ∙ first-split words (descends.ahead ++ back) s)) (split_is s))
        (split_level words k (descends.ahead ++ back))

    -- the first with a link among those ahead is the next
    next_split : (next : ℕ) → next ≡ link words k node → (s : Splits words k descends.ahead) → next ≡ s.node
    next_split next e s =
        next_is next e
        ∙ ap (λ l. first_of_nodes (l ++ level words k back))
        (ap (level words k) s.whole ∙ level-append words k s.front (s.node ∷ s.back) ∙ ap (λ l. l ++ level words k (s.node ∷ s.back)) s.skipped ∙ level-keep words k s.node s.back s.high)

    -- along the height, where the next node passes
    pub moved : (next : ℕ) → next ≡ link words k node → next ≢ 0 → passes next ≡ true → Descends words front passes from next height path
    moved next e other pass =
        ⊎_elim
        (λ (none : level words k descends.ahead ≡ []).
        let first : next ≡ first_of_nodes (level words k back) = next_is next e ∙ ap (λ l. first_of_nodes (l ++ level words k back)) none in
        absurd (no_more (level words k back) refl first))
        (λ (s : Splits words k descends.ahead).
        let same = next_split next e s in
        subst (λ n. Descends words front passes from n height path) (sym same) (record {
          before = descends.before ++ node ∷ s.front;
          ahead = s.back;
          parts = descends.parts ∙ ap (λ l. descends.before ++ node ∷ l) s.whole ∙ sym (append_assoc descends.before (node ∷ s.front) (s.node ∷ s.back));
          low = descends.low;
          high = let high = s.high in omega (arith, high, more);
          all_pass = All-after (λ n. passes n ≡ true) s.front s.node s.back (subst (λ l. All (λ n. passes n ≡ true) l) s.whole descends.all_pass);
          real = All-after (λ n. 0 < n) s.front s.node s.back (subst (λ l. All (λ n. 0 < n) l) s.whole descends.real);
          done = descends.done;
          long = descends.long;
        }))
        (split_level words k descends.ahead)
      where
        no_more : (l : List ℕ) → level words k back ≡ l → next ≡ first_of_nodes l → ⊥
        no_more [] is first = other first
        no_more (y ∷ ys) is first =
            let stop = parts.stops k (omega (arith, descends.low, more)) y ys is in
            false≢true (sym stop ∙ ap passes (sym first) ∙ pass)

    -- down by one, where the next doesn't
    pub down : (next : ℕ) → next ≡ link words k node → (next ≢ 0 → passes next ≡ false) → Descends words front passes from node k (set path k node)
    down next e fails = record {
      before = descends.before;
      ahead = descends.ahead;
      parts = descends.parts;
      low = omega (arith, descends.low);
      high = omega (arith, descends.high);
      all_pass = descends.all_pass;
      real = descends.real;
      done = done;
      long = length-set path k node ∙ descends.long;
    }
      where
        none : level words k descends.ahead ≡ []
        none =
            ⊎_elim
            (λ (n : level words k descends.ahead ≡ []). n)
            (λ (s : Splits words k descends.ahead).
            let same = next_split next e s in
            let pass = All-middle (λ n. passes n ≡ true) s.front s.node s.back (subst (λ l. All (λ n. passes n ≡ true) l) s.whole descends.all_pass) in
            let real = All-middle (λ n. 0 < n) s.front s.node s.back (subst (λ l. All (λ n. 0 < n) l) s.whole descends.real) in
            let other : next ≢ 0 = λ z. absurd (omega (arith, real, same, z)) in
            absurd (false≢true (sym (fails other) ∙ ap passes same ∙ pass)))
            (split_level words k descends.ahead)

        last : last_after head (level words k front) ≡ node
        last =
            let top : level words k (head ∷ front) ≡ head ∷ level words k front = level-keep words k head front (omega (arith, skip.high, below)) in
            let split = level-append words k descends.before (node ∷ descends.ahead) in
            let keep = level-keep words k node descends.ahead has_link in
            last_after-is head (level words k front) (level words k descends.before) node
            (sym top ∙ ap (level words k) descends.parts ∙ split ∙ ap (λ l. level words k descends.before ++ l) (keep ∙ ap (λ l. node ∷ l) none))

        done : (at : ℕ) → k ≤ at → at < from → slice_index (set path k node) at ≡ last_after head (level words at front)
        done at h j =
            ⊎_elim
            (λ (e : at ≡ k). ap (λ n. slice_index (set path k node) n) e ∙ get_or-set_same path k node 0 (omega (arith, descends.long, below)) ∙ sym last ∙ ap (λ n. last_after head (level words n front)) (sym e))
            (λ (w : (at < k) ⊎ (k < at)). get_or-set_other path k at node 0 (other at w) ∙ descends.done at (above at h w) j)
            (cases_order at k)
          where
            other : (at : ℕ) → (at < k) ⊎ (k < at) → at ≢ k
            other at w z = ⊎_elim (λ (l : at < k). absurd (omega (arith, l, z))) (λ (l : k < at). absurd (omega (arith, l, z))) w

            above : (at : ℕ) → k ≤ at → (at < k) ⊎ (k < at) → height ≤ at
            above at h w = ⊎_elim (λ (l : at < k). absurd (omega (arith, l, h))) (λ (l : k < at). omega (arith, l)) w

  -- the path at the lowest height is at the place
  pub place_is : (path : List ℕ) → 0 < from → IsPathTo words path from front → place_of nodes path ≡ length front
  place_is path some to =
      let bottom : level words 0 front ≡ front = level-zero words end front front_nodes in
      let ends = ends_in head front in
      let last : slice_index path 0 ≡ last_after head front = to 0 some ∙ ap (last_after head) bottom in
      let whole : head ∷ nodes ≡ ends.front ++ last_after head front ∷ back =
      ap (λ l. head ∷ l) parts.whole ∙ ap (λ l. l ++ back) ends.whole ∙ append_assoc ends.front (last_after head front ∷ []) back in
      let size = ap length ends.whole ∙ length-append ends.front (last_after head front ∷ []) in
      ap (rank (head ∷ nodes)) last ∙ ap (λ l. rank l (last_after head front)) whole
      ∙ rank-append words ends.front (last_after head front) back (subst (λ l. AreApart words l) whole skip.apart) ∙ omega (arith, size)
    where
      front_nodes : All (IsNode words end) front
      front_nodes = All-left front back (subst (λ l. All (IsNode words end) l) parts.whole (all_nodes skip))
        where
          All-left : (xs ys : List ℕ) → All (IsNode words end) (xs ++ ys) → All (IsNode words end) xs
          All-left [] ys all k d h = absurd (omega (arith, h))
          All-left (x ∷ xs) ys all zero d h = all zero d (omega arith)
          All-left (x ∷ xs) ys all (suc k) d h = All-left xs ys (All-tail (IsNode words end) x (xs ++ ys) all) k d (omega (arith, h))

-- the nodes before the count pass, and the first after it doesn't, nor does any where those that do
-- are all at the front
module _ (test : List ℕ → Bool) (text : List ℕ) {words : List ℕ} {end : ℕ} {nodes : List ℕ} (skip : IsSkipList words end nodes) where
  abbrev pairs : List Pair
  pairs = pairs_of_nodes text words nodes

  abbrev at : ℕ
  at = count_while test pairs

  abbrev passes_at : ℕ → Bool
  passes_at node = let pair = pair_of_node text words node in test pair.0

  key_is : (i : ℕ) → i < length nodes → test (key_at pairs i) ≡ passes_at (get_or nodes i 0)
  key_is i h = ap (λ (pair : Pair). test pair.0) (get_or-map (pair_of_node text words) nodes i 0 ([], []) h)

  at_within : at ≤ length nodes
  at_within = let le = count-le test pairs in omega (arith, le, length-pairs_of_nodes text words nodes)

  pub parts_of : (from : ℕ) → (from ≡ 1) ⊎ IsParted test pairs → Parts words nodes passes_at from (take at nodes) (drop at nodes)
  parts_of from which = record {
    whole = sym (take-append-drop at nodes);
    all_pass = All-from_get_or (λ node. passes_at node ≡ true) (take at nodes) 0 front_passes;
    stops = ⊎_elim first none which;
  }
    where
      front_length : length (take at nodes) ≡ at
      front_length = length-take-le at nodes at_within

      front_passes : (i : ℕ) → i < length (take at nodes) → passes_at (get_or (take at nodes) i 0) ≡ true
      front_passes i h =
          let lt : i < at = omega (arith, h, front_length) in
          ap passes_at (get_or-take at nodes i 0 lt) ∙ sym (key_is i (omega (arith, lt, at_within))) ∙ before_count test pairs i lt

      back_at : (i : ℕ) → get_or (drop at nodes) i 0 ≡ get_or nodes (at + i) 0
      back_at i = get_or-drop at nodes i 0

      back_nodes : All (IsNode words end) (drop at nodes)
      back_nodes = All-drop (IsNode words end) at nodes (all_nodes skip)

      stop_at : at < length nodes → passes_at (get_or nodes at 0) ≡ false
      stop_at h = sym (key_is at h) ∙ at_count test pairs (omega (arith, h, length-pairs_of_nodes text words nodes))

      first : from ≡ 1 → (height : ℕ) → height < from → (node : ℕ) (more : List ℕ) → level words height (drop at nodes) ≡ node ∷ more → passes_at node ≡ false
      first one height h node more is =
          let zero_is : height ≡ 0 = omega (arith, one, h) in
          let whole : drop at nodes ≡ node ∷ more =
          sym (level-zero words end (drop at nodes) back_nodes) ∙ ap (λ n. level words n (drop at nodes)) (sym zero_is) ∙ is in
          let size = ap length whole ∙ refl in
          let lt : at < length nodes = omega (arith, size, length-drop at nodes) in
          let zero_sum : at ≡ at + 0 = omega arith in
          ap passes_at (ap (λ l. get_or l 0 0) (sym whole) ∙ back_at 0 ∙ ap (λ n. get_or nodes n 0) (sym zero_sum)) ∙ stop_at lt

      none : IsParted test pairs → (height : ℕ) → height < from → (node : ℕ) (more : List ℕ) → level words height (drop at nodes) ≡ node ∷ more → passes_at node ≡ false
      none parted height h node more is =
          All-head (λ n. passes_at n ≡ false) node more (subst (λ l. All (λ n. passes_at n ≡ false) l) is (All-filter (λ n. nat_lt height (tower words n)) (λ n. passes_at n ≡ false) (drop at nodes) back_fails))
        where
          back_fails : All (λ n. passes_at n ≡ false) (drop at nodes)
          back_fails = All-from_get_or (λ n. passes_at n ≡ false) (drop at nodes) 0 fails
            where
              fails : (i : ℕ) → i < length (drop at nodes) → passes_at (get_or (drop at nodes) i 0) ≡ false
              fails i h =
                  let lt : at + i < length nodes = omega (arith, h, length-drop at nodes) in
                  let same : passes_at (get_or (drop at nodes) i 0) ≡ test (key_at pairs (at + i)) = ap passes_at (back_at i) ∙ sym (key_is (at + i) lt) in
                  ⊎_elim
                  (λ (t : test (key_at pairs (at + i)) ≡ true).
                  let early : test (key_at pairs at) ≡ true = parted at (at + i) (omega arith) (omega (arith, lt, length-pairs_of_nodes text words nodes)) t in
                  absurd (false≢true (sym (stop_at (omega (arith, lt))) ∙ sym (key_is at (omega (arith, lt))) ∙ early)))
                  (λ (f : test (key_at pairs (at + i)) ≡ false). same ∙ f)
                  (cases_Bool (test (key_at pairs (at + i))))

  -- what a search that has gone down all heights found
  pub found : (from : ℕ) → 0 < from → from ≤ 12 → (which : (from ≡ 1) ⊎ IsParted test pairs) → (path : List ℕ) → IsPathTo words path from (take at nodes)
      → place_of nodes path ≡ at
  found from some most which path to =
      place_is skip (parts_of from which) most path some to ∙ length-take-le at nodes at_within

-- a search for the place after the pairs that pass
abbrev pub Searches : (List ℕ → Bool) → List ℕ → List ℕ → List ℕ → ℕ → ℕ → ℕ → List ℕ → Type 0
Searches test text words nodes from node height path =
    Descends words (take (count_while test (pairs_of_nodes text words nodes)) nodes) (λ n. let pair = pair_of_node text words n in test pair.0) from node height path

-- the node that a height ended at doesn't pass, where there was one
abbrev pub IsPast : (List ℕ → Bool) → List ℕ → List ℕ → ℕ → Type 0
IsPast test text words node = node ≢ 0 → (let pair = pair_of_node text words node in test pair.0) ≡ false

module _ (test : List ℕ → Bool) (text : List ℕ) {words : List ℕ} {end : ℕ} {nodes : List ℕ} (skip : IsSkipList words end nodes) {from : ℕ} (most : from ≤ 12)
    (which : (from ≡ 1) ⊎ IsParted test (pairs_of_nodes text words nodes)) where
  pub searches_from : (path : List ℕ) → length path ≡ 12 → Searches test text words nodes from head from path
  searches_from path long = descends_from skip (parts_of test text skip from which) most path long

  module _ {node height : ℕ} {path : List ℕ} (searches : Searches test text words nodes from node height path) (more : 0 < height) where
    pub searched_within : node + (height - 1) < length words
    searched_within = node_within skip (parts_of test text skip from which) most searches more

    pub searched_there : rank (head ∷ nodes) node ≤ length nodes
    searched_there = node_there skip (parts_of test text skip from which) most searches more

    pub searched_next : (next : ℕ) → next ≡ link words (height - 1) node → next ≢ 0
        → (rank (head ∷ nodes) node < rank (head ∷ nodes) next) × (rank nodes next < length nodes)
    searched_next next e other =
        let later = later_next skip (parts_of test text skip from which) most searches more next e other in (later.later, later.there)

    pub searched_along : (next : ℕ) → next ≡ link words (height - 1) node → next ≢ 0 → (let pair = pair_of_node text words next in test pair.0) ≡ true
        → Searches test text words nodes from next height path
    searched_along = moved skip (parts_of test text skip from which) most searches more

    pub searched_down : (next : ℕ) → next ≡ link words (height - 1) node → (next ≢ 0 → (let pair = pair_of_node text words next in test pair.0) ≡ false)
        → Searches test text words nodes from node (height - 1) (set path (height - 1) node)
    searched_down = down skip (parts_of test text skip from which) most searches more

  pub searched : {node height : ℕ} {path : List ℕ} → Searches test text words nodes from node height path → height ≡ 0
      → IsPathTo words path from (take (count_while test (pairs_of_nodes text words nodes)) nodes)
  searched s done height h = s.done height (omega (arith, done)) h

-- the last nodes are a path to the place after all
pub last_place : {words : List ℕ} {end : ℕ} {nodes : List ℕ} → IsSkipList words end nodes → (last : List ℕ) → IsPathTo words last 12 nodes → place_of nodes last ≡ length nodes
last_place {words} {end} {nodes} skip last to =
    let parts : Parts words nodes (λ n. true) 12 nodes [] = record {
      whole = sym (append-nil nodes);
      all_pass = λ k d h. refl;
      stops = λ height h node more e. absurd (omega (arith, ap length e));
    } in
    place_is skip parts (omega arith) last (omega arith) to
