-- A new node comes into a skip list.
use Rattle.std.proofs.Common.{◌≡◌, ◌≢◌, ℕ, zero, suc, ◌+◌, ◌-◌, ◌<◌, ◌≤◌, cond, List, [], ◌∷◌, ◌++◌, length, get_or, drop, map, slice_index, slice_range, refl, sym, ◌∙◌, ap, subst, arith, ◌⊎◌, ⊎_elim, append_assoc, length-append}
use Rattle.std.specs.Prelude.{All, nat_lt}
use Rattle.std.proofs.lemmas.Bool.{cases_order, cases_lt}
use Rattle.std.proofs.lemmas.List.{map-append}
use Rattle.std.proofs.lemmas.List.Elements.{All-head, All-tail, All-cons, All-append, All-filter}
use Rattle.leveldb_mem.specs.Placed.{head, most_height, tower, link, level, first_of_nodes, last_after, AreLinkedAt, IsApart, AreApart, IsNode, IsSkipList, IsPathTo, rank, pair_of_node, pairs_of_nodes, nodes_after, value_end}
use Rattle.leveldb_mem.proofs.PlacedLemmas.{rank-other, rank-get_or, get_or-rank, rank-append, level-append, level-keep, level-skip, level-zero, link_at, last_after-append, node_or_head}
use Rattle.leveldb_mem.proofs.PathLemmas.{All-middle}

-- ---- all of a list

All-front : {X : Type 0} (P : X → Type 0) (xs ys : List X) → All P (xs ++ ys) → All P xs
All-front P [] ys all k d h = absurd (omega (arith, h))
All-front P (x ∷ xs) ys all zero d h = all zero d (omega arith)
All-front P (x ∷ xs) ys all (suc k) d h = All-front P xs ys (All-tail P x (xs ++ ys) all) k d (omega (arith, h))

All-back : {X : Type 0} (P : X → Type 0) (xs ys : List X) → All P (xs ++ ys) → All P ys
All-back P [] ys all = all
All-back P (x ∷ xs) ys all = All-back P xs ys (All-tail P x (xs ++ ys) all)

All-insert : {X : Type 0} (P : X → Type 0) (xs : List X) (x : X) (ys : List X) → All P (xs ++ ys) → P x → All P (xs ++ x ∷ ys)
All-insert P xs x ys all p = All-append P xs (x ∷ ys) (All-front P xs ys all) (All-cons P x ys p (All-back P xs ys all))

All-both : {X : Type 0} (P Q : X → Type 0) (xs : List X) → All P xs → All Q xs → All (λ x. P x × Q x) xs
All-both P Q xs p q k d h = (p k d h, q k d h)

All-change : {X : Type 0} (P Q : X → Type 0) (xs : List X) → ((x : X) → P x → Q x) → All P xs → All Q xs
All-change P Q xs f p k d h = f _ (p k d h)

pub same_map : {A B : Type 0} (f g : A → B) (xs : List A) → All (λ x. f x ≡ g x) xs → map f xs ≡ map g xs
same_map f g [] h = refl
same_map f g (x ∷ xs) h =
    let head : f x ≡ g x = All-head (λ x. f x ≡ g x) x xs h in
    let rest : map f xs ≡ map g xs = same_map f g xs (All-tail (λ x. f x ≡ g x) x xs h) in
    λ i. head i ∷ rest i

-- ---- nodes that share no word

turned : {words : List ℕ} {a b : ℕ} → IsApart words a b → IsApart words b a
turned apart = record { other = λ e. apart.other (sym e); before = apart.after; after = apart.before }

-- any two that are there
apart_members : (words nodes : List ℕ) (x y : ℕ) → AreApart words nodes → rank nodes x < length nodes → rank nodes y < length nodes → x ≢ y → IsApart words x y
apart_members words [] x y apart p q other = absurd (omega (arith, p))
apart_members words (z ∷ zs) x y apart p q other =
    ⊎_elim
    (λ (e : z ≡ x). subst (λ n. IsApart words n y) e (far y (λ f. other (sym e ∙ f)) q))
    (λ (w : (z < x) ⊎ (x < z)).
    ⊎_elim
    (λ (e : z ≡ y). subst (λ n. IsApart words x n) e (turned (far x (differ z x w) p)))
    (λ (v : (z < y) ⊎ (y < z)). apart_members words zs x y apart.1 (within x (differ z x w) p) (within y (differ z y v) q) other)
    (cases_order z y))
    (cases_order z x)
  where
    differ : (a b : ℕ) → (a < b) ⊎ (b < a) → a ≢ b
    differ a b w e = ⊎_elim (λ (l : a < b). absurd (omega (arith, l, e))) (λ (l : b < a). absurd (omega (arith, l, e))) w

    within : (n : ℕ) → z ≢ n → rank (z ∷ zs) n < length (z ∷ zs) → rank zs n < length zs
    within n e h = let one = rank-other z n zs e in omega (arith, one, h)

    far : (n : ℕ) → z ≢ n → rank (z ∷ zs) n < length (z ∷ zs) → IsApart words z n
    far n e h = subst (λ m. IsApart words z m) (get_or-rank zs n 0 (within n e h)) (apart.0 (rank zs n) 0 (within n e h))

-- one that is there is none of the others
others_than : (words front : List ℕ) (node : ℕ) (back : List ℕ) → AreApart words (front ++ node ∷ back) → All (λ n. n ≢ node) front × All (λ n. n ≢ node) back
others_than words [] node back apart =
    (λ k d h. absurd (omega (arith, h)), λ k d h e. (apart.0 k d h).other (sym e))
others_than words (first ∷ front) node back apart =
    let rest = others_than words front node back apart.1 in
    (All-cons (λ n. n ≢ node) first front ((All-middle (IsApart words first) front node back apart.0).other) rest.0, rest.1)

All-by_rank : (words nodes : List ℕ) (P : ℕ → Type 0) → AreApart words nodes → ((node : ℕ) → rank nodes node < length nodes → P node) → All P nodes
All-by_rank words nodes P apart f k d h =
    let is = rank-get_or words nodes k d h apart in f (get_or nodes k d) (omega (arith, is, h))

-- ---- the last with a link at a height

pub record LastSplit (words : List ℕ) (height before : ℕ) (nodes : List ℕ) : Type 0 where
  pub front : List ℕ
  pub back : List ℕ
  pub whole : before ∷ nodes ≡ front ++ last_after before (level words height nodes) ∷ back
  pub none : level words height back ≡ []
  pub high : height < tower words (last_after before (level words height nodes))

last_split : (words : List ℕ) (height before : ℕ) (nodes : List ℕ) → height < tower words before → LastSplit words height before nodes
last_split words height before [] h = record { front = []; back = []; whole = refl; none = refl; high = h }
last_split words height before (node ∷ nodes) h =
    ⊎_elim
    (λ (lt : height < tower words node).
    let rest = last_split words height node nodes lt in
    let keep = level-keep words height node nodes lt in
    make (level words height (node ∷ nodes)) (node ∷ level words height nodes) keep
    (before ∷ rest.front) rest.back (ap (λ l. before ∷ l) rest.whole) rest.none rest.high refl)
    (λ (ge : tower words node ≤ height).
    let rest = last_split words height before nodes h in
    let skip = level-skip words height node nodes ge in
    later (level words height nodes) skip rest.front rest.back rest.whole rest.none rest.high ge)
    (cases_lt height (tower words node))
  where
    make : (l l' : List ℕ) → l ≡ l' → (front back : List ℕ) → before ∷ node ∷ nodes ≡ front ++ last_after before l' ∷ back → level words height back ≡ []
        → height < tower words (last_after before l') → l ≡ level words height (node ∷ nodes) → LastSplit words height before (node ∷ nodes)
    make l l' e front back whole none high same = record {
      front = front;
      back = back;
      whole = whole ∙ ap (λ z. front ++ last_after before z ∷ back) (sym e ∙ same);
      none = none;
      high = subst (λ z. height < tower words (last_after before z)) (sym e ∙ same) high;
    }

    later : (l : List ℕ) → level words height (node ∷ nodes) ≡ l → (front back : List ℕ) → before ∷ nodes ≡ front ++ last_after before l ∷ back → level words height back ≡ []
        → height < tower words (last_after before l) → tower words node ≤ height → LastSplit words height before (node ∷ nodes)
    later l e [] back whole none high ge =
        let first : before ≡ last_after before l = ap first_of_nodes whole in
        let rest : nodes ≡ back = ap (drop 1) whole in
        make (level words height (node ∷ nodes)) l e [] (node ∷ back) (λ i. first i ∷ node ∷ rest i) (level-skip words height node back ge ∙ none) high refl
    later l e (f ∷ front) back whole none high ge =
        let first : before ≡ f = ap first_of_nodes whole in
        let rest : nodes ≡ front ++ last_after before l ∷ back = ap (drop 1) whole in
        make (level words height (node ∷ nodes)) l e (before ∷ node ∷ front) back (λ i. before ∷ node ∷ rest i) none high refl

-- ---- links

same_links : (words words' : List ℕ) (height : ℕ) (nodes : List ℕ) → All (λ n. link words' height n ≡ link words height n) nodes → AreLinkedAt words height nodes → AreLinkedAt words' height nodes
same_links words words' height [] same linked = tt
same_links words words' height (node ∷ nodes) same linked =
    let Same = λ (n : ℕ). link words' height n ≡ link words height n in
    (All-head Same node nodes same ∙ linked.0, same_links words words' height nodes (All-tail Same node nodes same) linked.1)

-- a node comes after another
linked_between : (words words' : List ℕ) (height new before : ℕ) (front back : List ℕ) → link words' height before ≡ new → link words' height new ≡ link words height before
    → All (λ n. link words' height n ≡ link words height n) front → All (λ n. link words' height n ≡ link words height n) back
    → AreLinkedAt words height (front ++ before ∷ back) → AreLinkedAt words' height (front ++ before ∷ new ∷ back)
linked_between words words' height new before [] back to from front_same back_same linked =
    (to, (from ∙ linked.0, same_links words words' height back back_same linked.1))
linked_between words words' height new before (node ∷ front) back to from front_same back_same linked =
    let Same = λ (n : ℕ). link words' height n ≡ link words height n in
    (All-head Same node front front_same ∙ linked.0 ∙ first front, linked_between words words' height new before front back to from (All-tail Same node front front_same) back_same linked.1)
  where
    first : (ns : List ℕ) → first_of_nodes (ns ++ before ∷ back) ≡ first_of_nodes (ns ++ before ∷ new ∷ back)
    first [] = refl
    first (n ∷ ns) = refl

-- along links the nodes follow one another
nodes_linked : (words : List ℕ) (node : ℕ) (nodes : List ℕ) → AreLinkedAt words 0 (node ∷ nodes) → nodes_after words node (length nodes) ≡ nodes
nodes_linked words node [] linked = refl
nodes_linked words node (next ∷ nodes) linked =
    let to : link words 0 node ≡ next = linked.0 in
    let rest : nodes_after words next (length nodes) ≡ nodes = nodes_linked words next nodes linked.1 in
    ap (λ n. n ∷ nodes_after words n (length nodes)) to ∙ ap (λ ns. next ∷ ns) rest

same_level : (words words' : List ℕ) (height : ℕ) (nodes : List ℕ) → All (λ n. tower words' n ≡ tower words n) nodes → level words' height nodes ≡ level words height nodes
same_level words words' height [] same = refl
same_level words words' height (node ∷ nodes) same =
    let Same = λ (n : ℕ). tower words' n ≡ tower words n in
    let one : tower words' node ≡ tower words node = All-head Same node nodes same in
    let rest : level words' height nodes ≡ level words height nodes = same_level words words' height nodes (All-tail Same node nodes same) in
    λ i. cond (nat_lt height (one i)) (node ∷ rest i) (rest i)

same_apart : (words words' : List ℕ) (a b : ℕ) → tower words' a ≡ tower words a → tower words' b ≡ tower words b → IsApart words a b → IsApart words' a b
same_apart words words' a b p q apart = record {
  other = apart.other;
  before = λ h. let old = apart.before h in omega (arith, old, p);
  after = λ h. let old = apart.after h in omega (arith, old, q);
}

-- a node beyond all others shares no word with them
apart_insert : (words words' : List ℕ) (new : ℕ) (front back : List ℕ)
    → All (λ n. (tower words' n ≡ tower words n) × (n + tower words n + 4 ≤ new) × (n < new)) (front ++ back) → AreApart words (front ++ back) → AreApart words' (front ++ new ∷ back)
apart_insert words words' new [] back all apart = (
  λ k d h. record {
    other = λ e. let far = (all k d h).2 in absurd (omega (arith, far, e));
    before = λ lt. let far = (all k d h).2 in absurd (omega (arith, far, lt));
    after = λ lt. let old = all k d h in omega (arith, old.0, old.1);
  },
  same_all back (λ k d h. (all k d h).0) apart,
)
  where
    same_all : (ns : List ℕ) → All (λ n. tower words' n ≡ tower words n) ns → AreApart words ns → AreApart words' ns
    same_all [] same apart = tt
    same_all (n ∷ ns) same apart =
        let Same = λ (n : ℕ). tower words' n ≡ tower words n in
        let rest = All-tail Same n ns same in
        (λ k d h. same_apart words words' n (get_or ns k d) (All-head Same n ns same) (rest k d h) (apart.0 k d h), same_all ns rest apart.1)
apart_insert words words' new (node ∷ front) back all apart =
    let Old = λ (n : ℕ). (tower words' n ≡ tower words n) × (n + tower words n + 4 ≤ new) × (n < new) in
    let first : Old node = All-head Old node (front ++ back) all in
    let rest = All-tail Old node (front ++ back) all in
    let there : All (IsApart words' node) (front ++ back) = λ k d h. same_apart words words' node (get_or (front ++ back) k d) first.0 (rest k d h).0 (apart.0 k d h) in
    let last : IsApart words' node new = record {
      other = λ e. absurd (omega (arith, first.2, e));
      before = λ lt. omega (arith, first.0, first.1);
      after = λ lt. absurd (omega (arith, first.2, lt));
    } in
    (All-insert (IsApart words' node) front new back there last, apart_insert words words' new front back rest apart.1)

-- ---- the new node

-- how the words change: a new node with these links comes after them, and the nodes of its path
-- link to it
pub record Links (words path words' : List ℕ) (new height : ℕ) : Type 0 where
  pub low : 0 < height
  pub high : height ≤ 12
  pub at_end : new ≡ length words + 4
  pub long : length words' ≡ new + height
  pub tower_is : tower words' new ≡ height
  pub to : (k : ℕ) → k < height → link words' k (slice_index path k) ≡ new
  pub from : (k : ℕ) → k < height → link words' k new ≡ link words k (slice_index path k)
  pub others : (i : ℕ) → i < length words → ((k : ℕ) → k < height → i ≢ slice_index path k + k) → slice_index words' i ≡ slice_index words i

-- a node of the path has its link within the words
pub before_within : {words : List ℕ} {end : ℕ} {nodes : List ℕ} → IsSkipList words end nodes → (path front back : List ℕ) → nodes ≡ front ++ back → IsPathTo words path 12 front
    → (k : ℕ) → k < 12 → slice_index path k + k < length words
before_within {words} {end} {nodes} skip path front back whole to k h =
    let s = last_split words k head front (omega (arith, h, skip.high)) in
    let node = last_after head (level words k front) in
    let parts : head ∷ nodes ≡ s.front ++ node ∷ (s.back ++ back) = ap (λ l. head ∷ l) whole ∙ ap (λ l. l ++ back) s.whole ∙ append_assoc s.front (node ∷ s.back) back in
    let is = All-middle (IsNode words end) s.front node (s.back ++ back) (subst (λ l. All (IsNode words end) l) parts skip.valid) in
    omega (arith, to k h, is.within, s.high)

module _ {words : List ℕ} {end : ℕ} {nodes : List ℕ} (skip : IsSkipList words end nodes) {path words' : List ℕ} {new height : ℕ} (links : Links words path words' new height)
    (front back : List ℕ) (whole : nodes ≡ front ++ back) (to_place : IsPathTo words path 12 front) where
  all_whole : head ∷ nodes ≡ (head ∷ front) ++ back
  all_whole = ap (λ l. head ∷ l) whole

  split_at : (k : ℕ) → k < 12 → LastSplit words k head front
  split_at k h = last_split words k head front (omega (arith, h, skip.high))

  before_is : (k : ℕ) → k < 12 → slice_index path k ≡ last_after head (level words k front)
  before_is k h = to_place k h

  -- the node of the path at a height is there, has a link, and is the last of its height before the
  -- place
  record Before (k node : ℕ) : Type 0 where
    pub ahead : List ℕ
    pub behind : List ℕ
    pub parts : head ∷ front ≡ behind ++ node ∷ ahead
    pub none : level words k ahead ≡ []
    pub high : k < tower words node

  before_at : (k : ℕ) → k < 12 → Before k (slice_index path k)
  before_at k h =
      let s = split_at k h in
      subst (Before k) (sym (before_is k h)) (record { ahead = s.back; behind = s.front; parts = s.whole; none = s.none; high = s.high })

  parts_at : (k node : ℕ) (b : Before k node) → head ∷ nodes ≡ b.behind ++ node ∷ (b.ahead ++ back)
  parts_at k node b = all_whole ∙ ap (λ l. l ++ back) b.parts ∙ append_assoc b.behind (node ∷ b.ahead) back

  before_there : (k : ℕ) → k < 12 → rank (head ∷ nodes) (slice_index path k) < length (head ∷ nodes)
  before_there k h =
      let b = before_at k h in
      let parts = parts_at k (slice_index path k) b in
      let is = rank-append words b.behind (slice_index path k) (b.ahead ++ back) (subst (λ l. AreApart words l) parts skip.apart) in
      let size = ap length parts ∙ length-append b.behind (slice_index path k ∷ (b.ahead ++ back)) in
      omega (arith, ap (λ l. rank l (slice_index path k)) parts, is, size)

  -- no link that changes is among the words before a node's links
  kept_before : (node j : ℕ) → rank (head ∷ nodes) node < length (head ∷ nodes) → 0 < j → j ≤ 4 → slice_index words' (node - j) ≡ slice_index words (node - j)
  kept_before node j there some most =
      let is = node_or_head skip node (omega (arith, there)) in
      links.others (node - j) (omega (arith, is.low, is.within, some)) (λ k h e. clash k h e is.low)
    where
      clash : (k : ℕ) → k < height → node - j ≡ slice_index path k + k → 4 ≤ node → ⊥
      clash k h e low =
          let before = slice_index path k in
          let high = (before_at k (omega (arith, h, links.high))).high in
          ⊎_elim
          (λ (same : node ≡ before). absurd (omega (arith, e, same, some, low)))
          (λ (w : (node < before) ⊎ (before < node)).
          let apart = apart_members words (head ∷ nodes) node before skip.apart there (before_there k (omega (arith, h, links.high))) (λ z. ⊎_elim (λ (l : node < before). absurd (omega (arith, l, z))) (λ (l : before < node). absurd (omega (arith, l, z))) w) in
          ⊎_elim
          (λ (l : node < before). absurd (omega (arith, l, e, low, some)))
          (λ (l : before < node). let far = apart.after l in absurd (omega (arith, far, e, high, most))) w)
          (cases_order node before)

  -- nor is another node's link
  kept_link : (node k : ℕ) → rank (head ∷ nodes) node < length (head ∷ nodes) → k < tower words node → (k < height → node ≢ slice_index path k)
      → link words' k node ≡ link words k node
  kept_link node k there has other =
      let is = node_or_head skip node (omega (arith, there)) in
      links.others (node + k) (omega (arith, is.within, has)) clash
    where
      clash : (j : ℕ) → j < height → node + k ≢ slice_index path j + j
      clash j h e =
          let before = slice_index path j in
          let high = (before_at j (omega (arith, h, links.high))).high in
          ⊎_elim
          (λ (same : node ≡ before).
          let at : k ≡ j = omega (arith, e, same) in
          other (omega (arith, at, h)) (same ∙ ap (slice_index path) (sym at)))
          (λ (w : (node < before) ⊎ (before < node)).
          let apart = apart_members words (head ∷ nodes) node before skip.apart there (before_there j (omega (arith, h, links.high))) (λ z. ⊎_elim (λ (l : node < before). absurd (omega (arith, l, z))) (λ (l : before < node). absurd (omega (arith, l, z))) w) in
          ⊎_elim
          (λ (l : node < before). let far = apart.before l in absurd (omega (arith, far, e, has)))
          (λ (l : before < node). let far = apart.after l in absurd (omega (arith, far, e, high))) w)
          (cases_order node before)

  Each : (P : ℕ → Type 0) → ((node : ℕ) → rank (head ∷ nodes) node < length (head ∷ nodes) → P node) → All P ((head ∷ front) ++ back)
  Each P f = subst (λ l. All P l) all_whole (All-by_rank words (head ∷ nodes) P skip.apart f)

  same_tower : All (λ n. tower words' n ≡ tower words n) ((head ∷ front) ++ back)
  same_tower = Each (λ n. tower words' n ≡ tower words n) (λ n h. kept_before n 1 h (omega arith) (omega arith))

  same_pair : (text : List ℕ) → All (λ n. pair_of_node text words' n ≡ pair_of_node text words n) ((head ∷ front) ++ back)
  same_pair text = Each (λ n. pair_of_node text words' n ≡ pair_of_node text words n) (λ n h.
      let start = kept_before n 4 h (omega arith) (omega arith) in
      let key = kept_before n 3 h (omega arith) (omega arith) in
      let value = kept_before n 2 h (omega arith) (omega arith) in
      λ i. (slice_range text (start i) (start i + key i), slice_range text (start i + key i) (start i + key i + value i)))

  abbrev new_nodes : List ℕ
  new_nodes = (head ∷ front) ++ new ∷ back

  level_front : (k : ℕ) → level words' k (head ∷ front) ≡ level words k (head ∷ front)
  level_front k = same_level words words' k (head ∷ front) (All-front (λ n. tower words' n ≡ tower words n) (head ∷ front) back same_tower)

  level_back : (k : ℕ) → level words' k back ≡ level words k back
  level_back k = same_level words words' k back (All-back (λ n. tower words' n ≡ tower words n) (head ∷ front) back same_tower)

  level_with : (k : ℕ) → k < height → level words' k new_nodes ≡ level words k (head ∷ front) ++ new ∷ level words k back
  level_with k h =
      level-append words' k (head ∷ front) (new ∷ back)
      ∙ ap (λ l. l ++ level words' k (new ∷ back)) (level_front k)
      ∙ ap (λ l. level words k (head ∷ front) ++ l) (level-keep words' k new back (omega (arith, h, links.tower_is)) ∙ ap (λ l. new ∷ l) (level_back k))

  level_without : (k : ℕ) → height ≤ k → level words' k new_nodes ≡ level words k (head ∷ nodes)
  level_without k h =
      level-append words' k (head ∷ front) (new ∷ back)
      ∙ ap (λ l. l ++ level words' k (new ∷ back)) (level_front k)
      ∙ ap (λ l. level words k (head ∷ front) ++ l) (level-skip words' k new back (omega (arith, h, links.tower_is)) ∙ level_back k)
      ∙ sym (level-append words k (head ∷ front) back) ∙ ap (level words k) (sym all_whole)

  -- links that stay, of nodes that have one
  abbrev Stays : ℕ → ℕ → Type 0
  Stays k n = k < tower words n → (k < height → n ≢ slice_index path k) → link words' k n ≡ link words k n

  all_stay : (k : ℕ) → All (Stays k) ((head ∷ front) ++ back)
  all_stay k = Each (Stays k) (λ n h has other. kept_link n k h has other)

  linked_level : (k : ℕ) (ns : List ℕ) → All (Stays k) ns → (k < height → All (λ n. n ≢ slice_index path k) ns) → All (λ n. link words' k n ≡ link words k n) (level words k ns)
  linked_level k [] stay other = λ i d h. absurd (omega (arith, h))
  linked_level k (n ∷ ns) stay other =
      let Same = λ (n : ℕ). link words' k n ≡ link words k n in
      let rest = linked_level k ns (All-tail (Stays k) n ns stay) (λ h. All-tail (λ n. n ≢ slice_index path k) n ns (other h)) in
      ⊎_elim
      (λ (lt : k < tower words n).
      subst (λ l. All Same l) (sym (level-keep words k n ns lt))
      (All-cons Same n (level words k ns) (All-head (Stays k) n ns stay lt (λ h. All-head (λ n. n ≢ slice_index path k) n ns (other h))) rest))
      (λ (ge : tower words n ≤ k). subst (λ l. All Same l) (sym (level-skip words k n ns ge)) rest)
      (cases_lt k (tower words n))

  new_levels : (k : ℕ) → k < most_height → AreLinkedAt words' k (level words' k new_nodes)
  new_levels k h = ⊎_elim with_new without_new (cases_lt k height)
    where
      without_new : height ≤ k → AreLinkedAt words' k (level words' k new_nodes)
      without_new ge =
          let same = linked_level k (head ∷ nodes) (subst (λ l. All (Stays k) l) (sym all_whole) (all_stay k)) (λ lt. absurd (omega (arith, lt, ge))) in
          subst (λ l. AreLinkedAt words' k l) (sym (level_without k ge)) (same_links words words' k (level words k (head ∷ nodes)) same (skip.levels k h))

      with_new : k < height → AreLinkedAt words' k (level words' k new_nodes)
      with_new lt =
          let before = slice_index path k in
          let b = before_at k h in
          let parts = parts_at k before b in
          let others = others_than words b.behind before (b.ahead ++ back) (subst (λ l. AreApart words l) parts skip.apart) in
          let stay = subst (λ l. All (Stays k) l) (sym all_whole ∙ parts) (all_stay k) in
          let behind_stay = All-front (Stays k) b.behind (before ∷ (b.ahead ++ back)) stay in
          let back_stay = All-back (Stays k) (head ∷ front) back (all_stay k) in
          let behind_level : level words k (head ∷ front) ≡ level words k b.behind ++ before ∷ [] =
          ap (level words k) b.parts ∙ level-append words k b.behind (before ∷ b.ahead)
          ∙ ap (λ l. level words k b.behind ++ l) (level-keep words k before b.ahead b.high ∙ ap (λ l. before ∷ l) b.none) in
          let old_level : level words k (head ∷ nodes) ≡ level words k b.behind ++ before ∷ level words k back =
          ap (level words k) all_whole ∙ level-append words k (head ∷ front) back ∙ ap (λ l. l ++ level words k back) behind_level
          ∙ append_assoc (level words k b.behind) (before ∷ []) (level words k back) in
          let new_level : level words' k new_nodes ≡ level words k b.behind ++ before ∷ new ∷ level words k back =
          level_with k lt ∙ ap (λ l. l ++ new ∷ level words k back) behind_level ∙ append_assoc (level words k b.behind) (before ∷ []) (new ∷ level words k back) in
          subst (λ l. AreLinkedAt words' k l) (sym new_level)
          (linked_between words words' k new before (level words k b.behind) (level words k back) (links.to k lt) (links.from k lt)
          (linked_level k b.behind behind_stay (λ _. others.0))
          (linked_level k back back_stay (λ _. All-back (λ n. n ≢ before) b.ahead back others.1))
          (subst (λ l. AreLinkedAt words k l) old_level (skip.levels k h)))

  old_nodes : All (IsNode words end) ((head ∷ front) ++ back)
  old_nodes = subst (λ l. All (IsNode words end) l) all_whole skip.valid

  module _ {end' : ℕ} (more : end ≤ end') (cut : value_end words' new ≡ end') where
    node_still : All (IsNode words' end') ((head ∷ front) ++ back)
    node_still = Each (IsNode words' end') (λ n h.
        let is = node_or_head skip n (omega (arith, h)) in
        let same = kept_before n 1 h (omega arith) (omega arith) in
        let start = kept_before n 4 h (omega arith) (omega arith) in
        let key = kept_before n 3 h (omega arith) (omega arith) in
        let value = kept_before n 2 h (omega arith) (omega arith) in
        record {
          low = is.low;
          linked = omega (arith, same, is.linked);
          limited = omega (arith, same, is.limited);
          within = omega (arith, same, is.within, links.long, links.at_end);
          cut = omega (arith, is.cut, start, key, value, more);
        })

    node_new : IsNode words' end' new
    node_new = record {
      low = omega (arith, links.at_end);
      linked = omega (arith, links.tower_is, links.low);
      limited = omega (arith, links.tower_is, links.high);
      within = omega (arith, links.tower_is, links.long);
      cut = omega (arith, cut);
    }

    -- the new list
    pub new_skip : IsSkipList words' end' (front ++ new ∷ back)
    new_skip = record {
      high = All-head (λ n. tower words' n ≡ tower words n) head (front ++ back) same_tower ∙ skip.high;
      valid = All-insert (IsNode words' end') (head ∷ front) new back node_still node_new;
      apart = apart_insert words words' new (head ∷ front) back far (subst (λ l. AreApart words l) all_whole skip.apart);
      levels = new_levels;
    }
      where
        far : All (λ n. (tower words' n ≡ tower words n) × (n + tower words n + 4 ≤ new) × (n < new)) ((head ∷ front) ++ back)
        far k d h =
            let is = old_nodes k d h in
            let same = same_tower k d h in
            (same, omega (arith, is.within, links.at_end), omega (arith, is.within, links.at_end))

    pub new_order : nodes_after words' head (suc (length nodes)) ≡ front ++ new ∷ back
    new_order =
        let all = level-zero words' end' new_nodes (All-insert (IsNode words' end') (head ∷ front) new back node_still node_new) in
        let size = ap length whole ∙ length-append front back in
        let more_size = length-append front (new ∷ back) in
        let count : suc (length nodes) ≡ length (front ++ new ∷ back) = omega (arith, size, more_size) in
        ap (nodes_after words' head) count ∙ nodes_linked words' head (front ++ new ∷ back) (subst (λ l. AreLinkedAt words' 0 l) all (new_levels 0 (omega arith)))

    -- at each height the last node is as before, or the new one where none follows it
    pub new_lasts : (last last' : List ℕ) → IsPathTo words last 12 nodes
        → ((k : ℕ) → k < height → link words' k new ≡ 0 → slice_index last' k ≡ new)
        → ((k : ℕ) → k < height → link words' k new ≢ 0 → slice_index last' k ≡ slice_index last k)
        → ((k : ℕ) → height ≤ k → slice_index last' k ≡ slice_index last k)
        → IsPathTo words' last' 12 (front ++ new ∷ back)
    new_lasts last last' lasts none some other k h = ⊎_elim with_new without_new (cases_lt k height)
      where
        high_head : k < tower words head
        high_head = omega (arith, h, skip.high)

        high_head' : k < tower words' head
        high_head' = let same = All-head (λ n. tower words' n ≡ tower words n) head (front ++ back) same_tower in omega (arith, same, high_head)

        behead : (l l' : List ℕ) → head ∷ l ≡ head ∷ l' → l ≡ l'
        behead l l' e = ap (drop 1) e

        without_new : height ≤ k → slice_index last' k ≡ last_after head (level words' k (front ++ new ∷ back))
        without_new ge =
            let same : level words' k (front ++ new ∷ back) ≡ level words k nodes =
            behead _ _ (sym (level-keep words' k head (front ++ new ∷ back) high_head') ∙ level_without k ge ∙ level-keep words k head nodes high_head) in
            other k ge ∙ lasts k h ∙ ap (last_after head) (sym same)

        after_end : (l : List ℕ) (first : ℕ) → link words' k new ≡ first_of_nodes l → All (λ n. 0 < n) l → (before : List ℕ) → k < height
            → slice_index last k ≡ last_after head (before ++ l) → slice_index last' k ≡ last_after head (before ++ new ∷ l)
        after_end [] first to real before lt was = none k lt to ∙ sym (last_after-append head before new)
        after_end (y ∷ ys) first to real before lt was =
            let y_real : 0 < y = All-head (λ n. 0 < n) y ys real in
            some k lt (λ z. absurd (omega (arith, z, to, y_real))) ∙ was ∙ last_after-tail head before y ys ∙ sym (last_after-tail head before new (y ∷ ys))
          where
            last_after-tail : (start : ℕ) (xs : List ℕ) (z : ℕ) (zs : List ℕ) → last_after start (xs ++ z ∷ zs) ≡ last_after z zs
            last_after-tail start [] z zs = refl
            last_after-tail start (x ∷ xs) z zs = last_after-tail x xs z zs

        with_new : k < height → slice_index last' k ≡ last_after head (level words' k (front ++ new ∷ back))
        with_new lt =
            let before = slice_index path k in
            let b = before_at k h in
            let new_level : level words' k (front ++ new ∷ back) ≡ level words k front ++ new ∷ level words k back =
            behead _ _ (sym (level-keep words' k head (front ++ new ∷ back) high_head') ∙ level_with k lt ∙ ap (λ l. l ++ new ∷ level words k back) (level-keep words k head front high_head)) in
            let old_level : level words k nodes ≡ level words k front ++ level words k back = ap (level words k) whole ∙ level-append words k front back in
            let was : slice_index last k ≡ last_after head (level words k front ++ level words k back) = lasts k h ∙ ap (last_after head) old_level in
            let linked = subst (λ l. AreLinkedAt words k (level words k l)) (parts_at k before b) (skip.levels k h) in
            let to : link words' k new ≡ first_of_nodes (level words k back) =
            links.from k lt ∙ link_at words k b.behind before (b.ahead ++ back) linked b.high ∙ ap first_of_nodes (level-append words k b.ahead back ∙ ap (λ l. l ++ level words k back) b.none) in
            let real : All (λ n. 0 < n) (level words k back) =
            All-filter (λ n. nat_lt k (tower words n)) (λ n. 0 < n) back (All-change (IsNode words end) (λ n. 0 < n) back (λ n is. let low = is.low in omega (arith, low)) (All-back (IsNode words end) (head ∷ front) back old_nodes)) in
            after_end (level words k back) 0 to real (level words k front) lt was ∙ ap (last_after head) (sym new_level)

    pub new_pairs : (text : List ℕ) → pairs_of_nodes text words' (front ++ new ∷ back) ≡ pairs_of_nodes text words front ++ pair_of_node text words' new ∷ pairs_of_nodes text words back
    new_pairs text =
        let Same = λ (n : ℕ). pair_of_node text words' n ≡ pair_of_node text words n in
        let all : All Same (front ++ back) = All-tail Same head (front ++ back) (same_pair text) in
        let first = same_map (pair_of_node text words') (pair_of_node text words) front (All-front Same front back all) in
        let last = same_map (pair_of_node text words') (pair_of_node text words) back (All-back Same front back all) in
        map-append (pair_of_node text words') front (new ∷ back) ∙ (λ i. first i ++ pair_of_node text words' new ∷ last i)
