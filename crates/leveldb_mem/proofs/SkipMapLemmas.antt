-- Places of a walk over a map: nodes, and the indexes of their pairs.
use Rattle.std.proofs.Common.{◌≡◌, ◌≢◌, ℕ, ◌-◌, ◌<◌, ◌≤◌, Bool, true, false, List, [], ◌∷◌, ◌++◌, ◌+◌, length, length-append, take, Option, Some, None, Result, Ok, Err, inl, inr, refl, sym, ◌∙◌, ap, subst, arith, ◌⊎◌, ⊎_elim}
use Rattle.std.specs.Prelude.{nat_lt, IsErrAnd, IfErr}
use Rattle.std.specs.Option.{ForSome}
use Rattle.std.proofs.lemmas.Bool.{cases_lt, cond-true, lt-ltb, cond_both, ltb-true}
use Rattle.std.proofs.lemmas.Option.{same_Some}
use Rattle.std.proofs.lemmas.List.Elements.{All-get_or}
use Rattle.std.specs.Ordering.{is_lt, ordering_reverse}
use Rattle.std.specs.declared.cmp.Ordering.{Ordering}
use Rattle.std.specs.declared.cmp.Ordering.TheVariants.{Less, Equal, Greater}
use Rattle.leveldb_base.specs.declared.error.Status.{Status}
use Rattle.leveldb_base.specs.declared.error.StatusCode.TheVariants.{InvalidArgument, AlreadyExists}
use Rattle.leveldb_base.specs.Cmp.{IsPreorderOn}
use Rattle.leveldb_base.specs.Types.{Pair, position_within, previous_position}
use Rattle.leveldb_mem.specs.Searching.{key_at, count_while}
use Rattle.leveldb_mem.specs.SkipMap.{Held, IsSorted, HasKey, HasNode, InsertResult, IsGap, position_of_node}
use Rattle.leveldb_mem.specs.Placed.{head, rank, place_of, IsAt, IsPathTo, FailsToReserve}
use Rattle.leveldb_mem.proofs.Halving.{count_at, count-le, count_before-is}
use Rattle.leveldb_mem.proofs.PlacedLemmas.{rank-zero, rank-later, rank-same}
use Rattle.leveldb_mem.proofs.Rising.{rising_at, gap_at, gap_after}

-- no position in a list of no pairs
pub none_within : (pairs : List Pair) (i : ℕ) → length pairs ≤ i → None ≡ position_within pairs i
none_within pairs i h =
    cond_both (nat_lt i (length pairs)) (Some i) None (λ p. None ≡ p) (λ e. absurd (omega (arith, h, ltb-true i (length pairs) e))) (λ e. refl)

pub some_within : (pairs : List Pair) (i : ℕ) → i < length pairs → position_within pairs i ≡ Some i
some_within pairs i h = cond-true _ _ _ (lt-ltb i (length pairs) h)

for_none : {X : Type 0} (P : X → Type 0) (o : Option X) → o ≡ None → ForSome o P
for_none P o e x is = let no = sym is ∙ e in absurd (cc)

pub for_some : {X : Type 0} (P : X → Type 0) (o : Option X) (y : X) → o ≡ Some y → P y → ForSome o P
for_some P o y e p x is = subst P (same_Some y x (sym e ∙ is)) p

-- what an index says of a position
pub at_index : (pairs : List Pair) (i r : ℕ) → Some r ≡ position_within pairs i → (r ≡ i) × (i < length pairs)
at_index pairs i r e =
    ⊎_elim
    (λ (lt : i < length pairs). (same_Some r i (e ∙ some_within pairs i lt), lt))
    (λ (ge : length pairs ≤ i). let no = e ∙ sym (none_within pairs i ge) in absurd (cc))
    (cases_lt i (length pairs))

pub beyond : (pairs : List Pair) (i : ℕ) → None ≡ position_within pairs i → length pairs ≤ i
beyond pairs i e =
    ⊎_elim
    (λ (lt : i < length pairs). let no = e ∙ some_within pairs i lt in absurd (cc))
    (λ (ge : length pairs ≤ i). ge)
    (cases_lt i (length pairs))

-- the place that a node is, where the node is at an index
module _ {nodes : List ℕ} (pairs : List Pair) (size : length nodes ≡ length pairs) {i node : ℕ} (at : IsAt nodes i node) (place : Option ℕ)
    (none : node ≡ 0 → place ≡ None) (some : 0 < node → place ≡ Some node) where
  pub place_at : position_of_node nodes place ≡ position_within pairs i
  place_at =
      ⊎_elim
      (λ (lt : i < length nodes).
      let there = at.there lt in
      ap (position_of_node nodes) (some there.1) ∙ ap (λ n. Some n) there.0 ∙ sym (some_within pairs i (omega (arith, lt, size))))
      (λ (ge : length nodes ≤ i). ap (position_of_node nodes) (none (at.none ge)) ∙ none_within pairs i (omega (arith, ge, size)))
      (cases_lt i (length nodes))

  pub place_has : ForSome place (HasNode nodes pairs)
  place_has =
      ⊎_elim
      (λ (lt : i < length nodes). let there = at.there lt in for_some (HasNode nodes pairs) place node (some there.1) (omega (arith, there.0, lt, size)))
      (λ (ge : length nodes ≤ i). for_none (HasNode nodes pairs) place (none (at.none ge)))
      (cases_lt i (length nodes))

module _ {accepts : List ℕ → Bool} {cmp : List ℕ → List ℕ → Ordering} (o : IsPreorderOn accepts cmp) {pairs : List Pair} (sorted : IsSorted accepts cmp pairs) where
  accepted : (i : ℕ) → i < length pairs → accepts (key_at pairs i) ≡ true
  accepted i h = All-get_or (λ (pair : Pair). accepts pair.0 ≡ true) pairs i ([], []) h sorted.accepted

  pub accepted_key : (i : ℕ) → i < length pairs → accepts (key_at pairs i) ≡ true
  accepted_key = accepted

  itself : (r : Ordering) → r ≡ ordering_reverse r → is_lt r ≡ false
  itself Less e = cc
  itself Equal e = refl
  itself Greater e = refl

  -- as many keys are before a key of the map as its index says
  pub count_of_key : (i : ℕ) → i < length pairs → count_while (λ k. is_lt (cmp k (key_at pairs i))) pairs ≡ i
  count_of_key i h =
      let key = key_at pairs i in
      count_at (λ k. is_lt (cmp k key)) pairs i (omega (arith, h)) (λ j lt. ap is_lt (rising_at cmp pairs sorted.rising j i lt h))
      (λ _. itself (cmp key key) (o.turned key key (accepted i h) (accepted i h)))

  -- after the last key is a gap, where there is none or it is before this one
  pub gap_last : (key : List ℕ) → accepts key ≡ true → (at : ℕ) → at ≡ length pairs → (length pairs ≡ 0) ⊎ (cmp (key_at pairs (length pairs - 1)) key ≡ Less) → IsGap accepts cmp pairs key at
  gap_last key ok at end which =
      ⊎_elim
      (λ (lt : length pairs < 1).
      let count = count_before-is cmp key pairs in
      let le = count-le (λ k. is_lt (cmp k key)) pairs in
      gap_at o sorted key ok at (omega (arith, end, lt, count, le)) (λ h. absurd (omega (arith, h, end))))
      (λ (ge : 1 ≤ length pairs).
      ⊎_elim
      (λ (e : length pairs ≡ 0). absurd (omega (arith, e, ge)))
      (λ (less : cmp (key_at pairs (length pairs - 1)) key ≡ Less). gap_after o sorted key ok at end (omega (arith, ge)) less) which)
      (cases_lt (length pairs) 1)

-- the causes for which there is no room have codes of their own
pub not_empty : (pairs : List Pair) (count bytes : ℕ) {status : Status} → FailsToReserve pairs count bytes status → status.code ≡ InvalidArgument → ⊥
not_empty pairs count bytes (inl past) e = let code = past.0 in cc
not_empty pairs count bytes (inr memory) e = let code = memory.0 in cc

pub not_present : (pairs : List Pair) (count bytes : ℕ) {status : Status} → FailsToReserve pairs count bytes status → status.code ≡ AlreadyExists → ⊥
not_present pairs count bytes (inl past) e = let code = past.0 in cc
not_present pairs count bytes (inr memory) e = let code = memory.0 in cc

-- a key that comes in five parts
pub length-five : (h u t s b : List ℕ) → length (h ++ u ++ t ++ s ++ b) ≡ length h + length u + length t + length s + length b
length-five h u t s b =
    length-append (h ++ u ++ t ++ s) b ∙ ap (λ n. n + length b) (length-append (h ++ u ++ t) s ∙ ap (λ n. n + length s) (length-append (h ++ u) t ∙ ap (λ n. n + length t) (length-append h u)))

-- an error with a cause that goes with a fact
pub caused : {T E : Type 0} (P R : E → Type 0) (Q : Type 0) (r : Result T E) → IsErrAnd r P → Q → IfErr r (λ status. (P status × Q) ⊎ R status)
caused P R Q (Ok x) h q = tt
caused P R Q (Err e) h q = inl (h, q)

-- the position before an index, where a node is the last before it
module _ (nodes : List ℕ) (index before : ℕ) (within : index ≤ length nodes) (is : rank (head ∷ nodes) before ≡ index) where
  pub before_head : before ≡ head → None ≡ previous_position (Some index)
  before_head e =
      let none : index ≡ 0 = sym is ∙ rank-same head before nodes (sym e) in
      ap (λ i. previous_position (Some i)) (sym none)

  some_before : before ≢ head → 0 < index
  some_before other =
      ⊎_elim
      (λ (lt : index < 1). absurd (other (sym (rank-zero head before nodes (omega (arith, is, lt))))))
      (λ (ge : 1 ≤ index). omega (arith, ge)) (cases_lt index 1)

  pub before_node : before ≢ head → Some (rank nodes before) ≡ previous_position (Some index)
  before_node other =
      let some = some_before other in
      let one = rank-later head before nodes (omega (arith, is, some)) in
      let same : rank nodes before ≡ index - 1 = omega (arith, one, is) in
      ap (λ i. Some i) same ∙ sym (cond-true _ _ _ (lt-ltb 0 index some))

  pub before_has : before ≢ head → rank nodes before < length nodes
  before_has other =
      let some = some_before other in
      let one = rank-later head before nodes (omega (arith, is, some)) in omega (arith, one, is, within)

-- a path stays one where the words and nodes are the same
pub same_path : (words words' order order' path : List ℕ) (at : ℕ) → words' ≡ words → order' ≡ order → place_of order path ≡ at → IsPathTo words path 12 (take at order)
    → IsPathTo words' path 12 (take (place_of order' path) order')
same_path words words' order order' path at w o e to =
    subst (λ z. IsPathTo z path 12 (take (place_of order' path) order')) (sym w)
    (subst (λ z. IsPathTo words path 12 (take (place_of z path) z)) (sym o) (subst (λ n. IsPathTo words path 12 (take n order)) (sym e) to))

-- an empty key isn't inserted
pub refuses_empty : {C : Type 0} {accepts : List ℕ → Bool} {order : List ℕ → List ℕ → Ordering} (held : Held C) {key value : List ℕ} {status : Status} → IsSorted accepts order held.pairs
    → key ≡ [] → status.code ≡ InvalidArgument → InsertResult accepts order held (key, value) (Err status) held
refuses_empty held sorted none code = record {
  cmp = refl;
  ok = tt;
  sorted = sorted;
  err = refl;
  places = refl;
  bytes = omega arith;
  empty = (λ h. none, λ h. code);
  present = (λ h. absurd (let never : InvalidArgument ≡ AlreadyExists = sym code ∙ h in cc), λ h. absurd (h.0 none));
  cause = inl code;
}

-- nor is one that is there
pub refuses_taken : {C : Type 0} {accepts : List ℕ → Bool} {order : List ℕ → List ℕ → Ordering} (held : Held C) {key value : List ℕ} {status : Status} → IsSorted accepts order held.pairs
    → key ≢ [] → HasKey order held.pairs key → status.code ≡ AlreadyExists → InsertResult accepts order held (key, value) (Err status) held
refuses_taken held sorted some has code = record {
  cmp = refl;
  ok = tt;
  sorted = sorted;
  err = refl;
  places = refl;
  bytes = omega arith;
  empty = (λ h. absurd (let never : AlreadyExists ≡ InvalidArgument = sym code ∙ h in cc), λ none. absurd (some none));
  present = (λ h. (some, has), λ h. code);
  cause = inr (inl code);
}
