-- The laws of walks follow from what their moves return.
use Rattle.std.proofs.Common.{◌≡◌, ◌≤◌, ◌<◌, ◌+◌, ℕ, zero, suc, true, false, List, [], ◌∷◌, ◌++◌, length, refl, sym, ◌∙◌, ap, subst, arith, Option, Some, None, Ok, Err, All, append_assoc}
use Rattle.std.specs.Prelude.{◌≢◌, map, replicate, slice_get, option_and_then, IsTrue, IsOk, Result}
use Rattle.std.specs.Ordering.{is_lt}
use Rattle.std.specs.declared.cmp.Ordering.{Ordering}
use Rattle.std.proofs.lemmas.Grind.{common_steps}
use Rattle.std.proofs.lemmas.List.Elements.{All-nil, All-cons, All-head, All-tail}
use Rattle.leveldb_iter.proofs.DbIterLemmas.{at_front}
use Rattle.rusty_leveldb.specs.Headline.{Pair, AreRising, WalkMove, advance, prev, Why, within, moved_to, AreMoves}
use Rattle.rusty_leveldb.specs.HeadlineLaws.{HaveKeysOnce, ForwardWalkGivesMap, PrevLeadsBack}
use Rattle.rusty_leveldb.proofs.Machines.WalkLawsLemmas.{some_is_not_none, length_seam}

-- ---- positions

module _ (cmp : List ℕ → List ℕ → Ordering) (pairs : List Pair) where
  inside : (n : ℕ) → n < length pairs → within cmp pairs n ≡ Some n
  inside n small = grind (arith, common_steps)

  outside : (n : ℕ) → length pairs ≤ n → within cmp pairs n ≡ None
  outside n great = grind (arith, common_steps)

  -- the position that so many pairs come before
  abbrev position_past : ℕ → Option ℕ
  position_past zero = None
  position_past (suc n) = Some n

  next_of : (n : ℕ) → moved_to cmp pairs (position_past n) advance ≡ within cmp pairs n
  next_of zero = refl
  next_of (suc n) = ap (within cmp pairs) (omega arith)

  -- a position that is in the list is that one
  inside_is : (n m : ℕ) → within cmp pairs n ≡ Some m → m ≡ n
  inside_is n m is = grind (arith, common_steps)

  back_from : (n : ℕ) → moved_to cmp pairs (Some (n + 1)) prev ≡ Some n
  back_from n = grind (arith, common_steps)

  -- ---- forward

  forward : (gone left : List Pair) (results : List (Result (Option Pair) Why))
      → pairs ≡ gone ++ left
      → AreMoves cmp pairs (position_past (length gone)) (replicate (suc (length left)) advance)
      results
      → All IsOk results → results ≡ map (λ pair. Ok (Some pair)) left ++ Ok None ∷ []
  forward gone left [] parted moves ok = absurd moves
  forward gone left (Err why ∷ rest) parted moves ok =
      absurd (let never : false ≡ true = All-head IsOk (Err why) rest ok in cc)
  forward gone [] (Ok there ∷ rest) parted moves ok =
      let size : length pairs ≡ length gone + 0 = ap length parted ∙ length_seam gone [] in
      let past : moved_to cmp pairs (position_past (length gone)) advance ≡ None =
      next_of (length gone) ∙ outside (length gone) (omega (arith, size)) in
      let none : there ≡ None = moves.0 ∙ ap (option_and_then (slice_get pairs)) past in
      ends rest none moves.1
    where
      ends : (rest : List (Result (Option Pair) Why)) → there ≡ None
          → AreMoves cmp pairs (moved_to cmp pairs (position_past (length gone)) advance) [] rest
          → Ok there ∷ rest ≡ Ok None ∷ []
      ends [] none are = ap (λ t. Ok t ∷ []) none
      ends (one ∷ rest) none are = absurd are
  forward gone (x ∷ left) (Ok there ∷ rest) parted moves ok =
      let size : length pairs ≡ length gone + suc (length left) =
      ap length parted ∙ length_seam gone (x ∷ left) in
      let next : moved_to cmp pairs (position_past (length gone)) advance ≡ Some (length gone) =
      next_of (length gone) ∙ inside (length gone) (omega (arith, size)) in
      let here : there ≡ Some x = moves.0 ∙ ap (option_and_then (slice_get pairs)) next
      ∙ ap (λ list. slice_get list (length gone)) parted ∙ at_front gone (x ∷ left) in
      let longer : suc (length gone) ≡ length (gone ++ x ∷ []) =
      omega (arith, length_seam gone (x ∷ [])) in
      let more = subst (λ at. AreMoves cmp pairs at (replicate (suc (length left)) advance) rest)
      (next ∙ ap position_past longer) moves.1 in
      let found = forward (gone ++ x ∷ []) left rest
      (parted ∙ sym (append_assoc gone (x ∷ []) left)) more (All-tail IsOk (Ok there) rest ok) in
      λ i. Ok (here i) ∷ found i

  -- ---- back

  back_at : (at : Option ℕ) (move : WalkMove) (here there : Pair) (back : Option Pair)
      → AreMoves cmp pairs at (move ∷ advance ∷ prev ∷ [])
      (Ok (Some here) ∷ Ok (Some there) ∷ Ok back ∷ []) → back ≡ Some here
  back_at at move here there back moves =
      by (moved_to cmp pairs at move) moves.0 moves.1.0 moves.1.1.0
    where
      by : (first : Option ℕ) → Some here ≡ option_and_then (slice_get pairs) first
          → Some there ≡ option_and_then (slice_get pairs) (moved_to cmp pairs first advance)
          → back ≡ option_and_then (slice_get pairs)
          (moved_to cmp pairs (moved_to cmp pairs first advance) prev)
          → back ≡ Some here
      by None at_here at_there at_back = absurd (some_is_not_none at_here)
      by (Some n) at_here at_there at_back =
          second (within cmp pairs (n + 1)) refl at_there
        where
          second : (next : Option ℕ) → within cmp pairs (n + 1) ≡ next
              → Some there ≡ option_and_then (slice_get pairs) (within cmp pairs (n + 1))
              → back ≡ Some here
          second None e there_is = absurd (some_is_not_none
              (there_is ∙ ap (option_and_then (slice_get pairs)) e))
          second (Some m) e there_is =
              at_back
              ∙ ap (λ p. option_and_then (slice_get pairs) (moved_to cmp pairs p prev))
              (e ∙ ap Some (inside_is (n + 1) m e))
              ∙ ap (option_and_then (slice_get pairs)) (back_from n) ∙ sym at_here

-- ---- each key once

module _ (cmp : List ℕ → List ℕ → Ordering)
    (strict : (key : List ℕ) → is_lt (cmp key key) ≡ false) where
  apart : (one two : Pair) → IsTrue (is_lt (cmp one.0 two.0)) → one.0 ≢ two.0
  apart one two less same =
      let never : false ≡ true = sym (strict one.0)
      ∙ ap (λ key. is_lt (cmp one.0 key)) same ∙ less in cc

  all_apart : (one : Pair) (pairs : List Pair)
      → All (λ two. IsTrue (is_lt (cmp one.0 two.0))) pairs → All (λ two. one.0 ≢ two.0) pairs
  all_apart one [] all = All-nil (λ (two : Pair). one.0 ≢ two.0)
  all_apart one (two ∷ pairs) all = All-cons (λ (two : Pair). one.0 ≢ two.0) two pairs
      (apart one two (All-head (λ (two : Pair). IsTrue (is_lt (cmp one.0 two.0))) two pairs all))
      (all_apart one pairs
      (All-tail (λ (two : Pair). IsTrue (is_lt (cmp one.0 two.0))) two pairs all))

  keys_once : (pairs : List Pair) → AreRising cmp pairs → HaveKeysOnce pairs
  keys_once [] rising = tt
  keys_once (one ∷ pairs) rising = (all_apart one pairs rising.0, keys_once pairs rising.1)

pub forward_walk_gives_map : ForwardWalkGivesMap
forward_walk_gives_map cmp values pairs results strict listing moves ok =
    let count : length pairs + 1 ≡ suc (length pairs) = omega arith in (
      keys_once cmp strict pairs listing.sorted,
      forward cmp pairs [] pairs results refl
          (subst (λ n. AreMoves cmp pairs None (replicate n advance) results) count moves) ok,
    )

pub prev_leads_back : PrevLeadsBack
prev_leads_back cmp pairs at move here there back moves = back_at cmp pairs at move here there back moves
