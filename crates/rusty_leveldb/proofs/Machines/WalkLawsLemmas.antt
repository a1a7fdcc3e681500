-- Forward a walk gives its view, and back after forward it is where it was.
use Rattle.std.specs.Prelude.{All, map, replicate, length, slice_get, ◌+◌}
use Rattle.std.proofs.Common.{◌≡◌, ◌∙◌, ◌<◌, ◌≤◌, ℕ, zero, suc, List, [], ◌∷◌, ◌++◌, refl, sym, ap, subst, arith, append_assoc, Option, Some, None}
use Rattle.std.proofs.lemmas.Grind.{common_steps}
use Rattle.std.proofs.lemmas.List.Elements.{All-head, All-tail}
use Rattle.leveldb_base.proofs.HistoryLemmas.{one_view}
use Rattle.leveldb_base.specs.History.{IsView, entries_of}
use Rattle.leveldb_base.specs.Types.{Pair, next_position, pair_at, position_within, previous_position}
use Rattle.leveldb_iter.proofs.DbIterLemmas.{at_front}
use Rattle.rusty_leveldb.specs.Machines.Causes.{Setting}
use Rattle.rusty_leveldb.specs.Machines.Laws.{ForwardWalkGivesView, HasLanded, PrevUndoesAdvance}
use Rattle.rusty_leveldb.specs.Machines.Machine.{IsSequenceOf, Moves, Step, Walks}
use Rattle.rusty_leveldb.specs.Machines.State.{Landing, Mode, Move, Request, Snapshot, State, advance, broken, closed, move_refused, nowhere, open_mode, prev, stands_on, walk, walked}

-- ---- positions

pub some_is_not_none : {A : Type 0} {x : A} → Some x ≡ None → ⊥
some_is_not_none e = cc

pub one_some : {A : Type 0} {x y : A} → Some x ≡ Some y → x ≡ y
one_some e = cc

pub within_in : (pairs : List Pair) (n : ℕ) → n < length pairs → position_within pairs n ≡ Some n
within_in pairs n small = grind (arith, common_steps)

pub within_past : (pairs : List Pair) (n : ℕ) → length pairs ≤ n → position_within pairs n ≡ None
within_past pairs n great = grind (arith, common_steps)

-- the position that so many pairs come before
unfoldable pub after_pairs : ℕ → Option ℕ
after_pairs zero = None
after_pairs (suc n) = Some n

pub next_after : (pairs : List Pair) (n : ℕ) → next_position pairs (after_pairs n) ≡ position_within pairs n
unfolding after_pairs
next_after pairs zero = refl
next_after pairs (suc n) = ap (position_within pairs) (omega arith)

pub length_seam : (gone left : List Pair) → length (gone ++ left) ≡ length gone + length left
length_seam [] left = omega arith
length_seam (pair ∷ gone) left = omega (arith, length_seam gone left)

-- ---- a walk in the machine

module _ (setting : Setting) (old new : State) where
  -- a walk that was answered was one in the state
  walked_in : (mode : Mode) (at : Option Snapshot) (moves : List Move) (landings : List Landing)
      → Step mode setting old (walk at moves) (walked landings) new → Walks setting old at moves landings
  walked_in open_mode at moves landings s = s.1.0
  walked_in broken at moves landings s = s.1.0
  walked_in closed at moves landings s = absurd s

one_sequence : (old : State) (at : Option Snapshot) (s t : ℕ) → IsSequenceOf old at s → IsSequenceOf old at t → s ≡ t
one_sequence old None s t these those = these ∙ sym those
one_sequence old (Some one) s t these those = these.1 ∙ sym those.1

-- ---- forward

module _ (old : State) (request : Request) (pairs : List Pair) where
  -- after the pairs that are gone, the moves give those that are left, and end
  forward : (setting : Setting) (gone left : List Pair) (landings : List Landing) → pairs ≡ gone ++ left
      → Moves setting old request pairs (after_pairs (length gone)) (replicate (suc (length left)) advance) landings
      → All HasLanded landings → landings ≡ map stands_on left ++ nowhere ∷ []
  unfolding after_pairs
  forward setting gone left [] parted moves landed = absurd moves
  forward setting gone [] (stands_on pair ∷ rest) parted moves landed =
      let size : length pairs ≡ length gone + 0 = ap length parted ∙ length_seam gone [] in
      let move = moves.3 in
      let past : moves.2 ≡ None = move.1 ∙ next_after pairs (length gone) ∙ within_past pairs (length gone) (omega (arith, size)) in
      absurd (some_is_not_none (sym move.2 ∙ ap (pair_at pairs) past))
  forward setting gone [] (nowhere ∷ []) parted moves landed = refl
  forward setting gone [] (nowhere ∷ (other ∷ rest)) parted moves landed = absurd moves.4
  forward setting gone [] (move_refused refusal ∷ rest) parted moves landed = absurd (All-head HasLanded (move_refused refusal) rest landed)
  forward setting gone (x ∷ left) (stands_on pair ∷ rest) parted moves landed =
      let size : length pairs ≡ length gone + suc (length left) = ap length parted ∙ length_seam gone (x ∷ left) in
      let move = moves.3 in
      let next : moves.2 ≡ Some (length gone) = move.1 ∙ next_after pairs (length gone) ∙ within_in pairs (length gone) (omega (arith, size)) in
      let here : Some x ≡ Some pair = sym (ap (λ list. slice_get list (length gone)) parted ∙ at_front gone (x ∷ left))
      ∙ sym (ap (pair_at pairs) next) ∙ move.2 in
      let longer : suc (length gone) ≡ length (gone ++ x ∷ []) = omega (arith, length_seam gone (x ∷ [])) in
      let more = subst (λ position. Moves (record setting { before = moves.0 }) old request pairs position (replicate (suc (length left)) advance) rest)
      (next ∙ ap after_pairs longer) moves.4 in
      let found = forward (record setting { before = moves.0 }) (gone ++ x ∷ []) left rest (parted ∙ sym (append_assoc gone (x ∷ []) left)) more (All-tail HasLanded (stands_on pair) rest landed) in
      ap (λ (p : Pair). stands_on p ∷ rest) (sym (one_some here)) ∙ ap (λ l. stands_on x ∷ l) found
  forward setting gone (x ∷ left) (nowhere ∷ rest) parted moves landed =
      let size : length pairs ≡ length gone + suc (length left) = ap length parted ∙ length_seam gone (x ∷ left) in
      let move = moves.3 in
      absurd (some_is_not_none (sym (within_in pairs (length gone) (omega (arith, size))) ∙ sym (next_after pairs (length gone)) ∙ move.1))
  forward setting gone (x ∷ left) (move_refused refusal ∷ rest) parted moves landed = absurd (All-head HasLanded (move_refused refusal) rest landed)

pub forward_walk_gives_view : ForwardWalkGivesView
unfolding after_pairs
forward_walk_gives_view setting old new at sequence pairs landings exact at_is view step landed =
    let walks : Walks setting old at (replicate (length pairs + 1) advance) landings = walked_in setting old new old.mode at (replicate (length pairs + 1) advance) landings step in
    let same : walks.sequence ≡ sequence = one_sequence old at walks.sequence sequence walks.at_is at_is in
    let one : walks.pairs ≡ pairs = one_view old.format.order exact (entries_of old.history) sequence walks.pairs pairs
    (subst (λ s. IsView old.format.order (entries_of old.history) s walks.pairs) same walks.view) view in
    let moves = subst (λ list. Moves setting old (walk at (replicate (length pairs + 1) advance)) list None (replicate (length pairs + 1) advance) landings) one walks.moves_are in
    let turns : length pairs + 1 ≡ suc (length pairs) = omega arith in
    forward old (walk at (replicate (length pairs + 1) advance)) pairs setting [] pairs landings refl
    (subst (λ n. Moves setting old (walk at (replicate (length pairs + 1) advance)) pairs None (replicate n advance) landings) turns moves) landed

-- ---- back after forward

-- the moves after these begin with a setting and at a position
record Rest (old : State) (request : Request) (pairs : List Pair) (moves : List Move) (landings : List Landing) : Type 0 where
  pub setting : Setting
  pub position : Option ℕ
  pub are : Moves setting old request pairs position moves landings

module _ (old : State) (request : Request) (pairs : List Pair) (more : List Move) (ends : List Landing) where
  rest_of : (setting : Setting) (position : Option ℕ) (moves : List Move) (landings : List Landing) → length landings ≡ length moves
      → Moves setting old request pairs position (moves ++ more) (landings ++ ends) → Rest old request pairs more ends
  rest_of setting position [] [] same are = record { setting = setting; position = position; are = are }
  rest_of setting position [] (landing ∷ landings) same are = absurd (omega (arith, same))
  rest_of setting position (move ∷ moves) [] same are = absurd (omega (arith, same))
  rest_of setting position (move ∷ moves) (landing ∷ landings) same are =
      rest_of (record setting { before = are.0 }) are.2 moves landings (omega (arith, same)) are.4

-- a position at which there is a pair is one
is_one : (pairs : List Pair) (position : Option ℕ) (pair : Pair) → pair_at pairs position ≡ Some pair → (n : ℕ) × (position ≡ Some n)
is_one pairs None pair there = absurd (some_is_not_none (sym there))
is_one pairs (Some n) pair there = (n, refl)

within_is : (pairs : List Pair) (n m : ℕ) → position_within pairs n ≡ Some m → m ≡ n
within_is pairs n m is = grind (arith, common_steps)

back_one : (n : ℕ) → previous_position (Some (n + 1)) ≡ Some n
back_one n = grind (arith, common_steps)

-- a step back from the pair after a position, where there is one, leads to it
pub stepped_back : (pairs : List Pair) (position : Option ℕ) (there : Pair)
    → pair_at pairs (next_position pairs position) ≡ Some there → previous_position (next_position pairs position) ≡ position
stepped_back pairs None there at_there =
    let m = is_one pairs (next_position pairs None) there at_there in
    ap previous_position (m.1 ∙ ap Some (within_is pairs 0 m.0 m.1))
stepped_back pairs (Some n) there at_there =
    let m = is_one pairs (next_position pairs (Some n)) there at_there in
    ap previous_position (m.1 ∙ ap Some (within_is pairs (n + 1) m.0 m.1)) ∙ back_one n

turned_back : (pairs : List Pair) (first second : Option ℕ) (there : Pair)
    → second ≡ next_position pairs first → pair_at pairs second ≡ Some there → previous_position second ≡ first
turned_back pairs first second there is at_there =
    ap previous_position is ∙ stepped_back pairs first there (ap (pair_at pairs) (sym is) ∙ at_there)

back_at : (old : State) (request : Request) (pairs : List Pair) (setting : Setting) (position : Option ℕ) (one : Move) (here there : Pair) (back : Landing)
    → Moves setting old request pairs position (one ∷ advance ∷ prev ∷ []) (stands_on here ∷ stands_on there ∷ back ∷ [])
    → HasLanded back → back ≡ stands_on here
back_at old request pairs setting position one here there (stands_on pair) moves landed =
    let second = moves.4 in
    let third = second.4 in
    let turned : third.2 ≡ moves.2 = third.3.1 ∙ turned_back pairs moves.2 second.2 there second.3.1 second.3.2 in
    ap stands_on (one_some (sym third.3.2 ∙ ap (pair_at pairs) turned ∙ moves.3.2))
back_at old request pairs setting position one here there nowhere moves landed =
    let second = moves.4 in
    let third = second.4 in
    let turned : None ≡ moves.2 = sym third.3.1 ∙ turned_back pairs moves.2 second.2 there second.3.1 second.3.2 in
    absurd (some_is_not_none (sym moves.3.2 ∙ sym (ap (pair_at pairs) turned)))
back_at old request pairs setting position one here there (move_refused refusal) moves landed = absurd landed

pub prev_undoes_advance : PrevUndoesAdvance
prev_undoes_advance setting old new at moves one landings here there back same step landed =
    let all = moves ++ one ∷ advance ∷ prev ∷ [] in
    let ends = stands_on here ∷ stands_on there ∷ back ∷ [] in
    let walks : Walks setting old at all (landings ++ ends) = walked_in setting old new old.mode at all (landings ++ ends) step in
    let rest = rest_of old (walk at all) walks.pairs (one ∷ advance ∷ prev ∷ []) ends setting None moves landings same walks.moves_are in
    back_at old (walk at all) walks.pairs rest.setting rest.position one here there back rest.are landed
