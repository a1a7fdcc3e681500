-- A walk of the machine is one of the headline.
use Rattle.std.proofs.Common.{◌≡◌, ◌≤◌, ◌<◌, ◌+◌, ⊎_elim, inl, inr, ℕ, Bool, true, false, cond, not, List, [], ◌∷◌, length, refl, sym, ◌∙◌, ap, subst, arith, Option, Some, None, All}
use Rattle.std.specs.Prelude.{◌↔◌, Contains, map, nat_lt, if◌then◌else◌, IsTrue, Result, Ok, Err}
use Rattle.std.specs.List.{prefix_len}
use Rattle.std.specs.Ordering.{is_lt}
use Rattle.std.specs.declared.cmp.Ordering.{Ordering}
use Rattle.std.proofs.lemmas.List.Elements.{All-nil, All-cons}
use Rattle.std.proofs.Math.Nat.{eq-or-lt_of_le}
use Rattle.leveldb_base.specs.History as history
use Rattle.leveldb_base.proofs.HistoryLemmas.{in_none, in_cases}
use Rattle.leveldb_store.specs.Writing.Room.{HasFailed}
use Rattle.leveldb_base.specs.Types.{Pair, count_before, pair_at}
use Rattle.rusty_leveldb.specs.Headline as headline
use Rattle.rusty_leveldb.specs.Headline.{Map, IsListing, moved_to, AreMoves, Why, causes, read_causes}
use Rattle.rusty_leveldb.specs.Machines.State.{State, Snapshot, Move, seek_to_first, advance, prev, seek, reset, Request, open_store, write, get, walk, get_snapshot, release_snapshot, flush, compact_range, close, abandon, Refusal, Landing, stands_on, nowhere, move_refused, refused}
use Rattle.rusty_leveldb.specs.Machines.Causes.{Setting, Cause, out_of_memory, device_failed, lock_is_held, bad_operand, store_exists, used_up, too_large, compressor_failed, lacks_compressor, IsCausedBy, IsMoveCausedBy}
use Rattle.rusty_leveldb.specs.Machines.Machine.{position_after, MoveLands, Moves}
use Rattle.rusty_leveldb.specs.Machines.Shown.{call_of, walk_move_of, HasFault, IsEncodingFault, HasCode, AreResultsOf}

-- ---- causes

-- the headline's word for a cause
abbrev pub why_of : Cause → Why
why_of out_of_memory = headline.out_of_memory
why_of device_failed = headline.device_failed
why_of lock_is_held = headline.lock_is_held
why_of bad_operand = headline.bad_argument
why_of store_exists = headline.store_exists
why_of used_up = headline.not_supported
why_of too_large = headline.not_supported
why_of compressor_failed = headline.compressor_failed
why_of lacks_compressor = headline.not_supported

pub has_code : (setting : Setting) (old : State) (request : Request) (refusal : Refusal)
    (cause : Cause) → IsCausedBy setting old request refusal cause
    → HasCode (why_of cause) refusal.code
has_code setting old request refusal out_of_memory c = c.1
has_code setting old request refusal device_failed c = tt
has_code setting old request refusal lock_is_held c = c.1
has_code setting old request refusal bad_operand c = c.0
has_code setting old request refusal store_exists c = c.0
has_code setting old request refusal used_up c = c.0
has_code setting old request refusal too_large c = c.1
has_code setting old request refusal compressor_failed c = tt
has_code setting old request refusal lacks_compressor c = c.1

-- a fault that is told of has come
pub fault_of : (setting : Setting) (old : State) (request : Request) (refusal : Refusal)
    (cause : Cause) → IsCausedBy setting old request refusal cause
    → HasFault (IsEncodingFault old request (refused refusal)) setting.before setting.after
    (headline.failed (why_of cause))
fault_of setting old request refusal device_failed c = c.1
fault_of setting old request refusal compressor_failed c = c
fault_of setting old request refusal cause c = tt

-- the same of a move
move_code : (setting : Setting) (old : State) (request : Request) (move : Move)
    (refusal : Refusal) (cause : Cause) → IsMoveCausedBy setting old request move refusal cause
    → HasCode (why_of cause) refusal.code
move_code setting old request reset refusal cause c = absurd c
move_code setting old request move refusal bad_operand c = c.0
move_code setting old request move refusal cause c = has_code setting old request refusal cause c

-- the cause is one of the call's
pub caused : (setting : Setting) (old : State) (request : Request) (refusal : Refusal)
    (cause : Cause) → IsCausedBy setting old request refusal cause
    → Contains (causes (call_of request)) (why_of cause)
caused setting old (open_store opening) refusal lock_is_held c = (0, omega arith, refl)
caused setting old (open_store opening) refusal store_exists c = (1, omega arith, refl)
caused setting old (open_store opening) refusal compressor_failed c = (2, omega arith, refl)
caused setting old (open_store opening) refusal out_of_memory c = (3, omega arith, refl)
caused setting old (open_store opening) refusal device_failed c = (4, omega arith, refl)
caused setting old (open_store opening) refusal bad_operand c = (5, omega arith, refl)
caused setting old (open_store opening) refusal used_up c = (6, omega arith, refl)
caused setting old (open_store opening) refusal too_large c = (6, omega arith, refl)
caused setting old (open_store opening) refusal lacks_compressor c = (6, omega arith, refl)
caused setting old (write items sync) refusal compressor_failed c = (0, omega arith, refl)
caused setting old (write items sync) refusal out_of_memory c = (1, omega arith, refl)
caused setting old (write items sync) refusal device_failed c = (2, omega arith, refl)
caused setting old (write items sync) refusal bad_operand c = (3, omega arith, refl)
caused setting old (write items sync) refusal used_up c = (4, omega arith, refl)
caused setting old (write items sync) refusal too_large c = (4, omega arith, refl)
caused setting old (write items sync) refusal lacks_compressor c = (4, omega arith, refl)
caused setting old (write items sync) refusal lock_is_held c = absurd c.0
caused setting old (write items sync) refusal store_exists c = absurd c.1
caused setting old (compact_range from to) refusal compressor_failed c = (0, omega arith, refl)
caused setting old (compact_range from to) refusal out_of_memory c = (1, omega arith, refl)
caused setting old (compact_range from to) refusal device_failed c = (2, omega arith, refl)
caused setting old (compact_range from to) refusal bad_operand c = (3, omega arith, refl)
caused setting old (compact_range from to) refusal used_up c = (4, omega arith, refl)
caused setting old (compact_range from to) refusal too_large c = (4, omega arith, refl)
caused setting old (compact_range from to) refusal lacks_compressor c = (4, omega arith, refl)
caused setting old (compact_range from to) refusal lock_is_held c = absurd c.0
caused setting old (compact_range from to) refusal store_exists c = absurd c.1
caused setting old (get at key) refusal out_of_memory c = (0, omega arith, refl)
caused setting old (get at key) refusal device_failed c = (1, omega arith, refl)
caused setting old (get at key) refusal bad_operand c = (2, omega arith, refl)
caused setting old (get at key) refusal used_up c = (3, omega arith, refl)
caused setting old (get at key) refusal too_large c = (3, omega arith, refl)
caused setting old (get at key) refusal lacks_compressor c = (3, omega arith, refl)
caused setting old (get at key) refusal lock_is_held c = absurd c.0
caused setting old (get at key) refusal store_exists c = absurd c.1
caused setting old (get at key) refusal compressor_failed c = absurd c
caused setting old (walk at moves) refusal out_of_memory c = (0, omega arith, refl)
caused setting old (walk at moves) refusal device_failed c = (1, omega arith, refl)
caused setting old (walk at moves) refusal bad_operand c = (2, omega arith, refl)
caused setting old (walk at moves) refusal used_up c = (3, omega arith, refl)
caused setting old (walk at moves) refusal too_large c = (3, omega arith, refl)
caused setting old (walk at moves) refusal lacks_compressor c = (3, omega arith, refl)
caused setting old (walk at moves) refusal lock_is_held c = absurd c.0
caused setting old (walk at moves) refusal store_exists c = absurd c.1
caused setting old (walk at moves) refusal compressor_failed c = absurd c
caused setting old get_snapshot refusal out_of_memory c = (0, omega arith, refl)
caused setting old get_snapshot refusal used_up c = (1, omega arith, refl)
caused setting old get_snapshot refusal too_large c = (1, omega arith, refl)
caused setting old get_snapshot refusal lacks_compressor c = (1, omega arith, refl)
caused setting old get_snapshot refusal bad_operand c = absurd c.1
caused setting old get_snapshot refusal store_exists c = absurd c.1
caused setting old get_snapshot refusal compressor_failed c = absurd c
caused setting old get_snapshot refusal device_failed c = absurd c.0
caused setting old get_snapshot refusal lock_is_held c = absurd c.0
caused setting old (release_snapshot one) refusal bad_operand c = (0, omega arith, refl)
caused setting old (release_snapshot one) refusal used_up c = absurd c.1
caused setting old (release_snapshot one) refusal store_exists c = absurd c.1
caused setting old (release_snapshot one) refusal compressor_failed c = absurd c
caused setting old (release_snapshot one) refusal cause c = absurd c.0
caused setting old flush refusal out_of_memory c = (0, omega arith, refl)
caused setting old flush refusal device_failed c = (1, omega arith, refl)
caused setting old flush refusal bad_operand c = absurd c.1
caused setting old flush refusal used_up c = absurd c.1
caused setting old flush refusal store_exists c = absurd c.1
caused setting old flush refusal compressor_failed c = absurd c
caused setting old flush refusal cause c = absurd c.0
caused setting old close refusal out_of_memory c = (0, omega arith, refl)
caused setting old close refusal device_failed c = (1, omega arith, refl)
caused setting old close refusal bad_operand c = absurd c.1
caused setting old close refusal used_up c = absurd c.1
caused setting old close refusal store_exists c = absurd c.1
caused setting old close refusal compressor_failed c = absurd c
caused setting old close refusal cause c = absurd c.0
caused setting old abandon refusal device_failed c = (0, omega arith, refl)
caused setting old abandon refusal bad_operand c = absurd c.1
caused setting old abandon refusal used_up c = absurd c.1
caused setting old abandon refusal store_exists c = absurd c.1
caused setting old abandon refusal compressor_failed c = absurd c
caused setting old abandon refusal cause c = absurd c.0

-- a failed move is for a cause that a read may have
move_caused : (setting : Setting) (old : State) (at : Option Snapshot) (all : List Move)
    (move : Move) (refusal : Refusal) (cause : Cause)
    → IsMoveCausedBy setting old (walk at all) move refusal cause
    → Contains read_causes (why_of cause)
move_caused setting old at all reset refusal cause c = absurd c
move_caused setting old at all move refusal bad_operand c = (2, omega arith, refl)
move_caused setting old at all move refusal cause c = caused setting old (walk at all) refusal cause c

same_why : (one two : Why) → ◌≡◌ {A = Result (Option Pair) Why} (Err one) (Err two)
    → one ≡ two
same_why one two e = cc

-- ---- lists in order

module _ (cmp : List ℕ → List ℕ → Ordering) where
  all_before : (key : List ℕ) (pairs : List Pair) → history.IsBeforeAll cmp key pairs
      → All (λ two. IsTrue (is_lt (cmp key two.0))) pairs
  all_before key [] before = All-nil (λ (two : Pair). IsTrue (is_lt (cmp key two.0)))
  all_before key (pair ∷ pairs) before =
      All-cons (λ (two : Pair). IsTrue (is_lt (cmp key two.0))) pair pairs
      (ap is_lt before.0) (all_before key pairs before.1)

  rising : (pairs : List Pair) → history.AreRising cmp pairs → headline.AreRising cmp pairs
  rising [] r = tt
  rising (pair ∷ pairs) r = (all_before pair.0 pairs r.0, rising pairs r.1)

  -- a view is the listing of a map that has its values
  pub listing : (entries : List history.Entry) (s : ℕ) (pairs : List Pair) (shows : Map)
      → ((key value : List ℕ) → history.HasValueAt entries s key value ↔ (shows key ≡ Some value))
      → history.IsView cmp entries s pairs → IsListing cmp shows pairs
  listing entries s pairs shows same view = record {
    sorted = rising pairs view.sorted;
    exactly = λ key value. (
      λ there. (same key value).0 ((view.exactly key value).0 there),
      λ is. (view.exactly key value).1 ((same key value).1 is),
    );
  }

  -- ---- positions

  same_count : (key : List ℕ) (pairs : List Pair)
      → prefix_len (λ (pair : Pair). not (not (is_lt (cmp pair.0 key)))) pairs
      ≡ count_before cmp key pairs
  same_count key [] = refl
  same_count key (pair ∷ pairs) = by (is_lt (cmp pair.0 key))
      (prefix_len (λ (pair : Pair). not (not (is_lt (cmp pair.0 key)))) pairs)
      (count_before cmp key pairs) (same_count key pairs)
    where
      by : (b : Bool) (n m : ℕ) → n ≡ m → cond (not (not b)) (1 + n) 0 ≡ (if b then m + 1 else 0)
      by true n m e = omega arith
      by false n m e = refl

  pub same_position : (pairs : List Pair) (at : Option ℕ) (move : Move)
      → position_after cmp pairs at move ≡ moved_to cmp pairs at (walk_move_of move)
  same_position pairs at seek_to_first = refl
  same_position pairs None advance = refl
  same_position pairs (Some n) advance = refl
  same_position pairs None prev = refl
  same_position pairs (Some n) prev = refl
  same_position pairs at (seek key) = ap (λ n. if nat_lt n (length pairs) then Some n else None)
      (sym (same_count key pairs))
  same_position pairs at reset = refl

  -- ---- moves

  -- what the rest of a walk returns
  pub record WalkIsTold (setting : Setting) (pairs : List Pair) (at : Option ℕ) (moves : List Move)
      (landings : List Landing) : Type 0 where
    pub results : List (Result (Option Pair) Why)
    pub told : AreResultsOf landings results
    pub are : AreMoves cmp pairs at (map walk_move_of moves) results
    pub faults : Contains results (Err headline.device_failed) → HasFailed setting.before setting.after

  module _ (pairs : List Pair) where
    -- a move that is done
    done_move : (at : Option ℕ) (move : Move) (moves : List Move) (there : Option Pair)
        (results : List (Result (Option Pair) Why))
        → there ≡ pair_at pairs (position_after cmp pairs at move)
        → AreMoves cmp pairs (position_after cmp pairs at move) (map walk_move_of moves) results
        → AreMoves cmp pairs at (map walk_move_of (move ∷ moves)) (Ok there ∷ results)
    done_move at move moves there results is rest =
        subst (λ n. (there ≡ pair_at pairs n) × AreMoves cmp pairs n (map walk_move_of moves) results)
        (same_position pairs at move) (is, rest)

    -- one that fails
    failed_move : (setting : Setting) (old : State) (from : Option Snapshot) (all : List Move)
        (at : Option ℕ) (move : Move) (moves : List Move) (refusal : Refusal) (cause : Cause)
        (results : List (Result (Option Pair) Why))
        → IsMoveCausedBy setting old (walk from all) move refusal cause
        → AreMoves cmp pairs None (map walk_move_of moves) results
        → AreMoves cmp pairs at (map walk_move_of (move ∷ moves)) (Err (why_of cause) ∷ results)
    failed_move setting old from all at seek_to_first moves refusal cause results c rest =
        (move_caused setting old from all seek_to_first refusal cause c, rest)
    failed_move setting old from all at advance moves refusal cause results c rest =
        (move_caused setting old from all advance refusal cause c, rest)
    failed_move setting old from all at prev moves refusal cause results c rest =
        (move_caused setting old from all prev refusal cause c, rest)
    failed_move setting old from all at (seek key) moves refusal cause results c rest =
        (move_caused setting old from all (seek key) refusal cause c, rest)
    failed_move setting old from all at reset moves refusal cause results c rest = absurd c

    -- a move that is told to have met a device's fault
    device_met : (setting : Setting) (old : State) (request : Request) (refusal : Refusal)
        (cause : Cause) → IsCausedBy setting old request refusal cause
        → why_of cause ≡ headline.device_failed → HasFailed setting.before setting.after
    device_met setting old request refusal device_failed c e = c.1
    device_met setting old request refusal out_of_memory c e = absurd (cc)
    device_met setting old request refusal lock_is_held c e = absurd (cc)
    device_met setting old request refusal bad_operand c e = absurd (cc)
    device_met setting old request refusal store_exists c e = absurd (cc)
    device_met setting old request refusal used_up c e = absurd (cc)
    device_met setting old request refusal too_large c e = absurd (cc)
    device_met setting old request refusal compressor_failed c e = absurd (cc)
    device_met setting old request refusal lacks_compressor c e = absurd (cc)

    move_met : (setting : Setting) (old : State) (request : Request) (move : Move)
        (refusal : Refusal) (cause : Cause) → IsMoveCausedBy setting old request move refusal cause
        → why_of cause ≡ headline.device_failed → HasFailed setting.before setting.after
    move_met setting old request reset refusal cause c e = absurd c
    move_met setting old request move refusal bad_operand c e = absurd (cc)
    move_met setting old request move refusal cause c e =
        device_met setting old request refusal cause c e

    -- counts of failed calls don't fall from one move to the next
    moves_later : (old : State) (request : Request) (setting : Setting) (at : Option ℕ)
        (moves : List Move) (landings : List Landing)
        → Moves setting old request pairs at moves landings → setting.before ≤ setting.after
    moves_later old request setting at [] [] m = omega (arith, m)
    moves_later old request setting at [] (landing ∷ landings) m = absurd m
    moves_later old request setting at (move ∷ moves) [] m = absurd m
    moves_later old request setting at (move ∷ moves) (landing ∷ landings) m =
        let later = moves_later old request (record setting { before = m.0 }) m.2 moves landings m.4 in
        omega (arith, m.1, later)

    -- a failure in the first of two spans, or in the second, is one of both
    failed_first : (before mid after : ℕ) → mid ≤ after → HasFailed before mid → HasFailed before after
    failed_first before mid after high (inl less) = inl (omega arith)
    failed_first before mid after high (inr greatest) = inr greatest

    failed_then : (before mid after : ℕ) → before ≤ mid → mid ≤ after → HasFailed mid after
        → HasFailed before after
    failed_then before mid after low high (inl less) = inl (omega arith)
    failed_then before mid after low high (inr greatest) = ⊎_elim
        (λ (same : before ≡ mid). inr (same ∙ greatest))
        (λ (less : before < mid). inl (omega arith)) (eq-or-lt_of_le low)

    module _ (setting : Setting) (mid : ℕ) (low : setting.before ≤ mid) (high : mid ≤ setting.after)
        (old : State) (from : Option Snapshot) (all : List Move)
        (order : old.format.order ≡ cmp) where
      -- what the first move met, or the rest
      rest_faults : (first : Result (Option Pair) Why) (results : List (Result (Option Pair) Why))
          → (first ≡ Err headline.device_failed → HasFailed setting.before mid)
          → (Contains results (Err headline.device_failed) → HasFailed mid setting.after)
          → Contains (first ∷ results) (Err headline.device_failed)
          → HasFailed setting.before setting.after
      rest_faults first results here later there = ⊎_elim
          (λ (e : first ≡ Err headline.device_failed).
          failed_first setting.before mid setting.after high (here e))
          (λ (c : Contains results (Err headline.device_failed)).
          failed_then setting.before mid setting.after low high (later c))
          (in_cases first (Err headline.device_failed) results there)

      lands : (at next : Option ℕ) (move : Move) (moves : List Move) (landing : Landing)
          (landings : List Landing)
          → MoveLands (record setting { after = mid }) old (walk from all) pairs at move landing next
          → WalkIsTold (record setting { before = mid }) pairs next moves landings
          → WalkIsTold setting pairs at (move ∷ moves) (landing ∷ landings)
      lands at next move moves (stands_on pair) landings l rest =
          let next_is : next ≡ position_after cmp pairs at move =
          subst (λ o. next ≡ position_after o pairs at move) order l.1 in
          record {
            results = Ok (Some pair) ∷ rest.results;
            told = (refl, rest.told);
            are = done_move at move moves (Some pair) rest.results
                (sym l.2 ∙ ap (pair_at pairs) next_is)
                (subst (λ n. AreMoves cmp pairs n (map walk_move_of moves) rest.results) next_is
                rest.are);
            faults = rest_faults (Ok (Some pair)) rest.results (λ e. absurd (cc)) rest.faults;
          }
      lands at next move moves nowhere landings l rest =
          let none_is : position_after cmp pairs at move ≡ None =
          subst (λ o. position_after o pairs at move ≡ None) order l.1 in
          record {
            results = Ok None ∷ rest.results;
            told = (refl, rest.told);
            are = done_move at move moves None rest.results
                (sym (ap (pair_at pairs) none_is))
                (subst (λ n. AreMoves cmp pairs n (map walk_move_of moves) rest.results)
                (l.2 ∙ sym none_is) rest.are);
            faults = rest_faults (Ok None) rest.results (λ e. absurd (cc)) rest.faults;
          }
      lands at next move moves (move_refused refusal) landings l rest =
          record {
            results = Err (why_of l.0.0) ∷ rest.results;
            told = (
              (
                why_of l.0.0,
                refl,
                move_code (record setting { after = mid }) old (walk from all) move refusal l.0.0
                    l.0.1,
              ),
              rest.told,
            );
            are = failed_move (record setting { after = mid }) old from all at move moves refusal
                l.0.0 rest.results l.0.1
                (subst (λ n. AreMoves cmp pairs n (map walk_move_of moves) rest.results) l.1 rest.are);
            faults = rest_faults (Err (why_of l.0.0)) rest.results
                (λ e. move_met (record setting { after = mid }) old (walk from all) move refusal l.0.0
                l.0.1 (same_why (why_of l.0.0) headline.device_failed e)) rest.faults;
          }

    pub walk_told : (old : State) (from : Option Snapshot) (all : List Move)
        → old.format.order ≡ cmp → (setting : Setting) (at : Option ℕ) (moves : List Move)
        (landings : List Landing) → Moves setting old (walk from all) pairs at moves landings
        → WalkIsTold setting pairs at moves landings
    walk_told old from all order setting at [] [] m =
        record { results = []; told = tt; are = tt; faults = λ c. absurd (in_none _ c) }
    walk_told old from all order setting at [] (landing ∷ landings) m = absurd m
    walk_told old from all order setting at (move ∷ moves) [] m = absurd m
    walk_told old from all order setting at (move ∷ moves) (landing ∷ landings) m =
        lands setting m.0 m.1
        (moves_later old (walk from all) (record setting { before = m.0 }) m.2 moves landings m.4) old
        from all order at m.2 move moves landing landings m.3
        (walk_told old from all order (record setting { before = m.0 }) m.2 moves landings m.4)
