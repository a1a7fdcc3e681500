-- Moves of a walk, and lists of them.
use Rattle.std.specs.Prelude.{is_some}
use Rattle.std.specs.Global.{Global}
use Rattle.std.proofs.Common.{◌≡◌, inl, inr, ℕ, suc, length, List, [], ◌∷◌, ◌++◌, refl, sym, ◌∙◌, ap, subst, Option, Some, None, Result, Ok, Err, Vec}
use Rattle.leveldb_base.specs.Types.{Pair}
use Rattle.leveldb_base.specs.declared.error.Status.{Status}
use Rattle.leveldb_base.specs.declared.error.StatusCode.TheVariants.{InvalidArgument}
use Rattle.leveldb_base.specs.Error.{IsOutOfMemory}
use Rattle.leveldb_iter.specs.declared.moves.Move.{Move}
use Rattle.leveldb_iter.specs.declared.moves.Step.{Step}
use Rattle.leveldb_iter.specs.declared.moves.Step.TheVariants.{At, Invalid, Refused}
use Rattle.leveldb_iter.specs.declared.walk.Walk.{Ghosts as WalkGhosts}
use Rattle.leveldb_iter.specs.Walk.{KeyOrder, WalkLaws, MovesWalk, Resets}
use Rattle.leveldb_iter.specs.Moves.{AcceptsKeyOf, MovesTo, MovesAll, SeeksLongKey, position_moved}
use Rattle.leveldb_iter.proofs.ChildrenLemmas.{no_position}

module _ {E T W : Type 0} (walk : WalkGhosts W E T) (laws : WalkLaws walk.over walk.is_at walk.here walk.fails walk.keeps) where
  -- what a move leads from
  abbrev FromFor : Move → E × T → W → KeyOrder → List Pair → Option ℕ → Type 0
  FromFor one world it order pairs position = walk.is_at world it order pairs position × AcceptsKeyOf order one

  abbrev Led : Move → E × T → W → Result (Unit {0}) Status → E × T → W → Type 0
  Led one = MovesWalk walk.over walk.is_at walk.here walk.fails walk.keeps (FromFor one) (position_moved one)

  -- a move that leads from any position leads from this one
  pub led_from : (one : Move) {From : E × T → W → KeyOrder → List Pair → Option ℕ → Type 0} {old_world : E × T} {old : W}
      {result : Result (Unit {0}) Status} {new_world : E × T} {new : W}
      → ((order : KeyOrder) (pairs : List Pair) (position : Option ℕ) → FromFor one old_world old order pairs position → From old_world old order pairs position)
      → MovesWalk walk.over walk.is_at walk.here walk.fails walk.keeps From (position_moved one) old_world old result new_world new
      → Led one old_world old result new_world new
  led_from one from m = record {
    ok = λ order pairs position at. m.ok order pairs position (from order pairs position at);
    same = m.same;
    err = m.err;
    none = m.none;
    kept = m.kept;
    cause = m.cause;
    excuses = m.excuses;
  }

  -- a walk is over the list in which it is at a position
  pub over_of : (one : Move) (world : E × T) (it : W) (order : KeyOrder) (pairs : List Pair) (position : Option ℕ)
      → FromFor one world it order pairs position → walk.over world it order pairs
  over_of one world it order pairs position at = laws.over_list world it order pairs position at.0

  -- a move after which the walk is at no pair led to no position
  pub led_nowhere : (one : Move) {old_world : E × T} {old : W} (result : Result (Unit {0}) Status) {new_world : E × T} {new : W} {u : Unit {0}}
      → result ≡ Ok u → (SeeksLongKey one → ⊥) → walk.here new ≡ None → Led one old_world old result new_world new
      → MovesTo walk one old_world old Invalid new_world new
  led_nowhere one {old_world} {old} (Err status) is short none m = absurd (cc)
  led_nowhere one {old_world} {old} (Ok u') {new_world} {new} is short none m = record {
    lands = λ order pairs position at accepts.
        let now = m.ok order pairs position (at, accepts) in
        let next = position_moved one order pairs position in
        let nowhere : next ≡ None = no_position pairs next (laws.in_range new_world new order pairs next now)
        (ap is_some (sym (laws.at_position new_world new order pairs next now) ∙ none)) in
        (next, now, (nowhere, nowhere));
    same = m.same;
    kept = m.kept;
    cause = short;
    excuses = m.excuses;
  }

  -- a move after which the walk is at a pair led to it
  pub led_to_pair : (one : Move) {old_world : E × T} {old : W} {u : Unit {0}} {new_world : E × T} {new : W} {key value : Vec ℕ Global}
      → (SeeksLongKey one → ⊥) → walk.here new ≡ Some (key.items, value.items) → Led one old_world old (Ok u) new_world new
      → MovesTo walk one old_world old (At key value) new_world new
  led_to_pair one {new_world = new_world} {new = new} short here m = record {
    lands = λ order pairs position at accepts.
        let now = m.ok order pairs position (at, accepts) in
        let next = position_moved one order pairs position in
        (next, now, (refl, sym (laws.at_position new_world new order pairs next now) ∙ here));
    same = m.same;
    kept = m.kept;
    cause = short;
    excuses = m.excuses;
  }

  -- a move that fails is refused
  pub refuses_move : (one : Move) {old_world : E × T} {old : W} {status : Status} {new_world : E × T} {new : W} → Led one old_world old (Err status) new_world new
      → MovesTo walk one old_world old (Refused status) new_world new
  refuses_move one {old_world} {old} m = record {
    lands = λ order pairs position at accepts. (None, m.err order pairs (laws.over_list old_world old order pairs position at), refl);
    same = m.same;
    kept = m.kept;
    cause = inl m.cause;
    excuses = m.excuses;
  }

  -- a key that is too long is refused, and the walk reset
  pub refuses_key : (one : Move) (world : E × T) {old new : W} {status : Status} → (status.code ≡ InvalidArgument) × SeeksLongKey one
      → Resets walk.over walk.is_at walk.here walk.fails walk.keeps old new → MovesTo walk one world old (Refused status) world new
  refuses_key one world {old} {new} long reset = record {
    lands = λ order pairs position at accepts. (None, reset.at_none world order pairs (laws.over_list world old order pairs position at), refl);
    same = λ order pairs over. laws.over_list world new order pairs None (reset.at_none world order pairs over);
    kept = laws.keeps_itself world;
    cause = inr (inr long);
    excuses = reset.excuses world;
  }

  -- without memory for a copy of the pair the move is refused, and the walk reset
  pub refuses_copy : (one : Move) {old_world : E × T} {old : W} {result : Result (Unit {0}) Status} {new_world : E × T} {mid new : W} {status : Status} → IsOutOfMemory status
      → Led one old_world old result new_world mid → Resets walk.over walk.is_at walk.here walk.fails walk.keeps mid new
      → MovesTo walk one old_world old (Refused status) new_world new
  refuses_copy one {old_world} {old} {result} {new_world} {mid} {new} memory m reset = record {
    lands = λ order pairs position at accepts.
        (None, reset.at_none new_world order pairs (m.same order pairs (laws.over_list old_world old order pairs position at)), refl);
    same = λ order pairs over. laws.over_list new_world new order pairs None (reset.at_none new_world order pairs (m.same order pairs over));
    kept = m.kept;
    cause = inr (inl memory);
    excuses = λ later status fails. m.excuses later status (reset.excuses new_world later status fails);
  }

-- one more move
pub moves_more : {E T W : Type 0} (walk : WalkGhosts W E T) (moves : List Move) (steps : List Step) (old_world : E × T) (old : W) {mid : E × T} {it : W} {one : Move} {step : Step} {new_world : E × T} {new : W}
    → MovesAll walk old_world old moves steps mid it → MovesTo walk one mid it step new_world new
    → MovesAll walk old_world old (moves ++ one ∷ []) (steps ++ step ∷ []) new_world new
moves_more walk [] [] old_world old {mid} {it} {one} {step} {new_world} {new} so_far then =
    (new_world, new, subst (λ w. MovesTo walk one w old step new_world new) so_far.0 (subst (λ i. MovesTo walk one mid i step new_world new) so_far.1 then), (refl, refl))
moves_more walk [] (s ∷ steps) old_world old so_far then = absurd so_far
moves_more walk (m ∷ moves) [] old_world old so_far then = absurd so_far
moves_more walk (m ∷ moves) (s ∷ steps) old_world old so_far then =
    (so_far.0, so_far.1, so_far.2, moves_more walk moves steps so_far.0 so_far.1 so_far.3 then)

-- what moves leave of a world, one after another
pub moves_kept : {E T W : Type 0} (walk : WalkGhosts W E T) → WalkLaws walk.over walk.is_at walk.here walk.fails walk.keeps
    → (moves : List Move) (steps : List Step) (old_world : E × T) (old : W) (new_world : E × T) (new : W)
    → MovesAll walk old_world old moves steps new_world new → walk.keeps old_world new_world
moves_kept walk laws [] [] old_world old new_world new moves = subst (λ w. walk.keeps old_world w) (sym moves.0) (laws.keeps_itself old_world)
moves_kept walk laws [] (s ∷ steps) old_world old new_world new moves = absurd moves
moves_kept walk laws (m ∷ rest) [] old_world old new_world new moves = absurd moves
moves_kept walk laws (m ∷ rest) (s ∷ steps) old_world old new_world new moves =
    laws.keeps_on old_world moves.0 new_world moves.2.kept (moves_kept walk laws rest steps moves.0 moves.1 new_world new moves.3)

-- there is a step for each move
pub moves_counted : {E T W : Type 0} (walk : WalkGhosts W E T) (moves : List Move) (steps : List Step) (old_world : E × T) (old : W) (new_world : E × T) (new : W)
    → MovesAll walk old_world old moves steps new_world new → length steps ≡ length moves
moves_counted walk [] [] old_world old new_world new moves = refl
moves_counted walk [] (s ∷ steps) old_world old new_world new moves = absurd moves
moves_counted walk (m ∷ rest) [] old_world old new_world new moves = absurd moves
moves_counted walk (m ∷ rest) (s ∷ steps) old_world old new_world new moves = ap suc (moves_counted walk rest steps moves.0 moves.1 new_world new moves.3)
