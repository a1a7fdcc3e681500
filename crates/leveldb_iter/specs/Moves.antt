-- Moves of a walk, one after another, and where each of them leads.
use Rattle.std.specs.Prelude.{◌≡◌, ◌⊎◌, ℕ, true, List, [], ◌∷◌, Option, Some, None}
use Rattle.leveldb_base.specs.declared.error.Status.{Status}
use Rattle.leveldb_base.specs.declared.error.StatusCode.TheVariants.{InvalidArgument}
use Rattle.leveldb_base.specs.Error.{IsOutOfMemory}
use Rattle.leveldb_base.specs.KeyTypes.{IsLongKey}
use Rattle.leveldb_base.specs.Types.{Pair, pair_at, position_within, next_position, previous_position, seek_position}
use Rattle.leveldb_iter.specs.declared.moves.Move.{Move}
use Rattle.leveldb_iter.specs.declared.moves.Move.TheVariants.{First, Next, Prev, Seek}
use Rattle.leveldb_iter.specs.declared.moves.Step.{Step}
use Rattle.leveldb_iter.specs.declared.moves.Step.TheVariants.{At, Invalid, Refused}
use Rattle.leveldb_iter.specs.declared.walk.Walk.{Ghosts as WalkGhosts}
use Rattle.leveldb_iter.specs.Walk.{KeyOrder, Way}

-- the key that a move seeks is longer than the greatest length
abbrev pub SeeksLongKey : Move → Type 0
SeeksLongKey (Seek key) = IsLongKey key.items
SeeksLongKey one = ⊥

-- the order accepts the key that a move seeks
abbrev pub AcceptsKeyOf : KeyOrder → Move → Type 0
AcceptsKeyOf order (Seek key) = order.accepts key.items ≡ true
AcceptsKeyOf order one = Unit {0}

-- the position to which a move leads
abbrev pub position_moved : Move → Way
position_moved First order pairs position = position_within pairs 0
position_moved Next order pairs position = next_position pairs position
position_moved Prev order pairs position = previous_position position
position_moved (Seek key) order pairs position = seek_position order.cmp pairs key.items

-- What a step says of a move and of the position that is next: the move led to this pair, or to no
-- position; or it failed, and left none.
abbrev pub LandsAt : KeyOrder → List Pair → Option ℕ → Move → Step → Option ℕ → Type 0
LandsAt order pairs position one (At key value) next =
    (next ≡ position_moved one order pairs position)
    × (pair_at pairs next ≡ Some (key.items, value.items))
LandsAt order pairs position one Invalid next =
    (position_moved one order pairs position ≡ None) × (next ≡ None)
LandsAt order pairs position one (Refused status) next = next ≡ None

-- why a move failed; one that didn't had a key that is short enough
abbrev pub IsRefusedFor : Step → Move → (Status → Type 0) → Type 0
IsRefusedFor (Refused status) one Why = Why status
IsRefusedFor step one Why = SeeksLongKey one → ⊥

module _ {E T W : Type 0} (walk : WalkGhosts W E T) where
  -- Why a move may fail that begins in the first world and ends in the second: the walk does,
  -- memory for the copy of the pair ran out, or the key is too long.
  abbrev pub FailsMove : E × T → W → Move → E × T → Status → Type 0
  FailsMove world it one later status = walk.fails world it later status ⊎ IsOutOfMemory status
      ⊎ ((status.code ≡ InvalidArgument) × SeeksLongKey one)

  -- What a move comes to, with the step that says where it led.
  pub record MovesTo (one : Move) (old_world : E × T) (old : W) (step : Step)
      (new_world : E × T) (new : W) : Type 0 where
    -- from a position in a list it is at the next, which the step says
    pub lands : (order : KeyOrder) (pairs : List Pair) (position : Option ℕ)
        → walk.is_at old_world old order pairs position → AcceptsKeyOf order one
        → (next : Option ℕ) × walk.is_at new_world new order pairs next
        × LandsAt order pairs position one step next
    -- in any case it is over the same list
    pub same : (order : KeyOrder) (pairs : List Pair)
        → walk.over old_world old order pairs → walk.over new_world new order pairs
    -- this is left of what walks read from
    pub kept : walk.keeps old_world new_world
    -- why it failed; one whose key is too long does
    pub cause : IsRefusedFor step one (FailsMove old_world old one new_world)
    -- and no new error may come from now on
    pub excuses : (later : E × T) (status : Status)
        → walk.fails new_world new later status → walk.fails old_world old later status

  -- moves one after another, each from where and from the world in which the one before ended
  abbrev pub MovesAll : E × T → W → List Move → List Step → E × T → W → Type 0
  MovesAll old_world old [] [] new_world new = (new_world ≡ old_world) × (new ≡ old)
  MovesAll old_world old (one ∷ moves) (step ∷ steps) new_world new =
      (world : E × T) × (it : W) × MovesTo one old_world old step world it
      × MovesAll world it moves steps new_world new
  MovesAll old_world old moves steps new_world new = ⊥
