-- Where moves of an iterator over pairs lead.
use Rattle.std.specs.Prelude.{◌≡◌, ℕ, List, [], ◌∷◌, Option, None, Some}
use Rattle.std.specs.declared.cmp.Ordering.{Ordering}
use Rattle.leveldb_base.specs.Types.{Pair, position_within, next_position, previous_position, seek_position, pair_at}
use Rattle.slow_history.specs.declared.walk.Move.{Move}
use Rattle.slow_history.specs.declared.walk.Move.TheVariants as move
use Rattle.slow_history.specs.declared.walk.Landing.{Landing}
use Rattle.slow_history.specs.declared.walk.Landing.TheVariants as landing

-- the position to which a move leads
abbrev pub position_after : (List ℕ → List ℕ → Ordering) → List Pair → Option ℕ → Move → Option ℕ
position_after order pairs position move.First = position_within pairs 0
position_after order pairs position move.Next = next_position pairs position
position_after order pairs position move.Prev = previous_position position
position_after order pairs position (move.Seek key) = seek_position order pairs key.now

-- a move that leads to this position may have led there; one that fails leads nowhere
abbrev pub IsLanding : List Pair → Option ℕ → Landing → Type 0
IsLanding pairs position (landing.At key value) =
    pair_at pairs position ≡ Some (key.now, value.now)
IsLanding pairs position landing.Nowhere = position ≡ None
IsLanding pairs position landing.Refused = Unit {0}

-- the position that a move leaves, which leads to this one if it doesn't fail
abbrev pub position_left : Option ℕ → Landing → Option ℕ
position_left next (landing.At key value) = next
position_left next landing.Nowhere = next
position_left next landing.Refused = None

-- moves over the pairs, from this position on, may have led there, one after another
abbrev pub LeadTo : (List ℕ → List ℕ → Ordering) → List Pair → Option ℕ → List Move
    → List Landing → Type 0
LeadTo order pairs position [] [] = Unit {0}
LeadTo order pairs position (one ∷ moves) (led ∷ landings) =
    let next = position_after order pairs position one in
    IsLanding pairs next led × LeadTo order pairs (position_left next led) moves landings
LeadTo order pairs position _ _ = ⊥
