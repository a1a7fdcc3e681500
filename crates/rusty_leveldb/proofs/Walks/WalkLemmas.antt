-- Moves in a store's view as the machine's moves.
use Rattle.std.proofs.Common.{◌≡◌, ⊎_elim, ℕ, List, [], ◌∷◌, map, refl, sym, ◌∙◌, ap, Option}
use Rattle.std.specs.declared.cmp.Ordering.{Ordering}
use Rattle.leveldb_base.specs.Error.{IsOutOfMemory, text_of}
use Rattle.leveldb_base.specs.Types.{Pair}
use Rattle.leveldb_base.specs.declared.error.Status.{Status}
use Rattle.leveldb_base.specs.declared.error.StatusCode.TheVariants.{InvalidArgument}
use Rattle.leveldb_iter.specs.Moves.{IsRefusedFor, LandsAt, SeeksLongKey, position_moved}
use Rattle.leveldb_iter.specs.Walk.{KeyOrder}
use Rattle.leveldb_iter.specs.declared.moves.Move.{Move}
use Rattle.leveldb_iter.specs.declared.moves.Move.TheVariants.{First, Next, Prev, Seek}
use Rattle.leveldb_iter.specs.declared.moves.Step.{Step}
use Rattle.leveldb_iter.specs.declared.moves.Step.TheVariants.{At, Invalid, Refused}
use Rattle.leveldb_files.specs.Stores.Format.{Meaning}
use Rattle.leveldb_store.specs.Writing.Room.{HasFailed}
use Rattle.leveldb_store.specs.Reading.View.{IsOfNoCompressor, MakesMoves, MoveFails, any_in_order}
use Rattle.rusty_leveldb.specs.Machines.Causes.{Cause, IsMoveCausedBy, MoveMisfits, Setting, bad_operand, device_failed, lacks_compressor, out_of_memory}
use Rattle.rusty_leveldb.specs.Machines.Machine as steps
use Rattle.rusty_leveldb.specs.Machines.Machine.{Moves, position_after}
use Rattle.rusty_leveldb.specs.Engines.Serves.{refusal_of, setting_between}
use Rattle.rusty_leveldb.specs.Machines.State as machine
use Rattle.rusty_leveldb.specs.Machines.State.{Snapshot, State}
use Rattle.rusty_leveldb.specs.Walks.Walks.{landing_of, move_of}

-- a move leads where the machine's does
same_position : (one : Move) (order : KeyOrder) (cmp : List ℕ → List ℕ → Ordering) (pairs : List Pair) (position : Option ℕ)
    → cmp ≡ order.cmp → position_moved one order pairs position ≡ position_after cmp pairs position (move_of one)
same_position First order cmp pairs position is = refl
same_position Next order cmp pairs position is = refl
same_position Prev order cmp pairs position is = refl
same_position (Seek key) order cmp pairs position is = ap (λ (c : List ℕ → List ℕ → Ordering). position_after c pairs position (machine.seek key.items)) (sym is)

-- a key that the machine refuses is one that the move refuses
long_of : (one : Move) → MoveMisfits (move_of one) → SeeksLongKey one
long_of First misfits = misfits
long_of Next misfits = misfits
long_of Prev misfits = misfits
long_of (Seek key) misfits = misfits

-- ---- the causes of a refusal

module _ (setting : Setting) (old : State) (at : Option Snapshot) (asked : List machine.Move) (status : Status) where
  -- a move is refused for a cause
  abbrev IsExcused : Move → Type 0
  IsExcused one = (cause : Cause) × IsMoveCausedBy setting old (machine.walk at asked) (move_of one) (refusal_of status) cause

  by_memory : (one : Move) → IsOutOfMemory status → IsExcused one
  by_memory First out = (out_of_memory, (tt, out.0, ap text_of out.1))
  by_memory Next out = (out_of_memory, (tt, out.0, ap text_of out.1))
  by_memory Prev out = (out_of_memory, (tt, out.0, ap text_of out.1))
  by_memory (Seek key) out = (out_of_memory, (tt, out.0, ap text_of out.1))

  by_device : (one : Move) → HasFailed setting.before setting.after → IsExcused one
  by_device First failed = (device_failed, (tt, failed))
  by_device Next failed = (device_failed, (tt, failed))
  by_device Prev failed = (device_failed, (tt, failed))
  by_device (Seek key) failed = (device_failed, (tt, failed))

  by_compressor : (one : Move) → IsOfNoCompressor old.format setting.meaning status → IsExcused one
  by_compressor First lacks = (lacks_compressor, (tt, lacks.0, lacks.1))
  by_compressor Next lacks = (lacks_compressor, (tt, lacks.0, lacks.1))
  by_compressor Prev lacks = (lacks_compressor, (tt, lacks.0, lacks.1))
  by_compressor (Seek key) lacks = (lacks_compressor, (tt, lacks.0, lacks.1))

  by_key : (one : Move) → (status.code ≡ InvalidArgument) × SeeksLongKey one → IsExcused one
  by_key First long = absurd long.1
  by_key Next long = absurd long.1
  by_key Prev long = absurd long.1
  by_key (Seek key) long = (bad_operand, (long.0, long.1))

-- ---- moves

-- moves in a list of pairs are the machine's
module _ (cmp : List ℕ → List ℕ → Ordering) (pairs : List Pair) (old : State) (order_is : old.format.order ≡ cmp) (meaning : Meaning)
    (at : Option Snapshot) (asked : List machine.Move) where
  -- why a move is refused
  why : (one : Move) (from to : ℕ) (status : Status)
      → MoveFails (IsOfNoCompressor old.format meaning) from to one status
      → IsExcused (setting_between meaning from to) old at asked status one
  why one from to status fails =
      let setting = setting_between meaning from to in
      ⊎_elim (by_memory setting old at asked status one)
      (⊎_elim (by_device setting old at asked status one)
      (⊎_elim (by_compressor setting old at asked status one) (by_key setting old at asked status one))) fails

  -- a step is the machine's
  lands : (one : Move) (step : Step) (position next : Option ℕ) (from to : ℕ)
      → LandsAt (any_in_order cmp) pairs position one step next
      → IsRefusedFor step one (MoveFails (IsOfNoCompressor old.format meaning) from to one)
      → steps.MoveLands (setting_between meaning from to) old (machine.walk at asked) pairs position (move_of one) (landing_of step) next
  lands one (At key value) position next from to leads short = (
    λ misfits. short (long_of one misfits),
    leads.0 ∙ same_position one (any_in_order cmp) old.format.order pairs position order_is,
    leads.1,
  )
  lands one Invalid position next from to leads short = (
    λ misfits. short (long_of one misfits),
    sym (same_position one (any_in_order cmp) old.format.order pairs position order_is) ∙ leads.0,
    leads.1,
  )
  lands one (Refused status) position next from to leads fails = (why one from to status fails, leads)

  pub moves_are : (moves : List Move) (given : List Step) (position : Option ℕ) (from to : ℕ)
      → MakesMoves cmp (IsOfNoCompressor old.format meaning) pairs position from moves given to
      → Moves (setting_between meaning from to) old (machine.walk at asked) pairs position (map move_of moves) (map landing_of given)
  moves_are [] [] position from to moves = moves
  moves_are [] (step ∷ given) position from to moves = absurd moves
  moves_are (one ∷ rest) [] position from to moves = absurd moves
  moves_are (one ∷ rest) (step ∷ given) position from to moves = (
    moves.0,
    moves.1,
    moves.2,
    lands one step position moves.2 from moves.0 moves.3 moves.4,
    moves_are rest given moves.2 moves.0 to moves.5,
  )
