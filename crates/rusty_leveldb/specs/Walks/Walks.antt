-- Walks of the store as walks of the machine: their moves, and where these lead.
use Rattle.std.specs.Prelude.{List, Option, map, Result, Ok, Err}
use Rattle.leveldb_base.specs.declared.error.Status.{Status}
use Rattle.leveldb_iter.specs.declared.moves.Move.{Move}
use Rattle.leveldb_iter.specs.declared.moves.Move.TheVariants.{First, Next, Prev, Seek}
use Rattle.leveldb_iter.specs.declared.moves.Step.{Step}
use Rattle.leveldb_iter.specs.declared.moves.Step.TheVariants.{At, Invalid, Refused}
use Rattle.rusty_leveldb.specs.Machines.State as machine
use Rattle.rusty_leveldb.specs.Machines.State.{Answer, Landing, Request, Snapshot, move_refused, nowhere, refused, stands_on, walk, walked}
use Rattle.rusty_leveldb.specs.Engines.Serves.{refusal_of}

-- the move as the machine has it
abbrev pub move_of : Move → machine.Move
move_of First = machine.seek_to_first
move_of Next = machine.advance
move_of Prev = machine.prev
move_of (Seek key) = machine.seek key.items

-- the request to make these moves
abbrev pub walk_of : Option Snapshot → List Move → Request
walk_of at moves = walk at (map move_of moves)

-- where a move led, as the machine says it
abbrev pub landing_of : Step → Landing
landing_of (At key value) = stands_on (key.items, value.items)
landing_of Invalid = nowhere
landing_of (Refused status) = move_refused (refusal_of status)

-- where the moves led, or refused
abbrev pub walked_or : List Step → {T : Type 0} → Result T Status → Answer
walked_or steps (Ok value) = walked (map landing_of steps)
walked_or steps (Err status) = refused (refusal_of status)
