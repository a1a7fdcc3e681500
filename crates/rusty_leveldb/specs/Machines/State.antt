-- The store as a machine: its state, what it is asked and what it answers.
use Rattle.std.specs.Prelude.{◌≡◌, ◌≤◌, ◌+◌, ℕ, Bool, List, [], Option, None, Contains, length, IsTrue}
use Rattle.leveldb_base.specs.declared.error.StatusCode.{StatusCode}
use Rattle.leveldb_base.specs.History.{Item, Entry, History, IsHistory, entries_of, greatest, with_batch, count_of}
use Rattle.leveldb_base.specs.Types.{Pair}
use Rattle.leveldb_files.specs.Stores.Contents.{Store}
use Rattle.leveldb_files.specs.Stores.Format.{Format}

-- ---- the state

-- open; open for reading alone, since a write to its files failed; closed
pub data Mode : Type 0 where
  open_mode : Mode
  broken : Mode
  closed : Mode

-- a snapshot as it was given out: its number, and the sequence at which it reads
pub record Snapshot : Type 0 where
  pub number : ℕ
  pub sequence : ℕ

-- the options of an opening, as far as they decide what is answered
pub record Opening : Type 0 where
  pub format : Format
  pub create_if_missing : Bool
  pub error_if_exists : Bool
  -- the name is a store's, and each size and count is within its limits
  pub fits : Bool
  -- the compressor by which new blocks are stored is set
  pub compresses : Bool

-- the state of the machine: what the store holds, how much of it is durable, and in which mode it
-- is
pub record State : Type 0 where
  pub history : History
  -- the last number, at or above the history's
  pub last : ℕ
  -- how many batches no crash takes away
  pub durable : ℕ
  -- the snapshots that are held, and the numbers that this opening gave out
  pub held : List Snapshot
  pub given : List ℕ
  -- a batch whose append began and was refused: the files may have it
  pub pending : Option (List Entry)
  pub mode : Mode
  -- whether the store's lock is held
  pub locked : Bool
  -- which store is there
  pub store : Store
  -- what the options of its last opening say
  pub format : Format

-- a closed store holds no snapshot and has given out none
pub record IsAtRest (state : State) : Type 0 where
  pub held : state.held ≡ []
  pub given : state.given ≡ []

-- an open store has nothing pending and holds its lock, a broken one holds it, a closed one is at
-- rest
abbrev pub SuitsMode : Mode → State → Type 0
SuitsMode open_mode state = (state.pending ≡ None) × IsTrue state.locked
SuitsMode broken state = IsTrue state.locked
SuitsMode closed state = IsAtRest state

-- what holds of every state: its numbers fit together
pub record IsState (state : State) : Type 0 where
  pub history : IsHistory (with_batch state.history state.pending)
  pub reached : greatest (entries_of state.history) ≤ state.last
  pub pending : greatest (entries_of (with_batch state.history state.pending))
      ≤ state.last + count_of state.pending
  pub durable : state.durable ≤ length state.history
  pub held : (one : Snapshot) → Contains state.held one
      → (one.sequence ≤ state.last) × Contains state.given one.number
  pub mode : SuitsMode state.mode state

-- ---- requests and answers

-- a move of an iterator
pub data Move : Type 0 where
  seek_to_first : Move
  advance : Move
  prev : Move
  seek : List ℕ → Move
  reset : Move

-- a read is asked for now, or at a snapshot
pub data Request : Type 0 where
  open_store : Opening → Request
  write : List Item → Bool → Request
  get : Option Snapshot → List ℕ → Request
  walk : Option Snapshot → List Move → Request
  get_snapshot : Request
  release_snapshot : Snapshot → Request
  flush : Request
  compact_range : List ℕ → List ℕ → Request
  close : Request
  abandon : Request

-- a code and a text, which may be missing
pub record Refusal : Type 0 where
  pub code : StatusCode
  pub text : List ℕ

-- where a move of an iterator led
pub data Landing : Type 0 where
  stands_on : Pair → Landing
  nowhere : Landing
  move_refused : Refusal → Landing

-- the answer to a request
pub data Answer : Type 0 where
  done : Answer
  found : Option (List ℕ) → Answer
  walked : List Landing → Answer
  snapshot : Snapshot → Answer
  refused : Refusal → Answer
