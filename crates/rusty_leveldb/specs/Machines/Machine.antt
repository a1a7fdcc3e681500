-- The store as a machine: the answers that a request may have in a state, and the states to which
-- they lead.
use Rattle.std.specs.Prelude.{◌≡◌, ◌≤◌, ◌<◌, ◌+◌, ◌⊎◌, ℕ, Bool, true, false, List, [], ◌∷◌, ◌++◌, length, Option, Some, None, Contains, IsTrue}
use Rattle.std.specs.declared.cmp.Ordering.{Ordering}
use Rattle.leveldb_base.specs.History.{Item, Entry, History, placed, entries_of, greatest, with_batch, count_of, IsPrefixAtLeast, IsValueAt, IsView}
use Rattle.leveldb_base.specs.Types.{Pair, position_within, next_position, previous_position, seek_position, pair_at}
use Rattle.leveldb_files.specs.Stores.Contents.{Store, missing, made}
use Rattle.leveldb_store.specs.Writing.Room.{HasFailed}
use Rattle.rusty_leveldb.specs.Machines.State.{Mode, open_mode, broken, closed, Snapshot, Opening, State, Move, seek_to_first, advance, prev, seek, reset, Request, open_store, write, get, walk, get_snapshot, release_snapshot, flush, compact_range, close, abandon, Refusal, Landing, stands_on, nowhere, move_refused, Answer, done, found, walked, snapshot, refused}
use Rattle.rusty_leveldb.specs.Machines.Causes.{Setting, Cause, out_of_memory, device_failed, lock_is_held, bad_operand, store_exists, used_up, Fits, MoveMisfits, IsCausedBy, IsMoveCausedBy, IsClosedRefusal, IsBrokenRefusal}

-- ---- writing

-- as many batches are durable as before, or all of this history
abbrev pub MayGrow : ℕ → History → ℕ → Type 0
MayGrow before history durable = (durable ≡ before) ⊎ (durable ≡ length history)

-- nothing has changed but what is durable
pub record Keeps (old new : State) : Type 0 where
  pub state : new ≡ record old { durable = new.durable }
  pub durable : MayGrow old.durable old.history new.durable

-- the batch that a write adds: it takes the next numbers
abbrev pub added_batch : State → List Item → List Entry
added_batch old items = placed (old.last + 1) items

-- the batch is the history's last, and all is durable if that was asked for
pub record Writes (old : State) (items : List Item) (sync : Bool) (new : State) : Type 0 where
  pub state : new ≡ record old {
    history = old.history ++ added_batch old items ∷ [];
    last = old.last + length items;
    durable = new.durable;
  }
  pub durable : MayGrow old.durable old.history new.durable ⊎ (new.durable ≡ length new.history)
  pub synced : IsTrue sync → new.durable ≡ length new.history

-- all is durable
pub record AllDurable (old new : State) : Type 0 where
  pub state : new ≡ record old { durable = length old.history }

-- the store is broken, and this batch, if there is one, is pending
pub record Breaks (old : State) (batch : Option (List Entry)) (new : State) : Type 0 where
  pub state : new ≡ record old { durable = new.durable; pending = batch; mode = broken }
  pub durable : MayGrow old.durable old.history new.durable

-- ---- snapshots

-- one more snapshot is held, of the last number, under a number above 0 that wasn't given out
-- before
pub record Gives (old : State) (one : Snapshot) (new : State) : Type 0 where
  pub sequence : one.sequence ≡ old.last
  pub fresh : Contains old.given one.number → ⊥
  pub above : 0 < one.number
  pub state : new ≡ record old {
    held = old.held ++ one ∷ [];
    given = old.given ++ one.number ∷ [];
  }

-- a snapshot that was held isn't any more
pub record Releases (old : State) (one : Snapshot) (new : State) : Type 0 where
  pub before : List Snapshot
  pub after : List Snapshot
  pub was : old.held ≡ before ++ one ∷ after
  pub state : new ≡ record old { held = before ++ after }

-- ---- closing

-- closed, with nothing held
abbrev pub closed_state : State → State
closed_state old = record old { held = []; given = []; mode = closed }

-- all is durable and the lock is free
pub record Closes (old new : State) : Type 0 where
  pub state : new ≡ record (closed_state old) { durable = length old.history; locked = false }

-- the lock is as said
pub record Abandons (old : State) (locked : Bool) (new : State) : Type 0 where
  pub state : new ≡ record (closed_state old) { locked = locked }

-- ---- opening

-- a store is there, and its comparator is the opening's
abbrev pub IsStoreOf : Opening → Store → Type 0
IsStoreOf opening missing = ⊥
IsStoreOf opening (made name) = name ≡ Some opening.format.order_name

-- the store is as it was; or it was missing and is now one of the opening that is at work
abbrev pub StaysOr : Option Opening → Store → Store → Type 0
StaysOr None old now = now ≡ old
StaysOr (Some opening) old now = (now ≡ old) ⊎ ((old ≡ missing) × IsStoreOf opening now)

-- a store may be opened so: a missing one is to be made, and one that is there may be there
abbrev pub MayOpen : Opening → Store → Type 0
MayOpen opening missing = IsTrue opening.create_if_missing
MayOpen opening (made name) = opening.error_if_exists ≡ false

-- what was pending is in the history or forgotten, and the last number is one that both allow
pub record Opens (old : State) (opening : Opening) (new : State) : Type 0 where
  pub free : old.locked ≡ false
  pub may : MayOpen opening old.store
  pub stays : StaysOr (Some opening) old.store new.store
  pub store : IsStoreOf opening new.store
  pub joins : (new.history ≡ old.history) ⊎ (new.history ≡ with_batch old.history old.pending)
  pub reached : greatest (entries_of new.history) ≤ new.last
  pub bounded : new.last ≤ old.last + count_of old.pending
  pub durable : MayGrow old.durable new.history new.durable
  pub state : new ≡ record {
    history = new.history;
    last = new.last;
    durable = new.durable;
    held = [];
    given = [];
    pending = None;
    mode = open_mode;
    locked = true;
    store = new.store;
    format = opening.format;
  }

-- refused before anything is made
abbrev pub IsEarly : Cause → Type 0
IsEarly lock_is_held = Unit {0}
IsEarly bad_operand = Unit {0}
IsEarly store_exists = Unit {0}
IsEarly used_up = Unit {0}
IsEarly cause = ⊥

-- the lock is held still, since after the cause had come another call of the device failed
pub record KeepsLock (setting : Setting) (old : State) (request : Request) (refusal : Refusal)
    (cause : Cause)
    : Type 0 where
  -- how many calls had failed when the cause had come
  pub mid : ℕ
  pub later : setting.before ≤ mid
  pub comes : IsCausedBy (record setting { after = mid }) old request refusal cause
  pub failed : HasFailed mid setting.after

-- Not opened: but for what is durable, and a store that was made meanwhile, all is as before. The
-- lock is given back.
pub record StaysClosed (setting : Setting) (old : State) (opening : Opening) (refusal : Refusal)
    (cause : Cause)
    (new : State) : Type 0 where
  pub state : new ≡ record old {
    durable = new.durable;
    locked = new.locked;
    store = new.store;
  }
  pub durable : MayGrow old.durable old.history new.durable
  pub stays : StaysOr (Some opening) old.store new.store
  pub early : IsEarly cause → new.store ≡ old.store
  pub lock : (new.locked ≡ old.locked)
      ⊎ ((new.locked ≡ true) × KeepsLock setting old (open_store opening) refusal cause)

-- ---- reading

-- the sequence at which a request reads: now, or that of a snapshot which is held
abbrev pub IsSequenceOf : State → Option Snapshot → ℕ → Type 0
IsSequenceOf old None s = s ≡ old.last
IsSequenceOf old (Some one) s = Contains old.held one × (s ≡ one.sequence)

-- a look-up
pub record Gets (old : State) (at : Option Snapshot) (key : List ℕ)
    (value : Option (List ℕ)) : Type 0 where
  pub sequence : ℕ
  pub at_is : IsSequenceOf old at sequence
  pub looks : IsValueAt (entries_of old.history) sequence key value

-- the position to which a move leads
abbrev pub position_after : (List ℕ → List ℕ → Ordering) → List Pair → Option ℕ → Move → Option ℕ
position_after order pairs position seek_to_first = position_within pairs 0
position_after order pairs position advance = next_position pairs position
position_after order pairs position prev = previous_position position
position_after order pairs position (seek key) = seek_position order pairs key
position_after order pairs position reset = None

-- A move leads where an iterator over the pairs goes. One that is refused has a cause in what
-- befell this very move, and leaves no position.
abbrev pub MoveLands : Setting → State → Request → List Pair → Option ℕ → Move → Landing → Option ℕ
    → Type 0
MoveLands setting old request pairs position move (stands_on pair) next = (MoveMisfits move → ⊥)
    × (next ≡ position_after old.format.order pairs position move)
    × (pair_at pairs next ≡ Some pair)
MoveLands setting old request pairs position move nowhere next = (MoveMisfits move → ⊥)
    × (position_after old.format.order pairs position move ≡ None) × (next ≡ None)
MoveLands setting old request pairs position move (move_refused refusal) next =
    ((cause : Cause) × IsMoveCausedBy setting old request move refusal cause) × (next ≡ None)

-- moves, one after another, each with the setting from the end of the one before to its own
abbrev pub Moves : Setting → State → Request → List Pair → Option ℕ → List Move → List Landing
    → Type 0
Moves setting old request pairs position [] [] = setting.after ≡ setting.before
Moves setting old request pairs position (move ∷ moves) (landing ∷ landings) =
    (mid : ℕ) × (setting.before ≤ mid) × (next : Option ℕ)
    × MoveLands (record setting { after = mid }) old request pairs position move landing next
    × Moves (record setting { before = mid }) old request pairs next moves landings
Moves setting old request pairs position _ _ = ⊥

-- an iterator over the view, from no position on
pub record Walks (setting : Setting) (old : State) (at : Option Snapshot) (moves : List Move)
    (landings : List Landing) : Type 0 where
  pub sequence : ℕ
  pub at_is : IsSequenceOf old at sequence
  pub pairs : List Pair
  pub view : IsView old.format.order (entries_of old.history) sequence pairs
  pub moves_are : Moves setting old (walk at moves) pairs None moves landings

-- ---- the steps

-- a request that is done
abbrev pub Succeeds : Setting → State → Request → Answer → State → Type 0
Succeeds setting old (open_store opening) done new = Opens old opening new
Succeeds setting old (write items sync) done new = Writes old items sync new
Succeeds setting old (get at key) (found value) new = Gets old at key value × (new ≡ old)
Succeeds setting old (walk at moves) (walked landings) new =
    Walks setting old at moves landings × (new ≡ old)
Succeeds setting old get_snapshot (snapshot one) new = Gives old one new
Succeeds setting old (release_snapshot one) done new = Releases old one new
Succeeds setting old flush done new = AllDurable old new
Succeeds setting old (compact_range from to) done new = Keeps old new
Succeeds setting old close done new = Closes old new
Succeeds setting old abandon done new = Abandons old false new
Succeeds setting old _ _ new = ⊥

-- a failed write to a log or manifest breaks the store: out of memory or by the device alone
abbrev pub MayBreak : Cause → Type 0
MayBreak out_of_memory = Unit {0}
MayBreak device_failed = Unit {0}
MayBreak cause = ⊥

-- as before; or broken, with the batch pending if its append had begun
abbrev pub KeepsOrBreaks : State → Cause → List Entry → State → Type 0
KeepsOrBreaks old cause batch new =
    Keeps old new ⊎ (MayBreak cause × (Breaks old None new ⊎ Breaks old (Some batch) new))

-- what a request leaves that was refused for this cause; all that a flush asks of the device is a
-- sync
abbrev pub LeavesRefused : Setting → State → Request → Refusal → Cause → State → Type 0
LeavesRefused setting old (open_store opening) refusal cause new =
    StaysClosed setting old opening refusal cause new
LeavesRefused setting old (write items sync) refusal cause new =
    KeepsOrBreaks old cause (added_batch old items) new
LeavesRefused setting old flush refusal device_failed new = Breaks old None new
LeavesRefused setting old flush refusal cause new =
    Keeps old new ⊎ (MayBreak cause × Breaks old None new)
LeavesRefused setting old (compact_range from to) refusal cause new =
    Keeps old new ⊎ (MayBreak cause × Breaks old None new)
LeavesRefused setting old close refusal cause new = Breaks old None new
LeavesRefused setting old abandon refusal cause new = Abandons old old.locked new
LeavesRefused setting old _ refusal cause new = new ≡ old

-- a request that is refused for a cause
pub record Refuses (setting : Setting) (old : State) (request : Request) (refusal : Refusal)
    (new : State)
    : Type 0 where
  pub cause : Cause
  pub comes : IsCausedBy setting old request refusal cause
  pub leaves : LeavesRefused setting old request refusal cause new

-- refused by the mode, and the state hasn't changed
abbrev pub Rejects : (Refusal → Type 0) → State → Answer → State → Type 0
Rejects IsRefusal old (refused refusal) new = IsRefusal refusal × (new ≡ old)
Rejects IsRefusal old _ new = ⊥

-- done, and the request fits; or refused for a cause
abbrev pub Responds : Setting → State → Request → Answer → State → Type 0
Responds setting old request (refused refusal) new = Refuses setting old request refusal new
Responds setting old request answer new =
    Fits old request × Succeeds setting old request answer new

-- A step, by the mode, which is looked at first; a store is opened if none of its name is open.
abbrev pub Step : Mode → Setting → State → Request → Answer → State → Type 0
Step closed setting old (open_store opening) answer new =
    Responds setting old (open_store opening) answer new
Step closed setting old abandon answer new = (answer ≡ done) × (new ≡ old)
Step closed setting old request answer new = Rejects IsClosedRefusal old answer new
Step mode setting old (open_store opening) answer new = ⊥
Step broken setting old (write items sync) answer new = Rejects IsBrokenRefusal old answer new
Step broken setting old flush answer new = Rejects IsBrokenRefusal old answer new
Step broken setting old (compact_range from to) answer new = Rejects IsBrokenRefusal old answer new
Step broken setting old close answer new = Rejects IsBrokenRefusal old answer new
Step mode setting old request answer new = Responds setting old request answer new

-- ---- a crash

-- what a crash may leave: a prefix of this history, numbers up to this bound, and a store that an
-- opening makes
pub record Risk : Type 0 where
  pub history : History
  pub bound : ℕ
  -- the opening that is at work, if one is
  pub opening : Option Opening

-- between two requests: the history, and what is pending
abbrev pub risk_between : State → Risk
risk_between state = record {
  history = with_batch state.history state.pending;
  bound = state.last + count_of state.pending;
  opening = None;
}

-- At a moment of a request, once it has called the device: the history after it, and what is
-- pending then. While a store is opened it is the history before it, since what was pending may yet
-- be found.
abbrev pub risk_of : Request → State → State → Risk
risk_of (open_store opening) old new = record (risk_between old) { opening = Some opening }
risk_of request old new = risk_between new

-- A crash leaves a prefix with all that was durable, whole batches only, and all of it is durable
-- from then on. It leaves the store that was there, or one that the opening at work has made.
pub record Crashes (old : State) (risk : Risk) (new : State) : Type 0 where
  pub prefix : IsPrefixAtLeast old.durable risk.history new.history
  pub stays : StaysOr risk.opening old.store new.store
  pub state : new ≡ record {
    history = new.history;
    last = risk.bound;
    durable = length new.history;
    held = [];
    given = [];
    pending = None;
    mode = closed;
    locked = false;
    store = new.store;
    format = old.format;
  }
