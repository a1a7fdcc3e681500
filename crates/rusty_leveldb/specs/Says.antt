-- What a call of a store says to its user, in the words of the headline.
--
-- An open store, in memory and on a disk, shows a store of the headline, and a disk holds a closed
-- one. Which relations these are need not be known (`Showing`): any would do that has the laws of
-- `IsShowing`, and of which each call says what it says here. Those that the calls name are in
-- Engines/Witness. Nothing is said where the disk isn't modelled. Of a crash that leaves a prefix
-- of each file all is said here; which others are honest Engines/Witness says.
use Rattle.std.specs.Prelude.{◌≡◌, ◌⊎◌, ◌↔◌, ◌++◌, ℕ, List, [], ◌∷◌, slice_get, option_and_then, Option, Some, None, Result, Ok, Err, OnOk, IsErrAnd, MatchResult, Contains, IsTrue, false, codes}
use Rattle.std.specs.declared.cmp.Ordering.{Ordering}
use Rattle.leveldb_base.specs.Error.{text_of}
use Rattle.leveldb_base.specs.declared.error.Status.{Status}
use Rattle.leveldb_base.specs.declared.error.StatusCode.{StatusCode}
use Rattle.leveldb_base.specs.declared.error.StatusCode.TheVariants.{InvalidArgument, IOError}
use Rattle.leveldb_env.specs.Compressor.{Coding}
use Rattle.leveldb_env.specs.declared.env.Env.{Ghosts}
use Rattle.leveldb_env.specs.Env.{Disk, File, Files, FilesCrashTo, AppendedAreBytes, is_under, kept_file}
use Rattle.leveldb_env.specs.Env as calls
use Rattle.leveldb_iter.specs.declared.moves.Move.{Move}
use Rattle.leveldb_iter.specs.declared.moves.Move.TheVariants.{First, Next, Prev, Seek}
use Rattle.leveldb_iter.specs.declared.moves.Step.{Step}
use Rattle.leveldb_iter.specs.declared.moves.Step.TheVariants.{At, Invalid, Refused}
use Rattle.leveldb_iter.specs.declared.snapshot.Snapshot.{Snapshot}
use Rattle.leveldb_files.specs.Stores.Format.{Format, Meaning, Agrees}
use Rattle.rusty_leveldb.specs.Headline.{Batch, Pair, map_of, IsListing, UserStore, fresh_store, is_broken, is_closed, WalkMove, seek_to_first, advance, prev, seek, moved_to, IsShown, Call, write, open_store, walk, release_snapshot, abandon, Why, compressor_failed, device_failed, read_causes, CallOutcome, done, found, walked, snapshot, failed, barred, CallRow, CrashRow}
use Rattle.rusty_leveldb.specs.Machines.Shown.{HasCode, HasFault}

-- where a store is: its name, and what the names and ids in its files mean
pub record Place : Type 0 where
  pub name : List ℕ
  pub meaning : Meaning

-- how an open store, which has this in memory, and a disk are related to a store of the headline
pub record Showing (M : Type 0) : Type 1 where
  -- memory and disk show the store, which was opened in this order of keys
  pub shows : Place → (List ℕ → List ℕ → Ordering) → M → Disk → UserStore → Type 0
  -- the disk holds the store, which is closed
  pub holds : Place → Disk → UserStore → Type 0
  -- of the files of the store of this name a crash left these, with no record that wasn't written
  pub is_honest : List ℕ → Files → Files → Type 0

-- ---- outcomes

-- a compressor that an id means fails with this code to encode some block
abbrev pub HasEncodingError : Meaning → StatusCode → Type 0
HasEncodingError meaning code = (id : ℕ) × (coding : Coding) × (meaning.codings id ≡ Some coding)
    × (block : List ℕ) × IsTrue (coding.encode_fails block code)

-- what a refusal says: the mode barred the call, or it failed, for a cause with this code
abbrev pub IsRefusedWith : Status → CallOutcome → Type 0
IsRefusedWith status (barred is_closed) = status.code ≡ InvalidArgument
IsRefusedWith status (barred is_broken) = (status.code ≡ IOError)
    × ((text_of status.err ≡ []) ⊎ (text_of status.err ≡ codes "IOError: reopen the store"))
IsRefusedWith status (failed why) = HasCode why status.code
IsRefusedWith status outcome = ⊥

-- the outcome of a call that failed; a compressor that is said to have failed did
abbrev pub IsFailure : Status → Meaning → CallOutcome → Type 0
IsFailure status meaning outcome = IsRefusedWith status outcome
    × (outcome ≡ failed compressor_failed → HasEncodingError meaning status.code)

-- the outcome of a call that returns nothing
abbrev pub DoneOr : {T : Type 0} → Result T Status → Meaning → CallOutcome → Type 0
DoneOr (Ok value) meaning outcome = outcome ≡ done
DoneOr (Err status) meaning outcome = IsFailure status meaning outcome

-- the outcome of a look-up
abbrev pub FoundOr : Result (Option (List ℕ)) Status → Meaning → CallOutcome → Type 0
FoundOr (Ok value) meaning outcome = outcome ≡ found value
FoundOr (Err status) meaning outcome = IsFailure status meaning outcome

-- the outcome of a call that gives out a snapshot
abbrev pub SnapshotOr : Result Snapshot Status → Meaning → CallOutcome → Type 0
SnapshotOr (Ok one) meaning outcome = outcome ≡ snapshot one.number
SnapshotOr (Err status) meaning outcome = IsFailure status meaning outcome

-- the move of the headline that a move is
abbrev pub move_for : Move → WalkMove
move_for First = seek_to_first
move_for Next = advance
move_for Prev = prev
move_for (Seek key) = seek key.items

-- where a move of a walk led
abbrev pub IsResultFor : Step → Result (Option Pair) Why → Type 0
IsResultFor (At key value) result = result ≡ Ok (Some (key.items, value.items))
IsResultFor Invalid result = result ≡ Ok None
IsResultFor (Refused status) result = IsErrAnd result (λ why. HasCode why status.code)

-- and each in turn
abbrev pub AreResultsFor : List Step → List (Result (Option Pair) Why) → Type 0
AreResultsFor [] results = results ≡ []
AreResultsFor (step ∷ steps) (result ∷ results) =
    IsResultFor step result × AreResultsFor steps results
AreResultsFor steps [] = ⊥

-- the outcome of a walk whose moves led there
abbrev pub WalkedOr : List Step → Result (Unit {0}) Status → Meaning → CallOutcome → Type 0
WalkedOr steps (Ok nothing) meaning outcome = (results : List (Result (Option Pair) Why))
    × AreResultsFor steps results × (outcome ≡ walked results)
WalkedOr steps (Err status) meaning outcome = IsFailure status meaning outcome

-- ---- crashes

-- the batch that a call writes
abbrev pub batch_of : Call → Option Batch
batch_of (write batch sync) = Some batch
batch_of call = None

module _ {M : Type 0} (showing : Showing M) where
  -- an honest crash of a disk with these files leaves this one
  pub record IsLeft (name : List ℕ) (files : Files) (left : Disk) : Type 0 where
    pub crashes : FilesCrashTo files left.files
    pub honest : showing.is_honest name files left.files
    pub free : (path : List ℕ) → left.locked path ≡ false

  -- Where the files are these, a crash leaves a disk that holds what a crash row leaves of the
  -- store. It may cut short the write of this batch.
  abbrev pub CrashLeaves : Place → UserStore → Option Batch → Files → Type 0
  CrashLeaves place store written files = (left : Disk) → IsLeft place.name files left
      → (cut : Option Batch) × ((cut ≡ None) ⊎ (cut ≡ written))
      × (next : UserStore) × CrashRow store cut next × showing.holds place left next

-- ---- calls

module _ {E F M : Type 0} (env : Ghosts E F) (showing : Showing M) where
  -- A call is its row of the headline from this store on: what it returned is the outcome, a device
  -- that is said to have failed did, the next store is shown afterwards, and at each moment of the
  -- call a crash leaves what a crash row leaves of the store.
  pub record IsHeadlineRow (place : Place) (order : List ℕ → List ℕ → Ordering) (store : UserStore)
      (call : Call) (Returned : Meaning → CallOutcome → Type 0) (After : UserStore → Type 0)
      (from to : E) : Type 0 where
    pub outcome : CallOutcome
    pub returned : Returned place.meaning outcome
    pub faults : HasFault (Unit {0}) (env.failures from) (env.failures to) outcome
    pub next : UserStore
    pub row : CallRow order store.mode store call outcome next
    pub after : After next
    pub crash : calls.Run (CrashLeaves showing place store (batch_of call)) (env.observed from)
        (env.observed to)

  -- What a call of an open store says: where the disk is modelled it is its row, from each store
  -- that was shown.
  abbrev pub Says : M → E → Call → (Meaning → CallOutcome → Type 0) → M → E → Type 0
  Says before from call Returned after to = IsTrue env.models_disk → (place : Place)
      (order : List ℕ → List ℕ → Ordering) (store : UserStore)
      → showing.shows place order before (env.observed from).disk store
      → IsHeadlineRow place order store call Returned
      (showing.shows place order after (env.observed to).disk) from to

  -- The release of a snapshot, by its number. If it is refused it may be by another one, since an
  -- opening before this one may have given out a snapshot of the same number.
  abbrev pub SaysReleased : M → E → Snapshot → Result (Unit {0}) Status → M → E → Type 0
  SaysReleased before from one result after to = IsTrue env.models_disk → (place : Place)
      (order : List ℕ → List ℕ → Ordering) (store : UserStore)
      → showing.shows place order before (env.observed from).disk store
      → (number : ℕ) × OnOk result (number ≡ one.number)
      × IsHeadlineRow place order store (release_snapshot number) (DoneOr result)
      (showing.shows place order after (env.observed to).disk) from to

  -- a call that gives the store up: the disk holds it then
  abbrev pub SaysAbandoned : M → E → Result (Unit {0}) Status → E → Type 0
  SaysAbandoned before from result to = IsTrue env.models_disk → (place : Place)
      (order : List ℕ → List ℕ → Ordering) (store : UserStore)
      → showing.shows place order before (env.observed from).disk store
      → IsHeadlineRow place order store abandon (DoneOr result)
      (showing.holds place (env.observed to).disk) from to

  -- what an opening returned shows the store, or the disk holds it still
  abbrev pub IsOpenedAs : Place → (List ℕ → List ℕ → Ordering) → Result M Status → Disk → UserStore
      → Type 0
  IsOpenedAs place order (Ok memory) disk store = showing.shows place order memory disk store
  IsOpenedAs place order (Err status) disk store = showing.holds place disk store

  -- The opening of a store under a name with options of this format: from each store that the disk
  -- held, if the options say of names and ids what they mean.
  abbrev pub SaysOpened : List ℕ → Format → E → Result M Status → E → Type 0
  SaysOpened name format from result to = IsTrue env.models_disk → (meaning : Meaning)
      → Agrees format meaning → (store : UserStore)
      → showing.holds (record { name = name; meaning = meaning }) (env.observed from).disk store
      → IsHeadlineRow (record { name = name; meaning = meaning }) format.order store open_store
      (DoneOr result) (IsOpenedAs (record { name = name; meaning = meaning }) format.order result
      (env.observed to).disk) from to

-- ---- iterators

-- how an iterator is related to pairs in this order of keys, and to its position among them
abbrev pub Iterating : Type 0 → Type 1
Iterating I = (List ℕ → List ℕ → Ordering) → List Pair → Option ℕ → I → Type 0

module _ {I : Type 0} (is_at : Iterating I) where
  -- A call that makes an iterator over what an open store shows, now or at a snapshot: it is over
  -- the pairs of that map, at no position, and its environment is as it was. If it fails, a walk
  -- fails so, but not by the device. What the store is afterwards isn't said.
  abbrev pub SaysIterated : {E F M : Type 0} → Ghosts E F → Showing M → (I → E) → M → E → Option ℕ
      → Result I Status → Type 0
  SaysIterated env showing env_of before from at result = IsTrue env.models_disk → (place : Place)
      (order : List ℕ → List ℕ → Ordering) (store : UserStore)
      → showing.shows place order before (env.observed from).disk store
      → MatchResult result
      (λ it. (env_of it ≡ from) × (store.mode ≡ is_closed → ⊥) × (shown : List Batch)
      × (pairs : List Pair) × IsShown store at shown × IsListing order (map_of shown) pairs
      × is_at order pairs None it)
      (λ status. (outcome : CallOutcome) × IsFailure status place.meaning outcome
      × (outcome ≡ failed device_failed → ⊥)
      × CallRow order store.mode store (walk at []) outcome store)

  -- A move of an iterator leads where this move of a walk does. One that fails, for a cause that a
  -- read may have, leaves no position; the device that is said to have failed did, between these
  -- counts of its failed calls.
  abbrev pub SaysMoved : {R : Type 0} → WalkMove → ℕ → I → Result R Status → ℕ → I → Type 0
  SaysMoved move failures old result now new = (order : List ℕ → List ℕ → Ordering)
      (pairs : List Pair) (position : Option ℕ) → is_at order pairs position old
      → MatchResult result
      (λ _. is_at order pairs (moved_to order pairs position move) new)
      (λ status. is_at order pairs None new
      × (why : Why) × Contains read_causes why × HasCode why status.code
      × HasFault (Unit {0}) failures now (failed why))

  -- the pair that an iterator is at
  abbrev pub SaysPair : I → Option Pair → Type 0
  SaysPair it pair = (order : List ℕ → List ℕ → Ordering) (pairs : List Pair)
      (position : Option ℕ) → is_at order pairs position it
      → pair ≡ option_and_then (slice_get pairs) position

-- ---- what makes it a showing

-- no file is in the folder and no lock is held there
abbrev pub HasNothingUnder : List ℕ → Disk → Type 0
HasNothingUnder name disk = (path : List ℕ) → IsTrue (is_under name path)
    → (disk.files path ≡ None) × (disk.locked path ≡ false)

-- each file is left with a prefix of its bytes, with all that a crash keeps
abbrev pub ArePrefixesLeft : Files → Files → Type 0
ArePrefixesLeft files left = (name : List ℕ) (file : File) → files name ≡ Some file
    → (front rest : List ℕ) × (file.since ≡ front ++ rest)
    × (left name ≡ Some (kept_file (file.kept ++ front)))

-- the laws, beside what each call says
pub record IsShowing {M : Type 0} (showing : Showing M) : Type 0 where
  -- an empty folder holds the store of no batch
  pub fresh : (place : Place) (disk : Disk) → HasNothingUnder place.name disk
      → AppendedAreBytes disk.files → showing.holds place disk (fresh_store [] 0 is_closed)
  -- a store that a disk holds is closed
  pub closed : (place : Place) (disk : Disk) (store : UserStore) → showing.holds place disk store
      → store.mode ≡ is_closed
  -- between two calls a crash leaves a crash row of it, and of one that is shown
  pub crash_held : (place : Place) (disk : Disk) (store : UserStore)
      → showing.holds place disk store → CrashLeaves showing place store None disk.files
  pub crash_shown : (place : Place) (order : List ℕ → List ℕ → Ordering) (memory : M) (disk : Disk)
      (store : UserStore) → showing.shows place order memory disk store
      → CrashLeaves showing place store None disk.files
  -- a crash that leaves a prefix of each file is honest
  pub prefixes : (name : List ℕ) (files left : Files) → ArePrefixesLeft files left
      → showing.is_honest name files left

-- of disks and of crashes two of them say the same
abbrev pub AreAlike : {M N : Type 0} → Showing M → Showing N → Type 0
AreAlike one two = ((place : Place) (disk : Disk) (store : UserStore)
    → one.holds place disk store ↔ two.holds place disk store)
    × ((name : List ℕ) (files left : Files)
    → one.is_honest name files left ↔ two.is_honest name files left)
