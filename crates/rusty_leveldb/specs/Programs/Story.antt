-- Runs and lives as a story of the headline: commands are calls, replies say what they returned,
-- and a crash is where it comes. Only what follows has to be known beside the headline.
use Rattle.std.specs.Prelude.{◌≡◌, ◌≤◌, ◌<◌, ◌+◌, ◌⊎◌, ℕ, false, All, Contains, List, [], ◌∷◌, ◌++◌, length, map, slice_get, Option, Some, None, Result, Ok, Err, IsTrue}
use Rattle.std.specs.declared.cmp.Ordering.{Ordering}
use Rattle.leveldb_base.specs.declared.error.Status.{Status}
use Rattle.leveldb_base.specs.declared.error.StatusCode.TheVariants.{OutOfMemory}
use Rattle.leveldb_env.specs.Env.{Disk, Files, FilesCrashTo, Observed}
use Rattle.leveldb_env.specs.Options.{Boxed, OptionsOf}
use Rattle.leveldb_env.specs.Picks.{picked, tails_of}
use Rattle.leveldb_env.specs.declared.env.Env.{Ghosts}
use Rattle.leveldb_env.specs.declared.mem_env.picks.Pick.{Pick}
use Rattle.leveldb_files.specs.Stores.Format.{Agrees, Format, Meaning}
use Rattle.rusty_leveldb.specs.declared.shell.commands.Command.{Command}
use Rattle.rusty_leveldb.specs.declared.shell.commands.Command.TheVariants as command
use Rattle.rusty_leveldb.specs.declared.shell.commands.Item.{Item}
use Rattle.rusty_leveldb.specs.declared.shell.commands.Item.TheVariants as item
use Rattle.rusty_leveldb.specs.declared.shell.commands.Reply.{Reply}
use Rattle.rusty_leveldb.specs.declared.shell.commands.Reply.TheVariants as reply
use Rattle.rusty_leveldb.specs.declared.shell.crash_runs.Report.{Report}
use Rattle.rusty_leveldb.specs.Engines.Boxes.{LifeOf}
use Rattle.rusty_leveldb.specs.Headline.{KeyChange, Batch, Pair, UserStore, fresh_store, is_closed, Call, open_store, abandon, write, get, walk, get_snapshot, release_snapshot, compact_range, flush, close, Why, CallOutcome, done, found, walked, snapshot, StoryEvent, returned, crash, IsStory}
use Rattle.rusty_leveldb.specs.Says.{AreResultsFor, IsLeft, IsRefusedWith, Place, Showing, move_for}

-- ---- a command is a call

-- the change that an item asks for
abbrev pub change_for : Item → KeyChange
change_for (item.Put key value) = record { key = key.items; value = Some value.items }
change_for (item.Delete key) = record { key = key.items; value = None }

-- Of snapshots that were given out with these numbers, the one in this place, counted from 0, has
-- this number. Where none was given out in that place, it is a number that none of them has.
abbrev pub HasNumber : List ℕ → ℕ → ℕ → Type 0
HasNumber given place number = (slice_get given place ≡ Some number)
    ⊎ ((slice_get given place ≡ None) × (Contains given number → ⊥))

-- the call that a command is, where snapshots were given out with these numbers before it
abbrev pub IsCallFor : List ℕ → Command → Call → Type 0
IsCallFor given (command.Put key value) call =
    call ≡ write (record { key = key.items; value = Some value.items } ∷ []) false
IsCallFor given (command.Delete key) call =
    call ≡ write (record { key = key.items; value = None } ∷ []) false
IsCallFor given (command.Write sync items) call =
    call ≡ write (map change_for items.items) sync
IsCallFor given (command.Get key) call = call ≡ get None key.items
IsCallFor given command.Snap call = call ≡ get_snapshot
IsCallFor given (command.GetAt place key) call = (number : ℕ)
    × HasNumber given place number × (call ≡ get (Some number) key.items)
IsCallFor given (command.Release place) call = (number : ℕ)
    × HasNumber given place number × (call ≡ release_snapshot number)
IsCallFor given (command.Walk None moves) call = call ≡ walk None (map move_for moves.items)
IsCallFor given (command.Walk (Some place) moves) call = (number : ℕ)
    × HasNumber given place number × (call ≡ walk (Some number) (map move_for moves.items))
IsCallFor given (command.Compact from to) call = call ≡ compact_range
IsCallFor given command.Flush call = call ≡ flush
IsCallFor given command.Close call = call ≡ close

-- ---- a reply says what it returned

-- what a reply says; of a snapshot it says how many were given out before
abbrev pub IsReplyFor : List ℕ → Reply → CallOutcome → Type 0
IsReplyFor given reply.Done outcome = outcome ≡ done
IsReplyFor given (reply.Value value) outcome = outcome ≡ found (Some value)
IsReplyFor given reply.Nothing outcome = outcome ≡ found None
IsReplyFor given (reply.Snapshot place) outcome = (place ≡ length given)
    × (number : ℕ) × (outcome ≡ snapshot number)
IsReplyFor given (reply.Walk steps) outcome = (results : List (Result (Option Pair) Why))
    × AreResultsFor steps.items results × (outcome ≡ walked results)
IsReplyFor given (reply.Refused status) outcome = IsRefusedWith status outcome

-- ---- runs

-- the number that was given out, if one was
abbrev pub number_in : CallOutcome → List ℕ
number_in (snapshot number) = number ∷ []
number_in outcome = []

-- commands with these replies are these events, where snapshots of these numbers were given out
-- before
abbrev pub AreEventsOf : List ℕ → List Command → List Reply → List StoryEvent → Type 0
AreEventsOf given [] [] events = events ≡ []
AreEventsOf given (command ∷ commands) (said ∷ replies) (returned call outcome ∷ events) =
    IsCallFor given command call × IsReplyFor given said outcome
    × AreEventsOf (given ++ number_in outcome) commands replies events
AreEventsOf given commands replies events = ⊥

-- the store was opened, the commands were called, and the store was abandoned, which ended so
abbrev pub AreCalled : List Command → List Reply → CallOutcome → List StoryEvent → Type 0
AreCalled commands replies ending events = (middle : List StoryEvent)
    × AreEventsOf [] commands replies middle
    × (events ≡ returned open_store done ∷ (middle ++ returned abandon ending ∷ []))

-- the store wasn't opened, so no command was called
abbrev pub IsUnopened : List Reply → Status → List StoryEvent → Type 0
IsUnopened replies status events = (replies ≡ []) × (outcome : CallOutcome)
    × IsRefusedWith status outcome × (events ≡ returned open_store outcome ∷ [])

-- the events of a run that ended so; one may end out of memory before it begins
abbrev pub IsRunOf : Result (Unit {0}) Status → List Command → List Reply → List StoryEvent → Type 0
IsRunOf (Ok ended) commands replies events = AreCalled commands replies done events
IsRunOf (Err status) commands replies events =
    ((ending : CallOutcome) × IsRefusedWith status ending
    × AreCalled commands replies ending events)
    ⊎ IsUnopened replies status events
    ⊎ ((replies ≡ []) × (events ≡ []) × (status.code ≡ OutOfMemory))

-- ---- what a story leads to

module _ {M : Type 0} (showing : Showing M) (place : Place)
    (order : List ℕ → List ℕ → Ordering) where
  -- events are a story from this store to one that the disk holds
  abbrev pub LeadsTo : UserStore → List StoryEvent → Disk → Type 0
  LeadsTo store events disk =
      (last : UserStore) × IsStory order store events last × showing.holds place disk last

-- a crash at this moment, which has come, left the disk of files that stood then
pub record IsLeftAt {M : Type 0} (showing : Showing M) (name : List ℕ) (now : Observed) (moment : ℕ)
    (left : Disk) : Type 0 where
  pub come : moment ≤ now.moment
  pub files : Files
  pub stood : now.at_moment moment files
  pub is_left : IsLeft showing name files left

-- a crash before these events cut short the write that was next, or none
abbrev pub IsCutShort : List StoryEvent → Option Batch → Type 0
IsCutShort (returned (write batch sync) outcome ∷ events) cut = (cut ≡ None) ⊎ (cut ≡ Some batch)
IsCutShort events cut = cut ≡ None

-- of events the first ones come about, and then a crash
abbrev pub AreCutShort : List StoryEvent → List StoryEvent → Type 0
AreCutShort events told = (before after : List StoryEvent) × (cut : Option Batch)
    × (events ≡ before ++ after) × IsCutShort after cut × (told ≡ before ++ crash cut ∷ [])

module _ {E F M : Type 0} (env : Ghosts E F) (showing : Showing M) where
  -- A run of commands from a store that the disk held. What its replies say is a story of that
  -- store, and the disk holds then what it leads to; where nothing came about, nothing changed.
  -- Wherever a crash comes in the run, the first events of such a story come about and the crash,
  -- and the disk that is left holds what they lead to.
  pub record IsRunStory (place : Place) (order : List ℕ → List ℕ → Ordering) (store : UserStore)
      (commands : List Command) (from : E) (replies : List Reply)
      (ended : Result (Unit {0}) Status) (to : E) : Type 0 where
    pub events : List StoryEvent
    pub are_events : IsRunOf ended commands replies events
    pub leads : LeadsTo showing place order store events (env.observed to).disk
    pub nothing : events ≡ [] → to ≡ from
    pub crashes : (moment : ℕ) (left : Disk) → (env.observed from).moment ≤ moment
        → IsLeftAt showing place.name (env.observed to) moment left
        → (all told : List StoryEvent) × IsRunOf ended commands replies all
        × AreCutShort all told × LeadsTo showing place order store told left

  -- A run over the store of this name with options of this format: from each store that the disk
  -- held, if the options say of names and ids what they mean.
  abbrev pub SaysRun : List ℕ → Format → List Command → E → List Reply
      → Result (Unit {0}) Status → E → Type 0
  SaysRun name format commands from replies ended to = IsTrue env.models_disk
      → (meaning : Meaning) → Agrees format meaning → (store : UserStore)
      → showing.holds (record { name = name; meaning = meaning }) (env.observed from).disk store
      → IsRunStory (record { name = name; meaning = meaning }) format.order store commands from
      replies ended to

-- ---- lives

-- the events of a life whose opening ended so
abbrev pub AreEventsOfLife : Result (Unit {0}) Status → List Command → List Reply → List StoryEvent
    → Type 0
AreEventsOfLife (Ok opened) commands replies events =
    (ending : CallOutcome) × AreCalled commands replies ending events
AreEventsOfLife (Err status) commands replies events = IsUnopened replies status events

-- when they came, if replies were given at these moments; a report leaves out when the opening
-- returned, and when the store was abandoned
abbrev pub AreMomentsOf : Result (Unit {0}) Status → List ℕ → List ℕ → Type 0
AreMomentsOf (Ok opened) given moments = (first last : ℕ) × (moments ≡ first ∷ (given ++ last ∷ []))
AreMomentsOf (Err status) given moments = (first : ℕ) × (moments ≡ first ∷ [])

-- of events, each with its moment, those come about that had come at the moment of a crash, and
-- then the crash
pub record IsCutAt (moment : ℕ) (timed : List (ℕ × StoryEvent)) (events : List StoryEvent)
    : Type 0 where
  pub before : List (ℕ × StoryEvent)
  pub after : List (ℕ × StoryEvent)
  pub split : timed ≡ before ++ after
  pub come : All (λ one. one.0 ≤ moment) before
  pub to_come : All (λ one. moment < one.0) after
  pub cut : Option Batch
  pub is_cut : IsCutShort (map (λ one. one.1) after) cut
  pub events_are : events ≡ map (λ one. one.1) before ++ crash cut ∷ []

-- all of them come about, or those before a crash
abbrev pub AreEventsUntil : Option ℕ → List (ℕ × StoryEvent) → List StoryEvent → Type 0
AreEventsUntil None timed events = events ≡ map (λ one. one.1) timed
AreEventsUntil (Some moment) timed events = IsCutAt moment timed events

-- what came about in a life of these commands with this report, and a crash at this moment or none
pub record IsLifeStory (commands : List Command) (moment : Option ℕ) (report : Report)
    (events : List StoryEvent) : Type 0 where
  pub timed : List (ℕ × StoryEvent)
  pub all : AreEventsOfLife report.opened commands (map (λ one. one.1) report.replies.items)
      (map (λ one. one.1) timed)
  pub moments : AreMomentsOf report.opened (map (λ one. one.0) report.replies.items)
      (map (λ one. one.0) timed)
  pub events_are : AreEventsUntil moment timed events

module _ {E F M : Type 0} (env : Ghosts E F) (showing : Showing M) where
  -- A life from a store that the disk held. What its report says is a story of that store, and the
  -- disk holds then what it leads to. Wherever a crash comes in the life, so is what had come about
  -- by its moment, and the crash, and the disk that is left holds what that leads to.
  pub record IsLifeTold (place : Place) (order : List ℕ → List ℕ → Ordering) (store : UserStore)
      (commands : List Command) (from : E) (report : Report) (to : E) : Type 0 where
    pub leads : (events : List StoryEvent) × IsLifeStory commands None report events
        × LeadsTo showing place order store events (env.observed to).disk
    pub crashes : (moment : ℕ) (left : Disk)
        → IsLeftAt showing place.name (env.observed to) ((env.observed from).moment + moment) left
        → (events : List StoryEvent) × IsLifeStory commands (Some moment) report events
        × LeadsTo showing place order store events left

  -- A life of the store of this name with options of this format: from each store that the disk
  -- held, if the options say of names and ids what they mean.
  abbrev pub SaysLived : List ℕ → Format → List Command → E → Report → E → Type 0
  SaysLived name format commands from report to = (meaning : Meaning) → Agrees format meaning
      → (store : UserStore)
      → showing.holds (record { name = name; meaning = meaning }) (env.observed from).disk store
      → IsLifeTold (record { name = name; meaning = meaning }) format.order store commands from
      report to

  -- A crash at this moment from a life's start left the next device: of the files that stood then
  -- each with the bytes that a crash keeps and those that were picked, and no lock.
  pub record IsCutOff (from : E) (moment : ℕ) (pick : Pick) (to : E) (files : Files) (next : E)
      : Type 0 where
    pub come : (env.observed from).moment + moment ≤ (env.observed to).moment
    pub stood : (env.observed to).at_moment ((env.observed from).moment + moment) files
    pub crashes : FilesCrashTo files (env.observed next).disk.files
    pub picked_are : (env.observed next).disk.files ≡ picked (tails_of pick.tails.items) files
    pub free : (path : List ℕ) → (env.observed next).disk.locked path ≡ false

  -- The next life begins where this one ended, or on what its crash left. If that crash wasn't
  -- honest nothing more is said.
  abbrev pub GoesOn : List ℕ → Option ℕ → Pick → E → E → (E → Type 0) → Type 0
  GoesOn name None pick from to Next = Next to
  GoesOn name (Some moment) pick from to Next = (files : Files) × (next : E)
      × IsCutOff from moment pick to files next
      × (showing.is_honest name files (env.observed next).disk.files → Next next)

  module _ {C FP : Type 0} {B : Boxed} (place : Place) (order : List ℕ → List ℕ → Ordering) where
    -- Lives one after another, from a device on whose disk holds this store. Up to its crash each
    -- is a story from there to the store that the next device's disk holds.
    abbrev pub AreStories : E → UserStore → List (LifeOf C FP B) → List Report → Type 0
    AreStories device store [] [] = showing.holds place (env.observed device).disk store
    AreStories device store (life ∷ lives) (report ∷ reports) =
        showing.holds place (env.observed device).disk store × (to : E)
        × IsLifeTold place order store life.commands.items device report to
        × GoesOn place.name life.moment life.pick device to (λ next. (events : List StoryEvent)
        × (last : UserStore) × IsLifeStory life.commands.items life.moment report events
        × IsStory order store events last × AreStories next last lives reports)
    AreStories device store lives reports = ⊥

  -- Lives of the store of this name, if their options say of names and ids what they mean and have
  -- one order of keys: they begin on a device whose disk holds a fresh store of no batch, and are a
  -- story from there. `formats` says of options which format they have.
  abbrev pub SaysLives : {C FP : Type 0} {B : Boxed} → (OptionsOf C FP B → Format) → List ℕ
      → List (LifeOf C FP B) → List Report → Type 0
  SaysLives formats name lives reports = (meaning : Meaning)
      (order : List ℕ → List ℕ → Ordering)
      → All (λ life. Agrees (formats life.options) meaning) lives
      → All (λ life. (formats life.options).order ≡ order) lives
      → (device : E) × AreStories (record { name = name; meaning = meaning }) order device
      (fresh_store [] 0 is_closed) lives reports
