-- Runs of the machine, one request after another, and lives with crashes between them.
--
-- `meaning` says what the names and ids in the store's files mean, at each opening alike.
use Rattle.std.specs.Prelude.{◌≡◌, ◌≤◌, ◌<◌, ◌⊎◌, ℕ, Bool, List, [], ◌∷◌, ◌++◌, None, All, false, IsTrue}
use Rattle.leveldb_files.specs.Stores.Contents.{missing}
use Rattle.leveldb_files.specs.Stores.Format.{Format, Meaning}
use Rattle.rusty_leveldb.specs.Machines.State.{State, Request, Answer, closed}
use Rattle.rusty_leveldb.specs.Machines.Causes.{Setting}
use Rattle.rusty_leveldb.specs.Machines.Machine.{Step, risk_between, risk_of, Crashes}

-- ---- runs

-- a request that was answered: at which moment, and how many calls of the device had failed by then
pub record Event : Type 0 where
  pub moment : ℕ
  pub request : Request
  pub answer : Answer
  pub failures : ℕ

-- the setting of an event's call, after so many failures
abbrev pub setting_of : Meaning → ℕ → Event → Setting
setting_of meaning failures event =
    record { before = failures; after = event.failures; meaning = meaning }

module _ (meaning : Meaning) where
  -- from so many failures and the old state on these events come, one after another, up to so many
  -- failures and the new state
  abbrev pub RunsEvents : ℕ → State → List Event → ℕ → State → Type 0
  RunsEvents before old [] after new = (after ≡ before) × (new ≡ old)
  RunsEvents before old (event ∷ events) after new = (before ≤ event.failures) × (next : State)
      × Step old.mode (setting_of meaning before event) old event.request event.answer next
      × RunsEvents event.failures next events after new

-- ---- crashes

-- A crash at this moment in a request that leads from one state to the next: inside a call of the
-- device, or between two. At the moment of the last answer, and inside no call, the device hasn't
-- been called yet, so the request has put nothing at risk.
abbrev pub CrashesIn : ℕ → ℕ → Bool → State → Request → State → State → Type 0
CrashesIn last_answer moment inside state request next new =
    ((moment ≡ last_answer) × (inside ≡ false) × Crashes state (risk_between state) new)
    ⊎ (((last_answer < moment) ⊎ IsTrue inside) × Crashes state (risk_of request state next) new)

-- the moment of the last of these events, or the one from which they came
abbrev pub last_moment : ℕ → List Event → ℕ
last_moment start [] = start
last_moment start (event ∷ events) = last_moment event.moment events

module _ (meaning : Meaning) where
  -- A crash before these events, all of which would have come, up to so many failures and this last
  -- state: after the last request, or in the next one.
  abbrev pub CrashBefore : ℕ → ℕ → Bool → ℕ → State → List Event → ℕ → State → State → Type 0
  CrashBefore last_answer moment inside failures state [] end last new =
      (end ≡ failures) × (last ≡ state) × Crashes state (risk_between state) new
  CrashBefore last_answer moment inside failures state (event ∷ later) end last new =
      (failures ≤ event.failures) × (next : State)
      × Step state.mode (setting_of meaning failures event) state event.request event.answer next
      × RunsEvents meaning event.failures next later end last
      × CrashesIn last_answer moment inside state event.request next new

  -- Of the events from a start on, what was answered by a moment happened; a crash comes then,
  -- before the next answer.
  pub record StopsAt (start before : ℕ) (old : State) (events : List Event) (moment : ℕ)
      (inside : Bool)
      (end : ℕ) (last new : State) : Type 0 where
    pub done : List Event
    pub undone : List Event
    pub split : events ≡ done ++ undone
    pub by_then : All (λ event. event.moment ≤ moment) done
    pub not_yet : All (λ event. moment < event.moment) undone
    pub failures : ℕ
    pub state : State
    pub run : RunsEvents meaning before old done failures state
    pub crash : CrashBefore (last_moment start done) moment inside failures state undone end last
        new

-- ---- lives

-- the machine where no store is yet, to be opened with this format
abbrev pub new_state : Format → State
new_state format = record {
  history = [];
  last = 0;
  durable = 0;
  held = [];
  given = [];
  pending = None;
  mode = closed;
  locked = false;
  store = missing;
  format = format;
}

-- how a life ends: it goes on, or a crash cuts it off at this moment, inside a call or not, and the
-- next device has counted so many failures
pub data Ending : Type 0 where
  goes_on : Ending
  crashes : ℕ → Bool → ℕ → Ending

-- the moment at which a life starts, its events, and how it ends
pub record Life : Type 0 where
  pub start : ℕ
  pub events : List Event
  pub ending : Ending

module _ (meaning : Meaning) where
  -- the life runs to its end; what comes after it begins there, or where the crash left it
  abbrev pub LifeLeads : ℕ → ℕ → State → List Event → Ending → ℕ → State → Type 0
  LifeLeads start before old events goes_on after new =
      RunsEvents meaning before old events after new
  LifeLeads start before old events (crashes moment inside counted) after new =
      ((end : ℕ) × (last : State)
      × StopsAt meaning start before old events moment inside end last new)
      × (after ≡ counted)

  -- one life after another
  abbrev pub Lives : ℕ → State → List Life → ℕ → State → Type 0
  Lives before old [] after new = (after ≡ before) × (new ≡ old)
  Lives before old (life ∷ lives) after new = (failures : ℕ) × (next : State)
      × LifeLeads life.start before old life.events life.ending failures next
      × Lives failures next lives after new
