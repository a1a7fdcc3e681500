-- Lives of a store on a device that records its calls: what a report says of its life, and what
-- reports say of lives one after another, with crashes between them.
use Rattle.std.specs.Prelude.{◌≡◌, ◌≤◌, ◌↔◌, ◌⊎◌, ◌+◌, ◌-◌, ◌%◌, ◌==◌, ◌&&◌, ℕ, Bool, false, All, List, [], ◌∷◌, ◌++◌, map, Option, Some, None, unwrap_or, Result, Ok, Err, OnOk, OnErr, IfOk, IfErr, IsTrue, Vec}
use Rattle.std.specs.declared.alloc.Global.{Global}
use Rattle.leveldb_base.specs.declared.cmp.Cmp.{Ghosts as CmpGhosts}
use Rattle.leveldb_base.specs.declared.error.Status.{Status}
use Rattle.leveldb_base.specs.declared.error.StatusCode.TheVariants.{InvalidArgument}
use Rattle.leveldb_env.specs.declared.env.Env.{Ghosts}
use Rattle.leveldb_env.specs.declared.compressor.CompressorList.{CompressorList}
use Rattle.leveldb_env.specs.Compressor.{Codings}
use Rattle.leveldb_env.specs.declared.filter.FilterPolicy.{Ghosts as FilterGhosts}
use Rattle.leveldb_disks.specs.declared.mem_env.record.RecordEnv.{RecordEnv}
use Rattle.leveldb_env.specs.declared.mem_env.picks.Pick.{Pick}
use Rattle.leveldb_base.specs.Error.{IsOutOfMemory}
use Rattle.leveldb_env.specs.Env.{FilesCrashTo}
use Rattle.leveldb_env.specs.Picks.{picked, tails_of}
use Rattle.leveldb_disks.specs.Record.{record_observed, moment_of, fails_in, fails_done, files_in, files_then, CanCrashTo, SameObserved, IsFresh}
use Rattle.rusty_leveldb.specs.declared.shell.commands.Command.{Command}
use Rattle.rusty_leveldb.specs.declared.shell.commands.Reply.{Reply}
use Rattle.rusty_leveldb.specs.declared.shell.crash_runs.Report.{Report}
use Rattle.leveldb_files.specs.Stores.Format.{Format, Meaning, Agrees, format_of}
use Rattle.rusty_leveldb.specs.Machines.State.{State, Opening, Request, open_store, abandon, Answer, done, refused}
use Rattle.leveldb_files.specs.Histories.Holds.{IsHonest}
use Rattle.rusty_leveldb.specs.Machines.Runs as machine
use Rattle.rusty_leveldb.specs.Machines.Runs.{Ending, goes_on, crashes, Lives, new_state}
use Rattle.rusty_leveldb.specs.Engines.Serves.{Represents, Runs, recalls_nothing, IsConversation, refusal_of}
use Rattle.rusty_leveldb.specs.Engines.Engine.{scene, IsStoreName, IsOpening, opening_of}
use Rattle.rusty_leveldb.specs.Programs.Shell.{AreAsked}
use Rattle.leveldb_env.specs.Options.{Boxed}
use Rattle.leveldb_store.specs.Tables.BuildTable.{choices_of}
use Rattle.rusty_leveldb.specs.Engines.Boxes.{InternalOrder, LifeOf}
use Rattle.rusty_leveldb.specs.Programs.RunCalls.{LivesByCalls}

-- ---- a report

-- what a life asks: an opening, and if that is done these requests and at last `abandon`
abbrev pub requests_of : Opening → List Request → Result (Unit {0}) Status → List Request
requests_of opening requests (Ok opened) =
    open_store opening ∷ (requests ++ abandon ∷ [])
requests_of opening requests (Err status) = open_store opening ∷ []

-- what it is answered
abbrev pub answers_of : Result (Unit {0}) Status → List Answer → Answer → List Answer
answers_of (Ok opened) answers last = done ∷ (answers ++ last ∷ [])
answers_of (Err status) answers last = refused (refusal_of status) ∷ []

-- and when; a report leaves out the moments of the opening and of `abandon`
abbrev pub moments_of : Result (Unit {0}) Status → List (ℕ × Reply) → ℕ → ℕ → List ℕ
moments_of (Ok opened) replies first last = first ∷ (map (λ reply. reply.0) replies ++ last ∷ [])
moments_of (Err status) replies first last = first ∷ []

-- The report of a life of these commands that made these requests and had these answers, given at
-- these moments from its start. It leaves out the answer to `abandon`.
pub record IsReportOf (opening : Opening) (commands : List Command) (report : Report)
    (requests : List Request) (answers : List Answer) (moments : List ℕ) : Type 0 where
  pub first : ℕ
  pub last : ℕ
  pub ending : Answer
  -- the requests and answers between the opening and `abandon`
  pub asked : List Request
  pub told : List Answer
  pub are_asked : OnOk report.opened
      (AreAsked commands (map (λ reply. reply.1) report.replies.items) asked told)
  pub requests_are : requests ≡ requests_of opening asked report.opened
  pub answers_are : answers ≡ answers_of report.opened told ending
  pub moments_are : moments ≡ moments_of report.opened report.replies.items first last
  pub no_replies : OnErr report.opened (report.replies.items ≡ [])

module _ {E F : Type 0} (env : Ghosts E F) (store : List ℕ) where
  -- the report of a run of the machine, from this state on, over the environment as it was to what
  -- it is
  pub record IsLife (meaning : Meaning) (from : E) (opening : Opening) (commands : List Command)
      (report : Report) (to : E) (old : State) : Type 0 where
    pub requests : List Request
    pub answers : List Answer
    pub moments : List ℕ
    pub reported : IsReportOf opening commands report requests answers
        (map (λ moment. moment - (env.observed from).moment) moments)
    pub run : Runs store meaning recalls_nothing env.models_moments (scene env None from)
        requests answers moments (scene env None to) old

  -- the same from every state that the disk represents, if the options say of names and ids what
  -- they mean
  abbrev pub IsAlwaysLife : E → Opening → List Command → Report → E → Type 0
  IsAlwaysLife from asked commands report to = (opening : Opening) → IsOpening store asked opening
      → (meaning : Meaning) → Agrees opening.format meaning → (old : State)
      → Represents store meaning recalls_nothing None (env.observed from).disk old
      → IsLife meaning from opening commands report to old

-- ---- what follows a life

-- what a crash at this moment, which has come, leaves of a device by this pick
pub record IsCrash (device : RecordEnv) (moment : ℕ) (pick : Pick) (left : RecordEnv) : Type 0 where
  pub come : moment ≤ moment_of device
  pub stood : (record_observed device).at_moment moment (files_then device moment pick.after)
  pub leaves : FilesCrashTo (files_then device moment pick.after) (files_in left)
  pub files : files_in left ≡ picked (tails_of pick.tails.items)
      (files_then device moment pick.after)
  pub fresh : IsFresh left

-- the same, with no record in a log or manifest that was never written
pub record IsHonestCrash (store : List ℕ) (device : RecordEnv) (moment : ℕ) (pick : Pick)
    (left : RecordEnv) : Type 0 where
  pub crash : IsCrash device moment pick left
  pub honest : IsHonest store (files_then device moment pick.after) (files_in left)

-- the device as a life that began at this moment left it, or, if the life has a crash, what a crash
-- of this kind leaves of that
abbrev pub IsNextDevice : (RecordEnv → ℕ → Pick → RecordEnv → Type 0) → ℕ → Option ℕ → Pick
    → RecordEnv → RecordEnv → Type 0
IsNextDevice Crash start None pick device next = next ≡ device
IsNextDevice Crash start (Some moment) pick device next = Crash device (start + moment) pick next

-- how the machine's life ends, by the moment of its crash from its start; an odd one is inside a
-- call
abbrev pub ending_of : ℕ → Option ℕ → Ending
ending_of start None = goes_on
ending_of start (Some moment) = crashes (start + moment) ((start + moment) % 2 == 1) 0

-- the opening that is asked for, under a name that is a store's or not
abbrev pub with_name : Bool → Opening → Opening
with_name named asked = record asked { fits = named && asked.fits }

-- ---- lives, one after another

module _ {C FP F : Type 0} {B : Boxed} (env : Ghosts RecordEnv F) (cmp : CmpGhosts C)
    (filters : FilterGhosts FP) (codings : CompressorList B.compressors B.compressor → Codings)
    (keys : InternalOrder C) (key_filters : FilterGhosts FP) (store : List ℕ) where
  -- the report of one life on this device, where the call that the life names was chosen to fail, 0
  -- being none
  pub record IsLifeOn (device : RecordEnv) (life : LifeOf C FP B) (report : Report)
      (to : RecordEnv) : Type 0 where
    pub from : RecordEnv
    pub same : SameObserved device from
    pub failing : (fails_in from, fails_done from) ≡ unwrap_or life.fail (0, false)
    pub life_is : IsAlwaysLife env store from (opening_of cmp filters codings life.options)
        life.commands.items report to
    pub calls : LivesByCalls env (choices_of cmp filters keys key_filters codings) store
        life.options (opening_of cmp filters codings life.options) life.commands.items from report
        to

  -- the reports of lives one after another with crashes of this kind, from this device to that
  abbrev pub AreReports : (RecordEnv → ℕ → Pick → RecordEnv → Type 0) → RecordEnv
      → List (LifeOf C FP B) → List Report → RecordEnv → Type 0
  AreReports Crash device [] [] end = end ≡ device
  AreReports Crash device (life ∷ lives) (report ∷ reports) end = (to : RecordEnv)
      × IsLifeOn device life report to
      × (next : RecordEnv) × IsNextDevice Crash (moment_of device) life.moment life.pick to next
      × AreReports Crash next lives reports end
  AreReports Crash device _ _ end = ⊥

  -- the same from an empty device on
  pub record AreReportsTo (Crash : RecordEnv → ℕ → Pick → RecordEnv → Type 0)
      (lives : List (LifeOf C FP B)) (reports : List Report) (end : RecordEnv) : Type 0 where
    pub first : RecordEnv
    pub empty : (name : List ℕ) → files_in first name ≡ None
    pub fresh : IsFresh first
    pub reports_are : AreReports Crash first lives reports end

  -- and up to some device
  abbrev pub AreReportsFromNone : (RecordEnv → ℕ → Pick → RecordEnv → Type 0) → List (LifeOf C FP B)
      → List Report → Type 0
  AreReportsFromNone Crash lives reports = (end : RecordEnv) × AreReportsTo Crash lives reports end

  -- the machine's life of a life and its report, whose moments are from the life's start; it starts
  -- inside no call, at an even moment
  pub record IsLifeOf (named : Bool) (life : LifeOf C FP B) (report : Report)
      (of_machine : machine.Life) : Type 0 where
    pub requests : List Request
    pub answers : List Answer
    pub moments : List ℕ
    pub reported : IsReportOf (with_name named (opening_of cmp filters codings life.options))
        life.commands.items report requests answers moments
    pub asked : IsConversation requests answers
        (map (λ moment. of_machine.start + moment) moments) of_machine.events
    pub ending : of_machine.ending ≡ ending_of of_machine.start life.moment
    pub outside : of_machine.start % 2 ≡ 0

  -- each in turn
  abbrev pub AreLivesOf : Bool → List (LifeOf C FP B) → List Report → List machine.Life → Type 0
  AreLivesOf named [] [] [] = Unit {0}
  AreLivesOf named (life ∷ lives) (report ∷ reports) (one ∷ others) =
      IsLifeOf named life report one × AreLivesOf named lives reports others
  AreLivesOf named _ _ _ = ⊥

  -- the reports of all lives are one run of the machine with its crash rows, from a missing store
  -- on, if the options of all lives say of names and ids what they mean
  abbrev pub AreOneRun : List (LifeOf C FP B) → List Report → Type 0
  AreOneRun lives reports = (format : Format) (named : Bool)
      → (IsTrue named ↔ IsStoreName store)
      → (meaning : Meaning)
      → All (λ life. Agrees (format_of cmp filters codings life.options) meaning) lives
      → (of_machine : List machine.Life) × AreLivesOf named lives reports of_machine
      × (failures : ℕ) × (last : State)
      × Lives meaning 0 (new_state format) of_machine failures last

  -- a life that ran after those before it has a crash that can't be: its moment is still to come,
  -- or no crash leaves what its pick says
  pub record HasNoCrash (lives : List (LifeOf C FP B)) : Type 0 where
    pub before : List (LifeOf C FP B)
    pub life : LifeOf C FP B
    pub others : List (LifeOf C FP B)
    pub split : lives ≡ before ++ life ∷ others
    pub reports : List Report
    pub device : RecordEnv
    pub ran : AreReportsTo IsCrash before reports device
    pub report : Report
    pub to : RecordEnv
    pub life_is : IsLifeOn device life report to
    pub moment : ℕ
    pub crashes : life.moment ≡ Some moment
    pub none : CanCrashTo to (moment_of device + moment) life.pick.after
        (tails_of life.pick.tails.items) → ⊥

  -- what `lives` returns
  pub record ReportsLives (lives : List (LifeOf C FP B))
      (result : Result (Vec Report Global) Status) : Type 0 where
    -- each report is of its life, on the device as the life before it left that, or as the crash of
    -- that life did
    pub reports : IfOk result (λ reports. AreReportsFromNone IsCrash lives reports.items)
    -- if each crash was honest, they are one run of the machine
    pub run : IfOk result
        (λ reports. AreReportsFromNone (IsHonestCrash store) lives reports.items
        → AreOneRun lives reports.items)
    -- each crash is honest that leaves the kept bytes alone
    pub kept : IfOk result
        (λ reports. All (λ life. life.pick.tails.items ≡ []) lives
        → AreReportsFromNone (IsHonestCrash store) lives reports.items)
    -- it fails out of memory, or with `InvalidArgument` for a crash that can't be
    pub error : IfErr result
        (λ e. IsOutOfMemory e ⊎ ((e.code ≡ InvalidArgument) × HasNoCrash lives))
