-- What the program does: it reads commands, runs them, and writes the replies, or repairs a store.
use Rattle.std.specs.Prelude.{◌≡◌, ◌⊎◌, ◌<◌, ◌≤◌, ◌^◌, ℕ, List, [], ◌∷◌, ◌++◌, length, map, Option, None, Result, Ok, IfSome, true, String, string_bytes, false, codes}
use Rattle.std.specs.Io.KnownBytes.{Appends}
use Rattle.std.specs.declared.alloc.Global.{Global}
use Rattle.std.specs.declared.io.Read.{Ghosts as ReadGhosts}
use Rattle.std.specs.declared.io.Write.{Ghosts as WriteGhosts}
use Rattle.leveldb_base.specs.Cmp.{bytewise}
use Rattle.leveldb_base.specs.contracts.cmp.DefaultCmp.{the_row as default_row}
use Rattle.leveldb_base.specs.contracts.cmp.DefaultCmpCmp.TheImpl as default_cmp
use Rattle.leveldb_base.specs.contracts.cmp.DefaultCmpUserCmp.TheImpl as default_user
use Rattle.leveldb_base.specs.contracts.cmp.internal.InternalKeyCmpCmp.TheImpl as internal_keys
use Rattle.leveldb_base.specs.declared.cmp.Cmp.{Ghosts as CmpGhosts}
use Rattle.leveldb_base.specs.declared.cmp.DefaultCmp.{DefaultCmp}
use Rattle.leveldb_base.specs.declared.cmp.internal.InternalKeyCmp.{InternalKeyCmp}
use Rattle.leveldb_base.specs.declared.error.Status.{Status}
use Rattle.leveldb_env.specs.contracts.filter.bloom.BloomPolicy.{the_row as bloom_row}
use Rattle.leveldb_env.specs.contracts.filter.bloom.BloomPolicyFilterPolicy.TheImpl as bloom
use Rattle.leveldb_env.specs.contracts.filter.internal.InternalFilterPolicyFilterPolicy.TheImpl as internal_filters
use Rattle.leveldb_env.specs.declared.env.Env.{Ghosts}
use Rattle.leveldb_env.specs.declared.filter.FilterPolicy.{Ghosts as FilterGhosts}
use Rattle.leveldb_env.specs.Bloom.{bloom_matches}
use Rattle.leveldb_env.specs.Compressor.{plain_codings}
use Rattle.leveldb_env.specs.Options.{Boxed, HasDefaultChoices, OptionsOf}
use Rattle.leveldb_env.specs.declared.infolog.Logger.{Logger}
use Rattle.leveldb_store.specs.Tables.BuildTable.{TableChoices}
use Rattle.rusty_leveldb.specs.declared.shell.commands.Command.{Command}
use Rattle.rusty_leveldb.specs.declared.shell.commands.Reply.{Reply}
use Rattle.rusty_leveldb.specs.declared.shell.program.Fault.{Fault}
use Rattle.rusty_leveldb.specs.declared.shell.program.Fault.TheVariants as fault
use Rattle.rusty_leveldb.specs.declared.shell.program.Task.{Task}
use Rattle.rusty_leveldb.specs.declared.shell.program.Task.TheVariants as task
use Rattle.rusty_leveldb.specs.declared.shell.program.Way.{Way}
use Rattle.rusty_leveldb.specs.declared.shell.program.Way.TheVariants as way
use Rattle.rusty_leveldb.specs.Programs.Language.{IsScript, IsBadLine, reply_lines}
use Rattle.rusty_leveldb.specs.Machines.State.{Opening}
use Rattle.rusty_leveldb.specs.Repairs.Repair.{Repairs}
use Rattle.rusty_leveldb.specs.Programs.RunAlone.{HasReadAlone}
use Rattle.rusty_leveldb.specs.Programs.RunCalls.{RunsByCalls}
use Rattle.rusty_leveldb.specs.Programs.Shell.{HasRun}
use Rattle.rusty_leveldb.specs.Engines.Witness.{stored}
use Rattle.rusty_leveldb.specs.Programs.Story.{SaysRun}

-- The arguments name a folder, and what is done there: a single one is the folder, after
-- `--read-only` its store is read alone, and after `--repair` it is repaired.
abbrev pub NamesFolder : List (String Global) → Task → List ℕ → Type 0
NamesFolder args (task.Run way.Whole) folder = map string_bytes args ≡ folder ∷ []
NamesFolder args (task.Run way.Alone) folder =
    map string_bytes args ≡ codes "--read-only" ∷ folder ∷ []
NamesFolder args task.Repair folder = map string_bytes args ≡ codes "--repair" ∷ folder ∷ []

-- they name no folder so
abbrev pub NamesNoFolder : List (String Global) → Type 0
NamesNoFolder args = (one : Task) (folder : List ℕ) → NamesFolder args one folder → ⊥

-- they ask for a run of commands
abbrev pub AskForRun : List (String Global) → Type 0
AskForRun args = (one : Way) × (folder : List ℕ) × NamesFolder args (task.Run one) folder

-- they ask for a repair
abbrev pub AskForRepair : List (String Global) → Type 0
AskForRepair args = (folder : List ℕ) × NamesFolder args task.Repair folder

-- the status that a fault ends the program with
abbrev pub status_of : Fault → ℕ
status_of fault.Usage = 2
status_of (fault.BadLine number) = 2
status_of fault.TooLong = 2
status_of (fault.Unread status) = 1
status_of (fault.Refused status) = 1

-- the program stopped since its input wasn't read
abbrev pub IsReadingFault : Fault → Type 0
IsReadingFault one = (status : Status) × (one ≡ fault.Unread status)

-- A fault is the input's, whose bytes may be known: this line is its first that is no command, or
-- it has more than 2^26 bytes; or reading it failed, or the memory for that.
abbrev pub IsInputFault : Option (List ℕ) → Fault → Type 0
IsInputFault input fault.Usage = ⊥
IsInputFault input (fault.BadLine number) = IfSome input (λ bytes. IsBadLine bytes number)
IsInputFault input fault.TooLong = IfSome input (λ bytes. 2 ^ 26 < length bytes)
IsInputFault input (fault.Unread status) = Unit {0}
IsInputFault input (fault.Refused status) = ⊥

-- a fault is the arguments', which name no folder, or the input's, or a call was refused
abbrev pub IsFault : List (String Global) → Option (List ℕ) → Fault → Type 0
IsFault args input fault.Usage = NamesNoFolder args
IsFault args input (fault.BadLine number) = IsInputFault input (fault.BadLine number)
IsFault args input fault.TooLong = IsInputFault input fault.TooLong
IsFault args input (fault.Unread status) = IsInputFault input (fault.Unread status)
IsFault args input (fault.Refused status) = Unit {0}

-- The program stopped for such a fault; and where the status is 2, it left the environment and its
-- output as they were.
abbrev pub StopsFor : {E O : Type 0} → List (String Global) → Option (List ℕ) → E → O → E → O
    → Fault → Type 0
StopsFor args input from out to written fault = IsFault args input fault
    × (status_of fault ≡ 2 → (to ≡ from) × (written ≡ out))

-- the program wasn't asked rightly
abbrev pub IsMisasked : List (String Global) → Option (List ℕ) → Type 0
IsMisasked args input = (why : Fault) × (status_of why ≡ 2) × IsFault args input why

-- the input is a text of these commands of at most 2^26 bytes, where its bytes are known
abbrev pub IsInput : Option (List ℕ) → List Command → Type 0
IsInput input commands = (text : List ℕ) × IfSome input (λ bytes. text ≡ bytes)
    × (length text ≤ 2 ^ 26) × IsScript text commands

-- the input's bytes are known, and one of its lines is no command, or it is too long
abbrev pub IsBadInput : Option (List ℕ) → Type 0
IsBadInput input = (commands : List Command) → IsInput input commands → ⊥

-- What the program opens a store with: LevelDB's order of bytes, its filters with ten bits a key,
-- and blocks stored as they are; a missing store is made.
abbrev pub ldb_opening : Opening
ldb_opening = record {
  format = record {
    order = bytewise;
    order_name = codes "leveldb.BytewiseComparator";
    codings = plain_codings;
    policy_name = codes "leveldb.BuiltinBloomFilter2";
    matches = bloom_matches;
  };
  create_if_missing = true;
  error_if_exists = false;
  fits = true;
  compresses = true;
}

-- its order of internal keys
abbrev pub ldb_keys : CmpGhosts (InternalKeyCmp DefaultCmp)
ldb_keys = internal_keys.ghosts default_row default_user.ghosts default_user.dict default_cmp.ghosts
    default_cmp.dict

-- its filters of internal keys
abbrev pub ldb_filters : FilterGhosts ℕ
ldb_filters = internal_filters.ghosts bloom_row bloom.ghosts bloom.dict

-- What the program makes tables with: these, with ten bits a key, and blocks of 4096 bytes, stored
-- as they are, with a restart point every 16 entries.
abbrev pub ldb_choices : TableChoices ldb_keys ldb_filters
ldb_choices = record {
  format = ldb_opening.format;
  cmp = record { 0 = record {} };
  policy = 10;
  id = 0;
  block_size = 4096;
  restarts = 16;
}

-- ---- how the program runs commands

-- a fact where a store is opened to be written to, too
abbrev pub OnWhole : Way → Type 0 → Type 0
OnWhole way.Whole fact = fact
OnWhole way.Alone fact = Unit {0}

module _ (B : Boxed) (log : Option (Logger B.sinks B.sink)) where
  -- The program's options: the default ones, but for this log. `choices` says what tables options
  -- make: whatever became of the log, they are made with the program's choices.
  pub record AreLdbOptions (choices : OptionsOf DefaultCmp ℕ B → TableChoices ldb_keys ldb_filters)
      (options : OptionsOf DefaultCmp ℕ B) : Type 0 where
    pub log_is : options.log ≡ log
    pub defaults : HasDefaultChoices (record options { log = None })
    pub tables : (now : Option (Logger B.sinks B.sink))
        → choices (record options { log = now }) ≡ ldb_choices

  -- a run of commands by its calls, over a store that is opened with such options
  abbrev pub RunsByDefault : {E F : Type 0} → Ghosts E F → List ℕ → List Command → E → List Reply
      → Result (Unit {0}) Status → E → Type 0
  RunsByDefault env folder commands from given ended to =
      (choices : OptionsOf DefaultCmp ℕ B → TableChoices ldb_keys ldb_filters)
      × (options : OptionsOf DefaultCmp ℕ B) × AreLdbOptions choices options
      × RunsByCalls {B = B} env choices folder options ldb_opening commands from given ended to

-- the types of what the program's options own in boxes, by that of their log's sink: no compressor
-- is in one
abbrev pub ldb_boxes : (S : Type 0) → (S → Type 0) → Boxed
ldb_boxes S sink = record {
  sinks = S;
  compressors = ⊥;
  sink = sink;
  compressor = λ none. ⊥;
}

module _ {E F : Type 0} (env : Ghosts E F) where
  -- a run of commands over the store in a folder, which is opened this way
  abbrev pub HasRunBy : Way → List ℕ → Opening → List Command → E → List Reply
      → Result (Unit {0}) Status → E → Type 0
  HasRunBy way.Whole folder asked commands from given ended to =
      HasRun env folder asked commands from given ended to
  HasRunBy way.Alone folder asked commands from given ended to =
      HasReadAlone env folder asked commands from given ended to

  -- a repair of the store in a folder, as it is asked for, whose tables are made by the program's
  -- choices
  abbrev pub HasRepaired : List ℕ → Opening → E → Result (Unit {0}) Status → E → Type 0
  HasRepaired folder asked from ended to =
      Repairs env folder asked from ldb_choices ended to

  -- the store in a folder was repaired, and the output grew by the line that says so
  abbrev pub IsRepairAnswered : List ℕ → E → E → Option (List ℕ) → Option (List ℕ) → Type 0
  IsRepairAnswered folder from to held holds = HasRepaired folder ldb_opening from (Ok tt) to
      × Appends held holds (codes "repaired" ++ 10 ∷ [])

-- ---- what the program does with this log

module _ {E F S : Type 0} {sink : S → Type 0} (env : Ghosts E F) (log : Option (Logger S sink))
  where
    -- The program ran commands over the store in a folder. Where that isn't read alone, the replies
    -- are a story of the headline; and each command is one call of the engine that the calls before
    -- it left, and its reply tells that call's result: so a refusal has the call's own reason.
    abbrev pub HasPlayed : Way → List ℕ → List Command → E → List Reply → Result (Unit {0}) Status
        → E → Type 0
    HasPlayed one folder commands from given ended to =
        OnWhole one
        (SaysRun env stored folder ldb_opening.format commands from given ended to)
        × HasRunBy env one folder ldb_opening commands from given ended to
        × OnWhole one (RunsByDefault (ldb_boxes S sink) log env folder commands from given ended to)

    -- the commands were run in a folder, each was replied to, and the output grew by the replies'
    -- lines
    abbrev pub IsPlayed : Way → List ℕ → List Command → E → E → Option (List ℕ) → Option (List ℕ)
        → Type 0
    IsPlayed one folder commands from to held holds =
        (given : List Reply) × (length given ≡ length commands)
        × HasPlayed one folder commands from given (Ok tt) to
        × Appends held holds (reply_lines given)

    -- the arguments name a folder, and the commands that the input encodes were run in it; or its
    -- store was repaired
    abbrev pub IsAnswered : List (String Global) → E → E → Option (List ℕ) → Option (List ℕ)
        → Option (List ℕ) → Type 0
    IsAnswered args from to input held holds =
        ((one : Way) × (folder : List ℕ) × NamesFolder args (task.Run one) folder
        × (commands : List Command) × IsInput input commands
        × IsPlayed one folder commands from to held holds)
        ⊎ ((folder : List ℕ) × NamesFolder args task.Repair folder
        × IsRepairAnswered env folder from to held holds)

    -- the program left the environment as it was, or it ran the commands that the input encodes in
    -- the folder that the arguments name, or its store is as a repair leaves it
    abbrev pub IsStopped : List (String Global) → E → E → Option (List ℕ) → Type 0
    IsStopped args from to input = (to ≡ from)
        ⊎ ((one : Way) × (folder : List ℕ) × NamesFolder args (task.Run one) folder
        × (commands : List Command) × IsInput input commands
        × (given : List Reply) × (ended : Result (Unit {0}) Status)
        × HasPlayed one folder commands from given ended to)
        ⊎ ((folder : List ℕ) × NamesFolder args task.Repair folder
        × (ended : Result (Unit {0}) Status) × HasRepaired env folder ldb_opening from ended to)

    -- What the program did, by the status with which it ended: with these arguments, over this
    -- environment, its input and its output, which it left so.
    pub record EndsProgram {I O : Type 0} (reads : ReadGhosts I) (writes : WriteGhosts O)
        (args : List (String Global)) (from : E) (input : I) (out : O) (status : ℕ) (to : E)
        (rest : I) (written : O) : Type 0 where
      -- 0: all was answered and written
      pub answered : status ≡ 0 → IsAnswered args from to (reads.remaining input)
          (writes.contents out) (writes.contents written)
      -- 1: a call failed
      pub stopped : status ≡ 1 → IsStopped args from to (reads.remaining input)
      -- 2: nothing was done or written, and the arguments, a line or the input's length is wrong
      pub untouched : status ≡ 2 → (to ≡ from) × (written ≡ out)
      pub misasked : status ≡ 2 → IsMisasked args (reads.remaining input)
      -- it ends with one of the three
      pub statuses : status ≤ 2

module _ {E F : Type 0} (env : Ghosts E F) where
  -- What it looks at before it opens a store: its arguments, and then its input.
  pub record ChecksInput {I O : Type 0} (reads : ReadGhosts I) (args : List (String Global))
      (from : E) (input : I) (out : O) (status : ℕ) (to : E) (rest : I) (written : O) : Type 0 where
    -- where the arguments name no folder, the status is 2
    pub usage : NamesNoFolder args → status ≡ 2
    -- where a line of the input is no command, or it is too long, nothing is done or written, and
    -- the status is that of such a fault: 2, or 1 where reading failed, or the memory for that
    pub bad : AskForRun args → IsBadInput (reads.remaining input) → (why : Fault)
        × IsInputFault (reads.remaining input) why × (status ≡ status_of why)
        × (to ≡ from) × (written ≡ out)
    -- a repair reads no input
    pub unread : AskForRepair args → rest ≡ input
