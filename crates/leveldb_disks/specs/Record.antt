-- What an environment that records its calls reports, and what its calls do.
use Rattle.std.specs.Prelude.{◌≡◌, ◌⊎◌, ◌+◌, ◌-◌, ◌*◌, ◌^◌, ◌==◌, ◌&&◌, ◌||◌, ◌↔◌, ◌≤◌, min, not, ℕ, Bool, true, false, List, nat_le, if◌then◌else◌, Result, OnOk, IfErr, MatchResult}
use Rattle.std.specs.BTreeSet.{contains_text}
use Rattle.leveldb_base.specs.declared.error.Status.{Status}
use Rattle.leveldb_base.specs.declared.error.StatusCode.TheVariants.{IOError}
use Rattle.leveldb_disks.specs.declared.mem_env.journal.Journal.{Journal}
use Rattle.leveldb_disks.specs.declared.mem_env.record.RecordEnv.{RecordEnv}
use Rattle.leveldb_env.specs.Env.{BeforeOrAfter, FilesUnchanged, Files, FilesCrashTo, Observed, Within}
use Rattle.leveldb_base.specs.Error.{IsOutOfMemory}
use Rattle.leveldb_disks.specs.Journal.{FilesWere, where_done, files_at}
use Rattle.leveldb_env.specs.MemEnv.{files_of}
use Rattle.leveldb_env.specs.Picks.{Tails, tails_of, IsAllowed, picked}
use Rattle.leveldb_env.specs.declared.mem_env.picks.Pick.{Pick}

-- ---- a journal

-- what the files were at each moment of a journal
abbrev pub files_were : Journal → ℕ → Files → Type 0
files_were journal = FilesWere (files_of journal.first) journal.calls.items

-- what a journal reports, with the locks
abbrev pub observed_by : Journal → (List ℕ → Bool) → Observed
observed_by journal locked = record {
  disk = record { files = files_of journal.files; locked = locked };
  moment = 2 * journal.count;
  at_moment = files_were journal;
}

-- from the old to the new the files had P, whatever the locks were
abbrev pub Passed : (Files → Type 0) → Journal → Journal → Type 0
Passed P old new = (was now : List ℕ → Bool) → Within P (observed_by old was) (observed_by new now)

-- ---- an environment

-- which file each name has
abbrev pub files_in : RecordEnv → Files
files_in env = files_of env.journal.files

-- which names are locked
abbrev pub locked_in : RecordEnv → List ℕ → Bool
locked_in env = contains_text env.locks

-- twice the calls that were counted
abbrev pub moment_of : RecordEnv → ℕ
moment_of env = 2 * env.journal.count

-- all that it reports
abbrev pub record_observed : RecordEnv → Observed
record_observed env = observed_by env.journal (locked_in env)

-- how many calls the device has failed
abbrev pub failures_of : RecordEnv → ℕ
failures_of env = env.failures

-- how many calls there are to the chosen one; 0 where none is chosen
abbrev pub fails_in : RecordEnv → ℕ
fails_in env = env.fails_in

-- whether the chosen call's change is made
abbrev pub fails_done : RecordEnv → Bool
fails_done env = env.fails_done

-- what is reported stays
pub record SameObserved (old new : RecordEnv) : Type 0 where
  -- the files
  pub files : files_in new ≡ files_in old
  -- the locks
  pub locks : locked_in new ≡ locked_in old
  -- the moment
  pub moment : moment_of new ≡ moment_of old
  -- what the files were at each moment
  pub at_moment : (m : ℕ) (files : Files) → (record_observed new).at_moment m files
      ↔ (record_observed old).at_moment m files
  -- and the count of failures
  pub failures : failures_of new ≡ failures_of old

-- all but the count of failed calls stays
pub record SameButFailures (old new : RecordEnv) : Type 0 where
  -- the calls and the files
  pub journal : new.journal ≡ old.journal
  -- the locks
  pub locks : new.locks ≡ old.locks
  -- how many calls there are to the chosen one
  pub fails_in : new.fails_in ≡ old.fails_in
  -- and whether its change is made
  pub fails_done : fails_done new ≡ fails_done old

-- ---- which calls the device fails

-- the last call that is counted was made
abbrev pub is_past : RecordEnv → Bool
is_past env = nat_le (2 ^ 62) (env.journal.count + 1)

-- the next call is the chosen one
abbrev pub is_chosen : RecordEnv → Bool
is_chosen env = not (is_past env) && (env.fails_in == 1)

-- the change that it asks for is made all the same
abbrev pub is_chosen_made : RecordEnv → Bool
is_chosen_made env = is_chosen env && env.fails_done

-- one failure more, as far as is counted
abbrev pub one_more_failure : ℕ → ℕ
one_more_failure failures = min (failures + 1) (2 ^ 64 - 1)

-- failed for a cause of the call's own, as out of memory, which comes before the device's failure
pub record IsOwnError (Own : Status → Type 0) (old new : RecordEnv) (e : Status) : Type 0 where
  -- the cause is the call's own
  pub cause : Own e
  -- the call was counted
  pub counted : is_past old ≡ false
  -- the device would have failed it, but memory ran out before
  pub chosen : is_chosen old ≡ true → IsOutOfMemory e
  -- no failure of the device is counted
  pub failures : failures_of new ≡ failures_of old

-- failed by the device, as the chosen call or past the last
pub record IsDeviceError (old new : RecordEnv) (e : Status) : Type 0 where
  -- `IOError`
  pub code : e.code ≡ IOError
  -- the call was the chosen one, or past the last
  pub chosen : (is_past old || is_chosen old) ≡ true
  -- and the failure is counted
  pub failures : failures_of new ≡ one_more_failure (failures_of old)

-- A call is counted, unless the last one was made before. It returns an Err where the device fails
-- it.
pub record CountsCall {T : Type 0} (Own : Status → Type 0) (old new : RecordEnv)
    (result : Result T Status) : Type 0 where
  -- each counted call takes two moments
  pub moment : moment_of new ≡ (if is_past old then moment_of old else moment_of old + 2)
  -- and is one less to the chosen one
  pub fails_in : fails_in new ≡ (if is_past old then fails_in old else fails_in old - 1)
  -- the choice for that one stays
  pub fails_done : fails_done new ≡ fails_done old
  -- an Ok is a call that the device doesn't fail, and no failure is counted
  pub ok : OnOk result (((is_past old || is_chosen old) ≡ false)
      × (failures_of new ≡ failures_of old))
  -- an Err is the call's own, or the device's
  pub err : IfErr result (λ e. IsOwnError Own old new e ⊎ IsDeviceError old new e)

-- ---- what the calls do to the files

-- a call that asks for no change
pub record ChangesNoFile (old new : RecordEnv) : Type 0 where
  -- the files are the same
  pub files : files_in new ≡ files_in old
  -- and were so at each moment of the call
  pub time : Within (FilesUnchanged (files_in old)) (record_observed old) (record_observed new)

-- inside the call the files were these
abbrev pub FilesWereInside : Files → RecordEnv → RecordEnv → Type 0
FilesWereInside files old new = files_were new.journal (moment_of old + 1) files

-- A call that asks for a change. An Ok has made it. An Err has made it where it may be made and is
-- to be, and nothing if it is out of memory.
pub record RequestsChange {T : Type 0} (change : Files → Files) (may_be_made : Bool)
    (old new : RecordEnv) (result : Result T Status) : Type 0 where
  -- an Ok has made the change
  pub ok : OnOk result (files_in new ≡ change (files_in old))
  -- an Err has made it or not, as was chosen, and never when out of memory
  pub err : IfErr result
      (λ e. (IsOutOfMemory e × (files_in new ≡ files_in old))
      ⊎ (files_in new ≡ where_done (may_be_made && is_chosen_made old) change (files_in old)))
  -- at each moment of the call the files were as before or as after it
  pub time : Within (BeforeOrAfter change (files_in old)) (record_observed old)
      (record_observed new)
  -- inside a call that isn't out of memory they may have changed already
  pub inside : let at_last = where_done may_be_made change (files_in old) in MatchResult result
      (λ _. FilesWereInside at_last old new)
      (λ e. IsOutOfMemory e ⊎ (is_past old ≡ true) ⊎ FilesWereInside at_last old new)

-- ---- what a crash leaves of a moment

-- the files at a moment, on this side of a change in flight; an append in flight is whole
abbrev pub files_then : RecordEnv → ℕ → Bool → Files
files_then env moment side = files_at
    (files_of env.journal.first) env.journal.calls.items moment side

-- a crash at a moment that has come may leave these tails of the files on this side
pub record CanCrashTo (env : RecordEnv) (moment : ℕ) (side : Bool) (tails : Tails) : Type 0 where
  -- the moment has come
  pub come : moment ≤ moment_of env
  -- the files of that side may have such tails
  pub allowed : IsAllowed (files_then env moment side) tails

-- whatever a crash at a moment that has come leaves, it leaves by such a choice
abbrev pub CrashesByChoice : RecordEnv → ℕ → Type 0
CrashesByChoice env moment = (files left : Files) → moment ≤ moment_of env
    → (record_observed env).at_moment moment files → FilesCrashTo files left → (side : Bool)
    × (tails : Tails) × CanCrashTo env moment side tails
    × (left ≡ picked tails (files_then env moment side))

-- a disk of which no call was made yet
pub record IsFresh (env : RecordEnv) : Type 0 where
  -- no call is counted
  pub moment : moment_of env ≡ 0
  -- no name is locked
  pub free : (name : List ℕ) → locked_in env name ≡ false
  -- no failure is counted
  pub failures : failures_of env ≡ 0
  -- and no call is chosen to fail
  pub fails_in : fails_in env ≡ 0

-- a crash at a moment may leave what is left: the disk that it leaves by this choice, fresh again
pub record IsCrashOfRecord (env : RecordEnv) (moment : ℕ) (pick : Pick) (left : RecordEnv)
    : Type 0 where
  -- a crash may make this choice
  pub allowed : CanCrashTo env moment pick.after (tails_of pick.tails.items)
  -- the files of its side were there at the moment
  pub observed : (record_observed env).at_moment moment (files_then env moment pick.after)
  -- each file has its kept bytes and the tail that was picked
  pub files : files_in left ≡ picked (tails_of pick.tails.items) (files_then env moment pick.after)
  -- which a crash may leave of it
  pub crashed : FilesCrashTo (files_then env moment pick.after) (files_in left)
  -- and the environment begins anew
  pub fresh : IsFresh left
