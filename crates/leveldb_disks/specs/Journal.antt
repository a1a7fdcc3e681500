-- The files at each moment of a run of calls, rebuilt from the calls that asked for a change.
use Rattle.std.specs.Prelude.{◌≡◌, ◌⊎◌, ◌/◌, ◌%◌, ◌+◌, ◌==◌, ◌||◌, ℕ, List, filter, fold, nat_le, if◌then◌else◌, Option, None, Some, is_some, Bool, true, false, String, string_bytes, Vec, Result, Ok, IfOk, OnOk, OnErr}
use Rattle.std.specs.Borrow.{Bor}
use Rattle.std.specs.List.{find, list_all}
use Rattle.std.specs.declared.alloc.Global.{Global}
use Rattle.leveldb_base.specs.declared.error.Status.{Status}
use Rattle.leveldb_base.specs.Error.{IsOutOfMemory}
use Rattle.leveldb_disks.specs.declared.mem_env.journal.Call.{Call}
use Rattle.leveldb_disks.specs.declared.mem_env.journal.Change.{Change}
use Rattle.leveldb_disks.specs.declared.mem_env.journal.Change.TheVariants.{Emptied, Created, Extended, Synced, Deleted, Renamed, Cleared}
use Rattle.leveldb_env.specs.MemEnv.{IsNoFileOrMemory}
use Rattle.leveldb_env.specs.Env.{Files, emptied, created, extended, synced, deleted, renamed, without_folder}

module _ {N B : Type 0} where
  -- whether a change may be made though its call fails or is cut off: all but a sync
  abbrev pub may_be_made : Change N B → Bool
  may_be_made (Emptied name) = true
  may_be_made (Created name) = true
  may_be_made (Extended name bytes) = true
  may_be_made (Synced name) = false
  may_be_made (Deleted name) = true
  may_be_made (Renamed from to) = true
  may_be_made (Cleared folder) = true

  -- whether it's an append
  abbrev pub is_append : Change N B → Bool
  is_append (Emptied name) = false
  is_append (Created name) = false
  is_append (Extended name bytes) = true
  is_append (Synced name) = false
  is_append (Deleted name) = false
  is_append (Renamed from to) = false
  is_append (Cleared folder) = false

module _ {N B : Type 0} (name_of : N → List ℕ) (bytes_of : B → List ℕ) where
  -- what a change makes of the files
  abbrev pub changed : Change N B → Files → Files
  changed (Emptied name) files = emptied (name_of name) files
  changed (Created name) files = created (name_of name) files
  changed (Extended name bytes) files = extended (name_of name) (bytes_of bytes) files
  changed (Synced name) files = synced (name_of name) files
  changed (Deleted name) files = deleted (name_of name) files
  changed (Renamed from to) files = renamed (name_of from) (name_of to) files
  changed (Cleared folder) files = without_folder (name_of folder) files

-- a change as a call asks for it
abbrev pub Requested : Type 0
Requested = Change (Bor (List ℕ)) (Bor (List ℕ))

-- what a call asks for
abbrev pub requested : Requested → Files → Files
requested change files = changed (λ name. name.now) (λ bytes. bytes.now) change files

-- the name of the file that a change is of
abbrev pub name_in : Requested → List ℕ
name_in (Emptied name) = name.now
name_in (Created name) = name.now
name_in (Extended name bytes) = name.now
name_in (Synced name) = name.now
name_in (Deleted name) = name.now
name_in (Renamed from to) = from.now
name_in (Cleared folder) = folder.now

-- whether the file that a change is of is there
abbrev pub finds_file : Requested → Files → Bool
finds_file (Emptied name) files = true
finds_file (Created name) files = true
finds_file (Extended name bytes) files = is_some (files name.now)
finds_file (Synced name) files = is_some (files name.now)
finds_file (Deleted name) files = is_some (files name.now)
finds_file (Renamed from to) files = is_some (files from.now)
finds_file (Cleared folder) files = true

-- why a call that asks for a change fails, if the device makes it
abbrev pub IsChangeError : Requested → Files → Status → Type 0
IsChangeError (Emptied name) files = IsOutOfMemory
IsChangeError (Created name) files = IsOutOfMemory
IsChangeError (Extended name bytes) files = IsNoFileOrMemory files name.now
IsChangeError (Synced name) files = IsNoFileOrMemory files name.now
IsChangeError (Deleted name) files = IsNoFileOrMemory files name.now
IsChangeError (Renamed from to) files = IsNoFileOrMemory files from.now
IsChangeError (Cleared folder) files = IsOutOfMemory

-- a change where it is done
abbrev pub where_done : Bool → (Files → Files) → Files → Files
where_done done change files = if done then change files else files

-- A change is made of the files where it is done. The result says whether the file that it is of is
-- there. Where that isn't so, and at an Err, the files stay.
pub record MakesChange {E : Type 0} (change : Requested) (done : Bool) (old : Files)
    (result : Result Bool E) (new : Files) : Type 0 where
  -- where it is to be done, the result says whether the file is there
  pub there : IfOk result (λ there. done ≡ true → there ≡ finds_file change old)
  -- the change is made where it is to be done
  pub ok : OnOk result (new ≡ where_done done (requested change) old)
  -- a missing file changes nothing
  pub missing : result ≡ Ok false → new ≡ old
  -- nor does an Err
  pub err : OnErr result (new ≡ old)

-- what a call asked for
abbrev pub noted : Change (String Global) (Vec ℕ Global) → Files → Files
noted change files = changed string_bytes (λ bytes. bytes.items) change files

-- what a call left of the files
abbrev pub after : Files → Call → Files
after files call = where_done call.done (noted call.change) files

-- the files after the first n calls
abbrev pub files_after_calls : Files → List Call → ℕ → Files
files_after_calls first calls n = fold after first (filter (λ call. nat_le call.number n) calls)

-- what a call may make of the files that is cut off
abbrev pub cut_off : Change (String Global) (Vec ℕ Global) → Files → Files
cut_off change = where_done (may_be_made change) (noted change)

-- the same of a call that asked for nothing
abbrev pub cut_off_if : Option Call → Files → Files
cut_off_if None files = files
cut_off_if (Some call) files = cut_off call.change files

-- the call after the first n, if it asked for a change
abbrev pub call_after : List Call → ℕ → Option Call
call_after calls n = find (λ call. call.number == n + 1) calls

-- what that call may make of the files
abbrev pub files_inside : Files → List Call → ℕ → Files
files_inside first calls n = cut_off_if (call_after calls n) (files_after_calls first calls n)

-- Moment 2n is after the first n calls. Inside the next one, at 2n + 1, what it asks for may be
-- made too.
abbrev pub FilesWere : Files → List Call → ℕ → Files → Type 0
FilesWere first calls moment files = (files ≡ files_after_calls first calls (moment / 2))
    ⊎ ((moment % 2 ≡ 1) × (files ≡ files_inside first calls (moment / 2)))

-- ---- one side of a moment

-- this side of a change in flight, but an append is whole
abbrev pub side_of : Bool → Option Call → Files → Files
side_of side None files = files
side_of side (Some call) files = where_done (side || is_append call.change)
    (cut_off call.change) files

-- the files at a moment, on this side of a change in flight
abbrev pub files_at : Files → List Call → ℕ → Bool → Files
files_at first calls moment side = where_done (moment % 2 == 1)
    (side_of side (call_after calls (moment / 2))) (files_after_calls first calls (moment / 2))

-- no call is past the first n
abbrev pub are_within : ℕ → List Call → Bool
are_within n calls = list_all (λ call. nat_le call.number n) calls
