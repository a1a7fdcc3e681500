-- What making room in the memtable returns and leaves, and why it fails; and deletions whose
-- failures are a line for a sink, and no error.
use Rattle.std.specs.Prelude.{◌≡◌, ◌≢◌, ◌≤◌, ◌<◌, ◌-◌, ◌^◌, ◌⊎◌, ℕ, List, [], Option, None, Some, Result, Ok, Err, IfErr, OnErr, OnOk, IsTrue, is_some, map}
use Rattle.std.specs.declared.cmp.Ordering.{Ordering}
use Rattle.leveldb_base.specs.Entries.{internal_pair}
use Rattle.leveldb_base.specs.Error.{IsOutOfMemory}
use Rattle.leveldb_base.specs.History.{Entry}
use Rattle.leveldb_base.specs.declared.cmp.Cmp.{Ghosts as CmpGhosts}
use Rattle.leveldb_base.specs.declared.error.Status.{Status}
use Rattle.leveldb_base.specs.declared.error.StatusCode.TheVariants.{Corruption}
use Rattle.leveldb_env.specs.Env.{Run, SameLocks}
use Rattle.leveldb_env.specs.Options.{Boxed, OptionsOf}
use Rattle.leveldb_env.specs.declared.env.Env.{Ghosts}
use Rattle.leveldb_env.specs.declared.filter.FilterPolicy.{Ghosts as FilterGhosts}
use Rattle.leveldb_mem.specs.MemTable.{Kept, memory_of_entries}
use Rattle.leveldb_store.specs.Tables.BuildTable.{IsNotBuilt, TableChoices}
use Rattle.leveldb_files.specs.Stores.Format.{Agrees, Format, Meaning}
use Rattle.leveldb_store.specs.Keeping.OpenStore.{IsUnbroken, OpenStoreValue}
use Rattle.leveldb_store.specs.Writing.Switch.{AreFileNumbersTooFew, RemovesNoOther}
use Rattle.leveldb_store.specs.Keeping.Written.{IsWritten, KeepsWritten, SparesRest}

-- ---- why a call fails that may tell some failures to a sink alone

-- between these counts of failed calls one was counted, or the count was at its greatest
abbrev pub HasFailed : ℕ → ℕ → Type 0
HasFailed before after = (before < after) ⊎ (before ≡ 2 ^ 64 - 1)

-- The count of failed calls doesn't fall. An Err is excused, or a call of the device failed. A call
-- may return Ok though some call of the device failed, as one that deletes a file which isn't
-- needed.
pub record FailsFor {T : Type 0} (Excused : Status → Type 0) (before after : ℕ)
    (result : Result T Status) : Type 0 where
  pub later : before ≤ after
  pub cause : IfErr result (λ e. Excused e ⊎ HasFailed before after)

-- nothing but the sink of the options' log has changed, which may have been given lines
pub record ChangesLoggerOnly {C FP : Type 0} {B : Boxed} (before after : OptionsOf C FP B)
    : Type 0 where
  pub rest : after ≡ record before { log = after.log }
  -- there is one if there was one
  pub sink : is_some after.log ≡ is_some before.log

-- ---- room

-- there are entries, and they take this much memory or more
abbrev pub AreFull : ℕ → List Entry → Type 0
AreFull limit entries = (entries ≡ [] → ⊥) × (limit ≤ memory_of_entries entries)

-- so it is with those of a memtable
abbrev pub IsFull : ℕ → Kept → Type 0
IsFull limit kept = AreFull limit kept.entries

-- no table is built of the entries of a memtable that is there
abbrev pub AreEntriesNotBuilt : {D FP : Type 0} {order : CmpGhosts D} {filters : FilterGhosts FP}
    → TableChoices order filters → Option Kept → Status → Type 0
AreEntriesNotBuilt choices None status = ⊥
AreEntriesNotBuilt choices (Some kept) status =
    IsNotBuilt choices (map internal_pair kept.entries) status

module _ {E F C : Type 0} (env : Ghosts E F) (cmp : List ℕ → List ℕ → Ordering)
    (old : OpenStoreValue C) (from : E) where
  -- `Corruption`, since a file of the store is missing: a store that is written has its files,
  -- where the format's names and ids mean what they say
  abbrev pub IsFileLost : Format → Status → Type 0
  IsFileLost format status = (status.code ≡ Corruption) × (IsTrue env.models_disk
      → (meaning : Meaning) → Agrees format meaning
      → IsWritten cmp meaning old (env.observed from).disk.files → ⊥)

  -- Why no room is made, where the device didn't fail: out of memory; the numbers of files are too
  -- few for two tables and a log; no table is built of the entries of the memtable, or of those of
  -- the immutable one; or a file of the store is lost.
  abbrev pub FailsToMakeRoom : {D FP : Type 0} {order : CmpGhosts D} {filters : FilterGhosts FP}
      → TableChoices order filters → Status → Type 0
  FailsToMakeRoom choices status = IsOutOfMemory status
      ⊎ AreFileNumbersTooFew old.set.next_file 3 status
      ⊎ AreEntriesNotBuilt choices (Some old.mem) status
      ⊎ AreEntriesNotBuilt choices old.imm status ⊎ IsFileLost choices.format status

  -- Room is made in the memtable of a store that isn't broken: a memtable that is full becomes a
  -- table, and a new log is begun.
  pub record MakesRoom {D FP : Type 0} {order : CmpGhosts D} {filters : FilterGhosts FP}
      (choices : TableChoices order filters) (limit : ℕ) (result : Result (Unit {0}) Status)
      (new : OpenStoreValue C) (to : E) : Type 0 where
    pub room : OnOk result (IsFull limit new.mem → ⊥)
    -- where it isn't full, nothing is done
    pub not_full : (IsFull limit old.mem → ⊥) → (new ≡ old) × (to ≡ from) × OnErr result ⊥
    pub none_waits : OnOk result (IsFull limit old.mem
        → (new.mem.entries ≡ []) × (new.imm ≡ None))
    -- and no place was taken in it yet
    pub places : OnOk result (IsFull limit old.mem → new.mem.places ≡ 0)
    -- after an Err it is full still, or there is an immutable one: that a file wasn't deleted is no
    -- Err
    pub err : OnErr result (IsFull limit new.mem ⊎ (new.imm ≢ None))
    pub keeps : IsTrue env.models_disk → (meaning : Meaning) → Agrees choices.format meaning
        → KeepsWritten cmp meaning old (env.observed from) new (env.observed to)
    pub usable : OnOk result (IsUnbroken new)
    pub rest : SparesRest env.models_disk old (env.observed from) new (env.observed to)
    pub cause : FailsFor (FailsToMakeRoom choices) (env.failures from) (env.failures to) result

  -- What a deletion of obsolete files keeps, whatever it returns.
  pub record TidiesUp (to : E) : Type 0 where
    pub run : IsTrue env.models_disk
        → Run (RemovesNoOther old.set old.kept_to (env.observed from).disk.files)
        (env.observed from) (env.observed to)
    pub keeps : IsTrue env.models_disk → (meaning : Meaning)
        → KeepsWritten cmp meaning old (env.observed from) old (env.observed to)
    pub locks : SameLocks env.models_disk (env.observed from) (env.observed to)
    pub later : env.failures from ≤ env.failures to
