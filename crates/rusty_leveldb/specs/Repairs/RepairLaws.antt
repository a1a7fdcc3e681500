-- What holds of a repair and the opening after it.
use Rattle.std.specs.Prelude.{◌≡◌, ◌≤◌, ◌⊎◌, ℕ, false, List, [], ◌∷◌, None, Ok, Result, Some, IsTrue}
use Rattle.leveldb_base.specs.History.{Entry, SameView, entries_of, greatest}
use Rattle.leveldb_base.specs.declared.cmp.Cmp.{Ghosts as CmpGhosts}
use Rattle.leveldb_base.specs.declared.error.Status.{Status}
use Rattle.leveldb_env.specs.Env.{Disk, Files, Since}
use Rattle.leveldb_env.specs.Options.{Boxed, OptionsOf}
use Rattle.leveldb_env.specs.declared.env.Env.{Ghosts}
use Rattle.leveldb_env.specs.declared.filter.FilterPolicy.{Ghosts as FilterGhosts}
use Rattle.leveldb_store.specs.Tables.BuildTable.{TableChoices}
use Rattle.leveldb_files.specs.Stores.Format.{Agrees, Meaning}
use Rattle.leveldb_files.specs.Histories.Holds.{IsHonest}
use Rattle.leveldb_version_set.specs.Repairs.Found.{IsAnyTable}
use Rattle.leveldb_version_set.specs.Repairs.Repairing.{HasNoOtherFile, SameFound}
use Rattle.leveldb_files.specs.Stores.Store.{HasEdits}
use Rattle.leveldb_files.specs.Steps.StoreSteps.{AppendedAreBytes, IsKept}
use Rattle.leveldb_files.specs.Edits.Edit.{Edit}
use Rattle.leveldb_files.specs.Edits.VersionSet.{live_after}
use Rattle.leveldb_repair.specs.RepairLaws.{MakesUpNoTable, OnlyWholeIsReadable}
use Rattle.rusty_leveldb.specs.Engines.Boxes.{EngineOf, InternalOrder}
use Rattle.rusty_leveldb.specs.Engines.Calls.{EngineOpens}
use Rattle.rusty_leveldb.specs.Engines.Engine.{IsOpening, formats_of}
use Rattle.rusty_leveldb.specs.Machines.Machine.{Crashes, Opens, risk_between}
use Rattle.rusty_leveldb.specs.Repairs.Repair.{AreFoundIn, Repairs, repaired_state}
use Rattle.rusty_leveldb.specs.Engines.Rows.{RepresentsAt}
use Rattle.rusty_leveldb.specs.Engines.Serves.{StandsFor}
use Rattle.rusty_leveldb.specs.Machines.State.{Opening, State}

-- After a repair that was Ok an opening with this order finds the set that was found of the files
-- as they were: it is the whole history, and no number is past its greatest.
abbrev pub OpensWhatRepairFound : {E C FP F P : Type 0} {B : Boxed} {keys : InternalOrder C}
    {key_filters : FilterGhosts P} → Ghosts E F
    → (OptionsOf C FP B → TableChoices keys key_filters) → OptionsOf C FP B → Type 0
OpensWhatRepairFound {E = E} {C = C} {FP = FP} {F = F} {B = B} {keys = keys} env choices options =
    (name : List ℕ) (given : OptionsOf C FP B) (asked wanted opening : Opening) (from mid to : E)
    (engine : EngineOf E C FP F B) (meaning : Meaning) (found : List Entry)
    → Repairs env name asked from (choices given) (Ok tt) mid
    → EngineOpens env choices name options wanted mid (Ok engine) to
    → IsTrue env.models_disk → IsOpening name wanted opening
    → Agrees asked.format meaning → Agrees opening.format meaning
    → AppendedAreBytes (env.observed from).disk.files
    → AreFoundIn name asked.format meaning (env.observed from).disk.files found
    → (new : State)
    × RepresentsAt keys env (formats_of choices) name meaning (Some engine) to new
    × (new.history ≡ found ∷ []) × (new.last ≡ greatest found)

-- Another repair, of what a repair that was Ok left, finds what that one found: the disk represents
-- the state of the same set again, so that no map changes.
abbrev pub AnotherRepairFindsTheSame : {E F D P : Type 0} {keys : CmpGhosts D}
    {key_filters : FilterGhosts P} → Ghosts E F → TableChoices keys key_filters → Type 0
AnotherRepairFindsTheSame {E = E} env choices = (name : List ℕ) (asked : Opening) (from mid to : E)
    (meaning : Meaning) (found : List Entry)
    → Repairs env name asked from choices (Ok tt) mid
    → Repairs env name asked mid choices (Ok tt) to
    → IsTrue env.models_disk → Agrees asked.format meaning
    → AppendedAreBytes (env.observed from).disk.files
    → AreFoundIn name asked.format meaning (env.observed from).disk.files found
    → AreFoundIn name asked.format meaning (env.observed mid).disk.files found
    × StandsFor name meaning (env.observed mid).disk (repaired_state asked.format found)
    × StandsFor name meaning (env.observed to).disk (repaired_state asked.format found)

-- Wherever an honest crash comes since a repair began, inside it or at its end, what is left
-- represents a state of the crash row: of the state that the disk represented, or of the set that
-- was found.
abbrev pub CrashSinceRepair : {E F D P : Type 0} {keys : CmpGhosts D} {key_filters : FilterGhosts P}
    → Ghosts E F → TableChoices keys key_filters → Type 0
CrashSinceRepair {E = E} env choices = (name : List ℕ) (asked : Opening) (from to : E)
    (result : Result (Unit {0}) Status) (meaning : Meaning) (old : State) (found : List Entry)
    (files : Files) (left : Disk)
    → Repairs env name asked from choices result to
    → IsTrue env.models_disk
    → Agrees asked.format meaning → StandsFor name meaning (env.observed from).disk old
    → AreFoundIn name asked.format meaning (env.observed from).disk.files found
    → Since (env.observed to) (env.observed from).moment files left.files
    → IsHonest name files left.files → ((path : List ℕ) → left.locked path ≡ false)
    → let repaired = repaired_state asked.format found in
    (after : State)
    × (Crashes old (risk_between old) after ⊎ Crashes repaired (risk_between repaired) after)
    × StandsFor name meaning left after

-- Of the files that a repair left, Ok or not, the same entries are found as of those before it, if
-- no table is readable of which only a part is there.
abbrev pub RepairsLoseNothing : {E F D P : Type 0} {keys : CmpGhosts D}
    {key_filters : FilterGhosts P} → Ghosts E F → TableChoices keys key_filters → Type 0
RepairsLoseNothing {E = E} env choices = (name : List ℕ) (asked : Opening) (from to : E)
    (result : Result (Unit {0}) Status) (meaning : Meaning)
    → Repairs env name asked from choices result to → IsTrue env.models_disk
    → Agrees choices.format meaning
    → OnlyWholeIsReadable choices name meaning (env.observed from).disk.files
    (env.observed to).disk.files
    → SameFound name (IsAnyTable choices.format.order meaning) (env.observed from).disk.files
    (env.observed to).disk.files

-- Wherever a crash comes since a repair began of files whose bytes were all kept, inside it or at
-- its end, so it is of what is left, if the crash made up no table.
abbrev pub CrashesOfRepairsLoseNothing : {E F D P : Type 0} {keys : CmpGhosts D}
    {key_filters : FilterGhosts P} → Ghosts E F → TableChoices keys key_filters → Type 0
CrashesOfRepairsLoseNothing {E = E} env choices = (name : List ℕ) (asked : Opening) (from to : E)
    (result : Result (Unit {0}) Status) (meaning : Meaning) (files left : Files)
    → Repairs env name asked from choices result to → IsTrue env.models_disk
    → Agrees choices.format meaning
    → ((path : List ℕ) → IsKept ((env.observed from).disk.files path))
    → Since (env.observed to) (env.observed from).moment files left
    → MakesUpNoTable choices name meaning (env.observed from).disk.files files left
    → OnlyWholeIsReadable choices name meaning (env.observed from).disk.files left
    → SameFound name (IsAnyTable choices.format.order meaning) (env.observed from).disk.files left

-- The files have no table and no log but those that the store reads: whatever edits its manifest
-- has, each table that is there is live, and each log is replayed.
abbrev pub HasNothingElse : List ℕ → Files → Type 0
HasNothingElse store files = (edits : List Edit) → HasEdits store files edits
    → HasNoOtherFile store (live_after edits) files

-- An opening of a store with no other table or log finds what a repair of it would have found: the
-- set shows what the opened history shows, from its end on.
abbrev pub RepairFindsWhatOpens : {E C FP F P : Type 0} {B : Boxed} {keys : InternalOrder C}
    {key_filters : FilterGhosts P} → Ghosts E F
    → (OptionsOf C FP B → TableChoices keys key_filters) → OptionsOf C FP B → Type 0
RepairFindsWhatOpens {E = E} {C = C} {FP = FP} {F = F} {B = B} {keys = keys} env choices options =
    (name : List ℕ) (wanted opening : Opening) (from to : E) (engine : EngineOf E C FP F B)
    (meaning : Meaning) (old : State) (found : List Entry)
    → EngineOpens env choices name options wanted from (Ok engine) to
    → IsTrue env.models_disk → IsOpening name wanted opening → Agrees opening.format meaning
    → RepresentsAt keys env (formats_of choices) name meaning None from old
    → HasNothingElse name (env.observed from).disk.files
    → AreFoundIn name opening.format meaning (env.observed from).disk.files found → (new : State)
    × RepresentsAt keys env (formats_of choices) name meaning (Some engine) to new
    × Opens old opening new
    × ((t : ℕ) → greatest (entries_of new.history) ≤ t
    → SameView found (entries_of new.history) t)
