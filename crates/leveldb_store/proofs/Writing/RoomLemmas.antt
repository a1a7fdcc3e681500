-- How the steps to room in the memtable follow each other, and why each fails.
use Rattle.std.specs.Prelude.{◌≢◌, IsTrue, OnErr, OnOk, map}
use Rattle.std.proofs.Common.{◌≡◌, ◌⊎◌, ◌∙◌, ◌≤◌, ◌+◌, inl, inr, ⊎_elim, ℕ, Bool, true, false, List, [], Option, None, Some, Ok, Err, Result, ap, arith, refl, subst, sym}
use Rattle.std.specs.declared.cmp.Ordering.{Ordering}
use Rattle.leveldb_base.specs.Entries.{internal_pair}
use Rattle.leveldb_base.specs.Error.{IsOutOfMemory}
use Rattle.leveldb_base.specs.declared.cmp.Cmp.{Ghosts as CmpGhosts}
use Rattle.leveldb_base.specs.declared.error.Status.{Status}
use Rattle.leveldb_base.specs.declared.types.FileType.{FileType}
use Rattle.leveldb_base.specs.declared.types.FileType.TheVariants.{Current, DBLock, Descriptor, InfoLog, Log, Table, Temp}
use Rattle.leveldb_env.proofs.EnvLemmas.{Run-mono, Run-trans}
use Rattle.leveldb_env.specs.Env.{Files, HasCause, Observed, Run}
use Rattle.leveldb_env.specs.WholeFiles.{IsLost}
use Rattle.leveldb_env.specs.declared.env.Env.{Ghosts}
use Rattle.leveldb_env.specs.declared.filter.FilterPolicy.{Ghosts as FilterGhosts}
use Rattle.leveldb_mem.specs.MemTable.{Kept}
use Rattle.leveldb_files.specs.Steps.StoreSteps.{KeepsHistory}
use Rattle.leveldb_version_set.specs.Sets.VersionSetValue.{AreFileNumbersUsedUp, OpenManifest, VersionSetValue, in_use}
use Rattle.leveldb_version_set.specs.Engines.Writing.{IsObsolete}
use Rattle.leveldb_store.proofs.Keeping.KeptBytesLemmas.{kept_by_removal, spares_kept_none, spares_kept_then}
use Rattle.leveldb_store.proofs.Keeping.GivenTablesLemmas.{given_removed, given_same, given_then}
use Rattle.leveldb_store.proofs.Keeping.SoundLemmas.{failed_later, failed_once, goes_on_then, never_broken, nothing_goes_on, sound_ok, written_log, written_manifest}
use Rattle.leveldb_store.proofs.Keeping.TableKeepsLemmas.{KeepsHistory-trans}
use Rattle.leveldb_store.proofs.Writing.Level0TableLemmas.{keeps_nothing}
use Rattle.leveldb_store.specs.Tables.BuildTable.{IsNotBuilt, TableChoices}
use Rattle.leveldb_files.specs.Stores.Format.{Agrees, Format, IsTableOf, Meaning}
use Rattle.leveldb_store.specs.Keeping.OpenStore.{IsUnbroken, OpenLogValue, OpenStoreValue}
use Rattle.leveldb_store.specs.Writing.Room.{AreEntriesNotBuilt, FailsFor, FailsToMakeRoom, IsFileLost, IsFull, MakesRoom, TidiesUp}
use Rattle.leveldb_store.specs.Writing.RoomSteps.{FailsToCompactMemtable, IsStepToRoom}
use Rattle.leveldb_store.specs.Keeping.SoundCall.{BytesAreAppended, IsSoundCall, TimeGoesOn, any_meaning}
use Rattle.leveldb_store.specs.Writing.Switch.{FailsToSwitch, FailsToWriteLevel0Table, IsObsoletePath, RemovesNoOther, SwitchesLog, WritesLevel0Table}
use Rattle.leveldb_store.specs.Keeping.Written.{IsData, IsDataPath, IsWritten, KeepsWritten, SparesRest, imm_entries}

-- ---- why a call fails

-- a cause for which less is said
fails_for : {T : Type 0} {P Q : Status → Type 0} {before now : ℕ} (result : Result T Status)
    → ((e : Status) → P e → Q e) → HasCause P before now result → FailsFor Q before now result
fails_for (Ok value) so cause = record { later = cause.later; cause = tt }
fails_for {before = before} {now = now} (Err status) so cause = record {
  later = cause.later;
  cause = ⊎_elim (λ excused. inl (so status excused))
      (λ counted. inr (failed_once before now counted)) cause.cause;
}

-- ---- what is kept

module _ {C : Type 0} (cmp : List ℕ → List ℕ → Ordering) (meaning : Meaning) where
  -- what is kept by one call and by the next, where the first breaks nothing
  pub keeps_then : (old mid new : OpenStoreValue C) (v0 v1 v2 : Observed)
      → KeepsWritten cmp meaning old v0 mid v1 → IsUnbroken mid → mid.set.store ≡ old.set.store
      → mid.set.last_sequence ≡ old.set.last_sequence
      → KeepsWritten cmp meaning mid v1 new v2 → KeepsWritten cmp meaning old v0 new v2
  keeps_then old mid new v0 v1 v2 first unbroken same_store same_last second allowed w =
      let one = first allowed w in
      let two = second allowed (one.written unbroken) in
      record {
        moments = λ bound late. Run-trans (one.moments bound late)
            (λ files passes. KeepsHistory-trans (one.moments bound late).has passes)
            (subst (λ (s : List ℕ). Run (KeepsHistory s cmp (IsTableOf cmp meaning)
            (λ store. IsTrue (allowed store)) bound v1.disk.files) v1 v2) same_store
            (two.moments bound (subst (λ n. n ≤ bound) (sym same_last) late)));
        written = two.written;
        shows = λ history since s. two.shows history since (one.shows history since s);
      }

module _ {C : Type 0} {models_disk : Bool} where
  -- what is spared by one call and by the next
  pub spares_then : {old mid new : OpenStoreValue C} {v0 v1 v2 : Observed}
      → SparesRest models_disk old v0 mid v1 → SparesRest models_disk mid v1 new v2
      → SparesRest models_disk old v0 new v2
  spares_then {old} {mid} {new} {v0} {v1} {v2} first second = record {
    store = second.store ∙ first.store;
    cmp = second.cmp ∙ first.cmp;
    last = second.last ∙ first.last;
    kept_to = second.kept_to ∙ first.kept_to;
    files = λ modelled path spared. second.files modelled path
        (λ its. spared (subst (λ (s : List ℕ). IsDataPath s path) first.store its))
        ∙ first.files modelled path spared;
    numbers = let least = first.numbers in let more = second.numbers in omega (arith, least, more);
    tables = λ modelled. given_then old.set mid.set first.store first.numbers v0.disk.files
        v1.disk.files v2.disk.files (first.tables modelled) (second.tables modelled);
    kept = spares_kept_then old.set mid.set first.store first.numbers first.kept_to first.kept second.kept;
    locks = λ modelled. second.locks modelled ∙ first.locks modelled;
  }

-- an obsolete file is one of the data
obsolete_is_data : (set : VersionSetValue) (n : ℕ) (kind : FileType) → IsObsolete set kind n
    → IsData kind
obsolete_is_data set n Log is = tt
obsolete_is_data set n Table is = tt
obsolete_is_data set n Descriptor is = tt
obsolete_is_data set n Temp is = tt
obsolete_is_data set n DBLock is = is
obsolete_is_data set n Current is = is
obsolete_is_data set n InfoLog is = is

-- so the others stay where obsolete ones are removed
others_stay : (set : VersionSetValue) (kept_to : Option ℕ) (before after : Files)
    → RemovesNoOther set kept_to before after → (path : List ℕ) → (IsDataPath set.store path → ⊥) → after path ≡ before path
others_stay set kept_to before after removes path spared = ⊎_elim (λ same. same)
    (λ (gone : IsObsoletePath set kept_to path × (after path ≡ None)).
    let name = gone.0.1 in
    absurd (spared (
      name.1,
      obsolete_is_data set name.0 name.1 name.3,
      (gone.0.0, name.0, name.2, gone.0.2),
    )))
    (removes path)

-- ---- steps

-- a switch that is done breaks nothing
pub usable_switched : {E F C : Type 0} (env : Ghosts E F) (old : OpenStoreValue C) (from : E)
    → IsUnbroken old → (result : Result (Unit {0}) Status) (new : OpenStoreValue C) (to : E)
    → SwitchesLog env old from result new to → OnOk result (IsUnbroken new)
usable_switched env old from unbroken (Ok unit) new to s = record {
  manifest = λ is. unbroken.manifest
      (sym (ap (λ (set : VersionSetValue). set.manifest) s.set) ∙ is);
  log = ap (λ (log : OpenLogValue). log.writer.broken) s.log;
}
usable_switched env old from unbroken (Err status) new to s = tt

module _ {E F C : Type 0} (env : Ghosts E F) (cmp : List ℕ → List ℕ → Ordering)
    (format : Format) where
  abbrev Step : (Status → Type 0) → OpenStoreValue C → E → Result (Unit {0}) Status
      → OpenStoreValue C → E → Type 0
  Step = IsStepToRoom env cmp format

  -- nothing is done
  pub step_of_none : {P : Status → Type 0} (old : OpenStoreValue C) (from : E) → IsUnbroken old
      → Step P old from (Ok tt) old from
  step_of_none old from unbroken = record {
    keeps = λ modelled meaning agrees. keeps_nothing cmp meaning old (env.observed from);
    usable = unbroken;
    rest = record {
      store = refl;
      cmp = refl;
      last = refl;
      kept_to = refl;
      files = λ modelled path spared. refl;
      numbers = omega arith;
      tables = λ modelled. given_same old.set (env.observed from).disk.files
          (env.observed from).disk.files (λ number fits given. refl);
      kept = spares_kept_none old.set old.kept_to (env.observed from);
      locks = λ modelled. refl;
    };
    cause = record { later = omega arith; cause = tt };
    sound = sound_ok env cmp (Agrees format) old from tt old from (nothing_goes_on env from);
  }

  -- obsolete files are deleted
  pub step_of_tidying : {P : Status → Type 0} (old : OpenStoreValue C) (from to : E)
      → IsUnbroken old → TidiesUp env cmp old from to → TimeGoesOn env from to
      → BytesAreAppended env from to → Step P old from (Ok tt) old to
  step_of_tidying old from to unbroken tidied time bytes = record {
    keeps = λ modelled meaning agrees. tidied.keeps modelled meaning;
    usable = unbroken;
    rest = record {
      store = refl;
      cmp = refl;
      last = refl;
      kept_to = refl;
      files = λ modelled. others_stay old.set old.kept_to (env.observed from).disk.files
          (env.observed to).disk.files (tidied.run modelled).has;
      numbers = omega arith;
      tables = λ modelled. given_removed old.set old.kept_to (env.observed from).disk.files
          (env.observed to).disk.files (tidied.run modelled).has;
      kept = λ modelled. Run-mono
          (kept_by_removal old.set old.kept_to (env.observed from).disk.files)
          (tidied.run modelled);
      locks = tidied.locks;
    };
    cause = record { later = tidied.later; cause = tt };
    sound = sound_ok env cmp (Agrees format) old from tt old to (time, bytes);
  }

  -- an excuse of which less is said
  pub step_for : {P Q : Status → Type 0} → ((status : Status) → P status → Q status)
      → (old : OpenStoreValue C) (from : E) (result : Result (Unit {0}) Status)
      (new : OpenStoreValue C) (to : E) → Step P old from result new to
      → Step Q old from result new to
  step_for so old from (Ok unit) new to step = record {
    keeps = step.keeps;
    usable = step.usable;
    rest = step.rest;
    cause = record { later = step.cause.later; cause = tt };
    sound = step.sound;
  }
  step_for so old from (Err status) new to step = record {
    keeps = step.keeps;
    usable = step.usable;
    rest = step.rest;
    cause = record {
      later = step.cause.later;
      cause = ⊎_elim (λ excused. inl (so status excused)) (λ counted. inr counted)
          step.cause.cause;
    };
    sound = step.sound;
  }

  -- ---- one step after the other

  module _ {O : Status → Type 0} (old mid : OpenStoreValue C) (from at : E)
      (first : Step O old from (Ok tt) mid at) where
    pub written_on : IsTrue env.models_disk → (meaning : Meaning) → Agrees format meaning
        → IsWritten cmp meaning old (env.observed from).disk.files
        → IsWritten cmp meaning mid (env.observed at).disk.files
    written_on modelled meaning agrees w =
        (first.keeps modelled meaning agrees (λ store. true) w).written first.usable

    -- a file that is lost then was lost before
    pub lost_before : (status : Status) → IsFileLost env cmp mid at format status
        → IsFileLost env cmp old from format status
    lost_before status lost = (
      lost.0,
      λ modelled meaning agrees w.
          lost.1 modelled meaning agrees (written_on modelled meaning agrees w),
    )

    cause_then : {P Q : Status → Type 0} → ((status : Status) → P status → Q status)
        → (result : Result (Unit {0}) Status) (to : E)
        → FailsFor P (env.failures at) (env.failures to) result
        → FailsFor Q (env.failures from) (env.failures to) result
    cause_then so (Ok unit) to cause = record {
      later = omega (arith, first.cause.later, cause.later);
      cause = tt;
    }
    cause_then so (Err status) to cause = record {
      later = omega (arith, first.cause.later, cause.later);
      cause = ⊎_elim (λ excused. inl (so status excused))
          (λ counted. inr (failed_later (env.failures from) (env.failures at) (env.failures to)
          first.cause.later cause.later counted)) cause.cause;
    }

    sound_then : (result : Result (Unit {0}) Status) (new : OpenStoreValue C) (to : E)
        → env.failures at ≤ env.failures to
        → IsSoundCall env cmp (Agrees format) mid at result new to
        → IsSoundCall env cmp (Agrees format) old from result new to
    sound_then (Ok unit) new to later second = sound_ok env cmp (Agrees format) old from unit new to
        (goes_on_then env (first.sound.time, first.sound.bytes) (second.time, second.bytes))
    sound_then (Err status) new to later second =
        let goes_on =
        goes_on_then env (first.sound.time, first.sound.bytes) (second.time, second.bytes) in
        record {
          time = goes_on.0;
          bytes = goes_on.1;
          breaks = λ modelled meaning agrees w. ⊎_elim (λ unbroken. inl unbroken)
              (λ other. inr (⊎_elim (λ memory. inl memory)
              (λ counted. inr (failed_later (env.failures from) (env.failures at)
              (env.failures to) first.cause.later later counted)) other))
              (second.breaks modelled meaning agrees (written_on modelled meaning agrees w));
        }

    -- `so` says of the store before the first why the second fails
    pub step_then : {P Q : Status → Type 0} → ((status : Status) → P status → Q status)
        → (result : Result (Unit {0}) Status) (new : OpenStoreValue C) (to : E)
        → Step P mid at result new to → Step Q old from result new to
    step_then so result new to second = record {
      keeps = λ modelled meaning agrees. keeps_then cmp meaning old mid new (env.observed from)
          (env.observed at) (env.observed to) (first.keeps modelled meaning agrees) first.usable
          first.rest.store first.rest.last (second.keeps modelled meaning agrees);
      usable = second.usable;
      rest = spares_then first.rest second.rest;
      cause = cause_then so result to second.cause;
      sound = sound_then result new to second.cause.later second.sound;
    }

  -- ---- a switch of the log

  -- why the log isn't switched
  abbrev pub FailsAtSwitch : OpenStoreValue C → E → Status → Type 0
  FailsAtSwitch old from status = IsOutOfMemory status
      ⊎ AreFileNumbersUsedUp old.set.next_file status ⊎ IsFileLost env cmp old from format status

  module _ (old : OpenStoreValue C) (from : E) (unbroken : IsUnbroken old) where
    fails_to_switch : (to : E) (status : Status) → FailsToSwitch env old from to status
        → FailsAtSwitch old from status
    fails_to_switch to status (inl used) = inr (inl used)
    fails_to_switch to status (inr (inl (inl memory))) = inl memory
    fails_to_switch to status (inr (inl (inr missing))) = inr (inr (
      missing.0.code,
      λ modelled meaning agrees w. written_log cmp meaning old (env.observed from).disk.files w
          (missing.1 modelled),
    ))
    fails_to_switch to status (inr (inr broke)) =
        let never : true ≡ false = sym broke.0 ∙ unbroken.log in absurd (cc never)

    pub step_of_switch : (result : Result (Unit {0}) Status) (new : OpenStoreValue C) (to : E)
        → SwitchesLog env old from result new to
        → (IsTrue env.models_disk → (meaning : Meaning)
        → KeepsWritten cmp meaning old (env.observed from) new (env.observed to))
        → IsSoundCall env cmp any_meaning old from result new to
        → Step (FailsAtSwitch old from) old from result new to
    step_of_switch result new to s keeps sound = record {
      keeps = λ modelled meaning agrees. keeps modelled meaning;
      usable = usable_switched env old from unbroken result new to s;
      rest = s.rest;
      cause = fails_for result (fails_to_switch to) s.cause;
      sound = record {
        time = sound.time;
        bytes = sound.bytes;
        breaks = λ modelled meaning agrees. sound.breaks modelled meaning tt;
      };
    }

-- a step in the order of a comparator that stays
pub step_in_order : {E F C : Type 0} (env : Ghosts E F) (order : C → List ℕ → List ℕ → Ordering)
    (format : Format) (Excused : (List ℕ → List ℕ → Ordering) → Status → Type 0)
    (old : OpenStoreValue C) (from : E) (result : Result (Unit {0}) Status)
    (new : OpenStoreValue C) (to : E) {before now : C} → before ≡ now
    → IsStepToRoom env (order before) format (Excused (order before)) old from result new to
    → IsStepToRoom env (order now) format (Excused (order now)) old from result new to
step_in_order env order format Excused old from result new to same =
    subst (λ cmp. IsStepToRoom env (order cmp) format (Excused (order cmp)) old from result new to)
    same

-- ---- a table of the entries that wait

-- a memtable that waits is there
pub not_built_imm : {D FP : Type 0} {order : CmpGhosts D} {filters : FilterGhosts FP}
    (choices : TableChoices order filters) (imm : Option Kept) (status : Status)
    → imm ≢ None → IsNotBuilt choices (map internal_pair (imm_entries imm)) status
    → AreEntriesNotBuilt choices imm status
not_built_imm choices None status waits is = absurd (waits refl)
not_built_imm choices (Some kept) status waits is = is

module _ {E F C D FP : Type 0} {order : CmpGhosts D} {filters : FilterGhosts FP} (env : Ghosts E F)
    (cmp : List ℕ → List ℕ → Ordering) (choices : TableChoices order filters)
    (old : OpenStoreValue C) (from : E) (unbroken : IsUnbroken old) where
  abbrev Tables : Result (Unit {0}) Status → OpenStoreValue C → E → Type 0
  Tables = WritesLevel0Table env old from choices (map internal_pair (imm_entries old.imm))

  abbrev Fails : Status → Type 0
  Fails = FailsToCompactMemtable env cmp choices old from

  fails_lost : (manifest : OpenManifest) → old.set.manifest ≡ in_use manifest → (to : E)
      (status : Status)
      → IsLost env.models_disk manifest.path (env.observed from) (env.failures from)
      (env.failures to) status
      → Fails status
  fails_lost manifest used to status (inl memory) = inl memory
  fails_lost manifest used to status (inr missing) = inr (inr (inr (
    missing.0.code,
    λ modelled meaning agrees w. written_manifest cmp meaning old (env.observed from).disk.files w
        manifest used (missing.1 modelled),
  )))

  fails_to_table : old.imm ≢ None → (to : E) (status : Status)
      → FailsToWriteLevel0Table env old from choices
      (map internal_pair (imm_entries old.imm)) to status
      → Fails status
  fails_to_table waits to status (inl used) = inr (inl used)
  fails_to_table waits to status (inr (inl memory)) = inl memory
  fails_to_table waits to status (inr (inr (inl built))) =
      inr (inr (inl (not_built_imm choices old.imm status waits built.0)))
  fails_to_table waits to status (inr (inr (inr (inl lost)))) =
      fails_lost lost.0 lost.1 to status lost.2
  fails_to_table waits to status (inr (inr (inr (inr broke)))) = absurd (unbroken.manifest broke.0)

  pub usable_tables_made : (result : Result (Unit {0}) Status) (new : OpenStoreValue C) (to : E)
      → Tables result new to → OnOk result (IsUnbroken new)
  usable_tables_made (Ok unit) new to t = record {
    manifest = λ is. never_broken _
        (sym (ap (λ (set : VersionSetValue). set.manifest) t.logged.set) ∙ is);
    log = ap (λ (log : OpenLogValue). log.writer.broken) t.log ∙ unbroken.log;
  }
  usable_tables_made (Err status) new to t = tt

  -- a number is given
  pub number_tables_made : (new : OpenStoreValue C) (to : E) → Tables (Ok tt) new to
      → new.set.next_file ≤ old.set.next_file + 1
  number_tables_made new to t =
      let given : new.set.next_file ≡ old.set.next_file + 1
      = ap (λ (set : VersionSetValue). set.next_file) t.logged.set in
      omega (arith, given)

  pub step_of_table : old.imm ≢ None → (result : Result (Unit {0}) Status)
      (new : OpenStoreValue C) (to : E) → Tables result new to
      → (IsTrue env.models_disk → (meaning : Meaning) → Agrees choices.format meaning
      → KeepsWritten cmp meaning old (env.observed from) new (env.observed to))
      → IsSoundCall env cmp (Agrees choices.format) old from result new to
      → IsStepToRoom env cmp choices.format Fails old from result new to
  step_of_table waits result new to t keeps sound = record {
    keeps = keeps;
    usable = usable_tables_made result new to t;
    rest = t.rest;
    cause = fails_for result (fails_to_table waits to) t.cause;
    sound = sound;
  }

-- ---- room

module _ {E F C D FP : Type 0} {order : CmpGhosts D} {filters : FilterGhosts FP} (env : Ghosts E F)
    (cmp : List ℕ → List ℕ → Ordering) (choices : TableChoices order filters)
    (old : OpenStoreValue C) (from : E) where
  abbrev FailsToMake : Status → Type 0
  FailsToMake = FailsToMakeRoom env cmp old from choices

  -- so many numbers are too few if one that is given is the last
  used_up : (given : ℕ) (status : Status) → given ≤ old.set.next_file + 2
      → AreFileNumbersUsedUp given status → FailsToMake status
  used_up given status few used = inr (inl (record {
    code = used.code;
    too_few = omega (arith, few, used.last);
  }))

  -- why the first table isn't made of the entries that wait
  pub fails_first : (status : Status) → FailsToCompactMemtable env cmp choices old from status
      → FailsToMake status
  fails_first status (inl memory) = inl memory
  fails_first status (inr (inl used)) = used_up old.set.next_file status (omega arith) used
  fails_first status (inr (inr (inl imm))) = inr (inr (inr (inl imm)))
  fails_first status (inr (inr (inr lost))) = inr (inr (inr (inr lost)))

  -- why the log isn't switched after it
  pub fails_switching : (mid : OpenStoreValue C) (at : E)
      → mid.set.next_file ≤ old.set.next_file + 1
      → ((status : Status) → IsFileLost env cmp mid at choices.format status
      → IsFileLost env cmp old from choices.format status)
      → (status : Status) → FailsAtSwitch env cmp choices.format mid at status
      → FailsToMake status
  fails_switching mid at given before status (inl memory) = inl memory
  fails_switching mid at given before status (inr (inl used)) =
      used_up mid.set.next_file status (omega (arith, given)) used
  fails_switching mid at given before status (inr (inr lost)) =
      inr (inr (inr (inr (before status lost))))

  -- why no table is made of the entries that were in the memtable
  pub fails_last : (mid : OpenStoreValue C) (at : E)
      → mid.set.next_file ≤ old.set.next_file + 2 → mid.imm ≡ Some old.mem
      → ((status : Status) → IsFileLost env cmp mid at choices.format status
      → IsFileLost env cmp old from choices.format status)
      → (status : Status) → FailsToCompactMemtable env cmp choices mid at status
      → FailsToMake status
  fails_last mid at given waits before status (inl memory) = inl memory
  fails_last mid at given waits before status (inr (inl used)) =
      used_up mid.set.next_file status given used
  fails_last mid at given waits before status (inr (inr (inl entries))) =
      inr (inr (inl (subst (λ kept. AreEntriesNotBuilt choices kept status) waits entries)))
  fails_last mid at given waits before status (inr (inr (inr lost))) =
      inr (inr (inr (inr (before status lost))))

-- the steps in turn, each in the order of the store that it is given
module _ {E F C D FP : Type 0} {keys : CmpGhosts D} {filters : FilterGhosts FP} (env : Ghosts E F)
    (order : C → List ℕ → List ℕ → Ordering) (choices : TableChoices keys filters)
    (old mid : OpenStoreValue C) (from at : E)
    (first : IsStepToRoom env (order old.cmp) choices.format
    (FailsToCompactMemtable env (order old.cmp) choices old from) old from (Ok tt) mid at)
    (given : mid.set.next_file ≤ old.set.next_file + 1) where
  abbrev StepToRoom : Result (Unit {0}) Status → OpenStoreValue C → E → Type 0
  StepToRoom = IsStepToRoom env (order old.cmp) choices.format
      (FailsToMakeRoom env (order old.cmp) old from choices) old from

  -- the log is switched after the first table
  pub step_switched : (result : Result (Unit {0}) Status) (new : OpenStoreValue C) (to : E)
      → SwitchesLog env mid at result new to
      → (IsTrue env.models_disk → (meaning : Meaning)
      → KeepsWritten (order mid.cmp) meaning mid (env.observed at) new (env.observed to))
      → IsSoundCall env (order mid.cmp) any_meaning mid at result new to
      → StepToRoom result new to
  step_switched result new to s keeps sound =
      step_then env (order old.cmp) choices.format old mid from at first
      (fails_switching env (order old.cmp) choices old from mid at given
      (lost_before env (order old.cmp) choices.format old mid from at first)) result new to
      (step_in_order env order choices.format
      (λ cmp. FailsAtSwitch env cmp choices.format mid at) mid at result new to first.rest.cmp
      (step_of_switch env (order mid.cmp) choices.format mid at first.usable result new to s keeps
      sound))

  -- and the second table is made after that
  pub step_tables_made : mid.mem ≡ old.mem → (switched : OpenStoreValue C) (begun : E)
      → SwitchesLog env mid at (Ok tt) switched begun → StepToRoom (Ok tt) switched begun
      → (result : Result (Unit {0}) Status) (new : OpenStoreValue C) (to : E)
      → IsStepToRoom env (order switched.cmp) choices.format
      (FailsToCompactMemtable env (order switched.cmp) choices switched begun) switched begun
      result new to
      → StepToRoom result new to
  step_tables_made same switched begun s second result new to last =
      let next : switched.set.next_file ≡ mid.set.next_file + 1
      = ap (λ (set : VersionSetValue). set.next_file) s.set in
      step_then env (order old.cmp) choices.format old switched from begun second
      (fails_last env (order old.cmp) choices old from switched begun
      (omega (arith, given, next)) (s.waits ∙ ap Some same)
      (lost_before env (order old.cmp) choices.format old switched from begun second))
      result new to
      (step_in_order env order choices.format
      (λ cmp. FailsToCompactMemtable env cmp choices switched begun) switched begun result new to
      second.rest.cmp last)

module _ {E F C D FP : Type 0} {order : CmpGhosts D} {filters : FilterGhosts FP} (env : Ghosts E F)
    (cmp : List ℕ → List ℕ → Ordering) (choices : TableChoices order filters) (limit : ℕ)
    (old : OpenStoreValue C) (from : E) where
  abbrev FailsToMakeIt : Status → Type 0
  FailsToMakeIt = FailsToMakeRoom env cmp old from choices

  -- there is room
  pub has_room : IsUnbroken old → (IsFull limit old.mem → ⊥)
      → MakesRoom env cmp old from choices limit (Ok tt) old from
  has_room unbroken not_full =
      let none = step_of_none env cmp choices.format {P = FailsToMakeIt} old from unbroken in
      record {
        room = not_full;
        not_full = λ _. (refl, refl, tt);
        none_waits = λ full. absurd (not_full full);
        places = λ full. absurd (not_full full);
        err = tt;
        keeps = none.keeps;
        usable = none.usable;
        rest = none.rest;
        cause = none.cause;
      }

  -- a memtable that was full has become a table
  pub room_made : (new : OpenStoreValue C) (to : E) → IsFull limit old.mem
      → IsStepToRoom env cmp choices.format FailsToMakeIt old from (Ok tt) new to
      → new.mem.entries ≡ []
      → new.mem.places ≡ 0 → new.imm ≡ None
      → MakesRoom env cmp old from choices limit (Ok tt) new to
  room_made new to full step empty places none_waits = record {
    room = λ full. full.0 empty;
    not_full = λ not_full. absurd (not_full full);
    none_waits = λ full. (empty, none_waits);
    places = λ full. places;
    err = tt;
    keeps = step.keeps;
    usable = step.usable;
    rest = step.rest;
    cause = step.cause;
  }

  -- it is full still, or waits
  pub no_room_made : (status : Status) (new : OpenStoreValue C) (to : E)
      → IsFull limit old.mem
      → IsStepToRoom env cmp choices.format FailsToMakeIt old from (Err status) new to
      → (new.mem ≡ old.mem) ⊎ (new.imm ≢ None)
      → MakesRoom env cmp old from choices limit (Err status) new to
  no_room_made status new to full step left = record {
    room = tt;
    not_full = λ not_full. absurd (not_full full);
    none_waits = tt;
    places = tt;
    err = ⊎_elim (λ same. inl (subst (IsFull limit) (sym same) full)) (λ waits. inr waits) left;
    keeps = step.keeps;
    usable = step.usable;
    rest = step.rest;
    cause = step.cause;
  }

  -- after the last step, by what it returns
  pub room_tried : (result : Result (Unit {0}) Status) (new : OpenStoreValue C) (to : E)
      → IsFull limit old.mem
      → IsStepToRoom env cmp choices.format FailsToMakeIt old from result new to
      → new.mem.entries ≡ [] → new.mem.places ≡ 0 → OnOk result (new.imm ≡ None)
      → OnErr result (new.imm ≢ None)
      → MakesRoom env cmp old from choices limit result new to
  room_tried (Ok unit) new to full step empty places none_waits waits =
      room_made new to full step empty places none_waits
  room_tried (Err status) new to full step empty places none_waits waits =
      no_room_made status new to full step (inr waits)
