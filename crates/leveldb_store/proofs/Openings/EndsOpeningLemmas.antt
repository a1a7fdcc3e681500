-- The end of an opening: what its steps keep together, and why it breaks the store.
use Rattle.std.specs.Prelude.{Contains, IsTrue, OnErr, OnOk}
use Rattle.std.proofs.Common.{◌≡◌, ◌∙◌, ◌⊎◌, ◌-◌, ◌^◌, ◌≤◌, ◌<◌, inl, inr, ⊎_elim, ℕ, List, Option, Ok, Err, Result, ap, arith, refl, subst, sym}
use Rattle.std.proofs.lemmas.Bool.{cases_lt}
use Rattle.std.specs.declared.cmp.Ordering.{Ordering}
use Rattle.leveldb_base.specs.declared.cmp.Cmp.{Ghosts as CmpGhosts}
use Rattle.leveldb_base.specs.declared.cmp.internal.InternalKeyCmp.{InternalKeyCmp}
use Rattle.leveldb_base.specs.declared.error.Status.{Status}
use Rattle.leveldb_base.specs.declared.types.FileType.{FileType}
use Rattle.leveldb_env.proofs.EnvLemmas.{Run-mono}
use Rattle.leveldb_env.specs.Env.{Files, Run}
use Rattle.leveldb_env.specs.declared.env.Env.{Ghosts}
use Rattle.leveldb_env.specs.declared.filter.FilterPolicy.{Ghosts as FilterGhosts}
use Rattle.leveldb_table.proofs.TableBlockLemmas.{same_files}
use Rattle.leveldb_table.specs.TableBlock.{KeepsDisk}
use Rattle.leveldb_version.specs.Tables.TableCache.{TableOptions, files_at}
use Rattle.leveldb_version.specs.declared.table_cache.TableCache.{TableCache}
use Rattle.leveldb_version_set.specs.Engines.Writing.{NumbersAreBelow}
use Rattle.leveldb_version_set.specs.Sets.VersionSetValue.{VersionSetValue}
use Rattle.leveldb_store.proofs.Compactions.CompactPickedLemmas.{compacted_tidied}
use Rattle.leveldb_store.proofs.Compactions.CompactedLemmas.{compacts_then}
use Rattle.leveldb_store.proofs.Keeping.DamageLemmas.{failed_before, still_written}
use Rattle.leveldb_store.proofs.Keeping.KeptBytesLemmas.{loses_none, meanwhile_removed, meanwhile_then}
use Rattle.leveldb_store.proofs.Keeping.KeptFilesLemmas.{keeping, unbroken_keeping}
use Rattle.leveldb_store.proofs.Keeping.OpenTablesLemmas.{no_removal}
use Rattle.leveldb_store.proofs.Writing.RoomLemmas.{spares_then}
use Rattle.leveldb_store.proofs.Keeping.SoundLemmas.{failed_later, goes_on_then, removal_bytes}
use Rattle.leveldb_store.proofs.Keeping.WrittenFromLemmas.{keeps_from_then}
use Rattle.leveldb_store.specs.Tables.BuildTable.{TableChoices}
use Rattle.leveldb_store.specs.Compactions.Compact.{CompactsTables}
use Rattle.leveldb_store.specs.Logs.Damage.{HasDamagedFile, IsLeftAside}
use Rattle.leveldb_store.specs.Openings.EndsOpening.{CompactsOpening, EndsOpening, LooksForDamage}
use Rattle.leveldb_store.specs.Keeping.KeptBytes.{AreKept, IsNotReplaced, LosesNoBytesMeanwhile, NewTablesLoseNothing, TableNumbersAreBelow}
use Rattle.leveldb_store.specs.Keeping.LoggedEdits.{LogsByScore}
use Rattle.leveldb_store.specs.Keeping.OpenStore.{IsUnbroken, OpenStoreValue}
use Rattle.leveldb_store.specs.Keeping.OpenTables.{ClosesObsolete}
use Rattle.leveldb_store.specs.Keeping.SetAside.{SetsAside}
use Rattle.leveldb_store.specs.Writing.Room.{HasFailed, TidiesUp}
use Rattle.leveldb_store.specs.Keeping.SoundCall.{BreaksForCause, TimeGoesOn}
use Rattle.leveldb_store.specs.Writing.Switch.{IsManifestLost, RemovesNoOther, RemovesObsolete}

-- a look that was done before
looked_before : {E F : Type 0} (env : Ghosts E F) (set : VersionSetValue) (from at to : E)
    (kept_to : Option ℕ) (paths : List (List ℕ)) (result : Result (Unit {0}) Status)
    → env.failures at ≤ env.failures to → LooksForDamage env set from kept_to paths result at
    → LooksForDamage env set from kept_to paths result to
looked_before env set from at to kept_to paths (Ok done) later looks = record {
  found = looks.found;
  each = looks.each;
  damaged = looks.damaged;
  bounded = looks.bounded;
  undamaged = looks.undamaged;
  cause = record { later = let first = looks.cause.later in omega (arith, first, later); cause = tt };
}
looked_before env set from at to kept_to paths (Err status) later looks = record {
  found = looks.found;
  each = tt;
  damaged = looks.damaged;
  bounded = looks.bounded;
  undamaged = tt;
  cause = record {
    later = let first = looks.cause.later in omega (arith, first, later);
    cause = ⊎_elim (λ excused. inl excused)
        (λ counted. inr (failed_before (env.failures from) (env.failures at) (env.failures to)
        later counted)) looks.cause.cause;
  };
}

-- where the disk is modelled
on_err_with : {P : Type 0} (Q : Type 0) (result : Result (Unit {0}) Status)
    → OnErr result (P → Q) → P → OnErr result Q
on_err_with Q (Ok done) so it = tt
on_err_with Q (Err status) so it = so it

-- files were only read
looked_tidies : {E F C : Type 0} (env : Ghosts E F)
    (cmp : List ℕ → List ℕ → Ordering) (value : OpenStoreValue C) (from to : E)
    → KeepsDisk env from to → env.failures from ≤ env.failures to → TidiesUp env cmp value from to
looked_tidies env cmp value from to keeps later = record {
  run = λ modelled. Run-mono (λ files same path. inl (ap (λ (f : Files). f path) same))
      (keeps.disk modelled);
  keeps = λ modelled meaning. still_written env cmp value from to to keeps modelled meaning;
  locks = keeps.locks;
  later = later;
}

module _ {E F C FP D P : Type 0} (order : CmpGhosts (InternalKeyCmp C)) (env : Ghosts E F)
    (by : TableOptions C FP) {keys : CmpGhosts D} {filters : FilterGhosts P}
    (choices : TableChoices keys filters) (smallest : ℕ) where
  -- compactions that failed, and deletions after them, where the store isn't broken
  unmade_tidied : {old new : OpenStoreValue C} {from at to : E} {tables between now : TableCache E C FP F}
      {status : Status} → IsUnbroken new
      → CompactsTables order env by old from tables choices smallest (Err status) new at between
      → CompactsTables order env by new at between choices smallest (Ok tt) new to now
      → CompactsTables order env by old from tables choices smallest (Err status) new to now
  unmade_tidied {old} {new} {from} {at} {to} {tables} {between} {now} {status} unbroken first second =
      let goes_on = goes_on_then env (first.keeps.sound.time, first.keeps.sound.bytes)
      (second.keeps.sound.time, second.keeps.sound.bytes) in
      record {
        keeps = record {
          keeps = λ has meaning agrees. keeps_from_then by.format.order meaning smallest old new new
              (env.observed from) (env.observed at) (env.observed to)
              (first.keeps.keeps has meaning agrees) unbroken first.keeps.rest.store
              first.keeps.rest.last
              (second.keeps.keeps
              (record { modelled = has.modelled; are = first.keeps.still_open has }) meaning agrees);
          usable = tt;
          rest = spares_then first.keeps.rest second.keeps.rest;
          still_open = λ has. second.keeps.still_open
              (record { modelled = has.modelled; are = first.keeps.still_open has });
          none_new = tt;
          sound = record {
            time = goes_on.0;
            bytes = goes_on.1;
            breaks = λ modelled meaning means w. inl unbroken;
          };
          cause = record {
            later = omega (arith, first.keeps.cause.later, second.keeps.cause.later);
            cause = ⊎_elim (λ excused. inl excused)
                (λ counted. inr (failed_before (env.failures from) (env.failures at)
                (env.failures to) second.keeps.cause.later counted)) first.keeps.cause.cause;
          };
        };
        memory = first.memory;
      }

  -- the same whatever they returned
  then_tidied : {old new : OpenStoreValue C} {from at to : E} {tables between now : TableCache E C FP F}
      (result : Result (Unit {0}) Status) → IsUnbroken new
      → CompactsTables order env by old from tables choices smallest result new at between
      → CompactsTables order env by new at between choices smallest (Ok tt) new to now
      → CompactsTables order env by old from tables choices smallest result new to now
  then_tidied (Ok done) unbroken first second = compacts_then first second
  then_tidied (Err status) unbroken first second = unmade_tidied unbroken first second

module _ {E F C FP D P : Type 0} (order : CmpGhosts (InternalKeyCmp C)) (env : Ghosts E F)
    (by : TableOptions C FP) {keys : CmpGhosts D} {filters : FilterGhosts P}
    (choices : TableChoices keys filters) (old : OpenStoreValue C) (from : E)
    (tables : TableCache E C FP F) (unbroken : IsUnbroken old) (kept_to : Option ℕ) (at : E)
    (looked : KeepsDisk env from at) (found : Result (Unit {0}) Status)
    (paths : List (List ℕ)) (looks : LooksForDamage env old.set from kept_to paths found at)
  where
    abbrev kept : OpenStoreValue C
    kept = keeping old kept_to

    later : env.failures from ≤ env.failures at
    later = looks.cause.later

    module _ (compacted : Result (Unit {0}) Status) (new : OpenStoreValue C) (mid : E)
        (between : TableCache E C FP F)
        (compacts : CompactsTables order env by kept at tables choices old.set.last_sequence compacted
        new mid between)
        (by_score : OnOk compacted (LogsByScore old.set new.set))
        (err : OnErr compacted (new.set.full ≡ old.set.full))
        (breaks : BreaksForCause env kept at compacted new mid)
        (keeps : (IsTrue env.models_disk → AreKept old.set.store (files_at env at) kept_to)
        → NewTablesLoseNothing env old.set.store at mid old.set.next_file)
        (aside : old.set.log_number ≤ old.log.number → (kind : FileType) (n : ℕ)
        → IsLeftAside old.set kind n → IsLeftAside new.set kind n) where
      -- files were read before it
      looked_then : CompactsTables order env by (keeping old new.kept_to) from tables choices
          old.set.last_sequence compacted new mid between
      looked_then = subst (λ (k : Option ℕ). CompactsTables order env by (keeping old k) from tables choices
          old.set.last_sequence compacted new mid between) (sym compacts.keeps.rest.kept_to)
          (compacts_then
          (compacted_tidied order env by choices old.set.last_sequence kept
          (unbroken_keeping old kept_to unbroken) from at tables tables
          (looked_tidies env by.format.order kept from at looked later)
          (no_removal env old.set from at tables (λ modelled. same_files env looked modelled))
          (λ modelled. (looked.disk modelled).time.later)
          (λ modelled bytes. removal_bytes old.set kept_to (files_at env from) (files_at env at)
          ((looked_tidies env by.format.order kept from at looked later).run modelled).has bytes))
          compacts)

      -- what looking for damage found, once more is done
      looked_still : (to : E) → env.failures mid ≤ env.failures to
          → LooksForDamage env old.set from new.kept_to paths found to
      looked_still to more = subst (λ k. LooksForDamage env old.set from k paths found to)
          (sym compacts.keeps.rest.kept_to)
          (looked_before env old.set from at to kept_to paths found
          (let first = compacts.keeps.cause.later in omega (arith, first, more)) looks)

      -- where a file is damaged, nothing is lost
      module _ (modelled : IsTrue env.models_disk)
          (has : HasDamagedFile old.set (files_at env from))
          (all_below : OnErr found (IsTrue env.models_disk
          → NumbersAreBelow old.set.store (files_at env from) old.set.next_file))
          (below : TableNumbersAreBelow old.set.store (files_at env from) old.set.next_file) where
        files_same : files_at env at ≡ files_at env from
        files_same = same_files env looked modelled

        each_kept : AreKept old.set.store (files_at env from) kept_to
        each_kept = looks.damaged modelled has (on_err_with
            (NumbersAreBelow old.set.store (files_at env from) old.set.next_file) found all_below
            modelled)

        none_lost : LosesNoBytesMeanwhile env old.set.store from mid
        none_lost = meanwhile_then env old.set.store
            (Run-mono (λ now is. loses_none (IsNotReplaced old.set.store) (files_at env from) now is)
            (looked.disk modelled))
            (keeps (λ again. subst (λ (f : Files). AreKept old.set.store f kept_to) (sym files_same)
            each_kept) modelled (subst (λ (f : Files).
            TableNumbersAreBelow old.set.store f old.set.next_file) (sym files_same) below))

        none_lost_then : (to : E) → Run (RemovesNoOther new.set new.kept_to (files_at env mid))
            (env.observed mid) (env.observed to)
            → LosesNoBytesMeanwhile env old.set.store from to
        none_lost_then to run = subst (λ s. LosesNoBytesMeanwhile env s from to)
            compacts.keeps.rest.store
            (meanwhile_removed new.set new.kept_to env from mid to
            (subst (λ s. AreKept s (files_at env from) new.kept_to) (sym compacts.keeps.rest.store)
            (subst (AreKept old.set.store (files_at env from)) (sym compacts.keeps.rest.kept_to)
            each_kept))
            (subst (λ s. LosesNoBytesMeanwhile env s from mid) (sym compacts.keeps.rest.store)
            none_lost) run)

      -- the store isn't broken, and files are deleted
      pub ends_well : IsUnbroken new → (to : E) (now : TableCache E C FP F)
          (removal : Result (Unit {0}) Status)
          → RemovesObsolete env new.set new.kept_to mid removal to
          → TidiesUp env by.format.order new mid to → ClosesObsolete env new.set mid between to now
          → TimeGoesOn env mid to → (last : E) (moved : Result (Unit {0}) Status)
          → SetsAside env (Contains paths) to moved last
          → EndsOpening order env by old from tables choices (Ok tt) new last now
      ends_well ok to now removal removes tidies closes time last moved sets = record {
        at = to;
        aside = (moved, sets);
        unmoved = tt;
        first = record {
          compacted = compacted;
          compacts = then_tidied order env by choices old.set.last_sequence compacted ok looked_then
              (compacted_tidied order env by choices old.set.last_sequence new ok mid to between now
              tidies closes time
              (λ modelled bytes. removal_bytes new.set new.kept_to (files_at env mid) (files_at env to)
              (tidies.run modelled).has bytes));
          by_score = by_score;
          err = err;
          ok = ok;
          broken = tt;
          breaks = λ usable. tt;
          kept = tt;
          damaged = λ has all_below modelled below.
              none_lost_then modelled has all_below below to (removes.run modelled);
          looked = found;
          paths = paths;
          looks = looked_still to tidies.later;
          aside = aside;
        };
      }

      lost_before : env.failures at ≤ env.failures from → (status : Status)
          → IsManifestLost env kept at mid status → IsManifestLost env old from mid status
      lost_before most status (inl lost) = inl (
        lost.0,
        lost.1,
        ⊎_elim (λ memory. inl memory)
            (λ missing. inr (
              missing.0,
              λ modelled. sym (ap (λ (f : Files). f lost.0.path) (same_files env looked modelled))
                  ∙ missing.1 modelled,
              (let now = missing.2 in omega (arith, now, most, later)),
            ))
            lost.2,
      )
      lost_before most status (inr broke) = inr broke

    module _ (status : Status) (new : OpenStoreValue C) (mid : E) (between : TableCache E C FP F)
        (compacts : CompactsTables order env by kept at tables choices old.set.last_sequence
        (Err status) new mid between)
        (err : new.set.full ≡ old.set.full)
        (breaks : BreaksForCause {T = Unit {0}} env kept at (Err status) new mid)
        (loses : NewTablesLoseNothing env old.set.store at mid old.set.next_file)
        (keeps : (IsTrue env.models_disk → AreKept old.set.store (files_at env at) kept_to)
        → NewTablesLoseNothing env old.set.store at mid old.set.next_file)
        (aside : old.set.log_number ≤ old.log.number → (kind : FileType) (n : ℕ)
        → IsLeftAside old.set kind n → IsLeftAside new.set kind n) where
      loses_none_then : NewTablesLoseNothing env old.set.store from mid old.set.next_file
      loses_none_then modelled below =
          let same = same_files env looked modelled in
          meanwhile_then env old.set.store
          (Run-mono (λ now is. loses_none (IsNotReplaced old.set.store) (files_at env from) now is)
          (looked.disk modelled))
          (loses modelled (subst (λ (f : Files).
          TableNumbersAreBelow old.set.store f old.set.next_file) (sym same) below))

      broke_for : (IsUnbroken new → ⊥) → IsManifestLost env old from mid status
          ⊎ HasFailed (env.failures from) (env.failures mid)
      broke_for broken = ⊎_elim (λ usable. absurd (broken usable))
          (λ other. ⊎_elim
          (λ lost. ⊎_elim
          (λ (less : env.failures from < env.failures at).
          inr (inl (omega (arith, less, compacts.keeps.cause.later))))
          (λ (most : env.failures at ≤ env.failures from).
          inl (lost_before (Err status) new mid between compacts tt err breaks keeps aside most status lost))
          (cases_lt (env.failures from) (env.failures at)))
          (λ counted. inr (failed_later (env.failures from) (env.failures at) (env.failures mid) later
          compacts.keeps.cause.later counted)) other)
          (breaks (unbroken_keeping old kept_to unbroken))

      ends_broken_so : (IsUnbroken new → ⊥)
          → CompactsOpening order env by old from tables choices (Err status) new mid between
      ends_broken_so broken = record {
        compacted = Err status;
        compacts = looked_then (Err status) new mid between compacts tt err breaks keeps aside;
        by_score = tt;
        err = err;
        ok = tt;
        broken = (broken, refl);
        breaks = λ usable. inr (broke_for broken);
        kept = loses_none_then;
        damaged = λ has all_below. loses_none_then;
        looked = found;
        paths = paths;
        looks = looked_still (Err status) new mid between compacts tt err breaks keeps aside mid
            (omega arith);
        aside = aside;
      }

    -- the store is broken
    pub ends_broken : (compacted : Result (Unit {0}) Status) (new : OpenStoreValue C) (mid : E)
        (between : TableCache E C FP F)
        → CompactsTables order env by kept at tables choices old.set.last_sequence compacted new mid
        between → OnErr compacted (new.set.full ≡ old.set.full)
        → BreaksForCause env kept at compacted new mid
        → OnErr compacted (NewTablesLoseNothing env old.set.store at mid old.set.next_file)
        → ((IsTrue env.models_disk → AreKept old.set.store (files_at env at) kept_to)
        → NewTablesLoseNothing env old.set.store at mid old.set.next_file)
        → (old.set.log_number ≤ old.log.number → (kind : FileType) (n : ℕ)
        → IsLeftAside old.set kind n → IsLeftAside new.set kind n)
        → (IsUnbroken new → ⊥)
        → CompactsOpening order env by old from tables choices compacted new mid between
    ends_broken (Ok done) new mid between compacts err breaks loses keeps aside broken =
        absurd (broken compacts.keeps.usable)
    ends_broken (Err status) new mid between compacts err breaks loses keeps aside broken =
        ends_broken_so status new mid between compacts err breaks loses keeps aside broken

-- ---- the whole

-- nothing is set aside where the store is broken
pub ended_broken : {E F C FP D P : Type 0} (order : CmpGhosts (InternalKeyCmp C)) (env : Ghosts E F)
    (by : TableOptions C FP) {keys : CmpGhosts D} {filters : FilterGhosts P}
    (choices : TableChoices keys filters) (old : OpenStoreValue C) (from : E)
    (tables : TableCache E C FP F) (new : OpenStoreValue C) (to : E) (now : TableCache E C FP F)
    (result : Result (Unit {0}) Status)
    → CompactsOpening order env by old from tables choices result new to now
    → (IsUnbroken new → ⊥) → EndsOpening order env by old from tables choices result new to now
ended_broken order env by choices old from tables new to now (Ok done) first broken =
    absurd (broken first.ok)
ended_broken order env by choices old from tables new to now (Err status) first broken =
    record { at = to; first = first; aside = tt; unmoved = refl }
