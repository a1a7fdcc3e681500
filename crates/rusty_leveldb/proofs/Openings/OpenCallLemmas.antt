-- What opening an engine does, put together: an opening that ends before the lock is taken, one
-- whose store isn't opened, and one that is done.
use Rattle.std.specs.Prelude.{Result}
use Rattle.std.proofs.Common.{◌≡◌, ◌≤◌, ◌+◌, ◌⊎◌, ◌∙◌, ⊎_elim, inl, inr, ℕ, Bool, true, List, refl, sym, ap, subst, arith, None, Err, IsTrue}
use Rattle.leveldb_base.specs.Error.{IsOutOfMemory}
use Rattle.leveldb_base.specs.declared.error.Status.{Status}
use Rattle.leveldb_base.specs.declared.error.StatusCode.TheVariants.{LockError}
use Rattle.leveldb_env.specs.Env.{BeforeOrAfter, ChangesFiles, Files, FilesUnchanged, HasCause, IsLocked, Observed, Run, SameBut, SameLocks, created, same}
use Rattle.leveldb_env.specs.Options.{Boxed, OptionsOf}
use Rattle.leveldb_env.specs.declared.env.Env.{Ghosts}
use Rattle.leveldb_env.specs.declared.filter.FilterPolicy.{Ghosts as FilterGhosts}
use Rattle.leveldb_env.proofs.EnvLemmas.{Run-call, Run-mono, SameBut-created, begun, call}
use Rattle.leveldb_files.proofs.Steps.BytesLemmas.{bytes_stay}
use Rattle.leveldb_files.specs.Stores.Paths.{lock_path}
use Rattle.leveldb_files.specs.Steps.StoreSteps.{AppendedAreBytes}
use Rattle.leveldb_store.proofs.Keeping.KeptBytesLemmas.{loses_made}
use Rattle.leveldb_store.specs.Keeping.KeptBytes.{IsNotReplaced}
use Rattle.leveldb_store.specs.Tables.BuildTable.{TableChoices}
use Rattle.leveldb_files.specs.Stores.Format.{Agrees, Format, Meaning}
use Rattle.leveldb_store.specs.Writing.Room.{HasFailed}
use Rattle.rusty_leveldb.specs.Engines.Boxes.{InternalOrder}
use Rattle.rusty_leveldb.specs.Engines.Calls.{EngineOpens}
use Rattle.rusty_leveldb.specs.Machines.Causes.{Cause, IsCausedBy, device_failed}
use Rattle.rusty_leveldb.specs.Engines.Engine.{AnswersAs, formats_of, IsOpening, IsStoreName, Recalls}
use Rattle.rusty_leveldb.specs.Engines.Frame.{IsOwn, Spares}
use Rattle.rusty_leveldb.specs.Engines.Serves.{Represents, refusal_of, setting_between}
use Rattle.rusty_leveldb.specs.Machines.State.{Opening, State, open_store, refused}
use Rattle.rusty_leveldb.specs.Openings.Unopened.{MakesLockAlone, OpenExcused}
use Rattle.rusty_leveldb.proofs.Openings.OpeningLemmas.{lock_spares, taken_holds}
use Rattle.rusty_leveldb.proofs.Engines.Others.{others_made, spares_made}
use Rattle.rusty_leveldb.proofs.Openings.UnderLockLemmas.{made_aside}
use Rattle.rusty_leveldb.proofs.Engines.RowLemmas.{unopened_row}
use Rattle.rusty_leveldb.proofs.Openings.UnopenedLemmas.{open_cause}
use Rattle.rusty_leveldb.proofs.Openings.UnopenedStepLemmas.{unopened_goes}

-- ---- before the lock is taken

-- the lock's file was made at most, and no lock has changed
pub record IsNear (store : List ℕ) (from to : Observed) : Type 0 where
  pub run : MakesLockAlone store from to
  pub locks : to.disk.locked ≡ from.disk.locked

pub near_still : (store : List ℕ) (at : Observed) → IsNear store at at
near_still store at = record { run = begun at (inl refl); locks = refl }

pub near_folder : {T : Type 0} {models_disk : Bool} {result : Result T Status} (store : List ℕ)
    (from to : Observed) → IsTrue models_disk
    → ChangesFiles models_disk same FilesUnchanged from to result → SameLocks models_disk from to
    → IsNear store from to
near_folder store from to modelled does locks = record {
  run = Run-mono (λ files is. inl is) (Run-call modelled does);
  locks = locks modelled;
}

-- the lock's call, after the folder's
pub near_lock : {T : Type 0} {models_disk : Bool} {result : Result T Status} (store lock : List ℕ)
    (from folder to : Observed) → IsTrue models_disk → lock ≡ lock_path store
    → Run (FilesUnchanged from.disk.files) from folder
    → ChangesFiles models_disk (created lock) (BeforeOrAfter (created lock)) folder to result
    → Run (BeforeOrAfter (created (lock_path store)) from.disk.files) from to
near_lock store lock from folder to modelled is before does = call modelled
    (Run-mono (λ files same. inl same) before)
    (λ files passes. subst (λ f. BeforeOrAfter (created (lock_path store)) f files) before.has
    (subst (λ l. BeforeOrAfter (created l) folder.disk.files files) is passes)) does

-- why a call failed, after ones that counted nothing
pub why_of : {T : Type 0} {P : Status → Type 0} {Excused : Type 0} (before mid now : ℕ) (e : Status)
    → mid ≡ before → (P e → Excused) → HasCause {T = T} P mid now (Err e)
    → Excused ⊎ HasFailed before now
why_of {P = P} before mid now e same so cause = ⊎_elim (λ (p : P e). inl (so p))
    (λ counted. inr (⊎_elim (λ (more : now ≡ mid + 1). inl (omega (arith, same, more)))
    (λ full. inr (sym same ∙ full.0)) counted)) cause.cause

-- the lock is held, and was before the folder was made
pub lock_excused : {models_disk : Bool} (store lock : List ℕ) (from folder : Observed) (e : Status)
    → lock ≡ lock_path store → SameLocks models_disk from folder → IsLocked models_disk lock folder e
    → IsOutOfMemory e ⊎ ((e.code ≡ LockError)
    × (IsTrue models_disk → IsTrue (from.disk.locked (lock_path store))))
lock_excused store lock from folder e is locks (inl memory) = inl memory
lock_excused store lock from folder e is locks (inr held) = inr (
  held.0,
  λ modelled. sym (ap (λ (l : List ℕ → Bool). l (lock_path store)) (locks modelled))
      ∙ subst (λ l. folder.disk.locked l ≡ true) is (held.1 modelled),
)

module _ {E C FP F P : Type 0} {B : Boxed} {keys : InternalOrder C} {key_filters : FilterGhosts P}
    (env : Ghosts E F) (choices : OptionsOf C FP B → TableChoices keys key_filters)
    (store : List ℕ) (options : OptionsOf C FP B) (asked : Opening) (from to : E) (e : Status)
    (asked_is : formats_of choices options ≡ asked.format) where
  abbrev formats : OptionsOf C FP B → Format
  formats = formats_of choices

  near_but : IsNear store (env.observed from) (env.observed to)
      → SameBut (lock_path store) (env.observed from).disk.files (env.observed to).disk.files
  near_but near = SameBut-created (lock_path store) (env.observed from).disk.files
      (env.observed to).disk.files near.run.has

  made_bytes : (files now : Files) → BeforeOrAfter (created (lock_path store)) files now
      → AppendedAreBytes files → AppendedAreBytes now
  made_bytes files now (inl is) bytes = subst AppendedAreBytes (sym is) bytes
  made_bytes files now (inr is) bytes =
      subst AppendedAreBytes (sym is) ((bytes_stay files bytes).make (lock_path store))

  near_others : IsNear store (env.observed from) (env.observed to)
      → Spares store (IsOwn store) (env.observed from).disk (env.observed to).disk
  near_others near = spares_made store (env.observed from).disk (env.observed to).disk
      (others_made store (env.observed from).disk (env.observed to).disk near.run.has
      (λ path apart. ap (λ (l : List ℕ → Bool). l path) near.locks))

  -- a cause, where the device has no part in it or has
  cause_of : (opening : Opening) → IsOpening store asked opening → (meaning : Meaning)
      → Agrees opening.format meaning → IsTrue env.models_disk → (old : State)
      → Represents store meaning (Recalls keys env formats store meaning) None
      (env.observed from).disk old → (mid : ℕ)
      → OpenExcused env store (choices options) asked from e ⊎ HasFailed (env.failures from) mid
      → (cause : Cause) × IsCausedBy (setting_between meaning (env.failures from) mid) old
      (open_store opening) (refusal_of e) cause
  cause_of opening is meaning agrees modelled old was mid (inl why) =
      open_cause env store meaning asked opening is agrees from modelled old was.disk_is
      (setting_between meaning (env.failures from) mid) e (choices options) asked_is why
  cause_of opening is meaning agrees modelled old was mid (inr failed) =
      (device_failed, (tt, failed))

  -- the step, if the options say of names and ids what they mean
  stepped : (IsTrue env.models_disk → IsNear store (env.observed from) (env.observed to))
      → env.failures from ≤ env.failures to
      → OpenExcused env store (choices options) asked from e ⊎ HasFailed (env.failures from) (env.failures to)
      → (opening : Opening) → IsOpening store asked opening → (meaning : Meaning)
      → Agrees opening.format meaning
      → AnswersAs keys env formats store meaning None from (open_store opening)
      (refused (refusal_of e)) None to
  stepped near later why opening is meaning agrees modelled old was =
      let by = near modelled in
      let cause = cause_of opening is meaning agrees modelled old was (env.failures to) why in
      unopened_goes env formats store meaning opening from old was to e old.store (inl refl)
      (taken_holds store meaning opening agrees (env.observed from) old was.disk_is
      (env.observed to) (near_but by))
      (made_bytes (env.observed from).disk.files (env.observed to).disk.files by.run.has
      was.disk_is.bytes)
      (Run-mono (λ files passes. lock_spares store meaning opening agrees (env.observed from) old
      was.disk_is files (SameBut-created (lock_path store) (env.observed from).disk.files files
      passes)) by.run)
      (near_others by) (env.failures to) later (omega arith)
      (inl (ap (λ (l : List ℕ → Bool). l (lock_path store)) by.locks)) cause.0 cause.1
      (λ early. refl)

  pub early_opens : (IsTrue env.models_disk → IsNear store (env.observed from) (env.observed to))
      → env.failures from ≤ env.failures to
      → OpenExcused env store (choices options) asked from e ⊎ HasFailed (env.failures from) (env.failures to)
      → ((IsStoreName store × IsTrue asked.fits × IsTrue asked.compresses → ⊥) → to ≡ from)
      → EngineOpens env choices store options asked from
      (Err e) to
  early_opens near later why misnamed = record {
    ok = tt;
    err = λ opening is meaning agrees. unopened_row keys env formats store opening meaning from to e
        (stepped near later why opening is meaning agrees);
    found = tt;
    opened = tt;
    ends = tt;
    tidy = tt;
    held = tt;
    others = λ modelled. near_others (near modelled);
    aside = λ modelled. made_aside store (env.observed from).disk.files
        (env.observed to).disk.files (near modelled).run.has;
    step = stepped near later why;
    time = λ modelled. (near modelled).run.time.later;
    misnamed = λ no. (misnamed no, tt);
    never_opens = λ modelled never. (tt, (near modelled).run);
    kept = λ modelled there. Run-mono
        (λ now made. loses_made (IsNotReplaced store) (lock_path store) (env.observed from).disk.files now made)
        (near modelled).run;
    unopened = λ modelled.
        inl (ap (λ (l : List ℕ → Bool). l (lock_path store)) (near modelled).locks);
    cause = record { later = later; cause = why };
  }
