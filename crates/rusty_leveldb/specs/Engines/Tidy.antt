-- What an engine knows of the obsolete files in its store's folder: what the last removal of them
-- returned.
use Rattle.std.specs.Prelude.{◌≡◌, ◌⊎◌, Result, OnOk, IsTrue}
use Rattle.leveldb_base.specs.declared.error.Status.{Status}
use Rattle.leveldb_env.specs.Options.{Boxed}
use Rattle.leveldb_env.specs.declared.env.Env.{Ghosts}
use Rattle.leveldb_store.specs.Writing.Removal.{IsTidy, LeavesObsolete}
use Rattle.rusty_leveldb.specs.Engines.Boxes.{EngineOf}

module _ {E C FP F : Type 0} {B : Boxed} (env : Ghosts E F) (before : EngineOf E C FP F B)
    (from : E) where
  -- Nothing has become obsolete: no number was given to a file, no edit was logged, and where no
  -- obsolete file was left, none is.
  pub record KeepsTidy (after : EngineOf E C FP F B) (to : E) : Type 0 where
    pub set : after.store.set
        ≡ record before.store.set { last_sequence = after.store.set.last_sequence }
    pub kept_to : after.store.kept_to ≡ before.store.kept_to
    pub tidy : IsTrue env.models_disk → IsTidy before.store (env.observed from).disk.files
        → IsTidy after.store (env.observed to).disk.files

  -- Obsolete files were removed since the call began, and the engine has what the last removal
  -- returned, which says what is left; or it has what it had, and an Ok has made nothing obsolete.
  abbrev pub TidiesOrKeeps : {T : Type 0} → Result T Status → EngineOf E C FP F B → E → Type 0
  TidiesOrKeeps result after to = LeavesObsolete env from after.store after.removal to
      ⊎ ((after.removal ≡ before.removal) × OnOk result (KeepsTidy after to))
