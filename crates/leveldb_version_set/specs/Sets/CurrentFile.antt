-- Reading and replacing the file `CURRENT`.
use Rattle.std.specs.Prelude.{◌≡◌, ◌⊎◌, ℕ, Bool, List, IfSome, IsTrue}
use Rattle.leveldb_base.specs.declared.error.Status.{Status}
use Rattle.leveldb_base.specs.declared.error.StatusCode.TheVariants.{Corruption}
use Rattle.leveldb_base.specs.Names.{file_path}
use Rattle.leveldb_base.specs.declared.types.FileType.TheVariants.{Temp}
use Rattle.leveldb_env.specs.Env.{Files, Observed, bytes_of}
use Rattle.leveldb_env.specs.WholeFiles.{IsLost, Replacing, replaced}
use Rattle.leveldb_files.specs.Edits.Current.{IsCurrentText, current_text}
use Rattle.leveldb_files.specs.Stores.Paths.{current_path}

-- the text names no manifest
pub record IsNoCurrentText (text : List ℕ) (status : Status) : Type 0 where
  pub code : status.code ≡ Corruption
  pub none : (name : List ℕ) (n : ℕ) → IsCurrentText text name n → ⊥

-- Why the manifest isn't found: out of memory; `CURRENT` is missing, or its text names no manifest,
-- where nothing was counted.
abbrev pub IsCurrentUnread : Bool → List ℕ → Observed → ℕ → ℕ → Status → Type 0
IsCurrentUnread models_disk store observed before now e =
    IsLost models_disk (current_path store) observed before now e
    ⊎ ((text : List ℕ) × IsNoCurrentText text e × (now ≡ before)
    × (IsTrue models_disk
    → IfSome (observed.disk.files (current_path store)) (λ file. text ≡ bytes_of file)))

-- the temporary file that becomes `CURRENT` for a manifest
abbrev pub temp_path : List ℕ → ℕ → List ℕ
temp_path store manifest = file_path store Temp manifest

-- `CURRENT` names this manifest
abbrev pub with_current : List ℕ → ℕ → Files → Files
with_current store manifest =
    replaced (temp_path store manifest) (current_path store) (current_text manifest)

-- on the way to it: `CURRENT` is as it was or names the manifest, and other files but the temporary
-- one are as they were
abbrev pub SettingCurrent : List ℕ → ℕ → Files → Files → Type 0
SettingCurrent store manifest =
    Replacing (temp_path store manifest) (current_path store) (current_text manifest)
