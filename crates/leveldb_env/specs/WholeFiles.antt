-- What a file is that was read or replaced whole, and what one is that must be there.
use Rattle.std.specs.Prelude.{◌≡◌, ◌≢◌, ◌⊎◌, ℕ, Bool, false, List, None, Some, IfSome, Result, Ok, Err, IsErrAnd, IsTrue, codes, string_bytes}
use Rattle.std.specs.Str.{bytes_eq}
use Rattle.leveldb_base.specs.declared.error.Status.{Status}
use Rattle.leveldb_base.specs.declared.error.StatusCode.TheVariants.{Corruption, NotFound}
use Rattle.leveldb_env.specs.Env.{Files, Observed, with_file, kept_file, deleted}
use Rattle.leveldb_base.specs.Error.{status_text, annotated, IsOutOfMemory}

-- the name has these bytes, all kept, and the temporary name no file
abbrev pub replaced : List ℕ → List ℕ → List ℕ → Files → Files
replaced temp name bytes files = with_file name (Some (kept_file bytes)) (deleted temp files)

-- On the way the name has what it had, or these bytes, all kept; and the other names but the
-- temporary one have what they had.
pub record Replacing (temp name bytes : List ℕ) (old files : Files) : Type 0 where
  -- the name has what it had, or the new bytes
  pub either : (files name ≡ old name) ⊎ (files name ≡ Some (kept_file bytes))
  -- the names but these two have what they had
  pub others : (other : List ℕ) → bytes_eq temp other ≡ false → bytes_eq name other ≡ false
      → files other ≡ old other

-- ---- files that must be there

-- the error for a file that must be there and is missing
pub record IsMissingFile (name : List ℕ) (e : Status) : Type 0 where
  -- `Corruption`
  pub code : e.code ≡ Corruption
  -- with this text, where there was memory for one
  pub text : IfSome e.err
      (λ text. string_bytes text ≡ status_text Corruption (annotated (codes "missing file") name))

-- the same answer, but that error in place of `NotFound`
abbrev pub IsFoundOr : {T : Type 0} → List ℕ → Result T Status → Result T Status → Type 0
IsFoundOr name (Ok value) result = result ≡ Ok value
IsFoundOr name (Err status) result = ((status.code ≢ NotFound) × (result ≡ Err status))
    ⊎ ((status.code ≡ NotFound) × IsErrAnd result (IsMissingFile name))

-- Out of memory; or the file is missing from a disk that is modelled, where nothing was counted.
abbrev pub IsLost : Bool → List ℕ → Observed → ℕ → ℕ → Status → Type 0
IsLost models_disk name observed before now e = IsOutOfMemory e
    ⊎ (IsMissingFile name e × (IsTrue models_disk → observed.disk.files name ≡ None)
    × (now ≡ before))

-- Out of memory; or a file that was just made is missing from a disk that is not modelled, where
-- nothing was counted.
abbrev pub IsLostUnobserved : Bool → List ℕ → ℕ → ℕ → Status → Type 0
IsLostUnobserved models_disk name before now e = IsOutOfMemory e
    ⊎ (IsMissingFile name e × (IsTrue models_disk → ⊥) × (now ≡ before))
