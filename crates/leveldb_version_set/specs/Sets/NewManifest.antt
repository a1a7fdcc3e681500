-- Making a manifest, and having `CURRENT` name it.
use Rattle.std.specs.Prelude.{◌≡◌, ◌⊎◌, ℕ, List, Some}
use Rattle.std.specs.Str.{bytes_eq}
use Rattle.std.specs.Prelude.{false}
use Rattle.leveldb_env.specs.Env.{Files, kept_file, with_file}
use Rattle.leveldb_mem.specs.Log.{framed, log_block_size}
use Rattle.leveldb_files.specs.Edits.Current.{current_text}
use Rattle.leveldb_version_set.specs.Sets.CurrentFile.{temp_path, with_current}
use Rattle.leveldb_files.specs.Stores.Paths.{current_path, manifest_path}

-- the bytes of a manifest of these records
abbrev pub manifest_bytes : List (List ℕ) → List ℕ
manifest_bytes records = framed log_block_size records 0

-- the manifest of this number has these bytes, all kept, and `CURRENT` names it
abbrev pub with_manifest : List ℕ → ℕ → List ℕ → Files → Files
with_manifest store n bytes files =
    with_current store n (with_file (manifest_path store n) (Some (kept_file bytes)) files)

-- On the way to that: `CURRENT` is as it was, or it names the manifest, which is whole and kept;
-- and but for the manifest and the temporary file all else is as it was.
pub record MakingManifest (store : List ℕ) (n : ℕ) (bytes : List ℕ) (old files : Files)
    : Type 0 where
  pub others : (other : List ℕ) → bytes_eq (manifest_path store n) other ≡ false
      → bytes_eq (temp_path store n) other ≡ false → bytes_eq (current_path store) other ≡ false
      → files other ≡ old other
  pub current : (files (current_path store) ≡ old (current_path store))
      ⊎ ((files (current_path store) ≡ Some (kept_file (current_text n)))
      × (files (manifest_path store n) ≡ Some (kept_file bytes)))
