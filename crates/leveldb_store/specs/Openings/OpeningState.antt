-- The store between two steps of an opening, once its set is recovered and its logs are kept.
use Rattle.std.specs.Prelude.{◌≡◌, ◌≢◌, ◌<◌, ◌≤◌, ◌^◌, ℕ, List, None, Some, Contains}
use Rattle.std.specs.List.Sorted.{IsStrictlySortedBy}
use Rattle.std.specs.Ordering.{nat_cmp}
use Rattle.std.specs.declared.cmp.Ordering.{Ordering}
use Rattle.leveldb_base.specs.Names.{IsFileName}
use Rattle.leveldb_base.specs.declared.types.FileType.TheVariants.{Log}
use Rattle.leveldb_env.specs.Env.{Files, in_folder}
use Rattle.leveldb_files.specs.Stores.Contents.{Contents, made}
use Rattle.leveldb_files.specs.Stores.Paths.{log_path}
use Rattle.leveldb_files.specs.Stores.Store.{IsManagedBy, LogIsReplayed}
use Rattle.leveldb_files.specs.Edits.Edit.{Edit}
use Rattle.leveldb_files.specs.Edits.VersionSet.{live_after}
use Rattle.leveldb_version_set.specs.Sets.VersionSetValue.{VersionSetValue}
use Rattle.leveldb_version_set.specs.Engines.Writing.{IsRecoveredBy}
use Rattle.leveldb_files.specs.Stores.Format.{IsTableOf, Meaning}

-- the contents with this comparator's name: of a store that is there, or of a new one in place of
-- none
abbrev pub with_comparator : List ℕ → Contents → Contents
with_comparator comparator contents = record contents { store = made (Some comparator) }

-- a store is there, with this comparator's name
abbrev pub HasComparator : List ℕ → Contents → Type 0
HasComparator comparator contents = contents.store ≡ made (Some comparator)

-- The set was recovered and all its logs are kept: the files are a store with these contents, by
-- edits that the set tracks, and these are the numbers of its logs.
pub record IsRecoveredWith (store : List ℕ) (cmp : List ℕ → List ℕ → Ordering) (meaning : Meaning)
    (contents : Contents) (set : VersionSetValue) (numbers : List ℕ) (files : Files)
    : Type 0 where
  pub edits : List Edit
  pub by : IsRecoveredBy store cmp (IsTableOf cmp meaning) files edits set
  pub managed : IsManagedBy store cmp (IsTableOf cmp meaning) files edits contents
  pub each : (n : ℕ) → Contains numbers n
      → (n < 2 ^ 64) × LogIsReplayed (live_after edits) n × (files (log_path store n) ≢ None)
  pub all : (name : List ℕ) (n : ℕ) → IsFileName name n Log → LogIsReplayed (live_after edits) n
      → files (in_folder store name) ≢ None → Contains numbers n
  pub rising : IsStrictlySortedBy nat_cmp numbers
  -- the set's last number is the manifest's, and its numbers of files fit
  pub last : (live_after edits).last_sequence ≡ Some set.last_sequence
  pub next_fits : set.next_file < 2 ^ 64
  pub log_below : set.log_number ≤ set.next_file
