-- What a version set knows beside its version, and what its calls on numbers change of it.
use Rattle.std.specs.Prelude.{◌≡◌, ◌+◌, ◌-◌, ◌^◌, ℕ, Bool, false, true, List, [], Option, None, Some, fold, map, max}
use Rattle.std.specs.BTreeSet.{insert_key}
use Rattle.std.specs.Ordering.{nat_cmp}
use Rattle.leveldb_base.specs.declared.error.Status.{Status}
use Rattle.leveldb_base.specs.declared.error.StatusCode.TheVariants.{NotSupported}
use Rattle.leveldb_mem.specs.Log.LogFile.{LogFileState}
use Rattle.leveldb_files.specs.Edits.Edit.{Edit, NewFile, empty_edit}

-- a manifest that edits are appended to: a log, with its path under the store's
abbrev pub OpenManifest : Type 0
OpenManifest = LogFileState

-- Which manifest a version set has: none yet, so that the next edit begins a new one; one in use;
-- or one that is broken, since a call on it failed, so that no edit is taken any more.
pub data ManifestState : Type 0 where
  unmade : ManifestState
  in_use : OpenManifest → ManifestState
  broken : ManifestState

-- the state of a manifest that was opened or not, and of a set that is broken or not
abbrev pub manifest_state : Bool → Option OpenManifest → ManifestState
manifest_state true _ = broken
manifest_state false None = unmade
manifest_state false (Some manifest) = in_use manifest

-- a version set without its version: the live files as one list, their numbers, and the manifest
pub record VersionSetValue : Type 0 where
  -- the store's path
  pub store : List ℕ
  -- the comparator's name, the compaction pointers and the live files, as one edit without numbers
  pub full : Edit
  -- the number that the next file takes, and the one that was given last and may be taken back
  pub next_file : ℕ
  pub given : Option ℕ
  -- the number of the manifest, in use or to be made
  pub manifest_number : ℕ
  -- the greatest number of an entry, the log's number, and that of the log before it, or 0
  pub last_sequence : ℕ
  pub log_number : ℕ
  pub previous_log : ℕ
  -- the manifest that the next edit goes to
  pub manifest : ManifestState

-- a version set without files, for a store that isn't read yet
abbrev pub new_version_set : List ℕ → List ℕ → VersionSetValue
new_version_set store comparator = record {
  store = store;
  full = record empty_edit { comparator = Some comparator };
  next_file = 2;
  given = None;
  manifest_number = 0;
  last_sequence = 0;
  log_number = 0;
  previous_log = 0;
  manifest = unmade;
}

-- ---- numbers of files

-- the next number is given
abbrev pub with_number_given : VersionSetValue → VersionSetValue
with_number_given set = record set { next_file = set.next_file + 1; given = Some set.next_file }

-- the number that was given last is free again
abbrev pub with_number_free : VersionSetValue → ℕ → VersionSetValue
with_number_free set n = record set { next_file = n; given = None }

-- this number and all below it are used: a number that was given below it stays so
abbrev pub with_numbers_used : VersionSetValue → ℕ → VersionSetValue
with_numbers_used set n = record set { next_file = max set.next_file (n + 1); given = None }

-- the file numbers are used up
pub record AreFileNumbersUsedUp (n : ℕ) (status : Status) : Type 0 where
  pub code : status.code ≡ NotSupported
  pub last : n ≡ 2 ^ 64 - 1

-- the numbers of files, in order, each once
abbrev pub numbers_in_order : List NewFile → List ℕ
numbers_in_order files = fold (insert_key nat_cmp) [] (map (λ file. file.number) files)
