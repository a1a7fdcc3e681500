-- Which premises of a step are there again after it: that the files are a store by these edits,
-- that its manifest and its last log are open, and that what was appended to each file are bytes.
use Rattle.std.specs.Prelude.{◌≡◌, ◌<◌, ◌^◌, ℕ, List, [], None}
use Rattle.std.specs.declared.cmp.Ordering.{Ordering}
use Rattle.leveldb_base.specs.Types.{Pair}
use Rattle.leveldb_env.specs.Env.{AreBytes, Files, SameBut, created, deleted, emptied, extended, in_folder, renamed, synced}
use Rattle.leveldb_mem.specs.Log.{clean}
use Rattle.leveldb_files.specs.Stores.Contents.{Contents}
use Rattle.leveldb_files.specs.Stores.Paths.{current_path, log_path}
use Rattle.leveldb_files.specs.Stores.Store.{HasEdits, HasNoStore, IsManagedBy, IsStore, LastNumbersFit, contents_of}
use Rattle.leveldb_files.specs.Steps.StoreSteps.{AppendedAreBytes, HasNextCurrent, IsAboveLogs, IsAllKept, IsManifestOpen, IsNew, IsUnread, MakesFile}
use Rattle.leveldb_files.specs.Edits.Edit.{Edit}
use Rattle.leveldb_files.specs.Edits.VersionSet.{live_after}

-- ---- bytes

-- after each call that changes files, what was appended to each file are bytes
pub record AppendedAreBytesAfter (files : Files) : Type 0 where
  pub make : (name : List ℕ) → AppendedAreBytes (created name files)
  pub empty : (name : List ℕ) → AppendedAreBytes (emptied name files)
  pub append : (name bytes : List ℕ) → AreBytes bytes → AppendedAreBytes (extended name bytes files)
  pub sync : (name : List ℕ) → AppendedAreBytes (synced name files)
  pub rename : (from to : List ℕ) → AppendedAreBytes (renamed from to files)
  pub delete : (name : List ℕ) → AppendedAreBytes (deleted name files)

-- where they were bytes before, they are bytes after each call
abbrev pub BytesStay : Type 0
BytesStay = (files : Files) → AppendedAreBytes files → AppendedAreBytesAfter files

-- ---- a manifest that is kept

-- `CURRENT` and the manifest that it names are kept, and the manifest has these edits
pub record HasKeptEdits (store : List ℕ) (files : Files) (edits : List Edit) : Type 0 where
  pub has_edits : HasEdits store files edits
  pub current : has_edits.current.since ≡ []
  pub manifest : has_edits.manifest.since ≡ []

module _ (store : List ℕ) (cmp : List ℕ → List ℕ → Ordering)
    (IsTableOf : List ℕ → List Pair → Type 0) where
  -- a store is read by the edits of its manifest
  abbrev pub ReadByEdits : Type 0
  ReadByEdits = (files : Files) (edits : List Edit) (contents : Contents)
      → HasEdits store files edits → IsStore store cmp IsTableOf files contents
      → IsManagedBy store cmp IsTableOf files edits contents

  -- ---- the same store

  -- by the same edits the new files are the same store as the old ones
  pub record IsSameStore (old new : Files) : Type 0 where
    pub edits : (edits : List Edit) → HasEdits store old edits → HasEdits store new edits
    pub managed : (edits : List Edit) (contents : Contents) → HasEdits store old edits
        → IsManagedBy store cmp IsTableOf old edits contents
        → IsManagedBy store cmp IsTableOf new edits contents

  -- after a sync of any file the store is the same
  abbrev pub SameAfterSyncs : Type 0
  SameAfterSyncs = (name : List ℕ) (files : Files) → IsSameStore files (synced name files)

  -- after a new log is made whose number is above those of all logs, the store is the same
  abbrev pub SameAfterNewLogs : Type 0
  SameAfterNewLogs = (files : Files) (n : ℕ) → n < 2 ^ 64 → IsAboveLogs store files n
      → files (log_path store n) ≡ None → (now : Files) → MakesFile (log_path store n) files now
      → IsSameStore files now

  -- after any change of a file that isn't read the store is the same
  abbrev pub SameAfterUnread : Type 0
  SameAfterUnread = (path : List ℕ) (old new : Files) → SameBut path old new → AppendedAreBytes old
      → IsUnread store old path → IsSameStore old new

  -- ---- a new `CURRENT`

  -- After the rename onto `CURRENT` the store has the edits of the new manifest, which is open
  -- where it ends cleanly, and what was a store by these edits is one now.
  pub record OpensManifest (files : Files) (temp : List ℕ) (edits : List Edit)
      (h : HasNextCurrent store files temp edits) : Type 0 where
    pub kept : HasKeptEdits store (renamed (in_folder store temp) (current_path store) files) edits
    pub opened : h.is.end ≡ clean
        → IsManifestOpen store (renamed (in_folder store temp) (current_path store) files) edits
    pub managed : (contents : Contents) → IsManagedBy store cmp IsTableOf files edits contents
        → IsManagedBy store cmp IsTableOf
        (renamed (in_folder store temp) (current_path store) files) edits contents

  -- a rename onto `CURRENT` opens the manifest that the new text names
  abbrev pub RenamesOpen : Type 0
  RenamesOpen = (files : Files) (temp : List ℕ) (edits : List Edit)
      (h : HasNextCurrent store files temp edits) → OpensManifest files temp edits h

  -- where it makes the first `CURRENT`, the store is new, and all that is read of it is kept
  abbrev pub FirstCurrentIsKept : Type 0
  FirstCurrentIsKept = (files : Files) → HasNoStore store files
      → (temp : List ℕ) (edits : List Edit) → HasNextCurrent store files temp edits
      → (n : IsNew (live_after edits)) → LastNumbersFit edits
      → IsAllKept store cmp IsTableOf (renamed (in_folder store temp) (current_path store) files)
      (contents_of n.comparator [] [] 0)
