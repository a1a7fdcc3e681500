-- A compaction of an open store, as its call makes it: from what made its tables, and from what
-- logged its edit.
use Rattle.std.specs.Prelude.{◌≢◌, IsTrue, OnErr, OnOk}
use Rattle.std.proofs.Common.{◌≡◌, ◌⊎◌, ◌∙◌, ◌+◌, ◌++◌, inl, inr, ⊎_elim, ℕ, List, Option, None, Some, Ok, Err, Result, ap, map, subst, sym}
use Rattle.std.specs.Cmp.{IsTotalOrder}
use Rattle.leveldb_base.specs.Error.{IsOutOfMemory}
use Rattle.leveldb_base.specs.declared.cmp.Cmp.{Ghosts as CmpGhosts}
use Rattle.leveldb_base.specs.declared.cmp.internal.InternalKeyCmp.{InternalKeyCmp}
use Rattle.leveldb_base.specs.declared.error.Status.{Status}
use Rattle.leveldb_base.specs.declared.types.FileMetaData.{FileMetaData}
use Rattle.leveldb_env.specs.Env.{SameLocks}
use Rattle.leveldb_env.specs.declared.env.Env.{Ghosts}
use Rattle.leveldb_env.specs.declared.filter.FilterPolicy.{Ghosts as FilterGhosts}
use Rattle.leveldb_version.specs.Versions.Change.{IsVersionAfter}
use Rattle.leveldb_version_set.specs.Compactions.Compaction.{MayCompact}
use Rattle.leveldb_version_set.specs.Compactions.CompactionEdit.{compaction_edit}
use Rattle.leveldb_version_set.specs.Sets.CurrentVersion.{IsCurrent}
use Rattle.leveldb_version.specs.Edits.FullEdit.{files_after}
use Rattle.leveldb_version_set.specs.Sets.LogEdit.{AppendsEdit, WritesBytes}
use Rattle.leveldb_version_set.specs.Compactions.Picking.{CompactionValue, DeletesFiles, IsCompactionOf, OnlyPoints}
use Rattle.leveldb_version.specs.Tables.TableCache.{TableOptions}
use Rattle.leveldb_version.specs.Versions.Version.{VersionValue, new_files_of}
use Rattle.leveldb_files.specs.Edits.Edit.{Edit, LevelFile, LevelsFit, NewFile}
use Rattle.leveldb_version.specs.Edits.VersionEdit.{edit_of, new_file_of}
use Rattle.leveldb_version_set.specs.Sets.VersionSetValue.{OpenManifest, VersionSetValue, in_use, unmade}
use Rattle.leveldb_version.specs.declared.table_cache.TableCache.{TableCache}
use Rattle.leveldb_version.specs.declared.version_edit.VersionEdit.{VersionEdit}
use Rattle.leveldb_store.proofs.Compactions.CompactEditLemmas.{compaction_keeps_levels, compaction_levels, edit_made, replaces_files}
use Rattle.leveldb_store.proofs.Compactions.CompactKeepsLemmas.{with_numbers}
use Rattle.leveldb_store.proofs.Compactions.CompactStoreLemmas.{compacts_logged, compacts_unlogged, compacts_unmade}
use Rattle.leveldb_store.proofs.Writing.Level0TableLemmas.{in_use_of}
use Rattle.leveldb_store.specs.Tables.BuildTable.{TableChoices}
use Rattle.leveldb_store.specs.Compactions.Compact.{CompactsStore, FailsToCompact, MakesReplacements, ReplacesFiles}
use Rattle.leveldb_store.specs.Keeping.OpenStore.{AreInLevels, HasOwnManifest, IsUnbroken, OpenStoreValue}
use Rattle.leveldb_store.specs.Writing.Room.{HasFailed}

-- the edit of a compaction of this level
pub edit_is : {C : Type 0} (it : CompactionValue C) (deleted : List LevelFile)
    (taken numbered added : VersionEdit) (log level : ℕ) (files : List FileMetaData)
    → OnlyPoints it.edit → level ≡ it.level
    → edit_of taken ≡ record it.edit { deleted = deleted }
    → numbered ≡ record taken { log_number = Some log }
    → added.new_files.items
    ≡ numbered.new_files.items ++ map (λ (file : FileMetaData). (level + 1, file)) files
    → added ≡ record numbered { new_files = added.new_files }
    → edit_of added ≡ compaction_edit log it.edit.pointers deleted
    (map (λ (file : FileMetaData). new_file_of (it.level + 1, file)) files)
edit_is it deleted taken numbered added log level files only same taken_is numbered_is items
    others = edit_made it.edit deleted taken numbered added log (level + 1) files only taken_is
    numbered_is items others
    ∙ ap (λ k. compaction_edit log it.edit.pointers deleted
    (map (λ (file : FileMetaData). new_file_of (k + 1, file)) files)) same

module _ {E F C FP D P X : Type 0} (order : CmpGhosts (InternalKeyCmp C)) {keys : CmpGhosts D}
    {filters : FilterGhosts P} (env : Ghosts E F) (by : TableOptions C FP)
    (choices : TableChoices keys filters) (old : OpenStoreValue C) (from : E)
    (tables : TableCache E C FP F) (smallest : ℕ) (it : CompactionValue C)
    (files : X → List NewFile) (at : E) (now : TableCache E C FP F) where
  -- new numbers are all that a store has more
  numbered_is : (made : Result X Status) (value : OpenStoreValue C)
      → MakesReplacements order env by old from tables choices smallest it files made value at now
      → value ≡ with_numbers old value.set.next_file value.set.given
  numbered_is made value m = m.rest
      ∙ ap (λ (s : VersionSetValue). let v : OpenStoreValue C = record old { set = s } in v)
      m.gives.set

  -- ---- before the edit is logged

  unmade_by : (made : Result X Status) (value : OpenStoreValue C)
      → MakesReplacements order env by old from tables choices smallest it files made value at now
      → (status : Status) → FailsToCompact order env by old from tables choices value at status
      ⊎ HasFailed (env.failures from) (env.failures at)
      → CompactsStore order env by old from tables choices smallest it (Err status) value at now
  unmade_by made value m status why =
      let is = numbered_is made value m in
      subst (λ (v : OpenStoreValue C).
      CompactsStore order env by old from tables choices smallest it (Err status) v at now) (sym is)
      (compacts_unmade order env by choices old from tables smallest it files value.set.next_file
      value.set.given at now made
      (subst (λ (v : OpenStoreValue C).
      MakesReplacements order env by old from tables choices smallest it files made v at now) is m)
      status
      (subst (λ (v : OpenStoreValue C). FailsToCompact order env by old from tables choices v at
      status ⊎ HasFailed (env.failures from) (env.failures at)) is why))

  -- no tables were made
  pub compacts_none : (status : Status) (value : OpenStoreValue C)
      → MakesReplacements order env by old from tables choices smallest it files (Err status) value
      at now
      → CompactsStore order env by old from tables choices smallest it (Err status) value at now
  compacts_none status value m = unmade_by (Err status) value m status
      (⊎_elim (λ fails. inl (inl fails)) (λ failed. inr failed) m.cause.cause)

  -- memory was out after that
  pub compacts_no_more : (x : X) (value : OpenStoreValue C)
      → MakesReplacements order env by old from tables choices smallest it files (Ok x) value at now
      → (status : Status) → IsOutOfMemory status
      → CompactsStore order env by old from tables choices smallest it (Err status) value at now
  compacts_no_more x value m status memory =
      unmade_by (Ok x) value m status (inl (inl (inl memory)))

  -- ---- the edit

  module _ (total : IsTotalOrder by.format.order) (none : old.imm ≡ None)
      (usable : IsUnbroken old) (file_size : ℕ)
      (chosen : IsCompactionOf by.format.order old.current it.manual file_size it) (x : X)
      (deleted : List LevelFile)
      (takes : DeletesFiles (new_files_of it.inputs) it.edit.deleted deleted) where
    abbrev Makes : OpenStoreValue C → Type 0
    Makes value = MakesReplacements order env by old from tables choices smallest it files (Ok x)
        value at now

    abbrev edit_by : OpenStoreValue C → Edit
    edit_by value = compaction_edit value.log.number it.edit.pointers deleted (files x)

    replaces_by : (value : OpenStoreValue C) → Makes value
        → ReplacesFiles by.format.order value.log.number it (edit_by value)
    replaces_by value m = replaces_files by.format.order it value.log.number deleted (files x)
        chosen.only chosen.pointer takes m.fit.0

    -- the levels that it leaves
    levels_by : (user : CmpGhosts C) (value : OpenStoreValue C) (m : Makes value)
        → by.format.order ≡ user.cmp old.cmp
        → AreInLevels env.models_disk (user.cmp value.cmp) value.set.full.added
        → IsCurrent (user.cmp value.cmp) value.cmp value.set value.current
        → AreInLevels env.models_disk (user.cmp value.cmp)
        (files_after (edit_by value) value.set.full.added)
    levels_by user value m same levels current =
        let here : by.format.order ≡ user.cmp value.cmp =
        same ∙ ap (λ (v : OpenStoreValue C). user.cmp v.cmp) (sym m.rest) in
        subst (λ k. AreInLevels env.models_disk k
        (files_after (edit_by value) value.set.full.added)) here
        (compaction_keeps_levels by.format.order it value.log.number (edit_by value)
        (replaces_by value m) env.models_disk total value.set.full.added value.current
        current.same_files
        (subst (λ (v : VersionValue C).
        MayCompact by.format.order (new_files_of v) it.level (new_files_of it.inputs))
        (sym (ap (λ (v : OpenStoreValue C). v.current) m.rest)) chosen.may)
        (subst (λ k. AreInLevels env.models_disk k value.set.full.added) (sym here) levels))

    -- ---- its end

    module _ (to : E) (new : OpenStoreValue C)
        (locks : SameLocks env.models_disk (env.observed at) (env.observed to)) where
      abbrev Logs : Result (Unit {0}) Status → OpenStoreValue C → Type 0
      Logs result value = (one : OpenManifest) → value.set.manifest ≡ in_use one
          → AppendsEdit env.models_disk one value.set (edit_by value) (env.observed at)
          (env.failures at) result new.set (env.observed to) (env.failures to)

      abbrev Writes : Result (Unit {0}) Status → OpenStoreValue C → Type 0
      Writes result value = (one : OpenManifest) → value.set.manifest ≡ in_use one
          → WritesBytes env.models_disk value.set (edit_by value) (env.observed at) result
          (env.observed to)

      -- from these facts of the store whose tables were made
      abbrev Ends : Result (Unit {0}) Status → OpenStoreValue C → Type 0
      Ends result value = Makes value → value.set.manifest ≢ unmade
          → (IsTrue env.models_disk → HasOwnManifest value.set) → Logs result value
          → Writes result value
          → new ≡ record value { set = new.set; current = new.current }
          → OnOk result (IsVersionAfter by.format.order (edit_by value) value.current new.current)
          → OnErr result (new ≡ record value { set = new.set })
          → CompactsStore order env by old from tables choices smallest it result new to now

      ends_numbered : (n : ℕ) (g : Option ℕ) (result : Result (Unit {0}) Status)
          → Ends result (with_numbers old n g)
      ends_numbered n g (Ok done) m made own logs writes rest follows err =
          let used = in_use_of old.set.manifest made usable.manifest in
          subst (λ (v : OpenStoreValue C).
          CompactsStore order env by old from tables choices smallest it (Ok done) v to now)
          (sym rest)
          (compacts_logged order env by choices old from tables smallest it files n g at now x m
          total none usable deleted chosen.only takes (replaces_by (with_numbers old n g) m) used.0
          used.1 own to new.set locks new.current logs writes follows)
      ends_numbered n g (Err status) m made own logs writes rest follows err =
          let used = in_use_of old.set.manifest made usable.manifest in
          subst (λ (v : OpenStoreValue C).
          CompactsStore order env by old from tables choices smallest it (Err status) v to now)
          (sym err)
          (compacts_unlogged order env by choices old from tables smallest it files n g at now x m
          total none usable deleted chosen.only takes (replaces_by (with_numbers old n g) m) used.0
          used.1 own to new.set locks status logs writes)

      compacts_by : (result : Result (Unit {0}) Status) (value : OpenStoreValue C)
          → Ends result value
      compacts_by result value m = subst (Ends result) (sym (numbered_is (Ok x) value m))
          (ends_numbered value.set.next_file value.set.given result) m

  -- ---- by what made the tables

  module _ (x : X) (value : OpenStoreValue C)
      (m : MakesReplacements order env by old from tables choices smallest it files (Ok x) value at
      now) (file_size : ℕ) (deleted : List LevelFile)
      (chosen : IsCompactionOf by.format.order old.current it.manual file_size it)
      (takes : DeletesFiles (new_files_of it.inputs) it.edit.deleted deleted) where
    abbrev pub made_edit : Edit
    made_edit = compaction_edit value.log.number it.edit.pointers deleted (files x)

    pub made_levels_fit : LevelsFit made_edit
    made_levels_fit = compaction_levels by.format.order it value.log.number made_edit
        (replaces_files by.format.order it value.log.number deleted (files x) chosen.only
        chosen.pointer takes m.fit.0) (new_files_of old.current) chosen.may

    module _ (total : IsTotalOrder by.format.order) (none : old.imm ≡ None)
        (usable : IsUnbroken old) where
      pub made_levels : (user : CmpGhosts C) → by.format.order ≡ user.cmp old.cmp
          → AreInLevels env.models_disk (user.cmp value.cmp) value.set.full.added
          → IsCurrent (user.cmp value.cmp) value.cmp value.set value.current
          → AreInLevels env.models_disk (user.cmp value.cmp)
          (files_after made_edit value.set.full.added)
      made_levels user = levels_by total none usable file_size chosen x deleted takes user value m

      pub compacts_made : (user : CmpGhosts C) → by.format.order ≡ user.cmp old.cmp
          → value.set.manifest ≢ unmade
          → (IsTrue env.models_disk → HasOwnManifest value.set) → (to : E) (new : OpenStoreValue C)
          (result : Result (Unit {0}) Status)
          → ((one : OpenManifest) → value.set.manifest ≡ in_use one
          → AppendsEdit env.models_disk one value.set made_edit (env.observed at) (env.failures at)
          result new.set (env.observed to) (env.failures to))
          → ((one : OpenManifest) → value.set.manifest ≡ in_use one
          → WritesBytes env.models_disk value.set made_edit (env.observed at) result
          (env.observed to))
          → SameLocks env.models_disk (env.observed at) (env.observed to)
          → new ≡ record value { set = new.set; current = new.current }
          → OnOk result (IsVersionAfter (user.cmp value.cmp) made_edit value.current new.current)
          → OnErr result (new ≡ record value { set = new.set })
          → CompactsStore order env by old from tables choices smallest it result new to now
      compacts_made user same made own to new result logs writes locks rest follows err =
          let here : user.cmp value.cmp ≡ by.format.order =
          ap (λ (v : OpenStoreValue C). user.cmp v.cmp) m.rest ∙ sym same in
          compacts_by total none usable file_size chosen x deleted takes to new locks result value m
          made own logs writes rest
          (subst (λ k. OnOk result (IsVersionAfter k made_edit value.current new.current)) here
          follows) err
