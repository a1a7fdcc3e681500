-- The end of an opening: the edit that has tables in place of logs is logged, or none is, and the
-- store is open.
use Rattle.std.specs.Option.{option_map}
use Rattle.std.specs.Prelude.{◌≢◌, All, Contains, IsTrue}
use Rattle.std.proofs.Common.{◌≡◌, ◌∙◌, ◌⊎◌, inl, inr, ◌≤◌, ◌<◌, ◌^◌, ◌%◌, ℕ, Bool, true, false, List, [], ◌∷◌, ◌++◌, length, None, Option, Some, Ok, Result, ap, arith, refl, subst, sym}
use Rattle.std.proofs.lemmas.List.Elements.{All-cons, All-contains_itself, All-nil, All-weaker}
use Rattle.std.specs.Cmp.Lexicographic.{bytes_decides}
use Rattle.std.specs.Str.{bytes_eq}
use Rattle.std.specs.declared.cmp.Ordering.{Ordering}
use Rattle.leveldb_base.proofs.EntriesLemmas.{in_map}
use Rattle.leveldb_base.proofs.NamesLemmas.{made_name}
use Rattle.leveldb_base.specs.History.{Entry}
use Rattle.leveldb_base.specs.Names.{file_name}
use Rattle.leveldb_base.specs.Types.{Pair}
use Rattle.leveldb_base.specs.declared.error.Status.{Status}
use Rattle.leveldb_base.specs.declared.types.FileMetaData.{FileMetaData}
use Rattle.leveldb_base.specs.declared.types.FileType.{FileType}
use Rattle.leveldb_base.specs.declared.types.FileType.TheVariants.{Current, Descriptor, Log, Table, Temp}
use Rattle.leveldb_env.proofs.EnvLemmas.{Run-call, Run-mono, SameBut-created, SameBut-emptied, at_other, at_same, begun}
use Rattle.leveldb_env.specs.Env.{BeforeOrAfter, Files, Run, SameBut, deleted, extended, file_kept, in_folder, kept_file, longer_file, with_file}
use Rattle.leveldb_env.specs.declared.env.Env.{Ghosts}
use Rattle.leveldb_mem.specs.Log.{log_block_size}
use Rattle.leveldb_mem.specs.Log.Writer.{after_frame, frame, new_writer}
use Rattle.leveldb_version_set.proofs.Engines.OpeningEndLemmas.{openings_end, openings_go_on}
use Rattle.leveldb_files.specs.Stores.Contents.{Contents, Store, made}
use Rattle.leveldb_version_set.specs.Sets.CurrentFile.{temp_path}
use Rattle.leveldb_files.specs.Histories.Holds.{Holds}
use Rattle.leveldb_version_set.specs.Compactions.Inputs.{AreOrdered}
use Rattle.leveldb_version.specs.Edits.FullEdit.{files_after, full_after}
use Rattle.leveldb_version_set.specs.Sets.LogEdit.{AppendingAndSyncing, AppendsEdit, BeginsManifest, LogEditResult, edit_record, new_manifest, new_records, set_appended, set_begun, with_bytes_kept, written_edit}
use Rattle.leveldb_version_set.specs.Sets.NewManifest.{MakingManifest, manifest_bytes, with_manifest}
use Rattle.leveldb_version_set.specs.Engines.Opening.{opened_memory, tables_edit}
use Rattle.leveldb_version_set.specs.Engines.OpeningLaws.{EndsOpening, IsOpened}
use Rattle.leveldb_files.specs.Stores.Paths.{IsFilePath, current_path, log_path, manifest_path, table_path}
use Rattle.leveldb_files.specs.Stores.Store.{IsStore}
use Rattle.leveldb_files.specs.Steps.StoreSteps.{KeepsHistory}
use Rattle.leveldb_files.specs.Edits.Edit.{Edit, LevelsFit, NewFile}
use Rattle.leveldb_version.specs.Edits.VersionEdit.{new_file_of}
use Rattle.leveldb_version_set.specs.Sets.VersionSetValue.{ManifestState, OpenManifest, VersionSetValue, broken, in_use, unmade}
use Rattle.leveldb_version_set.specs.Engines.Writing.{IsWrittenBy}
use Rattle.leveldb_files.specs.Stores.Format.{IsTableOf, Meaning}
use Rattle.leveldb_store.specs.Keeping.OpenStore.{AreInLevels, AreNumbersGiven, HasOwnManifest, OpenStoreValue}
use Rattle.leveldb_store.specs.Openings.OpeningSteps.{LogsTables, files_to_write, made_files, number_to_write}
use Rattle.leveldb_store.specs.Openings.OpensStore.{IsManifestThere, IsOpenedAs, IsOwnPath, SameBesideOwn}
use Rattle.leveldb_store.specs.Writing.Write.{open_log_path}
use Rattle.leveldb_store.specs.Keeping.Written.{memory_of, imm_entries}
use Rattle.leveldb_store.specs.declared.opening.replay.UsedLog.{UsedLog}
use Rattle.leveldb_store.proofs.Keeping.GivenNumbersLemmas.{all_with_each, given_later}
use Rattle.leveldb_store.proofs.Keeping.LevelsApartLemmas.{levels_with_zeros}
use Rattle.leveldb_store.proofs.Openings.OpeningLogLemmas.{HasLogOpen}
use Rattle.leveldb_store.proofs.Writing.SwitchLemmas.{keeps_same, written_as}
use Rattle.leveldb_store.proofs.Keeping.TableKeepsLemmas.{appending_and_syncing, is_log_path, is_table_path, one_reading_of, types_apart}

-- ---- the edit

made_level : (built : List FileMetaData) (file : NewFile) → Contains (made_files built) file
    → file.level < 7
made_level built file c =
    let x = in_map (λ (it : FileMetaData). new_file_of (0, it)) built file c in
    subst (λ (f : NewFile). f.level < 7) x.2 (omega arith)

-- its levels are some of the seven
pub made_levels_fit : (log : ℕ) (built : List FileMetaData)
    → LevelsFit (tables_edit log (made_files built))
made_levels_fit log built = record {
  pointers = λ i d less. absurd (omega (arith, less));
  deleted = λ i d less. absurd (omega (arith, less));
  added = All-weaker (Contains (made_files built)) (λ (file : NewFile). file.level < 7)
      (made_level built) (made_files built) (All-contains_itself (made_files built));
}

-- ---- the manifest is there

-- a new one is
manifest_made : (store : List ℕ) (n : ℕ) → n < 2 ^ 64 → (bytes : List ℕ) (files : Files)
    → with_manifest store n bytes files (manifest_path store n) ≡ Some (kept_file bytes)
manifest_made store n fits bytes files =
    let is : IsFilePath Descriptor store (manifest_path store n) =
    (file_name Descriptor n, n, made_name Descriptor n fits, refl) in
    let whole : Files = with_file (manifest_path store n) (Some (kept_file bytes)) files in
    at_other (current_path store) _ (deleted (temp_path store n) whole) (manifest_path store n)
    (types_apart store (current_path store) (manifest_path store n) Current Descriptor
    (file_name Current 0, 0, made_name Current 0 refl, refl) is (λ e. cc))
    ∙ at_other (temp_path store n) None whole (manifest_path store n)
    (types_apart store (temp_path store n) (manifest_path store n) Temp Descriptor
    (file_name Temp n, n, made_name Temp n fits, refl) is (λ e. cc))
    ∙ at_same (manifest_path store n) (Some (kept_file bytes)) files

none_mapped : {A B : Type 0} (f : A → B) (file : Option A) → option_map f file ≡ None → file ≡ None
none_mapped f None gone = refl
none_mapped f (Some file) gone = let never : Some (f file) ≡ None = gone in absurd (cc never)

-- one that is missing after an append and a sync was missing before
none_before : (path bytes : List ℕ) (files : Files) → with_bytes_kept path bytes files path ≡ None
    → files path ≡ None
none_before path bytes files gone =
    let longer = extended path bytes files in
    none_mapped (longer_file bytes) (files path)
    (sym (at_same path (option_map (longer_file bytes) (files path)) files)
    ∙ none_mapped file_kept (longer path)
    (sym (at_same path (option_map file_kept (longer path)) longer) ∙ gone))

-- ---- the value

-- The value of a store that is open with this set, and with a log of this number, size and entries.
pub record IsOpenValue {C : Type 0} (set : VersionSetValue) (log size : ℕ) (mem : List Entry)
    (value : OpenStoreValue C) : Type 0 where
  pub set_is : value.set ≡ set
  pub number : value.log.number ≡ log
  pub writer : value.log.writer ≡ new_writer log_block_size (size % log_block_size)
  pub mem_is : value.mem.entries ≡ mem
  pub imm : value.imm ≡ None

module _ (store : List ℕ) (cmp : List ℕ → List ℕ → Ordering) (meaning : Meaning)
    (comparator : List ℕ) (contents : Contents) (made_is : contents.store ≡ made (Some comparator))
    (leaves : Bool) (built : List FileMetaData) (set : VersionSetValue) (log size : ℕ)
    (mem : List Entry) (files : Files)
    (h : HasLogOpen store cmp meaning contents leaves built set log size mem files) where
  abbrev T : List ℕ → List Pair → Type 0
  T = IsTableOf cmp meaning

  -- a store that is open with this memory is so as that value
  opened_as : {C : Type 0} (now : Files) (edits : List Edit) (then : VersionSetValue)
      → then.store ≡ store → then.last_sequence ≡ set.last_sequence
      → now (log_path store log) ≡ files (log_path store log)
      → ((allowed : Store → Type 0) → IsOpened store cmp T allowed contents now edits
      (opened_memory then log mem))
      → (value : OpenStoreValue C) → IsOpenValue then log size mem value
      → IsOpenedAs cmp meaning store comparator contents value now
  opened_as {C} now edits then path_is last_is same_log opened value is = record {
    written = written_as cmp meaning value now edits by h.to_write.file there
        (is.writer ∙ ap (λ n. new_writer log_block_size (n % log_block_size)) (sym h.size_is));
    last = ap (λ (v : VersionSetValue). v.last_sequence) is.set_is ∙ last_now;
    holds = λ allowed may history matches.
        subst (λ last. Holds store (IsStore store cmp T) (λ it. IsTrue (allowed it)) now history
        last (length history) None) last_now
        ((opened (λ it. IsTrue (allowed it))).holds history (record {
          same = matches.same;
          up_to = matches.up_to;
          reached = matches.reached;
          bounded = omega (arith, last_now);
          store = subst (λ it. IsTrue (allowed it)) (sym made_is) may;
        }));
  }
    where
      last_now : then.last_sequence ≡ contents.last
      last_now = last_is ∙ sym h.last

      memory_is : opened_memory then log mem ≡ memory_of value
      memory_is = λ i. record {
        set = sym is.set_is i;
        log = sym is.number i;
        mem = sym is.mem_is i;
        imm = sym (ap imm_entries is.imm) i;
      }

      store_is : store ≡ value.set.store
      store_is = sym (ap (λ (v : VersionSetValue). v.store) is.set_is ∙ path_is)

      by : IsWrittenBy value.set.store cmp T now edits (memory_of value)
      by = subst (λ s. IsWrittenBy s cmp T now edits (memory_of value)) store_is
          (subst (IsWrittenBy store cmp T now edits) memory_is
          (opened (λ any. Unit {0})).written)

      path_then : open_log_path value ≡ log_path store log
      path_then = λ i. log_path (sym store_is i) (is.number i)

      there : now (open_log_path value) ≡ Some h.to_write.file
      there = ap now path_then ∙ same_log ∙ h.to_write.there

  -- ---- no edit

  -- where a manifest is in use and no log is left, the store is open
  pub went_on : {C : Type 0} (manifest : OpenManifest) → set.manifest ≡ in_use manifest
      → leaves ≡ false → (value : OpenStoreValue C) → IsOpenValue set log size mem value
      → IsOpenedAs cmp meaning store comparator contents value files
  went_on manifest used none value is =
      opened_as files h.edits set h.by.tracked.store_is refl refl
      (λ allowed. openings_go_on store cmp T allowed files h.edits set h.by contents h.managed
      h.last h.last_fits log mem h.to_write (h.none_below none) manifest used) value is

  -- ---- the edit

  abbrev edit : Edit
  edit = tables_edit log (made_files built)

  ends : (allowed : Store → Type 0)
      → EndsOpening store cmp T allowed contents files h.edits set edit log mem
  ends allowed = subst
      (λ new. EndsOpening store cmp T allowed contents files h.edits set (tables_edit log new) log
      mem) h.files_are
      (openings_end store cmp T allowed (one_reading_of cmp meaning) files h.edits set h.by contents
      h.managed h.last h.last_fits log mem h.to_write h.tables h.log_tables h.next_fits h.fit)

  is_log : IsFilePath Log store (log_path store log)
  is_log = is_log_path store log h.to_write.fits

  -- the manifest in use isn't the log
  same_appended : (manifest : OpenManifest) → set.manifest ≡ in_use manifest
      → (bytes : List ℕ) (now : Files) → AppendingAndSyncing manifest.path bytes files now
      → now (log_path store log) ≡ files (log_path store log)
  same_appended manifest used bytes now passes =
      let u = h.by.tracked.tracks.used manifest used in
      appending_and_syncing manifest.path bytes files now passes (log_path store log)
      (types_apart store manifest.path (log_path store log) Descriptor Log (
        u.opened.has_edits.name,
        u.opened.has_edits.number,
        u.opened.has_edits.named.0,
        subst (λ s. manifest.path ≡ in_folder s u.opened.has_edits.name) h.by.tracked.store_is
            u.path,
      ) is_log (λ e. cc))

  -- nor is a new one, nor what names it
  same_made : (unmade_is : set.manifest ≡ unmade) (bytes : List ℕ) (now : Files)
      → MakingManifest store set.manifest_number bytes files now
      → now (log_path store log) ≡ files (log_path store log)
  same_made unmade_is bytes now making =
      let n = set.manifest_number in
      let fits = (h.by.tracked.tracks.not_made unmade_is).fits in
      making.others (log_path store log)
      (types_apart store (manifest_path store n) (log_path store log) Descriptor Log
      (file_name Descriptor n, n, made_name Descriptor n fits, refl) is_log (λ e. cc))
      (types_apart store (temp_path store n) (log_path store log) Temp Log
      (file_name Temp n, n, made_name Temp n fits, refl) is_log (λ e. cc))
      (types_apart store (current_path store) (log_path store log) Current Log
      (file_name Current 0, 0, made_name Current 0 refl, refl) is_log (λ e. cc))

module _ {E F : Type 0} (env : Ghosts E F) (modelled : IsTrue env.models_disk)
    (store : List ℕ) (cmp : List ℕ → List ℕ → Ordering) (meaning : Meaning)
    (comparator : List ℕ) (contents : Contents) (made_is : contents.store ≡ made (Some comparator))
    (leaves : Bool) (built : List FileMetaData) (set : VersionSetValue) (log size : ℕ)
    (mem : List Entry) (from to : E)
    (h : HasLogOpen store cmp meaning contents leaves built set log size mem
    (env.observed from).disk.files) (new : VersionSetValue) where
  abbrev files : Files
  files = (env.observed from).disk.files

  abbrev then : Files
  then = (env.observed to).disk.files

  path_is : set.store ≡ store
  path_is = h.by.tracked.store_is

  abbrev plain : Edit
  plain = tables_edit log (made_files built)

  ended : (allowed : Store → Type 0)
      → EndsOpening store cmp (IsTableOf cmp meaning) allowed contents files h.edits set plain log
      mem
  ended = ends store cmp meaning comparator contents made_is leaves built set log size mem files h

  -- ---- while the edit is logged

  abbrev Keeps : (Store → Type 0) → ℕ → Files → Type 0
  Keeps allowed bound = KeepsHistory store cmp (IsTableOf cmp meaning) allowed bound files

  module _ (result : Result (Unit {0}) Status) where
    abbrev Logs : Type 0
    Logs = LogEditResult env.models_disk set plain (env.observed from) (env.failures from) result
        new (env.observed to) (env.failures to)

    module _ (allowed : Store → Type 0) (bound : ℕ) (late : contents.last ≤ bound) where
      abbrev Kept : Type 0
      Kept = Run (Keeps allowed bound) (env.observed from) (env.observed to)

      late_too : set.last_sequence ≤ bound
      late_too = omega (arith, late, h.last)

      unchanged : (now : Files) → now ≡ files → Keeps allowed bound now
      unchanged now is = keeps_same cmp meaning allowed store bound files now is

      by_manifest : (state : ManifestState) → set.manifest ≡ state → Logs → Kept
      by_manifest unmade is logs = Run-mono
          (λ now making. (ended allowed).making is bound late_too now
          (subst (λ s. MakingManifest s set.manifest_number
          (manifest_bytes (new_records set plain)) files now) path_is making))
          (Run-call modelled ((logs.not_made (made_levels_fit log built) is).does modelled))
      by_manifest (in_use manifest) is logs = Run-mono
          (λ now passes. (ended allowed).appending manifest is bound late_too now passes)
          (Run-call modelled ((logs.used (made_levels_fit log built) manifest is).does modelled))
      by_manifest broken is logs = Run-mono unchanged (logs.broken_before is).2

      -- each history is kept
      pub logging_keeps : LogsTables env log built set from result new to → Kept
      logging_keeps (inl none) = subst
          (λ e. Run (Keeps allowed bound) (env.observed from) (env.observed e)) (sym none.2)
          (begun (env.observed from) (unchanged files refl))
      logging_keeps (inr logs) = by_manifest set.manifest refl logs

  -- ---- after it

  module _ (done : Unit {0}) {C : Type 0} (value : OpenStoreValue C)
      (is : IsOpenValue new log size mem value) where
    abbrev Opened : Type 0
    Opened = IsOpenedAs cmp meaning store comparator contents value then

    appended_is : (manifest : OpenManifest) → set.manifest ≡ in_use manifest
        → AppendsEdit env.models_disk manifest set plain (env.observed from) (env.failures from)
        (Ok done) new (env.observed to) (env.failures to) → Opened
    appended_is manifest used l =
        let bytes = frame manifest.writer (edit_record set plain) in
        let now : then ≡ with_bytes_kept manifest.path bytes files = (l.does modelled).ok modelled in
        subst (λ (f : Files). IsOpenedAs cmp meaning store comparator contents value f) (sym now)
        (opened_as store cmp meaning comparator contents made_is leaves built set log size mem
        files h (with_bytes_kept manifest.path bytes files)
        (h.edits ++ written_edit set plain ∷ []) (set_appended manifest set plain) path_is refl
        (same_appended store cmp meaning comparator contents made_is leaves built set log size mem
        files h manifest used bytes (with_bytes_kept manifest.path bytes files) (inr refl))
        (λ allowed. (ended allowed).appended manifest used) value
        (subst (λ v. IsOpenValue v log size mem value) l.ok is))

    begun_is : set.manifest ≡ unmade
        → BeginsManifest env.models_disk set plain (env.observed from) (env.failures from)
        (Ok done) new (env.observed to) (env.failures to) → Opened
    begun_is unmade_is l =
        let bytes = manifest_bytes (new_records set plain) in
        let made_then : then ≡ with_manifest store set.manifest_number bytes files =
        subst (λ s. then ≡ with_manifest s set.manifest_number bytes files) path_is
        ((l.does modelled).ok modelled) in
        let making : MakingManifest store set.manifest_number bytes files then =
        subst (λ s. MakingManifest s set.manifest_number bytes files then) path_is
        ((l.does modelled).now modelled) in
        opened_as store cmp meaning comparator contents made_is leaves built set log size mem
        files h then (set.full ∷ written_edit set plain ∷ []) (set_begun set plain) path_is refl
        (same_made store cmp meaning comparator contents made_is leaves built set log size mem
        files h unmade_is bytes then making)
        (λ allowed. subst
        (λ (f : Files). IsOpened store cmp (IsTableOf cmp meaning) allowed contents f
        (set.full ∷ written_edit set plain ∷ [])
        (opened_memory (set_begun set plain) log mem))
        (sym made_then) ((ended allowed).made unmade_is)) value
        (subst (λ v. IsOpenValue v log size mem value) l.ok is)

    opened_by : (state : ManifestState) → set.manifest ≡ state → Logs (Ok done) → Opened
    opened_by unmade at logs = begun_is at (logs.not_made (made_levels_fit log built) at)
    opened_by (in_use manifest) at logs =
        appended_is manifest at (logs.used (made_levels_fit log built) manifest at)
    opened_by broken at logs = absurd (logs.broken_before at).0

    -- the store is open
    pub edit_logged : LogsTables env log built set from (Ok done) new to → Opened
    edit_logged (inl none) = absurd none.0
    edit_logged (inr logs) = opened_by set.manifest refl logs

-- ---- what else is so of the set and the files, whatever they were

-- a path of the store's own alone changes
pub spared_beside : (store path : List ℕ) → IsOwnPath store path → (old now : Files)
    → SameBut path old now → SameBesideOwn store old now
spared_beside store path own old now same other spared = by (bytes_eq path other) refl
  where
    by : (b : Bool) → bytes_eq path other ≡ b → now other ≡ old other
    by true e = absurd (spared (subst (IsOwnPath store) ((bytes_decides path other).0 e) own))
    by false e = same other e

-- the log to write alone changes
pub log_spared : {C : Type 0} (used : Option (UsedLog C)) (store : List ℕ) (next : ℕ)
    → number_to_write used next < 2 ^ 64 → (old now : Files)
    → BeforeOrAfter (files_to_write used store next) old now → SameBesideOwn store old now
log_spared None store next fits old now passes =
    spared_beside store (log_path store next) (inl (Log, tt, is_log_path store next fits)) old now
    (SameBut-emptied (log_path store next) old now passes)
log_spared (Some used) store next fits old now passes =
    spared_beside store (log_path store used.number)
    (inl (Log, tt, is_log_path store used.number fits)) old now
    (SameBut-created (log_path store used.number) old now passes)

-- so it is with a new manifest, and what names it
manifest_spared : (store : List ℕ) (n : ℕ) → n < 2 ^ 64 → (bytes : List ℕ) (old now : Files)
    → MakingManifest store n bytes old now → SameBesideOwn store old now
manifest_spared store n fits bytes old now making other spared =
    making.others other
    (away (manifest_path store n)
    (inl (Descriptor, tt, (file_name Descriptor n, n, made_name Descriptor n fits, refl))))
    (away (temp_path store n) (inl (Temp, tt, (file_name Temp n, n, made_name Temp n fits, refl))))
    (away (current_path store) (inr refl))
  where
    away : (path : List ℕ) → IsOwnPath store path → bytes_eq path other ≡ false
    away path own = by (bytes_eq path other) refl
      where
        by : (b : Bool) → bytes_eq path other ≡ b → bytes_eq path other ≡ false
        by true e = absurd (spared (subst (IsOwnPath store) ((bytes_decides path other).0 e) own))
        by false e = e

-- files that are made are of level 0
made_zeros : (built : List FileMetaData)
    → All (λ (file : NewFile). file.level ≡ 0) (made_files built)
made_zeros [] = All-nil (λ (file : NewFile). file.level ≡ 0)
made_zeros (file ∷ built) = All-cons (λ (one : NewFile). one.level ≡ 0) (new_file_of (0, file))
    (made_files built) refl (made_zeros built)

module _ {E F : Type 0} (env : Ghosts E F) (built : List FileMetaData) (set : VersionSetValue)
    (log : ℕ) (from to : E) (new : VersionSetValue) where
  abbrev tables : Edit
  tables = tables_edit log (made_files built)

  -- while the edit is logged, nothing but the store's own files changes
  pub logging_spares : IsTrue env.models_disk → HasOwnManifest set → set.manifest_number < 2 ^ 64
      → (result : Result (Unit {0}) Status) → LogsTables env log built set from result new to
      → Run (SameBesideOwn set.store (env.observed from).disk.files) (env.observed from)
      (env.observed to)
  logging_spares modelled own fits result (inl none) = subst
      (λ e. Run (SameBesideOwn set.store (env.observed from).disk.files) (env.observed from)
      (env.observed e)) (sym none.2) (begun (env.observed from) (λ path spared. refl))
  logging_spares modelled own fits result (inr logs) = by set.manifest refl
    where
      by : (state : ManifestState) → set.manifest ≡ state
          → Run (SameBesideOwn set.store (env.observed from).disk.files) (env.observed from)
          (env.observed to)
      by unmade is = Run-mono
          (λ now making. manifest_spared set.store set.manifest_number fits
          (manifest_bytes (new_records set tables)) (env.observed from).disk.files now making)
          (Run-call modelled ((logs.not_made (made_levels_fit log built) is).does modelled))
      by (in_use manifest) is = Run-mono
          (λ now passes. spared_beside set.store manifest.path
          (inl (Descriptor, tt, own manifest is)) (env.observed from).disk.files now
          (appending_and_syncing manifest.path
          (frame manifest.writer (edit_record set tables)) (env.observed from).disk.files now
          passes))
          (Run-call modelled ((logs.used (made_levels_fit log built) manifest is).does modelled))
      by broken is = Run-mono (λ now same path spared. ap (λ (f : Files). f path) same)
          (logs.broken_before is).2

  -- and then a manifest is in use, in the store's folder
  pub record HasLogged : Type 0 where
    pub store : new.store ≡ set.store
    pub manifest : OpenManifest
    pub is_in_use : new.manifest ≡ in_use manifest
    pub last : new.last_sequence ≡ set.last_sequence
    pub next : new.next_file ≡ set.next_file
    pub own : HasOwnManifest set → set.manifest_number < 2 ^ 64
        → IsFilePath Descriptor set.store manifest.path
    -- it is there, if the one that was in use was
    pub there : IsTrue env.models_disk → set.manifest_number < 2 ^ 64
        → IsManifestThere (env.observed from).disk.files set
        → (env.observed to).disk.files manifest.path ≢ None
    -- the number of each live file was given, if it was of each before and of each that is added
    pub given : AreNumbersGiven set set.full.added → AreNumbersGiven set (made_files built)
        → AreNumbersGiven new new.full.added
    pub levels : (cmp : List ℕ → List ℕ → Ordering) → AreOrdered cmp (made_files built)
        → AreInLevels env.models_disk cmp set.full.added
        → AreInLevels env.models_disk cmp new.full.added
    -- the live files are those after the edit
    pub files : new.full.added ≡ files_after tables set.full.added
    -- each live file was one before, or is added
    pub live : All (λ (file : NewFile). Contains set.full.added file
        ⊎ Contains (made_files built) file) new.full.added
    -- no table changes
    pub tables : IsTrue env.models_disk → HasOwnManifest set → set.manifest_number < 2 ^ 64
        → (n : ℕ) → n < 2 ^ 64 → (env.observed to).disk.files (table_path set.store n)
        ≡ (env.observed from).disk.files (table_path set.store n)

  -- the files that are added are in level 0
  levels_after : (next : VersionSetValue) → next.full ≡ full_after set.full tables
      → (cmp : List ℕ → List ℕ → Ordering) → AreOrdered cmp (made_files built)
      → AreInLevels env.models_disk cmp set.full.added
      → AreInLevels env.models_disk cmp next.full.added
  levels_after next full cmp ordered levels =
      subst (λ (e : Edit). AreInLevels env.models_disk cmp e.added) (sym full)
      (levels_with_zeros env.models_disk cmp (made_files built) set.full.added (made_zeros built)
      ordered levels)

  given_after : (next : VersionSetValue) → next.full ≡ full_after set.full tables
      → next.next_file ≡ set.next_file → AreNumbersGiven set set.full.added
      → AreNumbersGiven set (made_files built) → AreNumbersGiven next next.full.added
  given_after next full same live added =
      given_later set next (omega (arith, same)) next.full.added
      (subst (λ (e : Edit). AreNumbersGiven set e.added) (sym full)
      (all_with_each (λ (file : NewFile). file.number < set.next_file) (made_files built)
      set.full.added live added))

  live_after_edit : (next : VersionSetValue) → next.full ≡ full_after set.full tables
      → All (λ (file : NewFile). Contains set.full.added file ⊎ Contains (made_files built) file)
      next.full.added
  live_after_edit next full =
      let IsOne : NewFile → Type 0 =
      λ file. Contains set.full.added file ⊎ Contains (made_files built) file in
      subst (λ (e : Edit). All IsOne e.added) (sym full)
      (all_with_each IsOne (made_files built) set.full.added
      (All-weaker (Contains set.full.added) IsOne (λ file c. inl c) set.full.added
      (All-contains_itself set.full.added))
      (All-weaker (Contains (made_files built)) IsOne (λ file c. inr c) (made_files built)
      (All-contains_itself (made_files built))))

  -- a table is none of the files of a new manifest, and no manifest
  apart_from : (n : ℕ) → n < 2 ^ 64 → (path : List ℕ) (kind : FileType)
      → IsFilePath kind set.store path → kind ≢ Table
      → bytes_eq path (table_path set.store n) ≡ false
  apart_from n fits path kind is other = types_apart set.store path (table_path set.store n) kind Table
      is (is_table_path set.store n fits) other

  pub logged_manifest : (done : Unit {0}) → LogsTables env log built set from (Ok done) new to
      → HasLogged
  logged_manifest done (inl none) = absurd none.0
  logged_manifest done (inr logs) = by set.manifest refl
    where
      by : (state : ManifestState) → set.manifest ≡ state → HasLogged
      by unmade is =
          let l = logs.not_made (made_levels_fit log built) is in
          record {
            store = ap (λ (v : VersionSetValue). v.store) l.ok;
            manifest = new_manifest set tables;
            is_in_use = ap (λ (v : VersionSetValue). v.manifest) l.ok;
            last = ap (λ (v : VersionSetValue). v.last_sequence) l.ok;
            next = ap (λ (v : VersionSetValue). v.next_file) l.ok;
            own = λ own fits. (
              file_name Descriptor set.manifest_number,
              set.manifest_number,
              made_name Descriptor set.manifest_number fits,
              refl,
            );
            there = λ modelled fits there gone.
                let never : Some _ ≡ None = sym (manifest_made set.store set.manifest_number fits
                (manifest_bytes (new_records set tables)) (env.observed from).disk.files)
                ∙ sym (ap (λ (f : Files). f (manifest_path set.store set.manifest_number))
                ((l.does modelled).ok modelled)) ∙ gone in cc;
            given = given_after new (ap (λ (v : VersionSetValue). v.full) l.ok)
                (ap (λ (v : VersionSetValue). v.next_file) l.ok);
            levels = levels_after new (ap (λ (v : VersionSetValue). v.full) l.ok);
            files = ap (λ (v : VersionSetValue). v.full.added) l.ok;
            live = live_after_edit new (ap (λ (v : VersionSetValue). v.full) l.ok);
            tables = λ modelled own fits n number_fits.
                ((l.does modelled).now modelled).others (table_path set.store n)
                (apart_from n number_fits (manifest_path set.store set.manifest_number) Descriptor (
                  file_name Descriptor set.manifest_number,
                  set.manifest_number,
                  made_name Descriptor set.manifest_number fits,
                  refl,
                ) (λ e. cc))
                (apart_from n number_fits (temp_path set.store set.manifest_number) Temp (
                  file_name Temp set.manifest_number,
                  set.manifest_number,
                  made_name Temp set.manifest_number fits,
                  refl,
                ) (λ e. cc))
                (apart_from n number_fits (current_path set.store) Current
                (file_name Current 0, 0, made_name Current 0 refl, refl) (λ e. cc));
          }
      by (in_use manifest) is =
          let l = logs.used (made_levels_fit log built) manifest is in
          record {
            store = ap (λ (v : VersionSetValue). v.store) l.ok;
            manifest = record manifest {
              writer = after_frame manifest.writer (edit_record set tables);
            };
            is_in_use = ap (λ (v : VersionSetValue). v.manifest) l.ok;
            last = ap (λ (v : VersionSetValue). v.last_sequence) l.ok;
            next = ap (λ (v : VersionSetValue). v.next_file) l.ok;
            own = λ own fits. own manifest is;
            there = λ modelled fits there gone. there manifest is
                (none_before manifest.path (frame manifest.writer (edit_record set tables))
                (env.observed from).disk.files
                (sym (ap (λ (f : Files). f manifest.path) ((l.does modelled).ok modelled)) ∙ gone));
            given = given_after new (ap (λ (v : VersionSetValue). v.full) l.ok)
                (ap (λ (v : VersionSetValue). v.next_file) l.ok);
            levels = levels_after new (ap (λ (v : VersionSetValue). v.full) l.ok);
            files = ap (λ (v : VersionSetValue). v.full.added) l.ok;
            live = live_after_edit new (ap (λ (v : VersionSetValue). v.full) l.ok);
            tables = λ modelled own fits n number_fits.
                appending_and_syncing manifest.path (frame manifest.writer (edit_record set tables))
                (env.observed from).disk.files (env.observed to).disk.files
                ((l.does modelled).now modelled) (table_path set.store n)
                (apart_from n number_fits manifest.path Descriptor (own manifest is) (λ e. cc));
          }
      by broken is = absurd (logs.broken_before is).0
