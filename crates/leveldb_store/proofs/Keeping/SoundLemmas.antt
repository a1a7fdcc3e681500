-- Calls after which time has gone on and what was appended are bytes; and which of them break a
-- store.
use Rattle.std.specs.Prelude.{IsTrue}
use Rattle.std.proofs.Common.{◌≡◌, ◌⊎◌, ◌∙◌, ◌+◌, ◌-◌, ◌^◌, ◌≤◌, inl, inr, ⊎_elim, ℕ, true, false, List, [], ◌∷◌, Option, None, Some, Ok, Err, Result, ap, arith, subst, sym}
use Rattle.std.specs.declared.cmp.Ordering.{Ordering}
use Rattle.leveldb_base.proofs.HistoryLemmas.{in_cases, in_none}
use Rattle.leveldb_base.specs.Error.{IsOutOfMemory}
use Rattle.leveldb_base.specs.Types.{Pair}
use Rattle.leveldb_base.specs.declared.cmp.Cmp.{Ghosts as CmpGhosts}
use Rattle.leveldb_base.specs.declared.error.Status.{Status}
use Rattle.leveldb_base.specs.declared.types.FileMetaData.{FileMetaData}
use Rattle.leveldb_env.proofs.AppendedLemmas.{appended_bytes, synced_bytes}
use Rattle.leveldb_env.proofs.EnvLemmas.{appended}
use Rattle.leveldb_env.specs.Env.{AreBytes, ChangesFiles, Files, extended}
use Rattle.leveldb_env.specs.WholeFiles.{IsLost}
use Rattle.leveldb_env.specs.declared.env.Env.{Ghosts}
use Rattle.leveldb_env.specs.declared.filter.FilterPolicy.{Ghosts as FilterGhosts}
use Rattle.leveldb_mem.specs.Log.Writer.{WriterState, frame}
use Rattle.leveldb_version_set.proofs.Sets.EditRecordLemmas.{KeysAreBytes, tables_record_bytes}
use Rattle.leveldb_version_set.proofs.Sets.LogKeepsLemmas.{framed_are_bytes}
use Rattle.leveldb_version_set.specs.Sets.LogEdit.{AppendingAndSyncing, AppendsEdit, edit_record}
use Rattle.leveldb_version_set.specs.Engines.Opening.{FitsEdit}
use Rattle.leveldb_files.specs.Stores.Paths.{log_path}
use Rattle.leveldb_files.specs.Steps.StoreSteps.{AppendedAreBytes}
use Rattle.leveldb_files.specs.Edits.Edit.{NewFile}
use Rattle.leveldb_version_set.specs.Sets.VersionSetValue.{OpenManifest, VersionSetValue, broken, in_use, with_number_given}
use Rattle.leveldb_version_set.specs.Engines.Writing.{table_edit}
use Rattle.leveldb_store.specs.Tables.BuildTable.{MakesTable, TableChoices}
use Rattle.leveldb_files.specs.Stores.Format.{Meaning}
use Rattle.leveldb_store.specs.Keeping.OpenStore.{IsUnbroken, OpenStoreValue}
use Rattle.leveldb_store.specs.Writing.Room.{HasFailed}
use Rattle.leveldb_store.specs.Keeping.SoundCall.{BytesAreAppended, IsSoundCall, TimeGoesOn}
use Rattle.leveldb_store.specs.Writing.Switch.{RemovesNoOther}
use Rattle.leveldb_store.specs.Writing.Write.{IsLogLost, SyncsLog, open_log_path}
use Rattle.leveldb_store.specs.Keeping.Written.{IsWritten}

-- ---- a store that is written

pub never_broken : (manifest : OpenManifest) → in_use manifest ≡ broken → ⊥
never_broken manifest e = cc

module _ {C : Type 0} (cmp : List ℕ → List ℕ → Ordering) (meaning : Meaning) where
  -- it isn't broken
  pub written_unbroken : (value : OpenStoreValue C) (files : Files)
      → IsWritten cmp meaning value files → IsUnbroken value
  written_unbroken value files w = record {
    manifest = λ is. never_broken w.by.manifest (sym w.by.is_in_use ∙ is);
    log = ap (λ (writer : WriterState). writer.broken) w.writer;
  }

  -- its log is there
  pub written_log : (value : OpenStoreValue C) (files : Files)
      → IsWritten cmp meaning value files → files (open_log_path value) ≡ None → ⊥
  written_log value files w gone =
      let there : files (open_log_path value) ≡ Some w.by.writable.log.file =
      subst (λ n. files (log_path value.set.store n) ≡ Some w.by.writable.log.file) w.by.log_is
      w.by.writable.log.there in
      let never : Some w.by.writable.log.file ≡ None = sym there ∙ gone in cc

  -- and so is its manifest
  pub written_manifest : (value : OpenStoreValue C) (files : Files)
      → IsWritten cmp meaning value files → (manifest : OpenManifest)
      → value.set.manifest ≡ in_use manifest → files manifest.path ≡ None → ⊥
  written_manifest value files w manifest used gone =
      let it = w.by.tracked.tracks.used manifest used in
      let edits = it.opened.has_edits in
      let there : files manifest.path ≡ Some edits.manifest = ap files it.path ∙ edits.there in
      let never : Some edits.manifest ≡ None = sym there ∙ gone in cc

-- the store with the next number given isn't broken, either
pub given_unbroken : {C : Type 0} (value : OpenStoreValue C) → IsUnbroken value
    → IsUnbroken (record value { set = with_number_given value.set })
given_unbroken value unbroken = record { manifest = unbroken.manifest; log = unbroken.log }

-- ---- bytes

-- bytes are appended and synced
pub appending_bytes : (path more : List ℕ) → AreBytes more → (files now : Files)
    → AppendingAndSyncing path more files now → AppendedAreBytes files → AppendedAreBytes now
appending_bytes path more are files now (inl part) bytes =
    appended_bytes path more are files now part bytes
appending_bytes path more are files now (inr done) bytes = synced_bytes path
    (extended path more files) now (inr done)
    (appended_bytes path more are files (extended path more files) (appended path more files) bytes)

-- the framed edit of a table has bytes
table_frame_bytes : (writer : WriterState) (set : VersionSetValue) (log : ℕ) (file : NewFile)
    → FitsEdit file → AreBytes (frame writer (edit_record set (table_edit log file)))
table_frame_bytes writer set log file fits =
    framed_are_bytes writer.size (edit_record set (table_edit log file)) writer.offset
    (tables_record_bytes set log (file ∷ [])
    (λ other c. ⊎_elim
    (λ same. subst KeysAreBytes same (fits.smallest, fits.largest))
    (λ none. absurd (in_none other none)) (in_cases file other [] c)))

-- obsolete files are deleted
pub removal_bytes : (set : VersionSetValue) (kept_to : Option ℕ) (before after : Files)
    → RemovesNoOther set kept_to before after → AppendedAreBytes before → AppendedAreBytes after
removal_bytes set kept_to before after removes bytes name file is = ⊎_elim
    (λ same. bytes name file (sym same ∙ is))
    (λ gone. let never : None ≡ Some file = sym gone.1 ∙ is in absurd (cc never)) (removes name)

-- ---- time and bytes

module _ {E F : Type 0} (env : Ghosts E F) where
  abbrev pub GoesOn : E → E → Type 0
  GoesOn from to = TimeGoesOn env from to × BytesAreAppended env from to

  pub nothing_goes_on : (from : E) → GoesOn from from
  nothing_goes_on from = (λ modelled. omega arith, λ modelled bytes. bytes)

  pub goes_on_then : {from at to : E} → GoesOn from at → GoesOn at to → GoesOn from to
  goes_on_then first second = (
    λ modelled. omega (arith, first.0 modelled, second.0 modelled),
    λ modelled bytes. second.1 modelled (first.1 modelled bytes),
  )

  -- a call that changes files
  pub call_goes_on : {T : Type 0} {change : Files → Files} {Passes : Files → Files → Type 0}
      {result : Result T Status} (from to : E)
      → (IsTrue env.models_disk
      → ChangesFiles env.models_disk change Passes (env.observed from) (env.observed to) result)
      → ((files now : Files) → Passes files now → AppendedAreBytes files → AppendedAreBytes now)
      → GoesOn from to
  call_goes_on from to does keeps = (
    λ modelled. (does modelled).time.later,
    λ modelled. keeps _ _ ((does modelled).now modelled),
  )

  -- a table is made
  pub table_goes_on : {D FP : Type 0} {order : CmpGhosts D} {filters : FilterGhosts FP}
      {choices : TableChoices order filters} {pairs : List Pair} {Fails : Status → Type 0}
      {store : List ℕ} {number : ℕ} {from : E} {result : Result FileMetaData Status} {to : E}
      → MakesTable choices pairs env Fails store number from result to → GoesOn from to
  table_goes_on made = (λ modelled. (made.run modelled).time.later, made.bytes)

  -- the edit of a table is logged
  pub edit_goes_on : (manifest : OpenManifest) (set : VersionSetValue) (log : ℕ) (file : NewFile)
      → FitsEdit file → (from to : E) (result : Result (Unit {0}) Status) (new : VersionSetValue)
      → AppendsEdit env.models_disk manifest set (table_edit log file) (env.observed from)
      (env.failures from) result new (env.observed to) (env.failures to)
      → GoesOn from to
  edit_goes_on manifest set log file fits from to result new appends =
      call_goes_on from to appends.does
      (appending_bytes manifest.path (frame manifest.writer (edit_record set (table_edit log file)))
      (table_frame_bytes manifest.writer set log file fits))

-- ---- why a call fails

-- a failure that was counted later was counted
pub failed_later : (from at to : ℕ) → from ≤ at → at ≤ to → HasFailed at to → HasFailed from to
failed_later from at to first second (inl less) = inl (omega (arith, first, less))
failed_later from at to first second (inr most) = grind (arith, first, second, most)

-- one that was counted at once
pub failed_once : (before now : ℕ)
    → (now ≡ before + 1) ⊎ ((before ≡ 2 ^ 64 - 1) × (now ≡ before)) → HasFailed before now
failed_once before now (inl one) = inl (omega (arith, one))
failed_once before now (inr most) = inr most.0

-- ---- sound calls

module _ {E F C : Type 0} (env : Ghosts E F) (cmp : List ℕ → List ℕ → Ordering)
    (Means : Meaning → Type 0) (old : OpenStoreValue C) (from : E) where
  -- one that is done
  pub sound_ok : {T : Type 0} (value : T) (new : OpenStoreValue C) (to : E) → GoesOn env from to
      → IsSoundCall env cmp Means old from (Ok value) new to
  sound_ok value new to goes_on = record {
    time = goes_on.0;
    bytes = goes_on.1;
    breaks = λ modelled meaning means w. tt;
  }

  -- one that breaks nothing
  pub sound_unbroken : {T : Type 0} (status : Status) (new : OpenStoreValue C) (to : E)
      → GoesOn env from to → (IsUnbroken old → IsUnbroken new)
      → IsSoundCall {T = T} env cmp Means old from (Err status) new to
  sound_unbroken status new to goes_on so = record {
    time = goes_on.0;
    bytes = goes_on.1;
    breaks = λ modelled meaning means w.
        inl (so (written_unbroken cmp meaning old (env.observed from).disk.files w));
  }

  -- a failed sync
  pub sound_unsynced : (status : Status) (new : OpenStoreValue C) (to : E)
      → SyncsLog env (record old { set = with_number_given old.set }) from (Err status) new to
      → IsSoundCall {T = Unit {0}} env cmp Means old from (Err status) new to
  sound_unsynced status new to sync =
      let goes_on = call_goes_on env from to sync.does (synced_bytes (open_log_path old)) in
      record {
        time = goes_on.0;
        bytes = goes_on.1;
        breaks = λ modelled meaning means w. inr (⊎_elim (λ lost. inl (by modelled meaning w lost))
            (λ counted. inr (failed_once (env.failures from) (env.failures to) counted))
            sync.cause.cause);
      }
    where
      by : IsTrue env.models_disk → (meaning : Meaning)
          → IsWritten cmp meaning old (env.observed from).disk.files
          → IsLogLost env (record old { set = with_number_given old.set }) from to status
          → IsOutOfMemory status
      by modelled meaning w (inl (inl memory)) = memory
      by modelled meaning w (inl (inr missing)) = absurd
          (written_log cmp meaning old (env.observed from).disk.files w (missing.1 modelled))
      by modelled meaning w (inr broke) =
          let unbroken = written_unbroken cmp meaning old (env.observed from).disk.files w in
          let never : true ≡ false = sym broke.0 ∙ unbroken.log in absurd (cc never)

  -- an edit that wasn't logged, of a table that was made
  pub sound_unlogged : (manifest : OpenManifest) → old.set.manifest ≡ in_use manifest
      → (status : Status) (new : OpenStoreValue C) (to : E) → GoesOn env from to
      → (IsLost env.models_disk manifest.path (env.observed from) (env.failures from)
      (env.failures to) status
      ⊎ (env.failures to ≡ env.failures from + 1)
      ⊎ ((env.failures from ≡ 2 ^ 64 - 1) × (env.failures to ≡ env.failures from)))
      → IsSoundCall {T = Unit {0}} env cmp Means old from (Err status) new to
  sound_unlogged manifest used status new to goes_on cause = record {
    time = goes_on.0;
    bytes = goes_on.1;
    breaks = λ modelled meaning means w. inr (⊎_elim (λ lost. inl (by modelled meaning w lost))
        (λ counted. inr (failed_once (env.failures from) (env.failures to) counted)) cause);
  }
    where
      by : IsTrue env.models_disk → (meaning : Meaning)
          → IsWritten cmp meaning old (env.observed from).disk.files
          → IsLost env.models_disk manifest.path (env.observed from) (env.failures from)
          (env.failures to) status
          → IsOutOfMemory status
      by modelled meaning w (inl memory) = memory
      by modelled meaning w (inr missing) = absurd
          (written_manifest cmp meaning old (env.observed from).disk.files w manifest used
          (missing.1 modelled))
