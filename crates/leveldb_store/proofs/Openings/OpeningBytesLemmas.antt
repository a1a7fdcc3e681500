-- What is appended to files while a store is opened are bytes.
use Rattle.std.specs.Prelude.{Contains, IsTrue, IsSome}
use Rattle.std.proofs.Common.{◌≡◌, inl, inr, ⊎_elim, ℕ, Bool, true, false, List, [], ◌∷◌, Option, None, Some, Result, refl, subst, sym, ◌≤◌, ◌<◌, ◌^◌}
use Rattle.leveldb_base.proofs.EntriesLemmas.{in_map}
use Rattle.leveldb_base.specs.KeyTypes.{user_part}
use Rattle.leveldb_base.specs.declared.error.Status.{Status}
use Rattle.leveldb_base.specs.declared.types.FileMetaData.{FileMetaData}
use Rattle.leveldb_env.proofs.AppendedLemmas.{emptied_bytes, synced_bytes}
use Rattle.leveldb_env.proofs.EnvLemmas.{Run-call}
use Rattle.leveldb_env.specs.Env.{BeforeOrAfter, Files, Run, created, in_folder}
use Rattle.leveldb_env.specs.declared.env.Env.{Ghosts}
use Rattle.leveldb_mem.specs.Log.Writer.{frame}
use Rattle.leveldb_mem.specs.MemTable.{MemTableState}
use Rattle.leveldb_files.proofs.Steps.BytesLemmas.{bytes_stay}
use Rattle.leveldb_version_set.proofs.Sets.EditRecordLemmas.{KeysAreBytes, tables_record_bytes}
use Rattle.leveldb_version_set.proofs.Sets.LogKeepsLemmas.{framed_are_bytes}
use Rattle.leveldb_files.specs.Levels.Levels.{LiveTable}
use Rattle.leveldb_version_set.specs.Sets.LogEdit.{LogEditResult, edit_record}
use Rattle.leveldb_version_set.specs.Engines.Opening.{tables_edit}
use Rattle.leveldb_version_set.specs.Engines.Writing.{NumbersAreBelow}
use Rattle.leveldb_files.specs.Stores.Paths.{log_path}
use Rattle.leveldb_files.specs.Steps.StoreSteps.{AppendedAreBytes}
use Rattle.leveldb_files.specs.Edits.Edit.{Edit, NewFile}
use Rattle.leveldb_version_set.specs.Sets.VersionSetValue.{ManifestState, VersionSetValue, broken, in_use, unmade}
use Rattle.leveldb_store.proofs.Openings.OpeningEndLemmas.{made_levels_fit}
use Rattle.leveldb_store.proofs.Openings.OpeningKeptLemmas.{number_given}
use Rattle.leveldb_store.proofs.Keeping.SoundLemmas.{appending_bytes}
use Rattle.leveldb_files.specs.Stores.Format.{Agrees, Format, Meaning}
use Rattle.leveldb_store.specs.Openings.OpeningSteps.{AreBeingKept, HasReplayedLogs, LogsIfWanted, OpensLog, RecoversSet, files_to_write, made_files, number_to_write, set_to_write, with_log_kept, with_logs_kept}
use Rattle.leveldb_store.specs.Openings.OpensStore.{IsTableThere}
use Rattle.leveldb_store.proofs.Openings.TableSizesLemmas.{IsSized}
use Rattle.leveldb_store.specs.Keeping.SoundCall.{BytesAreAppended}
use Rattle.leveldb_store.specs.declared.open_store.OpenLog.{OpenLog}
use Rattle.leveldb_store.specs.declared.opening.recovered_set.RecoveredSet.{RecoveredSet}
use Rattle.leveldb_store.specs.declared.opening.replay.Replay.{Replay}
use Rattle.leveldb_store.specs.declared.opening.replay.UsedLog.{UsedLog}

-- ---- files

module _ (store : List ℕ) where
  -- logs are kept, which are made if they are missing
  log_kept_bytes : (n : ℕ) (files : Files) → AppendedAreBytes files
      → AppendedAreBytes (with_log_kept store n files)
  log_kept_bytes n files bytes =
      let path = log_path store n in
      (bytes_stay (created path files) ((bytes_stay files bytes).make path)).sync path

  logs_kept_bytes : (logs : List ℕ) (files : Files) → AppendedAreBytes files
      → AppendedAreBytes (with_logs_kept store logs files)
  logs_kept_bytes [] files bytes = bytes
  logs_kept_bytes (n ∷ logs) files bytes =
      logs_kept_bytes logs (with_log_kept store n files) (log_kept_bytes n files bytes)

  -- on the way to that
  being_kept_bytes : (logs : List ℕ) (files now : Files) → AreBeingKept store logs files now
      → AppendedAreBytes files → AppendedAreBytes now
  being_kept_bytes logs files now being bytes =
      let before = logs_kept_bytes being.front files bytes in
      ⊎_elim (λ is. subst AppendedAreBytes (sym is) before)
      (λ made. subst AppendedAreBytes (sym made.3)
      ((bytes_stay (with_logs_kept store being.front files) before).make (log_path store made.0)))
      being.now

-- ---- tables that were made

-- what names and ids mean if each name is the format's own
abbrev own_meaning : Format → Meaning
own_meaning format = record {
  orders = λ name. format.order;
  codings = format.codings;
  filters = λ name. Some (λ key. format.matches (user_part key));
}

own_agrees : (format : Format) → Agrees format (own_meaning format)
own_agrees format = record { order = refl; codings = λ id coding is. is; filters = refl }

-- the keys of the tables are bytes
pub made_keys_bytes : {C : Type 0} (format : Format) (old : VersionSetValue) (from : Files)
    (numbers : List ℕ) (replay : Replay C) (new : VersionSetValue) (at : Files)
    → ((meaning : Meaning) → Agrees format meaning
    → HasReplayedLogs format.order meaning old from numbers replay new at)
    → (file : NewFile) → Contains (made_files replay.tables.items) file → KeysAreBytes file
made_keys_bytes format old from numbers replay new at replays file c =
    let h = replays (own_meaning format) (own_agrees format) in
    let x = in_map (λ (table : LiveTable). table.file) h.tables file
    (subst (λ files. Contains files file) (sym h.files_are) c) in
    let fit = (h.made_tables.each x.0 x.1).3 in
    subst KeysAreBytes x.2 (fit.smallest, fit.largest)

-- and each is there, as long as its edit says
pub made_tables_there : {C : Type 0} (format : Format) (old : VersionSetValue) (from : Files)
    (numbers : List ℕ) (replay : Replay C) (new : VersionSetValue) (at : Files)
    → ((meaning : Meaning) → Agrees format meaning
    → HasReplayedLogs format.order meaning old from numbers replay new at)
    → (file : NewFile) → Contains (made_files replay.tables.items) file
    → IsTableThere old.store at file
made_tables_there format old from numbers replay new at replays file c =
    let h = replays (own_meaning format) (own_agrees format) in
    let x = in_map (λ (table : LiveTable). table.file) h.tables file
    (subst (λ files. Contains files file) (sym h.files_are) c) in
    let has = (h.made_tables.each x.0 x.1).0 in
    subst (IsTableThere old.store at) x.2 (subst (IsSized x.0.file.size) (sym has.there) has.size)

-- and each number is one that was given since
pub made_above : {C : Type 0} (format : Format) (old : VersionSetValue) (from : Files)
    (numbers : List ℕ) (replay : Replay C) (new : VersionSetValue) (at : Files)
    → ((meaning : Meaning) → Agrees format meaning
    → HasReplayedLogs format.order meaning old from numbers replay new at)
    → (file : NewFile) → Contains (made_files replay.tables.items) file
    → old.next_file ≤ file.number
made_above format old from numbers replay new at replays file c =
    let h = replays (own_meaning format) (own_agrees format) in
    let x = in_map (λ (table : LiveTable). table.file) h.tables file
    (subst (λ files. Contains files file) (sym h.files_are) c) in
    subst (λ (f : NewFile). old.next_file ≤ f.number) x.2 (h.made_tables.numbers x.0 x.1).0

-- and so is that of the log to write, if it is new or was there
pub written_below : {C : Type 0} (format : Format) (old : VersionSetValue) (from : Files)
    (numbers : List ℕ) (replay : Replay C) (new : VersionSetValue) (at : Files)
    → ((meaning : Meaning) → Agrees format meaning
    → HasReplayedLogs format.order meaning old from numbers replay new at)
    → NumbersAreBelow old.store from old.next_file → (set : VersionSetValue)
    → old.next_file ≤ set.next_file → number_to_write replay.used set.next_file < 2 ^ 64
    → number_to_write replay.used set.next_file < (set_to_write replay.used set).next_file
written_below format old from numbers replay new at replays below set rises fits =
    let h = replays (own_meaning format) (own_agrees format) in
    number_given old.store from replay.used h.logs h.tables h.are_logs.each h.tables_made
    old.next_file below set rises fits

-- ---- calls

module _ {E F : Type 0} (env : Ghosts E F) where
  -- what was observed of files before and after a call
  abbrev files_at : E → Files
  files_at at = (env.observed at).disk.files

  module _ (store : List ℕ) where
    -- its set is recovered
    pub set_bytes : (format : Format) (reuse : Bool) (limit : ℕ) (from : E)
        (result : Result (RecoveredSet E F) Status) (to : E)
        → RecoversSet env format reuse limit store from result to → BytesAreAppended env from to
    set_bytes format reuse limit from result to sets modelled before =
        let leaves = sets.files modelled in
        synced_bytes (in_folder store leaves.manifest) (files_at from) (files_at to) leaves.run.has
        before

    -- its logs are kept
    pub keeping_bytes : (logs : List ℕ) (from to : E)
        → (IsTrue env.models_disk → Run (AreBeingKept store logs (files_at from))
        (env.observed from) (env.observed to))
        → BytesAreAppended env from to
    keeping_bytes logs from to run modelled before =
        being_kept_bytes store logs (files_at from) (files_at to) (run modelled).has before

    -- the log to write is opened
    pub log_bytes : {C : Type 0} (cmp : C) (used : Option (UsedLog C)) (old : VersionSetValue)
        (from : E) (result : Result (OpenLog E F × MemTableState C) Status) (new : VersionSetValue)
        (to : E) → OpensLog env store cmp used old from result new to
        → BytesAreAppended env from to
    log_bytes {C} cmp used old from result new to opens modelled before =
        by used (Run-call modelled opens.does).has
      where
        by : (log : Option (UsedLog C))
            → BeforeOrAfter (files_to_write log store old.next_file) (files_at from) (files_at to)
            → AppendedAreBytes (files_at to)
        by None passes =
            emptied_bytes (log_path store old.next_file) (files_at from) (files_at to) passes before
        by (Some log) (inl same) = subst AppendedAreBytes (sym same) before
        by (Some log) (inr is) = subst AppendedAreBytes (sym is)
            ((bytes_stay (files_at from) before).make (log_path store log.number))

  -- an edit of tables is logged
  module _ (made : List FileMetaData) (set : VersionSetValue) (log : ℕ) (from to : E)
      (new : VersionSetValue)
      (keys : IsTrue env.models_disk → (file : NewFile) → Contains (made_files made) file
      → KeysAreBytes file) where
    abbrev plain : Edit
    plain = tables_edit log (made_files made)

    abbrev Logs : Result (Unit {0}) Status → Type 0
    Logs result = LogEditResult env.models_disk set plain (env.observed from) (env.failures from)
        result new (env.observed to) (env.failures to)

    edit_bytes_by : (state : ManifestState) → set.manifest ≡ state
        → (result : Result (Unit {0}) Status) → Logs result → BytesAreAppended env from to
    edit_bytes_by unmade is result logs = (logs.not_made (made_levels_fit log made) is).bytes
    edit_bytes_by (in_use manifest) is result logs =
        let appends = logs.used (made_levels_fit log made) manifest is in
        λ modelled before. appending_bytes manifest.path
        (frame manifest.writer (edit_record set plain))
        (framed_are_bytes manifest.writer.size (edit_record set plain) manifest.writer.offset
        (tables_record_bytes set log (made_files made) (keys modelled)))
        (files_at from) (files_at to) ((appends.does modelled).now modelled) before
    edit_bytes_by broken is result logs = λ modelled before. subst AppendedAreBytes
        (sym (logs.broken_before is).2.has) before

    -- where one is wanted
    pub logging_bytes : (wanted : Bool) (result : Result (Unit {0}) Status)
        → LogsIfWanted env wanted log made set from result new to → BytesAreAppended env from to
    logging_bytes true result (inl none) = λ modelled before.
        subst (λ e. AppendedAreBytes (files_at e)) (sym none.2) before
    logging_bytes true result (inr logs) = edit_bytes_by set.manifest refl result logs
    logging_bytes false result same = λ modelled before.
        subst (λ e. AppendedAreBytes (files_at e)) (sym same.1) before
