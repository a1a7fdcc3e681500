-- One compaction of an open store: its ends, by what it made and whether its edit was logged.
use Rattle.std.specs.Prelude.{Contains, IsTrue}
use Rattle.std.proofs.Common.{◌≡◌, ◌⊎◌, ◌∙◌, ◌-◌, ◌≤◌, ◌<◌, ◌^◌, inl, inr, ⊎_elim, ℕ, Bool, true, false, List, [], ◌∷◌, Option, None, Ok, Err, Result, ap, arith, refl, subst, sym}
use Rattle.std.proofs.lemmas.Bool.{cases_lt}
use Rattle.std.proofs.lemmas.List.Elements.{All-contains}
use Rattle.std.specs.Cmp.{IsTotalOrder}
use Rattle.std.specs.Cmp.Lexicographic.{bytes_decides}
use Rattle.std.specs.List.Sorted.{IsStrictlySortedBy}
use Rattle.std.specs.Str.{bytes_eq}
use Rattle.std.specs.declared.cmp.Ordering.{Ordering}
use Rattle.leveldb_base.proofs.EntriesLemmas.{map_in}
use Rattle.leveldb_base.proofs.HistoryLemmas.{in_cases, in_none}
use Rattle.leveldb_base.proofs.NamesLemmas.{made_paths_apart}
use Rattle.leveldb_base.specs.Error.{IsOutOfMemory}
use Rattle.leveldb_base.specs.declared.cmp.Cmp.{Ghosts as CmpGhosts}
use Rattle.leveldb_base.specs.declared.cmp.internal.InternalKeyCmp.{InternalKeyCmp}
use Rattle.leveldb_base.specs.declared.error.Status.{Status}
use Rattle.leveldb_base.specs.declared.types.FileType.{FileType}
use Rattle.leveldb_base.specs.declared.types.FileType.TheVariants.{Descriptor, Table}
use Rattle.leveldb_env.proofs.EnvLemmas.{Run-call, Run-mono, bytes_eq-apart}
use Rattle.leveldb_env.specs.Env.{AreBytes, SameLocks}
use Rattle.leveldb_env.specs.WholeFiles.{IsLost}
use Rattle.leveldb_env.specs.declared.env.Env.{Ghosts}
use Rattle.leveldb_env.specs.declared.filter.FilterPolicy.{Ghosts as FilterGhosts}
use Rattle.leveldb_mem.specs.Log.Writer.{frame}
use Rattle.leveldb_version_set.proofs.Sets.LogKeepsLemmas.{framed_are_bytes}
use Rattle.leveldb_version.proofs.Tables.TableCacheLemmas.{ClosesTables-refl}
use Rattle.leveldb_version.specs.Versions.Change.{IsVersionAfter}
use Rattle.leveldb_version_set.specs.Compactions.CompactionEdit.{SetsPointer, compaction_edit}
use Rattle.leveldb_files.specs.Stores.Format.{Agrees, Meaning}
use Rattle.leveldb_files.specs.Levels.Levels.{LiveTable}
use Rattle.leveldb_version_set.specs.Sets.LogEdit.{AppendsEdit, WritesBytes, edit_record, set_appended}
use Rattle.leveldb_version_set.specs.Engines.Opening.{FitsEdit}
use Rattle.leveldb_files.specs.Stores.Paths.{IsFilePath, table_path}
use Rattle.leveldb_version_set.specs.Compactions.Picking.{CompactionValue, DeletesFiles, OnlyPoints}
use Rattle.leveldb_files.specs.Steps.StoreSteps.{AppendedAreBytes}
use Rattle.leveldb_version.specs.Tables.TableCache.{TableOptions, files_at}
use Rattle.leveldb_version.specs.Versions.Version.{VersionValue, new_files_of}
use Rattle.leveldb_files.specs.Edits.Edit.{Edit, LevelFile, NewFile, Pointer, file_order}
use Rattle.leveldb_version_set.specs.Sets.VersionSetValue.{OpenManifest, VersionSetValue, broken, in_use}
use Rattle.leveldb_version.specs.declared.table_cache.TableCache.{TableCache}
use Rattle.leveldb_store.proofs.Compactions.CompactEditLemmas.{compaction_encodable, is_compaction_edit}
use Rattle.leveldb_store.proofs.Compactions.CompactKeepsLemmas.{HasMade, full_then, keeps_logged, keeps_new, keeps_unlogged, with_numbers}
use Rattle.leveldb_store.proofs.Keeping.GivenTablesLemmas.{SameGiven, given_same, same_beside, same_then}
use Rattle.leveldb_store.proofs.Keeping.KeptBytesLemmas.{kept_by_tables, loses_appending, loses_by_tables, meanwhile_then, spares_kept_then}
use Rattle.leveldb_store.proofs.Keeping.OpenTablesLemmas.{stay_open}
use Rattle.leveldb_store.proofs.Keeping.SoundLemmas.{GoesOn, appending_bytes, failed_later, failed_once, goes_on_then, never_broken, sound_ok, sound_unbroken, written_manifest}
use Rattle.leveldb_store.proofs.Keeping.TableKeepsLemmas.{appending_and_syncing, is_table_path, live_below, types_apart}
use Rattle.leveldb_store.proofs.Keeping.WrittenFromLemmas.{keeps_from}
use Rattle.leveldb_store.specs.Tables.BuildTable.{TableChoices}
use Rattle.leveldb_store.specs.Compactions.Compact.{CompactsInFull, CompactsStore, FailsToCompact, HasTablesWritten, LogsCompaction, MakesReplacements, ReplacesFiles}
use Rattle.leveldb_store.specs.Keeping.KeptBytes.{IsKeptPath, IsNotReplaced, NewTablesLoseNothing, SparesKept}
use Rattle.leveldb_store.specs.Openings.Opening.{GivesNumbers}
use Rattle.leveldb_store.specs.Keeping.OpenStore.{HasOwnManifest, IsUnbroken, OpenStoreValue}
use Rattle.leveldb_store.specs.Keeping.OpenTables.{AreOpenTablesOf}
use Rattle.leveldb_store.specs.Reading.Read.{HasOpenTables}
use Rattle.leveldb_store.specs.Writing.Room.{HasFailed}
use Rattle.leveldb_store.specs.Writing.Switch.{IsManifestLost}
use Rattle.leveldb_store.specs.Keeping.Written.{HasLiveTables, IsData, IsDataPath, IsWritten, KeepsWritten, SparesRest, memory_of}

-- a path that isn't one of a store's data is another one
not_data : (store path other : List ℕ) (k : FileType) → IsData k → IsFilePath k store path
    → (IsDataPath store other → ⊥) → bytes_eq path other ≡ false
not_data store path other k is_data its spared = by (bytes_eq path other) refl
  where
    by : (b : Bool) → bytes_eq path other ≡ b → bytes_eq path other ≡ false
    by false e = e
    by true e = absurd (spared
        (k, is_data, subst (IsFilePath k store) ((bytes_decides path other).0 e) its))

nothing_sorted : IsStrictlySortedBy file_order []
unfolding IsStrictlySortedBy
nothing_sorted = tt

module _ {E F C FP D P X : Type 0} (order : CmpGhosts (InternalKeyCmp C)) {keys : CmpGhosts D}
    {filters : FilterGhosts P} (env : Ghosts E F) (by : TableOptions C FP)
    (choices : TableChoices keys filters) (old : OpenStoreValue C) (from : E)
    (tables : TableCache E C FP F) (smallest : ℕ) (it : CompactionValue C)
    (files : X → List NewFile) (n : ℕ) (g : Option ℕ) (at : E) (now : TableCache E C FP F) where
  abbrev cmp : List ℕ → List ℕ → Ordering
  cmp = by.format.order

  abbrev store : List ℕ
  store = old.set.store

  -- the store with the new tables' numbers given
  abbrev mid : OpenStoreValue C
  mid = with_numbers old n g

  abbrev Makes : Result X Status → Type 0
  Makes made = MakesReplacements order env by old from tables choices smallest it files made mid at
      now

  abbrev Compacts : Result (Unit {0}) Status → OpenStoreValue C → E → Type 0
  Compacts result new to = CompactsStore order env by old from tables choices smallest it result new
      to now

  -- ---- while its tables are made

  module _ (made : Result X Status) (m : Makes made) where
    same_made : IsTrue env.models_disk → SameGiven old.set (files_at env from) (files_at env at)
    same_made modelled number fits below =
        (m.changes.run modelled).has (table_path store number) (λ k up under k_fits.
        bytes_eq-apart (table_path store k) (table_path store number) (λ e.
        let same = (made_paths_apart store k number Table Table k_fits fits e).0 in
        omega (arith, same, up, below)))

    spares_made : IsTrue env.models_disk → (path : List ℕ) → (IsDataPath store path → ⊥)
        → files_at env at path ≡ files_at env from path
    spares_made modelled path spared = (m.changes.run modelled).has path (λ k up under k_fits.
        not_data store (table_path store k) path Table tt (is_table_path store k k_fits) spared)

    loses_made : NewTablesLoseNothing env store from at old.set.next_file
    loses_made modelled below = Run-mono
        (λ now same. loses_by_tables store old.set.next_file n (files_at env from) now below same)
        (m.changes.run modelled)

    kept_made : SparesKept env.models_disk old.set old.kept_to (env.observed from)
        (env.observed at)
    kept_made modelled = Run-mono
        (λ now same. kept_by_tables old.set old.kept_to n (files_at env from) now same)
        (m.changes.run modelled)

    goes_on_made : GoesOn env from at
    goes_on_made = (λ modelled. (m.changes.run modelled).time.later, m.changes.bytes)

    keeps_made : IsTrue env.models_disk → (meaning : Meaning)
        → KeepsWritten cmp meaning old (env.observed from) mid (env.observed at)
    keeps_made modelled meaning = keeps_new cmp meaning old n g m.gives.rises m.back
        (env.observed from) (env.observed at) (m.changes.run modelled) (m.changes.bytes modelled)

    spares_all : SparesRest env.models_disk old (env.observed from) mid (env.observed at)
    spares_all = record {
      store = refl;
      cmp = refl;
      last = refl;
      kept_to = refl;
      files = spares_made;
      numbers = m.gives.rises;
      tables = λ modelled. given_same old.set (files_at env from) (files_at env at)
          (same_made modelled);
      kept = kept_made;
      locks = m.changes.locks;
    }

    -- it fails before its edit is logged
    pub compacts_unmade : (status : Status)
        → FailsToCompact order env by old from tables choices mid at status
        ⊎ HasFailed (env.failures from) (env.failures at)
        → Compacts (Err status) mid at
    compacts_unmade status why = record {
      keeps = λ has_open meaning agrees. keeps_from cmp meaning smallest old (env.observed from) mid
          (env.observed at) (keeps_made has_open.modelled meaning);
      logged = tt;
      usable = tt;
      err = (inl m.gives, refl);
      memory = refl;
      given = same_made;
      rest = spares_all;
      kept = loses_made;
      still_open = m.still_open;
      sound = sound_unbroken env cmp (Agrees by.format) old from status mid at goes_on_made
          (λ unbroken. record { manifest = unbroken.manifest; log = unbroken.log });
      breaks = λ unbroken. inl (record { manifest = unbroken.manifest; log = unbroken.log });
      cause = record { later = m.changes.later; cause = why };
    }

  -- ---- its edit

  module _ (x : X) (m : Makes (Ok x)) (total : IsTotalOrder cmp) (none : old.imm ≡ None)
      (usable : IsUnbroken old) (deleted : List LevelFile) (only : OnlyPoints it.edit)
      (takes : DeletesFiles (new_files_of it.inputs) it.edit.deleted deleted)
      (pointed : ReplacesFiles cmp old.log.number it
      (compaction_edit old.log.number it.edit.pointers deleted (files x)))
      (manifest : OpenManifest) (used : old.set.manifest ≡ in_use manifest)
      (own : IsTrue env.models_disk → HasOwnManifest old.set) (to : E) (set : VersionSetValue)
      (locks : SameLocks env.models_disk (env.observed at) (env.observed to)) where
    abbrev edit : Edit
    edit = compaction_edit old.log.number it.edit.pointers deleted (files x)

    abbrev pub Logs : Result (Unit {0}) Status → Type 0
    Logs result = (one : OpenManifest) → old.set.manifest ≡ in_use one
        → AppendsEdit env.models_disk one mid.set edit (env.observed at) (env.failures at) result
        set (env.observed to) (env.failures to)

    abbrev pub Writes : Result (Unit {0}) Status → Type 0
    Writes result = (one : OpenManifest) → old.set.manifest ≡ in_use one
        → WritesBytes env.models_disk mid.set edit (env.observed at) result (env.observed to)

    -- ---- tables of a store that is written

    module _ (modelled : IsTrue env.models_disk) (meaning : Meaning) where
      abbrev Made : List LiveTable → Type 0
      Made = HasMade cmp meaning old n g m.gives.rises m.back (env.observed from) (env.observed at)
          (m.changes.run modelled) (m.changes.bytes modelled) smallest it.level edit

      made_of : (before : List LiveTable)
          → HasTablesWritten order env by old from tables meaning before → Made before
      made_of before h =
          let made = m.made meaning before h in
          let edit_is = is_compaction_edit cmp it old.log.number edit pointed made.0 made.1 made.2
          made.3 in
          record {
            inputs = made.0;
            outputs = made.1;
            made = made.4;
            edit_is = edit_is;
            can = λ fits. compaction_encodable mid.set old.log.number it.edit.pointers deleted
                (files x) (omega (arith, w.by.writable.log.fits, w.by.log_is)) fits
                (let most : old.set.last_sequence ≤ 2 ^ 56 - 1 = w.by.last_fits in
                omega (arith, most))
                (λ p c. let at_level = level_of p
                (subst (λ ps. Contains ps p) pointed.pointer.pointers c) in
                omega (arith, at_level, made.4.may.shallow))
                (λ place c.
                let of = (edit_is.deleted place).0 c in
                let level : of.0.file.level ≡ place.0 = ap (λ (one : LevelFile). one.0) of.2 in
                let number : of.0.file.number ≡ place.1 = ap (λ (one : LevelFile). one.1) of.2 in
                let below = (live_below cmp meaning store (files_at env from) w.edits
                (memory_of old) w.by of.0.file
                (subst (λ fs. Contains fs of.0.file) h.has_live.files_are
                (map_in (λ (t : LiveTable). t.file) before of.0 (made.4.there of.0 of.1)))).0 in (
                  ⊎_elim (λ here. omega (arith, level, here, made.4.may.shallow))
                      (λ next. omega (arith, level, next, made.4.may.shallow))
                      (made.4.may.levels of.0.file
                      (map_in (λ (t : LiveTable). t.file) made.0 of.0 of.1)),
                  omega (arith, number, below),
                ))
                (takes.in_order (subst (IsStrictlySortedBy file_order)
                (sym (ap (λ (e : Edit). e.deleted) only)) nothing_sorted))
                (λ file c.
                let fit : FitsEdit file = All-contains FitsEdit (files x) file pointed.added.fit c
                in (
                  omega (arith, (pointed.added.within file c).0, made.4.may.shallow),
                  fit.number,
                  fit.size,
                ));
          }
        where
          w : IsWritten cmp meaning old (files_at env from)
          w = h.written

          level_of : (p : Pointer)
              → Contains (record { level = it.level; key = pointed.pointer.key } ∷ []) p
              → p.level ≡ it.level
          level_of p c = ⊎_elim
              (λ same. sym (ap (λ (one : Pointer). one.level) same))
              (λ never. absurd (in_none p never))
              (in_cases (record { level = it.level; key = pointed.pointer.key }) p [] c)

    -- ---- the manifest

    same_logged : (result : Result (Unit {0}) Status) → Logs result → IsTrue env.models_disk
        → SameGiven old.set (files_at env at) (files_at env to)
    same_logged result logs modelled = same_beside old.set manifest.path Descriptor
        (own modelled manifest used) (λ e. cc) (files_at env at) (files_at env to)
        (appending_and_syncing manifest.path _ (files_at env at) (files_at env to)
        (((logs manifest used).does modelled).now modelled))

    same_all : (result : Result (Unit {0}) Status) → Logs result → IsTrue env.models_disk
        → SameGiven old.set (files_at env from) (files_at env to)
    same_all result logs modelled = same_then old.set (files_at env from) (files_at env at)
        (files_at env to) (same_made (Ok x) m modelled) (same_logged result logs modelled)

    spares_logged : (result : Result (Unit {0}) Status) → Logs result → IsTrue env.models_disk
        → (path : List ℕ) → (IsDataPath store path → ⊥)
        → files_at env to path ≡ files_at env from path
    spares_logged result logs modelled path spared =
        appending_and_syncing manifest.path _ (files_at env at) (files_at env to)
        (((logs manifest used).does modelled).now modelled) path
        (not_data store manifest.path path Descriptor tt (own modelled manifest used) spared)
        ∙ spares_made (Ok x) m modelled path spared

    loses_all : (result : Result (Unit {0}) Status) → Logs result
        → NewTablesLoseNothing env store from to old.set.next_file
    loses_all result logs modelled below =
        meanwhile_then env store (loses_made (Ok x) m modelled below)
        (Run-mono (λ now passes. loses_appending (IsNotReplaced store) manifest.path
        (frame manifest.writer (edit_record mid.set edit)) (files_at env at) now passes)
        (Run-call modelled ((logs manifest used).does modelled)))

    kept_all : (result : Result (Unit {0}) Status) → Logs result
        → SparesKept env.models_disk old.set old.kept_to (env.observed from) (env.observed to)
    kept_all result logs =
        spares_kept_then old.set old.set refl (omega arith) refl
        (kept_made (Ok x) m) (λ modelled. Run-mono
        (λ now passes. loses_appending (IsKeptPath old.set old.kept_to) manifest.path
        (frame manifest.writer (edit_record mid.set edit)) (files_at env at) now passes)
        (Run-call modelled ((logs manifest used).does modelled)))

    locks_all : SameLocks env.models_disk (env.observed from) (env.observed to)
    locks_all modelled = locks modelled ∙ m.changes.locks modelled

    goes_on_logged : (result : Result (Unit {0}) Status) → Logs result → Writes result
        → GoesOn env from to
    goes_on_logged result logs writes = goes_on_then env (goes_on_made (Ok x) m) (
      λ modelled. ((logs manifest used).does modelled).time.later,
      λ modelled bytes. ⊎_elim
          (λ (are : AreBytes (edit_record mid.set edit) × (mid.set.next_file < 2 ^ 64)).
          appending_bytes manifest.path (frame manifest.writer (edit_record mid.set edit))
          (framed_are_bytes manifest.writer.size (edit_record mid.set edit)
          manifest.writer.offset are.0) (files_at env at) (files_at env to)
          (((logs manifest used).does modelled).now modelled) bytes)
          (λ nothing. subst AppendedAreBytes (sym (nothing.1 modelled).has) bytes)
          (writes manifest used),
    )

    -- the open tables are the store's still
    open_logged : (result : Result (Unit {0}) Status) → Logs result → set.store ≡ store
        → n ≤ set.next_file → HasOpenTables order env by old from tables
        → AreOpenTablesOf order env by set (files_at env to) now
    open_logged result logs same_store least has_open = stay_open env by mid.set set same_store
        least (files_at env at) (files_at env to)
        (given_same mid.set (files_at env at) (files_at env to)
        (same_beside mid.set manifest.path Descriptor (own has_open.modelled manifest used)
        (λ e. cc) (files_at env at) (files_at env to)
        (appending_and_syncing manifest.path _ (files_at env at) (files_at env to)
        (((logs manifest used).does has_open.modelled).now has_open.modelled))))
        now now (ClosesTables-refl now) (m.still_open has_open)

    -- the manifest was there as it was before the tables were made
    manifest_stays : IsTrue env.models_disk
        → files_at env at manifest.path ≡ files_at env from manifest.path
    manifest_stays modelled = (m.changes.run modelled).has manifest.path (λ k up under k_fits.
        types_apart store (table_path store k) manifest.path Table Descriptor
        (is_table_path store k k_fits) (own modelled manifest used) (λ e. cc))

    -- ---- the edit wasn't logged

    module _ (status : Status) (logs : Logs (Err status)) (writes : Writes (Err status)) where
      l_err : AppendsEdit env.models_disk manifest mid.set edit (env.observed at) (env.failures at)
          (Err status) set (env.observed to) (env.failures to)
      l_err = logs manifest used

      either : {A : Type 0} (part : VersionSetValue → A)
          → part (record mid.set { manifest = broken }) ≡ part mid.set → part set ≡ part mid.set
      either part same = ⊎_elim (λ memory. ap part memory.1) (λ broke. ap part broke ∙ same)
          l_err.err

      breaks_for : IsTrue env.models_disk → (meaning : Meaning)
          → IsWritten cmp meaning old (files_at env from)
          → IsOutOfMemory status ⊎ HasFailed (env.failures from) (env.failures to)
      breaks_for modelled meaning w = ⊎_elim
          (λ lost. inl (⊎_elim (λ memory. memory)
          (λ missing. absurd (written_manifest cmp meaning old (files_at env from) w manifest used
          (sym (manifest_stays modelled) ∙ missing.1 modelled))) lost))
          (λ counted. inr (failed_later (env.failures from) (env.failures at) (env.failures to)
          m.changes.later l_err.cause.later
          (failed_once (env.failures at) (env.failures to) counted)))
          l_err.cause.cause

      lost_before : env.failures at ≡ env.failures from
          → IsLost env.models_disk manifest.path (env.observed at) (env.failures at)
          (env.failures to) status
          → IsLost env.models_disk manifest.path (env.observed from) (env.failures from)
          (env.failures to) status
      lost_before same_count (inl memory) = inl memory
      lost_before same_count (inr missing) = inr (
        missing.0,
        λ modelled. sym (manifest_stays modelled) ∙ missing.1 modelled,
        missing.2 ∙ same_count,
      )

      broke_for : IsManifestLost env old from to status
          ⊎ HasFailed (env.failures from) (env.failures to)
      broke_for = ⊎_elim
          (λ (less : env.failures from < env.failures at).
          inr (inl (omega (arith, less, l_err.cause.later))))
          (λ (most : env.failures at ≤ env.failures from). ⊎_elim
          (λ lost. inl (inl (
            manifest,
            used,
            lost_before (omega (arith, most, m.changes.later)) lost,
          )))
          (λ counted. inr (failed_later (env.failures from) (env.failures at) (env.failures to)
          m.changes.later l_err.cause.later
          (failed_once (env.failures at) (env.failures to) counted)))
          l_err.cause.cause)
          (cases_lt (env.failures from) (env.failures at))

      why : FailsToCompact order env by old from tables choices (record mid { set = set }) to status
          ⊎ HasFailed (env.failures from) (env.failures to)
      why = ⊎_elim (λ lost. inl (inr lost)) (λ counted. inr counted) broke_for

      pub compacts_unlogged : Compacts (Err status) (record mid { set = set }) to
      compacts_unlogged = record {
        keeps = λ has_open meaning agrees. keeps_from cmp meaning smallest old (env.observed from)
            (record mid { set = set }) (env.observed to) (λ allowed is.
            let modelled = has_open.modelled in
            keeps_unlogged cmp meaning old n g m.gives.rises m.back (env.observed from)
            (env.observed at) (m.changes.run modelled) (m.changes.bytes modelled) smallest it.level
            edit total none is (λ before live. made_of modelled meaning before (record {
              has_open = has_open;
              agrees = agrees;
              written = is;
              has_live = live;
            }))
            env.models_disk modelled (env.observed to) (env.failures at) (env.failures to) set
            status logs writes allowed);
        logged = tt;
        usable = tt;
        err = (
          ⊎_elim (λ memory. inl (subst (GivesNumbers old.set) (sym memory.1) m.gives))
              (λ broke. inr (mid.set, m.gives, broke)) l_err.err,
          refl,
        );
        memory = refl;
        given = same_all (Err status) logs;
        rest = record {
          store = either (λ s. s.store) refl;
          cmp = refl;
          last = either (λ s. s.last_sequence) refl;
          kept_to = refl;
          files = spares_logged (Err status) logs;
          numbers = omega (arith, m.gives.rises, either (λ s. s.next_file) refl);
          tables = λ modelled. given_same old.set (files_at env from) (files_at env to)
              (same_all (Err status) logs modelled);
          kept = kept_all (Err status) logs;
          locks = locks_all;
        };
        kept = loses_all (Err status) logs;
        still_open = open_logged (Err status) logs (either (λ s. s.store) refl)
            (omega (arith, either (λ s. s.next_file) refl));
        sound = record {
          time = (goes_on_logged (Err status) logs writes).0;
          bytes = (goes_on_logged (Err status) logs writes).1;
          breaks = λ modelled meaning means w. inr (breaks_for modelled meaning w);
        };
        breaks = λ unbroken. inr broke_for;
        cause = record { later = omega (arith, m.changes.later, l_err.cause.later); cause = why };
      }

    -- ---- it was: `current` is the version then

    module _ (current : VersionValue C) (logs : Logs (Ok tt)) (writes : Writes (Ok tt))
        (follows : IsVersionAfter cmp edit old.current current) where
      l_ok : AppendsEdit env.models_disk manifest mid.set edit (env.observed at) (env.failures at)
          (Ok tt) set (env.observed to) (env.failures to)
      l_ok = logs manifest used

      abbrev new : OpenStoreValue C
      new = record mid { set = set; current = current }

      part_is : {A : Type 0} (part : VersionSetValue → A)
          → part set ≡ part (set_appended manifest mid.set edit)
      part_is part = ap part l_ok.ok

      logs_it : LogsCompaction cmp it old new
      logs_it = record {
        given = mid.set;
        gives = m.gives;
        manifest = manifest;
        was_in_use = used;
        edit = edit;
        replaces = pointed;
        set = l_ok.ok;
        current = follows;
      }

      in_full : CompactsInFull order env by old from tables choices smallest it new logs_it to
      unfolding made_of logs_it
      in_full meaning before h =
          let modelled = h.has_open.modelled in
          let made = m.made meaning before h in
          let all : (others : List LiveTable)
          → HasLiveTables cmp meaning old (files_at env from) others
          → HasMade cmp meaning old n g m.gives.rises m.back (env.observed from) (env.observed at)
          (m.changes.run modelled) (m.changes.bytes modelled) smallest it.level edit others =
          λ others live. made_of modelled meaning others (record {
            has_open = h.has_open;
            agrees = h.agrees;
            written = h.written;
            has_live = live;
          }) in
          let then = full_then cmp meaning old n g m.gives.rises m.back (env.observed from)
          (env.observed at) (m.changes.run modelled) (m.changes.bytes modelled) smallest it.level
          edit total none h.written all env.models_disk modelled (env.observed to)
          (env.failures at) (env.failures to) set current logs writes before h.has_live in (
            made.0,
            made.1,
            then.0,
            then.1,
            record {
              compaction = record { compacts = then.2; merges_or_moves = made.5 };
              edit_is = (all before h.has_live).edit_is;
              pointer = subst (λ fs. SetsPointer cmp it.level fs edit) (sym made.2)
                  pointed.pointer;
            },
          )

      pub compacts_logged : Compacts (Ok tt) new to
      compacts_logged = record {
        keeps = λ has_open meaning agrees allowed is.
            let modelled = has_open.modelled in
            keeps_logged cmp meaning old n g m.gives.rises m.back (env.observed from)
            (env.observed at) (m.changes.run modelled) (m.changes.bytes modelled) smallest it.level
            edit total none is (λ before live. made_of modelled meaning before (record {
              has_open = has_open;
              agrees = agrees;
              written = is;
              has_live = live;
            }))
            env.models_disk modelled (env.observed to) (env.failures at) (env.failures to) set
            current logs writes allowed;
        logged = (logs_it, in_full);
        usable = record {
          manifest = λ is. never_broken _ (sym (part_is (λ s. s.manifest)) ∙ is);
          log = usable.log;
        };
        err = tt;
        memory = refl;
        given = same_all (Ok tt) logs;
        rest = record {
          store = part_is (λ s. s.store);
          cmp = refl;
          last = part_is (λ s. s.last_sequence);
          kept_to = refl;
          files = spares_logged (Ok tt) logs;
          numbers = omega (arith, m.gives.rises, part_is (λ s. s.next_file));
          tables = λ modelled. given_same old.set (files_at env from) (files_at env to)
              (same_all (Ok tt) logs modelled);
          kept = kept_all (Ok tt) logs;
          locks = locks_all;
        };
        kept = loses_all (Ok tt) logs;
        still_open = open_logged (Ok tt) logs (part_is (λ s. s.store))
            (omega (arith, part_is (λ s. s.next_file)));
        sound = sound_ok env cmp (Agrees by.format) old from tt new to
            (goes_on_logged (Ok tt) logs writes);
        breaks = λ unbroken. tt;
        cause = record { later = omega (arith, m.changes.later, l_ok.cause.later); cause = tt };
      }
