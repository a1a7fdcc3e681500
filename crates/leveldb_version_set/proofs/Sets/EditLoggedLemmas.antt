-- An edit that changes nothing that is shown is logged: the store is written on, and no entries
-- wait.
use Rattle.leveldb_base.proofs.HistoryLemmas.{in_none}
use Rattle.leveldb_base.proofs.NamesLemmas.{made_name}
use Rattle.leveldb_base.specs.Names.{IsFileName, file_name}
use Rattle.leveldb_base.specs.Types.{Pair}
use Rattle.leveldb_base.specs.declared.types.FileType.{FileType}
use Rattle.leveldb_base.specs.declared.types.FileType.TheVariants.{Descriptor, Log, Table}
use Rattle.leveldb_env.specs.Env.{AreBytes, Files, in_folder}
use Rattle.leveldb_mem.specs.Log.Writer.{after_frame, frame}
use Rattle.leveldb_version_set.proofs.Sets.EditTrackedLemmas.{after, appended_tracked, same_of}
use Rattle.leveldb_version_set.proofs.Sets.LogKeepsLemmas.{appended_edits_keep}
use Rattle.leveldb_files.proofs.Stores.ManagedLemmas.{same_bytes, tables_on}
use Rattle.leveldb_files.proofs.Histories.SafeLemmas.{some_is}
use Rattle.leveldb_version_set.proofs.Sets.TracksLemmas.{NumbersAre, numbers_are}
use Rattle.leveldb_files.specs.Stores.Contents.{Store}
use Rattle.leveldb_files.specs.Levels.Levels.{LiveTable}
use Rattle.leveldb_version_set.specs.Sets.LogEdit.{AppendingAndSyncing, edit_record, set_appended, with_bytes_kept, written_edit}
use Rattle.leveldb_files.specs.Stores.Paths.{table_path}
use Rattle.leveldb_files.specs.Stores.Store.{HasTables, IsManagedBy, LogIsReplayed}
use Rattle.leveldb_files.specs.Steps.StoreSteps.{EditRefines, IsKept, IsWritable, KeepsHistory, Refines, TablesAreKept}
use Rattle.leveldb_version_set.specs.Sets.Tracks.{IsInUse}
use Rattle.leveldb_files.specs.Edits.Edit.{Edit, IsEncodable}
use Rattle.leveldb_files.specs.Edits.VersionSet.{live_after}
use Rattle.leveldb_version_set.specs.Sets.VersionSetValue.{OpenManifest, VersionSetValue}
use Rattle.leveldb_version_set.specs.Engines.Writing.{EngineMemory, IsTrackedBy, IsWrittenBy}
use Rattle.leveldb_version_set.specs.Compactions.CompactionEdit.{EditsAreLogged}
use Rattle.std.proofs.Common.{◌++◌, ◌<◌, ◌^◌, ◌∙◌, ◌∷◌, ◌≡◌, ◌≤◌, List, Some, [], ap, arith, inl, inr, refl, subst, sym, ℕ}
use Rattle.std.specs.Option.{unwrap_or}
use Rattle.std.specs.Prelude.{◌≢◌}
use Rattle.std.specs.declared.cmp.Ordering.{Ordering}

module _ (store : List ℕ) (cmp : List ℕ → List ℕ → Ordering)
    (IsTableOf : List ℕ → List Pair → Type 0) (allowed : Store → Type 0) where
  module _ (files : Files) (edits : List Edit) (memory : EngineMemory)
      (w : IsWrittenBy store cmp IsTableOf files edits memory) (plain : Edit)
      (names : plain.log_number ≡ Some memory.log) where
    abbrev edit : Edit
    edit = written_edit memory.set plain

    abbrev then : List Edit
    then = edits ++ edit ∷ []

    abbrev m : IsManagedBy store cmp IsTableOf files edits w.tracked.contents
    m = w.tracked.managed

    n : NumbersAre edits memory.set plain
    n = numbers_are edits memory.set plain

    pub new_log : (live_after then).log_number ≡ Some memory.log
    new_log = n.log_number ∙ ap (λ o. Some (unwrap_or o memory.set.log_number)) names

    pub from_log : (k : ℕ) → LogIsReplayed (live_after then) k → memory.log ≤ k
    from_log k (inl x) =
        let e = some_is memory.log x.0 (sym new_log ∙ x.1) in omega (arith, x.2, e)
    from_log k (inr x) = absurd (let zero = some_is 0 k (sym n.previous_log ∙ x.0) in
        omega (arith, zero, x.1))

    pub still : (k : ℕ) → memory.log ≤ k → LogIsReplayed (live_after edits) k
    still k most = inl (
      memory.set.log_number,
      w.tracked.tracks.left.log_number,
      omega (arith, most, w.from_log),
    )

    module _ (refines : (bound : ℕ) → memory.set.last_sequence ≤ bound
        → EditRefines store cmp IsTableOf bound files edits edit)
        (tables_kept : TablesAreKept store files (live_after then))
        (can : IsEncodable edit) where
      refines_now : EditRefines store cmp IsTableOf memory.set.last_sequence files edits edit
      refines_now = refines memory.set.last_sequence (omega arith)

      keeps : AreBytes (edit_record memory.set plain) → (bound : ℕ)
          → memory.set.last_sequence ≤ bound → (now : Files)
          → AppendingAndSyncing w.manifest.path
          (frame w.manifest.writer (edit_record memory.set plain)) files now
          → KeepsHistory store cmp IsTableOf allowed bound files now
      keeps bytes bound most now passes =
          appended_edits_keep store cmp IsTableOf allowed files edits memory.set plain
          w.tracked.tracks w.tracked.store_is w.tracked.bytes can bytes bound
          (refines bound most) w.manifest w.is_in_use now passes

      -- ---- the store after it

      abbrev text : List ℕ
      text = edit_record memory.set plain

      abbrev now : Files
      now = with_bytes_kept w.manifest.path (frame w.manifest.writer text) files

      abbrev set_after : VersionSetValue
      set_after = set_appended w.manifest memory.set plain

      abbrev manifest_after : OpenManifest
      manifest_after = record w.manifest { writer = after_frame w.manifest.writer text }

      module _ (bytes : AreBytes text) where
        abbrev tracked_after : IsTrackedBy store cmp IsTableOf now then set_after
        tracked_after = appended_tracked store cmp IsTableOf files edits memory.set w.tracked
            w.tracked.contents m w.reached plain can refines_now w.manifest w.is_in_use bytes

        refined : Refines memory.set.last_sequence w.tracked.contents tracked_after.contents
        refined = (after store cmp IsTableOf files edits memory.set w.tracked w.tracked.contents m
            w.reached plain can refines_now w.manifest w.is_in_use bytes).2

        same : (name : List ℕ) (k : ℕ) (kind : FileType) → IsFileName name k kind
            → Descriptor ≢ kind → now (in_folder store name) ≡ files (in_folder store name)
        same = same_of store cmp IsTableOf files edits memory.set w.tracked w.tracked.contents m
            w.reached plain can refines_now w.manifest w.is_in_use bytes

        same_log : (name : List ℕ) (k : ℕ) → IsFileName name k Log
            → now (in_folder store name) ≡ files (in_folder store name)
        same_log name k its = same name k Log its (λ e. cc)

        same_table : (k : ℕ) → k < 2 ^ 64
            → now (table_path store k) ≡ files (table_path store k)
        same_table k k_fits =
            same (file_name Table k) k Table (made_name Table k k_fits) (λ e. cc)

        still_tables : (tables : List LiveTable)
            → HasTables store cmp IsTableOf files (live_after then) tables
            → HasTables store cmp IsTableOf now (live_after then) tables
        still_tables tables has = tables_on store cmp IsTableOf (live_after then) files now tables
            (λ file fits live. same_bytes (files (table_path store file.number))
            (now (table_path store file.number)) (same_table file.number fits)) has

        in_use_after : IsInUse store now then manifest_after
        in_use_after = subst (λ s. IsInUse s now then manifest_after) w.tracked.store_is
            (tracked_after.tracks.used manifest_after refl)

        abbrev writable_after : IsWritable store now then
        writable_after = record {
          has_edits = in_use_after.opened.has_edits;
          current = in_use_after.opened.current_kept;
          manifest = in_use_after.manifest_kept;
          tables = λ file file_fits live. subst IsKept (sym (same_table file.number file_fits))
              (tables_kept file file_fits live);
          log = record {
            number = w.writable.log.number;
            fits = w.writable.log.fits;
            last = record {
              replayed = inl (memory.log, new_log, omega (arith, w.log_is));
              empty_after = λ name k other its replayed less there.
                  w.writable.log.last.empty_after name k other its (still k (from_log k replayed))
                  less (sym (same_log name k its) ∙ there);
              others_kept = λ name k its replayed differ. subst IsKept (sym (same_log name k its))
                  (w.writable.log.last.others_kept name k its (still k (from_log k replayed))
                  differ);
            };
            clean_before = λ k other less replayed there. let up = from_log k replayed in
                absurd (omega (arith, less, up, w.log_is));
            file = w.writable.log.file;
            there = same_log (file_name Log w.writable.log.number) w.writable.log.number
                (made_name Log w.writable.log.number w.writable.log.fits) ∙ w.writable.log.there;
            records = w.writable.log.records;
            clean_end = w.writable.log.clean_end;
            batches = w.writable.log.batches;
            each = w.writable.log.each;
          };
          bytes = w.writable.bytes;
        }

        written_after : IsWrittenBy store cmp IsTableOf now then
            (record memory { set = set_after; imm = [] })
        written_after = record {
          tracked = tracked_after;
          manifest = manifest_after;
          is_in_use = refl;
          writable = writable_after;
          log_is = w.log_is;
          from_log = subst (λ k. k ≤ memory.log)
              (ap (λ o. unwrap_or o memory.set.log_number) (sym names)) (omega arith);
          mem_is = w.mem_is;
          imm_is = λ entry. (
            λ c. absurd (in_none entry c),
            λ l. let up = from_log l.0.number (tracked_after.managed.has_logs.each l.0 l.1).1 in
                absurd (omega (arith, l.2, up)),
          );
          reached = refined.bounded;
          last_fits = w.last_fits;
        }

  pub edits_are_logged : EditsAreLogged store cmp IsTableOf allowed
  edits_are_logged files edits memory w plain names refines tables_kept can bytes = record {
    keeps = keeps files edits memory w plain names refines tables_kept can bytes;
    tables = still_tables files edits memory w plain names refines tables_kept can bytes;
    written = written_after files edits memory w plain names refines tables_kept can bytes;
  }
