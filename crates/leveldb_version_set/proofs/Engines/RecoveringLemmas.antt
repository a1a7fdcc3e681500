-- A store that an opening recovers: its set tracks it, syncs keep what is read, and it stays so.
use Rattle.leveldb_base.proofs.HistoryLemmas.{in_cases, in_none}
use Rattle.leveldb_base.proofs.NamesLemmas.{made_name}
use Rattle.leveldb_base.specs.Names.{IsFileName, file_name}
use Rattle.leveldb_base.specs.Types.{Pair}
use Rattle.leveldb_base.specs.declared.types.FileType.TheVariants.{Current, Descriptor, Log}
use Rattle.leveldb_env.proofs.EnvLemmas.{SameBut-synced, at_other, at_same}
use Rattle.leveldb_env.specs.Env.{File, Files, bytes_of, file_kept, in_folder, kept_file, synced, with_file}
use Rattle.leveldb_files.proofs.Steps.BytesLemmas.{bytes_stay}
use Rattle.leveldb_files.proofs.Edits.CurrentLemmas.{one_current}
use Rattle.leveldb_files.proofs.Stores.ManagedLemmas.{gone_again, kinds_apart, managed_on}
use Rattle.leveldb_files.proofs.Histories.SafeLemmas.{by_name}
use Rattle.leveldb_files.proofs.Steps.StaysLemmas.{synced_same, tables_kept}
use Rattle.leveldb_version_set.proofs.Engines.SwitchLogLemmas.{is_made, tracked_after_new_log}
use Rattle.leveldb_version_set.proofs.Sets.TrackedLemmas.{number_still, tracked_given, tracked_synced, tracked_unread, unread_unnamed}
use Rattle.leveldb_version_set.proofs.Sets.TracksLemmas.{going_on_is_tracked, next_is_above, not_unmade, starting_anew_is_tracked, stays_tracked}
use Rattle.leveldb_files.specs.Stores.Contents.{Contents, Store}
use Rattle.leveldb_files.specs.Edits.Current.{IsCurrentText}
use Rattle.leveldb_version_set.specs.Engines.Opening.{IsRecoveredBut}
use Rattle.leveldb_version_set.specs.Engines.OpeningLaws.{RecoveredAfterGiving, RecoveredAfterNewLogs, RecoveredAfterNumbering, RecoveredAfterSyncs, RecoveredAfterUnread, RecoveredSetsTrack, SafeStoresKeepTables, StoresAreRecovered}
use Rattle.leveldb_files.specs.Stores.Paths.{current_path, log_path, table_path}
use Rattle.leveldb_version_set.specs.Sets.Recover.{IsNamed, IsRead, IsReusable, IsUsable, ReadManifest, greatest_file_number, next_number_after, set_going_on, set_starting_anew}
use Rattle.leveldb_files.specs.Stores.Store.{HasEdits, IsManagedBy, LogIsReplayed}
use Rattle.leveldb_files.specs.Steps.StoreSteps.{AppendedAreBytes, IsKept, TablesAreKept}
use Rattle.leveldb_version_set.specs.Sets.Tracks.{Tracks}
use Rattle.leveldb_files.specs.Edits.Edit.{Edit}
use Rattle.leveldb_files.specs.Edits.VersionSet.{FileSet, live_after}
use Rattle.leveldb_version_set.specs.Sets.VersionSetValue.{VersionSetValue}
use Rattle.leveldb_version_set.specs.Engines.Writing.{IsRecoveredBy, IsTrackedBy, NumbersAreBelow}
use Rattle.std.proofs.Common.{◌<◌, ◌≤◌, ◌+◌, ◌^◌, ◌∷◌, ◌∙◌, ◌≡◌, Bool, List, None, Option, Some, [], ap, arith, false, inr, refl, subst, sym, true, ℕ, ⊎_elim}
use Rattle.std.proofs.Math.Nat.{le-max_left}
use Rattle.std.specs.Cmp.Lexicographic.{bytes_decides}
use Rattle.std.specs.Option.{option_map}
use Rattle.std.specs.Prelude.{◌≢◌, Contains, IsSomeAnd}
use Rattle.std.specs.Str.{bytes_eq}
use Rattle.std.specs.declared.cmp.Ordering.{Ordering}

-- ---- syncs

pub sync_keeps : (path : List ℕ) (files : Files) → IsKept (synced path files path)
sync_keeps path files = subst IsKept (sym (at_same path (option_map file_kept (files path)) files))
    (all_kept (files path))
  where
    all_kept : (file : Option File) → IsKept (option_map file_kept file)
    all_kept None = tt
    all_kept (Some file) = refl

pub kept_after_sync : (path other : List ℕ) (files : Files) → IsKept (files other)
    → IsKept (synced path files other)
kept_after_sync path other files kept =
    by_name (λ q. IsKept (synced path files q)) path other (sync_keeps path files)
    (λ away. subst IsKept
    (sym (at_other path (option_map file_kept (files path)) files other away)) kept)

-- what is missing is kept
kept_if_there : (file : Option File) → (file ≢ None → IsKept file) → IsKept file
kept_if_there None kept = tt
kept_if_there (Some file) kept =
    kept (λ gone. let never : Some file ≡ None = gone in cc)

module _ (store : List ℕ) (cmp : List ℕ → List ℕ → Ordering)
    (IsTableOf : List ℕ → List Pair → Type 0) where
  -- ---- a set that was recovered

  -- `CURRENT` names the manifest that was read
  named_is : (files : Files) (manifest : ReadManifest) → IsRead store files manifest
      → (name : List ℕ) (n : ℕ) → IsNamed store files name n → n ≡ manifest.number
  named_is files manifest read name n named =
      let e = read.has_edits in
      sym (one_current (bytes_of e.current) e.name name e.number n e.named
      (subst (λ o. IsSomeAnd o (λ (file : File). IsCurrentText (bytes_of file) name n))
      e.current_there named)).1 ∙ read.number

  module _ (comparator : List ℕ) (old : VersionSetValue) (manifest : ReadManifest)
      (files : Files) (same : old.store ≡ store) (read : IsRead store files manifest)
      (usable : IsUsable cmp comparator manifest.edits)
      (current : IsKept (files (current_path store))) (bytes : AppendedAreBytes files)
      (below : NumbersAreBelow store files old.next_file) (contents : Contents)
      (m : IsManagedBy store cmp IsTableOf files manifest.edits contents) where
    abbrev next : ℕ
    next = next_number_after old manifest.edits manifest.number

    later : old.next_file ≤ next
    later = le-max_left old.next_file
        (greatest_file_number (live_after manifest.edits) manifest.number + 1)

    module _ (reuse : Bool) (limit : ℕ) (reusable : IsReusable reuse limit manifest) where
      abbrev path : List ℕ
      path = in_folder store manifest.name

      tracks : Tracks (synced path files) manifest.edits (set_going_on old manifest)
      tracks = subst
          (λ s. IsRead s files manifest → IsKept (files (current_path s))
          → Tracks (synced (in_folder s manifest.name) files) manifest.edits
          (set_going_on old manifest)) same
          (λ r k. going_on_is_tracked cmp comparator reuse limit old manifest files r usable
          reusable k) read current

      no_current : bytes_eq path (current_path store) ≡ false
      no_current = kinds_apart store manifest.name (file_name Current 0) read.has_edits.number 0
          Descriptor Current
          (subst (λ name. IsFileName name read.has_edits.number Descriptor) read.name
          read.has_edits.named.0)
          (made_name Current 0 refl) (λ d. cc)

      pub going_on_tracked : IsTrackedBy store cmp IsTableOf (synced path files) manifest.edits
          (set_going_on old manifest)
      going_on_tracked = record {
        tracks = tracks;
        store_is = same;
        has_edits = subst (λ s. HasEdits s (synced path files) manifest.edits) same
            (tracks.used _ refl).opened.has_edits;
        contents = contents;
        managed = managed_on store cmp IsTableOf files (synced path files) manifest.edits contents
            (record {
              tables = λ file fits live.
                  synced_same store cmp IsTableOf path files (table_path store file.number);
              logs = λ name n is replayed.
                  synced_same store cmp IsTableOf path files (in_folder store name);
            }) m;
        numbers = λ name n kind is some.
            let less = below name n kind is
            (gone_again (files (in_folder store name)) (synced path files (in_folder store name))
            (synced_same store cmp IsTableOf path files (in_folder store name)) some) in
            omega (arith, less, later);
        manifest_below = (next_is_above old manifest.edits manifest.number).1;
        number_is = λ used e. number_still store cmp IsTableOf path files (synced path files)
            manifest.number (SameBut-synced path files (synced path files) (inr refl)) no_current
            (named_is files manifest read);
        bytes = (bytes_stay files bytes).sync path;
      }

    pub starting_anew_tracked : (set_starting_anew old manifest).next_file < 2 ^ 64
        → IsTrackedBy store cmp IsTableOf files manifest.edits (set_starting_anew old manifest)
    starting_anew_tracked fits = record {
      tracks = subst
          (λ s. IsRead s files manifest → IsKept (files (current_path s))
          → Tracks files manifest.edits (set_starting_anew old manifest)) same
          (λ r k. starting_anew_is_tracked cmp comparator old manifest files r usable k fits)
          read current;
      store_is = same;
      has_edits = read.has_edits;
      contents = contents;
      managed = m;
      numbers = λ name n kind is some.
          let less = below name n kind is some in omega (arith, less, later);
      manifest_below = omega arith;
      number_is = λ used e. not_unmade used (sym e);
      bytes = bytes;
    }

  pub recovered_sets_track : RecoveredSetsTrack store cmp IsTableOf
  recovered_sets_track comparator old manifest files same read usable current bytes below contents
      m = record {
        goes_on = going_on_tracked comparator old manifest files same read usable current bytes
            below contents m;
        starts_anew = starting_anew_tracked comparator old manifest files same read usable current
            bytes below contents m;
      }

  -- ---- what is kept

  pub safe_stores_keep_tables : (allowed : Store → Type 0)
      → SafeStoresKeepTables store cmp IsTableOf allowed
  safe_stores_keep_tables allowed files edits set t bound durable history safe =
      tables_kept store cmp IsTableOf files t.bytes allowed bound durable history t.contents safe
      (record { edits = edits; has_edits = t.has_edits; managed = t.managed })

  sync_keeps_tables : (path : List ℕ) (files : Files) (set : FileSet)
      → TablesAreKept store files set → TablesAreKept store (synced path files) set
  sync_keeps_tables path files set kept file fits live =
      kept_after_sync path (table_path store file.number) files (kept file fits live)

  module _ (files : Files) (edits : List Edit) (set : VersionSetValue) where
    first_kept : IsTrackedBy store cmp IsTableOf files edits set
        → TablesAreKept store files (live_after edits) → (logs : List ℕ)
        → ((name : List ℕ) (n : ℕ) → IsFileName name n Log → LogIsReplayed (live_after edits) n
        → files (in_folder store name) ≢ None → Contains logs n)
        → IsRecoveredBut store cmp IsTableOf logs files edits set
    first_kept t tables logs all = record {
      tracked = t;
      tables = tables;
      logs = λ name n is replayed others. kept_if_there (files (in_folder store name))
          (λ some. absurd (others (all name n is replayed some)));
    }

    next_kept : (n : ℕ) (logs : List ℕ) → n < 2 ^ 64
        → IsRecoveredBut store cmp IsTableOf (n ∷ logs) files edits set
        → IsRecoveredBut store cmp IsTableOf logs (synced (log_path store n) files) edits set
    next_kept n logs fits r = record {
      tracked = tracked_synced store cmp IsTableOf files edits set r.tracked n fits;
      tables = sync_keeps_tables (log_path store n) files (live_after edits) r.tables;
      logs = λ name k is replayed others.
          by_name (λ q. IsKept (synced (log_path store n) files q)) (log_path store n)
          (in_folder store name) (sync_keeps (log_path store n) files)
          (λ away. kept_after_sync (log_path store n) (in_folder store name) files
          (kept_if_there (files (in_folder store name))
          (λ some. r.logs name k is replayed
          (λ c. ⊎_elim
          (λ (e : n ≡ k). absurd (apart name k is replayed some away e)) others
          (in_cases n k logs c)))));
    }
      where
        -- the log of this number has the store's own name for it
        apart : (name : List ℕ) (k : ℕ) → IsFileName name k Log
            → LogIsReplayed (live_after edits) k → files (in_folder store name) ≢ None
            → bytes_eq (log_path store n) (in_folder store name) ≡ false → n ≡ k → ⊥
        apart name k is replayed some away e =
            let own = (r.tracked.managed.has_logs.all name k is replayed some).0 in
            let same : log_path store n ≡ in_folder store name =
            ap (log_path store) e ∙ sym (ap (in_folder store) own) in
            let never : true ≡ false = sym ((bytes_decides (log_path store n)
            (in_folder store name)).1 same) ∙ away in cc

    last_kept : IsRecoveredBut store cmp IsTableOf [] files edits set
        → IsRecoveredBy store cmp IsTableOf files edits set
    last_kept r = record {
      tracked = r.tracked;
      kept = record {
        tables = r.tables;
        logs = λ name n is replayed. r.logs name n is replayed (λ c. in_none n c);
      };
    }

  pub stores_are_recovered : StoresAreRecovered store cmp IsTableOf
  stores_are_recovered files edits set = record {
    first = first_kept files edits set;
    next = next_kept files edits set;
    last = last_kept files edits set;
  }

  -- ---- it stays recovered

  pub recovered_given : RecoveredAfterGiving store cmp IsTableOf
  recovered_given files edits set r = record {
    tracked = tracked_given store cmp IsTableOf files edits set r.tracked;
    kept = r.kept;
  }

  pub recovered_numbered : RecoveredAfterNumbering store cmp IsTableOf
  recovered_numbered files edits set r last later =
      let t = r.tracked in
      record {
        tracked = record {
          tracks = (stays_tracked files edits set t.tracks).numbered last later;
          store_is = t.store_is;
          has_edits = t.has_edits;
          contents = t.contents;
          managed = t.managed;
          numbers = t.numbers;
          manifest_below = t.manifest_below;
          number_is = t.number_is;
          bytes = t.bytes;
        };
        kept = r.kept;
      }

  pub recovered_synced : RecoveredAfterSyncs store cmp IsTableOf
  recovered_synced files edits set r n fits = record {
    tracked = tracked_synced store cmp IsTableOf files edits set r.tracked n fits;
    kept = record {
      tables = sync_keeps_tables (log_path store n) files (live_after edits) r.kept.tables;
      logs = λ name k is replayed.
          kept_after_sync (log_path store n) (in_folder store name) files
          (r.kept.logs name k is replayed);
    };
  }

  pub recovered_after_new_log : RecoveredAfterNewLogs store cmp IsTableOf
  recovered_after_new_log files edits set r fits now makes = record {
    tracked = tracked_after_new_log store cmp IsTableOf files edits set r.tracked fits now makes;
    kept = record {
      tables = λ file file_fits live.
          kept_then (table_path store file.number) (r.kept.tables file file_fits live);
      logs = λ name k is replayed.
          kept_then (in_folder store name) (r.kept.logs name k is replayed);
    };
  }
    where
      path : List ℕ
      path = log_path store set.next_file

      kept_then : (other : List ℕ) → IsKept (files other) → IsKept (now other)
      kept_then other kept = ⊎_elim
          (λ (is : now ≡ files). subst (λ (f : Files). IsKept (f other)) (sym is) kept)
          (λ (is : now ≡ with_file path (Some (kept_file [])) files).
          subst (λ (f : Files). IsKept (f other)) (sym is)
          (by_name (λ q. IsKept (with_file path (Some (kept_file [])) files q)) path other
          (subst IsKept (sym (at_same path (Some (kept_file [])) files)) refl)
          (λ away.
          subst IsKept (sym (at_other path (Some (kept_file [])) files other away)) kept)))
          (is_made store cmp IsTableOf files edits set r.tracked fits now makes)

  pub recovered_unread : RecoveredAfterUnread store cmp IsTableOf
  recovered_unread files edits set r path un numbered now same bytes =
      let unnamed = unread_unnamed store cmp IsTableOf path files edits r.tracked.has_edits
      r.tracked.bytes un in
      record {
        tracked = tracked_unread store cmp IsTableOf files edits set r.tracked path un numbered now
            same bytes;
        kept = record {
          tables = λ file fits live. subst IsKept
              (sym (same (table_path store file.number) (unnamed.tables file fits live)))
              (r.kept.tables file fits live);
          logs = λ name k is replayed. subst IsKept
              (sym (same (in_folder store name) (unnamed.logs name k is replayed)))
              (r.kept.logs name k is replayed);
        };
      }
