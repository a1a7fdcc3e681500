-- That a compaction takes its inputs alone from the live tables, whatever the files are.
use Rattle.std.specs.Prelude.{Contains, fold}
use Rattle.std.proofs.Common.{◌≡◌, ◌∙◌, ◌⊎◌, ◌==◌, ◌<◌, ◌^◌, inl, inr, ⊎_elim, ℕ, Bool, true, false, not, List, [], ◌∷◌, None, Some, Ok, Err, ap, refl, subst, sym}
use Rattle.std.proofs.lemmas.Bool.{and_parts, eqb-true}
use Rattle.std.proofs.lemmas.List.Elements.{Contains-append_left, Contains-append_right}
use Rattle.std.specs.declared.cmp.Ordering.{Ordering}
use Rattle.leveldb_base.proofs.EntriesLemmas.{in_map, map_in}
use Rattle.leveldb_base.proofs.HistoryLemmas.{in_front, in_rest}
use Rattle.leveldb_base.specs.declared.cmp.Cmp.{Ghosts as CmpGhosts}
use Rattle.leveldb_base.specs.declared.cmp.internal.InternalKeyCmp.{InternalKeyCmp}
use Rattle.leveldb_base.specs.declared.error.Status.{Status}
use Rattle.leveldb_env.specs.Env.{Observed}
use Rattle.leveldb_env.specs.declared.env.Env.{Ghosts}
use Rattle.leveldb_env.specs.declared.filter.FilterPolicy.{Ghosts as FilterGhosts}
use Rattle.leveldb_version.proofs.Versions.SearchLemmas.{passes_kept}
use Rattle.leveldb_version.specs.Edits.FullEdit.{files_after, files_with, files_without}
use Rattle.leveldb_files.specs.Stores.Paths.{table_path}
use Rattle.leveldb_version_set.specs.Compactions.Picking.{CompactionValue}
use Rattle.leveldb_version.specs.Tables.TableCache.{TableOptions}
use Rattle.leveldb_version.specs.Versions.Version.{new_files_of}
use Rattle.leveldb_files.specs.Edits.Edit.{Edit, LevelFile, NewFile}
use Rattle.leveldb_files.specs.Edits.VersionSet.{is_same_file, level_file}
use Rattle.leveldb_version_set.specs.Sets.VersionSetValue.{VersionSetValue}
use Rattle.leveldb_version.specs.declared.table_cache.TableCache.{TableCache}
use Rattle.leveldb_store.proofs.Compactions.CompactPickedLemmas.{failed_keeps_files}
use Rattle.leveldb_store.proofs.Keeping.NoNewEntriesLemmas.{live_table_left}
use Rattle.leveldb_store.proofs.Logs.ReplayFilesLemmas.{GivesNumbers-refl}
use Rattle.leveldb_store.specs.Tables.BuildTable.{TableChoices}
use Rattle.leveldb_store.specs.Compactions.Compact.{CompactsStore, LogsCompaction}
use Rattle.leveldb_store.specs.Keeping.KeptEntries.{CompactsOnceAtMost, IsTableSame, file_numbers}
use Rattle.leveldb_store.specs.Keeping.OpenStore.{OpenStoreValue}
use Rattle.leveldb_store.specs.Writing.Room.{TidiesUp}

-- ---- the files of an edit

-- the numbers of two files are the same that are of one level and number
same_number : (a b : LevelFile) → is_same_file a b ≡ true → a.1 ≡ b.1
same_number a b same = eqb-true a.1 b.1 (and_parts (a.0 == b.0) (a.1 == b.1) same).1

-- one of these has this number
abbrev IsAmong : List LevelFile → ℕ → Type 0
IsAmong places number = (at : LevelFile) × Contains places at × (at.1 ≡ number)

-- a file stays unless one of its number is deleted
deleted_or_stays : (deleted : List LevelFile) (files : List NewFile) (file : NewFile)
    → Contains files file
    → IsAmong deleted file.number ⊎ Contains (fold files_without files deleted) file
deleted_or_stays [] files file there = inr there
deleted_or_stays (first ∷ deleted) files file there =
    by (λ left. deleted_or_stays deleted (files_without files first) file left)
    (is_same_file (level_file file) first) refl
  where
    by : (Contains (files_without files first) file → IsAmong deleted file.number
        ⊎ Contains (fold files_without (files_without files first) deleted) file)
        → (same : Bool) → is_same_file (level_file file) first ≡ same
        → IsAmong (first ∷ deleted) file.number
        ⊎ Contains (fold files_without (files_without files first) deleted) file
    by later true is =
        inl (first, in_front first deleted, sym (same_number (level_file file) first is))
    by later false is = ⊎_elim
        (λ (gone : IsAmong deleted file.number).
        inl (gone.0, in_rest first gone.0 deleted gone.1, gone.2))
        (λ stays. inr stays)
        (later (passes_kept (λ (f : NewFile). not (is_same_file (level_file f) first)) files file
        there (ap not is)))

-- a file is among these that has this number
abbrev HasNumber : List NewFile → ℕ → Type 0
HasNumber files number = (file : NewFile) × Contains files file × (file.number ≡ number)

-- a number stays where files are added
number_stays : (added files : List NewFile) (number : ℕ) → HasNumber files number
    → HasNumber (fold files_with files added) number
number_stays [] files number has = has
number_stays (x ∷ added) files number has = number_stays added (files_with files x) number
    (by (is_same_file (level_file has.0) (level_file x)) refl)
  where
    left : List NewFile
    left = files_without files (level_file x)

    by : (same : Bool) → is_same_file (level_file has.0) (level_file x) ≡ same
        → HasNumber (files_with files x) number
    by true is = (
      x,
      Contains-append_right left (x ∷ []) x (in_front x []),
      sym (same_number (level_file has.0) (level_file x) is) ∙ has.2,
    )
    by false is = (
      has.0,
      Contains-append_left left (x ∷ []) has.0
          (passes_kept (λ (f : NewFile). not (is_same_file (level_file f) (level_file x))) files
          has.0 has.1 (ap not is)),
      has.2,
    )

-- the number of each file was deleted by the edit, or is there after it
deleted_or_there : (edit : Edit) (files : List NewFile) (number : ℕ)
    → Contains (file_numbers files) number
    → IsAmong edit.deleted number ⊎ Contains (file_numbers (files_after edit files)) number
deleted_or_there edit files number there =
    let it = in_map (λ (f : NewFile). f.number) files number there in ⊎_elim
    (λ (gone : IsAmong edit.deleted it.0.number).
    inl (gone.0, gone.1, gone.2 ∙ it.2))
    (λ (stays : Contains (fold files_without files edit.deleted) it.0).
    let now = number_stays edit.added (fold files_without files edit.deleted) number
    (it.0, stays, it.2) in
    inr (subst (Contains (file_numbers (files_after edit files))) now.2
    (map_in (λ (f : NewFile). f.number) (files_after edit files) now.0 now.1)))
    (deleted_or_stays edit.deleted files it.0 it.1)

-- ---- calls

module _ {C : Type 0} (cmp : List ℕ → List ℕ → Ordering) (models_disk : Bool) where
  -- no compaction is done
  pub none_compacted : (old : OpenStoreValue C) (from : Observed)
      → CompactsOnceAtMost cmp models_disk old from old from
  none_compacted old from = record {
    picked = None;
    logged = tt;
    none = λ is. record {
      set = inl (GivesNumbers-refl old.set);
      current = refl;
      tables = λ number modelled fits given. refl;
    };
    live = λ number there. inr (there, λ modelled fits given. refl);
  }

module _ {E F C FP D P : Type 0} {order : CmpGhosts (InternalKeyCmp C)} {env : Ghosts E F}
    {by : TableOptions C FP} {old : OpenStoreValue C} {from : E} {tables : TableCache E C FP F}
    {keys : CmpGhosts D} {filters : FilterGhosts P} {choices : TableChoices keys filters}
    {smallest : ℕ} {it : CompactionValue C} {new : OpenStoreValue C} {at : E}
    {now : TableCache E C FP F} where
  -- one that fails takes no file
  pub compacted_none : {status : Status}
      → CompactsStore order env by old from tables choices smallest it (Err status) new at now
      → CompactsOnceAtMost by.format.order env.models_disk old (env.observed from) new
      (env.observed at)
  compacted_none one = record {
    picked = None;
    logged = tt;
    none = λ is. record {
      set = one.err.0;
      current = one.err.1;
      tables = λ number modelled fits given. one.given modelled number fits given;
    };
    live = λ number there. inr (
      subst (λ (files : List NewFile). Contains (file_numbers files) number)
          (sym (ap (λ (e : Edit). e.added) (failed_keeps_files old.set new.set one.err.0))) there,
      λ modelled fits given. one.given modelled number fits given,
    );
  }

  -- one that is logged takes its inputs, and what is obsolete then is deleted
  pub compacted_inputs : {cmp : List ℕ → List ℕ → Ordering} {to : E}
      → CompactsStore order env by old from tables choices smallest it (Ok tt) new at now
      → TidiesUp env cmp new at to
      → CompactsOnceAtMost by.format.order env.models_disk old (env.observed from) new
      (env.observed to)
  compacted_inputs {to = to} one tidied = record {
    picked = Some it;
    logged = logged;
    none = λ is. absurd cc;
    live = λ number there. ⊎_elim
        (λ (gone : IsAmong logged.edit.deleted number).
        inl (taken number gone.0 gone.1 gone.2))
        (λ (left :
        Contains (file_numbers (files_after logged.edit logged.given.full.added)) number).
        inr (live_now number left, same number (live_now number left)))
        (deleted_or_there logged.edit logged.given.full.added number
        (subst (λ (s : VersionSetValue). Contains (file_numbers s.full.added) number)
        (sym logged.gives.set) there));
  }
    where
      logged : LogsCompaction by.format.order it old new
      logged = one.logged.0

      taken : (number : ℕ) (place : LevelFile) → Contains logged.edit.deleted place
          → place.1 ≡ number → Contains (file_numbers (new_files_of it.inputs)) number
      taken number place gone is =
          let input = (logged.replaces.deleted place).0 gone in
          subst (Contains (file_numbers (new_files_of it.inputs)))
          (ap (λ (p : LevelFile). p.1) input.2 ∙ is)
          (map_in (λ (f : NewFile). f.number) (new_files_of it.inputs) input.0 input.1)

      live_now : (number : ℕ)
          → Contains (file_numbers (files_after logged.edit logged.given.full.added)) number
          → Contains (file_numbers new.set.full.added) number
      live_now number left = subst
          (λ (s : VersionSetValue). Contains (file_numbers s.full.added) number)
          (sym logged.set) left

      same : (number : ℕ) → Contains (file_numbers new.set.full.added) number
          → IsTableSame env.models_disk old.set (env.observed from) (env.observed to) number
      same number live modelled fits given =
          let file = in_map (λ (f : NewFile). f.number) new.set.full.added number live in
          subst (λ n. (env.observed to).disk.files (table_path old.set.store n)
          ≡ (env.observed at).disk.files (table_path old.set.store n)) file.2
          (subst (λ s. (env.observed to).disk.files (table_path s file.0.number)
          ≡ (env.observed at).disk.files (table_path s file.0.number)) one.rest.store
          (live_table_left new.set file.0 file.1
          (subst (λ n. n < 2 ^ 64) (sym file.2) fits) new.kept_to (env.observed at).disk.files
          (env.observed to).disk.files (tidied.run modelled).has))
          ∙ one.given modelled number fits given
