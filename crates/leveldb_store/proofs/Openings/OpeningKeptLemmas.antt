-- That an opening of a store that is there loses no file and no byte of one.
use Rattle.std.specs.Prelude.{Contains, IsTrue}
use Rattle.std.specs.Cmp.Lexicographic.{bytes_decides}
use Rattle.std.specs.Str.{bytes_eq}
use Rattle.std.proofs.lemmas.List.Elements.{Contains-append_right}
use Rattle.leveldb_base.proofs.HistoryLemmas.{in_front}
use Rattle.std.proofs.Common.{◌≡◌, ◌≢◌, ◌⊎◌, ◌∙◌, ◌∷◌, ◌≤◌, ◌<◌, ◌^◌, inl, inr, ⊎_elim, ℕ, Bool, true, false, List, [], Option, None, Some, Result, ap, arith, refl, subst, sym}
use Rattle.leveldb_base.proofs.NamesLemmas.{made_name}
use Rattle.leveldb_base.specs.Names.{MayHaveNumber, file_name, file_path}
use Rattle.leveldb_base.specs.declared.error.Status.{Status}
use Rattle.leveldb_base.specs.declared.types.FileMetaData.{FileMetaData}
use Rattle.leveldb_base.specs.declared.types.FileType.{FileType}
use Rattle.leveldb_base.specs.declared.types.FileType.TheVariants.{Current, Descriptor, Log, Table, Temp}
use Rattle.leveldb_env.proofs.EnvLemmas.{Run-call, Run-mono, SameBut-emptied, bytes_eq-apart}
use Rattle.leveldb_env.specs.Env.{BeforeOrAfter, File, Files, FilesUnchanged, Run, created, in_folder, synced}
use Rattle.leveldb_env.specs.declared.env.Env.{Ghosts}
use Rattle.leveldb_mem.specs.Log.Writer.{frame}
use Rattle.leveldb_version_set.specs.Sets.LogEdit.{edit_record, new_records}
use Rattle.leveldb_version_set.specs.Sets.CurrentFile.{temp_path}
use Rattle.leveldb_version_set.specs.Sets.NewManifest.{MakingManifest, manifest_bytes}
use Rattle.leveldb_files.specs.Stores.Format.{Format}
use Rattle.leveldb_version_set.specs.Engines.Opening.{tables_edit}
use Rattle.leveldb_files.specs.Stores.Paths.{current_path, log_path, manifest_path}
use Rattle.leveldb_files.specs.Edits.Edit.{Edit}
use Rattle.leveldb_files.specs.Levels.Levels.{LiveTable}
use Rattle.leveldb_files.specs.Stores.Store.{HasLog, ReplayedLog}
use Rattle.leveldb_version_set.specs.Sets.VersionSetValue.{ManifestState, VersionSetValue, broken, in_use, unmade}
use Rattle.leveldb_version_set.specs.Engines.Writing.{IsNumberedUpTo, NumbersAreBelow}
use Rattle.leveldb_store.proofs.Keeping.KeptBytesLemmas.{keeps_still, loses_appending, loses_created, loses_made, loses_new, loses_none, loses_synced, loses_then, meanwhile_none, meanwhile_then, missing_appending, numbered_below, numbers_then}
use Rattle.leveldb_store.proofs.Openings.OpeningEndLemmas.{made_levels_fit}
use Rattle.leveldb_store.specs.Keeping.KeptBytes.{IsNotReplaced, LosesNoBytes, LosesNoBytesMeanwhile}
use Rattle.leveldb_store.specs.Openings.OpeningSteps.{AreBeingKept, AreInTablesBut, FindsStore, IsBeingMade, LogsTables, RecoversSet, files_to_write, made_files, number_to_write, set_to_write, with_log_kept, with_logs_kept}
use Rattle.leveldb_store.specs.declared.opening.recovered_set.RecoveredSet.{RecoveredSet}
use Rattle.leveldb_store.specs.declared.opening.replay.UsedLog.{UsedLog}

-- ---- numbers

-- no file has a number that is past all those of the folder
pub number_is_new : (store : List ℕ) (files : Files) (next : ℕ) → NumbersAreBelow store files next
    → (kind : FileType) (n : ℕ) → MayHaveNumber kind n → next ≤ n
    → files (file_path store kind n) ≡ None
number_is_new store files next below kind n fits least =
    by (files (file_path store kind n)) refl
  where
    by : (file : Option File) → files (file_path store kind n) ≡ file
        → files (file_path store kind n) ≡ None
    by None is = is
    by (Some file) is =
        let given = below (file_name kind n) n kind (made_name kind n fits)
        (λ gone. let never : Some file ≡ None = sym is ∙ gone in cc) in
        absurd (omega (arith, given, least))

-- and the log to write has a number that was given, if it is new or was there
pub number_given : {C : Type 0} (store : List ℕ) (files : Files) (used : Option (UsedLog C))
    (logs : List ReplayedLog) (tables : List LiveTable)
    → ((log : ReplayedLog) → Contains logs log → HasLog store files log)
    → AreInTablesBut used logs tables → (next : ℕ) → NumbersAreBelow store files next
    → (set : VersionSetValue) → next ≤ set.next_file
    → number_to_write used set.next_file < 2 ^ 64
    → number_to_write used set.next_file < (set_to_write used set).next_file
number_given store files None logs tables each held next below set rises fits = omega arith
number_given store files (Some used) logs tables each held next below set rises fits =
    let fit : used.number < 2 ^ 64 = fits in
    let front = held.0 in
    let last = held.1 in
    let number : last.number ≡ used.number = held.3 in
    let has = each last (subst (λ ls. Contains ls last) (sym held.2)
    (Contains-append_right front (last ∷ []) last (in_front last []))) in
    let less = below (file_name Log last.number) last.number Log
    (made_name Log last.number (omega (arith, number, fit)))
    (λ gone. let never : Some has.0 ≡ None = sym has.1 ∙ gone in cc) in
    omega (arith, less, number, rises)

module _ (store : List ℕ) where
  abbrev Loses : Files → Files → Type 0
  Loses = LosesNoBytes store

  -- ---- logs

  loses_logs : (logs : List ℕ) (old : Files) → Loses old (with_logs_kept store logs old)
  loses_logs [] old = loses_none (IsNotReplaced store) old old refl
  loses_logs (n ∷ logs) old =
      let path = log_path store n in
      loses_then (IsNotReplaced store) old (with_log_kept store n old)
      (with_logs_kept store logs (with_log_kept store n old))
      (loses_then (IsNotReplaced store) old (created path old) (synced path (created path old))
      (loses_created (IsNotReplaced store) path old)
      (loses_synced (IsNotReplaced store) path (created path old)))
      (loses_logs logs (with_log_kept store n old))

  pub loses_keeping : (logs : List ℕ) (old now : Files) → AreBeingKept store logs old now
      → Loses old now
  loses_keeping logs old now being =
      let front = with_logs_kept store being.front old in
      ⊎_elim
      (λ (is : now ≡ front). subst (Loses old) (sym is) (loses_logs being.front old))
      (λ (made : (n : ℕ) × (more : List ℕ) × (being.rest ≡ n ∷ more)
      × (now ≡ created (log_path store n) front)). subst (Loses old) (sym made.3)
      (loses_then (IsNotReplaced store) old front (created (log_path store made.0) front)
      (loses_logs being.front old)
      (loses_created (IsNotReplaced store) (log_path store made.0) front))) being.now

  -- the log to write is opened: one that is used on, or a new one
  pub loses_at_log : {C : Type 0} (used : Option (UsedLog C)) (next : ℕ) (old now : Files)
      → old (log_path store next) ≡ None → BeforeOrAfter (files_to_write used store next) old now
      → Loses old now
  loses_at_log None next old now none passes =
      loses_new (IsNotReplaced store) (log_path store next) old now
      (SameBut-emptied (log_path store next) old now passes) none
  loses_at_log (Some used) next old now none passes =
      loses_made (IsNotReplaced store) (log_path store used.number) old now passes

  -- ---- a manifest of a new number

  loses_making : (n : ℕ) → n < 2 ^ 64 → (bytes : List ℕ) (old now : Files)
      → old (manifest_path store n) ≡ None → MakingManifest store n bytes old now → Loses old now
  loses_making n fits bytes old now none making path kept file there =
      keeps_still file (now path) (making.others path
      (bytes_eq-apart (manifest_path store n) path (λ is.
      let never : Some file ≡ None = sym there ∙ ap old (sym is) ∙ none in cc))
      (bytes_eq-apart (temp_path store n) path (λ is.
      kept (inr (file_name Temp n, n, made_name Temp n fits, sym is))))
      (bytes_eq-apart (current_path store) path (λ is. kept (inl (sym is)))) ∙ there)

  numbers_making : (n : ℕ) → n < 2 ^ 64 → (bytes : List ℕ) (old now : Files)
      → MakingManifest store n bytes old now → (next : ℕ) → n < next
      → NumbersAreBelow store old next → NumbersAreBelow store now next
  numbers_making n fits bytes old now making next less =
      numbers_then store old now next next (omega arith) each
    where
      each : (path : List ℕ) → now path ≢ None
          → (old path ≢ None) ⊎ IsNumberedUpTo store path next
      each path some = by (bytes_eq (manifest_path store n) path)
          (bytes_eq (temp_path store n) path) (bytes_eq (current_path store) path) refl refl refl
        where
          at : (kind : FileType) (m : ℕ) → MayHaveNumber kind m → m < next
              → bytes_eq (file_path store kind m) path ≡ true → IsNumberedUpTo store path next
          at kind m fit under e = subst (λ p. IsNumberedUpTo store p next)
              ((bytes_decides (file_path store kind m) path).0 e)
              (numbered_below store kind m fit next under)

          by : (a b c : Bool) → bytes_eq (manifest_path store n) path ≡ a
              → bytes_eq (temp_path store n) path ≡ b → bytes_eq (current_path store) path ≡ c
              → (old path ≢ None) ⊎ IsNumberedUpTo store path next
          by true b c e f g = inr (at Descriptor n fits less e)
          by false true c e f g = inr (at Temp n fits less f)
          by false false true e f g = inr (at Current 0 refl (omega (arith, less)) g)
          by false false false e f g = inl (λ gone. some (making.others path e f g ∙ gone))

-- ---- the edit with which an opening ends

module _ {E F : Type 0} (env : Ghosts E F) (built : List FileMetaData) (set : VersionSetValue)
    (log : ℕ) (from to : E) (new : VersionSetValue) where
  abbrev tables : Edit
  tables = tables_edit log (made_files built)

  pub logging_loses : IsTrue env.models_disk → set.manifest_number < 2 ^ 64
      → (set.manifest ≡ unmade → (env.observed from).disk.files
      (manifest_path set.store set.manifest_number) ≡ None)
      → (result : Result (Unit {0}) Status) → LogsTables env log built set from result new to
      → LosesNoBytesMeanwhile env set.store from to
  logging_loses modelled fits fresh result (inl none) =
      subst (λ e. LosesNoBytesMeanwhile env set.store from e) (sym none.2)
      (meanwhile_none env set.store from)
  logging_loses modelled fits fresh result (inr logs) = by set.manifest refl
    where
      by : (state : ManifestState) → set.manifest ≡ state
          → LosesNoBytesMeanwhile env set.store from to
      by unmade is = Run-mono
          (λ now making. loses_making set.store set.manifest_number fits
          (manifest_bytes (new_records set tables)) (env.observed from).disk.files now (fresh is)
          making)
          (Run-call modelled ((logs.not_made (made_levels_fit log built) is).does modelled))
      by (in_use manifest) is = Run-mono
          (λ now passes. loses_appending (IsNotReplaced set.store) manifest.path
          (frame manifest.writer (edit_record set tables)) (env.observed from).disk.files now
          passes)
          (Run-call modelled ((logs.used (made_levels_fit log built) manifest is).does modelled))
      by broken is = Run-mono
          (λ now same. loses_none (IsNotReplaced set.store) (env.observed from).disk.files now same)
          (logs.broken_before is).2

  -- and no file comes to have a number that wasn't given
  pub logging_numbers : IsTrue env.models_disk → set.manifest_number < set.next_file
      → set.manifest_number < 2 ^ 64 → (result : Result (Unit {0}) Status)
      → LogsTables env log built set from result new to
      → NumbersAreBelow set.store (env.observed from).disk.files set.next_file
      → NumbersAreBelow set.store (env.observed to).disk.files set.next_file
  logging_numbers modelled given fits result (inl none) below =
      subst (λ e. NumbersAreBelow set.store (env.observed e).disk.files set.next_file)
      (sym none.2) below
  logging_numbers modelled given fits result (inr logs) below = by set.manifest refl
    where
      by : (state : ManifestState) → set.manifest ≡ state
          → NumbersAreBelow set.store (env.observed to).disk.files set.next_file
      by unmade is = numbers_making set.store set.manifest_number fits
          (manifest_bytes (new_records set tables)) (env.observed from).disk.files
          (env.observed to).disk.files
          (((logs.not_made (made_levels_fit log built) is).does modelled).now modelled) set.next_file
          given below
      by (in_use manifest) is = numbers_then set.store (env.observed from).disk.files
          (env.observed to).disk.files set.next_file set.next_file (omega arith)
          (λ path some. inl (λ gone. some (missing_appending manifest.path
          (frame manifest.writer (edit_record set tables)) (env.observed from).disk.files
          (env.observed to).disk.files
          (((logs.used (made_levels_fit log built) manifest is).does modelled).now modelled) path
          gone))) below
      by broken is = subst (λ f. NumbersAreBelow set.store f set.next_file)
          (sym (logs.broken_before is).2.has) below

-- ---- a store that is found and recovered

module _ {E F : Type 0} (env : Ghosts E F) (store comparator : List ℕ)
    (create_if_missing error_if_exists : Bool) (from : E) (modelled : IsTrue env.models_disk)
    (current : (env.observed from).disk.files (current_path store) ≢ None) where
  abbrev first : Files
  first = (env.observed from).disk.files

  abbrev LosesUpTo : E → Type 0
  LosesUpTo to = LosesNoBytesMeanwhile env store from to

  -- it is left as it is
  found_same : {T : Type 0} (result : Result T Status) (mid : E)
      → FindsStore env store comparator create_if_missing error_if_exists from result mid
      → Run (FilesUnchanged first) (env.observed from) (env.observed mid)
  found_same result mid finds = Run-mono same (finds.run modelled)
    where
      same : (now : Files) → (now ≡ first) ⊎ IsBeingMade store comparator first now → now ≡ first
      same now (inl is) = is
      same now (inr being) = absurd (current being.bare.no_current)

  module _ {T : Type 0} (result : Result T Status) (mid : E)
      (finds : FindsStore env store comparator create_if_missing error_if_exists from result mid)
    where
      pub finding_loses : LosesUpTo mid
      finding_loses = Run-mono (λ now same. loses_none (IsNotReplaced store) first now same)
          (found_same result mid finds)

      -- ---- its set

      module _ {format : Format} {reuse : Bool} {limit : ℕ}
          (recovered : Result (RecoveredSet E F) Status) (then : E)
          (sets : RecoversSet env format reuse limit store mid recovered then) where
        pub setting_loses : LosesUpTo then
        setting_loses =
            meanwhile_then env store finding_loses (Run-mono passing (sets.files modelled).run)
          where
            passing : (now : Files)
                → BeforeOrAfter (synced (in_folder store (sets.files modelled).manifest))
                (env.observed mid).disk.files now
                → LosesNoBytes store (env.observed mid).disk.files now
            passing now (inl same) = loses_none (IsNotReplaced store) (env.observed mid).disk.files now same
            passing now (inr sync) = subst (LosesNoBytes store (env.observed mid).disk.files)
                (sym sync) (loses_synced (IsNotReplaced store) (in_folder store (sets.files modelled).manifest)
                (env.observed mid).disk.files)

        -- ---- its logs

        pub keeping_loses : (logs : List ℕ) (to : E)
            → Run (AreBeingKept store logs (env.observed then).disk.files) (env.observed then)
            (env.observed to) → LosesUpTo to
        keeping_loses logs to run = meanwhile_then env store setting_loses
            (Run-mono (λ now being. loses_keeping store logs (env.observed then).disk.files now
            being) run)
