-- Files that are read as before, while the manifest and logs of a store are synced.
use Rattle.std.specs.Prelude.{Contains, IsSome}
use Rattle.std.proofs.Common.{◌≡◌, ◌⊎◌, ◌∙◌, ◌∷◌, ◌<◌, ◌^◌, inl, inr, ⊎_elim, ℕ, List, [], Option, None, Some, ap, refl, subst, sym}
use Rattle.std.specs.Option.{option_map}
use Rattle.std.specs.declared.cmp.Ordering.{Ordering}
use Rattle.std.specs.declared.cmp.Ordering.TheVariants.{Less}
use Rattle.std.proofs.lemmas.List.Elements.{Contains-append_left, Contains-append_right}
use Rattle.leveldb_base.proofs.HistoryLemmas.{in_front, in_rest}
use Rattle.leveldb_base.proofs.NamesLemmas.{made_name}
use Rattle.leveldb_base.specs.Names.{file_name}
use Rattle.leveldb_base.specs.Types.{Pair}
use Rattle.leveldb_base.specs.declared.types.FileType.TheVariants.{Descriptor, Log}
use Rattle.leveldb_env.proofs.EnvLemmas.{Run-mono, at_other, with_file-itself}
use Rattle.leveldb_env.specs.Env.{BeforeOrAfter, File, Files, FilesUnchanged, Observed, Run, bytes_of, created, file_kept, in_folder, or_empty, synced, with_file}
use Rattle.leveldb_files.proofs.Steps.BytesLemmas.{bytes_stay}
use Rattle.leveldb_files.proofs.Steps.KeepsLemmas.{sync_keeps}
use Rattle.leveldb_files.proofs.Stores.ManagedLemmas.{SameBytes, managed_on}
use Rattle.leveldb_version_set.proofs.Sets.RecoverLemmas.{some_and}
use Rattle.leveldb_files.proofs.Steps.StaysLemmas.{synced_same}
use Rattle.leveldb_files.specs.Edits.Current.{IsCurrentText}
use Rattle.leveldb_version_set.specs.Sets.Recover.{IsNamed}
use Rattle.leveldb_files.specs.Stores.Contents.{Contents, Store}
use Rattle.leveldb_version_set.specs.Engines.Opening.{IsRecoveredBut}
use Rattle.leveldb_files.specs.Stores.Paths.{current_path, log_path, table_path}
use Rattle.leveldb_files.specs.Stores.Store.{IsManagedBy}
use Rattle.leveldb_files.specs.Steps.StoreSteps.{AppendedAreBytes, KeepsHistory}
use Rattle.leveldb_files.specs.Edits.Edit.{Edit}
use Rattle.leveldb_version_set.specs.Sets.VersionSetValue.{VersionSetValue}
use Rattle.leveldb_version_set.proofs.Engines.RecoveringLemmas.{stores_are_recovered}
use Rattle.leveldb_store.proofs.Openings.OpeningMadeLemmas.{apart_from_own}
use Rattle.leveldb_store.proofs.Keeping.TableKeepsLemmas.{KeepsHistory-refl, KeepsHistory-trans}
use Rattle.leveldb_store.specs.Openings.OpeningSteps.{AreBeingKept, with_log_kept, with_logs_kept}
use Rattle.leveldb_store.specs.Openings.OpensStore.{IsOwnPath, SameBesideOwn}

-- ---- what is read

-- each file has the bytes that it had
abbrev pub SameText : Files → Files → Type 0
SameText old new = (path : List ℕ) → SameBytes (old path) (new path)

pub SameText-refl : (old new : Files) → new ≡ old → SameText old new
SameText-refl old new same path = ap (λ (f : Files). option_map bytes_of (f path)) same

pub SameText-trans : (old mid new : Files) → SameText old mid → SameText mid new → SameText old new
SameText-trans old mid new first second path = second path ∙ first path

some_again : (old new : Option File) → SameBytes old new → IsSome old → IsSome new
some_again None new same some = absurd (cc)
some_again (Some file) None same some = absurd (let never : None ≡ Some (bytes_of file) = same in cc)
some_again (Some file) (Some other) same some = refl

pub still_there : (old new : Files) → SameText old new → (path : List ℕ) → IsSome (old path) → IsSome (new path)
still_there old new same path there = some_again (old path) (new path) (same path) there

-- ---- one log

there_or_empty : (file : Option File) → IsSome file → or_empty file ≡ file
there_or_empty None some = absurd (cc)
there_or_empty (Some file) some = refl

-- what is there isn't made
pub created_there : (path : List ℕ) (files : Files) → IsSome (files path) → created path files ≡ files
created_there path files some = ap (λ file. with_file path file files) (there_or_empty (files path) some) ∙ with_file-itself path files

module _ (store : List ℕ) where
  -- a log that is there is synced
  kept_is : (n : ℕ) (files : Files) → IsSome (files (log_path store n)) → with_log_kept store n files ≡ synced (log_path store n) files
  kept_is n files some = ap (synced (log_path store n)) (created_there (log_path store n) files some)

  log_own : (n : ℕ) → n < 2 ^ 64 → IsOwnPath store (log_path store n)
  log_own n fits = inl (Log, tt, (file_name Log n, n, made_name Log n fits, refl))

  log_spares : (n : ℕ) → n < 2 ^ 64 → (file : Option File) (old : Files) → SameBesideOwn store old (with_file (log_path store n) file old)
  log_spares n fits file old path other = at_other (log_path store n) file old path (apart_from_own store (log_path store n) path (log_own n fits) other)

  pub spares_then : (old mid new : Files) → SameBesideOwn store old mid → SameBesideOwn store mid new → SameBesideOwn store old new
  spares_then old mid new first second path other = second path other ∙ first path other

  kept_spares : (n : ℕ) → n < 2 ^ 64 → (old : Files) → SameBesideOwn store old (with_log_kept store n old)
  kept_spares n fits old = spares_then old (created (log_path store n) old) (with_log_kept store n old) (log_spares n fits (or_empty (old (log_path store n))) old)
      (log_spares n fits (option_map file_kept (created (log_path store n) old (log_path store n))) (created (log_path store n) old))

  -- ---- logs

  abbrev pub HaveNumbers : List ℕ → Type 0
  HaveNumbers logs = (n : ℕ) → Contains logs n → n < 2 ^ 64

  abbrev pub AreThere : List ℕ → Files → Type 0
  AreThere logs files = (n : ℕ) → Contains logs n → IsSome (files (log_path store n))

  logs_spare : (logs : List ℕ) → HaveNumbers logs → (old : Files) → SameBesideOwn store old (with_logs_kept store logs old)
  logs_spare [] have old = λ path other. refl
  logs_spare (n ∷ logs) have old = spares_then old (with_log_kept store n old) (with_logs_kept store logs (with_log_kept store n old)) (kept_spares n (have n (in_front n logs)) old)
      (logs_spare logs (λ k c. have k (in_rest n k logs c)) (with_log_kept store n old))

  -- nothing but the store's own files changes on the way
  pub keeping_spares : (logs : List ℕ) → HaveNumbers logs → (old now : Files) → AreBeingKept store logs old now → SameBesideOwn store old now
  keeping_spares logs have old now being = ⊎_elim
      (λ (is : now ≡ with_logs_kept store being.front old). subst (SameBesideOwn store old) (sym is) front)
      (λ (made : (n : ℕ) × (more : List ℕ) × (being.rest ≡ n ∷ more) × (now ≡ created (log_path store n) (with_logs_kept store being.front old))).
      subst (SameBesideOwn store old) (sym made.3) (spares_then old (with_logs_kept store being.front old) (created (log_path store made.0) (with_logs_kept store being.front old)) front
      (log_spares made.0 (have made.0 (within made.0 (subst (λ them. Contains them made.0) (sym made.2) (in_front made.0 made.1))))
      (or_empty (with_logs_kept store being.front old (log_path store made.0))) (with_logs_kept store being.front old))))
      being.now
    where
      within : (n : ℕ) → Contains being.rest n → Contains logs n
      within n c = subst (λ them. Contains them n) (sym being.logs_are) (Contains-append_right being.front being.rest n c)

      front : SameBesideOwn store old (with_logs_kept store being.front old)
      front = logs_spare being.front (λ n c. have n (subst (λ them. Contains them n) (sym being.logs_are) (Contains-append_left being.front being.rest n c))) old

  -- a sync leaves all bytes
  pub sync_same_text : (path : List ℕ) (files : Files) → SameText files (synced path files)
  sync_same_text path files other = synced_same store (λ a b. Less) (λ bytes pairs. ⊥) path files other

  log_same_text : (n : ℕ) (files : Files) → IsSome (files (log_path store n)) → SameText files (with_log_kept store n files)
  log_same_text n files there = subst (SameText files) (sym (kept_is n files there)) (sync_same_text (log_path store n) files)

  there_then : (n : ℕ) (logs : List ℕ) (files : Files) → AreThere (n ∷ logs) files → AreThere logs (with_log_kept store n files)
  there_then n logs files there k c = still_there files (with_log_kept store n files) (log_same_text n files (there n (in_front n logs))) (log_path store k) (there k (in_rest n k logs c))

  pub logs_same_text : (logs : List ℕ) (files : Files) → AreThere logs files → SameText files (with_logs_kept store logs files)
  logs_same_text [] files there = SameText-refl files files refl
  logs_same_text (n ∷ logs) files there = SameText-trans files (with_log_kept store n files) (with_logs_kept store logs (with_log_kept store n files)) (log_same_text n files (there n (in_front n logs))) (logs_same_text logs (with_log_kept store n files) (there_then n logs files there))

-- ---- the manifest

-- a sync of the manifest that `CURRENT` names changes nothing but the store's own files
pub naming_spares : (store name : List ℕ) (number : ℕ) (from to : Observed) → Run (BeforeOrAfter (synced (in_folder store name)) from.disk.files) from to
    → Run (FilesUnchanged from.disk.files) from to ⊎ IsNamed store from.disk.files name number → Run (SameBesideOwn store from.disk.files) from to
naming_spares store name number from to run (inl still) = Run-mono (λ now same path other. ap (λ (f : Files). f path) same) still
naming_spares store name number from to run (inr named) = Run-mono spares run
  where
    own : IsOwnPath store (in_folder store name)
    own = inl (Descriptor, tt, (name, number, (some_and (λ (file : File). IsCurrentText (bytes_of file) name number) (from.disk.files (current_path store)) named).2.0, refl))

    spares : (now : Files) → BeforeOrAfter (synced (in_folder store name)) from.disk.files now → SameBesideOwn store from.disk.files now
    spares now (inl same) = λ path other. ap (λ (f : Files). f path) same
    spares now (inr sync) = λ path other. ap (λ (f : Files). f path) sync
        ∙ at_other (in_folder store name) (option_map file_kept (from.disk.files (in_folder store name))) from.disk.files path (apart_from_own store (in_folder store name) path own other)

-- ---- what is kept

module _ (store : List ℕ) (cmp : List ℕ → List ℕ → Ordering) (IsTable : List ℕ → List Pair → Type 0) where
  -- the same tables and logs are the same store
  pub managed_again : (old new : Files) → SameText old new → (edits : List Edit) (contents : Contents) → IsManagedBy store cmp IsTable old edits contents → IsManagedBy store cmp IsTable new edits contents
  managed_again old new same edits contents m = managed_on store cmp IsTable old new edits contents
      (record { tables = λ file fits live. same (table_path store file.number); logs = λ name n is replayed. same (in_folder store name) }) m

  module _ (allowed : Store → Type 0) (bound : ℕ) where
    abbrev Keeps : Files → Files → Type 0
    Keeps = KeepsHistory store cmp IsTable allowed bound

    log_keeps : (n : ℕ) (files : Files) → IsSome (files (log_path store n)) → AppendedAreBytes files → Keeps files (with_log_kept store n files)
    log_keeps n files there bytes = subst (Keeps files) (sym (kept_is store n files there))
        (sync_keeps store cmp IsTable allowed (log_path store n) files (λ file here. bytes (log_path store n) file here) bound)

    log_bytes : (n : ℕ) (files : Files) → IsSome (files (log_path store n)) → AppendedAreBytes files → AppendedAreBytes (with_log_kept store n files)
    log_bytes n files there bytes = subst AppendedAreBytes (sym (kept_is store n files there)) ((bytes_stay files bytes).sync (log_path store n))

    logs_keep : (logs : List ℕ) (files : Files) → AreThere store logs files → AppendedAreBytes files → Keeps files (with_logs_kept store logs files)
    logs_keep [] files there bytes = KeepsHistory-refl files
    logs_keep (n ∷ logs) files there bytes =
        let here = there n (in_front n logs) in
        KeepsHistory-trans (log_keeps n files here bytes) (logs_keep logs (with_log_kept store n files) (there_then store n logs files there) (log_bytes n files here bytes))

    -- each history is kept while logs that are there are synced
    pub keeping_keeps : (logs : List ℕ) (old now : Files) → AreThere store logs old → AppendedAreBytes old → AreBeingKept store logs old now → Keeps old now
    keeping_keeps logs old now there bytes being = ⊎_elim
        (λ (is : now ≡ with_logs_kept store being.front old). subst (Keeps old) (sym is) front)
        (λ (made : (n : ℕ) × (more : List ℕ) × (being.rest ≡ n ∷ more) × (now ≡ created (log_path store n) (with_logs_kept store being.front old))).
        let here : Contains logs made.0
        = subst (λ them. Contains them made.0) (sym being.logs_are)
        (Contains-append_right being.front being.rest made.0 (subst (λ them. Contains them made.0) (sym made.2) (in_front made.0 made.1))) in
        subst (Keeps old)
        (sym (made.3 ∙ created_there (log_path store made.0) (with_logs_kept store being.front old)
        (still_there old (with_logs_kept store being.front old) (logs_same_text store being.front old front_there) (log_path store made.0) (there made.0 here)))) front)
        being.now
      where
        front_there : AreThere store being.front old
        front_there n c = there n (subst (λ them. Contains them n) (sym being.logs_are) (Contains-append_left being.front being.rest n c))

        front : Keeps old (with_logs_kept store being.front old)
        front = logs_keep being.front old front_there bytes

  -- ---- the store is recovered

  module _ (edits : List Edit) (set : VersionSetValue) where
    -- syncs of logs, one after another, leave none that isn't kept
    pub logs_recovered : (logs : List ℕ) (files : Files) → HaveNumbers store logs → AreThere store logs files → IsRecoveredBut store cmp IsTable logs files edits set
        → IsRecoveredBut store cmp IsTable [] (with_logs_kept store logs files) edits set
    logs_recovered [] files have there r = r
    logs_recovered (n ∷ logs) files have there r = logs_recovered logs (with_log_kept store n files) (λ k c. have k (in_rest n k logs c)) (there_then store n logs files there)
        (subst (λ f. IsRecoveredBut store cmp IsTable logs f edits set) (sym (kept_is store n files (there n (in_front n logs))))
        ((stores_are_recovered store cmp IsTable files edits set).next n logs (have n (in_front n logs)) r))
