-- The compaction for which an open store asks, and what its edit takes from the level whose score
-- asks for it.
use Rattle.std.proofs.Common.{◌≡◌, ◌∙◌, ◌⊎◌, ◌<◌, ◌≤◌, ◌*◌, ◌+◌, ◌^◌, ◌-◌, ◌==◌, zero, suc, ℕ, Bool, true, false, cond, List, [], ◌∷◌, Option, None, Some, Result, Ok, Err, ap, arith, inl, inr, min, refl, subst, sym}
use Rattle.std.specs.Prelude.{◌||◌, Contains, IfErr, IfSome, IsPermutation, IsTrue, OnErr, OnOk, find, is_some}
use Rattle.std.specs.Option.{option_map_or, option_or}
use Rattle.std.specs.Ordering.{is_gt}
use Rattle.std.proofs.lemmas.Bool.{eqb-true}
use Rattle.std.proofs.lemmas.List.Sorted.{Contains-permutation, IsPermutation-sym, length_permutation, sum_by-IsPermutation}
use Rattle.std.proofs.lemmas.Result.{IfOk-weaker}
use Rattle.std.specs.declared.cmp.Ordering.{Ordering}
use Rattle.leveldb_base.proofs.HistoryLemmas.{in_front, in_rest}
use Rattle.leveldb_base.specs.Error.{IsOutOfMemory}
use Rattle.leveldb_base.specs.KeyTypes.{internal_cmp}
use Rattle.leveldb_base.specs.declared.error.Status.{Status}
use Rattle.leveldb_version.proofs.Versions.ChangeLemmas.{IsPermutation-filter}
use Rattle.leveldb_version_set.proofs.Compactions.PickingLemmas.{asking_has_files}
use Rattle.leveldb_version.proofs.Versions.ScoresLemmas.{scores_tell_level}
use Rattle.leveldb_version.proofs.Versions.SearchLemmas.{kept_passes}
use Rattle.leveldb_version_set.specs.Sets.CurrentVersion.{IsCurrent}
use Rattle.leveldb_version_set.specs.Compactions.Inputs.{AreOrdered}
use Rattle.leveldb_version_set.specs.Sets.LogEdit.{set_appended}
use Rattle.leveldb_version_set.specs.Compactions.Picking.{CompactionValue, IsAskedFor, IsCompactionOf, asking_file, file_after, file_by_reads, needs_compaction, used_pointer}
use Rattle.leveldb_version.specs.Versions.Scores.{level_by_score, level_limit, level_load}
use Rattle.leveldb_files.specs.Levels.Summary.{files_of_level}
use Rattle.leveldb_version.specs.Versions.Version.{VersionValue, new_files_of}
use Rattle.leveldb_files.specs.Edits.Edit.{NewFile, Pointer}
use Rattle.leveldb_files.specs.Edits.VersionSet.{level_file}
use Rattle.leveldb_store.proofs.Compactions.CompactLevelLemmas.{compaction_as_manual}
use Rattle.leveldb_store.proofs.Logs.ReplayFilesLemmas.{GivesNumbers-refl}
use Rattle.leveldb_store.specs.Compactions.Compact.{CompactsIfAsked, LogsCompaction, LogsPicked}
use Rattle.leveldb_store.specs.Keeping.LoggedEdits.{LogsByScore}
use Rattle.leveldb_store.specs.Openings.Opening.{GivesNumbers}
use Rattle.leveldb_store.specs.Keeping.OpenStore.{OpenStoreValue}

-- ---- scores, whatever the order of the files

module _ (these those : List NewFile) (same : IsPermutation these those) where
  load_alike : (level : ℕ) → level_load those level ≡ level_load these level
  load_alike zero = length_permutation (files_of_level 0 these) (files_of_level 0 those)
      (IsPermutation-filter (λ (file : NewFile). file.level == 0) these those same)
  load_alike (suc level) = ap (λ n. min n (2 ^ 64 - 1))
      (sum_by-IsPermutation (λ (file : NewFile). file.size) (files_of_level (suc level) these)
      (files_of_level (suc level) those)
      (IsPermutation-filter (λ (file : NewFile). file.level == suc level) these those same))

  -- files in another order ask for the same level
  pub scores_alike : (level : ℕ) → level_by_score these ≡ Some level
      → level_by_score those ≡ Some level
  scores_alike level asks =
      let is = (scores_tell_level these level).0 asks in
      (scores_tell_level those level).1 (
        record {
          known = is.0.known;
          greatest = λ other less.
              subst (λ n. n * level_limit level ≤ level_load those level * level_limit other)
              (sym (load_alike other))
              (subst (λ n. level_load these other * level_limit level ≤ n * level_limit other)
              (sym (load_alike level)) (is.0.greatest other less));
          first = λ other less.
              subst (λ n. n * level_limit level < level_load those level * level_limit other)
              (sym (load_alike other))
              (subst (λ n. level_load these other * level_limit level < n * level_limit other)
              (sym (load_alike level)) (is.0.first other less));
        },
        subst (λ n. level_limit level ≤ n) (sym (load_alike level)) is.1,
      )

-- ---- the file that asks

found_in : {A : Type 0} (p : A → Bool) (xs : List A) (x : A) → find p xs ≡ Some x → Contains xs x
found_in p [] x is = cc
found_in {A} p (y ∷ xs) x is = by (found_in p xs x) (p y) is
  where
    by : (find p xs ≡ Some x → Contains xs x) → (b : Bool)
        → cond b (Some y) (find p xs) ≡ Some x → Contains (y ∷ xs) x
    by rest true is = let same : y ≡ x = cc in subst (Contains (y ∷ xs)) same (in_front y xs)
    by rest false is = in_rest y x xs (rest is)

-- where there is one, one of them comes after each pointer
some_after : (cmp : List ℕ → List ℕ → Ordering) (pointer : Option (List ℕ)) (files : List NewFile)
    → (files ≡ [] → ⊥) → (file : NewFile) × (file_after cmp pointer files ≡ Some file)
    × Contains files file
some_after cmp pointer [] some = absurd (some refl)
some_after cmp None (x ∷ files) some = (x, refl, in_front x files)
some_after cmp (Some pointer) (x ∷ files) some =
    by (find test (x ∷ files)) refl
  where
    test : NewFile → Bool
    test file = is_gt (internal_cmp cmp file.largest pointer)

    by : (found : Option NewFile) → find test (x ∷ files) ≡ found → (file : NewFile)
        × (option_or (find test (x ∷ files)) (Some x) ≡ Some file) × Contains (x ∷ files) file
    by None is = (x, ap (λ (o : Option NewFile). option_or o (Some x)) is, in_front x files)
    by (Some y) is =
        (y, ap (λ (o : Option NewFile). option_or o (Some x)) is, found_in test (x ∷ files) y is)

module _ {C : Type 0} (cmp : List ℕ → List ℕ → Ordering) (pointers : List Pointer)
    (version : VersionValue C) where
  -- the one that asks is of the level that asks by its score
  pub asking_in_level : (level : ℕ) → level_by_score (new_files_of version) ≡ Some level
      → (file : NewFile) × (asking_file cmp pointers version ≡ Some file) × (file.level ≡ level)
  asking_in_level level asks =
      let files = new_files_of version in
      let pointer = used_pointer pointers level in
      let after = some_after cmp pointer (files_of_level level files)
      (λ none. asking_has_files files level asks none) in (
        after.0,
        ap (λ (o : Option ℕ). option_map_or (λ l. file_after cmp (used_pointer pointers l)
            (files_of_level l files)) o (file_by_reads version)) asks ∙ after.1,
        eqb-true after.0.level level
            (kept_passes (λ (file : NewFile). file.level == level) files after.0 after.2).1,
      )

-- a version asks for a compaction, where a file of it does
file_asks : {C : Type 0} (cmp : List ℕ → List ℕ → Ordering) (pointers : List Pointer)
    (version : VersionValue C) → (asking_file cmp pointers version ≡ None → ⊥)
    → IsTrue (needs_compaction version)
file_asks cmp pointers version some =
    by (λ level. file_after cmp (used_pointer pointers level)
    (files_of_level level (new_files_of version))) (level_by_score (new_files_of version))
    (file_by_reads version) some
  where
    by : (of : ℕ → Option NewFile) (level : Option ℕ) (file : Option NewFile)
        → (option_map_or of level file ≡ None → ⊥) → IsTrue (is_some level || is_some file)
    by of (Some level) file some = refl
    by of None (Some file) some = refl
    by of None None some = absurd (some refl)

-- ---- what is logged

-- the one that is picked is logged
pub logs_picked : {C : Type 0} (cmp : List ℕ → List ℕ → Ordering) (old new : OpenStoreValue C)
    (picked : Option (CompactionValue C)) (result : Result (Unit {0}) Status)
    → OnOk result (IfSome picked (λ it. LogsCompaction cmp it old new))
    → (picked ≡ None → new ≡ old) → OnOk result (LogsPicked cmp picked old new)
logs_picked cmp old new None (Ok unit) logged none = none refl
logs_picked cmp old new (Some it) (Ok unit) logged none = logged
logs_picked cmp old new None (Err status) logged none = tt
logs_picked cmp old new (Some it) (Err status) logged none = tt

module _ {C : Type 0} {cmp : List ℕ → List ℕ → Ordering} {by : C} (old new : OpenStoreValue C)
    (current : IsCurrent cmp by old.set old.current) where
  -- the version's files aren't turned round where the set's aren't
  ordered_current : AreOrdered cmp old.set.full.added → AreOrdered cmp (new_files_of old.current)
  ordered_current ordered file there = ordered file
      (Contains-permutation (new_files_of old.current) old.set.full.added file
      (IsPermutation-sym old.set.full.added (new_files_of old.current) current.same_files) there)

  pub logged_by_score : (max_file_size : ℕ) (picked : Option (CompactionValue C))
      → AreOrdered cmp old.set.full.added
      → IsAskedFor cmp old.set.full.pointers old.current max_file_size picked
      → LogsPicked cmp picked old new → LogsByScore old.set new.set
  logged_by_score max_file_size None ordered asked same = record {
    edit = None;
    logs = subst (λ (v : OpenStoreValue C). GivesNumbers old.set v.set) (sym same)
        (GivesNumbers-refl old.set);
    takes = tt;
    by_score = λ level asks.
        let file = asking_in_level cmp old.set.full.pointers old.current level
        (scores_alike old.set.full.added (new_files_of old.current) current.same_files level asks) in
        asked.some (ordered_current ordered) file.0 file.1;
  }
  logged_by_score max_file_size (Some it) ordered asked logged = record {
    edit = Some logged.edit;
    logs = (
      logged.given,
      logged.gives,
      logged.manifest,
      logged.was_in_use,
      subst (GivesNumbers (set_appended logged.manifest logged.given logged.edit)) (sym logged.set)
          (GivesNumbers-refl (set_appended logged.manifest logged.given logged.edit)),
    );
    takes =
        let one = asked.each.may.some in (
          it.level,
          record {
            taken = (
              level_file one.0,
              (logged.replaces.deleted (level_file one.0)).1 (one.0, one.1, refl),
              one.2,
            );
            none_added = λ added there same.
                let at : added.level ≡ it.level + 1 =
                (logged.replaces.added.within added there).0 in omega (arith, at, same);
          },
        );
    by_score = λ level asks.
        let file = asking_in_level cmp old.set.full.pointers old.current level
        (scores_alike old.set.full.added (new_files_of old.current) current.same_files level asks) in
        let takes = asked.some (ordered_current ordered) file.0 file.1 in
        record {
          taken = (
            level_file file.0,
            (logged.replaces.deleted (level_file file.0)).1 (file.0, takes.1, refl),
            file.2,
          );
          none_added = λ added there same.
              let at : added.level ≡ it.level + 1 = (logged.replaces.added.within added there).0 in
              omega (arith, at, same, takes.0, file.2);
        };
  }

  -- where the one that is picked fails, the version asks for it still
  asks_still : (max_file_size : ℕ) (picked : Option (CompactionValue C))
      (result : Result (Unit {0}) Status)
      → IsAskedFor cmp old.set.full.pointers old.current max_file_size picked
      → (picked ≡ None → result ≡ Ok tt) → OnErr result (new.current ≡ old.current)
      → IfErr result (λ e. IsOutOfMemory e ⊎ IsTrue (needs_compaction new.current))
  asks_still max_file_size picked (Ok unit) asked well version = tt
  asks_still max_file_size picked (Err status) asked well version = inr
      (subst (λ (v : VersionValue C). IsTrue (needs_compaction v)) (sym version)
      (file_asks cmp old.set.full.pointers old.current
      (λ none. let never : Err status ≡ Ok tt = well (asked.none none) in cc)))

  -- what the one leaves that is asked for
  pub compacts_if_asked : (max_file_size : ℕ) (picked : Option (CompactionValue C))
      (result : Result (Unit {0}) Status) → AreOrdered cmp old.set.full.added
      → IsAskedFor cmp old.set.full.pointers old.current max_file_size picked
      → OnOk result (IfSome picked (λ it. LogsCompaction cmp it old new))
      → (picked ≡ None → (result ≡ Ok tt) × (new ≡ old)) → OnErr result (new.set.full ≡ old.set.full)
      → OnErr result (new.current ≡ old.current)
      → CompactsIfAsked cmp max_file_size old result new
  compacts_if_asked max_file_size picked result ordered asked logged none err version = record {
    logged = IfOk-weaker result _ _ (λ unit logs. (picked, asked, logs))
        (logs_picked cmp old new picked result logged (λ is. (none is).1));
    by_score = IfOk-weaker result _ _
        (λ unit logs. logged_by_score max_file_size picked ordered asked logs)
        (logs_picked cmp old new picked result logged (λ is. (none is).1));
    err = err;
    asks = asks_still max_file_size picked result asked (λ is. (none is).0) version;
  }

-- the one that is picked may be done
pub picked_may_be : {C : Type 0} (cmp : List ℕ → List ℕ → Ordering) (version : VersionValue C)
    (size : ℕ) (picked : Option (CompactionValue C))
    → IfSome picked (IsCompactionOf cmp version false size)
    → IfSome picked (λ it. IsCompactionOf cmp version it.manual size it)
picked_may_be cmp version size None each = tt
picked_may_be cmp version size (Some it) each = compaction_as_manual each
