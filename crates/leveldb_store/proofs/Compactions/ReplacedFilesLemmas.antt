-- What a compaction's edit leaves of the files of its level and of those above it.
use Rattle.std.proofs.Common.{◌≡◌, ◌≢◌, ◌∙◌, ◌⊎◌, ◌+◌, ◌<◌, ◌≤◌, ◌==◌, ◌++◌, inl, inr, ⊎_elim, ℕ, Bool, true, false, cond, not, List, [], ◌∷◌, ap, arith, length, refl, rules, subst, sym}
use Rattle.std.specs.Prelude.{◌&&◌, Contains, fold}
use Rattle.std.specs.List.{filter}
use Rattle.std.specs.declared.cmp.Ordering.{Ordering}
use Rattle.std.proofs.lemmas.Bool.{eqb-true}
use Rattle.leveldb_base.proofs.HistoryLemmas.{in_cases, in_front, in_none, in_rest}
use Rattle.leveldb_version_set.proofs.Compactions.ChoosingLemmas.{files_are_edited}
use Rattle.leveldb_version.proofs.Versions.SearchLemmas.{passes_kept}
use Rattle.leveldb_files.proofs.Edits.VersionSetLemmas.{is_same_file-refl}
use Rattle.leveldb_version_set.specs.Compactions.Compaction.{MayCompact}
use Rattle.leveldb_version.specs.Edits.FullEdit.{files_after, files_with, files_without}
use Rattle.leveldb_version_set.specs.Compactions.Picking.{CompactionValue}
use Rattle.leveldb_files.specs.Levels.Summary.{files_of_level}
use Rattle.leveldb_version.specs.Versions.Version.{new_files_of}
use Rattle.leveldb_files.specs.Edits.Edit.{Edit, LevelFile, NewFile}
use Rattle.leveldb_files.specs.Edits.VersionSet.{is_same_file, level_file}
use Rattle.leveldb_version_set.specs.Sets.VersionSetValue.{VersionSetValue}
use Rattle.leveldb_store.specs.Compactions.Compact.{KeepsLevelsAbove, LogsCompaction, ReplacesFiles}
use Rattle.leveldb_store.specs.Keeping.OpenStore.{OpenStoreValue}

-- ---- filters

module _ {A : Type 0} (p q : A → Bool) where
  -- a filter of what another one keeps, by the tests of the first element
  first_kept : (x : A) (xs : List A) (a b : Bool) → p x ≡ a → q x ≡ b
      → filter q (filter p (x ∷ xs))
      ≡ cond a (cond b (x ∷ filter q (filter p xs)) (filter q (filter p xs)))
      (filter q (filter p xs))
  first_kept x xs true b e f =
      ap (λ k. filter q (cond k (x ∷ filter p xs) (filter p xs))) e
      ∙ ap (λ k. cond k (x ∷ filter q (filter p xs)) (filter q (filter p xs))) f
  first_kept x xs false b e f = ap (λ k. filter q (cond k (x ∷ filter p xs) (filter p xs))) e

  first_of : (x : A) (xs : List A) (b : Bool) → q x ≡ b
      → filter q (x ∷ xs) ≡ cond b (x ∷ filter q xs) (filter q xs)
  first_of x xs b f = ap (λ k. cond k (x ∷ filter q xs) (filter q xs)) f

  -- what passes it passes the other
  kept_alike : ((x : A) → q x ≡ true → p x ≡ true) → (xs : List A)
      → filter q (filter p xs) ≡ filter q xs
  kept_alike so [] = refl
  kept_alike so (x ∷ xs) = by (kept_alike so xs) (p x) (q x) refl refl
    where
      by : filter q (filter p xs) ≡ filter q xs → (a b : Bool) → p x ≡ a → q x ≡ b
          → filter q (filter p (x ∷ xs)) ≡ filter q (x ∷ xs)
      by rest true true e f = first_kept x xs true true e f ∙ ap (λ ys. x ∷ ys) rest
          ∙ sym (first_of x xs true f)
      by rest true false e f = first_kept x xs true false e f ∙ rest
          ∙ sym (first_of x xs false f)
      by rest false true e f =
          let never : true ≡ false = sym (so x f) ∙ e in absurd (cc)
      by rest false false e f = first_kept x xs false false e f ∙ rest
          ∙ sym (first_of x xs false f)

  -- it keeps no more of what is left than of all
  no_more : (xs : List A) → length (filter q (filter p xs)) ≤ length (filter q xs)
  no_more [] = omega arith
  no_more (x ∷ xs) = by (no_more xs) (p x) (q x) refl refl
    where
      by : length (filter q (filter p xs)) ≤ length (filter q xs) → (a b : Bool) → p x ≡ a
          → q x ≡ b → length (filter q (filter p (x ∷ xs))) ≤ length (filter q (x ∷ xs))
      by more true true e f =
          omega (arith, more, ap length (first_kept x xs true true e f), ap length (first_of x xs true f))
      by more true false e f =
          omega (arith, more, ap length (first_kept x xs true false e f), ap length (first_of x xs false f))
      by more false true e f =
          omega (arith, more, ap length (first_kept x xs false true e f), ap length (first_of x xs true f))
      by more false false e f =
          omega (arith, more, ap length (first_kept x xs false false e f), ap length (first_of x xs false f))

  -- and fewer if one goes that it would keep
  one_fewer : (xs : List A) (x : A) → Contains xs x → q x ≡ true → p x ≡ false
      → length (filter q (filter p xs)) < length (filter q xs)
  one_fewer [] x c passes goes = absurd (in_none x c)
  one_fewer (y ∷ xs) x c passes goes = ⊎_elim here
      (λ (rest : Contains xs x). by (one_fewer xs x rest passes goes) (p y) (q y) refl refl)
      (in_cases y x xs c)
    where
      here : y ≡ x → length (filter q (filter p (y ∷ xs))) < length (filter q (y ∷ xs))
      here same =
          let e : p y ≡ false = ap p same ∙ goes in
          let f : q y ≡ true = ap q same ∙ passes in
          let more = no_more xs in
          omega (arith, more, ap length (first_kept y xs false true e f), ap length (first_of y xs true f))

      by : length (filter q (filter p xs)) < length (filter q xs) → (a b : Bool) → p y ≡ a
          → q y ≡ b → length (filter q (filter p (y ∷ xs))) < length (filter q (y ∷ xs))
      by fewer true true e f =
          omega (arith, fewer, ap length (first_kept y xs true true e f), ap length (first_of y xs true f))
      by fewer true false e f =
          omega (arith, fewer, ap length (first_kept y xs true false e f), ap length (first_of y xs false f))
      by fewer false true e f =
          omega (arith, fewer, ap length (first_kept y xs false true e f), ap length (first_of y xs true f))
      by fewer false false e f =
          omega (arith, fewer, ap length (first_kept y xs false false e f), ap length (first_of y xs false f))

  -- one more that doesn't pass
  none_pushed : (xs : List A) (x : A) → q x ≡ false → filter q (xs ++ x ∷ []) ≡ filter q xs
  none_pushed [] x e = first_of x [] false e
  none_pushed (y ∷ xs) x e =
      ap (λ ys. cond (q y) (y ∷ ys) ys) (none_pushed xs x e)

-- ---- the files of a level

-- no file is at two levels
other_levels : (a b : ℕ) (c d : Bool) → (a ≡ b → ⊥) → ((a == b) && c) ≡ false
other_levels a b c d differ = by (a == b) refl
  where
    by : (k : Bool) → (a == b) ≡ k → (k && c) ≡ false
    by true e = absurd (differ (eqb-true a b e))
    by false e = refl

equal : (n : ℕ) → (n == n) ≡ true
equal n = search rules

module _ (level : ℕ) where
  abbrev at_level : NewFile → Bool
  at_level file = file.level == level

  abbrev spares : LevelFile → NewFile → Bool
  spares at file = not (is_same_file (level_file file) at)

  -- a file of another level is deleted
  left_beside : (files : List NewFile) (at : LevelFile) → (at.0 ≡ level → ⊥)
      → files_of_level level (files_without files at) ≡ files_of_level level files
  left_beside files at other = kept_alike (spares at) at_level
      (λ file here. ap not (other_levels file.level at.0 (file.number == at.1) true
      (λ same. other (sym same ∙ eqb-true file.level level here)))) files

  deleted_beside : (deleted : List LevelFile) (files : List NewFile)
      → ((at : LevelFile) → Contains deleted at → at.0 ≡ level → ⊥)
      → files_of_level level (fold files_without files deleted) ≡ files_of_level level files
  deleted_beside [] files others = refl
  deleted_beside (at ∷ deleted) files others =
      deleted_beside deleted (files_without files at)
      (λ other c. others other (in_rest at other deleted c))
      ∙ left_beside files at (others at (in_front at deleted))

  -- a file of another level is added
  added_beside : (added : List NewFile) (files : List NewFile)
      → ((file : NewFile) → Contains added file → file.level ≡ level → ⊥)
      → files_of_level level (fold files_with files added) ≡ files_of_level level files
  added_beside [] files others = refl
  added_beside (file ∷ added) files others =
      added_beside added (files_with files file)
      (λ other c. others other (in_rest file other added c))
      ∙ none_pushed at_level at_level (files_without files (level_file file)) file
      (not_at (file.level == level) refl)
      ∙ left_beside files (level_file file) (others file (in_front file added))
    where
      not_at : (b : Bool) → (file.level == level) ≡ b → (file.level == level) ≡ false
      not_at true e =
          absurd (others file (in_front file added) (eqb-true file.level level e))
      not_at false e = e

  -- deletions leave no more
  deleted_no_more : (deleted : List LevelFile) (files : List NewFile)
      → length (files_of_level level (fold files_without files deleted))
      ≤ length (files_of_level level files)
  deleted_no_more [] files = omega arith
  deleted_no_more (at ∷ deleted) files =
      let rest = deleted_no_more deleted (files_without files at) in
      let one = no_more (spares at) at_level files in omega (arith, rest, one)

  -- and fewer where one of the level is deleted
  abbrev LeavesFewer : List LevelFile → List NewFile → Type 0
  LeavesFewer deleted files = length (files_of_level level (fold files_without files deleted))
      < length (files_of_level level files)

  deleted_fewer : (deleted : List LevelFile) (files : List NewFile) (file : NewFile)
      → Contains files file → file.level ≡ level → Contains deleted (level_file file)
      → LeavesFewer deleted files
  deleted_fewer [] files file there here gone = absurd (in_none (level_file file) gone)
  deleted_fewer (at ∷ deleted) files file there here gone =
      by (λ left rest. deleted_fewer deleted (files_without files at) file left here rest)
      (spares at file) refl
    where
      is_here : at_level file ≡ true
      is_here = ap (λ k. k == level) here ∙ equal level

      -- the first deletion leaves it, so a later one doesn't
      later : (Contains (files_without files at) file → Contains deleted (level_file file)
          → LeavesFewer deleted (files_without files at))
          → spares at file ≡ true → LeavesFewer (at ∷ deleted) files
      later smaller left = ⊎_elim
          (λ (same : at ≡ level_file file).
          let goes : spares at file ≡ false = ap (λ it. not (is_same_file (level_file file) it)) same
          ∙ ap not (is_same_file-refl (level_file file)) in
          let never : true ≡ false = sym left ∙ goes in absurd (cc))
          (λ (rest : Contains deleted (level_file file)).
          let fewer = smaller (passes_kept (spares at) files file there left) rest in
          let one = no_more (spares at) at_level files in omega (arith, fewer, one))
          (in_cases at (level_file file) deleted gone)

      by : (Contains (files_without files at) file → Contains deleted (level_file file)
          → LeavesFewer deleted (files_without files at)) → (b : Bool) → spares at file ≡ b
          → LeavesFewer (at ∷ deleted) files
      by smaller true left = later smaller left
      by smaller false goes =
          let one = one_fewer (spares at) at_level files file there is_here goes in
          let rest = deleted_no_more deleted (files_without files at) in omega (arith, one, rest)

-- ---- a compaction's edit

-- A compaction's files are replaced: the levels above its own have the files that they had, and its
-- own has those that it didn't take, which are fewer if those that it took were there.
pub record ReplacesInLevel {C : Type 0} (it : CompactionValue C) (before after : List NewFile)
    : Type 0 where
  pub above : KeepsLevelsAbove it.level before after
  pub of_level : (file : NewFile) → Contains after file → file.level ≡ it.level
      → Contains before file × (Contains (new_files_of it.inputs) file → ⊥)
  pub fewer : ((file : NewFile) → Contains (new_files_of it.inputs) file → Contains before file)
      → length (files_of_level it.level after) < length (files_of_level it.level before)

module _ {C : Type 0} {cmp order : List ℕ → List ℕ → Ordering} {log : ℕ} {it : CompactionValue C}
    {edit : Edit} (replaces : ReplacesFiles cmp log it edit) {of_version : List NewFile}
    (may : MayCompact order of_version it.level (new_files_of it.inputs)) where
  -- it adds files of the next level
  added_below : (file : NewFile) → Contains edit.added file → file.level ≡ it.level + 1
  added_below file c = (replaces.added.within file c).0

  -- and deletes files of its level and of that one
  deleted_of : (at : LevelFile) → Contains edit.deleted at
      → (at.0 ≡ it.level) ⊎ (at.0 ≡ it.level + 1)
  deleted_of at c =
      let found = (replaces.deleted at).0 c in
      subst (λ (a : LevelFile). (a.0 ≡ it.level) ⊎ (a.0 ≡ it.level + 1)) found.2
      (may.levels found.0 found.1)

  -- so its files are replaced
  pub replaced_in_level : (files : List NewFile) → ReplacesInLevel it files (files_after edit files)
  replaced_in_level files = record {
    above = above;
    of_level = λ file there here. ⊎_elim
        (λ (is_added : Contains edit.added file).
        let below = added_below file is_added in absurd (omega (arith, below, here)))
        (λ left. (left.0, λ taken. never_left file left.1 taken))
        ((files_are_edited edit files).among file there);
    fewer = fewer;
  }
    where
      above : KeepsLevelsAbove it.level files (files_after edit files)
      above other higher =
          added_beside other edit.added (fold files_without files edit.deleted)
          (λ file c same. let below = added_below file c in omega (arith, below, same, higher))
          ∙ deleted_beside other edit.deleted files
          (λ at c same. ⊎_elim (λ (here : at.0 ≡ it.level). omega (arith, here, same, higher))
          (λ (next : at.0 ≡ it.level + 1). omega (arith, next, same, higher)) (deleted_of at c))

      never_left : (file : NewFile)
          → ((at : LevelFile) → Contains edit.deleted at
          → is_same_file (level_file file) at ≡ false)
          → Contains (new_files_of it.inputs) file → ⊥
      never_left file left taken =
          let gone = left (level_file file)
          ((replaces.deleted (level_file file)).1 (file, taken, refl)) in
          let is : is_same_file (level_file file) (level_file file) ≡ true =
          is_same_file-refl (level_file file) in
          let never : true ≡ false = sym is ∙ gone in cc

      fewer : ((file : NewFile) → Contains (new_files_of it.inputs) file → Contains files file)
          → length (files_of_level it.level (files_after edit files))
          < length (files_of_level it.level files)
      fewer live =
          let some = may.some in
          let less = deleted_fewer it.level edit.deleted files some.0 (live some.0 some.1) some.2
          ((replaces.deleted (level_file some.0)).1 (some.0, some.1, refl)) in
          let same = added_beside it.level edit.added (fold files_without files edit.deleted)
          (λ file c here. let below = added_below file c in omega (arith, below, here)) in
          omega (arith, less, ap length same)

-- so it is after an edit that was logged
pub logged_replaces : {C : Type 0} {cmp order : List ℕ → List ℕ → Ordering}
    {it : CompactionValue C} {old new : OpenStoreValue C} → LogsCompaction cmp it old new
    → MayCompact order (new_files_of old.current) it.level (new_files_of it.inputs)
    → ReplacesInLevel it old.set.full.added new.set.full.added
logged_replaces {it = it} {old = old} {new = new} logged may =
    let given = ap (λ (set : VersionSetValue). set.full.added) logged.gives.set in
    let after = ap (λ (set : VersionSetValue). set.full.added) logged.set in
    subst (λ files. ReplacesInLevel it old.set.full.added files)
    (ap (λ files. files_after logged.edit files) (sym given) ∙ sym after)
    (replaced_in_level logged.replaces may old.set.full.added)
