-- An edit of all that there is stays one when it becomes what another edit leaves.
use Rattle.std.proofs.Common.{◌≡◌, ◌⊎◌, inl, inr, ⊎_elim, if◌then◌else◌, ◌==◌, ℕ, List, [], ◌∷◌, ◌++◌, map, cond, Option, None, Some, Bool, true, false, not, refl, sym, ◌∙◌, ap, subst}
use Rattle.std.specs.Prelude.{◌↔◌, fold, Contains}
use Rattle.std.specs.List.{filter, filter_map, cons_option, last_or, AllByRecursion, IsDistinct}
use Rattle.std.specs.Option.{option_or}
use Rattle.std.proofs.lemmas.Bool.{eqb-true}
use Rattle.std.proofs.lemmas.List.Elements.{filter_map-append, Contains-append_left, Contains-push, Contains-push_cases}
use Rattle.leveldb_base.proofs.HistoryLemmas.{in_none, in_front, in_rest, in_cases}
use Rattle.leveldb_files.specs.Edits.Edit.{LevelFile, Pointer, NewFile, Edit}
use Rattle.leveldb_files.specs.Edits.VersionSet.{deleting, adding, level_file, is_same_file, left_by, key_for, last_one, pointer_at, live_at, live_after, ListsFiles, IsFullEdit}
use Rattle.leveldb_version.specs.Edits.FullEdit.{files_without, files_with, files_after, pointers_with, full_after}
use Rattle.leveldb_files.proofs.Edits.VersionSetLemmas.{applies_in_order, is_same_file-refl, last_or-append, last_or-single, last_or-start, last_or-cons, not_same, none_is_some}

-- ---- filters

map_kept : {A B : Type 0} (f : A → B) (x : A) (xs : List A) (ys : List B) (kept : Bool) → map f xs ≡ ys
    → map f (cond kept (x ∷ xs) xs) ≡ cond kept (f x ∷ ys) ys
map_kept f x xs ys true e = ap (λ z. f x ∷ z) e
map_kept f x xs ys false e = e

pub map-filter : {A B : Type 0} (f : A → B) (keeps : B → Bool) (xs : List A) → map f (filter (λ x. keeps (f x)) xs) ≡ filter keeps (map f xs)
map-filter f keeps [] = refl
map-filter f keeps (x ∷ xs) =
    map_kept f x (filter (λ y. keeps (f y)) xs) (filter keeps (map f xs)) (keeps (f x)) (map-filter f keeps xs)

-- what a filter keeps was there and passes
module _ {A : Type 0} (keeps : A → Bool) where
  kept_there : (x y : A) (ys : List A) (kept : Bool) → keeps y ≡ kept → (Contains (filter keeps ys) x → Contains ys x × (keeps x ≡ true))
      → Contains (cond kept (y ∷ filter keeps ys) (filter keeps ys)) x → Contains (y ∷ ys) x × (keeps x ≡ true)
  kept_there x y ys true e further c = ⊎_elim
      (λ (same : y ≡ x). let P : A → Type 0 = λ z. Contains (y ∷ ys) z × (keeps z ≡ true) in subst P same (in_front y ys, e))
      (λ (rest : Contains (filter keeps ys) x). let it = further rest in (in_rest y x ys it.0, it.1))
      (in_cases y x (filter keeps ys) c)
  kept_there x y ys false e further c = let it = further c in (in_rest y x ys it.0, it.1)

  pub kept_was_there : (xs : List A) (x : A) → Contains (filter keeps xs) x → Contains xs x × (keeps x ≡ true)
  kept_was_there [] x c = absurd (in_none x c)
  kept_was_there (y ∷ ys) x c = kept_there x y ys (keeps y) refl (kept_was_there ys x) c

  stays : (x y : A) (ys : List A) (kept : Bool) → keeps y ≡ kept → keeps x ≡ true → (y ≡ x) ⊎ Contains (filter keeps ys) x → Contains (cond kept (y ∷ filter keeps ys) (filter keeps ys)) x
  stays x y ys true e passes c = ⊎_elim
      (λ (same : y ≡ x). let P : A → Type 0 = λ z. Contains (y ∷ filter keeps ys) z in subst P same (in_front y (filter keeps ys)))
      (λ (rest : Contains (filter keeps ys) x). in_rest y x (filter keeps ys) rest)
      c
  stays x y ys false e passes c = ⊎_elim
      (λ (same : y ≡ x). absurd (let never : keeps x ≡ false = subst (λ z. keeps z ≡ false) same e in let both : true ≡ false = sym passes ∙ never in cc))
      (λ (rest : Contains (filter keeps ys) x). rest)
      c

  pub is_kept : (xs : List A) (x : A) → Contains xs x → keeps x ≡ true → Contains (filter keeps xs) x
  is_kept [] x c passes = absurd (in_none x c)
  is_kept (y ∷ ys) x c passes = stays x y ys (keeps y) refl passes
      (⊎_elim (λ (same : y ≡ x). inl same) (λ (rest : Contains ys x). inr (is_kept ys x rest passes)) (in_cases y x ys c))

-- ---- files, one change after another

-- what a change leaves where there was this
abbrev after_change : Option NewFile → Option (Option NewFile) → Option NewFile
after_change was left = last_one was (cons_option left [])

last_one-cons : {A : Type 0} (value : A) (next : Option A) (xs : List A) → last_one value (cons_option next xs) ≡ last_one (last_one value (cons_option next [])) xs
last_one-cons value None xs = refl
last_one-cons value (Some x) xs = refl

-- the list has the files of such a set, each once
record AreFilesOf (set : LevelFile → Option NewFile) (files : List NewFile) : Type 0 where
  live : (file : NewFile) → Contains files file ↔ (set (level_file file) ≡ Some file)
  once : IsDistinct is_same_file (map level_file files)

-- none of the files is of this level and number
abbrev AreOthers : LevelFile → List NewFile → Type 0
AreOthers at files = AllByRecursion (λ other. is_same_file at other ≡ false) (map level_file files)

others_kept : (at : LevelFile) (x : NewFile) (files : List NewFile) (kept : Bool) → is_same_file at (level_file x) ≡ false → AreOthers at files
    → AreOthers at (cond kept (x ∷ files) files)
others_kept at x files true e others = (e, others)
others_kept at x files false e others = others

still_others : (at : LevelFile) (keeps : NewFile → Bool) (files : List NewFile) → AreOthers at files → AreOthers at (filter keeps files)
still_others at keeps [] others = tt
still_others at keeps (x ∷ files) others = others_kept at x (filter keeps files) (keeps x) others.0 (still_others at keeps files others.1)

once_kept : (x : NewFile) (files : List NewFile) (kept : Bool) → AreOthers (level_file x) files → IsDistinct is_same_file (map level_file files)
    → IsDistinct is_same_file (map level_file (cond kept (x ∷ files) files))
unfolding IsDistinct
once_kept x files true others once = (others, once)
once_kept x files false others once = once

pub still_once : (keeps : NewFile → Bool) (files : List NewFile) → IsDistinct is_same_file (map level_file files) → IsDistinct is_same_file (map level_file (filter keeps files))
unfolding IsDistinct
still_once keeps [] once = tt
still_once keeps (x ∷ files) once =
    once_kept x (filter keeps files) (keeps x) (still_others (level_file x) keeps files once.0) (still_once keeps files once.1)

deleted_at : (same : Bool) (was : Option NewFile) (file : NewFile) → after_change was (if same then Some None else None) ≡ Some file → (same ≡ false) × (was ≡ Some file)
deleted_at true was file e = absurd (none_is_some e)
deleted_at false was file e = (refl, e)

not_deleted_at : (same : Bool) (was : Option NewFile) (file : NewFile) → same ≡ false → was ≡ Some file → after_change was (if same then Some None else None) ≡ Some file
not_deleted_at true was file e there = absurd (cc)
not_deleted_at false was file e there = there

not_false : (b : Bool) → not b ≡ true → b ≡ false
not_false true e = absurd (cc)
not_false false e = refl

without_one : (set : LevelFile → Option NewFile) (files : List NewFile) (at : LevelFile) → AreFilesOf set files
    → AreFilesOf (λ place. after_change (set place) (left_by place (deleting at))) (files_without files at)
without_one set files at are = record {
  live = λ file. (
    λ c.
        let keeps : NewFile → Bool = λ it. not (is_same_file (level_file it) at) in
        let it = kept_was_there keeps files file c in
        not_deleted_at (is_same_file at (level_file file)) (set (level_file file)) file
        (not_same (level_file file) at (not_false (is_same_file (level_file file) at) it.1)) ((are.live file).0 it.0),
    λ e.
        let keeps : NewFile → Bool = λ it. not (is_same_file (level_file it) at) in
        let it = deleted_at (is_same_file at (level_file file)) (set (level_file file)) file e in
        is_kept keeps files file ((are.live file).1 it.1) (ap not (not_same at (level_file file) it.0)),
  );
  once = still_once (λ it. not (is_same_file (level_file it) at)) files are.once;
}

added_at : (same : Bool) (x was_there : NewFile) (was : Option NewFile) → after_change was (if same then Some (Some x) else None) ≡ Some was_there
    → (x ≡ was_there) ⊎ ((same ≡ false) × (was ≡ Some was_there))
added_at true x file was e = inl (cc)
added_at false x file was e = inr (refl, e)

still_there : (same : Bool) (x file : NewFile) (was : Option NewFile) → same ≡ false → was ≡ Some file → after_change was (if same then Some (Some x) else None) ≡ Some file
still_there true x file was e there = absurd (cc)
still_there false x file was e there = there

others_then : (at : LevelFile) (files : List NewFile) (x : NewFile) → AreOthers at files → is_same_file at (level_file x) ≡ false → AreOthers at (files ++ x ∷ [])
others_then at [] x others e = (e, tt)
others_then at (y ∷ files) x others e = (others.0, others_then at files x others.1 e)

pub once_then : (files : List NewFile) (x : NewFile) → IsDistinct is_same_file (map level_file files)
    → ((file : NewFile) → Contains files file → is_same_file (level_file file) (level_file x) ≡ false) → IsDistinct is_same_file (map level_file (files ++ x ∷ []))
unfolding IsDistinct
once_then [] x once apart = (tt, tt)
once_then (y ∷ files) x once apart =
    (others_then (level_file y) files x once.0 (apart y (in_front y files)), once_then files x once.1 (λ file c. apart file (in_rest y file files c)))

-- ---- two lists of files together

others_from : (at : LevelFile) (files : List NewFile)
    → ((file : NewFile) → Contains files file → is_same_file at (level_file file) ≡ false)
    → AreOthers at files
others_from at [] apart = tt
others_from at (x ∷ files) apart =
    (apart x (in_front x files), others_from at files (λ file c. apart file (in_rest x file files c)))

others_together : (at : LevelFile) (these those : List NewFile) → AreOthers at these
    → ((file : NewFile) → Contains those file → is_same_file at (level_file file) ≡ false)
    → AreOthers at (these ++ those)
others_together at [] those others apart = others_from at those apart
others_together at (x ∷ these) those others apart =
    (others.0, others_together at these those others.1 apart)

-- each level and number is there once where it is so in both lists, and no file of one has those of
-- a file of the other
pub once_together : (these those : List NewFile) → IsDistinct is_same_file (map level_file these)
    → IsDistinct is_same_file (map level_file those)
    → ((a b : NewFile) → Contains these a → Contains those b
    → is_same_file (level_file a) (level_file b) ≡ false)
    → IsDistinct is_same_file (map level_file (these ++ those))
unfolding IsDistinct
once_together [] those once other apart = other
once_together (x ∷ these) those once other apart = (
  others_together (level_file x) these those once.0 (λ b d. apart x b (in_front x these) d),
  once_together these those once.1 other (λ a b c d. apart a b (in_rest x a these c) d),
)

-- the first file has another level and number than each after it
pub first_is_other : (x : NewFile) (files : List NewFile)
    → IsDistinct is_same_file (map level_file (x ∷ files)) → (file : NewFile)
    → Contains files file → is_same_file (level_file x) (level_file file) ≡ false
unfolding IsDistinct
first_is_other x files once file c = other files once.0 c
  where
    other : (them : List NewFile) → AreOthers (level_file x) them → Contains them file
        → is_same_file (level_file x) (level_file file) ≡ false
    other [] others c = absurd (in_none file c)
    other (y ∷ them) others c = ⊎_elim
        (λ (e : y ≡ file). subst (λ (f : NewFile).
        is_same_file (level_file x) (level_file f) ≡ false) e others.0)
        (λ (there : Contains them file). other them others.1 there) (in_cases y file them c)

-- without the first they are so still
pub once_rest : (x : NewFile) (files : List NewFile)
    → IsDistinct is_same_file (map level_file (x ∷ files))
    → IsDistinct is_same_file (map level_file files)
unfolding IsDistinct
once_rest x files once = once.1

with_one : (set : LevelFile → Option NewFile) (files : List NewFile) (x : NewFile) → AreFilesOf set files
    → AreFilesOf (λ place. after_change (set place) (left_by place (adding x))) (files_with files x)
with_one set files x are =
    let keeps : NewFile → Bool = λ it. not (is_same_file (level_file it) (level_file x)) in
    let apart : (file : NewFile) → Contains (filter keeps files) file → is_same_file (level_file file) (level_file x) ≡ false
    = λ file c. not_false (is_same_file (level_file file) (level_file x)) (kept_was_there keeps files file c).1 in
    record {
      live = λ file. (
        λ c. ⊎_elim
            (λ (old : Contains (filter keeps files) file).
            still_there (is_same_file (level_file x) (level_file file)) x file (set (level_file file))
            (not_same (level_file file) (level_file x) (apart file old)) ((are.live file).0 (kept_was_there keeps files file old).0))
            (λ (same : x ≡ file).
            let P : NewFile → Type 0 = λ z. after_change (set (level_file z)) (left_by (level_file z) (adding x)) ≡ Some z in
            subst P same (ap (λ z. after_change (set (level_file x)) (if z then Some (Some x) else None)) (is_same_file-refl (level_file x))))
            (Contains-push_cases (filter keeps files) x file c),
        λ e. ⊎_elim
            (λ (same : x ≡ file). let P : NewFile → Type 0 = Contains (files_with files x) in subst P same (Contains-push (filter keeps files) x))
            (λ (old : (is_same_file (level_file x) (level_file file) ≡ false) × (set (level_file file) ≡ Some file)).
            Contains-append_left (filter keeps files) (x ∷ []) file
            (is_kept keeps files file ((are.live file).1 old.1) (ap not (not_same (level_file x) (level_file file) old.0))))
            (added_at (is_same_file (level_file x) (level_file file)) x file (set (level_file file)) e),
      );
      once = once_then (filter keeps files) x (still_once keeps files are.once) apart;
    }

-- the same set by another function
same_set : (set other : LevelFile → Option NewFile) (files : List NewFile) → ((at : LevelFile) → other at ≡ set at) → AreFilesOf set files → AreFilesOf other files
same_set set other files same are = record {
  live = λ file. (λ c. same (level_file file) ∙ (are.live file).0 c, λ e. (are.live file).1 (sym (same (level_file file)) ∙ e));
  once = are.once;
}

without_each : (set : LevelFile → Option NewFile) (files : List NewFile) (deleted : List LevelFile) → AreFilesOf set files
    → AreFilesOf (λ place. last_one (set place) (filter_map (left_by place) (map deleting deleted))) (fold files_without files deleted)
without_each set files [] are = are
without_each set files (at ∷ deleted) are =
    let next : LevelFile → Option NewFile = λ place. after_change (set place) (left_by place (deleting at)) in
    same_set (λ place. last_one (next place) (filter_map (left_by place) (map deleting deleted)))
    (λ place. last_one (set place) (filter_map (left_by place) (map deleting (at ∷ deleted)))) (fold files_without (files_without files at) deleted)
    (λ place. last_one-cons (set place) (left_by place (deleting at)) (filter_map (left_by place) (map deleting deleted)))
    (without_each next (files_without files at) deleted (without_one set files at are))

with_each : (set : LevelFile → Option NewFile) (files : List NewFile) (added : List NewFile) → AreFilesOf set files
    → AreFilesOf (λ place. last_one (set place) (filter_map (left_by place) (map adding added))) (fold files_with files added)
with_each set files [] are = are
with_each set files (x ∷ added) are =
    let next : LevelFile → Option NewFile = λ place. after_change (set place) (left_by place (adding x)) in
    same_set (λ place. last_one (next place) (filter_map (left_by place) (map adding added)))
    (λ place. last_one (set place) (filter_map (left_by place) (map adding (x ∷ added)))) (fold files_with (files_with files x) added)
    (λ place. last_one-cons (set place) (left_by place (adding x)) (filter_map (left_by place) (map adding added)))
    (with_each next (files_with files x) added (with_one set files x are))

last_one-append : {A : Type 0} (value : A) (xs ys : List A) → last_one value (xs ++ ys) ≡ last_one (last_one value xs) ys
last_one-append value [] ys = refl
last_one-append value (x ∷ xs) ys = last_one-append x xs ys

files_then : (edits : List Edit) (edit : Edit) (files : List NewFile) → ListsFiles (live_after edits) files → ListsFiles (live_after (edits ++ edit ∷ [])) (files_after edit files)
files_then edits edit files lists =
    let deletes : LevelFile → Option NewFile = λ place. last_one (live_at edits place) (filter_map (left_by place) (map deleting edit.deleted)) in
    let before : AreFilesOf (live_at edits) files = record { live = lists.live; once = lists.once } in
    let after = with_each deletes (fold files_without files edit.deleted) edit.added (without_each (live_at edits) files edit.deleted before) in
    let same : (at : LevelFile) → (live_after (edits ++ edit ∷ [])).file at ≡ last_one (deletes at) (filter_map (left_by at) (map adding edit.added))
    = λ at. (applies_in_order edits edit).file at
    ∙ ap (last_one (live_at edits at)) (filter_map-append (left_by at) (map deleting edit.deleted) (map adding edit.added))
    ∙ last_one-append (live_at edits at) (filter_map (left_by at) (map deleting edit.deleted)) (filter_map (left_by at) (map adding edit.added)) in
    let made = same_set (λ place. last_one (deletes place) (filter_map (left_by place) (map adding edit.added))) (live_after (edits ++ edit ∷ [])).file (files_after edit files) same after in
    record { live = made.live; once = made.once }

-- ---- pointers

-- the pointers without those of a level
abbrev without_level : ℕ → List Pointer → List Pointer
without_level level pointers = filter (λ it. not (it.level == level)) pointers

other_level : (gone level : ℕ) (pointer : Pointer) (rest : List Pointer) (here : Bool) → (pointer.level == gone) ≡ here → (gone == level) ≡ false
    → filter_map (key_for level) (without_level gone rest) ≡ filter_map (key_for level) rest
    → filter_map (key_for level) (cond (not here) (pointer ∷ without_level gone rest) (without_level gone rest)) ≡ cons_option (key_for level pointer) (filter_map (key_for level) rest)
other_level gone level pointer rest false e apart further = ap (cons_option (key_for level pointer)) further
other_level gone level pointer rest true e apart further =
    let none : key_for level pointer ≡ None = ap (λ z. if z then Some pointer.key else None) (subst (λ z. (z == level) ≡ false) (sym (eqb-true pointer.level gone e)) apart) in
    further ∙ sym (ap (λ z. cons_option z (filter_map (key_for level) rest)) none)

-- pointers of other levels stay
others_stay : (gone level : ℕ) (pointers : List Pointer) → (gone == level) ≡ false → filter_map (key_for level) (without_level gone pointers) ≡ filter_map (key_for level) pointers
others_stay gone level [] apart = refl
others_stay gone level (pointer ∷ rest) apart = other_level gone level pointer rest (pointer.level == gone) refl apart (others_stay gone level rest apart)

pointer_then : (level : ℕ) (pointers : List Pointer) (pointer : Pointer) (here : Bool) → (pointer.level == level) ≡ here
    → option_or (if here then Some pointer.key else None) (pointer_at (without_level pointer.level pointers) level) ≡ option_or (if here then Some pointer.key else None) (pointer_at pointers level)
pointer_then level pointers pointer true e = refl
pointer_then level pointers pointer false e = ap (last_or None) (others_stay pointer.level level pointers e)

pointer_with : (level : ℕ) (pointers : List Pointer) (pointer : Pointer) → pointer_at (pointers_with pointers pointer) level ≡ option_or (key_for level pointer) (pointer_at pointers level)
pointer_with level pointers pointer =
    ap (last_or None) (filter_map-append (key_for level) (without_level pointer.level pointers) (pointer ∷ []))
    ∙ last_or-append None (filter_map (key_for level) (without_level pointer.level pointers)) (cons_option (key_for level pointer) [])
    ∙ last_or-single (key_for level pointer) (pointer_at (without_level pointer.level pointers) level)
    ∙ pointer_then level pointers pointer (pointer.level == level) refl

pointers_then : (level : ℕ) (added pointers : List Pointer) → pointer_at (fold pointers_with pointers added) level ≡ last_or (pointer_at pointers level) (filter_map (key_for level) added)
pointers_then level [] pointers = refl
pointers_then level (pointer ∷ added) pointers =
    pointers_then level added (pointers_with pointers pointer)
    ∙ ap (λ z. last_or z (filter_map (key_for level) added)) (pointer_with level pointers pointer)
    ∙ sym (last_or-cons (pointer_at pointers level) (key_for level pointer) (filter_map (key_for level) added))

-- ---- the whole edit

-- what all was before one more edit becomes what all is after it
pub full_stays_full : (edits : List Edit) (full edit : Edit) → IsFullEdit (live_after edits) full → IsFullEdit (live_after (edits ++ edit ∷ [])) (full_after full edit)
full_stays_full edits full edit is =
    let applied = applies_in_order edits edit in
    record {
      comparator = ap (option_or edit.comparator) is.comparator ∙ sym applied.comparator;
      pointers = λ level. pointers_then level edit.pointers full.pointers
          ∙ last_or-start (pointer_at full.pointers level) (filter_map (key_for level) edit.pointers)
          ∙ ap (option_or (pointer_at edit.pointers level)) (is.pointers level)
          ∙ sym (applied.pointer level);
      deleted = is.deleted;
      added = files_then edits edit full.added is.added;
    }
