-- What edits leave, one after another: which files are live, the same as a list, and one edit for
-- many.
use Rattle.std.proofs.Common.{◌≡◌, ◌⊎◌, inl, inr, ⊎_elim, if◌then◌else◌, ◌==◌, ◌&&◌, ◌||◌, ℕ, List, [], ◌∷◌, ◌++◌, map, Option, None, Some, All, Bool, true, false, refl, sym, ◌∙◌, ap, subst, append-nil, arith, ◌<◌, length, get_or}
use Rattle.std.specs.Prelude.{◌↔◌, flat_map, Contains, is_some, IsSome}
use Rattle.std.specs.List.{filter_map, cons_option, last_or, list_any, AllByRecursion, IsDistinct}
use Rattle.std.specs.Option.{option_or}
use Rattle.std.proofs.lemmas.Bool.{eqb-true, eq-eqb}
use Rattle.std.proofs.lemmas.List.Elements.{filter_map-append, All-nil, All-cons, All-head, All-tail}
use Rattle.std.proofs.lemmas.Grind.{flat_map-append}
use Rattle.std.proofs.lemmas.List.{get_or-map, length-map}
use Rattle.leveldb_base.proofs.HistoryLemmas.{in_none, in_front, in_rest, in_cases}
use Rattle.leveldb_files.specs.Edits.Edit.{LevelFile, Pointer, NewFile, Edit}
use Rattle.leveldb_files.specs.Edits.VersionSet.{FileChange, deleting, adding, file_changes, level_file, is_same_file, left_by, key_for, last_one, live_at, pointer_at, last_set, live_after, Applied, IsLive, ListsFiles, lasting_files, live_files, pointers_left, IsFullEdit, full_edit, SameFiles, SameNumbers, HasNumbers}

-- ---- edits one after another

last_one-append : {A : Type 0} (value : A) (xs ys : List A) → last_one value (xs ++ ys) ≡ last_one (last_one value xs) ys
last_one-append value [] ys = refl
last_one-append value (x ∷ xs) ys = last_one-append x xs ys

file_after : (edits more : List Edit) (at : LevelFile) → live_at (edits ++ more) at ≡ last_one (live_at edits at) (filter_map (left_by at) (flat_map file_changes more))
file_after edits more at =
    ap (λ z. last_one None (filter_map (left_by at) z)) (flat_map-append file_changes edits more)
    ∙ ap (last_one None) (filter_map-append (left_by at) (flat_map file_changes edits) (flat_map file_changes more))
    ∙ last_one-append None (filter_map (left_by at) (flat_map file_changes edits)) (filter_map (left_by at) (flat_map file_changes more))

pub last_or-append : {A : Type 0} (value : Option A) (xs ys : List A) → last_or value (xs ++ ys) ≡ last_or (last_or value xs) ys
last_or-append value [] ys = refl
last_or-append value (x ∷ xs) ys = last_or-append (Some x) xs ys

pub last_or-single : {A : Type 0} (next value : Option A) → last_or value (cons_option next []) ≡ option_or next value
last_or-single None value = refl
last_or-single (Some x) value = refl

value_after : {A : Type 0} (value : Edit → Option A) (edits more : List Edit) → last_set value (edits ++ more) ≡ last_or (last_set value edits) (filter_map value more)
value_after value edits more = ap (last_or None) (filter_map-append value edits more) ∙ last_or-append None (filter_map value edits) (filter_map value more)

value_after_one : {A : Type 0} (value : Edit → Option A) (edits : List Edit) (edit : Edit) → last_set value (edits ++ edit ∷ []) ≡ option_or (value edit) (last_set value edits)
value_after_one value edits edit = value_after value edits (edit ∷ []) ∙ last_or-single (value edit) (last_set value edits)

-- the compaction pointers of edits
abbrev pointers_of : List Edit → List Pointer
pointers_of edits = flat_map (λ edit. edit.pointers) edits

pointer_after : (edits more : List Edit) (level : ℕ) → pointer_at (pointers_of (edits ++ more)) level ≡ last_or (pointer_at (pointers_of edits) level) (filter_map (key_for level) (pointers_of more))
pointer_after edits more level =
    ap (λ z. pointer_at z level) (flat_map-append (λ (edit : Edit). edit.pointers) edits more)
    ∙ ap (last_or None) (filter_map-append (key_for level) (pointers_of edits) (pointers_of more))
    ∙ last_or-append None (filter_map (key_for level) (pointers_of edits)) (filter_map (key_for level) (pointers_of more))

last_or_some : {A : Type 0} (o : Option A) (x : A) (xs : List A) → option_or (last_or (Some x) xs) o ≡ last_or (Some x) xs
last_or_some o x [] = refl
last_or_some o x (y ∷ xs) = last_or_some o y xs

-- the last of some values, or the one before them
pub last_or-start : {A : Type 0} (o : Option A) (xs : List A) → last_or o xs ≡ option_or (last_or None xs) o
last_or-start o [] = refl
last_or-start o (x ∷ xs) = sym (last_or_some o x xs)

pub applies_in_order : (edits : List Edit) (edit : Edit) → Applied edit (live_after edits) (live_after (edits ++ edit ∷ []))
applies_in_order edits edit = record {
  file = λ at. file_after edits (edit ∷ []) at ∙ ap (λ z. last_one (live_at edits at) (filter_map (left_by at) z)) (append-nil (file_changes edit));
  pointer = λ level. pointer_after edits (edit ∷ []) level
      ∙ last_or-start (pointer_at (pointers_of edits) level) (filter_map (key_for level) (pointers_of (edit ∷ [])))
      ∙ ap (λ z. option_or (pointer_at z level) (pointer_at (pointers_of edits) level)) (append-nil edit.pointers);
  comparator = value_after_one (λ it. it.comparator) edits edit;
  log_number = value_after_one (λ it. it.log_number) edits edit;
  previous_log = value_after_one (λ it. it.previous_log) edits edit;
  next_file = value_after_one (λ it. it.next_file) edits edit;
  last_sequence = value_after_one (λ it. it.last_sequence) edits edit;
}

-- ---- the last of what a test finds

-- what was found last is in the list, and nothing is found after it
record IsFoundLast {X Y : Type 0} (h : X → Option Y) (xs : List X) (value : Y) : Type 0 where
  before : List X
  last : X
  later : List X
  parts : xs ≡ before ++ last ∷ later
  found : h last ≡ Some value
  rest : All (λ x. h x ≡ None) later

-- nothing is found, or something is found last
abbrev Finds : {X Y : Type 0} → (X → Option Y) → Y → List X → Y → Type 0
Finds h value xs found = ((found ≡ value) × All (λ x. h x ≡ None) xs) ⊎ IsFoundLast h xs found

found_after_one : {X Y : Type 0} (h : X → Option Y) (x : X) (xs : List X) (value : Y) → IsFoundLast h xs value → IsFoundLast h (x ∷ xs) value
found_after_one h x xs value it = record { before = x ∷ it.before; last = it.last; later = it.later; parts = ap (λ z. x ∷ z) it.parts; found = it.found; rest = it.rest }

finds_after : {X Y : Type 0} (h : X → Option Y) (value : Y) (x : X) (xs : List X) (found : Y) (o : Option Y) → h x ≡ o
    → ((start : Y) → last_one start (filter_map h xs) ≡ found → Finds h start xs found)
    → last_one value (cons_option o (filter_map h xs)) ≡ found → Finds h value (x ∷ xs) found
finds_after h value x xs found None e further same =
    elim (further value same) [
      | inl none ↦ inl (none.0, All-cons (λ z. h z ≡ None) x xs e none.1)
      | inr it ↦ inr (found_after_one h x xs found it)
    ]
finds_after h value x xs found (Some y) e further same =
    elim (further y same) [
      | inl none ↦ inr (record { before = []; last = x; later = xs; parts = refl; found = e ∙ ap (λ z. Some z) (sym none.0); rest = none.1 })
      | inr it ↦ inr (found_after_one h x xs found it)
    ]

finds : {X Y : Type 0} (h : X → Option Y) (value : Y) (xs : List X) (found : Y) → last_one value (filter_map h xs) ≡ found → Finds h value xs found
finds h value [] found same = inl (sym same, All-nil (λ x. h x ≡ None))
finds h value (x ∷ xs) found same = finds_after h value x xs found (h x) refl (λ start. finds h start xs found) same

nothing_found : {X Y : Type 0} (h : X → Option Y) (xs : List X) → All (λ x. h x ≡ None) xs → filter_map h xs ≡ []
nothing_found h [] all = refl
nothing_found h (x ∷ xs) all =
    ap (λ z. cons_option z (filter_map h xs)) (All-head (λ z. h z ≡ None) x xs all) ∙ nothing_found h xs (All-tail (λ z. h z ≡ None) x xs all)

found_last : {X Y : Type 0} (h : X → Option Y) (value : Y) (before : List X) (x : X) (later : List X) (found : Y) → h x ≡ Some found → All (λ z. h z ≡ None) later
    → last_one value (filter_map h (before ++ x ∷ later)) ≡ found
found_last h value before x later found e none =
    ap (last_one value) (filter_map-append h before (x ∷ later))
    ∙ last_one-append value (filter_map h before) (cons_option (h x) (filter_map h later))
    ∙ ap (λ z. last_one (last_one value (filter_map h before)) (cons_option z (filter_map h later))) e
    ∙ ap (last_one found) (nothing_found h later none)

-- ---- live files

pub none_is_some : {A : Type 0} {a : A} → None ≡ Some a → ⊥
none_is_some e = cc

deleted_leaves_none : (same : Bool) (file : NewFile) → (if same then Some None else None) ≡ Some (Some file) → ⊥
deleted_leaves_none true file e = cc
deleted_leaves_none false file e = cc

added_leaves_it : (same : Bool) (it file : NewFile) → (if same then Some (Some it) else None) ≡ Some (Some file) → it ≡ file
added_leaves_it true it file e = cc
added_leaves_it false it file e = absurd (none_is_some e)

pub is_same_file-refl : (at : LevelFile) → is_same_file at at ≡ true
is_same_file-refl at = ap (λ z. z && (at.1 == at.1)) (eq-eqb at.0 at.0 refl) ∙ eq-eqb at.1 at.1 refl

-- only the addition of a file leaves it
leaves_its_own : (at : LevelFile) (change : FileChange) (file : NewFile) → left_by at change ≡ Some (Some file) → change ≡ adding file
leaves_its_own at (deleting it) file e = absurd (deleted_leaves_none (is_same_file it at) file e)
leaves_its_own at (adding it) file e = ap adding (added_leaves_it (is_same_file (level_file it) at) it file e)

-- a file's own addition leaves it
leaves_it : (file : NewFile) → left_by (level_file file) (adding file) ≡ Some (Some file)
leaves_it file = ap (λ z. if z then Some (Some file) else None) (is_same_file-refl (level_file file))

live_was_added : (edits : List Edit) (file : NewFile) → live_at edits (level_file file) ≡ Some file → IsLive edits file
live_was_added edits file e =
    elim (finds (left_by (level_file file)) None (flat_map file_changes edits) (Some file) e) [
      | inl none ↦ absurd (none_is_some (sym none.0))
      | inr it ↦ record {
        before = it.before;
        later = it.later;
        added = it.parts ∙ ap (λ z. it.before ++ z ∷ it.later) (leaves_its_own (level_file file) it.last file it.found);
        kept = it.rest;
      }
    ]

added_is_live : (edits : List Edit) (file : NewFile) → IsLive edits file → live_at edits (level_file file) ≡ Some file
added_is_live edits file it =
    ap (λ z. last_one None (filter_map (left_by (level_file file)) z)) it.added
    ∙ found_last (left_by (level_file file)) None it.before (adding file) it.later (Some file) (leaves_it file) it.kept

pub live_is_added_last : (edits : List Edit) (file : NewFile) → (live_at edits (level_file file) ≡ Some file) ↔ IsLive edits file
live_is_added_last edits file = (live_was_added edits file, added_is_live edits file)

-- ---- the live files as a list

and_true : (a b : Bool) → (a && b) ≡ true → (a ≡ true) × (b ≡ true)
and_true true b e = (refl, e)
and_true false b e = absurd (cc)

or_false : (a b : Bool) → (a || b) ≡ false → (a ≡ false) × (b ≡ false)
or_false true b e = absurd (cc)
or_false false b e = (refl, e)

same_is_equal : (a b : LevelFile) → is_same_file a b ≡ true → a ≡ b
same_is_equal a b e =
    let both = and_true (a.0 == b.0) (a.1 == b.1) e in
    let made : ℕ → ℕ → LevelFile = λ level number. (level, number) in
    ap (λ z. made z a.1) (eqb-true a.0 b.0 both.0) ∙ ap (made b.0) (eqb-true a.1 b.1 both.1)

-- two levels and numbers that aren't the same aren't so the other way round either
not_same_again : (a b : LevelFile) (same : Bool) → is_same_file b a ≡ same → is_same_file a b ≡ false → same ≡ false
not_same_again a b false e other = refl
not_same_again a b true e other =
    let back : is_same_file a b ≡ true = subst (λ z. is_same_file z b ≡ true) (same_is_equal b a e) (is_same_file-refl b) in
    absurd (let never : true ≡ false = sym back ∙ other in cc)

pub not_same : (a b : LevelFile) → is_same_file a b ≡ false → is_same_file b a ≡ false
not_same a b other = not_same_again a b (is_same_file b a) refl other

-- whether one of the changes is at this level and number
abbrev is_changed : LevelFile → List FileChange → Bool
is_changed at later = list_any (λ change. is_some (left_by at change)) later

none_from_test : {A : Type 0} (o : Option A) → is_some o ≡ false → o ≡ None
none_from_test None e = refl
none_from_test (Some x) e = absurd (cc)

unchanged_leaves_none : (at : LevelFile) (later : List FileChange) → is_changed at later ≡ false → All (λ change. left_by at change ≡ None) later
unchanged_leaves_none at [] e = All-nil (λ change. left_by at change ≡ None)
unchanged_leaves_none at (change ∷ later) e =
    let both = or_false (is_some (left_by at change)) (is_changed at later) e in
    All-cons (λ z. left_by at z ≡ None) change later (none_from_test (left_by at change) both.0) (unchanged_leaves_none at later both.1)

none_left_is_unchanged : (at : LevelFile) (later : List FileChange) → All (λ change. left_by at change ≡ None) later → is_changed at later ≡ false
none_left_is_unchanged at [] all = refl
none_left_is_unchanged at (change ∷ later) all =
    ap (λ z. is_some z || is_changed at later) (All-head (λ z. left_by at z ≡ None) change later all)
    ∙ none_left_is_unchanged at later (All-tail (λ z. left_by at z ≡ None) change later all)

-- the changes add the file, and no later one of them is of its level and number
abbrev IsLeft : List FileChange → NewFile → Type 0
IsLeft all file = (before : List FileChange) × (later : List FileChange) × (all ≡ before ++ adding file ∷ later) × All (λ change. left_by (level_file file) change ≡ None) later

left_after : (change : FileChange) (later : List FileChange) (file : NewFile) → IsLeft later file → IsLeft (change ∷ later) file
left_after change later file it = (change ∷ it.0, it.1, ap (λ z. change ∷ z) it.2, it.3)

left_here : (x file : NewFile) (later : List FileChange) → is_changed (level_file x) later ≡ false → x ≡ file → IsLeft (adding x ∷ later) file
left_here x file later e same =
    let P : NewFile → Type 0 = λ z. All (λ change. left_by (level_file z) change ≡ None) later in
    ([], later, ap (λ z. adding z ∷ later) same, subst P same (unchanged_leaves_none (level_file x) later e))

listed_there : (x file : NewFile) (later : List FileChange) (changed : Bool) → is_changed (level_file x) later ≡ changed → (Contains (lasting_files later) file → IsLeft later file)
    → Contains (if changed then lasting_files later else x ∷ lasting_files later) file → IsLeft (adding x ∷ later) file
listed_there x file later true e further c = left_after (adding x) later file (further c)
listed_there x file later false e further c = ⊎_elim
    (λ (same : x ≡ file). left_here x file later e same)
    (λ (rest : Contains (lasting_files later) file). left_after (adding x) later file (further rest))
    (in_cases x file (lasting_files later) c)

listed_is_left : (all : List FileChange) (file : NewFile) → Contains (lasting_files all) file → IsLeft all file
listed_is_left [] file c = absurd (in_none file c)
listed_is_left (deleting at ∷ later) file c = left_after (deleting at) later file (listed_is_left later file c)
listed_is_left (adding x ∷ later) file c = listed_there x file later (is_changed (level_file x) later) refl (listed_is_left later file) c

stays_listed : (x file : NewFile) (files : List NewFile) (changed : Bool) → Contains files file → Contains (if changed then files else x ∷ files) file
stays_listed x file files true c = c
stays_listed x file files false c = in_rest x file files c

left_is_listed : (before later : List FileChange) (file : NewFile) → All (λ change. left_by (level_file file) change ≡ None) later → Contains (lasting_files (before ++ adding file ∷ later)) file
left_is_listed [] later file kept =
    let P : Bool → Type 0 = λ changed. Contains (if changed then lasting_files later else file ∷ lasting_files later) file in
    subst P (sym (none_left_is_unchanged (level_file file) later kept)) (in_front file (lasting_files later))
left_is_listed (deleting at ∷ before) later file kept = left_is_listed before later file kept
left_is_listed (adding x ∷ before) later file kept =
    stays_listed x file (lasting_files (before ++ adding file ∷ later)) (is_changed (level_file x) (before ++ adding file ∷ later)) (left_is_listed before later file kept)

-- ---- each once

-- none of the files is of this level and number
abbrev AreApart : LevelFile → List NewFile → Type 0
AreApart at files = AllByRecursion (λ other. is_same_file at other ≡ false) (map level_file files)

not_there : (at : LevelFile) (x : NewFile) (same : Bool) → is_same_file (level_file x) at ≡ same → is_some (if same then Some (Some x) else None) ≡ false → is_same_file at (level_file x) ≡ false
not_there at x true e none = absurd (cc)
not_there at x false e none = not_same (level_file x) at e

still_apart : (at : LevelFile) (x : NewFile) (files : List NewFile) (changed : Bool) → is_same_file at (level_file x) ≡ false → AreApart at files → AreApart at (if changed then files else x ∷ files)
still_apart at x files true other apart = apart
still_apart at x files false other apart = (other, apart)

unchanged_are_apart : (at : LevelFile) (later : List FileChange) → is_changed at later ≡ false → AreApart at (lasting_files later)
unchanged_are_apart at [] e = tt
unchanged_are_apart at (deleting file ∷ later) e = unchanged_are_apart at later (or_false (is_some (left_by at (deleting file))) (is_changed at later) e).1
unchanged_are_apart at (adding x ∷ later) e =
    let both = or_false (is_some (left_by at (adding x))) (is_changed at later) e in
    still_apart at x (lasting_files later) (is_changed (level_file x) later) (not_there at x (is_same_file (level_file x) at) refl both.0) (unchanged_are_apart at later both.1)

once_more : (x : NewFile) (files : List NewFile) (changed : Bool) → (changed ≡ false → AreApart (level_file x) files) → IsDistinct is_same_file (map level_file files)
    → IsDistinct is_same_file (map level_file (if changed then files else x ∷ files))
unfolding IsDistinct
once_more x files true apart once = once
once_more x files false apart once = (apart refl, once)

each_once : (all : List FileChange) → IsDistinct is_same_file (map level_file (lasting_files all))
unfolding IsDistinct
each_once [] = tt
each_once (deleting file ∷ later) = each_once later
each_once (adding x ∷ later) = once_more x (lasting_files later) (is_changed (level_file x) later) (unchanged_are_apart (level_file x) later) (each_once later)

-- the list of live files has them all, and each once
pub lists_live_files : (edits : List Edit) → ListsFiles (live_after edits) (live_files edits)
lists_live_files edits = record {
  live = λ file. (
    λ c. let it = listed_is_left (flat_map file_changes edits) file c in added_is_live edits file (record { before = it.0; later = it.1; added = it.2; kept = it.3 }),
    λ e. let it = live_was_added edits file e in
        let P : List FileChange → Type 0 = λ z. Contains (lasting_files z) file in
        subst P (sym it.added) (left_is_listed it.before it.later file it.kept),
  );
  once = each_once (flat_map file_changes edits);
}

-- ---- one edit for many

place_again : (at : LevelFile) (it file : NewFile) (same : Bool) → is_same_file (level_file it) at ≡ same → (if same then Some (Some it) else None) ≡ Some (Some file) → level_file file ≡ at
place_again at it file true e found = let same : it ≡ file = cc in ap level_file (sym same) ∙ same_is_equal (level_file it) at e
place_again at it file false e found = absurd (none_is_some found)

place_of : (at : LevelFile) (change : FileChange) (file : NewFile) → left_by at change ≡ Some (Some file) → level_file file ≡ at
place_of at (deleting it) file e = absurd (deleted_leaves_none (is_same_file it at) file e)
place_of at (adding it) file e = place_again at it file (is_same_file (level_file it) at) refl e

-- a file that is live at a level and a number has these
pub live_is_there : (edits : List Edit) (at : LevelFile) (file : NewFile) → live_at edits at ≡ Some file → level_file file ≡ at
live_is_there edits at file e =
    elim (finds (left_by at) None (flat_map file_changes edits) (Some file) e) [
      | inl none ↦ absurd (none_is_some (sym none.0))
      | inr it ↦ place_of at it.last file it.found
    ]

same_option : {A : Type 0} (a b : Option A) → ((x : A) → a ≡ Some x → b ≡ Some x) → ((x : A) → b ≡ Some x → a ≡ Some x) → a ≡ b
same_option (Some x) b there back = sym (there x refl)
same_option None (Some y) there back = back y refl
same_option None None there back = refl

listed_in_both : (some others : List Edit) (files : List NewFile) → ListsFiles (live_after some) files → ListsFiles (live_after others) files
    → (at : LevelFile) (file : NewFile) → live_at some at ≡ Some file → live_at others at ≡ Some file
listed_in_both some others files these those at file e =
    let there = live_is_there some at file e in
    let From : LevelFile → Type 0 = λ z. live_at some z ≡ Some file in
    let To : LevelFile → Type 0 = λ z. live_at others z ≡ Some file in
    subst To there ((those.live file).0 ((these.live file).1 (subst From (sym there) e)))

-- edits whose live files have one list have the same live files
pub one_list_one_set : (some others : List Edit) (files : List NewFile) → ListsFiles (live_after some) files → ListsFiles (live_after others) files
    → (at : LevelFile) → live_at some at ≡ live_at others at
one_list_one_set some others files these those at =
    same_option (live_at some at) (live_at others at) (listed_in_both some others files these those at) (listed_in_both others some files those these at)

apart_is_unchanged : (at : LevelFile) (files : List NewFile) → AreApart at files → is_changed at (map adding files) ≡ false
apart_is_unchanged at [] apart = refl
apart_is_unchanged at (x ∷ files) apart =
    ap (λ same. is_some (if same then Some (Some x) else None) || is_changed at (map adding files)) (not_same at (level_file x) apart.0)
    ∙ apart_is_unchanged at files apart.1

-- what adds files, each once, leaves these
added_once : (files : List NewFile) → IsDistinct is_same_file (map level_file files) → lasting_files (map adding files) ≡ files
unfolding IsDistinct
added_once [] once = refl
added_once (x ∷ files) once =
    ap (λ changed. if changed then lasting_files (map adding files) else x ∷ lasting_files (map adding files)) (apart_is_unchanged (level_file x) files once.0)
    ∙ ap (λ z. x ∷ z) (added_once files once.1)

module _ (edits : List Edit) (edit : Edit) (is : IsFullEdit (live_after edits) edit) where
  leaves_added : live_files (edit ∷ []) ≡ edit.added
  leaves_added =
      ap lasting_files (append-nil (file_changes edit))
      ∙ ap (λ z. lasting_files (map deleting z ++ map adding edit.added)) is.deleted
      ∙ added_once edit.added is.added.once

  file_of_one : (at : LevelFile) → live_at (edit ∷ []) at ≡ live_at edits at
  file_of_one at =
      let P : List NewFile → Type 0 = ListsFiles (live_after (edit ∷ [])) in
      one_list_one_set (edit ∷ []) edits edit.added (subst P leaves_added (lists_live_files (edit ∷ []))) is.added at

  pointer_of_one : (level : ℕ) → pointer_at (pointers_of (edit ∷ [])) level ≡ pointer_at (pointers_of edits) level
  pointer_of_one level = ap (λ z. pointer_at z level) (append-nil edit.pointers) ∙ is.pointers level

  comparator_of_one : last_set (λ it. it.comparator) (edit ∷ []) ≡ last_set (λ it. it.comparator) edits
  comparator_of_one = last_or-single edit.comparator None ∙ or_none edit.comparator ∙ is.comparator
    where
      or_none : {A : Type 0} (o : Option A) → option_or o None ≡ o
      or_none None = refl
      or_none (Some x) = refl

  -- whatever edits follow, the one edit may take the place of those before them
  pub full_edit_replaces : (more : List Edit) → SameFiles (live_after (edit ∷ more)) (live_after (edits ++ more))
  full_edit_replaces more = record {
    file = λ at. file_after (edit ∷ []) more at
        ∙ ap (λ z. last_one z (filter_map (left_by at) (flat_map file_changes more))) (file_of_one at)
        ∙ sym (file_after edits more at);
    pointer = λ level. pointer_after (edit ∷ []) more level
        ∙ ap (λ z. last_or z (filter_map (key_for level) (pointers_of more))) (pointer_of_one level)
        ∙ sym (pointer_after edits more level);
    comparator = value_after (λ it. it.comparator) (edit ∷ []) more
        ∙ ap (λ z. last_or z (filter_map (λ (it : Edit). it.comparator) more)) comparator_of_one
        ∙ sym (value_after (λ it. it.comparator) edits more);
  }

-- ---- numbers

some_or : {A : Type 0} (o p : Option A) → IsSome o → option_or o p ≡ o
some_or None p some = absurd (cc)
some_or (Some x) p some = refl

set_later : {A : Type 0} (value : Edit → Option A) (before more : List Edit) → IsSome (last_set value more) → last_set value (before ++ more) ≡ last_set value more
set_later value before more some =
    value_after value before more ∙ last_or-start (last_set value before) (filter_map value more) ∙ some_or (last_set value more) (last_set value before) some

-- numbers that later edits set are the same whatever was before
pub numbers_set_later : (some others more : List Edit) → HasNumbers (live_after more) → SameNumbers (live_after (some ++ more)) (live_after (others ++ more))
numbers_set_later some others more has = record {
  log_number = set_later (λ it. it.log_number) some more has.log_number ∙ sym (set_later (λ it. it.log_number) others more has.log_number);
  previous_log = set_later (λ it. it.previous_log) some more has.previous_log ∙ sym (set_later (λ it. it.previous_log) others more has.previous_log);
  next_file = set_later (λ it. it.next_file) some more has.next_file ∙ sym (set_later (λ it. it.next_file) others more has.next_file);
  last_sequence = set_later (λ it. it.last_sequence) some more has.last_sequence ∙ sym (set_later (λ it. it.last_sequence) others more has.last_sequence);
}

-- ---- there is such an edit

-- whether one of the pointers is of this level
abbrev is_pointed : ℕ → List Pointer → Bool
is_pointed level later = list_any (λ next. is_some (key_for level next)) later

pub last_or-cons : {A : Type 0} (o p : Option A) (xs : List A) → last_or o (cons_option p xs) ≡ last_or (option_or p o) xs
last_or-cons o None xs = refl
last_or-cons o (Some x) xs = refl

pointed_step : (level : ℕ) (later : List Pointer) (key o p : Option (List ℕ)) → (is_pointed level later ≡ true → last_or o (filter_map (key_for level) later) ≡ last_or p (filter_map (key_for level) later))
    → (is_some key || is_pointed level later) ≡ true → last_or (option_or key o) (filter_map (key_for level) later) ≡ last_or (option_or key p) (filter_map (key_for level) later)
pointed_step level later (Some key) o p further e = refl
pointed_step level later None o p further e = further e

-- after a pointer of the level it doesn't matter what was before
pointed_again : (level : ℕ) (later : List Pointer) (o p : Option (List ℕ)) → is_pointed level later ≡ true → last_or o (filter_map (key_for level) later) ≡ last_or p (filter_map (key_for level) later)
pointed_again level [] o p e = absurd (cc)
pointed_again level (next ∷ later) o p e =
    last_or-cons o (key_for level next) (filter_map (key_for level) later)
    ∙ pointed_step level later (key_for level next) o p (pointed_again level later o p) e
    ∙ sym (last_or-cons p (key_for level next) (filter_map (key_for level) later))

-- a pointer that a later one replaces sets nothing
replaced : (level : ℕ) (pointer : Pointer) (later : List Pointer) (same : Bool) (o : Option (List ℕ)) → (pointer.level == level) ≡ same → is_pointed pointer.level later ≡ true
    → last_or o (filter_map (key_for level) later) ≡ last_or (option_or (if same then Some pointer.key else None) o) (filter_map (key_for level) later)
replaced level pointer later false o e pointed = refl
replaced level pointer later true o e pointed =
    let P : ℕ → Type 0 = λ z. is_pointed z later ≡ true in
    pointed_again level later o (Some pointer.key) (subst P (eqb-true pointer.level level e) pointed)

left_step : (level : ℕ) (pointer : Pointer) (later : List Pointer) (pointed : Bool) (o : Option (List ℕ)) → is_pointed pointer.level later ≡ pointed
    → ((start : Option (List ℕ)) → last_or start (filter_map (key_for level) (pointers_left later)) ≡ last_or start (filter_map (key_for level) later))
    → last_or o (filter_map (key_for level) (if pointed then pointers_left later else pointer ∷ pointers_left later)) ≡ last_or o (filter_map (key_for level) (pointer ∷ later))
left_step level pointer later true o e further =
    further o
    ∙ replaced level pointer later (pointer.level == level) o refl e
    ∙ sym (last_or-cons o (key_for level pointer) (filter_map (key_for level) later))
left_step level pointer later false o e further =
    last_or-cons o (key_for level pointer) (filter_map (key_for level) (pointers_left later))
    ∙ further (option_or (key_for level pointer) o)
    ∙ sym (last_or-cons o (key_for level pointer) (filter_map (key_for level) later))

left_point_alike : (level : ℕ) (pointers : List Pointer) (o : Option (List ℕ)) → last_or o (filter_map (key_for level) (pointers_left pointers)) ≡ last_or o (filter_map (key_for level) pointers)
left_point_alike level [] o = refl
left_point_alike level (pointer ∷ later) o = left_step level pointer later (is_pointed pointer.level later) o refl (left_point_alike level later)

pub full_edit_is_full : (edits : List Edit) → IsFullEdit (live_after edits) (full_edit edits)
full_edit_is_full edits = record {
  comparator = refl;
  pointers = λ level. left_point_alike level (pointers_of edits) None;
  deleted = refl;
  added = lists_live_files edits;
}

-- ---- keys

-- what holds of all values of a list's elements holds of one element's
pub holds_of_element : {X Y : Type 0} (P : Y → Type 0) (f : X → Y) (xs : List X) (i : ℕ) (d : X) → i < length xs → All P (map f xs) → P (f (get_or xs i d))
holds_of_element P f xs i d there all = subst P (get_or-map f xs i d (f d) there) (all i (f d) (omega (arith, there, length-map xs f)))
