-- Tails that are allowed, listed and left, and that each crash is left by some.
use Rattle.std.proofs.Common.{◌≡◌, ◌||◌, ℕ, ◌+◌, ◌<◌, Bool, true, false, cond, List, [], ◌∷◌, ◌++◌, length, take, drop, get_or, Option, Some, None, is_some, String, string_bytes, Vec, refl, sym, ◌∙◌, ap, subst, ◌≤◌, map, IsSome, arith, ◌⊎◌, ⊎_elim, lit<, inl, inr, nat_lt, append_assoc, Less}
use Rattle.std.specs.Borrow.{Bor}
use Rattle.std.specs.Option.{option_copied, option_map, IsSomeAnd, unwrap_or}
use Rattle.std.specs.Cmp.Lexicographic.{nat_list_eq_equiv, bytes_decides, slice_cmp}
use Rattle.std.specs.List.{IsDistinct, AllByRecursion, list_any, Contains, All, filter_map, cons_option}
use Rattle.std.specs.Map.{lookup, keys_of}
use Rattle.std.specs.Str.{bytes_eq}
use Rattle.std.specs.declared.alloc.Global.{Global}
use Rattle.std.proofs.lemmas.List.{at_drop_more, take_more, take-append-drop, map-append}
use Rattle.std.proofs.lemmas.List.Elements.{All-nil, All-push, All-contains, Contains-append_right, All-contains_itself, All-map, All-weaker, All-head, All-tail}
use Rattle.std.proofs.lemmas.Map.Keys.{IsDistinct-push}
use Rattle.leveldb_env.specs.Env.{Files, File, kept_file, AreBytes, FileCrashesTo, FilesCrashTo, with_file}
use Rattle.leveldb_env.specs.Picks.{Tails, IsTailOf, IsAllowed, tails_of, tail_for, picked, CrashesByTails, ListsTails}
use Rattle.leveldb_env.proofs.MemEnvLemmas.{Contains-head, Contains-nil, Contains-cons, FileMap, AreNames, names_of, unique_names, key_named, Contains-tail, filter_map_source, Contains-filter_map, Entries, found_in}
use Rattle.std.specs.Set.{unique_keys}
use Rattle.std.proofs.lemmas.Map.Views.{Contains-from_lookup}
use Rattle.leveldb_env.specs.MemEnv.{files_of}
use Rattle.std.specs.BTreeMap.{is_at, IsOrdered}
use Rattle.std.specs.Ordering.{nat_cmp}
use Rattle.std.specs.List.Sorted.{IsStrictlySortedBy}
use Rattle.std.specs.String.{string_cmp}
use Rattle.std.proofs.lemmas.Bool.Decides.{nat_tests}

abbrev pub Given : Type 0
Given = String Global × Vec ℕ Global

-- the search for a name's tail goes past one that isn't it, and ends at one that is
pub next_tail : (name : List ℕ) (tails : List Given) (i : ℕ) (pick : Given) (b : Bool) → i < length tails → pick ≡ get_or tails i pick → bytes_eq name (string_bytes pick.0) ≡ b → lookup (bytes_eq name) (tails_of (drop i tails)) ≡ cond b (Some pick.1.items) (lookup (bytes_eq name) (tails_of (drop (i + 1) tails)))
next_tail name tails i pick b below is same =
    at_drop_more (λ (rest : List Given). lookup (bytes_eq name) (tails_of rest)) tails i pick below
    ∙ ap (λ (p : Given). lookup (bytes_eq name) (tails_of (p ∷ drop (i + 1) tails))) (sym is)
    ∙ ap (λ b. cond b (Some pick.1.items) (lookup (bytes_eq name) (tails_of (drop (i + 1) tails)))) same

-- ---- one tail after another

-- a tail is given for a name exactly where a search finds one
among_names : (name : List ℕ) (tails : Tails) → list_any (bytes_eq name) (keys_of tails) ≡ is_some (lookup (bytes_eq name) tails)
among_names name [] = refl
among_names name (pick ∷ tails) = next (bytes_eq name pick.0) (among_names name tails)
  where
    next : (b : Bool) → list_any (bytes_eq name) (keys_of tails) ≡ is_some (lookup (bytes_eq name) tails) → (b || list_any (bytes_eq name) (keys_of tails)) ≡ is_some (cond b (Some pick.1) (lookup (bytes_eq name) tails))
    next true later = refl
    next false later = later

pub allowed_none : (files : Files) → IsAllowed files []
unfolding IsDistinct
allowed_none files = record { each = All-nil (IsTailOf files); once = tt }

pub allowed_more : (files : Files) (tails : Tails) (pick : List ℕ × List ℕ) → IsAllowed files tails → IsTailOf files pick → lookup (bytes_eq pick.0) tails ≡ None → IsAllowed files (tails ++ pick ∷ [])
allowed_more files tails pick allowed fits new = record {
  each = All-push (IsTailOf files) tails pick allowed.each fits;
  once =
      let apart : list_any (bytes_eq pick.0) (keys_of tails) ≡ false = among_names pick.0 tails ∙ ap is_some new in
      subst (IsDistinct bytes_eq) (sym (map-append (λ (p : List ℕ × List ℕ). p.0) tails (pick ∷ []))) (IsDistinct-push nat_list_eq_equiv (keys_of tails) pick.0 allowed.once apart);
}

-- ---- one tail among the others

pub allowed_fits : (files : Files) (front back : Tails) (pick : List ℕ × List ℕ) → IsAllowed files (front ++ pick ∷ back) → IsTailOf files pick
allowed_fits files front back pick allowed = All-contains (IsTailOf files) (front ++ pick ∷ back) pick allowed.each (Contains-append_right front (pick ∷ back) pick (Contains-head pick back))

middle : {X : Type 0} (P : X → Type 0) (xs ys : List X) (y : X) → AllByRecursion P (xs ++ y ∷ ys) → P y
middle P [] ys y all = all.0
middle P (x ∷ xs) ys y all = middle P xs ys y all.1

apart_before : (names others : List (List ℕ)) (name : List ℕ) → IsDistinct bytes_eq (names ++ name ∷ others) → list_any (bytes_eq name) names ≡ false
unfolding IsDistinct
apart_before [] others name once = refl
apart_before (first ∷ names) others name once =
    let other : bytes_eq name first ≡ false = nat_list_eq_equiv.symm name first ∙ middle (λ y. bytes_eq first y ≡ false) names others name once.0 in
    ap (λ b. b || list_any (bytes_eq name) names) other ∙ apart_before names others name once.1

pub allowed_once : (files : Files) (front back : Tails) (pick : List ℕ × List ℕ) → IsAllowed files (front ++ pick ∷ back) → lookup (bytes_eq pick.0) front ≡ None
allowed_once files front back pick allowed =
    let names : IsDistinct bytes_eq (keys_of front ++ pick.0 ∷ keys_of back) = subst (IsDistinct bytes_eq) (map-append (λ (p : List ℕ × List ℕ). p.0) front (pick ∷ back)) allowed.once in
    none (lookup (bytes_eq pick.0) front) (sym (among_names pick.0 front) ∙ apart_before (keys_of front) (keys_of back) pick.0 names)
  where
    none : (o : Option (List ℕ)) → is_some o ≡ false → o ≡ None
    none None is = refl
    none (Some tail) is = absurd (cc is)

-- ---- as a program gives them

abbrev pub pick_of : Given → List ℕ × List ℕ
pick_of given = (string_bytes given.0, given.1.items)

module _ (tails : List Given) (i : ℕ) (given : Given) (below : i < length tails) (is : given ≡ get_or tails i given) where
  pub tails_up_to : tails_of (take (i + 1) tails) ≡ tails_of (take i tails) ++ pick_of given ∷ []
  tails_up_to =
      ap tails_of (take_more tails i given below)
      ∙ map-append pick_of (take i tails) (get_or tails i given ∷ [])
      ∙ ap (λ (g : Given). tails_of (take i tails) ++ pick_of g ∷ []) (sym is)

  pub tails_around : tails_of tails ≡ tails_of (take i tails) ++ pick_of given ∷ tails_of (drop (i + 1) tails)
  tails_around =
      ap tails_of (sym (take-append-drop i tails) ∙ ap (λ (rest : List Given). take i tails ++ rest) (at_drop_more (λ (rest : List Given). rest) tails i given below))
      ∙ map-append pick_of (take i tails) (get_or tails i given ∷ drop (i + 1) tails)
      ∙ ap (λ (g : Given). tails_of (take i tails) ++ pick_of g ∷ tails_of (drop (i + 1) tails)) (sym is)

-- a search that finds nothing
pub copied_none : (o : Option (Bor (List ℕ))) (r : Option (List ℕ)) → option_copied o ≡ r → is_some o ≡ false → r ≡ None
copied_none None r is none = sym is
copied_none (Some tail) r is none = absurd (cc none)

-- and one that finds something
pub copied_some : (o : Option (Bor (List ℕ))) (r : Option (List ℕ)) → option_copied o ≡ r → is_some o ≡ true → r ≡ None → ⊥
copied_some None r is some none = cc some
copied_some (Some tail) r is some none = cc (is ∙ none)

no_bytes : AreBytes []
no_bytes i = lit< tt

-- ---- what is picked

-- the tail that follows a file, if it is allowed
tail_fits : (files : Files) (tails : Tails) (name : List ℕ) (file : File) → IsAllowed files tails → files name ≡ Some file → (o : Option (List ℕ)) → lookup (bytes_eq name) tails ≡ o → AreBytes (unwrap_or o []) × (length (unwrap_or o []) ≤ length file.since)
tail_fits files tails name file allowed stands None is = (no_bytes, omega arith)
tail_fits files tails name file allowed stands (Some tail) is =
    let given : Contains tails (name, tail) = Contains-from_lookup (λ x y same. (bytes_decides x y).0 same) name tail tails is in
    let fits : IsTailOf files (name, tail) = All-contains (IsTailOf files) tails (name, tail) allowed.each given in
    (fits.bytes, subst (λ o. IsSomeAnd o (λ (f : File). length tail ≤ length f.since)) stands fits.fits)

pub FilesCrashTo-picked : (files : Files) (tails : Tails) → IsAllowed files tails → FilesCrashTo files (picked tails files)
FilesCrashTo-picked files tails allowed = λ name. at name (files name) refl
  where
    at : (name : List ℕ) (o : Option File) → files name ≡ o → FileCrashesTo o (option_map (λ (file : File). kept_file (file.kept ++ tail_for tails name)) o)
    at name None is = refl
    at name (Some file) is = let fits = tail_fits files tails name file allowed is (lookup (bytes_eq name) tails) refl in (tail_for tails name, fits.0, fits.1, refl)

-- ---- what is left

-- the tail that a crash left of a file
abbrev tail_left : (o left : Option File) → FileCrashesTo o left → List ℕ
tail_left None left leaves = []
tail_left (Some file) left leaves = leaves.0

left_is : (o left : Option File) (leaves : FileCrashesTo o left) → left ≡ option_map (λ file. kept_file (file.kept ++ tail_left o left leaves)) o
left_is None left leaves = leaves
left_is (Some file) left leaves = leaves.3

left_fits : (o left : Option File) (leaves : FileCrashesTo o left) → IsSome o → AreBytes (tail_left o left leaves) × IsSomeAnd o (λ file. length (tail_left o left leaves) ≤ length file.since)
left_fits None left leaves there = absurd (cc there)
left_fits (Some file) left leaves there = (leaves.1, leaves.2)

-- a tail made for each name is found under it
found_made : (t : List ℕ → List ℕ) (names : List (List ℕ)) (name : List ℕ) → Contains names name → lookup (bytes_eq name) (map (λ n. (n, t n)) names) ≡ Some (t name)
found_made t [] name among = absurd (Contains-nil name among)
found_made t (first ∷ names) name among = next (bytes_eq name first) refl (Contains-cons first names name among) (found_made t names name)
  where
    rest : Option (List ℕ)
    rest = lookup (bytes_eq name) (map (λ n. (n, t n)) names)

    next : (b : Bool) → bytes_eq name first ≡ b → (first ≡ name) ⊎ Contains names name → (Contains names name → rest ≡ Some (t name)) → cond b (Some (t first)) rest ≡ Some (t name)
    next true is among later = ap (λ n. Some (t n)) (sym ((bytes_decides name first).0 is))
    next false is among later = ⊎_elim (λ same. absurd (cc (sym is ∙ (bytes_decides name first).1 (sym same)))) later among

names_made : (t : List ℕ → List ℕ) (names : List (List ℕ)) → keys_of (map (λ n. (n, t n)) names) ≡ names
names_made t [] = refl
names_made t (first ∷ names) = ap (λ (rest : List (List ℕ)). first ∷ rest) (names_made t names)

module _ (files left : Files) (names : List (List ℕ)) (all : AreNames files names) (leaves : FilesCrashTo files left) where
  abbrev tail_at : List ℕ → List ℕ
  tail_at name = tail_left (files name) (left name) (leaves name)

  abbrev tails : Tails
  tails = map (λ name. (name, tail_at name)) names

  fits : (name : List ℕ) → Contains names name → IsTailOf files (name, tail_at name)
  fits name among = let f = left_fits (files name) (left name) (leaves name) ((all.there name).0 among) in record { bytes = f.0; fits = f.1 }

  tails_allowed : IsAllowed files tails
  tails_allowed = record {
    each = All-map (IsTailOf files) (λ name. (name, tail_at name)) names (All-weaker (Contains names) _ fits names (All-contains_itself names));
    once = subst (IsDistinct bytes_eq) (sym (names_made tail_at names)) all.once;
  }

  left_picked : left ≡ picked tails files
  left_picked = λ i name. at name i
    where
      same : (o : Option File) (a b : List ℕ) → (IsSome o → a ≡ b) → option_map (λ (file : File). kept_file (file.kept ++ a)) o ≡ option_map (λ (file : File). kept_file (file.kept ++ b)) o
      same None a b is = refl
      same (Some file) a b is = ap (λ (t : List ℕ). Some (kept_file (file.kept ++ t))) (is refl)

      at : (name : List ℕ) → left name ≡ picked tails files name
      at name =
          left_is (files name) (left name) (leaves name)
          ∙ same (files name) (tail_at name) (tail_for tails name) (λ there. sym (ap (λ o. unwrap_or o []) (found_made tail_at names name ((all.there name).1 there))))

  pub left_by_tails : (t : Tails) × IsAllowed files t × (left ≡ picked t files)
  left_by_tails = (tails, tails_allowed, left_picked)

-- the law, of any map
pub leaves_by_tails : (map : FileMap) → CrashesByTails (files_of map)
leaves_by_tails map = λ left leaves. left_by_tails (files_of map) left (unique_keys bytes_eq (names_of map)) (unique_names map) leaves

-- each entry is in the map
abbrev pub AllStand : FileMap → Entries → Type 0
AllStand files entries = All (λ e. files_of files (string_bytes e.0) ≡ Some e.1) entries

-- Each file that is there by now is as the tails say, and each of the others is still to come.
pub record Leaving (files : FileMap) (tails : Tails) (rest : Entries) (left : FileMap) : Type 0 where
  pub stand : AllStand files rest
  pub sound : (name : List ℕ) → (files_of left name ≡ None) ⊎ (files_of left name ≡ picked tails (files_of files) name)
  pub covers : (name : List ℕ) → IsSome (files_of files name) → IsSome (found_in rest name) ⊎ IsSome (files_of left name)

module _ (files : FileMap) (tails : Tails) where
  pub leaving_begins : (left : FileMap) → left.entries ≡ [] → AllStand files files.entries → Leaving files tails files.entries left
  leaving_begins left empty stand = record {
    stand = stand;
    sound = λ name. inl (ap (λ (entries : Entries). found_in entries name) empty);
    covers = λ name there. inl there;
  }

  -- the file as it is left
  abbrev pub left_file : List ℕ → File → File
  left_file name file = kept_file (file.kept ++ tail_for tails name)

  module _ (key : String Global) (file : File) (rest : Entries) (left left2 : FileMap) (put : files_of left2 ≡ with_file (string_bytes key) (Some (left_file (string_bytes key) file)) (files_of left)) where
    at_key : (name : List ℕ) (b : Bool) → bytes_eq (string_bytes key) name ≡ b → files_of left2 name ≡ cond b (Some (left_file (string_bytes key) file)) (files_of left name)
    at_key name b is = ap (λ (f : Files). f name) put ∙ ap (λ b. cond b (Some (left_file (string_bytes key) file)) (files_of left name)) is

    picked_key : files_of files (string_bytes key) ≡ Some file → (name : List ℕ) → string_bytes key ≡ name → Some (left_file (string_bytes key) file) ≡ picked tails (files_of files) name
    picked_key stands name is = ap (option_map (left_file (string_bytes key))) (sym stands) ∙ ap (picked tails (files_of files)) is

    sound_next : files_of files (string_bytes key) ≡ Some file → (name : List ℕ) (b : Bool) → bytes_eq (string_bytes key) name ≡ b → (files_of left name ≡ None) ⊎ (files_of left name ≡ picked tails (files_of files) name) → (files_of left2 name ≡ None) ⊎ (files_of left2 name ≡ picked tails (files_of files) name)
    sound_next stands name true is was = inr (at_key name true is ∙ picked_key stands name ((bytes_decides (string_bytes key) name).0 is))
    sound_next stands name false is was = ⊎_elim (λ none. inl (at_key name false is ∙ none)) (λ same. inr (at_key name false is ∙ same)) was

    stays : (name : List ℕ) (b : Bool) → bytes_eq (string_bytes key) name ≡ b → IsSome (files_of left name) → IsSome (files_of left2 name)
    stays name true is there = ap is_some (at_key name true is)
    stays name false is there = ap is_some (at_key name false is) ∙ there

    comes : (name : List ℕ) (b : Bool) → is_at (λ k. slice_cmp nat_cmp name (string_bytes k)) key ≡ b → IsSome (cond b (Some file) (found_in rest name)) → IsSome (found_in rest name) ⊎ IsSome (files_of left2 name)
    comes name true is there = inr (ap is_some (at_key name true ((bytes_decides (string_bytes key) name).1 (sym (key_named name key is)))))
    comes name false is there = inl there

    pub leaving_goes_on : Leaving files tails ((key, file) ∷ rest) left → Leaving files tails rest left2
    leaving_goes_on so_far = record {
      stand = All-tail (λ e. files_of files (string_bytes e.0) ≡ Some e.1) (key, file) rest so_far.stand;
      sound = λ name. sound_next (All-head (λ e. files_of files (string_bytes e.0) ≡ Some e.1) (key, file) rest so_far.stand) name (bytes_eq (string_bytes key) name) refl (so_far.sound name);
      covers = λ name there. ⊎_elim (comes name _ refl) (λ was. inr (stays name (bytes_eq (string_bytes key) name) refl was)) (so_far.covers name there);
    }

  pub leaving_ends : (left : FileMap) → Leaving files tails [] left → files_of left ≡ picked tails (files_of files)
  leaving_ends left all = λ i name. at name (files_of files name) refl (all.sound name) (all.covers name) i
    where
      at : (name : List ℕ) (o : Option File) → files_of files name ≡ o → (files_of left name ≡ None) ⊎ (files_of left name ≡ picked tails (files_of files) name) → (IsSome (files_of files name) → IsSome {T = File} None ⊎ IsSome (files_of left name)) → files_of left name ≡ picked tails (files_of files) name
      at name None is sound covers = ⊎_elim (λ none. none ∙ sym (ap (option_map (left_file name)) is)) (λ same. same) sound
      at name (Some file) is sound covers = ⊎_elim (λ none. ⊎_elim (λ no. absurd (cc no)) (λ there. absurd (cc (sym there ∙ ap is_some none))) (covers (ap is_some is))) (λ same. same) sound

-- the name of an entry, and what it has past its kept bytes
abbrev tail_of : String Global × File → List ℕ × List ℕ
tail_of entry = (string_bytes entry.0, entry.1.since)

-- that, if it has any
abbrev pub tail_in : String Global × File → Option (List ℕ × List ℕ)
tail_in entry = cond (nat_lt 0 (length entry.1.since)) (Some (tail_of entry)) None

abbrev pub tails_in : Entries → Tails
tails_in entries = filter_map tail_in entries

tail_from : (entry : String Global × File) (pick : List ℕ × List ℕ) → tail_in entry ≡ Some pick → (tail_of entry ≡ pick) × (0 < length pick.1)
tail_from entry pick is = by (nat_lt 0 (length entry.1.since)) refl is
  where
    by : (b : Bool) → nat_lt 0 (length entry.1.since) ≡ b → cond b (Some (tail_of entry)) None ≡ Some pick → (tail_of entry ≡ pick) × (0 < length pick.1)
    by false e is = absurd (cc is)
    by true e is =
        let same : tail_of entry ≡ pick = cc is in
        let long : 0 < length (tail_of entry).1 = grind (arith, nat_tests) in
        (same, subst (λ (p : List ℕ × List ℕ). 0 < length p.1) same long)

tail_to : (key : String Global) (file : File) (name tail : List ℕ) → string_bytes key ≡ name → file.since ≡ tail → 0 < length tail → tail_in (key, file) ≡ Some (name, tail)
tail_to key file name tail named is long =
    let some : nat_lt 0 (length tail) ≡ true = grind (arith, nat_tests) in
    let pick : List ℕ × List ℕ = (name, tail) in
    let same : tail_of (key, file) ≡ pick = λ i. (named i, is i) in
    (λ i. cond (nat_lt 0 (length (is i))) (Some (same i)) None) ∙ ap (λ b. cond b (Some pick) None) some

abbrev EntryOf : List ℕ → Entries → File → Type 0
EntryOf name entries file = (key : String Global) × Contains entries (key, file) × (string_bytes key ≡ name)

entry_next : (name : List ℕ) (entry : String Global × File) (entries : Entries) (file : File) (b : Bool) → is_at (λ k. slice_cmp nat_cmp name (string_bytes k)) entry.0 ≡ b → (found_in entries name ≡ Some file → EntryOf name entries file)
    → cond b (Some entry.1) (found_in entries name) ≡ Some file → EntryOf name (entry ∷ entries) file
entry_next name entry entries file true at later found =
    let same : entry.1 ≡ file = cc found in
    (entry.0, subst (λ (f : File). Contains (entry ∷ entries) (entry.0, f)) same (Contains-head entry entries), sym (key_named name entry.0 at))
entry_next name entry entries file false at later found = let rest = later found in (rest.0, Contains-tail entry entries (rest.0, file) rest.1, rest.2)

-- what a look-up finds is an entry of that name
found_entry : (name : List ℕ) (entries : Entries) (file : File) → found_in entries name ≡ Some file → EntryOf name entries file
found_entry name [] file found = absurd (cc found)
found_entry name (entry ∷ entries) file found = entry_next name entry entries file (is_at (λ k. slice_cmp nat_cmp name (string_bytes k)) entry.0) refl (found_entry name entries file) found

-- ---- in order of name

below_next : (key : String Global) (entry : String Global × File) (rest : Tails) (o : Option (List ℕ × List ℕ)) → tail_in entry ≡ o → string_cmp key entry.0 ≡ Less → AllByRecursion (λ name. slice_cmp nat_cmp (string_bytes key) name ≡ Less) (keys_of rest)
    → AllByRecursion (λ name. slice_cmp nat_cmp (string_bytes key) name ≡ Less) (keys_of (cons_option o rest))
below_next key entry rest None is below later = later
below_next key entry rest (Some tail) is below later = (subst (λ (name : List ℕ). slice_cmp nat_cmp (string_bytes key) name ≡ Less) (ap (λ (p : List ℕ × List ℕ). p.0) (tail_from entry tail is).0) below, later)

below_all : (key : String Global) (entries : Entries) → AllByRecursion (λ k. string_cmp key k ≡ Less) (keys_of entries) → AllByRecursion (λ name. slice_cmp nat_cmp (string_bytes key) name ≡ Less) (keys_of (tails_in entries))
below_all key [] below = tt
below_all key (entry ∷ entries) below = below_next key entry (tails_in entries) (tail_in entry) refl below.0 (below_all key entries below.1)

sorted_next : (entry : String Global × File) (rest : Tails) (o : Option (List ℕ × List ℕ)) → tail_in entry ≡ o → AllByRecursion (λ name. slice_cmp nat_cmp (string_bytes entry.0) name ≡ Less) (keys_of rest) → IsStrictlySortedBy (slice_cmp nat_cmp) (keys_of rest)
    → IsStrictlySortedBy (slice_cmp nat_cmp) (keys_of (cons_option o rest))
unfolding IsStrictlySortedBy
sorted_next entry rest None is above sorted = sorted
sorted_next entry rest (Some tail) is above sorted = (subst (λ (key : List ℕ). AllByRecursion (λ name. slice_cmp nat_cmp key name ≡ Less) (keys_of rest)) (ap (λ (p : List ℕ × List ℕ). p.0) (tail_from entry tail is).0) above, sorted)

tails_sorted : (entries : Entries) → IsStrictlySortedBy string_cmp (keys_of entries) → IsStrictlySortedBy (slice_cmp nat_cmp) (keys_of (tails_in entries))
unfolding IsStrictlySortedBy
tails_sorted [] sorted = tt
tails_sorted (entry ∷ entries) sorted = sorted_next entry (tails_in entries) (tail_in entry) refl (below_all entry.0 entries sorted.0) (tails_sorted entries sorted.1)

-- ---- all of them

module _ (map : FileMap) (stand : AllStand map map.entries) where
  listed : (name tail : List ℕ) → Contains (tails_in map.entries) (name, tail) → IsSomeAnd (files_of map name) (λ file. (file.since ≡ tail) × (0 < length tail))
  listed name tail among =
      let source = filter_map_source tail_in map.entries (name, tail) among in
      let entry : String Global × File = source.0 in
      let from = tail_from entry (name, tail) source.2 in
      let there : files_of map (string_bytes entry.0) ≡ Some entry.1 = All-contains (λ (e : String Global × File). files_of map (string_bytes e.0) ≡ Some e.1) map.entries entry stand source.1 in
      let at : files_of map name ≡ Some entry.1 = ap (λ (p : List ℕ × List ℕ). files_of map p.0) (sym from.0) ∙ there in
      subst (λ (o : Option File). IsSomeAnd o (λ file. (file.since ≡ tail) × (0 < length tail))) (sym at) (ap (λ (p : List ℕ × List ℕ). p.1) from.0, from.1)

  lists : (name tail : List ℕ) → IsSomeAnd (files_of map name) (λ file. (file.since ≡ tail) × (0 < length tail)) → Contains (tails_in map.entries) (name, tail)
  lists name tail has = by (files_of map name) refl has
    where
      by : (o : Option File) → files_of map name ≡ o → IsSomeAnd o (λ file. (file.since ≡ tail) × (0 < length tail)) → Contains (tails_in map.entries) (name, tail)
      by None is has = absurd has
      by (Some file) is has =
          let entry = found_entry name map.entries file is in
          Contains-filter_map tail_in map.entries (entry.0, file) (name, tail) entry.1 (tail_to entry.0 file name tail entry.2 has.0 has.1)

  pub ListsTails-tails_in : IsOrdered string_cmp map → ListsTails (files_of map) (tails_in map.entries)
  ListsTails-tails_in ordered = record {
    each = λ name tail. (listed name tail, lists name tail);
    in_order = tails_sorted map.entries ordered;
  }

-- ---- one entry after another

module _ (found : List (String Global × Vec ℕ Global)) (entry : String Global × File) (rest : Entries) (all : Tails) (so_far : tails_of found ++ tails_in (entry ∷ rest) ≡ all) where
  pub tail_pushed : (tail : String Global × Vec ℕ Global) → 0 < length entry.1.since → string_bytes tail.0 ≡ string_bytes entry.0 → tail.1.items ≡ entry.1.since → tails_of (found ++ tail ∷ []) ++ tails_in rest ≡ all
  tail_pushed tail long named is =
      let some : nat_lt 0 (length entry.1.since) ≡ true = grind (arith, nat_tests) in
      let pick : List ℕ × List ℕ = (string_bytes tail.0, tail.1.items) in
      let same : tail_of entry ≡ pick = λ i. (sym named i, sym is i) in
      let now : tail_in entry ≡ Some pick = ap (λ b. cond b (Some (tail_of entry)) None) some ∙ ap Some same in
      let pushed : tails_of (found ++ tail ∷ []) ≡ tails_of found ++ pick ∷ [] = map-append (λ (pick : String Global × Vec ℕ Global). (string_bytes pick.0, pick.1.items)) found (tail ∷ []) in
      ap (λ (tails : Tails). tails ++ tails_in rest) pushed
      ∙ append_assoc (tails_of found) (pick ∷ []) (tails_in rest)
      ∙ ap (λ o. tails_of found ++ cons_option o (tails_in rest)) (sym now)
      ∙ so_far

  pub tail_passed : length entry.1.since ≤ 0 → tails_of found ++ tails_in rest ≡ all
  tail_passed none =
      let no : nat_lt 0 (length entry.1.since) ≡ false = grind (arith, nat_tests) in
      ap (λ b. tails_of found ++ cons_option (cond b (Some (tail_of entry)) None) (tails_in rest)) (sym no) ∙ so_far
