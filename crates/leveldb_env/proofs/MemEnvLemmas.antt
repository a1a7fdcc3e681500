-- Maps of files by name as the files of a disk: changes, copies, names, folders and locks.
use Rattle.std.proofs.Common.{◌≡◌, ◌⊎◌, inl, inr, ⊎_elim, Bool, false, List, [], ◌∷◌, Option, Some, None, refl, sym, ◌∙◌, ap, subst, arith, ℕ, true, not, cond, IsSome, String, string_bytes, ◌↔◌, ◌||◌, map, is_some, ◌≢◌, ◌+◌, ◌++◌, length, drop, nat_eq, append_assoc, length-append, get_or, MatchOption, ◌<◌, Result, Ok, Err}
use Rattle.std.specs.List.{Contains, IsDistinct, AllByRecursion, filter_map, cons_option, filter, AllZip}
use Rattle.std.proofs.lemmas.List.Elements.{Contains-append_left, Contains-append_right, Contains-append_cases, Contains-push, Contains-push_cases}
use Rattle.std.specs.BTreeMap as tree
use Rattle.std.specs.BTreeSet as sorted
use Rattle.std.specs.BTreeSet.{BTreeSet, contains_text}
use Rattle.std.specs.BTreeMap.{BTreeMap, is_at, get_by_text, keys, IsOrdered}
use Rattle.std.specs.Ordering.{nat_cmp, eq_by_cmp, is_eq}
use Rattle.std.specs.Cmp.Lexicographic.{slice_cmp, bytes_decides, nat_list_eq_equiv}
use Rattle.std.specs.String.{string_cmp}
use Rattle.std.specs.Map.{lookup, keys_of}
use Rattle.std.specs.Option.{option_map, option_copied, option_and_then}
use Rattle.std.specs.Str.{bytes_eq}
use Rattle.std.proofs.lemmas.Map.Entries.{lookup-filter-keys}
use Rattle.std.proofs.lemmas.Map.Text.{btree_map_updates_text, btree_set_updates_text, is_eq-slice_cmp}
use Rattle.std.specs.declared.alloc.Global.{Global}
use Rattle.leveldb_env.specs.Env.{File, Files, with_file, lock_set, or_empty, created, deleted, moved, renamed, is_under, without_folder, ListsChildren, in_folder, ChangesFiles, BeforeOrAfter, PrefixAppended, extended, Within}
use Rattle.leveldb_env.specs.MemEnv.{files_of, child_under, child_in, without_slash, ChangesOrFails, mem_observed}
use Rattle.std.specs.Set.{is_member, unique_keys}
use Rattle.std.proofs.lemmas.Bool.{false_from_ne_true}
use Rattle.std.proofs.lemmas.Map.Keys.{IsDistinct-from_sorted}
use Rattle.std.proofs.lemmas.Map.Made.{is_member-Decides}
use Rattle.std.proofs.lemmas.Slice.Eq.{bytes_eq-Decides, starts_is}
use Rattle.std.specs.Borrow.{Bor}
use Rattle.std.proofs.lemmas.Bool.Decides.{Decides-eqb}
use Rattle.std.proofs.lemmas.List.{append_cancel_left, get_or_default, take_all}
use Rattle.std.proofs.lemmas.List.Prefix.{front_rest}
use Rattle.leveldb_base.specs.declared.error.Status.{Status}
use Rattle.leveldb_env.specs.declared.mem_env.MemEnv.{MemEnv}

module _ {X : Type 0} where
  pub Contains-nil : (x : X) → Contains [] x → ⊥
  Contains-nil x (k, below, is) = omega (arith, below)

  pub Contains-cons : (x : X) (xs : List X) (y : X) → Contains (x ∷ xs) y → (x ≡ y) ⊎ Contains xs y
  Contains-cons x xs y among = ⊎_elim (λ first. inl (only first)) inr (Contains-append_cases (x ∷ []) xs y among)
    where
      only : Contains (x ∷ []) y → x ≡ y
      only first = ⊎_elim (λ no. absurd (Contains-nil y no)) (λ is. is) (Contains-push_cases [] x y first)

  pub Contains-head : (x : X) (xs : List X) → Contains (x ∷ xs) x
  Contains-head x xs = Contains-append_left (x ∷ []) xs x (Contains-push [] x)

  pub Contains-tail : (x : X) (xs : List X) (y : X) → Contains xs y → Contains (x ∷ xs) y
  Contains-tail x xs y among = Contains-append_right (x ∷ []) xs y among

  -- what holds of each element
  pub all_among : (P : X → Type 0) (xs : List X) → ((x : X) → Contains xs x → P x) → AllByRecursion P xs
  all_among P [] holds = tt
  all_among P (x ∷ xs) holds = (holds x (Contains-head x xs), all_among P xs (λ y among. holds y (Contains-tail x xs y among)))

module _ {X Y : Type 0} (f : X → Option Y) where
  abbrev pub Source : List X → Y → Type 0
  Source xs y = (x : X) × Contains xs x × (f x ≡ Some y)

  source_next : (x : X) (xs : List X) (y : Y) (ys : List Y) (o : Option Y) → f x ≡ o → (Contains ys y → Source xs y) → Contains (cons_option o ys) y → Source (x ∷ xs) y
  source_next x xs y ys None e later among = let s = later among in (s.0, Contains-tail x xs s.0 s.1, s.2)
  source_next x xs y ys (Some z) e later among =
      ⊎_elim
      (λ is. (x, Contains-head x xs, e ∙ ap Some is))
      (λ rest. let s = later rest in (s.0, Contains-tail x xs s.0 s.1, s.2))
      (Contains-cons z ys y among)

  -- each of its elements comes from one of the list
  pub filter_map_source : (xs : List X) (y : Y) → Contains (filter_map f xs) y → Source xs y
  filter_map_source [] y among = absurd (Contains-nil y among)
  filter_map_source (x ∷ xs) y among = source_next x xs y (filter_map f xs) (f x) refl (filter_map_source xs y) among

  given_later : (y : Y) (ys : List Y) (o : Option Y) → Contains ys y → Contains (cons_option o ys) y
  given_later y ys None among = among
  given_later y ys (Some z) among = Contains-tail z ys y among

  -- and each that comes from one is there
  pub Contains-filter_map : (xs : List X) (x : X) (y : Y) → Contains xs x → f x ≡ Some y → Contains (filter_map f xs) y
  Contains-filter_map [] x y among is = absurd (Contains-nil x among)
  Contains-filter_map (z ∷ xs) x y among is =
      ⊎_elim
      (λ same. subst (λ o. Contains (cons_option o (filter_map f xs)) y) (sym (ap f same ∙ is)) (Contains-head y (filter_map f xs)))
      (λ rest. given_later y (filter_map f xs) (f z) (Contains-filter_map xs x y rest is))
      (Contains-cons z xs x among)

  -- where f separates elements that differ by e, what it gives differs by d
  module _ (e : X → X → Bool) (d : Y → Y → Bool) (apart : (x x2 : X) (y y2 : Y) → f x ≡ Some y → f x2 ≡ Some y2 → e x x2 ≡ false → d y y2 ≡ false) where
    others_next : (y : Y) (ys : List Y) (o : Option Y) → ((y2 : Y) → o ≡ Some y2 → d y y2 ≡ false) → AllByRecursion (λ y2. d y y2 ≡ false) ys → AllByRecursion (λ y2. d y y2 ≡ false) (cons_option o ys)
    others_next y ys None first later = later
    others_next y ys (Some y2) first later = (first y2 refl, later)

    others : (x : X) (y : Y) → f x ≡ Some y → (xs : List X) → AllByRecursion (λ x2. e x x2 ≡ false) xs → AllByRecursion (λ y2. d y y2 ≡ false) (filter_map f xs)
    others x y is [] all = tt
    others x y is (x2 ∷ xs) all = others_next y (filter_map f xs) (f x2) (λ y2 is2. apart x x2 y y2 is is2 all.0) (others x y is xs all.1)

    distinct_next : (ys : List Y) (o : Option Y) → ((y : Y) → o ≡ Some y → AllByRecursion (λ y2. d y y2 ≡ false) ys) → IsDistinct d ys → IsDistinct d (cons_option o ys)
    unfolding IsDistinct
    distinct_next ys None first later = later
    distinct_next ys (Some y) first later = (first y refl, later)

    pub IsDistinct-filter_map : (xs : List X) → IsDistinct e xs → IsDistinct d (filter_map f xs)
    unfolding IsDistinct
    IsDistinct-filter_map [] once = tt
    IsDistinct-filter_map (x ∷ xs) once = distinct_next (filter_map f xs) (f x) (λ y is. others x y is xs once.0) (IsDistinct-filter_map xs once.1)

abbrev pub FileMap : Type 0
FileMap = BTreeMap (String Global) File

-- what a call on the map says of the entry at a name
abbrev pub Updates : List ℕ → FileMap → FileMap → Option File → Type 0
Updates name m n w = tree.UpdatesBy string_cmp (λ k. slice_cmp nat_cmp name (string_bytes k)) m n w

-- what is set in the map is the file of the name
pub files_updated : (name : List ℕ) (m n : FileMap) (w : Option File) → Updates name m n w → files_of n ≡ with_file name w (files_of m)
files_updated name m n w updates = λ i q. btree_map_updates_text name m n w updates q i

-- nothing changes where what was there is set again
pub with_file_same : (files : Files) (name : List ℕ) → with_file name (files name) files ≡ files
with_file_same files name = λ i q. at q (bytes_eq name q) refl i
  where
    at : (q : List ℕ) (b : Bool) → bytes_eq name q ≡ b → cond (bytes_eq name q) (files name) (files q) ≡ files q
    at q true e = ap (λ b. cond b (files name) (files q)) e ∙ ap files ((bytes_decides name q).0 e)
    at q false e = ap (λ b. cond b (files name) (files q)) e

-- w, made by g of the file that is there, is written in its place
pub files_written : (name : List ℕ) (m n : FileMap) (f w : File) (g : File → File) → Some f ≡ get_by_text m name → (IsSome (get_by_text m name) → Updates name m n (Some w)) → w ≡ g f → files_of n ≡ with_file name (option_map g (files_of m name)) (files_of m)
files_written name m n f w g is updates made =
    files_updated name m n (Some w) (updates (subst IsSome is refl))
    ∙ ap (λ o. with_file name o (files_of m)) (ap Some made ∙ ap (option_map g) is)

-- what was there is written back
pub files_unwritten : (name : List ℕ) (m n : FileMap) (f w : File) → Some f ≡ get_by_text m name → (IsSome (get_by_text m name) → Updates name m n (Some w)) → w ≡ f → files_of n ≡ files_of m
files_unwritten name m n f w is updates same =
    files_updated name m n (Some w) (updates (subst IsSome is refl))
    ∙ ap (λ o. with_file name o (files_of m)) (ap Some same ∙ is) ∙ with_file_same (files_of m) name

-- the look-up of a name finds a key of its bytes
pub key_named : (name : List ℕ) (key : String Global) → is_at (λ k. slice_cmp nat_cmp name (string_bytes k)) key ≡ true → name ≡ string_bytes key
key_named name key found = (bytes_decides name (string_bytes key)).0 (sym (is_eq-slice_cmp name (string_bytes key)) ∙ found)

-- what a filter by the names leaves
pub files_filtered : (p : List ℕ → Bool) (m n : FileMap) → n.entries ≡ filter (λ (e : String Global × File). p (string_bytes e.0)) m.entries → files_of n ≡ (λ name. cond (p name) (files_of m name) None)
files_filtered p m n kept = λ i name. at name i
  where
    at : (name : List ℕ) → files_of n name ≡ cond (p name) (files_of m name) None
    at name =
        let test = is_at (λ (k : String Global). slice_cmp nat_cmp name (string_bytes k)) in
        ap (lookup test) kept
        ∙ lookup-filter-keys test (λ k. p (string_bytes k)) (p name) (λ k found. ap p (sym (key_named name k found))) m.entries

pub without_under : (folder : List ℕ) (files : Files) → (λ name. cond (not (is_under folder name)) (files name) None) ≡ without_folder folder files
without_under folder files = λ i name. at (is_under folder name) (files name) i
  where
    at : (b : Bool) (x : Option File) → cond (not b) x None ≡ cond b None x
    at true x = refl
    at false x = refl

-- ---- a file moves: the new name is made, the old one taken away, and the file put in place
module _ (files : Files) (from to : List ℕ) where
  -- the old name is there until then
  pub source_stays : (x : Option File) → bytes_eq from to ≡ false → with_file to x files from ≡ files from
  source_stays x apart = ap (λ b. cond b x (files from)) (nat_list_eq_equiv.symm to from ∙ apart)

  -- the new name is there without the old one
  pub target_stands : bytes_eq from to ≡ false → IsSome (deleted from (created to files) to)
  target_stands apart =
      subst (λ b. IsSome (cond b None (cond (bytes_eq to to) (or_empty (files to)) (files to)))) (sym apart)
      (subst (λ b. IsSome (cond b (or_empty (files to)) (files to))) (sym ((bytes_decides to to).1 refl)) (some (files to)))
    where
      some : (o : Option File) → IsSome (or_empty o)
      some None = refl
      some (Some x) = refl

  pub renamed_by_steps : (file : Option File) → IsSome file → file ≡ files from → with_file to file (deleted from (created to files)) ≡ renamed from to files
  renamed_by_steps None there is = absurd (cc there)
  renamed_by_steps (Some file) there is = (λ i q. at q (bytes_eq to q) i) ∙ ap (moved from to files) is
    where
      at : (q : List ℕ) (b : Bool) → cond b (Some file) (cond (bytes_eq from q) None (cond b (or_empty (files to)) (files q))) ≡ cond b (Some file) (cond (bytes_eq from q) None (files q))
      at q true = refl
      at q false = refl

-- ---- locks

pub locks_updated : (name : List ℕ) (s n : BTreeSet (String Global)) (held : Bool) → sorted.UpdatesBy string_cmp (λ k. slice_cmp nat_cmp name (string_bytes k)) s n held → contains_text n ≡ lock_set name held (contains_text s)
locks_updated name s n held updates = λ i q. btree_set_updates_text name s n held updates q i

pub record AreNames (files : Files) (names : List (List ℕ)) : Type 0 where
  pub once : IsDistinct bytes_eq names
  pub there : (name : List ℕ) → Contains names name ↔ IsSome (files name)

abbrev pub names_of : FileMap → List (List ℕ)
names_of files = map string_bytes (keys files)

others_apart : (key : String Global) (ks : List (String Global)) → AllByRecursion (λ k. eq_by_cmp string_cmp key k ≡ false) ks → AllByRecursion (λ name. bytes_eq (string_bytes key) name ≡ false) (map string_bytes ks)
others_apart key [] apart = tt
others_apart key (k ∷ ks) apart = (sym (is_eq-slice_cmp (string_bytes key) (string_bytes k)) ∙ apart.0, others_apart key ks apart.1)

names_once : (ks : List (String Global)) → IsDistinct (eq_by_cmp string_cmp) ks → IsDistinct bytes_eq (map string_bytes ks)
unfolding IsDistinct
names_once [] once = tt
names_once (k ∷ ks) once = (others_apart k ks once.0, names_once ks once.1)

-- one more entry in front
found_next : (name : List ℕ) (b d : Bool) (value : File) (among : Bool) (found : Option File) → b ≡ d → among ≡ is_some found → (b || among) ≡ is_some (cond d (Some value) found)
found_next name true d value among found same later = ap (λ x. is_some (cond x (Some value) found)) same
found_next name false d value among found same later = later ∙ ap (λ x. is_some (cond x (Some value) found)) same

-- a name is in the list exactly where a look-up finds it
names_found : (name : List ℕ) (entries : List (String Global × File)) → is_member bytes_eq (map string_bytes (keys_of entries)) name ≡ is_some (lookup (is_at (λ k. slice_cmp nat_cmp name (string_bytes k))) entries)
names_found name [] = refl
names_found name (e ∷ entries) = found_next name (bytes_eq name (string_bytes e.0)) _ e.1 _ _ (sym (is_eq-slice_cmp name (string_bytes e.0))) (names_found name entries)

pub are_names : (files : FileMap) → IsOrdered string_cmp files → AreNames (files_of files) (names_of files)
are_names files ordered = record {
  once = names_once (keys files) (IsDistinct-from_sorted string_cmp (keys files) ordered);
  there = λ name.
      let member = is_member-Decides bytes_eq-Decides (names_of files) name in
      let found = names_found name files.entries in
      (λ among. sym found ∙ member.1 among, λ there. member.0 (found ∙ there));
}

-- ---- the names of any map, in whatever order

among_unique : (names : List (List ℕ)) (name : List ℕ) → Contains names name → Contains (unique_keys bytes_eq names) name
among_unique [] name among = among
among_unique (first ∷ names) name among = next (is_member bytes_eq names first) refl (Contains-cons first names name among) (among_unique names name)
  where
    next : (b : Bool) → is_member bytes_eq names first ≡ b → (first ≡ name) ⊎ Contains names name → (Contains names name → Contains (unique_keys bytes_eq names) name) → Contains (cond b (unique_keys bytes_eq names) (first ∷ unique_keys bytes_eq names)) name
    next true again (inl is) later = later (subst (Contains names) is ((is_member-Decides bytes_eq-Decides names first).0 again))
    next true again (inr rest) later = later rest
    next false new (inl is) later = subst (Contains (first ∷ unique_keys bytes_eq names)) is (Contains-head first (unique_keys bytes_eq names))
    next false new (inr rest) later = Contains-tail first (unique_keys bytes_eq names) name (later rest)

from_unique : (names : List (List ℕ)) (name : List ℕ) → Contains (unique_keys bytes_eq names) name → Contains names name
from_unique [] name among = among
from_unique (first ∷ names) name among = next (is_member bytes_eq names first) among (from_unique names name)
  where
    next : (b : Bool) → Contains (cond b (unique_keys bytes_eq names) (first ∷ unique_keys bytes_eq names)) name → (Contains (unique_keys bytes_eq names) name → Contains names name) → Contains (first ∷ names) name
    next true among later = Contains-tail first names name (later among)
    next false among later = ⊎_elim (λ is. subst (Contains (first ∷ names)) is (Contains-head first names)) (λ rest. Contains-tail first names name (later rest)) (Contains-cons first (unique_keys bytes_eq names) name among)

unique_once : (names : List (List ℕ)) → IsDistinct bytes_eq (unique_keys bytes_eq names)
unfolding IsDistinct
unique_once [] = tt
unique_once (first ∷ names) = next (is_member bytes_eq names first) refl (unique_once names)
  where
    next : (b : Bool) → is_member bytes_eq names first ≡ b → IsDistinct bytes_eq (unique_keys bytes_eq names) → IsDistinct bytes_eq (cond b (unique_keys bytes_eq names) (first ∷ unique_keys bytes_eq names))
    next true again later = later
    next false new later = (
      all_among (λ name. bytes_eq first name ≡ false) (unique_keys bytes_eq names) (λ name among. false_from_ne_true (bytes_eq first name) (λ same.
          let again : Contains names first = subst (Contains names) (sym ((bytes_decides first name).0 same)) (from_unique names name among) in
          cc (sym new ∙ (is_member-Decides bytes_eq-Decides names first).1 again))),
      later,
    )

pub unique_names : (files : FileMap) → AreNames (files_of files) (unique_keys bytes_eq (names_of files))
unique_names files = record {
  once = unique_once (names_of files);
  there = λ name.
      let member = is_member-Decides bytes_eq-Decides (names_of files) name in
      let found = names_found name files.entries in
      (λ among. sym found ∙ member.1 (from_unique (names_of files) name among), λ there. among_unique (names_of files) name (member.0 (found ∙ there)));
}

-- ---- the names that are there, of some among which all of them are

abbrev there_name : Files → List ℕ → Option (List ℕ)
there_name files name = cond (is_some (files name)) (Some name) None

name_there : (files : Files) (name found : List ℕ) → there_name files name ≡ Some found → (name ≡ found) × IsSome (files name)
name_there files name found is = by (is_some (files name)) refl is
  where
    by : (b : Bool) → is_some (files name) ≡ b → cond b (Some name) None ≡ Some found → (name ≡ found) × IsSome (files name)
    by true e is = (cc is, e)
    by false e is = absurd (cc is)

pub AreNames-there : (files : Files) (names : List (List ℕ)) → ((name : List ℕ) → IsSome (files name) → Contains names name) → AreNames files (filter_map (there_name files) (unique_keys bytes_eq names))
AreNames-there files names all = record {
  once = IsDistinct-filter_map (there_name files) bytes_eq bytes_eq
      (λ x x2 y y2 is is2 apart. (λ i. bytes_eq (sym (name_there files x y is).0 i) (sym (name_there files x2 y2 is2).0 i)) ∙ apart) (unique_keys bytes_eq names) (unique_once names);
  there = λ name. (
    λ among.
        let s = filter_map_source (there_name files) (unique_keys bytes_eq names) name among in
        let at = name_there files s.0 name s.2 in
        subst (λ (n : List ℕ). IsSome (files n)) at.0 at.1,
    λ there. Contains-filter_map (there_name files) (unique_keys bytes_eq names) name name (among_unique names name (all name there)) (ap (λ b. cond b (Some name) None) there),
  );
}

module _ (folder name : List ℕ) where
  front_is : (child : List ℕ) → name ≡ in_folder folder child → name ≡ (folder ++ 47 ∷ []) ++ child
  front_is child is = is ∙ sym (append_assoc folder (47 ∷ []) child)

  pub child_under-in_folder : (child : List ℕ) → name ≡ in_folder folder child → child_under folder name ≡ Some child
  child_under-in_folder child is =
      let under : is_under folder name ≡ true = (starts_is Decides-eqb name (folder ++ 47 ∷ []) (is_under folder name) refl).1 child (front_is child is) in
      let past : drop (length folder + 1) name ≡ child = ap (λ n. drop n name) (sym (length-append folder (47 ∷ []))) ∙ front_rest name (folder ++ 47 ∷ []) child (front_is child is) in
      ap (λ b. cond b (Some (drop (length folder + 1) name)) None) under ∙ ap Some past

  pub child_under-none : ((child : List ℕ) → name ≢ in_folder folder child) → child_under folder name ≡ None
  child_under-none apart =
      let split = (starts_is Decides-eqb name (folder ++ 47 ∷ []) (is_under folder name) refl).0 in
      let not_under : is_under folder name ≡ false = false_from_ne_true (is_under folder name) (λ under. apart (drop (length (folder ++ 47 ∷ [])) name) (split under ∙ append_assoc folder (47 ∷ []) (drop (length (folder ++ 47 ∷ [])) name))) in
      ap (λ b. cond b (Some (drop (length folder + 1) name)) None) not_under

  -- what is left of the name after the folder begins with a `/`, or not
  pub child_under-stripped : (rest : List ℕ) (r : Option (Bor (List ℕ))) → name ≡ folder ++ rest → MatchOption r ((tail : List ℕ) → rest ≢ 47 ∷ tail) (λ x. rest ≡ 47 ∷ x.now) → option_copied r ≡ child_under folder name
  child_under-stripped rest None is apart = sym (child_under-none (λ child under. apart child (append_cancel_left folder rest (47 ∷ child) (sym is ∙ under))))
  child_under-stripped rest (Some x) is begins = sym (child_under-in_folder x.now (is ∙ ap (λ (t : List ℕ). folder ++ t) begins))

-- `contains('/')`, as a test of the bytes
pub has_slash : (text : List ℕ) (r : Bool) → (r ≡ true → (k : ℕ) × (k < length text) × (get_or text k 0 ≡ 47)) × ((k : ℕ) → k < length text → get_or text k 0 ≡ 47 → r ≡ true) → is_member nat_eq text 47 ≡ r
has_slash text true h =
    let at = h.0 refl in
    (is_member-Decides Decides-eqb text 47).1 (at.0, at.1, get_or_default text at.0 47 0 at.1 ∙ at.2)
has_slash text false h = false_from_ne_true (is_member nat_eq text 47) (λ there.
    let at : Contains text 47 = (is_member-Decides Decides-eqb text 47).0 there in
    absurd (cc (h.1 at.0 at.1 (get_or_default text at.0 0 47 at.1 ∙ at.2))))

-- a name whose part after the folder is known
pub name_under : (folder name child : List ℕ) → child_under folder name ≡ Some child → name ≡ in_folder folder child
name_under folder name child is = by (is_under folder name) refl
  where
    needle : List ℕ
    needle = folder ++ 47 ∷ []

    by : (b : Bool) → is_under folder name ≡ b → name ≡ in_folder folder child
    by false e = absurd (cc (sym is ∙ ap (λ b. cond b (Some (drop (length folder + 1) name)) None) e))
    by true e =
        let past : drop (length folder + 1) name ≡ child = cc (sym (ap (λ b. cond b (Some (drop (length folder + 1) name)) None) e) ∙ is) in
        (starts_is Decides-eqb name needle (is_under folder name) refl).0 e
        ∙ ap (λ n. needle ++ drop n name) (length-append folder (47 ∷ [])) ∙ ap (λ (t : List ℕ). needle ++ t) past
        ∙ append_assoc folder (47 ∷ []) child

-- ---- the children of a folder, of all names that are there

abbrev pub children_in : List ℕ → List (List ℕ) → List (List ℕ)
children_in folder names = filter_map (child_in folder) names

text_without_slash : (text child : List ℕ) (slash : Bool) → is_member nat_eq text 47 ≡ slash → cond slash None (Some text) ≡ Some child → (text ≡ child) × (is_member nat_eq child 47 ≡ false)
text_without_slash text child true e is = absurd (cc is)
text_without_slash text child false e is = let same : text ≡ child = cc is in (same, ap (λ (t : List ℕ). is_member nat_eq t 47) (sym same) ∙ e)

-- a name in the folder is the folder, `/` and a text without `/`
pub name_in : (folder name child : List ℕ) → child_in folder name ≡ Some child → (name ≡ in_folder folder child) × (is_member nat_eq child 47 ≡ false)
name_in folder name child is = by (child_under folder name) refl is
  where
    by : (o : Option (List ℕ)) → child_under folder name ≡ o → option_and_then without_slash o ≡ Some child → (name ≡ in_folder folder child) × (is_member nat_eq child 47 ≡ false)
    by None e is = absurd (cc is)
    by (Some text) e is =
        let p = text_without_slash text child (is_member nat_eq text 47) refl is in
        (name_under folder name child (e ∙ ap Some p.0), p.1)

pub child_in-in_folder : (folder child : List ℕ) → (Contains child 47 → ⊥) → child_in folder (in_folder folder child) ≡ Some child
child_in-in_folder folder child plain =
    let none : is_member nat_eq child 47 ≡ false = false_from_ne_true (is_member nat_eq child 47) (λ there. plain ((is_member-Decides Decides-eqb child 47).0 there)) in
    ap (option_and_then without_slash) (child_under-in_folder folder (in_folder folder child) child refl) ∙ ap (λ b. cond b None (Some child)) none

-- names that differ have children that do
children_apart : (folder x x2 y y2 : List ℕ) → child_in folder x ≡ Some y → child_in folder x2 ≡ Some y2 → bytes_eq x x2 ≡ false → bytes_eq y y2 ≡ false
children_apart folder x x2 y y2 is is2 apart = false_from_ne_true (bytes_eq y y2) (λ same.
    let names : x ≡ x2 = (name_in folder x y is).0 ∙ ap (in_folder folder) ((bytes_decides y y2).0 same) ∙ sym (name_in folder x2 y2 is2).0 in
    absurd (cc (sym apart ∙ (bytes_decides x x2).1 names)))

-- what the children are
pub ListsChildren-children_in : (files : Files) (folder : List ℕ) (names : List (List ℕ)) → AreNames files names → ListsChildren files folder (children_in folder names)
ListsChildren-children_in files folder names all = record {
  each = λ child. (
    λ among.
        let s = filter_map_source (child_in folder) names child among in
        let p = name_in folder s.0 child s.2 in
        let slash : is_member nat_eq child 47 ≡ true → ⊥ = λ there. cc (sym p.1 ∙ there) in
        (λ there. slash ((is_member-Decides Decides-eqb child 47).1 there), subst (λ (name : List ℕ). IsSome (files name)) p.0 ((all.there s.0).0 s.1)),
    λ h. Contains-filter_map (child_in folder) names (in_folder folder child) child ((all.there (in_folder folder child)).1 h.1) (child_in-in_folder folder child h.0),
  );
  once = IsDistinct-filter_map (child_in folder) bytes_eq bytes_eq (children_apart folder) names all.once;
}

-- a lock that was free is free again
pub lock_undone : (name : List ℕ) (locked : List ℕ → Bool) → locked name ≡ false → lock_set name false (lock_set name true locked) ≡ locked
lock_undone name locked free = λ i other. at other (bytes_eq name other) refl i
  where
    at : (other : List ℕ) (b : Bool) → bytes_eq name other ≡ b → cond (bytes_eq name other) false (cond (bytes_eq name other) true (locked other)) ≡ locked other
    at other true e = ap (λ b. cond b false (cond b true (locked other))) e ∙ sym free ∙ ap locked ((bytes_decides name other).0 e)
    at other false e = ap (λ b. cond b false (cond b true (locked other))) e

-- all the bytes are a prefix of them
pub PrefixAppended-whole : (name bytes : List ℕ) (old new : Files) → new ≡ extended name bytes old → PrefixAppended name bytes old new
PrefixAppended-whole name bytes old new is =
    inr (length bytes, is ∙ ap (λ (all : List ℕ). extended name all old) (sym (take_all (length bytes) bytes (omega arith))))

pub PrefixAppended-from_sides : (name bytes : List ℕ) (old new : Files) → BeforeOrAfter (extended name bytes) old new → PrefixAppended name bytes old new
PrefixAppended-from_sides name bytes old new (inl same) = inl same
PrefixAppended-from_sides name bytes old new (inr is) = PrefixAppended-whole name bytes old new is

no_time : (P : Files → Type 0) (old new : MemEnv) → Within P (mem_observed old) (mem_observed new)
no_time P old new = record {
  later = omega arith;
  before = λ m files earlier stood. absurd stood;
  meanwhile = λ m files from to stood. absurd stood;
  kept = λ m files earlier stood. absurd stood;
}

pub appends : {T : Type 0} (name bytes : List ℕ) (old new : MemEnv) (r : Result T Status) → ChangesOrFails (extended name bytes) old new r → ChangesFiles true (extended name bytes) (PrefixAppended name bytes) (mem_observed old) (mem_observed new) r
appends name bytes old new (Ok x) changes = record { ok = λ _. changes.ok; now = λ _. PrefixAppended-whole name bytes _ _ changes.ok; time = no_time _ old new }
appends name bytes old new (Err e) changes = record { ok = λ _. tt; now = λ _. inl changes.err; time = no_time _ old new }

-- ---- a copy of a map, entry by entry

-- names with their files
abbrev pub Entries : Type 0
Entries = List (String Global × File)

-- what a look-up of the name finds
abbrev pub found_in : Entries → List ℕ → Option File
found_in entries name = lookup (is_at (λ k. slice_cmp nat_cmp name (string_bytes k))) entries

-- the same bytes of the name, and the same file
abbrev pub IsCopy : String Global × File → String Global × File → Type 0
IsCopy entry copy = (string_bytes copy.0 ≡ string_bytes entry.0) × (copy.1 ≡ entry.1)

found_in-copy : (name : List ℕ) (entries copies : Entries) → AllZip IsCopy entries copies → found_in copies name ≡ found_in entries name
found_in-copy name [] [] same = refl
found_in-copy name [] (copy ∷ copies) same = absurd same
found_in-copy name (entry ∷ entries) [] same = absurd same
found_in-copy name (entry ∷ entries) (copy ∷ copies) same = λ i. cond (is_eq (slice_cmp nat_cmp name (same.0.0 i))) (Some (same.0.1 i)) (found_in-copy name entries copies same.1 i)

pub files_of-copy : (map copy : FileMap) → AllZip IsCopy map.entries copy.entries → files_of copy ≡ files_of map
files_of-copy map copy same = λ i name. found_in-copy name map.entries copy.entries same i
