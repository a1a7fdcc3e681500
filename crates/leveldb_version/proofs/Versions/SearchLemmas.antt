-- In what order a look-up goes through the files of a version.
use Rattle.std.specs.Prelude.{Contains, All, IfSome, IsPermutation, is_some, remove, slice_get}
use Rattle.std.proofs.Common.{◌≡◌, ◌≢◌, ◌^◌, ◌⊎◌, inl, inr, ⊎_elim, ℕ, zero, suc, ◌==◌, ◌+◌, ◌-◌, ◌<◌, ◌≤◌, Bool, true, false, cond, List, [], ◌∷◌, ◌++◌, Option, None, Some, length, map, take, drop, get_or, refl, sym, ◌∙◌, ap, append_assoc, subst, arith}
use Rattle.std.proofs.lemmas.Bool.{cases_lt, eq-eqb, eqb-true}
use Rattle.std.proofs.lemmas.Bool.Decides.{nat_tests}
use Rattle.std.proofs.lemmas.List.{append-nil, get_or-append-add, get_or_append_left, get_or-append_right, get_or-drop, get_or-take, length-append, length-drop, length-take, map-append, take_all}
use Rattle.std.proofs.lemmas.List.Elements.{All-contains, All-contains_itself, All-head, All-nil, All-tail, All-weaker, Contains-append_cases, Contains-append_left, Contains-append_right, Contains-get_or, Contains-push, Contains-push_cases}
use Rattle.std.proofs.lemmas.List.Sorted.{IsPermutation-append_comm, IsPermutation-append_left, IsPermutation-append_right, IsPermutation-cons, IsPermutation-middle, IsPermutation-refl, IsPermutation-remove, IsPermutation-sym, IsPermutation-trans, Contains-permutation, length_permutation, ranks_by, sorted_far}
use Rattle.std.specs.Borrow.{Bor}
use Rattle.std.specs.Cmp.{IsTotalOrder}
use Rattle.std.specs.List.{filter}
use Rattle.std.specs.List.Sorted.{IsNonDecreasingBy, IsPartitionPoint, IsPartitionedBy, IsSortedByKey}
use Rattle.std.specs.Option.{option_copied, option_map, option_to_list}
use Rattle.std.specs.Ordering.{is_lt, nat_cmp, ordering_then}
use Rattle.std.specs.declared.cmp.Ordering.{Ordering}
use Rattle.std.specs.declared.cmp.Ordering.TheVariants.{Equal, Greater}
use Rattle.leveldb_base.proofs.EntriesLemmas.{in_map}
use Rattle.leveldb_base.proofs.HistoryLemmas.{in_cases, in_front, in_none, in_rest}
use Rattle.leveldb_base.proofs.OrderLemmas.{is_false}
use Rattle.leveldb_base.specs.KeyTypes.{internal_cmp}
use Rattle.leveldb_base.specs.declared.types.FileMetaData.{FileMetaData}
use Rattle.leveldb_version.proofs.Versions.VersionLemmas.{at_level_map, keys_rise, level_in_order, levels_rise, version_total}
use Rattle.leveldb_files.specs.Levels.Levels.{IsInRange}
use Rattle.leveldb_files.specs.Levels.Overlap.{AreDisjointRanges, IsFileFor}
use Rattle.leveldb_version.specs.Versions.Search.{AreDisjointLevels, IsTriedBefore, TakesNextFile}
use Rattle.leveldb_files.specs.Levels.Summary.{files_of_level}
use Rattle.leveldb_version.specs.Versions.Version.{AreInVersionOrder, FilesFit, at_level, version_order}
use Rattle.leveldb_files.specs.Edits.Edit.{NewFile}
use Rattle.leveldb_version.specs.Edits.VersionEdit.{new_file_of}

-- ---- numbers

pub same_or_not : (a b : ℕ) → (a ≡ b) ⊎ (a ≢ b)
same_or_not a b = ⊎_elim
    (λ (less : a < b). inr (λ same. absurd (omega (arith, less, same))))
    (λ (most : b ≤ a). ⊎_elim
    (λ (more : b < a). inr (λ same. absurd (omega (arith, more, same))))
    (λ (least : a ≤ b). inl (omega (arith, most, least))) (cases_lt b a)) (cases_lt a b)

-- ---- lists

-- what holds of each element that a list has
pub all_from_contains : {A : Type 0} (P : A → Type 0) (xs : List A) → ((x : A) → Contains xs x → P x) → All P xs
all_from_contains P xs each = All-weaker (Contains xs) P each xs (All-contains_itself xs)

-- a filter keeps what passes, and nothing else
pub kept_passes : {A : Type 0} (p : A → Bool) (xs : List A) (x : A) → Contains (filter p xs) x → Contains xs x × (p x ≡ true)
kept_passes p [] x c = absurd (in_none x c)
kept_passes {A} p (y ∷ xs) x c = by (λ d. let more = kept_passes p xs x d in (in_rest y x xs more.0, more.1)) (p y) refl c
  where
    by : (Contains (filter p xs) x → Contains (y ∷ xs) x × (p x ≡ true)) → (b : Bool) → p y ≡ b → Contains (cond b (y ∷ filter p xs) (filter p xs)) x → Contains (y ∷ xs) x × (p x ≡ true)
    by rest true passes d = ⊎_elim
        (λ (same : y ≡ x). (subst (λ z. Contains (y ∷ xs) z) same (in_front y xs), subst (λ z. p z ≡ true) same passes))
        rest (in_cases y x (filter p xs) d)
    by rest false fails d = rest d

pub passes_kept : {A : Type 0} (p : A → Bool) (xs : List A) (x : A) → Contains xs x → p x ≡ true → Contains (filter p xs) x
passes_kept p [] x c passes = absurd (in_none x c)
passes_kept {A} p (y ∷ xs) x c passes = by (λ d. passes_kept p xs x d passes) (p y) refl
  where
    by : (Contains xs x → Contains (filter p xs) x) → (b : Bool) → p y ≡ b → Contains (cond b (y ∷ filter p xs) (filter p xs)) x
    by more true keeps = ⊎_elim
        (λ (same : y ≡ x). subst (λ z. Contains (y ∷ filter p xs) z) same (in_front y (filter p xs)))
        (λ (rest : Contains xs x). in_rest y x (filter p xs) (more rest)) (in_cases y x xs c)
    by more false fails = ⊎_elim
        (λ (same : y ≡ x). let e : true ≡ false = sym passes ∙ ap p (sym same) ∙ fails in cc)
        more (in_cases y x xs c)

-- ---- files in order

module _ (cmp : List ℕ → List ℕ → Ordering) where
  pub in_order_front : (xs ys : List NewFile) → AreInVersionOrder cmp (xs ++ ys) → AreInVersionOrder cmp xs
  in_order_front xs ys sorted k d low high =
      let long = length-append xs ys in
      subst (λ z. is_lt (version_order cmp z (get_or xs k d)) ≡ false) (get_or_append_left xs ys d (k + 1) high)
      (subst (λ z. is_lt (version_order cmp (get_or (xs ++ ys) (k + 1) d) z) ≡ false) (get_or_append_left xs ys d k (omega (arith, high)))
      (sorted k d low (omega (arith, high, long))))

  pub in_order_back : (xs ys : List NewFile) → AreInVersionOrder cmp (xs ++ ys) → AreInVersionOrder cmp ys
  in_order_back xs ys sorted k d low high =
      let long = length-append xs ys in
      let next : length xs + k + 1 ≡ length xs + (k + 1) = omega arith in
      sym (ap (λ z. is_lt (version_order cmp z (get_or (xs ++ ys) (length xs + k) d))) (ap (λ (n : ℕ). get_or (xs ++ ys) n d) next ∙ get_or-append-add xs ys (k + 1) d)
      ∙ ap (λ z. is_lt (version_order cmp (get_or ys (k + 1) d) z)) (get_or-append-add xs ys k d))
      ∙ sorted (length xs + k) d (omega arith) (omega (arith, high, long))

  -- files of lesser levels come before others
  pub in_order_both : (xs ys : List NewFile) → AreInVersionOrder cmp xs → AreInVersionOrder cmp ys
      → ((a b : NewFile) → Contains xs a → Contains ys b → a.level < b.level) → AreInVersionOrder cmp (xs ++ ys)
  in_order_both xs ys front back above k d low high = ⊎_elim
      (λ (inside : k + 1 < length xs).
      at (k + 1) k (get_or xs (k + 1) d) (get_or xs k d) (get_or_append_left xs ys d (k + 1) inside) (get_or_append_left xs ys d k (omega (arith, inside))) (front k d low inside))
      (λ (past : length xs ≤ k + 1). ⊎_elim
      (λ (last : k < length xs).
      let zero_in : k + 1 - length xs < length ys = omega (arith, long, high, past) in
      at (k + 1) k (get_or ys (k + 1 - length xs) d) (get_or xs k d) (get_or-append_right xs ys (length xs) (k + 1) d refl past) (get_or_append_left xs ys d k last)
      (level_less (get_or ys (k + 1 - length xs) d) (get_or xs k d) (above (get_or xs k d) (get_or ys (k + 1 - length xs) d) (Contains-get_or xs k d last) (Contains-get_or ys (k + 1 - length xs) d zero_in))))
      (λ (beyond : length xs ≤ k).
      let next : k + 1 - length xs ≡ k - length xs + 1 = omega (arith, beyond) in
      at (k + 1) k (get_or ys (k - length xs + 1) d) (get_or ys (k - length xs) d) (get_or-append_right xs ys (length xs) (k + 1) d refl past ∙ ap (λ (n : ℕ). get_or ys n d) next) (get_or-append_right xs ys (length xs) k d refl beyond)
      (back (k - length xs) d (omega arith) (omega (arith, long, high, beyond))))
      (cases_lt k (length xs)))
      (cases_lt (k + 1) (length xs))
    where
      long : length (xs ++ ys) ≡ length xs + length ys
      long = length-append xs ys

      at : (i j : ℕ) (a b : NewFile) → get_or (xs ++ ys) i d ≡ a → get_or (xs ++ ys) j d ≡ b → is_lt (version_order cmp a b) ≡ false → is_lt (version_order cmp (get_or (xs ++ ys) i d) (get_or (xs ++ ys) j d)) ≡ false
      at i j a b p q e = ap (λ z. is_lt (version_order cmp z (get_or (xs ++ ys) j d))) p ∙ ap (λ z. is_lt (version_order cmp a z)) q ∙ e

      level_less : (a b : NewFile) → b.level < a.level → is_lt (version_order cmp a b) ≡ false
      level_less a b less = let greater : nat_cmp a.level b.level ≡ Greater = grind (arith, nat_tests) in
          ap (λ o. is_lt (ordering_then o (cond (a.level == 0) (nat_cmp a.number b.number) (internal_cmp cmp a.smallest b.smallest)))) greater

  -- the last of files of level 0 has no lesser number than those before it
  pub number_up_to : IsTotalOrder cmp → (older : List NewFile) (file : NewFile) → AreInVersionOrder cmp (older ++ file ∷ [])
      → file.level ≡ 0 → (other : NewFile) → Contains older other → other.level ≡ 0 → other.number ≤ file.number
  number_up_to total older file sorted zero_level other c other_zero =
      let long = length-append older (file ∷ []) in
      let less = c.1 in
      let far = sorted_far (λ (a b : NewFile). is_lt (version_order cmp a b)) (ranks_by (version_total total) (λ (f : NewFile). f)) (older ++ file ∷ []) sorted c.0 (length older) other (omega (arith, less)) (omega (arith, long)) in
      let here : get_or (older ++ file ∷ []) (length older) other ≡ file = get_or-append_right older (file ∷ []) (length older) (length older) other refl (omega arith) ∙ ap (λ (n : ℕ). get_or (file ∷ []) n other) (let e : length older - length older ≡ 0 = omega arith in e) in
      let there : get_or (older ++ file ∷ []) c.0 other ≡ other = get_or_append_left older (file ∷ []) other c.0 less ∙ c.2 in
      not_less (sym (ap (λ z. is_lt (version_order cmp z (get_or (older ++ file ∷ []) c.0 other))) here ∙ ap (λ z. is_lt (version_order cmp file z)) there) ∙ far)
    where
      not_less : is_lt (version_order cmp file other) ≡ false → other.number ≤ file.number
      not_less e =
          let test : (file.level == 0) ≡ true = eq-eqb file.level 0 zero_level in
          let levels : nat_cmp file.level other.level ≡ Equal = grind (arith, nat_tests) in
          let numbers : is_lt (nat_cmp file.number other.number) ≡ false =
          sym (ap (λ o. is_lt (ordering_then o (cond (file.level == 0) (nat_cmp file.number other.number) (internal_cmp cmp file.smallest other.smallest)))) levels
          ∙ ap (λ b. is_lt (cond b (nat_cmp file.number other.number) (internal_cmp cmp file.smallest other.smallest))) test) ∙ e in
          grind (arith, nat_tests)

-- ---- the files that are left

-- Files that are left of others, after some were passed over that don't have the key in their
-- range.
pub record AreLeft (cmp : List ℕ → List ℕ → Ordering) (key : List ℕ) (old new : List NewFile) : Type 0 where
  pub passed : List NewFile
  pub once : IsPermutation old (new ++ passed)
  pub in_order : AreInVersionOrder cmp new
  pub others : AreDisjointLevels cmp old → (file : NewFile) → Contains old file → IsInRange cmp file key → Contains new file

module _ (cmp : List ℕ → List ℕ → Ordering) (key : List ℕ) where
  pub left_all : (files : List NewFile) → AreInVersionOrder cmp files → AreLeft cmp key files files
  left_all files sorted = record {
    passed = [];
    once = subst (IsPermutation files) (sym (append-nil files)) (IsPermutation-refl files);
    in_order = sorted;
    others = λ ranges file c has. c;
  }

  -- none is left
  pub left_none : {old : List NewFile} → AreLeft cmp key old [] → TakesNextFile cmp key old None []
  left_none left = record {
    passed = left.passed;
    once = left.once;
    in_order = left.in_order;
    none_left = λ e. refl;
    first = λ ranges. tt;
    others = λ ranges file c has. inr (left.others ranges file c has);
  }

  -- a file that is left was there
  was_there : {old new : List NewFile} (left : AreLeft cmp key old new) (file : NewFile) → Contains new file → Contains old file
  was_there {old} {new} left file c =
      Contains-permutation (new ++ left.passed) old file (IsPermutation-sym old (new ++ left.passed) left.once) (Contains-append_left new left.passed file c)

  -- ---- files of level 0

  module _ {old : List NewFile} (older : List NewFile) (file : NewFile) (left : AreLeft cmp key old (older ++ file ∷ [])) where
    last_left : (other : NewFile) → Contains older other → Contains old other
    last_left other c = was_there left other (Contains-append_left older (file ∷ []) other c)

    last_once : IsPermutation old (older ++ file ∷ left.passed)
    last_once = subst (IsPermutation old) (append_assoc older (file ∷ []) left.passed) left.once

    -- the last one is passed over
    pub last_passed : (IsInRange cmp file key → ⊥) → AreLeft cmp key old older
    last_passed out = record {
      passed = file ∷ left.passed;
      once = last_once;
      in_order = in_order_front cmp older (file ∷ []) left.in_order;
      others = λ ranges other c has. ⊎_elim
          (λ (there : Contains older other). there)
          (λ (same : file ≡ other). absurd (out (subst (λ f. IsInRange cmp f key) (sym same) has)))
          (Contains-push_cases older file other (left.others ranges other c has));
    }

    -- or taken
    pub last_taken : IsTotalOrder cmp → ((other : NewFile) → Contains old other → other.level ≡ 0) → IsInRange cmp file key → TakesNextFile cmp key old (Some file) older
    last_taken total level_zero has = record {
      passed = left.passed;
      once = IsPermutation-trans old (older ++ file ∷ left.passed) (file ∷ (older ++ left.passed)) last_once (IsPermutation-middle older file left.passed);
      in_order = in_order_front cmp older (file ∷ []) left.in_order;
      none_left = λ e. cc;
      first = λ ranges. (
        has,
        all_from_contains (IsTriedBefore file) older (λ other c.
            let zero_file = level_zero file (was_there left file (Contains-push older file)) in
            let zero_other = level_zero other (last_left other c) in
            inr (zero_file, zero_other, number_up_to cmp total older file left.in_order zero_file other c zero_other)),
      );
      others = λ ranges other c in_range. ⊎_elim
          (λ (there : Contains older other). inr there)
          (λ (same : file ≡ other). inl (ap Some same))
          (Contains-push_cases older file other (left.others ranges other c in_range));
    }

  -- ---- files of a deeper level

  module _ {old : List NewFile} (part rest : List NewFile) (level : ℕ) (deep : 0 < level) (left : AreLeft cmp key old (part ++ rest))
      (here : (file : NewFile) → Contains part file → file.level ≡ level) (below : (file : NewFile) → Contains rest file → level < file.level) where
    part_left : (other : NewFile) → Contains part other → Contains old other
    part_left other c = was_there left other (Contains-append_left part rest other c)

    -- they are apart where those of each level are
    part_disjoint : AreDisjointLevels cmp old → AreDisjointRanges cmp part
    part_disjoint levels = record {
      ordered = λ file c. (levels level deep).ordered file (at_level file c);
      apart = λ a b c d. (levels level deep).apart a b (at_level a c) (at_level b d);
    }
      where
        at_level : (file : NewFile) → Contains part file → Contains (files_of_level level old) file
        at_level file c = passes_kept (λ (f : NewFile). f.level == level) old file (part_left file c) (eq-eqb file.level level (here file c))

    rest_first : (these : List NewFile) → IsPermutation part these → IsPermutation old (these ++ (rest ++ left.passed))
    rest_first these same = IsPermutation-trans old ((part ++ rest) ++ left.passed) (these ++ (rest ++ left.passed)) left.once
        (subst (λ files. IsPermutation files (these ++ (rest ++ left.passed))) (sym (append_assoc part rest left.passed)) (IsPermutation-append_left (rest ++ left.passed) part these same))

    -- none of them has the key
    pub part_passed : (AreDisjointRanges cmp part → IsFileFor cmp part key None) → AreLeft cmp key old rest
    part_passed none = record {
      passed = left.passed ++ part;
      once = subst (IsPermutation old) (append_assoc rest left.passed part)
          (IsPermutation-trans old (part ++ (rest ++ left.passed)) ((rest ++ left.passed) ++ part) (rest_first part (IsPermutation-refl part)) (IsPermutation-append_comm part (rest ++ left.passed)));
      in_order = in_order_back cmp part rest left.in_order;
      others = λ levels other c has. ⊎_elim
          (λ (there : Contains part other). let no = (none (part_disjoint levels)).only other there has in cc)
          (λ (more : Contains rest other). more)
          (Contains-append_cases part rest other (left.others levels other c has));
    }

    -- the one that has it is taken
    pub part_taken : (file : NewFile) → Contains part file → (AreDisjointRanges cmp part → IsFileFor cmp part key (Some file)) → TakesNextFile cmp key old (Some file) rest
    part_taken file c found = record {
      passed = left.passed ++ remove part c.0;
      once = IsPermutation-trans old (file ∷ (remove part c.0 ++ (rest ++ left.passed))) (file ∷ (rest ++ (left.passed ++ remove part c.0)))
          (rest_first (file ∷ remove part c.0) (IsPermutation-remove part c.0 file c.1 (sym c.2)))
          (IsPermutation-cons file (remove part c.0 ++ (rest ++ left.passed)) (rest ++ (left.passed ++ remove part c.0))
          (subst (IsPermutation (remove part c.0 ++ (rest ++ left.passed))) (append_assoc rest left.passed (remove part c.0)) (IsPermutation-append_comm (remove part c.0) (rest ++ left.passed))));
      in_order = in_order_back cmp part rest left.in_order;
      none_left = λ e. cc;
      first = λ levels. (
        (found (part_disjoint levels)).has_key.1,
        all_from_contains (IsTriedBefore file) rest (λ other d.
            let at = here file c in let deeper = below other d in inl (omega (arith, at, deeper))),
      );
      others = λ levels other d has. ⊎_elim
          (λ (there : Contains part other). inl ((found (part_disjoint levels)).only other there has))
          (λ (more : Contains rest other). inr more)
          (Contains-append_cases part rest other (left.others levels other d has));
    }

  -- a file that is left, and the one that is taken, were there
  pub stays_left : {old new : List NewFile} {next : Option NewFile} → TakesNextFile cmp key old next new → (file : NewFile) → Contains new file → Contains old file
  stays_left {old} {new} {next} takes file c =
      Contains-permutation (option_to_list next ++ (new ++ takes.passed)) old file (IsPermutation-sym old (option_to_list next ++ (new ++ takes.passed)) takes.once)
      (Contains-append_right (option_to_list next) (new ++ takes.passed) file (Contains-append_left new takes.passed file c))

  pub is_one : {old new : List NewFile} {file : NewFile} → TakesNextFile cmp key old (Some file) new → Contains old file
  is_one {old} {new} {file} takes =
      Contains-permutation (file ∷ (new ++ takes.passed)) old file (IsPermutation-sym old (file ∷ (new ++ takes.passed)) takes.once) (in_front file (new ++ takes.passed))

  -- ---- both

  module _ (newest deeper : List NewFile) (level_zero : (file : NewFile) → Contains newest file → file.level ≡ 0) (deep : (file : NewFile) → Contains deeper file → 0 < file.level) where
    abbrev pub all_files : List NewFile
    all_files = newest ++ deeper

    -- files of level 0 are in no other level
    no_levels : AreDisjointLevels cmp newest
    no_levels level below = record { ordered = λ one c. absurd (never one c); apart = λ a b c d. absurd (never a c) }
      where
        never : (one : NewFile) → Contains (files_of_level level newest) one → ⊥
        never one c = let kept = kept_passes (λ (f : NewFile). f.level == level) newest one c in
            let at = eqb-true one.level level kept.1 in let up = level_zero one kept.0 in omega (arith, at, up, below)

    pub taken_of_newest : {file : NewFile} {left : List NewFile} → AreInVersionOrder cmp deeper → TakesNextFile cmp key newest (Some file) left → TakesNextFile cmp key all_files (Some file) (left ++ deeper)
    taken_of_newest {file} {left} sorted takes = record {
      passed = takes.passed;
      once = IsPermutation-trans all_files ((file ∷ (left ++ takes.passed)) ++ deeper) (file ∷ ((left ++ deeper) ++ takes.passed))
          (IsPermutation-append_left deeper newest (file ∷ (left ++ takes.passed)) takes.once)
          (IsPermutation-cons file ((left ++ takes.passed) ++ deeper) ((left ++ deeper) ++ takes.passed) moved);
      in_order = in_order_both cmp left deeper takes.in_order sorted (λ a b c d. let up = level_zero a (stays_left takes a c) in let down = deep b d in omega (arith, up, down));
      none_left = λ e. cc;
      first = λ levels. let one = takes.first no_levels in (
        one.0,
        all_from_contains (IsTriedBefore file) (left ++ deeper) (λ other c. ⊎_elim
            (λ (d : Contains left other). All-contains (IsTriedBefore file) left other one.1 d)
            (λ (d : Contains deeper other). let up = level_zero file (is_one takes) in let down = deep other d in inl (omega (arith, up, down)))
            (Contains-append_cases left deeper other c)),
      );
      others = λ levels other c has. ⊎_elim
          (λ (d : Contains newest other). ⊎_elim
          (λ (same : Some file ≡ Some other). inl same)
          (λ (more : Contains left other). inr (Contains-append_left left deeper other more))
          (takes.others no_levels other d has))
          (λ (d : Contains deeper other). inr (Contains-append_right left deeper other d))
          (Contains-append_cases newest deeper other c);
    }
      where
        moved : IsPermutation ((left ++ takes.passed) ++ deeper) ((left ++ deeper) ++ takes.passed)
        moved = subst (λ files. IsPermutation files ((left ++ deeper) ++ takes.passed)) (sym (append_assoc left takes.passed deeper))
            (subst (IsPermutation (left ++ (takes.passed ++ deeper))) (sym (append_assoc left deeper takes.passed))
            (IsPermutation-append_right left (takes.passed ++ deeper) (deeper ++ takes.passed) (IsPermutation-append_comm takes.passed deeper)))

    pub taken_of_deeper : {next : Option NewFile} {gone left : List NewFile} → TakesNextFile cmp key newest None gone → TakesNextFile cmp key deeper next left → TakesNextFile cmp key all_files next (gone ++ left)
    taken_of_deeper {next} {gone} {left} none takes = subst (λ files. TakesNextFile cmp key all_files next (files ++ left)) (sym (none.none_left refl)) taken
      where
        deeper_levels : AreDisjointLevels cmp all_files → AreDisjointLevels cmp deeper
        deeper_levels levels level below = record {
          ordered = λ file c. (levels level below).ordered file (more file c);
          apart = λ a b c d. (levels level below).apart a b (more a c) (more b d);
        }
          where
            more : (file : NewFile) → Contains (files_of_level level deeper) file → Contains (files_of_level level all_files) file
            more file c = let kept = kept_passes (λ (f : NewFile). f.level == level) deeper file c in
                passes_kept (λ (f : NewFile). f.level == level) all_files file (Contains-append_right newest deeper file kept.0) kept.1

        in_newest : (file : NewFile) → Contains newest file → IsInRange cmp file key → ⊥
        in_newest file d has = ⊎_elim
            (λ (same : None ≡ Some file). cc)
            (λ (more : Contains gone file). in_none file (subst (λ files. Contains files file) (none.none_left refl) more))
            (none.others no_levels file d has)

        taken : TakesNextFile cmp key all_files next left
        taken = record {
          passed = takes.passed ++ newest;
          once = IsPermutation-trans all_files (deeper ++ newest) (option_to_list next ++ (left ++ (takes.passed ++ newest))) (IsPermutation-append_comm newest deeper)
              (subst (IsPermutation (deeper ++ newest)) (append_assoc (option_to_list next) (left ++ takes.passed) newest ∙ ap (λ files. option_to_list next ++ files) (append_assoc left takes.passed newest))
              (IsPermutation-append_left newest deeper (option_to_list next ++ (left ++ takes.passed)) takes.once));
          in_order = takes.in_order;
          none_left = takes.none_left;
          first = λ levels. takes.first (deeper_levels levels);
          others = λ levels file c has. ⊎_elim
              (λ (d : Contains newest file). absurd (in_newest file d has))
              (λ (d : Contains deeper file). takes.others (deeper_levels levels) file d has)
              (Contains-append_cases newest deeper file c);
        }

-- ---- the first level of deeper files

none_pass : {A : Type 0} (n : A → ℕ) (least : ℕ) (xs : List A) → All (λ x. least < n x) xs → filter (λ x. n x == least) xs ≡ []
none_pass n least [] all = refl
none_pass n least (x ∷ xs) all =
    let more = All-head (λ y. least < n y) x xs all in
    let fails : (n x == least) ≡ false = is_false (n x == least) (λ t. let e = eqb-true (n x) least t in omega (arith, e, more)) in
    ap (λ b. cond b (x ∷ filter (λ y. n y == least) xs) (filter (λ y. n y == least) xs)) fails ∙ none_pass n least xs (All-tail (λ y. least < n y) x xs all)

-- elements of the least number come first
pub first_part : {A : Type 0} (n : A → ℕ) (least : ℕ) (xs : List A) → IsNonDecreasingBy n xs → All (λ x. least ≤ n x) xs
    → (xs ≡ filter (λ x. n x == least) xs ++ drop (length (filter (λ x. n x == least) xs)) xs) × All (λ x. least < n x) (drop (length (filter (λ x. n x == least) xs)) xs)
first_part n least [] rise all = (refl, All-nil (λ x. least < n x))
first_part {A} n least (x ∷ xs) rise all =
    by (first_part n least xs (λ i j d order within. rise (suc i) (suc j) d (omega (arith, order)) (omega (arith, within))) (All-tail (λ y. least ≤ n y) x xs all)) (n x == least) refl
  where
    More : Type 0
    More = let part = filter (λ y. n y == least) xs in (xs ≡ part ++ drop (length part) xs) × All (λ y. least < n y) (drop (length part) xs)

    Rest : Bool → Type 0
    Rest b = let part = cond b (x ∷ filter (λ y. n y == least) xs) (filter (λ y. n y == least) xs) in
        (x ∷ xs ≡ part ++ drop (length part) (x ∷ xs)) × All (λ y. least < n y) (drop (length part) (x ∷ xs))

    by : More → (b : Bool) → (n x == least) ≡ b → Rest b
    by more true e = (ap (λ ys. x ∷ ys) more.0, more.1)
    by more false e =
        let least_here = All-head (λ y. least ≤ n y) x xs all in
        let above : least < n x = at_least (same_or_not (n x) least) in
        let each : All (λ y. least < n y) (x ∷ xs) = λ k d within. let up = rise 0 k d (omega arith) within in omega (arith, up, above) in
        let empty = none_pass n least xs (All-tail (λ y. least < n y) x xs each) in
        subst (λ (part : List A). (x ∷ xs ≡ part ++ drop (length part) (x ∷ xs)) × All (λ y. least < n y) (drop (length part) (x ∷ xs))) (sym empty) (refl, each)
      where
        at_least : (n x ≡ least) ⊎ (n x ≢ least) → least < n x
        at_least (inl same) = let t : (n x == least) ≡ true = eq-eqb (n x) least same in let no : true ≡ false = sym t ∙ e in cc
        at_least (inr other) = let low = All-head (λ y. least ≤ n y) x xs all in ⊎_elim (λ (less : least < n x). less) (λ (most : n x ≤ least). absurd (other (omega (arith, most, low)))) (cases_lt least (n x))

-- files in order are those of the first level, and after them those of the levels below it
pub record SplitsLevel (files part : List (ℕ × FileMetaData)) (level : ℕ) : Type 0 where
  pub some : 0 < length part
  pub fits : length part ≤ length files
  pub parts : map new_file_of files ≡ map new_file_of part ++ map new_file_of (drop (length part) files)
  pub here : (file : NewFile) → Contains (map new_file_of part) file → file.level ≡ level
  pub below : (file : NewFile) → Contains (map new_file_of (drop (length part) files)) file → level < file.level

splits_level : (level : ℕ) (files : List (ℕ × FileMetaData)) (first : ℕ × FileMetaData) → IsNonDecreasingBy (λ (file : ℕ × FileMetaData). file.0) files → slice_get files 0 ≡ Some first → level ≡ first.0
    → SplitsLevel files (at_level level files) level
splits_level level files first rise head level_is = record {
  some = let c = passes_kept (λ (f : ℕ × FileMetaData). f.0 == level) files first first_there (eq-eqb first.0 level (sym level_is)) in let more = c.1 in omega (arith, more);
  fits = let long = ap length parts.0 ∙ length-append (at_level level files) (drop (length (at_level level files)) files) in omega (arith, long);
  parts = ap (map new_file_of) parts.0 ∙ map-append new_file_of (at_level level files) (drop (length (at_level level files)) files);
  here = λ file c. let one = in_map new_file_of (at_level level files) file c in
      sym (ap (λ (f : NewFile). f.level) one.2) ∙ eqb-true one.0.0 level (kept_passes (λ (f : ℕ × FileMetaData). f.0 == level) files one.0 one.1).1;
  below = λ file c. let one = in_map new_file_of (drop (length (at_level level files)) files) file c in
      let more = All-contains (λ (f : ℕ × FileMetaData). level < f.0) (drop (length (at_level level files)) files) one.0 parts.1 one.1 in
      let same = ap (λ (f : NewFile). f.level) one.2 in omega (arith, more, same);
}
  where
    from_first : (xs : List (ℕ × FileMetaData)) → IsNonDecreasingBy (λ (file : ℕ × FileMetaData). file.0) xs → slice_get xs 0 ≡ Some first → Contains xs first × All (λ (f : ℕ × FileMetaData). level ≤ f.0) xs
    from_first [] up is = cc
    from_first (x ∷ xs) up is =
        let same : x ≡ first = cc in
        (subst (λ z. Contains (x ∷ xs) z) same (in_front x xs), λ k d within. let low = up 0 k d (omega arith) within in let level_same = ap (λ (f : ℕ × FileMetaData). f.0) same in omega (arith, low, level_same, level_is))

    first_there : Contains files first
    first_there = (from_first files rise head).0

    parts : (files ≡ at_level level files ++ drop (length (at_level level files)) files) × All (λ (f : ℕ × FileMetaData). level < f.0) (drop (length (at_level level files)) files)
    parts = first_part (λ (f : ℕ × FileMetaData). f.0) level files rise (from_first files rise head).1

pub level_split : (files part : List (ℕ × FileMetaData)) (first : ℕ × FileMetaData) → IsNonDecreasingBy (λ (file : ℕ × FileMetaData). file.0) files → slice_get files 0 ≡ Some first → part ≡ at_level first.0 files → SplitsLevel files part first.0
level_split files part first rise head is = subst (λ them. SplitsLevel files them first.0) (sym is) (splits_level first.0 files first rise head refl)

-- the rest of a list, as a slice has it
pub rest_is : {A : Type 0} (xs : List A) (n : ℕ) → take (length xs - n) (drop n xs) ≡ drop n xs
rest_is xs n = let long = length-drop n xs in take_all (length xs - n) (drop n xs) (omega (arith, long))

-- what holds of the level of each file
pub levels_are : (P : ℕ → Type 0) (files : List (ℕ × FileMetaData)) → All (λ file. P file.0) files → (file : NewFile) → Contains (map new_file_of files) file → P file.level
levels_are P files all file c =
    let one = in_map new_file_of files file c in
    subst (λ (f : NewFile). P f.level) one.2 (All-contains (λ (f : ℕ × FileMetaData). P f.0) files one.0 all one.1)

module _ {cmp : List ℕ → List ℕ → Ordering} (total : IsTotalOrder cmp) (key : List ℕ) {old : List NewFile} (files part : List (ℕ × FileMetaData)) (first : ℕ × FileMetaData) (left : AreLeft cmp key old (map new_file_of files))
    (head : slice_get files 0 ≡ Some first) (part_is : part ≡ at_level first.0 files) (deep : 0 < first.0) where
  pub level_at : SplitsLevel files part first.0
  level_at = level_split files part first (levels_rise cmp files left.in_order) head part_is

  level_left : AreLeft cmp key old (map new_file_of part ++ map new_file_of (drop (length part) files))
  level_left = subst (AreLeft cmp key old) level_at.parts left

  -- the files of a level are in the order of their keys
  level_rises : IsSortedByKey (λ (file : NewFile). file.smallest) (internal_cmp cmp) (map new_file_of part)
  level_rises = subst (IsSortedByKey (λ (file : NewFile). file.smallest) (internal_cmp cmp)) (sym (ap (map new_file_of) part_is ∙ at_level_map first.0 files))
      (keys_rise cmp first.0 deep (map new_file_of files) (level_in_order total first.0 (map new_file_of files) left.in_order))

  -- what the search in the level says
  abbrev pub LevelSays : Option NewFile → Type 0
  LevelSays found = IsSortedByKey (λ (file : NewFile). file.smallest) (internal_cmp cmp) (map new_file_of part) → AreDisjointRanges cmp (map new_file_of part) → IsFileFor cmp (map new_file_of part) key found

  pub level_passed : (found : Option NewFile) → is_some found ≡ false → LevelSays found → AreLeft cmp key old (map new_file_of (drop (length part) files))
  level_passed None none says = part_passed cmp key (map new_file_of part) (map new_file_of (drop (length part) files)) first.0 deep level_left level_at.here level_at.below (says level_rises)
  level_passed (Some file) none says = cc

  pub level_taken : (found : Option NewFile) → is_some found ≡ true → IfSome found (Contains (map new_file_of part)) → LevelSays found → TakesNextFile cmp key old found (map new_file_of (drop (length part) files))
  level_taken None some c says = cc
  level_taken (Some file) some c says = part_taken cmp key (map new_file_of part) (map new_file_of (drop (length part) files)) first.0 deep level_left level_at.here level_at.below file c (says level_rises)

-- a borrowed file is there where what it is is
pub some_copied : (found : Option (Bor (ℕ × FileMetaData))) → is_some (option_map new_file_of (option_copied found)) ≡ is_some found
some_copied None = refl
some_copied (Some file) = refl

-- the first of deeper files is deep
pub first_deep : (files : List (ℕ × FileMetaData)) (first : ℕ × FileMetaData) → All (λ file. 0 < file.0) files → slice_get files 0 ≡ Some first → 0 < first.0
first_deep [] first all is = cc
first_deep (file ∷ files) first all is = subst (λ (f : ℕ × FileMetaData). 0 < f.0) (let same : file ≡ first = cc in same) (All-head (λ (f : ℕ × FileMetaData). 0 < f.0) file files all)

-- ---- level 0 and the deeper levels

-- the files of level 0 come first
pub zero_first : (files : List (ℕ × FileMetaData)) → IsNonDecreasingBy (λ (file : ℕ × FileMetaData). file.0) files → IsPartitionedBy (λ (file : ℕ × FileMetaData). file.0 == 0) files
zero_first files rise i j d order within zero_later =
    let up = rise i j d (omega (arith, order)) within in
    let none = eqb-true (get_or files j d).0 0 zero_later in
    eq-eqb (get_or files i d).0 0 (omega (arith, up, none))

pub parted_at : (files : List (ℕ × FileMetaData)) (count : ℕ) → count ≤ length files
    → IsPartitionPoint (λ (f : ℕ × FileMetaData). (f.0 == 0) ≡ true) (λ (f : ℕ × FileMetaData). (f.0 == 0) ≡ false) files count
    → All (λ (f : ℕ × FileMetaData). f.0 ≡ 0) (take count files) × All (λ (f : ℕ × FileMetaData). 0 < f.0) (take (length files - count) (drop count files))
parted_at files count bound point = (
  λ k d within.
      let less : k < count = let long = length-take count files in omega (arith, within, long, bound) in
      ap (λ (f : ℕ × FileMetaData). f.0) (get_or-take count files k d less) ∙ eqb-true (get_or files k d).0 0 (point.0 k d (omega arith) less),
  subst (All (λ (f : ℕ × FileMetaData). 0 < f.0)) (sym (rest_is files count)) (λ k d within.
      let long = length-drop count files in
      let same = ap (λ (f : ℕ × FileMetaData). f.0) (get_or-drop count files k d) in
      let other = point.1 (count + k) d (omega arith) (omega (arith, within, long)) in
      let above = not_zero (get_or files (count + k) d).0 other in
      omega (arith, same, above)),
)
  where
    not_zero : (n : ℕ) → (n == 0) ≡ false → 0 < n
    not_zero zero e = cc
    not_zero (suc n) e = omega arith

-- a list of no length
pub empty : {A : Type 0} (xs : List A) → length xs ≡ 0 → xs ≡ []
empty [] none = refl
empty (x ∷ xs) none = absurd (omega (arith, none))

pub no_first : {A : Type 0} (xs : List A) → slice_get xs 0 ≡ None → xs ≡ []
no_first [] none = refl
no_first (x ∷ xs) none = cc

-- the number and the size of each file have 64 bits
pub each_fits : (files : List (ℕ × FileMetaData)) → FilesFit files → (file : NewFile)
    → Contains (map new_file_of files) file → (file.number < 2 ^ 64) × (file.size < 2 ^ 64)
each_fits files fit file c =
    let one = in_map new_file_of files file c in
    subst (λ (f : NewFile). (f.number < 2 ^ 64) × (f.size < 2 ^ 64)) one.2
    (All-contains (λ (f : ℕ × FileMetaData). (f.1.num < 2 ^ 64) × (f.1.size < 2 ^ 64)) files one.0 fit one.1)

-- what holds of the size of each file
pub sizes_are : (P : ℕ → Type 0) (files : List (ℕ × FileMetaData)) → All (λ file. P file.1.size) files → (file : NewFile) → Contains (map new_file_of files) file → P file.size
sizes_are P files all file c =
    let one = in_map new_file_of files file c in
    subst (λ (f : NewFile). P f.size) one.2 (All-contains (λ (f : ℕ × FileMetaData). P f.1.size) files one.0 all one.1)

-- fewer files are left where one is taken
pub fewer_left : {cmp : List ℕ → List ℕ → Ordering} {key : List ℕ} {old new : List NewFile} {file : NewFile} → TakesNextFile cmp key old (Some file) new → length new < length old
fewer_left {old = old} {new = new} {file = file} takes =
    let long = length_permutation old (file ∷ (new ++ takes.passed)) takes.once in
    let parts = length-append new takes.passed in omega (arith, long, parts)
