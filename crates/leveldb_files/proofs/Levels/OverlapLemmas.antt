-- Ranges of user keys, and which files overlap them.
use Rattle.std.proofs.Common.{◌≡◌, ◌≢◌, ◌∙◌, ◌∷◌, ◌+◌, ◌<◌, ◌≤◌, ◌⊎◌, ℕ, zero, suc, Bool, true, false, cond, List, [], Option, None, Some, ap, arith, get_or, inl, inr, length, map, not, refl, subst, sym, take}
use Rattle.std.proofs.lemmas.Bool.{and_parts}
use Rattle.std.proofs.lemmas.Cmp.{back_total}
use Rattle.std.proofs.lemmas.List.Folds.{list_any_at}
use Rattle.std.proofs.lemmas.List.Sums.{sum_by-cons}
use Rattle.std.proofs.lemmas.List.{get_or-map, length-map}
use Rattle.std.specs.Cmp.{IsTotalOrder}
use Rattle.std.specs.List.{count_by, find, list_any}
use Rattle.std.specs.Option.{option_map_or}
use Rattle.std.specs.Ordering.{flip_args, is_lt}
use Rattle.std.specs.Prelude.{◌&&◌, ◌||◌, Contains, Err, IfOk, IfSome, IsSomeAnd, Ok, Result}
use Rattle.std.specs.declared.cmp.Ordering.{Ordering}
use Rattle.std.specs.declared.cmp.Ordering.TheVariants.{Less}
use Rattle.leveldb_base.proofs.HistoryLemmas.{in_cases, in_front, in_none, in_rest}
use Rattle.leveldb_base.proofs.OrderLemmas.{is_false, le_le, lt_itself, lt_le, lt_turn, not_less, not_lt}
use Rattle.leveldb_base.specs.KeyTypes.{user_part}
use Rattle.leveldb_files.specs.Levels.Overlap.{AreInputs, Covers, HasWholeFiles, IsWidened, UserRange, is_above, is_below, overlapping, overlaps, sticks_out, widened_by}
use Rattle.leveldb_files.specs.Levels.Summary.{files_of_level}
use Rattle.leveldb_files.specs.Edits.Edit.{NewFile}

-- ---- tests of lists

module _ {A B : Type 0} (p : B → Bool) (f : A → B) where
  -- one element passes
  pub any_mapped : (xs : List A) (i : ℕ) (x : A) → i < length xs → get_or xs i x ≡ x → p (f x) ≡ true
      → list_any p (map f xs) ≡ true
  any_mapped xs i x within is passes =
      list_any_at p (map f xs) i (f x) (subst (λ (n : ℕ). i < n) (sym (length-map xs f)) within)
      (ap p (get_or-map f xs i x (f x) within ∙ ap f is) ∙ passes)

  find_yes : (y : B) (ys : List B) → p y ≡ true → find p (y ∷ ys) ≡ Some y
  find_yes y ys e = ap (λ b. cond b (Some y) (find p ys)) e

  find_no : (y : B) (ys : List B) → p y ≡ false → find p (y ∷ ys) ≡ find p ys
  find_no y ys e = ap (λ b. cond b (Some y) (find p ys)) e

  passed : (y : B) (ys : List B) → find p (y ∷ ys) ≡ None → p y ≡ false
  passed y ys e = is_false (p y) (λ t. let never = sym (find_yes y ys t) ∙ e in cc)

  -- none of the first passes, and the next does
  pub find_here : (xs : List A) (i : ℕ) (x : A) → i < length xs → get_or xs i x ≡ x
      → find p (map f (take i xs)) ≡ None → p (f x) ≡ true → find p (map f xs) ≡ Some (f x)
  find_here [] i x within is none passes = absurd (omega arith)
  find_here (y ∷ xs) zero x within is none passes =
      find_yes (f y) (map f xs) (ap (λ z. p (f z)) is ∙ passes) ∙ ap (λ z. Some (f z)) is
  find_here (y ∷ xs) (suc i) x within is none passes =
      let failed = passed (f y) (map f (take i xs)) none in
      find_no (f y) (map f xs) failed
      ∙ find_here xs i x (omega arith) is (sym (find_no (f y) (map f (take i xs)) failed) ∙ none) passes

  -- none of the first passes, nor does the next
  find_past : (xs : List A) (i : ℕ) (x : A) → i < length xs → get_or xs i x ≡ x
      → find p (map f (take i xs)) ≡ None → p (f x) ≡ false → find p (map f (take (suc i) xs)) ≡ None
  find_past [] i x within is none fails = absurd (omega arith)
  find_past (y ∷ xs) zero x within is none fails = find_no (f y) [] (ap (λ z. p (f z)) is ∙ fails)
  find_past (y ∷ xs) (suc i) x within is none fails =
      let failed = passed (f y) (map f (take i xs)) none in
      find_no (f y) (map f (take (suc i) xs)) failed
      ∙ find_past xs i x (omega arith) is (sym (find_no (f y) (map f (take i xs)) failed) ∙ none) fails

  -- the same with the next index as code has it
  pub find_next : (xs : List A) (i : ℕ) (x : A) → i < length xs → get_or xs i x ≡ x
      → find p (map f (take i xs)) ≡ None → p (f x) ≡ false → find p (map f (take (i + 1) xs)) ≡ None
  find_next xs i x within is none fails =
      let e : suc i ≡ i + 1 = omega arith in
      subst (λ (n : ℕ). find p (map f (take n xs)) ≡ None) e (find_past xs i x within is none fails)

module _ {B : Type 0} (p : B → Bool) where
  either : (y : B) (ys : List B) (found : B) (b : Bool) → p y ≡ b → find p (y ∷ ys) ≡ Some found
      → ((y ≡ found) × (p found ≡ true)) ⊎ (find p ys ≡ Some found)
  either y ys found true e is = let same : y ≡ found = let s = sym (find_yes p (λ (z : B). z) y ys e) ∙ is in cc in
      inl (same, subst (λ (z : B). p z ≡ true) same e)
  either y ys found false e is = inr (sym (find_no p (λ (z : B). z) y ys e) ∙ is)

  -- what is found is there, and passes
  pub found_there : (xs : List B) (found : B) → find p xs ≡ Some found → Contains xs found × (p found ≡ true)
  found_there [] found e = cc
  found_there (y ∷ ys) found e = by (found_there ys found) (either y ys found (p y) refl e)
    where
      by : (find p ys ≡ Some found → Contains ys found × (p found ≡ true))
          → ((y ≡ found) × (p found ≡ true)) ⊎ (find p ys ≡ Some found)
          → Contains (y ∷ ys) found × (p found ≡ true)
      by later (inl here) = (subst (Contains (y ∷ ys)) here.0 (in_front y ys), here.1)
      by later (inr rest) = let there = later rest in (in_rest y found ys there.0, there.1)

  -- where none is found none passes
  pub none_there : (xs : List B) → find p xs ≡ None → (x : B) → Contains xs x → p x ≡ false
  none_there [] e x c = absurd (in_none x c)
  none_there (y ∷ ys) e x c =
      let failed : p y ≡ false = passed p (λ (z : B). z) y ys e in
      by failed (none_there ys (sym (find_no p (λ (z : B). z) y ys failed) ∙ e) x) (in_cases y x ys c)
    where
      by : p y ≡ false → (Contains ys x → p x ≡ false) → (y ≡ x) ⊎ Contains ys x → p x ≡ false
      by failed later (inl same) = subst (λ (z : B). p z ≡ false) same failed
      by failed later (inr rest) = later rest

-- ---- counts

ones : (b c : Bool) → (b ≡ true → c ≡ true) → cond b 1 0 ≤ cond c 1 0
ones true true h = omega arith
ones true false h = let never = h refl in cc
ones false true h = omega arith
ones false false h = omega arith

nothing_counted : (b : Bool) → b ≡ false → cond {A = ℕ} b 1 0 ≡ 0
nothing_counted true e = cc
nothing_counted false e = refl

one_counted : (b : Bool) → b ≡ true → cond {A = ℕ} b 1 0 ≡ 1
one_counted true e = refl
one_counted false e = cc

module _ {B : Type 0} (p q : B → Bool) (passes : (x : B) → p x ≡ true → q x ≡ true) where
  no_more : (xs : List B) → count_by p xs ≤ count_by q xs
  no_more [] = omega arith
  no_more (y ∷ ys) =
      let one = ones (p y) (q y) (passes y) in
      let rest = no_more ys in
      let ps = sum_by-cons (λ (x : B). cond (p x) 1 0) y ys in
      let qs = sum_by-cons (λ (x : B). cond (q x) 1 0) y ys in
      omega arith

  -- fewer pass a test that is stricter for one of them
  pub fewer : (xs : List B) (x : B) → Contains xs x → p x ≡ false → q x ≡ true
      → count_by p xs < count_by q xs
  fewer [] x c fails holds = absurd (in_none x c)
  fewer (y ∷ ys) x c fails holds =
      let ps = sum_by-cons (λ (z : B). cond (p z) 1 0) y ys in
      let qs = sum_by-cons (λ (z : B). cond (q z) 1 0) y ys in
      by ps qs (λ later. fewer ys x later fails holds) (in_cases y x ys c)
    where
      by : count_by p (y ∷ ys) ≡ cond (p y) 1 0 + count_by p ys
          → count_by q (y ∷ ys) ≡ cond (q y) 1 0 + count_by q ys
          → (Contains ys x → count_by p ys < count_by q ys)
          → (y ≡ x) ⊎ Contains ys x → count_by p (y ∷ ys) < count_by q (y ∷ ys)
      by ps qs more (inl same) =
          let none : cond {A = ℕ} (p y) 1 0 ≡ 0 = nothing_counted (p y) (ap p same ∙ fails) in
          let one : cond {A = ℕ} (q y) 1 0 ≡ 1 = one_counted (q y) (ap q same ∙ holds) in
          let rest = no_more ys in
          omega arith
      by ps qs more (inr later) =
          let one = ones (p y) (q y) (passes y) in
          let rest = more later in
          omega arith

-- ---- ends of ranges, here the begin; the other end is that of the order turned round

module _ {cmp : List ℕ → List ℕ → Ordering} (total : IsTotalOrder cmp) where
  abbrev below : Option (List ℕ) → List ℕ → Bool
  below end key = option_map_or (λ first. is_lt (cmp key first)) end false

  abbrev Begins : Option (List ℕ) → Option (List ℕ) → Type 0
  Begins a b = IfSome a (λ key. IsSomeAnd b (λ first. cmp first key ≢ Less))

  abbrev moved : Option (List ℕ) → List ℕ → Option (List ℕ)
  moved end key = cond (below end key) (Some key) end

  begins_itself : (a : Option (List ℕ)) → Begins a a
  begins_itself None = tt
  begins_itself (Some key) = not_lt (cmp key key) (lt_itself total key)

  begins_trans : (a b c : Option (List ℕ)) → Begins a b → Begins b c → Begins a c
  begins_trans None b c p q = tt
  begins_trans (Some x) None c p q = absurd p
  begins_trans (Some x) (Some y) None p q = absurd q
  begins_trans (Some x) (Some y) (Some z) p q =
      not_lt (cmp z x) (le_le total x y z (not_less (cmp y x) p) (not_less (cmp z y) q))

  below_both : (a b : Option (List ℕ)) → Begins a b → (key : List ℕ) → below a key ≡ true → below b key ≡ true
  below_both None b p key e = cc
  below_both (Some x) None p key e = absurd p
  below_both (Some x) (Some y) p key e = lt_le total key x y e (not_less (cmp y x) p)

  moved_begins : (a : Option (List ℕ)) (key : List ℕ) → Begins (moved a key) a
  moved_begins None key = tt
  moved_begins (Some x) key = by (is_lt (cmp key x)) refl
    where
      by : (b : Bool) → is_lt (cmp key x) ≡ b → Begins (cond b (Some key) (Some x)) (Some x)
      by true e = not_lt (cmp x key) (lt_turn total key x e)
      by false e = begins_itself (Some x)

  moved_least : (o a : Option (List ℕ)) (key : List ℕ) → Begins o a → below o key ≡ false → Begins o (moved a key)
  moved_least None a key p e = tt
  moved_least (Some x) a key p e = by (below a key)
    where
      by : (b : Bool) → Begins (Some x) (cond b (Some key) a)
      by true = not_lt (cmp key x) e
      by false = p

  moved_past : (a : Option (List ℕ)) (key : List ℕ) → below (moved a key) key ≡ false
  moved_past a key = by (below a key) refl
    where
      by : (b : Bool) → below a key ≡ b → below (cond b (Some key) a) key ≡ false
      by true e = lt_itself total key
      by false e = e

-- ---- ranges

pub and_false_first : (a b : Bool) → a ≡ false → (a && b) ≡ false
and_false_first true b e = cc
and_false_first false b e = refl

pub and_false_second : (a b : Bool) → b ≡ false → (a && b) ≡ false
and_false_second true b e = e
and_false_second false b e = refl

or_false : (a b : Bool) → a ≡ false → b ≡ false → (a || b) ≡ false
or_false a b p q = cc

or_parts : (a b : Bool) → (a || b) ≡ false → (a ≡ false) × (b ≡ false)
or_parts true b e = cc
or_parts false b e = (refl, e)

or_more : (a b c d : Bool) → (a ≡ true → c ≡ true) → (b ≡ true → d ≡ true) → (a || b) ≡ true → (c || d) ≡ true
or_more true b c d p q e = ap (λ x. x || d) (p refl)
or_more false true false d p q e = q refl
or_more false true true d p q e = refl
or_more false false c d p q e = cc

nor_fewer : (a b c d : Bool) → (c ≡ true → a ≡ true) → (d ≡ true → b ≡ true)
    → (not a && not b) ≡ true → (not c && not d) ≡ true
nor_fewer true b c d p q e = cc
nor_fewer false true c d p q e = cc
nor_fewer false false true d p q e = let never = p refl in cc
nor_fewer false false false true p q e = let never = q refl in cc
nor_fewer false false false false p q e = refl

module _ (cmp : List ℕ → List ℕ → Ordering) where
  -- each range that covers the narrow one and has its files whole covers this one
  pub record IsWidening (files : List NewFile) (narrow range : UserRange) : Type 0 where
    pub covers : Covers cmp range narrow
    pub least : (other : UserRange) → Covers cmp other narrow → HasWholeFiles cmp files other
        → Covers cmp other range

  -- the file overlaps the range and sticks out of it
  abbrev pub is_partly_in : UserRange → NewFile → Bool
  is_partly_in range file = overlaps cmp range file && sticks_out cmp range file

module _ {cmp : List ℕ → List ℕ → Ordering} (total : IsTotalOrder cmp) where
  turned : IsTotalOrder (flip_args cmp)
  turned = back_total total

  pub covers_itself : (range : UserRange) → Covers cmp range range
  covers_itself range = record {
    begin = begins_itself total range.begin;
    end = begins_itself turned range.end;
  }

  covers_trans : (a b c : UserRange) → Covers cmp a b → Covers cmp b c → Covers cmp a c
  covers_trans a b c p q = record {
    begin = begins_trans total a.begin b.begin c.begin p.begin q.begin;
    end = begins_trans turned a.end b.end c.end p.end q.end;
  }

  widened_covers : (range : UserRange) (file : NewFile) → Covers cmp (widened_by cmp range file) range
  widened_covers range file = record {
    begin = moved_begins total range.begin (user_part file.smallest);
    end = moved_begins turned range.end (user_part file.largest);
  }

  -- what overlaps a range overlaps one that covers it
  overlaps_more : (range other : UserRange) → Covers cmp other range → (file : NewFile)
      → overlaps cmp range file ≡ true → overlaps cmp other file ≡ true
  overlaps_more range other covers file e =
      nor_fewer (is_below cmp range (user_part file.largest)) (is_above cmp range (user_part file.smallest))
      (is_below cmp other (user_part file.largest)) (is_above cmp other (user_part file.smallest))
      (below_both total other.begin range.begin covers.begin (user_part file.largest))
      (below_both turned other.end range.end covers.end (user_part file.smallest)) e

  -- what sticks out of a range that covers another sticks out of that one
  sticks_out_less : (range other : UserRange) → Covers cmp other range → (file : NewFile)
      → sticks_out cmp other file ≡ true → sticks_out cmp range file ≡ true
  sticks_out_less range other covers file e =
      or_more (is_below cmp other (user_part file.smallest)) (is_above cmp other (user_part file.largest))
      (is_below cmp range (user_part file.smallest)) (is_above cmp range (user_part file.largest))
      (below_both total other.begin range.begin covers.begin (user_part file.smallest))
      (below_both turned other.end range.end covers.end (user_part file.largest)) e

  sticks_out_no_more : (range : UserRange) (file : NewFile) → sticks_out cmp (widened_by cmp range file) file ≡ false
  sticks_out_no_more range file =
      or_false (is_below cmp (widened_by cmp range file) (user_part file.smallest))
      (is_above cmp (widened_by cmp range file) (user_part file.largest))
      (moved_past total range.begin (user_part file.smallest))
      (moved_past turned range.end (user_part file.largest))

  -- ---- a range that is widened file by file

  pub widening_starts : (files : List NewFile) (narrow : UserRange) → IsWidening cmp files narrow narrow
  widening_starts files narrow = record { covers = covers_itself narrow; least = λ other covers whole. covers }

  module _ (files : List NewFile) (narrow range : UserRange) (so_far : IsWidening cmp files narrow range) where
    pub widening_goes_on : (file : NewFile) → find (is_partly_in cmp range) files ≡ Some file
        → IsWidening cmp files narrow (widened_by cmp range file)
    widening_goes_on file found = record {
      covers = covers_trans (widened_by cmp range file) range narrow (widened_covers range file) so_far.covers;
      least = λ other covers whole.
          let there = found_there (is_partly_in cmp range) files file found in
          let parts = and_parts (overlaps cmp range file) (sticks_out cmp range file) there.1 in
          let wide = so_far.least other covers whole in
          let out = or_parts (is_below cmp other (user_part file.smallest)) (is_above cmp other (user_part file.largest))
          (whole file there.0 (overlaps_more range other wide file parts.0)) in
          record {
            begin = moved_least total other.begin range.begin (user_part file.smallest) wide.begin out.0;
            end = moved_least turned other.end range.end (user_part file.largest) wide.end out.1;
          };
    }

    pub widening_ends : find (is_partly_in cmp range) files ≡ None → IsWidened cmp files narrow range
    widening_ends none = record {
      covers = so_far.covers;
      closed = λ file there meets. second (overlaps cmp range file) (sticks_out cmp range file) meets
          (none_there (is_partly_in cmp range) files none file there);
      least = so_far.least;
    }
      where
        second : (a b : Bool) → a ≡ true → (a && b) ≡ false → b ≡ false
        second true b p q = q
        second false b p q = cc

  -- fewer files stick out of the wider range
  pub fewer_stick_out : (files : List NewFile) (range : UserRange) (file : NewFile)
      → find (is_partly_in cmp range) files ≡ Some file
      → count_by (sticks_out cmp (widened_by cmp range file)) files < count_by (sticks_out cmp range) files
  fewer_stick_out files range file found =
      let there = found_there (is_partly_in cmp range) files file found in
      fewer (sticks_out cmp (widened_by cmp range file)) (sticks_out cmp range)
      (sticks_out_less range (widened_by cmp range file) (widened_covers range file)) files file there.0
      (sticks_out_no_more range file) (and_parts (overlaps cmp range file) (sticks_out cmp range file) there.1).1

-- ---- the files that a compaction takes

module _ (cmp : List ℕ → List ℕ → Ordering) (level : ℕ) (narrow range : UserRange) (files inputs : List NewFile)
    (are : inputs ≡ overlapping cmp level range files) where
  -- in level 0 the range is widened
  pub inputs_of_zero : level ≡ 0 → IsWidened cmp (files_of_level level files) narrow range
      → AreInputs cmp level narrow files inputs
  inputs_of_zero zero_level wide = record {
    range = range;
    widened = λ e. wide;
    kept = λ deep. absurd (omega (arith, zero_level, deep));
    inputs_are = are;
  }

  -- in others it is kept
  pub inputs_of_deeper : (level ≡ 0 → ⊥) → range ≡ narrow → AreInputs cmp level narrow files inputs
  inputs_of_deeper deeper same = record {
    range = range;
    widened = λ e. absurd (deeper e);
    kept = λ deep. same;
    inputs_are = are;
  }

pub if_ok_more : {A E : Type 0} {P Q : A → Type 0} (result : Result A E) → IfOk result P
    → ((a : A) → P a → Q a) → IfOk result Q
if_ok_more (Ok a) p more = more a p
if_ok_more (Err e) p more = tt
