-- The first compressor with an id, in a list that is changed.
use Rattle.std.proofs.Common.{◌≡◌, ◌==◌, ◌<◌, ◌≤◌, ◌+◌, ℕ, suc, zero, Bool, true, false, not, cond, if◌then◌else◌, List, [], ◌∷◌, ◌++◌, length, map, Option, Some, None, get_or, slice_set, refl, sym, ◌∙◌, ap, subst, arith}
use Rattle.std.specs.List.{position_or_len}
use Rattle.std.proofs.lemmas.Bool.{eqb-true, eq-eqb}
use Rattle.leveldb_env.specs.Compressor.{Coding, Codings, plain, plain_codings, no_codings, first_coding, with_coding}

-- a second choice by the same test
shadow : {X : Type 0} (b : Bool) (x y z : X) → cond b x z ≡ cond b x (cond b y z)
shadow true x y z = refl
shadow false x y z = refl

-- two choices, not both of which are made
swap : {X : Type 0} (b c : Bool) (x y z : X) → (b ≡ true → c ≡ true → ⊥) → cond b x (cond c y z) ≡ cond c y (cond b x z)
swap true true x y z apart = absurd (apart refl refl)
swap true false x y z apart = refl
swap false true x y z apart = refl
swap false false x y z apart = refl

-- the id 0 where blocks are stored as they are
pub plain_here : (b : Bool) (id : ℕ) → b ≡ true → id ≡ 0 → (if b then plain_codings else no_codings) id ≡ Some plain
plain_here b id is zero_is = ap (λ c. (if c then plain_codings else no_codings) id) is ∙ ap plain_codings zero_is

-- another id, or a list where they are not
pub plain_not : (b : Bool) (id : ℕ) → (b ≡ true → id ≡ 0 → ⊥) → (if b then plain_codings else no_codings) id ≡ None
plain_not false id other = refl
plain_not true id other = by (id == 0) refl
  where
    by : (c : Bool) → (id == 0) ≡ c → cond c (Some plain) None ≡ None
    by true same = absurd (other refl (eqb-true id 0 same))
    by false none = refl

module _ {A : Type 0} (id_of : A → ℕ) (id : ℕ) where
  abbrev has : A → Bool
  has x = id_of x == id

  -- how far the compressors have another id
  abbrev place : List A → ℕ
  place xs = position_or_len has xs

  -- one more has another id
  pub one_farther : (xs : List A) (n : ℕ) (x : A) → n < length xs → get_or xs n x ≡ x → has x ≡ false → n ≤ place xs → n + 1 ≤ place xs
  one_farther [] n x there at none within = absurd (omega (arith, there))
  one_farther (y ∷ ys) zero x there at none within =
      subst (λ b. 0 + 1 ≤ cond (not b) (1 + place ys) 0) (sym (ap has at ∙ none)) (omega arith)
  one_farther (y ∷ ys) (suc n) x there at none within = by (has y) within (one_farther ys n x (omega (arith, there)) at none)
    where
      by : (b : Bool) → suc n ≤ cond (not b) (1 + place ys) 0 → (n ≤ place ys → n + 1 ≤ place ys) → suc n + 1 ≤ cond (not b) (1 + place ys) 0
      by true past rest = absurd (omega (arith, past))
      by false within rest = omega (arith, rest (omega (arith, within)))

  -- the first with this id
  pub first_here : (xs : List A) (n : ℕ) (x : A) → n < length xs → get_or xs n x ≡ x → has x ≡ true → n ≤ place xs → n ≡ place xs
  first_here [] n x there at found within = absurd (omega (arith, there))
  first_here (y ∷ ys) zero x there at found within = ap (λ b. cond (not b) (1 + place ys) 0) (sym (ap has at ∙ found))
  first_here (y ∷ ys) (suc n) x there at found within = by (has y) within (first_here ys n x (omega (arith, there)) at found)
    where
      by : (b : Bool) → suc n ≤ cond (not b) (1 + place ys) 0 → (n ≤ place ys → n ≡ place ys) → suc n ≡ cond (not b) (1 + place ys) 0
      by true past rest = absurd (omega (arith, past))
      by false within rest = omega (arith, rest (omega (arith, within)))

  -- it has this id
  pub id_here : (xs : List A) (x : A) → place xs < length xs → get_or xs (place xs) x ≡ x → id_of x ≡ id
  id_here [] x there at = absurd (omega (arith, there))
  id_here (y ∷ ys) x there at = by (has y) refl there at (id_here ys x)
    where
      by : (b : Bool) → has y ≡ b → cond (not b) (1 + place ys) 0 < suc (length ys) → get_or (y ∷ ys) (cond (not b) (1 + place ys) 0) x ≡ x
          → (place ys < length ys → get_or ys (place ys) x ≡ x → id_of x ≡ id) → id_of x ≡ id
      by true found there at rest = ap id_of (sym at) ∙ eqb-true (id_of y) id found
      by false none there at rest =
          let one : 1 + place ys ≡ suc (place ys) = omega arith in
          rest (omega (arith, there)) (subst (λ n. get_or (y ∷ ys) n x ≡ x) one at)

module _ {A : Type 0} (id_of : A → ℕ) (coding_of : A → Coding) (otherwise : Codings) (id : ℕ) where
  abbrev pair : A → ℕ × Coding
  pair x = (id_of x, coding_of x)

  abbrev codings : List A → Codings
  codings xs = first_coding (map pair xs) otherwise

  abbrev test : A → Bool
  test x = id_of x == id

  abbrev first : List A → ℕ
  first xs = position_or_len test xs

  coding_first : (xs : List A) (d : A) → first xs < length xs → codings xs id ≡ Some (coding_of (get_or xs (first xs) d))
  coding_first [] d there = absurd (omega (arith, there))
  coding_first (y ∷ ys) d there = by (test y) there (coding_first ys d)
    where
      by : (b : Bool) → cond (not b) (1 + first ys) 0 < suc (length ys) → (first ys < length ys → codings ys id ≡ Some (coding_of (get_or ys (first ys) d)))
          → cond b (Some (coding_of y)) (codings ys id) ≡ Some (coding_of (get_or (y ∷ ys) (cond (not b) (1 + first ys) 0) d))
      by true there rest = refl
      by false there rest =
          let one : suc (first ys) ≡ 1 + first ys = omega arith in
          rest (omega (arith, there)) ∙ ap (λ n. Some (coding_of (get_or (y ∷ ys) n d))) one

  -- the coding of the id where a compressor has it
  pub coding_here : (xs : List A) (at : ℕ) (d : A) → (at < length xs) × (at ≡ first xs) → codings xs id ≡ Some (coding_of (get_or xs at d))
  coding_here xs at d there =
      coding_first xs d (subst (λ n. n < length xs) there.1 there.0) ∙ ap (λ n. Some (coding_of (get_or xs n d))) (sym there.1)

  -- its coding where none has it
  pub coding_beyond : (xs : List A) → length xs ≤ first xs → codings xs id ≡ otherwise id
  coding_beyond [] past = refl
  coding_beyond (y ∷ ys) past = by (test y) past (coding_beyond ys)
    where
      by : (b : Bool) → suc (length ys) ≤ cond (not b) (1 + first ys) 0 → (length ys ≤ first ys → codings ys id ≡ otherwise id)
          → cond b (Some (coding_of y)) (codings ys id) ≡ otherwise id
      by true past rest = absurd (omega (arith, past))
      by false past rest = rest (omega (arith, past))

  -- another compressor before it has another id
  apart : (y : A) (other : ℕ) → test y ≡ false → (id_of y == other) ≡ true → (id == other) ≡ true → ⊥
  apart y other none this that =
      let clash : true ≡ false = sym (eq-eqb (id_of y) id (eqb-true (id_of y) other this ∙ sym (eqb-true id other that))) ∙ none in
      cc

  module _ (x : A) (is : id_of x ≡ id) (other : ℕ) where
    abbrev Changes : List A → List A → Type 0
    Changes from to = codings to other ≡ with_coding (codings from) id (coding_of x) other

    -- a change after a compressor with another id
    changes_after : (y : A) (ys zs : List A) → test y ≡ false → Changes ys zs → Changes (y ∷ ys) (y ∷ zs)
    changes_after y ys zs none rest =
        ap (λ (c : Option Coding). cond (id_of y == other) (Some (coding_of y)) c) rest
        ∙ swap (id_of y == other) (id == other) (Some (coding_of y)) (Some (coding_of x)) (codings ys other) (apart y other none)

    first_replaced : (xs : List A) → first xs < length xs → Changes xs (slice_set xs (first xs) x)
    first_replaced [] there = absurd (omega (arith, there))
    first_replaced (y ∷ ys) there = by (test y) refl there (first_replaced ys)
      where
        by : (b : Bool) → test y ≡ b → cond (not b) (1 + first ys) 0 < suc (length ys)
            → (first ys < length ys → Changes ys (slice_set ys (first ys) x))
            → Changes (y ∷ ys) (slice_set (y ∷ ys) (cond (not b) (1 + first ys) 0) x)
        by true same there rest =
            ap (λ n. cond (n == other) (Some (coding_of x)) (codings ys other)) is
            ∙ shadow (id == other) (Some (coding_of x)) (Some (coding_of y)) (codings ys other)
            ∙ ap (λ n. cond (id == other) (Some (coding_of x)) (cond (n == other) (Some (coding_of y)) (codings ys other))) (sym (eqb-true (id_of y) id same))
        by false none there rest =
            let one : 1 + first ys ≡ suc (first ys) = omega arith in
            ap (λ n. codings (slice_set (y ∷ ys) n x) other) one
            ∙ changes_after y ys (slice_set ys (first ys) x) none (rest (omega (arith, there)))

    last_pushed : (xs : List A) → length xs ≤ first xs → Changes xs (xs ++ x ∷ [])
    last_pushed [] past = ap (λ n. cond (n == other) (Some (coding_of x)) (otherwise other)) is
    last_pushed (y ∷ ys) past = by (test y) refl past (last_pushed ys)
      where
        by : (b : Bool) → test y ≡ b → suc (length ys) ≤ cond (not b) (1 + first ys) 0 → (length ys ≤ first ys → Changes ys (ys ++ x ∷ []))
            → Changes (y ∷ ys) (y ∷ ys ++ x ∷ [])
        by true same past rest = absurd (omega (arith, past))
        by false none past rest = changes_after y ys (ys ++ x ∷ []) none (rest (omega (arith, past)))

  -- a compressor in the place of the first with this id changes the coding of this id
  pub replaced : (xs : List A) (at : ℕ) (x y : A) → (at < length xs) × (at ≡ first xs) → get_or xs at y ≡ y → id_of x ≡ id_of y
      → codings (slice_set xs at x) ≡ with_coding (codings xs) id (coding_of x)
  replaced xs at x y there is same = λ i other. by other i
    where
      found : id_of y ≡ id
      found = id_here id_of id xs y (subst (λ n. n < length xs) there.1 there.0) (subst (λ n. get_or xs n y ≡ y) there.1 is)

      by : (other : ℕ) → codings (slice_set xs at x) other ≡ with_coding (codings xs) id (coding_of x) other
      by other =
          ap (λ n. codings (slice_set xs n x) other) there.1
          ∙ first_replaced x (same ∙ found) other xs (subst (λ n. n < length xs) there.1 there.0)

  -- and so does one after all others, where none had it
  pub pushed : (xs : List A) (x : A) → length xs ≤ first xs → id_of x ≡ id → codings (xs ++ x ∷ []) ≡ with_coding (codings xs) id (coding_of x)
  pushed xs x past is = λ i other. last_pushed x is other xs past i
