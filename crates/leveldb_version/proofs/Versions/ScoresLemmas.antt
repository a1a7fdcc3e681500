-- The level that asks for a compaction is the first of the greatest score.
use Rattle.std.proofs.Common.{◌≡◌, ◌⊎◌, ◌<◌, ◌≤◌, ◌*◌, ◌+◌, ◌-◌, [], ◌∷◌, fold, take, zero, suc, ℕ, Bool, true, false, List, Some, None, refl, ap, subst, inl, inr, ⊎_elim, arith}
use Rattle.std.specs.Prelude.{if◌then◌else◌, nat_le, nat_lt}
use Rattle.std.proofs.lemmas.Bool.{cases_lt, ltb-true, ltb-false, leb-true, le-leb}
use Rattle.std.proofs.Math.Nat.{lt_of_mul-lt-mul_right, mul-le-mul_right, mul-lt-mul_of_pos_right, mul_right_comm}
use Rattle.leveldb_files.proofs.Histories.SafeLemmas.{some_is}
use Rattle.leveldb_files.specs.Edits.Edit.{NewFile}
use Rattle.leveldb_version.specs.Versions.Scores.{IsFullest, ScoresTellLevel, fullest_level, is_fuller, level_by_score, level_limit, level_load}

below_as : (a b c d : ℕ) → a ≤ b → b < c → c ≡ d → a < d
below_as a b c d p q e = subst (λ n. a < n) e (omega (arith, p, q))

module _ (load limit : ℕ → ℕ) where
  -- the first level's score is greater
  abbrev IsOver : ℕ → ℕ → Type 0
  IsOver level other = load other * limit level < load level * limit other

  -- the second one's is no greater
  abbrev IsUpTo : ℕ → ℕ → Type 0
  IsUpTo level other = load other * limit level ≤ load level * limit other

  over_through : (a b c : ℕ) → 0 < limit c → IsOver a b → IsUpTo b c → IsOver a c
  over_through a b c pos over most = lt_of_mul-lt-mul_right (limit b)
      {m = load c * limit a} {n = load a * limit c}
      (below_as (load c * limit a * limit b) (load b * limit a * limit c)
      (load a * limit b * limit c) (load a * limit c * limit b) first
      (mul-lt-mul_of_pos_right {m = load b * limit a} {n = load a * limit b} {k = limit c} over pos)
      (mul_right_comm (load a) (limit b) (limit c)))
    where
      first : load c * limit a * limit b ≤ load b * limit a * limit c
      first = subst (λ n. n ≤ load b * limit a * limit c)
          (mul_right_comm (load c) (limit b) (limit a))
          (subst (λ n. load c * limit b * limit a ≤ n)
          (mul_right_comm (load b) (limit c) (limit a))
          (mul-le-mul_right {m = load c * limit b} {n = load b * limit c} (limit a) most))

  -- of the levels below n this is the first of the greatest score
  record IsBest (n best : ℕ) : Type 0 where
    known : best < n
    greatest : (other : ℕ) → other < n → IsUpTo best other
    first : (other : ℕ) → other < best → IsOver best other

  better : (n best : ℕ) → ((other : ℕ) → other < n → 0 < limit other) → IsBest n best → (b : Bool)
      → nat_lt (load best * limit n) (load n * limit best) ≡ b
      → IsBest (suc n) (if b then n else best)
  better n best pos is true e =
      let over = ltb-true (load best * limit n) (load n * limit best) e in
      record {
        known = omega arith;
        greatest = λ other less. ⊎_elim
            (λ (low : other < n).
            let more = over_through n best other (pos other low) over (is.greatest other low) in
            omega (arith, more))
            (λ (here : n ≤ other). let same : n ≡ other = omega (arith, here, less) in
            subst (IsUpTo n) same (omega arith))
            (cases_lt other n);
        first = λ other low. over_through n best other (pos other low) over (is.greatest other low);
      }
  better n best pos is false e =
      let most = ltb-false (load best * limit n) (load n * limit best) e in
      record {
        known = let low = is.known in omega (arith, low);
        greatest = λ other less. ⊎_elim
            (λ (low : other < n). is.greatest other low)
            (λ (here : n ≤ other). let same : n ≡ other = omega (arith, here, less) in
            subst (IsUpTo best) same most)
            (cases_lt other n);
        first = is.first;
      }

  -- there is one first_best
  one_best : (n a b : ℕ) → IsBest n a → IsBest n b → a ≡ b
  one_best n a b p q = by (cases_lt a b) (cases_lt b a)
    where
      never : (i j : ℕ) → IsBest n i → IsBest n j → i < j → ⊥
      never i j is other less =
          let over = other.first i less in
          let most = is.greatest j other.known in
          omega (arith, over, most)

      by : (a < b) ⊎ (b ≤ a) → (b < a) ⊎ (a ≤ b) → a ≡ b
      by (inl less) y = absurd (never a b p q less)
      by x (inl less) = absurd (never b a q p less)
      by (inr x) (inr y) = omega (arith, x, y)

limits_positive : (level : ℕ) → level < 6 → 0 < level_limit level
limits_positive zero less = omega arith
limits_positive (suc zero) less = omega arith
limits_positive (suc (suc zero)) less = omega arith
limits_positive (suc (suc (suc zero))) less = omega arith
limits_positive (suc (suc (suc (suc zero)))) less = omega arith
limits_positive (suc (suc (suc (suc (suc zero))))) less = omega arith
limits_positive (suc (suc (suc (suc (suc (suc n)))))) less = absurd (omega (arith, less))

module _ (files : List NewFile) where
  best_of : (n best : ℕ) → n < 6 → IsBest (level_load files) level_limit n best
      → IsBest (level_load files) level_limit (suc n)
      (if is_fuller files n best then n else best)
  best_of n best less is = better (level_load files) level_limit n best
      (λ other low. limits_positive other (omega (arith, low, less))) is (is_fuller files n best)
      refl

  first_best : IsBest (level_load files) level_limit 1 0
  first_best = record {
    known = omega arith;
    greatest = λ other less. let same : 0 ≡ other = omega (arith, less) in
        subst (IsUpTo (level_load files) level_limit 0) same (omega arith);
    first = λ other less. absurd (omega (arith, less));
  }

  best : IsBest (level_load files) level_limit 6 (fullest_level files)
  best = best_of 5 _ (omega arith) (best_of 4 _ (omega arith) (best_of 3 _ (omega arith)
      (best_of 2 _ (omega arith) (best_of 1 0 (omega arith) first_best))))

  fullest : IsFullest files (fullest_level files)
  fullest = record { known = best.known; greatest = best.greatest; first = best.first }

  as_best : (level : ℕ) → IsFullest files level
      → IsBest (level_load files) level_limit 6 level
  as_best level is = record { known = is.known; greatest = is.greatest; first = is.first }

pub scores_tell_level : ScoresTellLevel
scores_tell_level files level = (to, back)
  where
    to : level_by_score files ≡ Some level
        → IsFullest files level × (level_limit level ≤ level_load files level)
    to e = by (nat_le (level_limit (fullest_level files)) (level_load files (fullest_level files)))
        refl e
      where
        by : (b : Bool) → nat_le (level_limit (fullest_level files))
            (level_load files (fullest_level files)) ≡ b
            → (if b then Some (fullest_level files) else None) ≡ Some level
            → IsFullest files level × (level_limit level ≤ level_load files level)
        by true f g = subst (λ l. IsFullest files l × (level_limit l ≤ level_load files l))
            (some_is (fullest_level files) level g) (
              fullest files,
              leb-true (level_limit (fullest_level files))
                  (level_load files (fullest_level files)) f,
            )
        by false f g = absurd (let never : None ≡ Some level = g in cc)

    back : IsFullest files level × (level_limit level ≤ level_load files level)
        → level_by_score files ≡ Some level
    back is = subst (λ l. (if nat_le (level_limit l) (level_load files l) then Some l else None)
        ≡ Some level) same
        (ap (λ b. if b then Some level else None)
        (le-leb (level_limit level) (level_load files level) is.1))
      where
        same : level ≡ fullest_level files
        same = one_best (level_load files) level_limit 6 level (fullest_level files)
            (as_best files level is.0) (best files)

-- ---- the levels one after another

-- the levels that may ask, but for level 0
abbrev pub levels_from_one : List ℕ
levels_from_one = 1 ∷ 2 ∷ 3 ∷ 4 ∷ 5 ∷ []

-- one level more
pub fold_next : (step : ℕ → ℕ → ℕ) (level : ℕ) → 1 ≤ level → level < 6
    → fold step 0 (take (level + 1 - 1) levels_from_one)
    ≡ step (fold step 0 (take (level - 1) levels_from_one)) level
fold_next step zero low high = absurd (omega arith)
fold_next step (suc zero) low high = refl
fold_next step (suc (suc zero)) low high = refl
fold_next step (suc (suc (suc zero))) low high = refl
fold_next step (suc (suc (suc (suc zero)))) low high = refl
fold_next step (suc (suc (suc (suc (suc zero))))) low high = refl
fold_next step (suc (suc (suc (suc (suc (suc level)))))) low high = absurd (omega arith)
