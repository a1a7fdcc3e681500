-- A total order by its test whether a key is before another, and exact orders.
use Rattle.std.proofs.Common.{◌≡◌, ◌≢◌, ℕ, Bool, true, false, List, refl, sym, ◌∙◌, ap}
use Rattle.std.specs.declared.cmp.Ordering.{Ordering}
use Rattle.std.specs.declared.cmp.Ordering.TheVariants.{Less, Equal, Greater}
use Rattle.std.specs.Ordering.{ordering_reverse, is_lt, is_gt}
use Rattle.std.specs.Cmp.{IsTotalOrder}
use Rattle.std.specs.Cmp.Lexicographic.{bytes_decides}
use Rattle.std.specs.Str.{bytes_eq}
use Rattle.std.proofs.lemmas.Cmp.{upto}
use Rattle.leveldb_base.specs.Cmp.{IsExactOrder}
use Rattle.leveldb_base.specs.CmpLaws.{total_order}

-- ---- answers of a comparison, and of a test

pub lt_less : (o : Ordering) → is_lt o ≡ true → o ≡ Less
lt_less Less e = refl
lt_less Equal e = cc
lt_less Greater e = cc

pub not_less : (o : Ordering) → o ≢ Less → is_lt o ≡ false
not_less Less h = absurd (h refl)
not_less Equal h = refl
not_less Greater h = refl

pub not_lt : (o : Ordering) → is_lt o ≡ false → o ≢ Less
not_lt Less e = cc
not_lt Equal e = λ f. cc
not_lt Greater e = λ f. cc

reversed : (o : Ordering) → is_lt (ordering_reverse o) ≡ is_gt o
reversed Less = refl
reversed Equal = refl
reversed Greater = refl

less_turned : (o : Ordering) → o ≡ Less → is_lt (ordering_reverse o) ≡ false
less_turned Less e = refl
less_turned Equal e = cc
less_turned Greater e = cc

between : (o : Ordering) → is_lt o ≡ false → is_lt (ordering_reverse o) ≡ false → o ≡ Equal
between Less e f = cc
between Equal e f = refl
between Greater e f = cc

pub is_false : (b : Bool) → (b ≡ true → ⊥) → b ≡ false
is_false true h = absurd (h refl)
is_false false h = refl

pub is_true : (b : Bool) → (b ≡ false → ⊥) → b ≡ true
is_true true h = refl
is_true false h = absurd (h refl)

-- a test has one answer
pub both : {A : Type 0} (b : Bool) → b ≡ true → b ≡ false → A
both b t f = cc

-- the test whether bytes are the same
pub same_bytes : (a b : List ℕ) → bytes_eq a b ≡ true → a ≡ b
same_bytes a b e = (bytes_decides a b).0 e

pub bytes_same : (a b : List ℕ) → a ≡ b → bytes_eq a b ≡ true
bytes_same a b e = (bytes_decides a b).1 e

-- ---- total orders

-- an exact order is total
pub exact_total : {cmp : List ℕ → List ℕ → Ordering} → IsExactOrder cmp → IsTotalOrder cmp
exact_total exact = total_order exact.preorder (λ key. refl)

module _ {cmp : List ℕ → List ℕ → Ordering} (total : IsTotalOrder cmp) where
  -- a before b, and so b not before a
  pub lt_turn : (a b : List ℕ) → is_lt (cmp a b) ≡ true → is_lt (cmp b a) ≡ false
  lt_turn a b e = ap is_lt (total.antisymm b a) ∙ less_turned (cmp a b) (lt_less (cmp a b) e)

  -- a at or before b, b at or before c
  pub le_le : (a b c : List ℕ) → is_lt (cmp b a) ≡ false → is_lt (cmp c b) ≡ false → is_lt (cmp c a) ≡ false
  le_le a b c p q = back c a (upto total a b c (to b a p) (to c b q))
    where
      to : (x y : List ℕ) → is_lt (cmp x y) ≡ false → is_gt (cmp y x) ≡ false
      to x y e = sym (reversed (cmp y x)) ∙ ap is_lt (sym (total.antisymm x y)) ∙ e

      back : (x y : List ℕ) → is_gt (cmp y x) ≡ false → is_lt (cmp x y) ≡ false
      back x y e = ap is_lt (total.antisymm x y) ∙ reversed (cmp y x) ∙ e

  -- a before b, b at or before c
  pub lt_le : (a b c : List ℕ) → is_lt (cmp a b) ≡ true → is_lt (cmp c b) ≡ false → is_lt (cmp a c) ≡ true
  lt_le a b c p q = is_true _ (λ r. both _ p (le_le b c a q r))

  -- a at or before b, b before c
  pub le_lt : (a b c : List ℕ) → is_lt (cmp b a) ≡ false → is_lt (cmp b c) ≡ true → is_lt (cmp a c) ≡ true
  le_lt a b c p q = is_true _ (λ r. both _ q (le_le c a b r p))

  -- no key is before itself
  pub lt_itself : (a : List ℕ) → is_lt (cmp a a) ≡ false
  lt_itself a = is_false _ (λ t. both _ t (lt_turn a a t))

  -- neither before the other
  pub tied : (a b : List ℕ) → is_lt (cmp a b) ≡ false → is_lt (cmp b a) ≡ false → cmp a b ≡ Equal
  tied a b p q = between (cmp a b) p (sym (ap is_lt (total.antisymm b a)) ∙ q)
