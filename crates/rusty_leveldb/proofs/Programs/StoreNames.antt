-- Whether a name is a store's.
use Rattle.std.proofs.Common.{◌≡◌, ℕ, Bool, true, false, List, [], ◌∷◌, ◌++◌, refl, ap}
use Rattle.std.specs.Prelude.{◌↔◌, ◌==◌, IsTrue}
use Rattle.std.proofs.lemmas.Bool.{eqb-true, eqb-false}
use Rattle.rusty_leveldb.specs.Engines.Engine.{IsStoreName, IsOpening}
use Rattle.rusty_leveldb.specs.Machines.State.{Opening}
use Rattle.rusty_leveldb.specs.Programs.Lives.{with_name}
use Rattle.rusty_leveldb.proofs.Openings.AskedLemmas.{and_both, and_true}

-- how a name ends
data Ends (name : List ℕ) : Type 0 where
  nothing : name ≡ [] → Ends name
  slash : (front : List ℕ) → name ≡ front ++ 47 ∷ [] → Ends name
  other : IsStoreName name → Ends name

ends : (name : List ℕ) → Ends name
ends [] = nothing refl
ends (c ∷ []) = by (c == 47) refl
  where
    by : (b : Bool) → (c == 47) ≡ b → Ends (c ∷ [])
    by true e = slash [] (ap (λ n. n ∷ []) (eqb-true c 47 e))
    by false e = other (λ (is : c ∷ [] ≡ []). absurd (cc), no)
      where
        no : (front : List ℕ) → c ∷ [] ≡ front ++ 47 ∷ [] → ⊥
        no [] is = let same : c ≡ 47 = cc in eqb-false c 47 e same
        no (x ∷ []) is = absurd (cc)
        no (x ∷ y ∷ front) is = absurd (cc)
ends (c ∷ d ∷ name) = by (ends (d ∷ name))
  where
    by : Ends (d ∷ name) → Ends (c ∷ d ∷ name)
    by (nothing e) = absurd (cc)
    by (slash front e) = slash (c ∷ front) (ap (λ n. c ∷ n) e)
    by (other is) = other (λ (e : c ∷ d ∷ name ≡ []). absurd (cc), no)
      where
        no : (front : List ℕ) → c ∷ d ∷ name ≡ front ++ 47 ∷ [] → ⊥
        no [] e = absurd (cc)
        no (x ∷ front) e = let rest : d ∷ name ≡ front ++ 47 ∷ [] = cc in is.1 front rest

-- whether a name is a store's
pub named : (name : List ℕ) → (fits : Bool) × (IsTrue fits ↔ IsStoreName name)
named name = by (ends name)
  where
    by : Ends name → (fits : Bool) × (IsTrue fits ↔ IsStoreName name)
    by (nothing e) = (false, (λ (f : false ≡ true). absurd (cc), λ is. absurd (is.0 e)))
    by (slash front e) =
        (false, (λ (f : false ≡ true). absurd (cc), λ is. absurd (is.1 front e)))
    by (other is) = (true, (λ f. is, λ is. refl))

-- an opening under the name is one that is asked for
pub opens_so : (store : List ℕ) (fits : Bool) (wanted : Opening)
    → (IsTrue fits ↔ IsStoreName store) → IsOpening store wanted (with_name fits wanted)
opens_so store fits wanted name_fits = record {
  same = refl;
  fits = (
    λ is. let both = and_both fits wanted.fits is in (name_fits.0 both.0, both.1),
    λ both. and_true fits wanted.fits (name_fits.1 both.0) both.1,
  );
}
