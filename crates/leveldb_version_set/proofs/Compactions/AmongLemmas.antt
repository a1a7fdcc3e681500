-- When a user key is among the inputs of a compaction.
use Rattle.std.specs.Prelude.{◌≢◌, ◌||◌, Contains, not}
use Rattle.std.proofs.Common.{◌≡◌, ◌↔◌, ◌∙◌, ◌⊎◌, inl, inr, ⊎_elim, ◌++◌, ℕ, Bool, true, false, List, [], ◌∷◌, ap, map, refl}
use Rattle.std.proofs.lemmas.Bool.{and_from, and_parts}
use Rattle.std.proofs.lemmas.List.{map_push}
use Rattle.std.proofs.lemmas.List.Folds.{list_any-append}
use Rattle.std.specs.List.{list_any}
use Rattle.std.specs.Ordering.{is_lt}
use Rattle.std.specs.declared.cmp.Ordering.{Ordering}
use Rattle.std.specs.declared.cmp.Ordering.TheVariants.{Equal, Greater, Less}
use Rattle.leveldb_base.proofs.HistoryLemmas.{in_cases, in_front, in_none, in_rest}
use Rattle.leveldb_base.specs.KeyTypes.{user_part}
use Rattle.leveldb_version_set.specs.Compactions.Contradictions.{IsAmongInputs, begins_by, ends_from, is_among_inputs}
use Rattle.leveldb_files.specs.Edits.Edit.{NewFile}

-- an element passes where one does, and the other way round
pub any_to : {A : Type 0} (p : A → Bool) (xs : List A) → list_any p xs ≡ true → (x : A) × Contains xs x × (p x ≡ true)
any_to p [] e = absurd (let never : false ≡ true = e in cc)
any_to {A} p (x ∷ xs) e = by (any_to p xs) (p x) refl e
  where
    by : (list_any p xs ≡ true → (y : A) × Contains xs y × (p y ≡ true)) → (b : Bool) → p x ≡ b → (b || list_any p xs) ≡ true → (y : A) × Contains (x ∷ xs) y × (p y ≡ true)
    by rest true is e = (x, in_front x xs, is)
    by rest false is e = let more = rest e in (more.0, in_rest x more.0 xs more.1, more.2)

pub any_from : {A : Type 0} (p : A → Bool) (xs : List A) (x : A) → Contains xs x → p x ≡ true → list_any p xs ≡ true
any_from p [] x c e = absurd (in_none x c)
any_from {A} p (y ∷ xs) x c e = by (p y) (⊎_elim
    (λ (same : y ≡ x). inl (ap p same ∙ e))
    (λ (rest : Contains xs x). inr (any_from p xs x rest e)) (in_cases y x xs c))
  where
    by : (b : Bool) → (b ≡ true) ⊎ (list_any p xs ≡ true) → (b || list_any p xs) ≡ true
    by true either = refl
    by false (inl never) = absurd cc
    by false (inr rest) = rest

-- the last one of a list passes, or none of them does that the others don't
pub any_last : {A B : Type 0} (p : B → Bool) (f : A → B) (xs : List A) (x : A) (b : Bool) → p (f x) ≡ b → list_any p (map f (xs ++ x ∷ [])) ≡ (list_any p (map f xs) || b)
any_last p f xs x b is =
    ap (list_any p) (map_push f xs x) ∙ (list_any-append p (map f xs) (f x ∷ []) ∙ ap (λ (c : Bool). list_any p (map f xs) || c) (alone (p (f x)) ∙ is))
  where
    alone : (c : Bool) → (c || false) ≡ c
    alone true = refl
    alone false = refl

pub or_true : (a : Bool) → (a || true) ≡ true
or_true true = refl
or_true false = refl

pub or_false : (a : Bool) → (a || false) ≡ a
or_false true = refl
or_false false = refl

-- a test that is turned round
pub not_before : (o : Ordering) → (not (is_lt o) ≡ true) ↔ (o ≢ Less)
not_before Less = (λ e. absurd cc, λ other. absurd (other refl))
not_before Equal = (λ e same. absurd cc, λ other. refl)
not_before Greater = (λ e same. absurd cc, λ other. refl)

-- the test says what it is for
pub among_tells : (cmp : List ℕ → List ℕ → Ordering) (inputs : List NewFile) (key : List ℕ) → (is_among_inputs cmp inputs key ≡ true) ↔ IsAmongInputs cmp inputs key
among_tells cmp inputs key = (to, back)
  where
    to : is_among_inputs cmp inputs key ≡ true → IsAmongInputs cmp inputs key
    to e =
        let both = and_parts (list_any (begins_by cmp key) inputs) (list_any (ends_from cmp key) inputs) e in
        let first = any_to (begins_by cmp key) inputs both.0 in
        let last = any_to (ends_from cmp key) inputs both.1 in
        record {
          from = (first.0, first.1, (not_before (cmp key (user_part first.0.smallest))).0 first.2);
          to = (last.0, last.1, (not_before (cmp (user_part last.0.largest) key)).0 last.2);
        }

    back : IsAmongInputs cmp inputs key → is_among_inputs cmp inputs key ≡ true
    back is =
        and_from (list_any (begins_by cmp key) inputs) (list_any (ends_from cmp key) inputs)
        (any_from (begins_by cmp key) inputs is.from.0 is.from.1 ((not_before (cmp key (user_part is.from.0.smallest))).1 is.from.2))
        (any_from (ends_from cmp key) inputs is.to.0 is.to.1 ((not_before (cmp (user_part is.to.0.largest) key)).1 is.to.2))
