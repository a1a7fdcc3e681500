-- The oldest and the newest of snapshots, one by one, and what a release leaves.
use Rattle.std.specs.Prelude.{Contains, max, min, slice_get, Some, All, AllPairs}
use Rattle.std.specs.List.{remove}
use Rattle.std.proofs.Common.{◌≡◌, ⊎_elim, ℕ, suc, ◌≤◌, ◌<◌, ◌+◌, ◌∙◌, List, [], ◌∷◌, ◌++◌, arith, refl, sym, subst, ap, length, take, drop, get_or, add-one, length-append}
use Rattle.std.proofs.Math.Seq.{take-suc, drop-cons}
use Rattle.std.proofs.lemmas.Bool.{cases_lt}
use Rattle.std.proofs.lemmas.List.{take-append-drop, get_or_default}
use Rattle.std.proofs.lemmas.List.Edits.{get_or-remove_below, get_or-remove_above, length-remove}
use Rattle.std.proofs.lemmas.List.Elements.{Contains-append_left, Contains-push, Contains-push_cases, Contains-get_or}
use Rattle.std.proofs.lemmas.List.Quantifiers.{all_pairs_remove}
use Rattle.std.proofs.lemmas.Option.{slice_get_within, get_or_from_slice_get}
use Rattle.leveldb_iter.specs.Snapshot.{HasSequence, IsNewest, Releases}
use Rattle.leveldb_iter.specs.declared.snapshot.Snapshot.{Snapshot}

-- ---- the oldest and the newest

-- the lesser of two numbers that snapshots have is one that a snapshot has
has_min : (held : List Snapshot) (a b : ℕ) → HasSequence held a → HasSequence held b → HasSequence held (min a b)
has_min held a b one other = ⊎_elim
    (λ (less : a < b). subst (HasSequence held) (omega arith) one)
    (λ (more : b ≤ a). subst (HasSequence held) (omega arith) other)
    (cases_lt a b)

-- and so is the greater
has_max : (held : List Snapshot) (a b : ℕ) → HasSequence held a → HasSequence held b → HasSequence held (max a b)
has_max held a b one other = ⊎_elim
    (λ (less : a < b). subst (HasSequence held) (omega arith) other)
    (λ (more : b ≤ a). subst (HasSequence held) (omega arith) one)
    (cases_lt a b)

-- a snapshot's own number is one that a snapshot has
has_own : (held : List Snapshot) (i : ℕ) (d : Snapshot) → i < length held → HasSequence held (get_or held i d).sequence
has_own held i d h = (get_or held i d, Contains-get_or held i d h, refl)

-- the least of the first snapshots is the number of one, and of one more the lesser of the two
pub oldest_next : (held : List Snapshot) (i least : ℕ) (d : Snapshot) → i < length held
    → HasSequence held least
    → ((k : ℕ) (d : Snapshot) → k < i → least ≤ (get_or held k d).sequence)
    → HasSequence held (min least (get_or held i d).sequence)
    × ((k : ℕ) (e : Snapshot) → k < i + 1 → min least (get_or held i d).sequence ≤ (get_or held k e).sequence)
oldest_next held i least d h has each = (
  has_min held least _ has (has_own held i d h),
  λ k e below. ⊎_elim
      (λ (old : k < i). let most = each k e old in omega (arith, most))
      (λ (new : i ≤ k).
      let same : i ≡ k = omega arith in
      let own = ap (λ (x : Snapshot). x.sequence) (get_or_default held i d e h) in
      subst (λ j. min least (get_or held i d).sequence ≤ (get_or held j e).sequence) same (omega (arith, own)))
      (cases_lt k i),
)

newest_there : (held : List Snapshot) (one : Snapshot) (n : ℕ) → IsNewest held n → HasSequence (held ++ one ∷ []) (max one.sequence n)
newest_there [] one n is =
    subst (HasSequence (one ∷ [])) (omega (arith, is.none refl)) (one, Contains-push [] one, refl)
newest_there (first ∷ held) one n is =
    let all = first ∷ held in
    let old = is.there (λ (e : all ≡ []). let n = ap length e in omega (arith, n)) in
    has_max (all ++ one ∷ []) one.sequence n (one, Contains-push all one, refl)
    (old.0, Contains-append_left all (one ∷ []) old.0 old.1, old.2)

-- the newest of some snapshots and one more
newest_pushed : (held : List Snapshot) (one : Snapshot) (n : ℕ) → IsNewest held n → IsNewest (held ++ one ∷ []) (max one.sequence n)
newest_pushed held one n is = record {
  none = λ e. let n = ap length e in omega (arith, length-append held (one ∷ []), n);
  there = λ more. newest_there held one n is;
  greatest = λ other c. ⊎_elim
      (λ (old : Contains held other). let most = is.greatest other old in omega (arith, most))
      (λ (new : one ≡ other). let same = ap (λ (s : Snapshot). s.sequence) new in omega (arith, same))
      (Contains-push_cases held one other c);
}

-- the newest of the first snapshots and one more
pub newest_next : (held : List Snapshot) (i n : ℕ) (d : Snapshot) → i < length held
    → IsNewest (take i held) n → IsNewest (take (i + 1) held) (max (get_or held i d).sequence n)
newest_next held i n d h is =
    let more = ap (λ k. take k held) (add-one i) ∙ take-suc held i d h in
    subst (λ list. IsNewest list (max (get_or held i d).sequence n)) (sym more) (newest_pushed (take i held) (get_or held i d) n is)

-- ---- a release

-- what holds of each snapshot holds of those that are left
all_left : (P : Snapshot → Type 0) (held : List Snapshot) (i : ℕ) → i < length held → All P held → All P (remove held i)
all_left P held i h all = λ k d below. ⊎_elim
    (λ (front : k < i). subst P (sym (get_or-remove_below held i d k front h)) (all k d (omega arith)))
    (λ (back : i ≤ k). subst P (sym (get_or-remove_above held i d k back h))
    (all (k + 1) d (let n = length-remove held i h in omega (arith, n, below))))
    (cases_lt k i)

-- so the numbers of those that are left are each their own
pub numbers_left : (held : List Snapshot) (given i : ℕ) (one : Snapshot) → slice_get held i ≡ Some one
    → All (λ x. x.number ≤ given) held × AllPairs (λ a b. a.number < b.number) held
    → All (λ x. x.number ≤ given) (remove held i) × AllPairs (λ a b. a.number < b.number) (remove held i)
numbers_left held given i one e kept =
    let h = slice_get_within held i one e in
    (all_left (λ x. x.number ≤ given) held i h kept.0, all_pairs_remove (λ a b. a.number < b.number) held i h kept.1)

-- without the one at an index, the others are held
pub releases_at : (held : List Snapshot) (given i : ℕ) (one : Snapshot) → slice_get held i ≡ Some one
    → Releases (record { held = held; given = given }) one (record { held = remove held i; given = given })
releases_at held given i one e =
    let h = slice_get_within held i one e in
    let own = get_or_from_slice_get held i one one e in
    record {
      before = take i held;
      after = drop (suc i) held;
      was = sym (take-append-drop i held) ∙ ap (λ back. take i held ++ back) (drop-cons held i one h ∙ ap (λ x. x ∷ drop (suc i) held) own);
      held = refl;
      given = refl;
    }
