-- Sets of entries: the same elements show the same; the greatest number.
pub use Rattle.leveldb_base.proofs.HistoryLemmas.{same_sets}
use Rattle.leveldb_base.proofs.HistoryLemmas.{in_cases, in_front, in_none, in_rest, same_with_more}
use Rattle.leveldb_base.specs.History.{AreUpTo, Entry, SameView, greatest}
use Rattle.leveldb_files.specs.Stores.Store.{SameEntries}
use Rattle.std.proofs.Common.{◌++◌, ◌<◌, ◌∷◌, ◌≡◌, ◌≤◌, List, [], ap, arith, ℕ, ⊎_elim}
use Rattle.std.proofs.lemmas.List.Elements.{Contains-append_cases, Contains-append_left, Contains-append_right}
use Rattle.std.specs.Prelude.{Contains}

pub turned : (these those : List Entry) → SameEntries these those → SameEntries those these
turned these those same entry = ((same entry).1, (same entry).0)

pub view_trans : (a b c : List Entry) (t : ℕ) → SameView a b t → SameView b c t → SameView a c t
view_trans a b c t p q key value =
    (λ s. (q key value).0 ((p key value).0 s), λ s. (p key value).1 ((q key value).1 s))

pub greatest_most : (n : ℕ) (entries : List Entry) → AreUpTo n entries → greatest entries ≤ n
greatest_most n [] up = omega arith
greatest_most n (entry ∷ entries) up =
    let here = up entry (in_front entry entries) in
    let rest = greatest_most n entries (λ other c. up other (in_rest entry other entries c)) in
    omega (arith, here, rest)

-- what is above 0 and above each is above the greatest
pub greatest_less : (n : ℕ) (entries : List Entry) → 0 < n
    → ((entry : Entry) → Contains entries entry → entry.sequence < n) → greatest entries < n
greatest_less n [] pos all = pos
greatest_less n (entry ∷ entries) pos all =
    let here = all entry (in_front entry entries) in
    let rest = greatest_less n entries pos (λ other c. all other (in_rest entry other entries c)) in
    omega (arith, here, rest)

-- newer entries after sets that show the same from the greatest number on
pub same_with_later : (these those more : List Entry) (t : ℕ) → greatest these ≤ greatest those
    → ((entry later : Entry) → Contains those entry → Contains more later
    → entry.sequence < later.sequence)
    → ((later : Entry) → Contains more later → 0 < later.sequence) → SameView these those t
    → SameView (these ++ more) (those ++ more) t
same_with_later these those more t low below pos same =
    same_with_more these those more (greatest those) t
    (λ entry c. let n = most these entry c in omega (arith, n, low)) (most those)
    (λ later c. greatest_less later.sequence those (pos later c) (λ entry e. below entry later e c))
    same
  where
    most : (entries : List Entry) → AreUpTo (greatest entries) entries
    most [] entry c = absurd (in_none entry c)
    most (first ∷ entries) entry c = ⊎_elim
        (λ (e : first ≡ entry). let s = ap (λ (x : Entry). x.sequence) e in omega (arith, s))
        (λ (rest : Contains entries entry). let n = most entries entry rest in omega (arith, n))
        (in_cases first entry entries c)

pub append_sets : (a b c : List Entry) → SameEntries a b → SameEntries (a ++ c) (b ++ c)
append_sets a b c same entry = (to a b (λ e. (same e).0), to b a (λ e. (same e).1))
  where
    to : (x y : List Entry) → ((e : Entry) → Contains x e → Contains y e) → Contains (x ++ c) entry
        → Contains (y ++ c) entry
    to x y so there =
        ⊎_elim (λ (l : Contains x entry). Contains-append_left y c entry (so entry l))
        (λ (r : Contains c entry). Contains-append_right y c entry r)
        (Contains-append_cases x c entry there)
