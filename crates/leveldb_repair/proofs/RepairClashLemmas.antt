-- Lists of which two different pairs have one key, up to its type: which entries these represent.
use Rattle.std.proofs.Common.{◌≡◌, ◌∙◌, ◌⊎◌, ⊎_elim, inl, inr, false, true, ℕ, Bool, List, [], ◌∷◌, None, Some, ap, refl, subst, sym}
use Rattle.std.proofs.lemmas.Cmp.{ranked}
use Rattle.std.specs.Cmp.Lexicographic.{bytes_decides}
use Rattle.std.specs.Ordering.{nat_cmp, ordering_then}
use Rattle.std.specs.Prelude.{◌≢◌, Contains}
use Rattle.std.specs.Str.{bytes_eq}
use Rattle.std.specs.declared.cmp.Ordering.{Ordering}
use Rattle.std.specs.declared.cmp.Ordering.TheVariants.{Equal, Greater, Less}
use Rattle.leveldb_base.proofs.HistoryLemmas.{in_cases, in_front, in_none, in_rest}
use Rattle.leveldb_base.specs.Cmp.{IsExactOrder}
use Rattle.leveldb_base.specs.Entries.{entry_of_pair, value_of}
use Rattle.leveldb_base.specs.History.{Entry}
use Rattle.leveldb_base.specs.KeyTypes.{internal_cmp, internal_key, sequence_part, user_part}
use Rattle.leveldb_base.specs.Types.{Pair}
use Rattle.leveldb_base.specs.declared.key_types.ValueType.{ValueType}
use Rattle.leveldb_base.specs.declared.key_types.ValueType.TheVariants.{TypeDeletion, TypeValue}
use Rattle.leveldb_iter.specs.Merge.{HaveOnePairAKey, IsPairOf}
use Rattle.leveldb_iter.specs.Walk.{KeyOrder}
use Rattle.leveldb_files.proofs.Stores.OneStoreLemmas.{flat_in, in_flat}
use Rattle.leveldb_files.specs.Stores.Store.{IsInternalPair}
use Rattle.leveldb_store.specs.Compactions.Merging.{all_pairs}

-- ---- the pairs of lists in one list

of_lists : (lists : List (List Pair)) (pair : Pair) → Contains (all_pairs lists) pair
    → IsPairOf lists pair
of_lists lists pair there =
    let from = in_flat (λ (list : List Pair). list) lists pair there in
    let list = from.1 in (list.0, from.0, list.1, list.2, from.2)

in_lists : (lists : List (List Pair)) (pair : Pair) → IsPairOf lists pair
    → Contains (all_pairs lists) pair
in_lists lists pair any = flat_in (λ (list : List Pair). list) lists any.1 pair
    (any.0, any.2, any.3) any.4

-- ---- two pairs of one key

-- lists have two pairs of equal key which differ
pub record HaveClash (order : KeyOrder) (lists : List (List Pair)) : Type 0 where
  pub one : Pair
  pub other : Pair
  pub one_there : IsPairOf lists one
  pub other_there : IsPairOf lists other
  pub equal : order.cmp one.0 other.0 ≡ Equal
  pub differ : one ≢ other

-- this holds of each element of a list, or that of one
all_or_some : {A : Type 0} (P Q : A → Type 0) (xs : List A) → ((x : A) → P x ⊎ Q x)
    → ((x : A) → Contains xs x → P x) ⊎ ((x : A) × Contains xs x × Q x)
all_or_some P Q [] each = inl (λ x c. absurd (in_none x c))
all_or_some {A} P Q (first ∷ xs) each = by (each first) (all_or_some P Q xs each)
  where
    by : P first ⊎ Q first → ((x : A) → Contains xs x → P x) ⊎ ((x : A) × Contains xs x × Q x)
        → ((x : A) → Contains (first ∷ xs) x → P x)
        ⊎ ((x : A) × Contains (first ∷ xs) x × Q x)
    by (inr q) rest = inr (first, in_front first xs, q)
    by (inl p) (inr some) = inr (some.0, in_rest first some.0 xs some.1, some.2)
    by (inl p) (inl all) = inl (λ x c. ⊎_elim
        (λ (same : first ≡ x). subst P same p)
        (λ (there : Contains xs x). all x there)
        (in_cases first x xs c))

same_bytes_or_not : (these those : List ℕ) → (these ≡ those) ⊎ (these ≢ those)
same_bytes_or_not these those = by (bytes_eq these those) refl
  where
    by : (b : Bool) → bytes_eq these those ≡ b → (these ≡ those) ⊎ (these ≢ those)
    by true e = inl ((bytes_decides these those).0 e)
    by false e = inr (λ same.
        let never : true ≡ false = sym ((bytes_decides these those).1 same) ∙ e in cc)

same_pair_or_not : (these those : Pair) → (these ≡ those) ⊎ (these ≢ those)
same_pair_or_not these those =
    by (same_bytes_or_not these.0 those.0) (same_bytes_or_not these.1 those.1)
  where
    by : (these.0 ≡ those.0) ⊎ (these.0 ≢ those.0) → (these.1 ≡ those.1) ⊎ (these.1 ≢ those.1)
        → (these ≡ those) ⊎ (these ≢ those)
    by (inl key) (inl value) = inl (λ i. (key i, value i))
    by (inr differ) value = inr (λ same. differ (ap (λ (p : Pair). p.0) same))
    by (inl key) (inr differ) = inr (λ same. differ (ap (λ (p : Pair). p.1) same))

module _ (order : KeyOrder) where
  -- two pairs are the same, if their keys are equal, or they clash
  abbrev Same : Pair → Pair → Type 0
  Same these those = order.cmp these.0 those.0 ≡ Equal → these ≡ those

  abbrev Clash : Pair → Pair → Type 0
  Clash these those = (order.cmp these.0 those.0 ≡ Equal) × (these ≢ those)

  same_or_clash : (these those : Pair) → Same these those ⊎ Clash these those
  same_or_clash these those = by (order.cmp these.0 those.0) refl (same_pair_or_not these those)
    where
      by : (r : Ordering) → order.cmp these.0 those.0 ≡ r → (these ≡ those) ⊎ (these ≢ those)
          → Same these those ⊎ Clash these those
      by r e (inl same) = inl (λ equal. same)
      by Equal e (inr differ) = inr (e, differ)
      by Less e (inr differ) = inl (λ equal.
          let never : Less ≡ Equal = sym e ∙ equal in absurd (cc))
      by Greater e (inr differ) = inl (λ equal.
          let never : Greater ≡ Equal = sym e ∙ equal in absurd (cc))

  module _ (lists : List (List Pair)) where
    abbrev pairs : List Pair
    pairs = all_pairs lists

    -- lists have one pair of each key, or a clash
    pub one_or_clash : HaveOnePairAKey order lists ⊎ HaveClash order lists
    one_or_clash = ⊎_elim
        (λ (all : (one : Pair) → Contains pairs one → (other : Pair) → Contains pairs other
        → Same one other).
        inl (λ one other is_one is_other equal.
        all one (in_lists lists one is_one) other (in_lists lists other is_other) equal))
        (λ (some : (one : Pair) × Contains pairs one
        × ((other : Pair) × Contains pairs other × Clash one other)).
        let next = some.2 in inr (record {
          one = some.0;
          other = next.0;
          one_there = of_lists lists some.0 some.1;
          other_there = of_lists lists next.0 next.1;
          equal = next.2.0;
          differ = next.2.1;
        }))
        (all_or_some (λ one. (other : Pair) → Contains pairs other → Same one other)
        (λ one. (other : Pair) × Contains pairs other × Clash one other) pairs
        (λ one. all_or_some (Same one) (Clash one) pairs (same_or_clash one)))

  -- so lists that have not one pair of each key have a clash
  pub clash_of : (lists : List (List Pair)) → (HaveOnePairAKey order lists → ⊥)
      → HaveClash order lists
  clash_of lists not = ⊎_elim
      (λ (one : HaveOnePairAKey order lists). absurd (not one))
      (λ (clash : HaveClash order lists). clash)
      (one_or_clash lists)

-- ---- the entries of two such pairs

-- Two pairs represent the same deletion, and have different bytes in place of a value, which are
-- ignored where they are read.
pub record AreUnlikeDeletions (one other : Pair) : Type 0 where
  pub same : entry_of_pair one ≡ entry_of_pair other
  pub deletes : (entry_of_pair one).value ≡ None
  pub bytes : one.1 ≢ other.1

-- Two pairs of internal keys that clash: their entries are of one user key and number, and differ
-- in type or value, or else the pairs are unlike deletions.
pub record AreOfOneNumber (one other : Pair) : Type 0 where
  pub key : (entry_of_pair one).key ≡ (entry_of_pair other).key
  pub number : (entry_of_pair one).sequence ≡ (entry_of_pair other).sequence
  pub differ : ((entry_of_pair one).value ≢ (entry_of_pair other).value)
      ⊎ AreUnlikeDeletions one other

then_equal : (r t : Ordering) → ordering_then r t ≡ Equal → (r ≡ Equal) × (t ≡ Equal)
then_equal Less t e = absurd cc
then_equal Equal t e = (refl, e)
then_equal Greater t e = absurd cc

number_equal : (m n : ℕ) (r : Ordering) → r ≡ nat_cmp m n → r ≡ Equal → m ≡ n
number_equal m n Less e f = absurd cc
number_equal m n Equal e f = ranked m n Equal e
number_equal m n Greater e f = absurd cc

module _ {cmp : List ℕ → List ℕ → Ordering} (exact : IsExactOrder cmp) where
  -- keys that are equal in the order of internal keys have one user key and one number
  pub equal_parts : (a b : List ℕ) → internal_cmp cmp a b ≡ Equal
      → (user_part a ≡ user_part b) × (sequence_part a ≡ sequence_part b)
  equal_parts a b equal =
      let parts = then_equal (cmp (user_part a) (user_part b))
      (nat_cmp (sequence_part b) (sequence_part a)) equal in (
        exact.exact (user_part a) (user_part b) parts.0,
        sym (number_equal (sequence_part b) (sequence_part a)
            (nat_cmp (sequence_part b) (sequence_part a)) refl parts.1),
      )

  module _ (one other : Pair) (p : IsInternalPair one (entry_of_pair one))
      (q : IsInternalPair other (entry_of_pair other))
      (equal : internal_cmp cmp one.0 other.0 ≡ Equal) (differ : one ≢ other) where
    abbrev a : Entry
    a = entry_of_pair one

    abbrev b : Entry
    b = entry_of_pair other

    parts : (user_part one.0 ≡ user_part other.0) × (sequence_part one.0 ≡ sequence_part other.0)
    parts = equal_parts one.0 other.0 equal

    -- pairs of one type have one key
    keys : p.kind ≡ q.kind → one.0 ≡ other.0
    keys kinds = p.key ∙ (λ i. internal_key (parts.0 i) (parts.1 i) (kinds i)) ∙ sym q.key

    value_one : (kind : ValueType) → p.kind ≡ kind → a.value ≡ value_of kind one.1
    value_one kind is = p.value ∙ ap (λ k. value_of k one.1) is

    value_other : (kind : ValueType) → q.kind ≡ kind → b.value ≡ value_of kind other.1
    value_other kind is = q.value ∙ ap (λ k. value_of k other.1) is

    by_kinds : (k l : ValueType) → p.kind ≡ k → q.kind ≡ l
        → (a.value ≢ b.value) ⊎ AreUnlikeDeletions one other
    by_kinds TypeDeletion TypeDeletion is other_is =
        let none : a.value ≡ None = value_one TypeDeletion is in
        let both : a.value ≡ b.value = none ∙ sym (value_other TypeDeletion other_is) in
        inr (record {
          same = λ i. record { sequence = parts.1 i; key = parts.0 i; value = both i };
          deletes = none;
          bytes = λ bytes. differ (λ i. (keys (is ∙ sym other_is) i, bytes i));
        })
    by_kinds TypeDeletion TypeValue is other_is = inl (λ same.
        let never : None ≡ Some other.1 = sym (value_one TypeDeletion is)
        ∙ same ∙ value_other TypeValue other_is in cc)
    by_kinds TypeValue TypeDeletion is other_is = inl (λ same.
        let never : Some one.1 ≡ None = sym (value_one TypeValue is)
        ∙ same ∙ value_other TypeDeletion other_is in cc)
    by_kinds TypeValue TypeValue is other_is = inl (λ same.
        let some : Some one.1 ≡ Some other.1 = sym (value_one TypeValue is)
        ∙ same ∙ value_other TypeValue other_is in
        let bytes : one.1 ≡ other.1 = cc in
        differ (λ i. (keys (is ∙ sym other_is) i, bytes i)))

    -- two pairs of internal keys that clash
    pub clash_differs : AreOfOneNumber one other
    clash_differs = record {
      key = parts.0;
      number = parts.1;
      differ = by_kinds p.kind q.kind refl refl;
    }
