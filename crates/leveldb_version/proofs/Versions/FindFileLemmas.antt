-- The file of a level that has a key in its range, found by halving.
use Rattle.std.proofs.Common.{◌≡◌, ◌∙◌, ◌∷◌, ◌<◌, ◌≤◌, ◌⊎◌, ℕ, zero, suc, Bool, true, false, List, [], None, Some, ap, arith, get_or, inl, inr, leb, length, map, refl, subst, sym}
use Rattle.std.proofs.lemmas.Bool.{leb-false, leb-true}
use Rattle.std.proofs.lemmas.Bool.Decides.{nat_tests}
use Rattle.std.proofs.lemmas.List.{get_or-map, length-map}
use Rattle.std.proofs.lemmas.List.Sorted.{ranks_by, sorted_far}
use Rattle.std.specs.Cmp.{IsTotalOrder}
use Rattle.std.specs.List.{AllWithin}
use Rattle.std.specs.List.Sorted.{IsPartitionedBy, IsSortedByKey}
use Rattle.std.specs.Ordering.{is_lt, nat_cmp, ordering_then}
use Rattle.std.specs.Prelude.{Contains}
use Rattle.std.specs.declared.cmp.Ordering.{Ordering}
use Rattle.std.specs.declared.cmp.Ordering.TheVariants.{Equal, Greater, Less}
use Rattle.leveldb_base.proofs.OrderLemmas.{both, le_lt, lt_itself, lt_le, lt_turn, not_less, not_lt}
use Rattle.leveldb_base.specs.KeyTypes.{greatest_sequence, internal_cmp, sequence_part, user_part}
use Rattle.leveldb_files.specs.Levels.Levels.{AreDisjoint, IsInRange}
use Rattle.leveldb_files.specs.Levels.Overlap.{AreDisjointRanges, IsFileFor, ends_before}
use Rattle.leveldb_files.specs.Edits.Edit.{NewFile}
use Rattle.leveldb_version.proofs.Versions.VersionLemmas.{internal_total}

-- ---- lists and their images

pub mapped_within : {A B : Type 0} (P : B → Type 0) (f : A → B) (xs : List A) (low high : ℕ) → high ≤ length xs
    → AllWithin (λ x. P (f x)) xs low high → AllWithin P (map f xs) low high
mapped_within {A} P f xs low high within all k d from to = by xs refl
  where
    by : (ys : List A) → xs ≡ ys → P (get_or (map f xs) k d)
    by [] e = let n = ap length e in absurd (omega (arith, within, to, n))
    by (y ∷ ys) e = subst P (sym (get_or-map f xs k y d (omega (arith, within, to)))) (all k y from to)

pub parted_before : {A B : Type 0} (p : B → Bool) (f : A → B) (xs : List A)
    → IsPartitionedBy p (map f xs) → IsPartitionedBy (λ x. p (f x)) xs
parted_before p f xs parted i j d order within passes =
    let at_i = get_or-map f xs i d (f d) (omega (arith, order, within)) in
    let at_j = get_or-map f xs j d (f d) within in
    sym (ap p at_i)
    ∙ parted i j (f d) order (subst (λ (n : ℕ). j < n) (sym (length-map xs f)) within) (ap p at_j ∙ passes)

-- ---- files in order that are apart

not_past_greatest : (key : List ℕ) → is_lt (nat_cmp greatest_sequence (sequence_part key)) ≡ false
not_past_greatest key = grind (arith, nat_tests)

module _ {cmp : List ℕ → List ℕ → Ordering} (total : IsTotalOrder cmp) (xs : List NewFile) (key : List ℕ)
    (rising : IsSortedByKey (λ (f : NewFile). f.smallest) (internal_cmp cmp) xs) (ranges : AreDisjointRanges cmp xs) where
  test_is : (file : NewFile) → ends_before cmp key greatest_sequence file ≡ is_lt (cmp (user_part file.largest) key)
  test_is file = by (cmp (user_part file.largest) key)
    where
      by : (o : Ordering) → is_lt (ordering_then o (nat_cmp greatest_sequence (sequence_part file.largest))) ≡ is_lt o
      by Less = refl
      by Equal = not_past_greatest file.largest
      by Greater = refl

  user_not_less : (a b : List ℕ) → is_lt (internal_cmp cmp a b) ≡ false → is_lt (cmp (user_part a) (user_part b)) ≡ false
  user_not_less a b e = by (cmp (user_part a) (user_part b)) e
    where
      by : (o : Ordering) → is_lt (ordering_then o (nat_cmp (sequence_part b) (sequence_part a))) ≡ false → is_lt o ≡ false
      by Less f = cc
      by Equal f = refl
      by Greater f = refl

  there : (k : ℕ) (d : NewFile) → k < length xs → Contains xs (get_or xs k d)
  there k d within = (k, within, same xs k d within)
    where
      same : (ys : List NewFile) (i : ℕ) (e : NewFile) → i < length ys → get_or ys i (get_or ys i e) ≡ get_or ys i e
      same [] i e h = absurd (omega arith)
      same (y ∷ ys) zero e h = refl
      same (y ∷ ys) (suc i) e h = same ys i e (omega arith)

  ordered : (file : NewFile) → Contains xs file → is_lt (cmp (user_part file.largest) (user_part file.smallest)) ≡ false
  ordered file c = not_less (cmp (user_part file.largest) (user_part file.smallest)) (ranges.ordered file c)

  -- a later file begins no earlier
  begins_later : (i k : ℕ) (d : NewFile) → i ≤ k → k < length xs
      → is_lt (cmp (user_part (get_or xs k d).smallest) (user_part (get_or xs i d).smallest)) ≡ false
  begins_later i k d order within =
      user_not_less (get_or xs k d).smallest (get_or xs i d).smallest
      (sorted_far (λ (a b : NewFile). is_lt (internal_cmp cmp a.smallest b.smallest))
      (ranks_by (internal_total total) (λ (f : NewFile). f.smallest)) xs rising i k d order within)

  -- and ends no earlier
  ends_later : (i k : ℕ) (d : NewFile) → i ≤ k → k < length xs
      → is_lt (cmp (user_part (get_or xs k d).largest) (user_part (get_or xs i d).largest)) ≡ false
  ends_later i k d order within =
      by (get_or xs i d) (get_or xs k d) (ordered (get_or xs k d) (there k d within)) (begins_later i k d order within)
      (ranges.apart (get_or xs i d) (get_or xs k d) (there i d (omega (arith, order, within))) (there k d within))
    where
      by : (a b : NewFile) → is_lt (cmp (user_part b.largest) (user_part b.smallest)) ≡ false
          → is_lt (cmp (user_part b.smallest) (user_part a.smallest)) ≡ false
          → (a ≡ b) ⊎ AreDisjoint cmp a b → is_lt (cmp (user_part b.largest) (user_part a.largest)) ≡ false
      by a b b_ordered later (inl same) =
          subst (λ (x : NewFile). is_lt (cmp (user_part b.largest) (user_part x.largest)) ≡ false) (sym same)
          (lt_itself total (user_part b.largest))
      by a b b_ordered later (inr (inl less)) =
          lt_turn total (user_part a.largest) (user_part b.largest)
          (lt_le total (user_part a.largest) (user_part b.smallest) (user_part b.largest) (ap is_lt less) b_ordered)
      by a b b_ordered later (inr (inr less)) =
          both (is_lt (cmp (user_part b.smallest) (user_part a.smallest)))
          (le_lt total (user_part b.smallest) (user_part b.largest) (user_part a.smallest) b_ordered (ap is_lt less)) later

  pub parted : IsPartitionedBy (ends_before cmp key greatest_sequence) xs
  parted i j d order within passes =
      test_is (get_or xs i d)
      ∙ le_lt total (user_part (get_or xs i d).largest) (user_part (get_or xs j d).largest) key
      (ends_later i j d order within) (sym (test_is (get_or xs j d)) ∙ passes)

  module _ (i : ℕ) (before : AllWithin (λ file. ends_before cmp key greatest_sequence file ≡ true) xs 0 i)
      (from : AllWithin (λ file. ends_before cmp key greatest_sequence file ≡ false) xs i (length xs)) where
    -- a file that has the key isn't before the first that doesn't end before it
    not_before : (file : NewFile) (c : Contains xs file) → IsInRange cmp file key → i ≤ c.0
    not_before file c has = by (leb i c.0) refl
      where
        by : (b : Bool) → leb i c.0 ≡ b → i ≤ c.0
        by true e = leb-true i c.0 e
        by false e =
            let ends : ends_before cmp key greatest_sequence file ≡ true =
            subst (λ (f : NewFile). ends_before cmp key greatest_sequence f ≡ true) c.2
            (before c.0 file (omega arith) (leb-false i c.0 e)) in
            both (is_lt (cmp (user_part file.largest) key)) (sym (test_is file) ∙ ends)
            (not_less (cmp (user_part file.largest) key) has.to)

    pub none_past : length xs ≤ i → IsFileFor cmp xs key None
    none_past past = record {
      has_key = tt;
      only = λ file c has. let k = not_before file c has in let within = c.1 in absurd (omega (arith, past, k, within));
    }

    pub none_here : ((d : NewFile) → is_lt (cmp key (user_part (get_or xs i d).smallest)) ≡ true) → IsFileFor cmp xs key None
    none_here begins = record {
      has_key = tt;
      only = λ file c has.
          let later = begins_later i c.0 file (not_before file c has) c.1 in
          let later_file : is_lt (cmp (user_part file.smallest) (user_part (get_or xs i file).smallest)) ≡ false =
          subst (λ (f : NewFile). is_lt (cmp (user_part f.smallest) (user_part (get_or xs i file).smallest)) ≡ false) c.2 later in
          both (is_lt (cmp key (user_part file.smallest)))
          (lt_le total key (user_part (get_or xs i file).smallest) (user_part file.smallest) (begins file) later_file)
          (not_less (cmp key (user_part file.smallest)) has.from);
    }

    pub found_here : (x : NewFile) → i < length xs → ((d : NewFile) → get_or xs i d ≡ x)
        → is_lt (cmp key (user_part x.smallest)) ≡ false → IsFileFor cmp xs key (Some x)
    found_here x within at begins = record {
      has_key = (
        x_there,
        record {
          from = not_lt (cmp key (user_part x.smallest)) begins;
          to = not_lt (cmp (user_part x.largest) key) x_reaches;
        },
      );
      only = λ file c has. by file (ordered file c)
          (subst (λ (f : NewFile). is_lt (cmp (user_part f.smallest) (user_part x.smallest)) ≡ false) c.2
          (subst (λ (f : NewFile). is_lt (cmp (user_part (get_or xs c.0 file).smallest) (user_part f.smallest)) ≡ false) (at file)
          (begins_later i c.0 file (not_before file c has) c.1)))
          (not_less (cmp key (user_part file.smallest)) has.from) (ranges.apart x file x_there c);
    }
      where
        x_there : Contains xs x
        x_there = (i, within, at x)

        x_reaches : is_lt (cmp (user_part x.largest) key) ≡ false
        x_reaches = sym (test_is x) ∙ subst (λ (f : NewFile). ends_before cmp key greatest_sequence f ≡ false) (at x) (from i x (omega arith) within)

        by : (file : NewFile) → is_lt (cmp (user_part file.largest) (user_part file.smallest)) ≡ false
            → is_lt (cmp (user_part file.smallest) (user_part x.smallest)) ≡ false
            → is_lt (cmp key (user_part file.smallest)) ≡ false
            → (x ≡ file) ⊎ AreDisjoint cmp x file → Some x ≡ Some file
        by file file_ordered later has (inl same) = ap (λ z. Some z) same
        by file file_ordered later has (inr (inl less)) =
            both (is_lt (cmp (user_part x.largest) key))
            (lt_le total (user_part x.largest) (user_part file.smallest) key (ap is_lt less) has) x_reaches
        by file file_ordered later has (inr (inr less)) =
            both (is_lt (cmp (user_part file.smallest) (user_part x.smallest)))
            (le_lt total (user_part file.smallest) (user_part file.largest) (user_part x.smallest) file_ordered (ap is_lt less)) later
