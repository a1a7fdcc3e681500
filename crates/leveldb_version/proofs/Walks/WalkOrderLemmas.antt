-- In which order the files of tables in levels are, where each is there once.
use Rattle.std.specs.Prelude.{◌≢◌, All, Contains, IsPermutation}
use Rattle.std.proofs.Common.{◌≡◌, inl, inr, ⊎_elim, ℕ, ◌==◌, ◌&&◌, ◌<◌, ◌≤◌, Bool, true, false, List, [], ◌∷◌, cond, map, refl, sym, ◌∙◌, ap, subst, arith}
use Rattle.std.proofs.lemmas.Bool.{cases_lt, eq-eqb, eqb-true}
use Rattle.std.proofs.lemmas.Bool.Decides.{nat_tests}
use Rattle.std.proofs.lemmas.Cmp.{nat_cmp_total, tied_itself}
use Rattle.std.proofs.lemmas.Map.Keys.{IsDistinct-IsPermutation}
use Rattle.std.specs.List.{AllByRecursion, IsDistinct}
use Rattle.std.specs.Ordering.{is_lt, nat_cmp, ordering_then}
use Rattle.std.specs.declared.cmp.Ordering.{Ordering}
use Rattle.std.specs.declared.cmp.Ordering.TheVariants.{Less}
use Rattle.leveldb_base.proofs.OrderLemmas.{exact_total}
use Rattle.leveldb_base.specs.Cmp.{IsExactOrder}
use Rattle.leveldb_base.specs.KeyTypes.{internal_cmp, sequence_part, user_part}
use Rattle.leveldb_env.specs.Env.{Files}
use Rattle.leveldb_version.proofs.Tables.NewestTablesLemmas.{bounded, table_of}
use Rattle.leveldb_version.proofs.Versions.PairwiseLemmas.{Pairwise, pairwise_both, pairwise_distinct, pairwise_more, pairwise_sorted}
use Rattle.leveldb_version.proofs.Versions.SearchLemmas.{same_or_not}
use Rattle.leveldb_version.proofs.Tables.TablesInTurnLemmas.{upto_before}
use Rattle.leveldb_version.proofs.Versions.VersionLemmas.{version_total}
use Rattle.leveldb_files.specs.Stores.Format.{IsTableOf, Meaning}
use Rattle.leveldb_files.specs.Levels.Levels.{AreDisjoint, LevelOrder, LiveTable}
use Rattle.leveldb_files.specs.Stores.Store.{HasTable}
use Rattle.leveldb_version.specs.Versions.Version.{AreInVersionOrder, version_order}
use Rattle.leveldb_files.specs.Edits.Edit.{NewFile}
use Rattle.leveldb_files.specs.Edits.VersionSet.{is_same_file, level_file}

-- two files have the same level and number
abbrev pub same_file : NewFile → NewFile → Bool
same_file a b = is_same_file (level_file a) (level_file b)

same_bool : (s t : Bool) → (s ≡ true → t ≡ true) → (t ≡ true → s ≡ true) → s ≡ t
same_bool true t f g = sym (f refl)
same_bool false true f g = g refl
same_bool false false f g = refl

equal_back : (m n : ℕ) → (m == n) ≡ (n == m)
equal_back m n = same_bool (m == n) (n == m) (λ e. eq-eqb n m (sym (eqb-true m n e))) (λ e. eq-eqb m n (sym (eqb-true n m e)))

same_back : (a b : NewFile) → same_file a b ≡ same_file b a
same_back a b = ap (λ z. z && (a.number == b.number)) (equal_back a.level b.level) ∙ ap (λ z. (b.level == a.level) && z) (equal_back a.number b.number)

same_true : (a b : NewFile) → a.level ≡ b.level → a.number ≡ b.number → same_file a b ≡ true
same_true a b level number = ap (λ z. z && (a.number == b.number)) (eq-eqb a.level b.level level) ∙ eq-eqb a.number b.number number

all_mapped : {A B : Type 0} (P : B → Type 0) (f : A → B) (xs : List A) → AllByRecursion P (map f xs) → AllByRecursion (λ x. P (f x)) xs
all_mapped P f [] all = tt
all_mapped P f (x ∷ xs) all = (all.0, all_mapped P f xs all.1)

distinct_mapped : {A B : Type 0} (same : B → B → Bool) (f : A → B) (xs : List A) → IsDistinct same (map f xs) → IsDistinct (λ a b. same (f a) (f b)) xs
unfolding IsDistinct
distinct_mapped same f [] once = tt
distinct_mapped same f (x ∷ xs) once = (all_mapped (λ y. same (f x) y ≡ false) f xs once.0, distinct_mapped same f xs once.1)

nat_less : (m n : ℕ) → m < n → nat_cmp m n ≡ Less
nat_less m n less = grind (arith, nat_tests)

not_zero : (n : ℕ) → 0 < n → (n == 0) ≡ false
not_zero n some = grind (arith, nat_tests)

never_less : {T : Type 0} (o : Ordering) → is_lt o ≡ false → o ≡ Less → T
never_less o not less = let never : true ≡ false = ap is_lt (sym less) ∙ not in cc

never_same : {T : Type 0} (b : Bool) → b ≡ false → b ≡ true → T
never_same b f t = cc

module _ (cmp : List ℕ → List ℕ → Ordering) where
  abbrev in_level : NewFile → NewFile → Ordering
  in_level a b = cond (a.level == 0) (nat_cmp a.number b.number) (internal_cmp cmp a.smallest b.smallest)

  same_level : (a b : NewFile) → a.level ≡ b.level → version_order cmp a b ≡ in_level a b
  same_level a b same =
      ap (λ (n : ℕ). ordering_then (nat_cmp a.level n) (in_level a b)) (sym same)
      ∙ ap (λ o. ordering_then o (in_level a b)) (tied_itself nat_cmp_total a.level)

  number_order : (a b : NewFile) → a.level ≡ 0 → b.level ≡ 0 → a.number < b.number → version_order cmp a b ≡ Less
  number_order a b at_a at_b less =
      same_level a b (at_a ∙ sym at_b)
      ∙ ap (λ z. cond z (nat_cmp a.number b.number) (internal_cmp cmp a.smallest b.smallest)) (eq-eqb a.level 0 at_a) ∙ nat_less a.number b.number less

  key_order : (a b : NewFile) → a.level ≡ b.level → 0 < a.level → cmp (user_part a.smallest) (user_part b.smallest) ≡ Less → version_order cmp a b ≡ Less
  key_order a b same deep less =
      same_level a b same
      ∙ ap (λ z. cond z (nat_cmp a.number b.number) (internal_cmp cmp a.smallest b.smallest)) (not_zero a.level deep)
      ∙ ap (λ o. ordering_then o (nat_cmp (sequence_part b.smallest) (sequence_part a.smallest))) less

module _ {cmp : List ℕ → List ℕ → Ordering} (exact : IsExactOrder cmp) (meaning : Meaning) (store : List ℕ) (files : Files) (tables : List LiveTable) (each : All (HasTable store cmp (IsTableOf cmp meaning) files) tables)
    (all : List NewFile) (files_are : IsPermutation (map (λ table. table.file) tables) all) (once : IsDistinct is_same_file (map level_file (map (λ table. table.file) tables)))
    (sorted : AreInVersionOrder cmp all) where
  in_turn : Pairwise (λ a b. (same_file a b ≡ false) × (is_lt (version_order cmp b a) ≡ false)) all
  in_turn = pairwise_both (λ a b. same_file a b ≡ false) (λ a b. is_lt (version_order cmp b a) ≡ false) all
      (pairwise_distinct same_file all (IsDistinct-IsPermutation same_file same_back (map (λ table. table.file) tables) all files_are
      (distinct_mapped is_same_file level_file (map (λ table. table.file) tables) once)))
      (pairwise_sorted (version_total (exact_total exact)) all sorted)

  -- in level 0 numbers rise
  pub numbers_rise : Pairwise (λ a b. a.level ≡ 0 → b.level ≡ 0 → a.number < b.number) all
  numbers_rise = pairwise_more (λ a b. (same_file a b ≡ false) × (is_lt (version_order cmp b a) ≡ false)) (λ a b. a.level ≡ 0 → b.level ≡ 0 → a.number < b.number) all rise in_turn
    where
      rise : (a b : NewFile) → Contains all a → Contains all b → (same_file a b ≡ false) × (is_lt (version_order cmp b a) ≡ false) → a.level ≡ 0 → b.level ≡ 0 → a.number < b.number
      rise a b c d turn at_a at_b = ⊎_elim
          (λ (less : a.number < b.number). less)
          (λ (most : b.number ≤ a.number). ⊎_elim
          (λ (same : a.number ≡ b.number). never_same (same_file a b) turn.0 (same_true a b (at_a ∙ sym at_b) same))
          (λ (differ : a.number ≢ b.number). ⊎_elim
          (λ (less : b.number < a.number). never_less (version_order cmp b a) turn.1 (number_order cmp b a at_b at_a less))
          (λ (upto : a.number ≤ b.number). absurd (differ (omega (arith, most, upto))))
          (cases_lt b.number a.number))
          (same_or_not a.number b.number))
          (cases_lt a.number b.number)

  -- and in deeper levels user keys rise from file to file
  pub keys_apart : LevelOrder cmp tables → Pairwise (λ a b. a.level ≡ b.level → 0 < a.level → cmp (user_part a.largest) (user_part b.smallest) ≡ Less) all
  keys_apart order = pairwise_more (λ a b. (same_file a b ≡ false) × (is_lt (version_order cmp b a) ≡ false)) (λ a b. a.level ≡ b.level → 0 < a.level → cmp (user_part a.largest) (user_part b.smallest) ≡ Less) all rise in_turn
    where
      rise : (a b : NewFile) → Contains all a → Contains all b → (same_file a b ≡ false) × (is_lt (version_order cmp b a) ≡ false) → a.level ≡ b.level → 0 < a.level → cmp (user_part a.largest) (user_part b.smallest) ≡ Less
      rise a b c d turn same deep =
          let p = table_of exact meaning store files tables each all files_are a c in
          let q = table_of exact meaning store files tables each all files_are b d in
          let level_p = ap (λ (f : NewFile). f.level) p.2 in
          let level_q = ap (λ (f : NewFile). f.level) q.2 in
          let differ : p.0.file.number ≢ q.0.file.number = λ e. never_same (same_file a b) turn.0
          (same_true a b same (sym (ap (λ (f : NewFile). f.number) p.2) ∙ e ∙ ap (λ (f : NewFile). f.number) q.2)) in
          let apart = order.disjoint p.0 q.0 p.1 q.1 (level_p ∙ same ∙ sym level_q) (omega (arith, level_p, deep)) differ in
          let ordered = subst (λ (f : NewFile). cmp (user_part f.largest) (user_part f.smallest) ≢ Less) q.2 (bounded exact meaning store files tables each q.0 q.1).ordered in
          by ordered (subst (λ f. AreDisjoint cmp f b) p.2 (subst (AreDisjoint cmp p.0.file) q.2 apart))
        where
          by : cmp (user_part b.largest) (user_part b.smallest) ≢ Less → AreDisjoint cmp a b → cmp (user_part a.largest) (user_part b.smallest) ≡ Less
          by ordered (inl before) = before
          by ordered (inr after) = never_less (version_order cmp b a) turn.1
              (key_order cmp b a (sym same) (omega (arith, same, deep)) (upto_before (exact_total exact) (user_part b.smallest) (user_part b.largest) (user_part a.smallest) ordered after))
