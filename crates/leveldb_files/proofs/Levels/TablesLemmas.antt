-- A store's tables: each has one list of pairs, whose keys are in the range that its edit says.
use Rattle.std.specs.Prelude.{Contains}
use Rattle.std.proofs.Common.{◌≡◌, ◌≢◌, ⊎_elim, ℕ, Bool, false, List, [], ◌∷◌, ◌++◌, refl, sym, ◌∙◌, ap, subst, Option}
use Rattle.std.proofs.lemmas.List.Elements.{Contains-push}
use Rattle.std.specs.Cmp.{IsTotalOrder}
use Rattle.std.specs.Ordering.{is_gt, is_lt, ordering_reverse, ordering_then}
use Rattle.std.specs.declared.cmp.Ordering.{Ordering}
use Rattle.std.specs.declared.cmp.Ordering.TheVariants.{Equal, Greater, Less}
use Rattle.leveldb_base.proofs.HistoryLemmas.{in_cases, in_front, in_none, in_rest}
use Rattle.leveldb_base.specs.Cmp.{internal_accepts}
use Rattle.leveldb_base.specs.CmpLaws.{user_part-internal_key}
use Rattle.leveldb_base.specs.History.{Entry}
use Rattle.leveldb_base.specs.KeyTypes.{internal_cmp, user_part}
use Rattle.leveldb_base.specs.Types.{Pair}
use Rattle.leveldb_env.specs.Env.{Files}
use Rattle.leveldb_table.specs.Block.{KeysRise}
use Rattle.leveldb_table.specs.Table.{DecodesOne, OneTable}
use Rattle.leveldb_files.proofs.Levels.LevelsLemmas.{none_before, reversed}
use Rattle.leveldb_files.specs.Stores.Batches.{Each}
use Rattle.leveldb_files.specs.Levels.Levels.{IsBounded, IsInRange, LiveTable}
use Rattle.leveldb_files.specs.Stores.Store.{HasTable, IsInternalPair, IsStoreTable, OneTableReading, any_user_key}

pub one_store_table : (Decodes : ℕ → List ℕ → List ℕ → Type 0)
    (cmp : List ℕ → List ℕ → Ordering) (meaning : List ℕ → Option (List ℕ → List ℕ → Bool))
    → DecodesOne Decodes → OneTable Decodes (internal_cmp cmp)
    → OneTableReading (IsStoreTable Decodes cmp meaning)
one_store_table Decodes cmp meaning decodes one bytes these those p q =
    one decodes (internal_accepts any_user_key) (internal_accepts any_user_key) meaning meaning user_part user_part bytes these those p q

-- each of the second elements has a partner
each_in : {A B : Type 0} (R : A → B → Type 0) (xs : List A) (ys : List B) (y : B) → Each R xs ys
    → Contains ys y → (x : A) × Contains xs x × R x y
each_in R xs [] y e c = absurd (in_none y c)
each_in R [] (b ∷ ys) y e c = absurd e
each_in R (a ∷ xs) (b ∷ ys) y e c = ⊎_elim
    (λ (is : b ≡ y). (a, in_front a xs, subst (R a) is e.0))
    (λ (rest : Contains ys y).
    let found = each_in R xs ys y e.1 rest in
    (found.0, in_rest a found.0 xs found.1, found.2))
    (in_cases b y ys c)

then_less : (o p : Ordering) → ordering_then o p ≡ Less → is_gt o ≡ false
then_less Less p e = refl
then_less Equal p e = refl
then_less Greater p e = absurd (let never : Greater ≡ Less = e in cc)

turned_is_equal : (o : Ordering) → o ≡ ordering_reverse o → is_lt o ≡ false
turned_is_equal Less e = absurd (let never : Less ≡ Greater = e in cc)
turned_is_equal Equal e = refl
turned_is_equal Greater e = refl

not_lt : (o : Ordering) → is_lt o ≡ false → o ≢ Less
not_lt o e is = let never : is_lt Less ≡ false = ap is_lt (sym is) ∙ e in cc

module _ (cmp : List ℕ → List ℕ → Ordering) (total : IsTotalOrder cmp) where
  -- the user key of the second isn't before that of the first
  abbrev pub UpTo : List ℕ → List ℕ → Type 0
  UpTo a b = is_lt (cmp (user_part b) (user_part a)) ≡ false

  pub up_to_itself : (a : List ℕ) → UpTo a a
  up_to_itself a = turned_is_equal (cmp (user_part a) (user_part a))
      (total.antisymm (user_part a) (user_part a))

  pub up_to_next : (a b : List ℕ) → internal_cmp cmp a b ≡ Less → UpTo a b
  up_to_next a b less = ap is_lt (total.antisymm (user_part b) (user_part a))
      ∙ reversed (cmp (user_part a) (user_part b)) ∙ then_less _ _ less

  -- of rising pairs the first is up to each
  first_least : (first : Pair) (rest : List Pair) → KeysRise (internal_cmp cmp) (first ∷ rest)
      → (pair : Pair) → Contains (first ∷ rest) pair → UpTo first.0 pair.0
  first_least first [] rise pair c = ⊎_elim
      (λ (is : first ≡ pair). subst (λ (p : Pair). UpTo first.0 p.0) is (up_to_itself first.0))
      (λ (none : Contains [] pair). absurd (in_none pair none))
      (in_cases first pair [] c)
  first_least first (next ∷ rest) rise pair c = ⊎_elim
      (λ (is : first ≡ pair). subst (λ (p : Pair). UpTo first.0 p.0) is (up_to_itself first.0))
      (λ (later : Contains (next ∷ rest) pair).
      none_before cmp total (user_part first.0) (user_part next.0) (user_part pair.0)
      (up_to_next first.0 next.0 rise.0) (first_least next rest rise.1 pair later))
      (in_cases first pair (next ∷ rest) c)

  rest_rises : (first : Pair) (rest : List Pair) → KeysRise (internal_cmp cmp) (first ∷ rest)
      → KeysRise (internal_cmp cmp) rest
  rest_rises first [] rise = tt
  rest_rises first (next ∷ rest) rise = rise.1

  -- and each is up to the last
  last_greatest : (front : List Pair) (last : Pair)
      → KeysRise (internal_cmp cmp) (front ++ last ∷ []) → (pair : Pair)
      → Contains (front ++ last ∷ []) pair → UpTo pair.0 last.0
  last_greatest [] last rise pair c = ⊎_elim
      (λ (is : last ≡ pair). subst (λ (p : Pair). UpTo p.0 last.0) is (up_to_itself last.0))
      (λ (none : Contains [] pair). absurd (in_none pair none))
      (in_cases last pair [] c)
  last_greatest (first ∷ front) last rise pair c = ⊎_elim
      (λ (is : first ≡ pair). subst (λ (p : Pair). UpTo p.0 last.0) is
      (first_least first (front ++ last ∷ []) rise last
      (in_rest first last (front ++ last ∷ []) (Contains-push front last))))
      (λ (later : Contains (front ++ last ∷ []) pair).
      last_greatest front last (rest_rises first (front ++ last ∷ []) rise) pair later)
      (in_cases first pair (front ++ last ∷ []) c)

  pub tables_bounded : (Decodes : ℕ → List ℕ → List ℕ → Type 0)
      (meaning : List ℕ → Option (List ℕ → List ℕ → Bool)) (store : List ℕ) (files : Files)
      (table : LiveTable) → HasTable store cmp (IsStoreTable Decodes cmp meaning) files table
      → IsBounded cmp table
  tables_bounded Decodes meaning store files table has = record {
    ordered = not_lt _ (from last (subst (λ ps. Contains ps last) (sym has.largest.2)
        (Contains-push has.largest.0 last)));
    within = within;
  }
    where
      first : Pair
      first = (table.file.smallest, has.smallest.0)

      last : Pair
      last = (table.file.largest, has.largest.1)

      from : (pair : Pair) → Contains has.pairs pair → UpTo table.file.smallest pair.0
      from pair c = first_least first has.smallest.1
          (subst (KeysRise (internal_cmp cmp)) has.smallest.2 has.read.sorted) pair
          (subst (λ ps. Contains ps pair) has.smallest.2 c)

      to : (pair : Pair) → Contains has.pairs pair → UpTo pair.0 table.file.largest
      to pair c = last_greatest has.largest.0 last
          (subst (KeysRise (internal_cmp cmp)) has.largest.2 has.read.sorted) pair
          (subst (λ ps. Contains ps pair) has.largest.2 c)

      within : (entry : Entry) → Contains table.entries entry
          → IsInRange cmp table.file entry.key
      within entry c =
          let found = each_in IsInternalPair has.pairs table.entries entry has.each c in
          let key : user_part found.0.0 ≡ entry.key = ap user_part found.2.key
          ∙ user_part-internal_key entry.key entry.sequence found.2.kind in
          subst (IsInRange cmp table.file) key (record {
            from = not_lt _ (from found.0 found.1);
            to = not_lt _ (to found.0 found.1);
          })
