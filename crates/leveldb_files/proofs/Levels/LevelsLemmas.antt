-- Tables by levels: which may be left out of a look-up, which are older, and which may be added.
use Rattle.leveldb_base.proofs.HistoryLemmas.{in_cases, in_front, in_rest}
use Rattle.leveldb_base.proofs.LayersLemmas.{found_by_key}
use Rattle.leveldb_base.specs.Entries.{FindsNewest}
use Rattle.leveldb_base.specs.declared.types.Lookup.{Lookup}
use Rattle.leveldb_base.specs.History.{Entry}
use Rattle.leveldb_base.specs.KeyTypes.{user_part}
use Rattle.leveldb_base.specs.Layers.{AreLayered, IsOlder}
use Rattle.leveldb_files.proofs.Stores.OneStoreLemmas.{flat_in, in_flat}
use Rattle.leveldb_files.specs.Levels.Levels.{AreDisjoint, CanBeAdded, IsBounded, IsInRange, IsSearchedBefore, LevelOrder, LiveTable, table_entries}
use Rattle.leveldb_files.specs.Edits.Edit.{NewFile}
use Rattle.std.proofs.Common.{◌<◌, ◌∙◌, ◌∷◌, ◌≡◌, ◌≢◌, Bool, List, [], ap, arith, false, inl, inr, map, refl, subst, suc, sym, true, zero, ℕ}
use Rattle.std.proofs.lemmas.Cmp.{upto}
use Rattle.std.proofs.lemmas.List.Elements.{All-map, Contains-get_or}
use Rattle.std.proofs.lemmas.List.Kept.{AllPairs-cons}
use Rattle.std.specs.Cmp.{IsTotalOrder}
use Rattle.std.specs.Ordering.{is_gt, is_lt, ordering_reverse}
use Rattle.std.specs.Prelude.{◌↔◌, ◌⊎◌, AllPairs, Contains, slice_index_or}
use Rattle.std.specs.declared.cmp.Ordering.{Ordering}
use Rattle.std.specs.declared.cmp.Ordering.TheVariants.{Equal, Greater, Less}

-- tables whose range lacks the key may be left out
pub ranges_leave_out : (cmp : List ℕ → List ℕ → Ordering) (all some : List LiveTable)
    → ((table : LiveTable) → Contains all table → IsBounded cmp table)
    → ((table : LiveTable) → Contains some table → Contains all table)
    → (key : List ℕ)
    → ((table : LiveTable) → Contains all table → IsInRange cmp table.file key
    → Contains some table)
    → (s : ℕ) (found : Lookup (List ℕ))
    → FindsNewest (table_entries some) s key found → FindsNewest (table_entries all) s key found
ranges_leave_out cmp all some bounded among key kept s found =
    found_by_key (table_entries some) (table_entries all) s key found same
  where
    same : (entry : Entry) → entry.key ≡ key
        → Contains (table_entries some) entry ↔ Contains (table_entries all) entry
    same entry is = (
      λ c. let t = in_flat (λ (x : LiveTable). x.entries) some entry c in
          flat_in (λ (x : LiveTable). x.entries) all t.0 entry (among t.0 t.1) t.2,
      λ c. let t = in_flat (λ (x : LiveTable). x.entries) all entry c in
          flat_in (λ (x : LiveTable). x.entries) some t.0 entry
          (kept t.0 t.1
          (subst (IsInRange cmp t.0.file) is ((bounded t.0 t.1).within entry t.2))) t.2,
    )

-- ---- a total order by its test

pub reversed : (o : Ordering) → is_lt (ordering_reverse o) ≡ is_gt o
reversed Less = refl
reversed Equal = refl
reversed Greater = refl

not_less : (o : Ordering) → o ≢ Less → is_lt o ≡ false
not_less Less h = absurd (h refl)
not_less Equal h = refl
not_less Greater h = refl

decided : {A : Type 0} (b : Bool) → b ≡ true → b ≡ false → A
decided b t f = cc

is_true : (b : Bool) → (b ≡ false → ⊥) → b ≡ true
is_true true h = refl
is_true false h = absurd (h refl)

module _ (cmp : List ℕ → List ℕ → Ordering) (total : IsTotalOrder cmp) where
  -- c isn't before b, nor b before a, so c isn't before a
  pub none_before : (a b c : List ℕ) → is_lt (cmp b a) ≡ false → is_lt (cmp c b) ≡ false
      → is_lt (cmp c a) ≡ false
  none_before a b c p q = back c a (upto total a b c (to b a p) (to c b q))
    where
      to : (x y : List ℕ) → is_lt (cmp x y) ≡ false → is_gt (cmp y x) ≡ false
      to x y e = sym (reversed (cmp y x)) ∙ ap is_lt (sym (total.antisymm x y)) ∙ e

      back : (x y : List ℕ) → is_gt (cmp y x) ≡ false → is_lt (cmp x y) ≡ false
      back x y e = ap is_lt (total.antisymm x y) ∙ reversed (cmp y x) ∙ e

  -- b isn't before a, and is before c, so a is before c
  at_most_before : (a b c : List ℕ) → is_lt (cmp b a) ≡ false → is_lt (cmp b c) ≡ true
      → is_lt (cmp a c) ≡ true
  at_most_before a b c p q =
      is_true (is_lt (cmp a c)) (λ r. decided (is_lt (cmp b c)) q (none_before c a b r p))

  -- ---- keys and ranges

  -- a key isn't in two ranges that are apart
  in_one : (a b : NewFile) (key : List ℕ) → IsInRange cmp a key → IsInRange cmp b key
      → cmp (user_part a.largest) (user_part b.smallest) ≡ Less → ⊥
  in_one a b key in_a in_b less =
      decided (is_lt (cmp key (user_part b.smallest)))
      (at_most_before key (user_part a.largest) (user_part b.smallest)
      (not_less (cmp (user_part a.largest) key) in_a.to) (ap is_lt less))
      (not_less (cmp key (user_part b.smallest)) in_b.from)

  pub no_common : (a b : LiveTable) → IsBounded cmp a → IsBounded cmp b
      → AreDisjoint cmp a.file b.file → (x y : Entry) → Contains a.entries x
      → Contains b.entries y → x.key ≡ y.key → ⊥
  no_common a b is_a is_b (inl less) x y c d k =
      in_one a.file b.file y.key
      (subst (IsInRange cmp a.file) k (is_a.within x c)) (is_b.within y d) less
  no_common a b is_a is_b (inr less) x y c d k =
      in_one b.file a.file y.key (is_b.within y d)
      (subst (IsInRange cmp a.file) k (is_a.within x c)) less

  -- ---- levels

  searched_older : (all : List LiveTable) → LevelOrder cmp all
      → ((table : LiveTable) → Contains all table → IsBounded cmp table)
      → (a b : LiveTable) → Contains all a → Contains all b → IsSearchedBefore a b
      → IsOlder b.entries a.entries
  searched_older all order bounded a b in_a in_b (inl deeper) =
      order.deeper a b in_a in_b deeper
  searched_older all order bounded a b in_a in_b (inr (inl newer)) =
      order.newer b a in_b in_a newer.1 newer.0 newer.2
  searched_older all order bounded a b in_a in_b (inr (inr beside)) = λ x y c d k.
      absurd (no_common a b (bounded a in_a) (bounded b in_b)
      (order.disjoint a b in_a in_b beside.0 beside.1 beside.2) y x d c (sym k))

  pub are_layered : (all : List LiveTable) → LevelOrder cmp all
      → ((table : LiveTable) → Contains all table → IsBounded cmp table)
      → (tables : List LiveTable)
      → ((table : LiveTable) → Contains tables table → Contains all table)
      → AllPairs IsSearchedBefore tables
      → AreLayered (map (λ (table : LiveTable). table.entries) tables)
  are_layered all order bounded [] within first = λ i j d l h. absurd (omega arith)
  are_layered all order bounded (table ∷ tables) within first =
      AllPairs-cons (λ newer older. IsOlder older newer) table.entries
      (map (λ (one : LiveTable). one.entries) tables)
      (All-map (λ older. IsOlder older table.entries) (λ (one : LiveTable). one.entries) tables
      (λ k d l. searched_older all order bounded table (slice_index_or tables k d)
      (within table (in_front table tables))
      (within (slice_index_or tables k d)
      (in_rest table (slice_index_or tables k d) tables (Contains-get_or tables k d l)))
      (first zero (suc k) d (omega arith) (omega arith))))
      (are_layered all order bounded tables
      (λ one c. within one (in_rest table one tables c))
      (λ i j d l h. first (suc i) (suc j) d (omega arith) (omega arith)))

  -- ---- a table that is added

  turned_disjoint : (a b : NewFile) → AreDisjoint cmp a b → AreDisjoint cmp b a
  turned_disjoint a b (inl x) = inr x
  turned_disjoint a b (inr x) = inl x

  pub adding_keeps_order : (tables : List LiveTable) (table : LiveTable)
      → LevelOrder cmp tables
      → ((one : LiveTable) → Contains tables one → IsBounded cmp one)
      → CanBeAdded cmp tables table → LevelOrder cmp (table ∷ tables)
  adding_keeps_order tables table order bounded can =
      record { disjoint = disjoint; deeper = deeper; newer = newer }
    where
      entry_in : (a : LiveTable) (x : Entry) → Contains tables a → Contains a.entries x
          → Contains (table_entries tables) x
      entry_in a x c d = flat_in (λ (t : LiveTable). t.entries) tables a x c d

      level_is : (a : LiveTable) → table ≡ a → table.file.level ≡ a.file.level
      level_is a e = ap (λ (x : LiveTable). x.file.level) e

      number_is : (a : LiveTable) → table ≡ a → table.file.number ≡ a.file.number
      number_is a e = ap (λ (x : LiveTable). x.file.number) e

      disjoint : (a b : LiveTable) → Contains (table ∷ tables) a
          → Contains (table ∷ tables) b → a.file.level ≡ b.file.level → 0 < a.file.level
          → a.file.number ≢ b.file.number → AreDisjoint cmp a.file b.file
      disjoint a b c d same deep differ =
          by (in_cases table a tables c) (in_cases table b tables d)
        where
          by : (table ≡ a) ⊎ Contains tables a → (table ≡ b) ⊎ Contains tables b
              → AreDisjoint cmp a.file b.file
          by (inl e) (inl f) = absurd (differ (sym (number_is a e) ∙ number_is b f))
          by (inl e) (inr g) = subst (λ (x : LiveTable). AreDisjoint cmp x.file b.file) e
              (turned_disjoint b.file table.file
              (can.beside b g (sym (level_is a e ∙ same)) (omega (arith, same, deep))))
          by (inr g) (inl f) = subst (λ (x : LiveTable). AreDisjoint cmp a.file x.file) f
              (can.beside a g (same ∙ sym (level_is b f)) deep)
          by (inr g) (inr h) = order.disjoint a b g h same deep differ

      deeper : (a b : LiveTable) → Contains (table ∷ tables) a
          → Contains (table ∷ tables) b → a.file.level < b.file.level
          → IsOlder b.entries a.entries
      deeper a b c d less x y in_b in_a k =
          by (in_cases table a tables c) (in_cases table b tables d)
        where
          by : (table ≡ a) ⊎ Contains tables a → (table ≡ b) ⊎ Contains tables b
              → x.sequence < y.sequence
          by (inl e) (inl f) =
              let p = level_is a e in let q = level_is b f in absurd (omega (arith, p, q, less))
          by (inl e) (inr g) = can.newer x y (entry_in b x g in_b)
              (subst (λ (z : LiveTable). Contains z.entries y) (sym e) in_a) k
          by (inr g) (inl f) =
              let q = level_is b f in
              absurd (no_common a table (bounded a g) can.bounded
              (can.above a g (omega (arith, q, less))) y x in_a
              (subst (λ (z : LiveTable). Contains z.entries x) (sym f) in_b) (sym k))
          by (inr g) (inr h) = order.deeper a b g h less x y in_b in_a k

      newer : (a b : LiveTable) → Contains (table ∷ tables) a
          → Contains (table ∷ tables) b → a.file.level ≡ 0 → b.file.level ≡ 0
          → a.file.number < b.file.number → IsOlder a.entries b.entries
      newer a b c d at_a at_b less x y in_a in_b k =
          by (in_cases table a tables c) (in_cases table b tables d)
        where
          by : (table ≡ a) ⊎ Contains tables a → (table ≡ b) ⊎ Contains tables b
              → x.sequence < y.sequence
          by (inl e) (inl f) =
              let p = number_is a e in
              let q = number_is b f in
              absurd (omega (arith, p, q, less))
          by (inr g) (inl f) = can.newer x y (entry_in a x g in_a)
              (subst (λ (z : LiveTable). Contains z.entries y) (sym f) in_b) k
          by (inl e) (inr g) =
              let p = level_is a e in
              let q = number_is a e in
              let below = can.number b g at_b (p ∙ at_a) in
              absurd (omega (arith, p, q, below, less))
          by (inr g) (inr h) = order.newer a b g h at_a at_b less x y in_a in_b k
