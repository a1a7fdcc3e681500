-- What a compaction leaves of the levels, and that the same is shown after it.
use Rattle.std.proofs.Common.{◌≡◌, ◌≢◌, ◌⊎◌, inl, inr, ⊎_elim, ℕ, ◌+◌, ◌<◌, ◌==◌, Bool, true, false, not, ◌&&◌, ◌||◌, List, [], ◌∷◌, ◌++◌, refl, sym, ◌∙◌, ap, subst, arith}
use Rattle.std.specs.Prelude.{Contains, nat_le, nat_lt}
use Rattle.std.specs.List.{list_any}
use Rattle.std.specs.Cmp.{IsTotalOrder}
use Rattle.std.specs.Ordering.{is_lt}
use Rattle.std.specs.declared.cmp.Ordering.{Ordering}
use Rattle.std.specs.declared.cmp.Ordering.TheVariants.{Less}
use Rattle.std.proofs.lemmas.Bool.{leb-true, leb-false, and_parts, and_from, eqb-true, eqb-false, lt-ltb, ltb-true}
use Rattle.std.proofs.lemmas.List.Elements.{Contains-append_left, Contains-append_right, Contains-append_cases}
use Rattle.leveldb_base.specs.History.{Entry}
use Rattle.leveldb_base.specs.KeyTypes.{user_part}
use Rattle.leveldb_base.specs.Layers.{IsOlder}
use Rattle.leveldb_base.specs.Thinning.{IsShadowed, IsSpent, Thins}
use Rattle.leveldb_base.proofs.EntriesLemmas.{in_map, map_in}
use Rattle.leveldb_base.proofs.HistoryLemmas.{in_none, in_front, in_rest, in_cases}
use Rattle.leveldb_base.proofs.OrderLemmas.{lt_less, not_less, not_lt, both, lt_turn, lt_le, le_lt, le_le}
use Rattle.leveldb_base.proofs.ThinningLemmas.{finds_it, found_by, thinning_keeps_views}
use Rattle.leveldb_files.proofs.Levels.LevelsLemmas.{no_common}
use Rattle.leveldb_files.proofs.Stores.OneStoreLemmas.{flat_in, in_flat}
use Rattle.leveldb_version_set.specs.Compactions.Compaction.{AreBounded, AreKnownByNumber, Compacts, IsInNoDeeper, files_of_tables}
use Rattle.leveldb_version.specs.Versions.DeeperLevels.{IsBaseLevelFor, closed_range, is_base_level_for}
use Rattle.leveldb_version_set.specs.Compactions.CompactionLaws.{CompactionsKeepViews, KeepsLevelsAndViews, OutputsLieWithin, RangesTellBaseLevel}
use Rattle.leveldb_version.specs.Versions.DeeperLevels.{TestTellsBaseLevel}
use Rattle.leveldb_files.specs.Levels.Levels.{AreDisjoint, IsInRange, LevelOrder, LiveTable, table_entries}
use Rattle.leveldb_files.specs.Levels.Overlap.{overlaps, sticks_out}
use Rattle.leveldb_files.specs.Edits.Edit.{NewFile}
use Rattle.leveldb_version.proofs.Versions.DeeperLevelsLemmas.{meets}

-- ---- tables and their entries

pub table_of : (tables : List LiveTable) (e : Entry) → Contains (table_entries tables) e
    → (table : LiveTable) × Contains tables table × Contains table.entries e
table_of tables e c = in_flat (λ (table : LiveTable). table.entries) tables e c

in_entries : (tables : List LiveTable) (table : LiveTable) (e : Entry) → Contains tables table
    → Contains table.entries e → Contains (table_entries tables) e
in_entries tables table e c d = flat_in (λ (table : LiveTable). table.entries) tables table e c d

-- one of tables that are known by their numbers is among some of them, or it isn't
pub taken_or : (tables some : List LiveTable) → AreKnownByNumber tables
    → ((x : LiveTable) → Contains some x → Contains tables x) → (a : LiveTable)
    → Contains tables a → Contains some a ⊎ (Contains some a → ⊥)
taken_or tables [] once among a there = inr (λ c. in_none a c)
taken_or tables (x ∷ some) once among a there =
    by (taken_or tables some once (λ y c. among y (in_rest x y some c)) a there)
    (x.file.level == a.file.level) (x.file.number == a.file.number) refl refl
  where
    by : Contains some a ⊎ (Contains some a → ⊥) → (p q : Bool)
        → (x.file.level == a.file.level) ≡ p → (x.file.number == a.file.number) ≡ q
        → Contains (x ∷ some) a ⊎ (Contains (x ∷ some) a → ⊥)
    by (inl c) p q e f = inl (in_rest x a some c)
    by (inr none) true true e f =
        let same = once x a (among x (in_front x some)) there
        (eqb-true x.file.level a.file.level e) (eqb-true x.file.number a.file.number f) in
        inl (subst (Contains (x ∷ some)) same (in_front x some))
    by (inr none) true false e f = inr (λ c. ⊎_elim
        (λ (is : x ≡ a). eqb-false x.file.number a.file.number f
        (ap (λ (y : LiveTable). y.file.number) is))
        none (in_cases x a some c))
    by (inr none) false q e f = inr (λ c. ⊎_elim
        (λ (is : x ≡ a). eqb-false x.file.level a.file.level e
        (ap (λ (y : LiveTable). y.file.level) is))
        none (in_cases x a some c))

-- ---- ranges

pub neither : (a b : Bool) → (a || b) ≡ false → (a ≡ false) × (b ≡ false)
neither true b e = cc
neither false b e = (refl, e)

module _ (cmp : List ℕ → List ℕ → Ordering) where
  -- a file ends before the range, or begins after it
  abbrev pub IsOutside : List ℕ → List ℕ → NewFile → Type 0
  IsOutside low high file = (cmp (user_part file.largest) low ≡ Less)
      ⊎ (cmp high (user_part file.smallest) ≡ Less)

  -- what sticks out of it neither way lies in it
  pub lies_in : (low high : List ℕ) (file : NewFile)
      → sticks_out cmp (closed_range low high) file ≡ false
      → (is_lt (cmp (user_part file.smallest) low) ≡ false)
      × (is_lt (cmp high (user_part file.largest)) ≡ false)
  lies_in low high file e = neither (is_lt (cmp (user_part file.smallest) low))
      (is_lt (cmp high (user_part file.largest))) e

  -- what doesn't overlap is outside
  pub outside : (low high : List ℕ) (file : NewFile)
      → (overlaps cmp (closed_range low high) file ≡ true → ⊥) → IsOutside low high file
  outside low high file none = by (is_lt (cmp (user_part file.largest) low))
      (is_lt (cmp high (user_part file.smallest))) refl refl
    where
      by : (p q : Bool) → is_lt (cmp (user_part file.largest) low) ≡ p
          → is_lt (cmp high (user_part file.smallest)) ≡ q → IsOutside low high file
      by true q e f = inl (lt_less _ e)
      by false true e f = inr (lt_less _ f)
      by false false e f = absurd (none (and_from (not (is_lt (cmp (user_part file.largest) low)))
          (not (is_lt (cmp high (user_part file.smallest)))) (ap not e) (ap not f)))

  -- an input beside a file that stays in the next level: it lies in the range, or it meets the
  -- range and is apart from that file
  abbrev pub IsPlaced : List ℕ → List ℕ → NewFile → NewFile → Type 0
  IsPlaced low high r a =
      ((is_lt (cmp (user_part a.smallest) low) ≡ false)
      × (is_lt (cmp high (user_part a.largest)) ≡ false))
      ⊎ ((is_lt (cmp (user_part a.largest) low) ≡ false)
      × (is_lt (cmp high (user_part a.smallest)) ≡ false) × AreDisjoint cmp r a)

  module _ (total : IsTotalOrder cmp) (low high : List ℕ) (r a : NewFile)
      (ordered : is_lt (cmp (user_part r.largest) (user_part r.smallest)) ≡ false) where
    -- a file that ends before the range ends before each input
    pub ends_first : cmp (user_part r.largest) low ≡ Less → IsPlaced low high r a
        → is_lt (cmp (user_part r.largest) (user_part a.smallest)) ≡ true
    ends_first less (inl x) =
        lt_le total (user_part r.largest) low (user_part a.smallest) (ap is_lt less) x.0
    ends_first less (inr x) = by x.2
      where
        by : AreDisjoint cmp r a
            → is_lt (cmp (user_part r.largest) (user_part a.smallest)) ≡ true
        by (inl apart) = ap is_lt apart
        by (inr apart) =
            let first = lt_le total (user_part a.largest) (user_part r.smallest)
            (user_part r.largest) (ap is_lt apart) ordered in
            both (is_lt (cmp (user_part r.largest) low)) (ap is_lt less)
            (le_le total low (user_part a.largest) (user_part r.largest) x.0
            (lt_turn total (user_part a.largest) (user_part r.largest) first))

    -- and one that begins after the range begins after each
    pub begins_after : cmp high (user_part r.smallest) ≡ Less → IsPlaced low high r a
        → is_lt (cmp (user_part a.largest) (user_part r.smallest)) ≡ true
    begins_after less (inl x) =
        le_lt total (user_part a.largest) high (user_part r.smallest) x.1 (ap is_lt less)
    begins_after less (inr x) = by x.2
      where
        by : AreDisjoint cmp r a
            → is_lt (cmp (user_part a.largest) (user_part r.smallest)) ≡ true
        by (inr apart) = ap is_lt apart
        by (inl apart) =
            let first = le_lt total (user_part r.smallest) (user_part r.largest)
            (user_part a.smallest) ordered (ap is_lt apart) in
            both (is_lt (cmp high (user_part r.smallest))) (ap is_lt less)
            (le_le total (user_part r.smallest) (user_part a.smallest) high
            (lt_turn total (user_part r.smallest) (user_part a.smallest) first) x.1)

-- ---- levels

-- where a level placed_in to that of a compaction
data PlacedIn (level n : ℕ) : Type 0 where
  above : n < level → PlacedIn level n
  level_is : n ≡ level → PlacedIn level n
  next_is : n ≡ level + 1 → PlacedIn level n
  below : level + 1 < n → PlacedIn level n

placed_in : (level n : ℕ) → PlacedIn level n
placed_in level n = by (nat_le level n) (nat_le n level) (nat_le n (level + 1)) refl refl refl
  where
    by : (a b c : Bool) → nat_le level n ≡ a → nat_le n level ≡ b → nat_le n (level + 1) ≡ c → PlacedIn level n
    by false b c e f g = above (leb-false level n e)
    by true true c e f g = level_is (let x = leb-true level n e in let y = leb-true n level f in omega arith)
    by true false true e f g = next_is (let x = leb-false n level f in let y = leb-true n (level + 1) g in omega arith)
    by true false false e f g = below (leb-false n (level + 1) g)

module _ (cmp : List ℕ → List ℕ → Ordering) (total : IsTotalOrder cmp) (smallest level : ℕ)
    (before inputs outputs after : List LiveTable) (memory : List Entry)
    (order : LevelOrder cmp before)
    (bounded : AreBounded cmp before) (once : AreKnownByNumber before)
    (newer_memory : IsOlder (table_entries before) memory)
    (c : Compacts cmp smallest level before inputs outputs after) where
  abbrev low : List ℕ
  low = c.may.low

  abbrev high : List ℕ
  high = c.may.high

  -- ---- the inputs

  file_there : (a : LiveTable) → Contains inputs a → Contains (files_of_tables inputs) a.file
  file_there a there = map_in (λ (t : LiveTable). t.file) inputs a there

  in_level : (a : LiveTable) → Contains inputs a
      → (a.file.level ≡ level) ⊎ (a.file.level ≡ level + 1)
  in_level a there = c.may.levels a.file (file_there a there)

  -- an input of the level lies in the range
  in_range : (a : LiveTable) → Contains inputs a → a.file.level ≡ level
      → (is_lt (cmp (user_part a.file.smallest) low) ≡ false)
      × (is_lt (cmp high (user_part a.file.largest)) ≡ false)
  in_range a there is =
      lies_in cmp low high a.file (c.may.covered a.file (file_there a there) is)

  -- one of the next level meets it
  in_next : (a : LiveTable) → Contains inputs a → a.file.level ≡ level + 1
      → (is_lt (cmp (user_part a.file.largest) low) ≡ false)
      × (is_lt (cmp high (user_part a.file.smallest)) ≡ false)
  in_next a there is = meets cmp low high a.file
      ((c.may.next a.file (c.may.there a.file (file_there a there)) is).0 (file_there a there))

  -- a table whose file is an input's is an input
  is_input : (b : LiveTable) → Contains before b → Contains (files_of_tables inputs) b.file
      → Contains inputs b
  is_input b old there =
      let x = in_map (λ (t : LiveTable). t.file) inputs b.file there in
      subst (Contains inputs)
      (once x.0 b (c.there x.0 x.1) old (ap (λ (f : NewFile). f.level) x.2)
      (ap (λ (f : NewFile). f.number) x.2)) x.1

  -- the range of a table that stays is outside
  stays_outside : (b : LiveTable) → Contains before b → (Contains inputs b → ⊥)
      → b.file.level ≡ level + 1 → IsOutside cmp low high b.file
  stays_outside b old stays is = outside cmp low high b.file (λ e. stays (is_input b old
      ((c.may.next b.file (map_in (λ (t : LiveTable). t.file) before b old) is).1 e)))

  stays_outside_zero : (b : LiveTable) → Contains before b → (Contains inputs b → ⊥)
      → b.file.level ≡ level → level ≡ 0 → IsOutside cmp low high b.file
  stays_outside_zero b old stays is zero_is = outside cmp low high b.file (λ e. stays (is_input b
      old (c.may.zero zero_is b.file (map_in (λ (t : LiveTable). t.file) before b old)
      (is ∙ zero_is) e)))

  -- a table outside the range has no key in common with an input of the level
  apart_from : (a b : LiveTable) → Contains inputs a → a.file.level ≡ level
      → IsOutside cmp low high b.file → AreDisjoint cmp b.file a.file
  apart_from a b there is (inl less) = inl (lt_less _
      (lt_le total (user_part b.file.largest) low (user_part a.file.smallest) (ap is_lt less)
      (in_range a there is).0))
  apart_from a b there is (inr less) = inr (lt_less _
      (le_lt total (user_part a.file.largest) high (user_part b.file.smallest)
      (in_range a there is).1 (ap is_lt less)))

  -- of a key that an input and a table that stays have, the table's entry is newer, or the table is
  -- deeper than the next level
  pub newer_where_it_stays : (a b : LiveTable) (x y : Entry) → Contains inputs a
      → Contains before b → (Contains inputs b → ⊥) → Contains a.entries x → Contains b.entries y → x.key ≡ y.key
      → (x.sequence < y.sequence) ⊎ (level + 1 < b.file.level)
  newer_where_it_stays a b x y there old stays in_a in_b k =
      by (in_level a there) (placed_in level b.file.level)
    where
      a_old : Contains before a
      a_old = c.there a there

      clash : AreDisjoint cmp b.file a.file
          → (x.sequence < y.sequence) ⊎ (level + 1 < b.file.level)
      clash apart = absurd
          (no_common cmp total b a (bounded b old) (bounded a a_old) apart y x in_b in_a (sym k))

      beside : b.file.level ≡ a.file.level → 0 < b.file.level
          → (x.sequence < y.sequence) ⊎ (level + 1 < b.file.level)
      beside same deep = clash (order.disjoint b a old a_old same deep
          (λ e. stays (subst (Contains inputs) (once a b a_old old (sym same) (sym e)) there)))

      by : (a.file.level ≡ level) ⊎ (a.file.level ≡ level + 1) → PlacedIn level b.file.level
          → (x.sequence < y.sequence) ⊎ (level + 1 < b.file.level)
      by here (below deep) = inr deep
      by (inl here) (above high) =
          inl (order.deeper b a old a_old (omega (arith, here, high)) x y in_a in_b k)
      by (inr here) (above high) =
          inl (order.deeper b a old a_old (omega (arith, here, high)) x y in_a in_b k)
      by (inr here) (level_is same) =
          inl (order.deeper b a old a_old (omega (arith, here, same)) x y in_a in_b k)
      by (inl here) (next_is same) =
          clash (apart_from a b there here (stays_outside b old stays same))
      by (inr here) (next_is same) = beside (same ∙ sym here) (omega (arith, same))
      by (inl here) (level_is same) = first (nat_le 1 level) refl
        where
          first : (t : Bool) → nat_le 1 level ≡ t
              → (x.sequence < y.sequence) ⊎ (level + 1 < b.file.level)
          first true e =
              let deep = leb-true 1 level e in beside (same ∙ sym here) (omega (arith, same, deep))
          first false e =
              let zero_is : level ≡ 0 = (let shallow = leb-false 1 level e in omega arith) in
              clash (apart_from a b there here (stays_outside_zero b old stays same zero_is))

  -- what an output has came from an input
  pub of_input : (o : LiveTable) (x : Entry) → Contains outputs o → Contains o.entries x
      → (a : LiveTable) × Contains inputs a × Contains a.entries x
  of_input o x there d = table_of inputs x (c.drops.made x (in_entries outputs o x there d))

  abbrev Stays : LiveTable → Type 0
  Stays a = Contains before a × (Contains inputs a → ⊥)

  stayed_or_made : (a : LiveTable) → Contains after a → Stays a ⊎ Contains outputs a
  stayed_or_made a there = ⊎_elim (λ (o : Contains outputs a). inr o) (λ (w : Stays a). inl w)
      ((c.after_is a).0 there)

  none_new : (x : Entry) → Contains (table_entries after) x → Contains (table_entries before) x
  none_new x d =
      let at = table_of after x d in
      ⊎_elim
      (λ (old : Stays at.0). in_entries before at.0 x old.0 at.2)
      (λ (new : Contains outputs at.0). let from = of_input at.0 x new at.2 in
      in_entries before from.0 x (c.there from.0 from.1) from.2)
      (stayed_or_made at.0 at.1)

  -- ---- views

  -- a key that is out of the range of each deeper file is in no deeper table
  pub no_deeper_has : (n : ℕ) (key : List ℕ) → IsBaseLevelFor cmp n (files_of_tables before) key
      → IsInNoDeeper cmp n before key
  no_deeper_has n key out a entry there deep d k =
      out a.file (map_in (λ (t : LiveTable). t.file) before a there) deep
      (subst (IsInRange cmp a.file) k ((bounded a there).within entry d))

  abbrev Kept : Entry → Type 0
  Kept entry = Contains (memory ++ table_entries after) entry
      ⊎ (IsShadowed smallest (memory ++ table_entries before) entry
      ⊎ IsSpent smallest (memory ++ table_entries after) entry)

  thins : Thins smallest (memory ++ table_entries before) (memory ++ table_entries after)
  thins = record {
    made = made;
    kept = λ entry there.
        kept entry (Contains-append_cases memory (table_entries before) entry there);
  }
    where
      made : (entry : Entry) → Contains (memory ++ table_entries after) entry
          → Contains (memory ++ table_entries before) entry
      made entry there = ⊎_elim
          (λ (d : Contains memory entry).
          Contains-append_left memory (table_entries before) entry d)
          (λ (d : Contains (table_entries after) entry).
          Contains-append_right memory (table_entries before) entry (none_new entry d))
          (Contains-append_cases memory (table_entries after) entry there)

      is_last : (entry : Entry) (a : LiveTable) → Contains inputs a → Contains a.entries entry
          → IsSpent smallest (table_entries outputs) entry
          → IsBaseLevelFor cmp (level + 1) (files_of_tables before) entry.key
          → (older : Entry) → Contains (memory ++ table_entries after) older
          → older.key ≡ entry.key → older.sequence < entry.sequence → ⊥
      is_last entry a there d spent out older e k less = ⊎_elim
          (λ (f : Contains memory older).
          let newer = newer_memory entry older (in_entries before a entry (c.there a there) d) f (sym k) in
          omega (arith, newer, less))
          (λ (f : Contains (table_entries after) older). in_table (table_of after older f))
          (Contains-append_cases memory (table_entries after) older e)
        where
          in_table : ((b : LiveTable) × Contains after b × Contains b.entries older) → ⊥
          in_table (b, in_after, in_b) = ⊎_elim
              (λ (old : Stays b). ⊎_elim
              (λ (newer : entry.sequence < older.sequence). omega (arith, newer, less))
              (λ (deep : level + 1 < b.file.level).
              no_deeper_has (level + 1) entry.key out b older old.0 deep in_b k)
              (newer_where_it_stays a b entry older there old.0 old.1 d in_b (sym k)))
              (λ (new : Contains outputs b).
              spent.last older (in_entries outputs b older new in_b) k less)
              (stayed_or_made b in_after)

      in_after : (entry : Entry) (b : LiveTable) → Contains after b → Contains b.entries entry
          → Contains (memory ++ table_entries after) entry
      in_after entry b there e = Contains-append_right memory (table_entries after) entry
          (in_entries after b entry there e)

      dropped : (entry : Entry) (a : LiveTable) → Contains inputs a → Contains a.entries entry
          → Contains (table_entries outputs) entry
          ⊎ (IsShadowed smallest (table_entries inputs) entry
          ⊎ (IsSpent smallest (table_entries outputs) entry
          × IsBaseLevelFor cmp (level + 1) (files_of_tables before) entry.key))
          → Kept entry
      dropped entry a there e (inl out) =
          let at = table_of outputs entry out in
          inl (in_after entry at.0 ((c.after_is at.0).1 (inl at.1)) at.2)
      dropped entry a there e (inr (inl shadow)) =
          let at = table_of inputs shadow.newer shadow.there in
          inr (inl (record {
            newer = shadow.newer;
            there = Contains-append_right memory (table_entries before) shadow.newer
                (in_entries before at.0 shadow.newer (c.there at.0 at.1) at.2);
            key_is = shadow.key_is;
            above = shadow.above;
            held = shadow.held;
          }))
      dropped entry a there e (inr (inr spent)) = inr (inr (record {
        old = spent.0.old;
        last = is_last entry a there e spent.0 spent.1;
      }))

      kept : (entry : Entry) → Contains memory entry ⊎ Contains (table_entries before) entry
          → Kept entry
      kept entry (inl d) = inl (Contains-append_left memory (table_entries after) entry d)
      kept entry (inr d) = in_table (table_of before entry d)
        where
          in_table : ((a : LiveTable) × Contains before a × Contains a.entries entry) → Kept entry
          in_table (a, old, e) = ⊎_elim
              (λ (there : Contains inputs a).
              dropped entry a there e (c.drops.kept entry (in_entries inputs a entry there e)))
              (λ (stays : Contains inputs a → ⊥).
              inl (in_after entry a ((c.after_is a).1 (inr (old, stays))) e))
              (taken_or before inputs once c.there a old)

  -- ---- the level order

  not_turned : (b : LiveTable) → Contains before b
      → is_lt (cmp (user_part b.file.largest) (user_part b.file.smallest)) ≡ false
  not_turned b old = not_less _ (bounded b old).ordered

  key_from : (a : LiveTable) (x : Entry) → Contains inputs a → Contains a.entries x
      → is_lt (cmp x.key (user_part a.file.smallest)) ≡ false
  key_from a x there d = not_less _ ((bounded a (c.there a there)).within x d).from

  key_to : (a : LiveTable) (x : Entry) → Contains inputs a → Contains a.entries x
      → is_lt (cmp (user_part a.file.largest) x.key) ≡ false
  key_to a x there d = not_less _ ((bounded a (c.there a there)).within x d).to

  -- the keys of inputs against a table that stays in the next level
  module _ (r : LiveTable) (old : Contains before r) (stays : Contains inputs r → ⊥)
      (at : r.file.level ≡ level + 1) where
    next_apart : (a : LiveTable) → Contains inputs a → a.file.level ≡ level + 1
        → AreDisjoint cmp r.file a.file
    next_apart a there is = order.disjoint r a old (c.there a there) (at ∙ sym is)
        (omega (arith, at))
        (λ e. stays (subst (Contains inputs)
        (once a r (c.there a there) old (is ∙ sym at) (sym e)) there))

    placed : (a : LiveTable) → Contains inputs a → IsPlaced cmp low high r.file a.file
    placed a there = ⊎_elim
        (λ (here : a.file.level ≡ level). inl (in_range a there here))
        (λ (here : a.file.level ≡ level + 1).
        let meet = in_next a there here in inr (meet.0, meet.1, next_apart a there here))
        (in_level a there)

    beside_outputs : (o : LiveTable) → Contains outputs o → AreDisjoint cmp r.file o.file
    beside_outputs o out = by (stays_outside r old stays at)
      where
        by : IsOutside cmp low high r.file → AreDisjoint cmp r.file o.file
        by (inl less) =
            let tight = (c.made.tight o out).first in
            let from = of_input o tight.0 out tight.1 in
            let before_it = ends_first cmp total low high r.file from.0.file (not_turned r old)
            less (placed from.0 from.1) in
            inl (ap (λ k. cmp (user_part r.file.largest) k) (sym tight.2) ∙ lt_less _
            (lt_le total (user_part r.file.largest) (user_part from.0.file.smallest) tight.0.key
            before_it (key_from from.0 tight.0 from.1 from.2)))
        by (inr less) =
            let tight = (c.made.tight o out).last in
            let from = of_input o tight.0 out tight.1 in
            let after_it = begins_after cmp total low high r.file from.0.file
            (not_turned r old) less (placed from.0 from.1) in
            inr (ap (λ k. cmp k (user_part r.file.smallest)) (sym tight.2) ∙ lt_less _
            (le_lt total tight.0.key (user_part from.0.file.largest) (user_part r.file.smallest)
            (key_to from.0 tight.0 from.1 from.2) after_it))

  keeps_order : LevelOrder cmp after
  keeps_order = record { disjoint = disjoint; deeper = deeper; newer = newer }
    where
      turned : (a b : NewFile) → AreDisjoint cmp a b → AreDisjoint cmp b a
      turned a b (inl x) = inr x
      turned a b (inr x) = inl x

      disjoint : (a b : LiveTable) → Contains after a → Contains after b
          → a.file.level ≡ b.file.level → 0 < a.file.level → a.file.number ≢ b.file.number
          → AreDisjoint cmp a.file b.file
      disjoint a b in_a in_b same deep differ = by (stayed_or_made a in_a) (stayed_or_made b in_b)
        where
          by : Stays a ⊎ Contains outputs a → Stays b ⊎ Contains outputs b
              → AreDisjoint cmp a.file b.file
          by (inl old) (inl was) = order.disjoint a b old.0 was.0 same deep differ
          by (inr out) (inr new) = c.made.apart a b out new differ
          by (inl old) (inr new) =
              beside_outputs a old.0 old.1 (same ∙ c.made.levels b new) b new
          by (inr out) (inl was) = turned b.file a.file
              (beside_outputs b was.0 was.1 (sym same ∙ c.made.levels a out) a out)

      deeper : (a b : LiveTable) → Contains after a → Contains after b
          → a.file.level < b.file.level → IsOlder b.entries a.entries
      deeper a b in_a in_b less x y d e k = by (stayed_or_made a in_a) (stayed_or_made b in_b)
        where
          by : Stays a ⊎ Contains outputs a → Stays b ⊎ Contains outputs b
              → x.sequence < y.sequence
          by (inl old) (inl was) = order.deeper a b old.0 was.0 less x y d e k
          by (inr out) (inr new) =
              let p = c.made.levels a out in
              let q = c.made.levels b new in
              absurd (omega (arith, p, q, less))
          by (inl old) (inr new) =
              let from = of_input b x new d in
              let q = c.made.levels b new in
              ⊎_elim
              (λ (is : x.sequence < y.sequence). is)
              (λ (deep : level + 1 < a.file.level). absurd (omega (arith, deep, q, less)))
              (newer_where_it_stays from.0 a x y from.1 old.0 old.1 from.2 e k)
          by (inr out) (inl was) =
              let from = of_input a y out e in
              let p = c.made.levels a out in
              let up : from.0.file.level < b.file.level = ⊎_elim
              (λ (l : from.0.file.level ≡ level). omega (arith, l, p, less))
              (λ (l : from.0.file.level ≡ level + 1). omega (arith, l, p, less))
              (in_level from.0 from.1) in
              order.deeper from.0 b (c.there from.0 from.1) was.0 up x y d from.2 k

      newer : (a b : LiveTable) → Contains after a → Contains after b → a.file.level ≡ 0
          → b.file.level ≡ 0 → a.file.number < b.file.number → IsOlder a.entries b.entries
      newer a b in_a in_b at_a at_b less x y d e k = by (stayed_or_made a in_a) (stayed_or_made b in_b)
        where
          by : Stays a ⊎ Contains outputs a → Stays b ⊎ Contains outputs b
              → x.sequence < y.sequence
          by (inl old) (inl was) = order.newer a b old.0 was.0 at_a at_b less x y d e k
          by (inr out) other =
              let p = c.made.levels a out in absurd (omega (arith, p, at_a))
          by (inl old) (inr new) =
              let p = c.made.levels b new in absurd (omega (arith, p, at_b))

  pub keeps : KeepsLevelsAndViews cmp smallest before after memory
  keeps = record {
    order = keeps_order;
    bounded = λ a there. ⊎_elim (λ (old : Stays a). bounded a old.0)
        (λ (out : Contains outputs a). c.made.bounded a out) (stayed_or_made a there);
    older = λ x y d e k. newer_memory x y (none_new x d) e k;
    none_new = none_new;
    thins = thins;
    views = λ t late. thinning_keeps_views smallest t (memory ++ table_entries before)
        (memory ++ table_entries after) late thins;
  }

pub compactions_keep_views : CompactionsKeepViews
compactions_keep_views cmp total smallest level before inputs outputs after memory order bounded once
    newer_memory c =
    keeps cmp total smallest level before inputs outputs after memory order bounded once newer_memory c

pub ranges_tell_base_level : RangesTellBaseLevel
ranges_tell_base_level cmp tables level key bounded out a entry there deep d k =
    out a.file (map_in (λ (t : LiveTable). t.file) tables a there) deep
    (subst (IsInRange cmp a.file) k ((bounded a there).within entry d))

-- ---- outputs within inputs

pub outputs_lie_within : OutputsLieWithin
outputs_lie_within cmp smallest level before inputs outputs after bounded c o out = record {
  ordered = (c.made.bounded o out).ordered;
  from = let x = (c.made.tight o out).first in
      let a = table_of inputs x.0 (c.drops.made x.0 (in_entries outputs o x.0 out x.1)) in (
        a.0.file,
        map_in (λ (t : LiveTable). t.file) inputs a.0 a.1,
        subst (λ k. cmp k (user_part a.0.file.smallest) ≢ Less) x.2
            ((bounded a.0 (c.there a.0 a.1)).within x.0 a.2).from,
      );
  to = let x = (c.made.tight o out).last in
      let a = table_of inputs x.0 (c.drops.made x.0 (in_entries outputs o x.0 out x.1)) in (
        a.0.file,
        map_in (λ (t : LiveTable). t.file) inputs a.0 a.1,
        subst (λ k. cmp (user_part a.0.file.largest) k ≢ Less) x.2
            ((bounded a.0 (c.there a.0 a.1)).within x.0 a.2).to,
      );
}
