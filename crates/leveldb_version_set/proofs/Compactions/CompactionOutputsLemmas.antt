-- What is made of merged entries, where outputs are cut, and the tables after a compaction.
use Rattle.std.proofs.Common.{◌≡◌, ◌⊎◌, inl, inr, ⊎_elim, ℕ, ◌<◌, ◌≤◌, false, true, List, [], ◌∷◌, ◌++◌, refl, sym, ◌∙◌, ap, subst, arith}
use Rattle.std.specs.Prelude.{AllPairs, Contains, slice_index_or}
use Rattle.std.specs.Cmp.{IsTotalOrder}
use Rattle.std.specs.Ordering.{is_lt}
use Rattle.std.specs.declared.cmp.Ordering.{Ordering}
use Rattle.std.specs.declared.cmp.Ordering.TheVariants.{Less}
use Rattle.std.proofs.lemmas.Bool.{cases_lt}
use Rattle.std.proofs.lemmas.List.{get_or_default}
use Rattle.std.proofs.lemmas.List.Quantifiers.{all_pairs_push}
use Rattle.std.proofs.lemmas.List.Elements.{Contains-append_left, Contains-append_right, Contains-append_cases, Contains-push_cases}
use Rattle.leveldb_base.specs.History.{Entry}
use Rattle.leveldb_base.specs.KeyTypes.{user_part}
use Rattle.leveldb_base.specs.Thinning.{Drops, DropsAll, IsShadowed, IsSpent, thinned}
use Rattle.leveldb_base.proofs.EntriesLemmas.{in_map, key_le}
use Rattle.leveldb_base.proofs.HistoryLemmas.{in_cases, in_front, in_none, in_rest}
use Rattle.leveldb_base.proofs.OrderLemmas.{exact_total, le_lt, lt_itself, lt_le, lt_less}
use Rattle.leveldb_base.proofs.ScanLemmas.{sorted_across, sorted_back, sorted_front}
use Rattle.leveldb_base.proofs.ThinningLemmas.{left_in_each, thinned_drops_all}
use Rattle.leveldb_version_set.proofs.Compactions.CompactionLemmas.{taken_or}
use Rattle.leveldb_version.proofs.Versions.DeeperLevelsLemmas.{test_tells_base_level}
use Rattle.leveldb_version_set.specs.Compactions.Compaction.{AreKnownByNumber, EndsBeforeTable, IsTight}
use Rattle.leveldb_version.specs.Versions.DeeperLevels.{IsBaseLevelFor, is_base_level_for}
use Rattle.leveldb_version_set.specs.Compactions.CompactionLaws.{CutsAreApart, CutsGrow, DropsGoBySets, FewerTablesFit, InputsAreTables, KeysAreCut, OneMergeIsLeft, ReplacedTablesExist, ThinnedTablesDropAll}
use Rattle.leveldb_files.specs.Levels.Levels.{AreDisjoint, LiveTable, table_entries}
use Rattle.leveldb_files.specs.Stores.Store.{SameEntries}

-- ---- entries as sets

-- more entries shadow what fewer do
shadowed_in_more : (smallest : ℕ) (these those : List Entry) (entry : Entry)
    → ((e : Entry) → Contains these e → Contains those e) → IsShadowed smallest these entry
    → IsShadowed smallest those entry
shadowed_in_more smallest these those entry more shadow = record {
  newer = shadow.newer;
  there = more shadow.newer shadow.there;
  key_is = shadow.key_is;
  above = shadow.above;
  held = shadow.held;
}

-- the same of other lists of the same entries
pub drops_of_sets : (smallest : ℕ) (IsLast : List ℕ → Type 0)
    (inputs others outputs those : List Entry) → SameEntries inputs others
    → SameEntries outputs those → Drops smallest IsLast inputs outputs
    → Drops smallest IsLast others those
drops_of_sets smallest IsLast inputs others outputs those same left drops = record {
  made = λ entry c. (same entry).0 (drops.made entry ((left entry).1 c));
  kept = λ entry c. by entry (drops.kept entry ((same entry).1 c));
}
  where
    by : (entry : Entry) → Contains outputs entry
        ⊎ (IsShadowed smallest inputs entry ⊎ (IsSpent smallest outputs entry × IsLast entry.key))
        → Contains those entry
        ⊎ (IsShadowed smallest others entry ⊎ (IsSpent smallest those entry × IsLast entry.key))
    by entry (inl c) = inl ((left entry).0 c)
    by entry (inr (inl shadow)) =
        inr (inl (shadowed_in_more smallest inputs others entry (λ e c. (same e).0 c) shadow))
    by entry (inr (inr spent)) = inr (inr (
      record {
        old = spent.0.old;
        last = λ older c. spent.0.last older ((left older).1 c);
      },
      spent.1,
    ))

pub drops_all_of_sets : (smallest : ℕ) (IsLast : List ℕ → Type 0)
    (inputs others outputs those : List Entry) → SameEntries inputs others
    → SameEntries outputs those → DropsAll smallest IsLast inputs outputs
    → DropsAll smallest IsLast others those
drops_all_of_sets smallest IsLast inputs others outputs those same left all = record {
  drops = drops_of_sets smallest IsLast inputs others outputs those same left all.drops;
  gone = record {
    shadowed = λ entry c shadow. all.gone.shadowed entry ((left entry).1 c)
        (shadowed_in_more smallest others inputs entry (λ e d. (same e).1 d) shadow);
    deletions = λ entry c. all.gone.deletions entry ((left entry).1 c);
  };
}

-- the same keys have their last level by another test
drops_all_by : (smallest : ℕ) (IsLast IsBase : List ℕ → Type 0)
    → ((key : List ℕ) → IsLast key → IsBase key) → ((key : List ℕ) → IsBase key → IsLast key)
    → (inputs outputs : List Entry) → DropsAll smallest IsLast inputs outputs
    → DropsAll smallest IsBase inputs outputs
drops_all_by smallest IsLast IsBase to from inputs outputs all = record {
  drops = record { made = all.drops.made; kept = λ entry c. by entry (all.drops.kept entry c) };
  gone = record {
    shadowed = all.gone.shadowed;
    deletions = λ entry c old base. all.gone.deletions entry c old (from entry.key base);
  };
}
  where
    by : (entry : Entry) → Contains outputs entry
        ⊎ (IsShadowed smallest inputs entry ⊎ (IsSpent smallest outputs entry × IsLast entry.key))
        → Contains outputs entry
        ⊎ (IsShadowed smallest inputs entry ⊎ (IsSpent smallest outputs entry × IsBase entry.key))
    by entry (inl c) = inl c
    by entry (inr (inl shadow)) = inr (inl shadow)
    by entry (inr (inr spent)) = inr (inr (spent.0, to entry.key spent.1))

pub drops_go_by_sets : DropsGoBySets
drops_go_by_sets = record {
  drops = λ cmp smallest level files.
      drops_of_sets smallest (IsBaseLevelFor cmp level files);
  all = λ cmp smallest level files.
      drops_all_of_sets smallest (IsBaseLevelFor cmp level files);
  files = λ cmp smallest level these those inputs outputs same all.
      drops_all_by smallest (IsBaseLevelFor cmp level these) (IsBaseLevelFor cmp level those)
      (λ key last file there. last file ((same file).1 there))
      (λ key last file there. last file ((same file).0 there)) inputs outputs all;
}

pub thinned_tables_drop_all : ThinnedTablesDropAll
thinned_tables_drop_all cmp smallest level files merged inputs outputs same left =
    drops_all_of_sets smallest (IsBaseLevelFor cmp level files) merged (table_entries inputs)
    (thinned smallest (is_base_level_for cmp level files) merged) (table_entries outputs) same left
    (drops_all_by smallest (λ key. is_base_level_for cmp level files key ≡ true)
    (IsBaseLevelFor cmp level files) (λ key. (test_tells_base_level cmp level files key).0)
    (λ key. (test_tells_base_level cmp level files key).1) merged
    (thinned smallest (is_base_level_for cmp level files) merged)
    (thinned_drops_all smallest (is_base_level_for cmp level files) merged))

pub one_merge_is_left : OneMergeIsLeft
one_merge_is_left cmp smallest level files inputs these those first second entry = (
  left_in_each smallest (IsBaseLevelFor cmp level files) inputs these those first second entry,
  left_in_each smallest (IsBaseLevelFor cmp level files) inputs those these second first entry,
)

-- ---- cuts

-- what holds of each element and each later one, holds of two elements one way or the other
one_way : {A : Type 0} (R : A → A → Type 0) (xs : List A) → AllPairs R xs → (a b : A)
    → Contains xs a → Contains xs b → (a ≡ b) ⊎ (R a b ⊎ R b a)
one_way {A} R xs pairs a b c d = ⊎_elim
    (λ (less : c.0 < d.0). inr (inl (from a b c d less)))
    (λ (most : d.0 ≤ c.0). ⊎_elim
    (λ (less : d.0 < c.0). inr (inr (from b a d c less)))
    (λ (least : c.0 ≤ d.0). inl
    (let same : c.0 ≡ d.0 = omega (arith, most, least) in
    sym c.2 ∙ ap (λ k. slice_index_or xs k a) same ∙ get_or_default xs d.0 a b d.1 ∙ d.2))
    (cases_lt d.0 c.0))
    (cases_lt c.0 d.0)
  where
    from : (x y : A) → (e : Contains xs x) → (f : Contains xs y) → e.0 < f.0 → R x y
    from x y e f less = subst (λ z. R z y) e.2
        (subst (R (slice_index_or xs e.0 x)) (get_or_default xs f.0 x y f.1 ∙ f.2)
        (pairs e.0 f.0 x less f.1))

ends_apart : (cmp : List ℕ → List ℕ → Ordering) (a b : LiveTable) → EndsBeforeTable cmp a b
    → IsTight a → IsTight b → cmp (user_part a.file.largest) (user_part b.file.smallest) ≡ Less
ends_apart cmp a b ends is_a is_b =
    let x = is_a.last in
    let y = is_b.first in
    subst (λ k. cmp k (user_part b.file.smallest) ≡ Less) x.2
    (subst (λ k. cmp x.0.key k ≡ Less) y.2 (ends x.0 y.0 x.1 y.1))

pub cuts_are_apart : CutsAreApart
cuts_are_apart cmp tables cut tight a b c d differ =
    by (one_way (EndsBeforeTable cmp) tables cut a b c d)
  where
    by : (a ≡ b) ⊎ (EndsBeforeTable cmp a b ⊎ EndsBeforeTable cmp b a)
        → AreDisjoint cmp a.file b.file
    by (inl same) = absurd (differ (ap (λ (t : LiveTable). t.file.number) same))
    by (inr (inl ends)) = inl (ends_apart cmp a b ends (tight a c) (tight b d))
    by (inr (inr ends)) = inr (ends_apart cmp b a ends (tight b d) (tight a c))

pub cuts_grow : CutsGrow
cuts_grow cmp tables table cut ends = all_pairs_push (EndsBeforeTable cmp) tables table cut
    (λ k d within. ends (slice_index_or tables k d)
    (k, within, get_or_default tables k (slice_index_or tables k d) d within))

pub keys_are_cut : KeysAreCut
keys_are_cut cmp exact front last next rest sorted differ x y c d =
    lt_less (cmp x.key y.key) (le_lt total x.key last.key y.key
    (up_to_last (Contains-push_cases front last x c))
    (lt_le total last.key next.key y.key (ap is_lt across) (from_next (in_cases next y rest d))))
  where
    total : IsTotalOrder cmp
    total = exact_total exact

    across : cmp last.key next.key ≡ Less
    across = ⊎_elim (λ (less : cmp last.key next.key ≡ Less). less)
        (λ (same : _ × _). absurd (differ same.0))
        (sorted_across cmp exact (front ++ last ∷ []) (next ∷ rest) sorted last next
        (Contains-append_right front (last ∷ []) last (in_front last [])) (in_front next rest))

    up_to_last : Contains front x ⊎ (last ≡ x) → is_lt (cmp last.key x.key) ≡ false
    up_to_last (inl there) = key_le cmp exact x last (sorted_across cmp exact front (last ∷ [])
        (sorted_front cmp exact (front ++ last ∷ []) (next ∷ rest) sorted) x last there
        (in_front last []))
    up_to_last (inr is) = ap (λ (z : Entry). is_lt (cmp last.key z.key)) (sym is)
        ∙ lt_itself total last.key

    from_next : (next ≡ y) ⊎ Contains rest y → is_lt (cmp y.key next.key) ≡ false
    from_next (inl is) = ap (λ (z : Entry). is_lt (cmp z.key next.key)) (sym is)
        ∙ lt_itself total next.key
    from_next (inr there) = key_le cmp exact next y
        ((sorted_back cmp exact (front ++ last ∷ []) (next ∷ rest) sorted).0 y there)

-- ---- the tables that the laws speak of

pub inputs_are_tables : InputsAreTables
inputs_are_tables tables [] among = ([], refl, λ a c. absurd (in_none a c))
inputs_are_tables tables (file ∷ inputs) among =
    let first = in_map (λ (t : LiveTable). t.file) tables file
    (among file (in_front file inputs)) in
    let rest = inputs_are_tables tables inputs
    (λ other c. among other (in_rest file other inputs c)) in (
      first.0 ∷ rest.0,
      (λ i. first.2 i ∷ rest.1 i),
      λ a c. ⊎_elim (λ (is : first.0 ≡ a). subst (Contains tables) is first.1)
          (λ (there : Contains rest.0 a). rest.2 a there) (in_cases first.0 a rest.0 c),
    )

-- a list of exactly those of some tables that are no inputs
abbrev HasOthers : List LiveTable → List LiveTable → Type 0
HasOthers inputs some = (left : List LiveTable) × ((a : LiveTable)
    → (Contains left a → Contains some a × (Contains inputs a → ⊥))
    × (Contains some a × (Contains inputs a → ⊥) → Contains left a))

others_of : (before inputs some : List LiveTable) → AreKnownByNumber before
    → ((a : LiveTable) → Contains inputs a → Contains before a)
    → ((a : LiveTable) → Contains some a → Contains before a) → HasOthers inputs some
others_of before inputs [] known there among =
    ([], λ a. (λ c. absurd (in_none a c), λ c. absurd (in_none a c.0)))
others_of before inputs (one ∷ some) known there among =
    by (others_of before inputs some known there (λ a c. among a (in_rest one a some c)))
    (taken_or before inputs known there one (among one (in_front one some)))
  where
    by : HasOthers inputs some → Contains inputs one ⊎ (Contains inputs one → ⊥)
        → HasOthers inputs (one ∷ some)
    by (left, is) (inl taken) = (
      left,
      λ a. (
        λ c. let k = (is a).0 c in (in_rest one a some k.0, k.1),
        λ c. ⊎_elim
            (λ (e : one ≡ a). absurd (c.1 (subst (Contains inputs) e taken)))
            (λ (d : Contains some a). (is a).1 (d, c.1)) (in_cases one a some c.0),
      ),
    )
    by (left, is) (inr stays) = (
      one ∷ left,
      λ a. (
        λ c. ⊎_elim
            (λ (e : one ≡ a). (
              subst (Contains (one ∷ some)) e (in_front one some),
              λ d. stays (subst (Contains inputs) (sym e) d),
            ))
            (λ (d : Contains left a). let k = (is a).0 d in (in_rest one a some k.0, k.1))
            (in_cases one a left c),
        λ c. ⊎_elim
            (λ (e : one ≡ a). subst (Contains (one ∷ left)) e (in_front one left))
            (λ (d : Contains some a). in_rest one a left ((is a).1 (d, c.1)))
            (in_cases one a some c.0),
      ),
    )

pub fewer_tables_fit : FewerTablesFit
fewer_tables_fit cmp tables some among order bounded = (
  record {
    disjoint = λ a b c d. order.disjoint a b (among a c) (among b d);
    deeper = λ a b c d. order.deeper a b (among a c) (among b d);
    newer = λ a b c d. order.newer a b (among a c) (among b d);
  },
  λ table c. bounded table (among table c),
)

pub replaced_tables_exist : ReplacedTablesExist
replaced_tables_exist before inputs outputs known there =
    let left = others_of before inputs before known there (λ a c. c) in (
      outputs ++ left.0,
      λ a. (
        λ c. ⊎_elim (λ (o : Contains outputs a). inl o)
            (λ (l : Contains left.0 a). inr ((left.1 a).0 l))
            (Contains-append_cases outputs left.0 a c),
        λ c. ⊎_elim (λ (o : Contains outputs a). Contains-append_left outputs left.0 a o)
            (λ (s : Contains before a × (Contains inputs a → ⊥)).
            Contains-append_right outputs left.0 a ((left.1 a).1 s)) c,
      ),
    )
