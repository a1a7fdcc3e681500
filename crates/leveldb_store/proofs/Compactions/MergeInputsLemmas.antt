-- The walk that merges the tables of files.
use Rattle.std.specs.Prelude.{All, Contains}
use Rattle.std.proofs.Common.{◌≡◌, ◌<◌, ◌^◌, ◌∙◌, inl, inr, ⊎_elim, ℕ, List, [], ◌∷◌, None, length, sym, ap, subst}
use Rattle.std.proofs.lemmas.Option.{get_or_from_slice_get}
use Rattle.std.specs.declared.cmp.Ordering.{Ordering}
use Rattle.leveldb_base.proofs.HistoryLemmas.{in_cases, in_front, in_none, in_rest}
use Rattle.leveldb_base.specs.Cmp.{IsExactOrder}
use Rattle.leveldb_base.specs.Entries.{entries_of_pairs, entry_of_pair}
use Rattle.leveldb_base.specs.History.{AreRising}
use Rattle.leveldb_base.specs.KeyTypes.{internal_cmp}
use Rattle.leveldb_base.specs.Types.{Pair}
use Rattle.leveldb_base.specs.declared.cmp.Cmp.{Ghosts as CmpGhosts}
use Rattle.leveldb_base.specs.declared.cmp.internal.InternalKeyCmp.{InternalKeyCmp}
use Rattle.leveldb_base.specs.declared.error.Status.{Status}
use Rattle.leveldb_env.specs.Compressor.{Codings}
use Rattle.leveldb_env.specs.declared.env.Env.{Ghosts as EnvGhosts}
use Rattle.leveldb_env.specs.declared.filter.FilterPolicy.{Ghosts as FilterGhosts}
use Rattle.leveldb_iter.proofs.LayersMergedLemmas.{layers_merged}
use Rattle.leveldb_iter.specs.Children.{AnyFails, AreOver}
use Rattle.leveldb_iter.specs.Merge.{HaveOnePairAKey}
use Rattle.leveldb_iter.specs.MergedEntries.{internal_order}
use Rattle.leveldb_iter.specs.MergingIter.{AreMerged, FailsMerged, FailsOrClashes, IsMergeAt}
use Rattle.leveldb_iter.specs.Walk.{IsSortedIn, KeyOrder, key_order}
use Rattle.leveldb_iter.specs.declared.merging_iter.MergeCore.{MergeCore}
use Rattle.leveldb_iter.specs.declared.walk.Walk.{Ghosts as WalkGhosts}
use Rattle.leveldb_version.proofs.Versions.PairwiseLemmas.{each_second}
use Rattle.leveldb_version.proofs.Versions.SearchLemmas.{all_from_contains}
use Rattle.leveldb_version.proofs.Walks.VersionLayersLemmas.{version_iters_are_layers}
use Rattle.leveldb_files.specs.Stores.Batches.{Each}
use Rattle.leveldb_files.specs.Stores.Format.{Meaning}
use Rattle.leveldb_files.specs.Levels.Levels.{LiveTable, table_entries}
use Rattle.leveldb_files.specs.Stores.Store.{IsInternalPair, SameEntries}
use Rattle.leveldb_version.specs.Versions.Version.{AreInVersionOrder, VersionValue, new_files_of}
use Rattle.leveldb_version.specs.Walks.VersionIter.{IsOverTables}
use Rattle.leveldb_version.specs.Walks.VersionIters.{AreOverLayers, AreTablesToWalk, AreVersionIters}
use Rattle.leveldb_version.specs.declared.table_cache.moves.ReadTables.{ReadTables}
use Rattle.leveldb_version.specs.declared.version_iter.VersionIter.{VersionIter}
use Rattle.leveldb_store.specs.Compactions.MergeInputs.{MergesTablesOf, ReadsBelow}
use Rattle.leveldb_store.specs.Reading.View.{any_in_order}
use Rattle.leveldb_store.proofs.Compactions.BearingLemmas.{IsMergeOf, IsTableWalk, bears_new_tables, merge_borne, merge_moves, tables_borne, tables_keep}
use Rattle.leveldb_store.proofs.Reading.ViewListsLemmas.{each_at, each_by_index}
use Rattle.leveldb_store.proofs.Reading.ViewReadsLemmas.{fails_between}
use Rattle.leveldb_store.proofs.Reading.ViewStoreLemmas.{orders_keys}
use Rattle.leveldb_store.proofs.Reading.ViewTablesLemmas.{tables_there}

-- ---- pairs of entries

-- each pair is that of its entry
abbrev pub AreInternal : List Pair → Type 0
AreInternal pairs = Each IsInternalPair pairs (entries_of_pairs pairs)

-- so is each of them alone
pub pair_internal : (pairs : List Pair) → AreInternal pairs → (pair : Pair)
    → Contains pairs pair → IsInternalPair pair (entry_of_pair pair)
pair_internal [] are pair there = absurd (in_none pair there)
pair_internal (first ∷ pairs) are pair there = ⊎_elim
    (λ (same : first ≡ pair). subst (λ (p : Pair). IsInternalPair p (entry_of_pair p)) same are.0)
    (λ (rest : Contains pairs pair). pair_internal pairs are.1 pair rest)
    (in_cases first pair pairs there)

-- and pairs are, of which each one is
pub pairs_internal : (pairs : List Pair)
    → ((pair : Pair) → Contains pairs pair → IsInternalPair pair (entry_of_pair pair))
    → AreInternal pairs
pairs_internal [] each = tt
pairs_internal (first ∷ pairs) each = (
  each first (in_front first pairs),
  pairs_internal pairs (λ pair there. each pair (in_rest first pair pairs there)),
)

-- Walks over layers of the entries of tables are merged to all of these, sorted.
module _ {E F C FP K : Type 0} {keys : CmpGhosts (InternalKeyCmp C)} (env : EnvGhosts E F)
    (cmp : CmpGhosts C) (filters : FilterGhosts FP) (codings : K → Codings)
    (keys_are : (c : C)
    → key_order keys (record { 0 = c }) ≡ internal_order (any_in_order (cmp.cmp c)))
    {child : WalkGhosts (VersionIter C) E (ReadTables E C FP K F)}
    (is : IsTableWalk keys env cmp filters codings child)
    (compares : C) (exact : IsExactOrder (cmp.cmp compares)) (iters : List (VersionIter C))
    (world : E × ReadTables E C FP K F) (order_is : cmp.cmp world.1.cmp ≡ cmp.cmp compares)
    (tables : List LiveTable)
    (over : AreOverLayers keys env cmp filters codings world iters tables) where
  abbrev order : KeyOrder
  order = internal_order (any_in_order (cmp.cmp compares))

  abbrev Over : VersionIter C → List Pair → Type 0
  Over it pairs = IsOverTables keys env cmp filters codings world it order pairs

  same_order : key_order keys (record { 0 = world.1.cmp }) ≡ order
  same_order = keys_are world.1.cmp ∙ ap (λ (by : List ℕ → List ℕ → Ordering).
      internal_order (any_in_order by)) order_is

  each_over : Each Over iters over.lists
  each_over = subst (λ o. Each (λ it pairs. IsOverTables keys env cmp filters codings world it o
      pairs) iters over.lists) same_order (each_by_index (λ it pairs.
      IsOverTables keys env cmp filters codings world it
      (key_order keys (record { 0 = world.1.cmp })) pairs) iters over.lists over.counted over.over)

  internal : (pairs : List Pair) → Contains over.lists pairs → AreInternal pairs
  internal = over.internal

  -- walks that are over pairs of entries
  abbrev reads : WalkGhosts (VersionIter C) E (ReadTables E C FP K F)
  reads = record child {
    over = λ at it by pairs. child.over at it by pairs × AreInternal pairs;
  }

  are_over : AreOver reads world iters order over.lists
  are_over k it at = each_at (λ one pairs. child.over world one order pairs × AreInternal pairs)
      iters over.lists k it [] both at
    where
      each_and_there : (lists : List (List Pair))
          → ((pairs : List Pair) → Contains lists pairs → Contains over.lists pairs)
          → (its : List (VersionIter C)) → Each Over its lists
          → Each (λ one pairs. child.over world one order pairs × AreInternal pairs) its lists
      each_and_there [] within [] each = tt
      each_and_there [] within (one ∷ its) each = absurd each
      each_and_there (pairs ∷ lists) within [] each = absurd each
      each_and_there (pairs ∷ lists) within (one ∷ its) each = (
        ((is.over_is world one order pairs).1 each.0, internal pairs (within pairs (in_front pairs lists))),
        each_and_there lists (λ other there. within other (in_rest pairs other lists there)) its each.1,
      )

      both : Each (λ one pairs. child.over world one order pairs × AreInternal pairs) iters
          over.lists
      both = each_and_there over.lists (λ pairs there. there) iters each_over

  sorted : All (IsSortedIn order) over.lists
  sorted = all_from_contains (IsSortedIn order) over.lists (λ pairs there.
      (let it = each_second Over iters over.lists pairs each_over there in it.2.sorted))

  pub inputs_merged : (pairs : List Pair)
      × AreMerged child keys world (record { 0 = compares }) iters
      (key_order keys (record { 0 = compares })) over.lists pairs
      × HaveOnePairAKey (key_order keys (record { 0 = compares })) over.lists
      × AreRising (internal_cmp (cmp.cmp compares)) pairs
      × SameEntries (entries_of_pairs pairs) (table_entries tables)
      × AreInternal pairs
  inputs_merged =
      let has = layers_merged reads keys (record { 0 = compares })
      (any_in_order (cmp.cmp compares)) exact (sym (keys_are compares)) world iters over.lists
      over.counted are_over sorted over.layered in (
        has.0,
        subst (λ o. AreMerged child keys world (record { 0 = compares }) iters o over.lists has.0)
            (sym (keys_are compares)) (record {
              counted = has.1.counted;
              over = λ k it at. (has.1.over k it at).0;
              merge = has.1.merge;
              ordered = has.1.ordered;
            }),
        subst (λ o. HaveOnePairAKey o over.lists) (sym (keys_are compares)) has.3,
        has.1.merge.sorted.rising,
        λ entry. (
          λ there. (over.exactly entry).0 ((has.2.exactly entry).0 there),
          λ there. (has.2.exactly entry).1 ((over.exactly entry).1 there),
        ),
        pairs_internal has.0 (λ pair there.
            let any = has.1.merge.from pair there in
            let from = list_over over.lists has.1.counted has.1.over any.1 (any.0, any.2, any.3) in
            pair_internal any.1 from pair any.4),
      )
    where
      -- a list of the merge is that of a walk
      list_over : (lists : List (List Pair)) → length lists ≡ length iters
          → AreOver reads world iters order lists → (pairs : List Pair) → Contains lists pairs
          → AreInternal pairs
      list_over lists counted all pairs there =
          let walked = each_by_index (λ one list. child.over world one order list
          × AreInternal list) iters lists counted (λ k one list at_one at_list.
          subst (λ (l : List Pair). child.over world one order l × AreInternal l)
          (get_or_from_slice_get lists k list [] at_list) (all k one at_one)) in
          (each_second (λ one list. child.over world one order list × AreInternal list) iters
          lists pairs walked there).2.1

-- ---- the walk

module _ {E F C FP K : Type 0} {keys : CmpGhosts (InternalKeyCmp C)} (env : EnvGhosts E F)
    (counts : (e : E) → env.failures e < 2 ^ 64) (cmp : CmpGhosts C)
    (filters : FilterGhosts FP) (codings : K → Codings)
    (keys_are : (c : C)
    → key_order keys (record { 0 = c }) ≡ internal_order (any_in_order (cmp.cmp c)))
    (exact : (c : C) → IsExactOrder (cmp.cmp c))
    {child : WalkGhosts (VersionIter C) E (ReadTables E C FP K F)}
    {walk : WalkGhosts (MergeCore (InternalKeyCmp C) (VersionIter C)) E (ReadTables E C FP K F)}
  where
    -- new walks over the tables of a version are merged
    pub tables_merged : {inputs : VersionValue C} {compares : C} {iters : List (VersionIter C)}
        {it : MergeCore (InternalKeyCmp C) (VersionIter C)} → AreVersionIters inputs iters
        → AreInVersionOrder (cmp.cmp inputs.cmp) (new_files_of inputs)
        → ((world : E × ReadTables E C FP K F) (order : KeyOrder) (lists : List (List Pair))
        (pairs : List Pair)
        → AreMerged child keys world (record { 0 = compares }) iters order lists pairs
        → IsMergeAt child keys world it order pairs None)
        → ((world later : E × ReadTables E C FP K F) (status : Status)
        → FailsMerged child keys world it later status
        → FailsOrClashes child keys world (record { 0 = compares }) iters later status)
        → IsTableWalk keys env cmp filters codings child → IsMergeOf child keys walk
        → MergesTablesOf keys env cmp filters codings walk inputs compares it
    tables_merged {inputs} {compares} {iters} {it} are in_order made fails is merges = record {
      in_order = in_order;
      over = λ world meaning tables there same.
          let all = merged world meaning tables there same in
          let layers = layers_there world meaning tables there in
          let order = key_order keys (record { 0 = compares }) in (
            all.0,
            (merges.over_is world it order all.0).1
                (None, made world order layers.lists all.0 all.1),
            all.3,
            all.4,
            all.5,
          );
      lacks = λ world meaning tables there same later status failed. ⊎_elim
          (λ (any : AnyFails child world iters later status).
          let read = world.1.cmp in
          let those = tables_there env cmp filters codings inputs world (exact read)
          (orders_keys cmp read (keys_are read)) meaning tables there iters are any.1
          (any.0, any.2, any.3) in
          fails_between env counts cmp filters codings world later status
          (((is.fails_is world any.1 later status).0 any.4).lacks meaning those.0 those.1))
          (λ clash.
          let all = merged world meaning tables there same in
          let layers = layers_there world meaning tables there in
          absurd (clash.1 (key_order keys (record { 0 = compares })) layers.lists all.0 all.1 all.2))
          (fails world later status ((merges.fails_is world it later status).0 failed));
      fault = λ world now later status failed. ⊎_elim
          (λ (any : AnyFails child world now.children.items later status).
          fails_between env counts cmp filters codings world later status
          ((is.fails_is world any.1 later status).0 any.4).fault)
          (λ clash. inr (inr (inl clash.0)))
          ((merges.fails_is world now later status).0 failed);
      leaves = λ from to kept. is.keeps from to (merges.keeps from to kept);
      bears = λ store first world reads.
          bears_new_tables env walk store first (ReadsBelow store first)
          (merge_moves env store first (ReadsBelow store first) merges
          (tables_keep keys env cmp filters codings store first is))
          (merge_borne env store first (ReadsBelow store first) merges
          (tables_borne keys env cmp filters codings store first is)) world reads;
    }
      where
        layers_there : (world : E × ReadTables E C FP K F) (meaning : Meaning)
            (tables : List LiveTable)
            → AreTablesToWalk keys env cmp filters codings inputs meaning world tables
            → AreOverLayers keys env cmp filters codings world iters tables
        layers_there world meaning tables there =
            let read = world.1.cmp in
            version_iters_are_layers keys env cmp filters codings inputs iters are world
            (exact read) (orders_keys cmp read (keys_are read)) meaning tables there

        merged : (world : E × ReadTables E C FP K F) (meaning : Meaning) (tables : List LiveTable)
            (there : AreTablesToWalk keys env cmp filters codings inputs meaning world tables)
            → cmp.cmp compares ≡ cmp.cmp inputs.cmp → (pairs : List Pair)
            × AreMerged child keys world (record { 0 = compares }) iters
            (key_order keys (record { 0 = compares }))
            (layers_there world meaning tables there).lists pairs
            × HaveOnePairAKey (key_order keys (record { 0 = compares }))
            (layers_there world meaning tables there).lists
            × AreRising (internal_cmp (cmp.cmp compares)) pairs
            × SameEntries (entries_of_pairs pairs) (table_entries tables)
            × AreInternal pairs
        merged world meaning tables there same = inputs_merged env cmp filters codings keys_are is
            compares (exact compares) iters world (sym there.order_is ∙ sym same) tables
            (layers_there world meaning tables there)
