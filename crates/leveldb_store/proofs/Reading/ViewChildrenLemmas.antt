-- The children of a store's view: over which lists they are, newer entries first, and the merge of
-- these.
use Rattle.std.specs.Prelude.{All, Contains, slice_index_or}
use Rattle.std.proofs.Common.{◌≡◌, ◌↔◌, ⊎_elim, ℕ, true, List, [], ◌∷◌, ◌++◌, Option, None, Some, map, refl, sym, ◌∙◌, ap, subst, arith}
use Rattle.std.proofs.lemmas.List.{map-append}
use Rattle.std.proofs.lemmas.List.Elements.{Contains-append_cases, Contains-append_left, Contains-append_right}
use Rattle.std.specs.declared.cmp.Ordering.{Ordering}
use Rattle.leveldb_base.proofs.EntriesLemmas.{in_map, pair_is_read}
use Rattle.leveldb_base.proofs.HistoryLemmas.{in_cases, in_front, in_none, in_rest}
use Rattle.leveldb_base.specs.Cmp.{IsExactOrder, internal_accepts}
use Rattle.leveldb_base.specs.CmpLaws.{internal_accepts-internal_key}
use Rattle.leveldb_base.specs.Entries.{entries_of_pairs, internal_pair, type_of}
use Rattle.leveldb_base.specs.History.{AreUpTo, Entry, entries_of}
use Rattle.leveldb_base.specs.KeyTypes.{greatest_sequence}
use Rattle.leveldb_base.specs.Layers.{AreLayered, IsOlder}
use Rattle.leveldb_base.specs.Types.{Pair}
use Rattle.leveldb_base.specs.declared.cmp.Cmp.{Ghosts as CmpGhosts}
use Rattle.leveldb_base.specs.declared.cmp.internal.InternalKeyCmp.{InternalKeyCmp}
use Rattle.leveldb_base.specs.declared.types.LdbIterator.{Ghosts as IteratorGhosts}
use Rattle.leveldb_env.specs.Compressor.{Codings}
use Rattle.leveldb_env.specs.declared.env.Env.{Ghosts as EnvGhosts}
use Rattle.leveldb_env.specs.declared.filter.FilterPolicy.{Ghosts as FilterGhosts}
use Rattle.leveldb_iter.proofs.LayersMergedLemmas.{layers_merged}
use Rattle.leveldb_iter.specs.Children.{AreOver}
use Rattle.leveldb_iter.specs.MergedEntries.{MergesEntries, internal_order}
use Rattle.leveldb_iter.specs.Walk.{IsSortedIn, KeyOrder, key_order}
use Rattle.leveldb_iter.specs.declared.in_memory.InMemory.{InMemory}
use Rattle.leveldb_iter.specs.declared.walk.Walk.{Ghosts as WalkGhosts}
use Rattle.leveldb_files.proofs.Stores.OneStoreLemmas.{flat_in, in_flat}
use Rattle.leveldb_version.proofs.Versions.PairwiseLemmas.{Pairwise, all_pairs, as_long, each_second, pairwise_append}
use Rattle.leveldb_version.proofs.Versions.SearchLemmas.{all_from_contains}
use Rattle.leveldb_files.specs.Stores.Batches.{Each}
use Rattle.leveldb_files.specs.Levels.Levels.{LiveTable, table_entries}
use Rattle.leveldb_version.specs.Walks.VersionIter.{IsOverTables}
use Rattle.leveldb_version.specs.Walks.VersionIters.{AreOverLayers}
use Rattle.leveldb_version.specs.declared.table_cache.moves.ReadTables.{ReadTables}
use Rattle.leveldb_version.specs.declared.version_iter.VersionIter.{VersionIter}
use Rattle.leveldb_mem.specs.MemTable.{Kept}
use Rattle.leveldb_store.specs.Keeping.OpenStore.{OpenStoreValue}
use Rattle.leveldb_store.specs.Reading.Read.{in_memory}
use Rattle.leveldb_store.specs.Reading.View.{AreChildrenOf, IsMergeToView, IsOverMemory, any_in_order, imm_layers}
use Rattle.leveldb_store.specs.Keeping.Written.{imm_entries}
use Rattle.leveldb_store.specs.Reading.StoreWalk.{IsStoreOver}
use Rattle.leveldb_store.specs.declared.store_walk.StoreWalk.{StoreWalk}
use Rattle.leveldb_store.specs.declared.store_walk.StoreWalk.TheVariants.{Memory, Tables}
use Rattle.leveldb_store.proofs.Reading.ViewListsLemmas.{each_append, each_at, each_by_index, pairwise_of}

-- ---- memtables

-- a memtable's entries as pairs
abbrev pub layer_pairs : List Entry → List Pair
layer_pairs entries = map internal_pair entries

-- represent these entries
layer_is_read : (entries : List Entry) → AreUpTo greatest_sequence entries → entries_of_pairs (layer_pairs entries) ≡ entries
layer_is_read [] up_to = refl
layer_is_read (entry ∷ entries) up_to =
    let first = up_to entry (in_front entry entries) in
    let rest = layer_is_read entries (λ other c. up_to other (in_rest entry other entries c)) in
    λ i. pair_is_read entry (omega (arith, first)) i ∷ rest i

-- and each of their keys is accepted
layer_accepted : (entries : List Entry) → All (λ pair. internal_accepts (λ key. true) pair.0 ≡ true) (layer_pairs entries)
layer_accepted entries = all_from_contains (λ pair. internal_accepts (λ key. true) pair.0 ≡ true) (layer_pairs entries)
    (λ pair c. (let from = in_map internal_pair entries pair c in
    subst (λ (p : Pair). internal_accepts (λ key. true) p.0 ≡ true) from.2
    (internal_accepts-internal_key (λ key. true) from.0.key from.0.sequence (type_of from.0.value) refl)))

-- the layers in memory
abbrev pub memory_layers : {C : Type 0} → OpenStoreValue C → List (List Entry)
memory_layers value = value.mem.entries ∷ imm_layers value.imm

-- an entry of a layer that waits waits, and the other way round
imm_there : (imm : Option Kept) (layer : List Entry) → Contains (imm_layers imm) layer → layer ≡ imm_entries imm
imm_there None layer c = absurd (in_none layer c)
imm_there (Some kept) layer c = ⊎_elim (λ (same : kept.entries ≡ layer). sym same) (λ (none : Contains [] layer). absurd (in_none layer none)) (in_cases kept.entries layer [] c)

there_imm : (imm : Option Kept) (entry : Entry) → Contains (imm_entries imm) entry → Contains (imm_layers imm) (imm_entries imm)
there_imm None entry c = absurd (in_none entry c)
there_imm (Some kept) entry c = in_front kept.entries []

-- entries in memory, in any layer
memory_layer : {C : Type 0} (value : OpenStoreValue C) (layer : List Entry) → Contains (memory_layers value) layer → (entry : Entry) → Contains layer entry → Contains (in_memory value) entry
memory_layer value layer c entry there = ⊎_elim
    (λ (same : value.mem.entries ≡ layer). Contains-append_left value.mem.entries (imm_entries value.imm) entry (subst (λ es. Contains es entry) (sym same) there))
    (λ (waits : Contains (imm_layers value.imm) layer). Contains-append_right value.mem.entries (imm_entries value.imm) entry
    (subst (λ es. Contains es entry) (imm_there value.imm layer waits) there))
    (in_cases value.mem.entries layer (imm_layers value.imm) c)

-- ---- of the newer and the older

module _ {C : Type 0} (value : OpenStoreValue C) (older : IsOlder (imm_entries value.imm) value.mem.entries) where
  memory_pairwise : Pairwise (λ newer old. IsOlder old newer) (memory_layers value)
  memory_pairwise = (
    λ layer c. subst (λ es. IsOlder es value.mem.entries) (sym (imm_there value.imm layer c)) older,
    alone value.imm,
  )
    where
      alone : (imm : Option Kept) → Pairwise (λ newer old. IsOlder old newer) (imm_layers imm)
      alone None = tt
      alone (Some kept) = ((λ layer c. absurd (in_none layer c)), tt)

  -- with layers of tables
  layers_pairwise : (tables : List Entry) (layers : List (List Entry)) → IsOlder tables (in_memory value) → ((layer : List Entry) → Contains layers layer → (entry : Entry) → Contains layer entry → Contains tables entry)
      → AreLayered layers → AreLayered (memory_layers value ++ layers)
  layers_pairwise tables layers tables_older among layered = all_pairs (λ newer old. IsOlder old newer) (memory_layers value ++ layers)
      (pairwise_append (λ newer old. IsOlder old newer) (memory_layers value) layers memory_pairwise (pairwise_of (λ newer old. IsOlder old newer) layers layered)
      (λ newer old c d a b in_a in_b same. tables_older a b (among old d a in_a) (memory_layer value newer c b in_b) same))

-- ---- the children

module _ {E F C FP K M : Type 0} {keys : CmpGhosts (InternalKeyCmp C)} (env : EnvGhosts E F) (cmp : CmpGhosts C) (filters : FilterGhosts FP) (codings : K → Codings)
    (iterator : IteratorGhosts M) (keys_are : (c : C) → key_order keys (record { 0 = c }) ≡ internal_order (any_in_order (cmp.cmp c)))
    (child : WalkGhosts (StoreWalk C M) E (ReadTables E C FP K F))
    (child_over : (world : E × ReadTables E C FP K F) (it : StoreWalk C M) (order : KeyOrder) (pairs : List Pair) → IsStoreOver keys env cmp filters codings iterator world it order pairs → child.over world it order pairs)
    (value : OpenStoreValue C) (exact : IsExactOrder (cmp.cmp value.cmp)) (children : List (StoreWalk C M)) (are : AreChildrenOf iterator (cmp.cmp value.cmp) value children)
    (world : E × ReadTables E C FP K F) (order_is : cmp.cmp world.1.cmp ≡ cmp.cmp value.cmp)
    (tables : List LiveTable) (over : AreOverLayers keys env cmp filters codings world are.tables tables)
    (imm_older : IsOlder (imm_entries value.imm) value.mem.entries) (tables_older : IsOlder (table_entries tables) (in_memory value)) where
  abbrev ucmp : List ℕ → List ℕ → Ordering
  ucmp = cmp.cmp value.cmp

  abbrev order : KeyOrder
  order = internal_order (any_in_order ucmp)

  abbrev Over : StoreWalk C M → List Pair → Type 0
  Over it pairs = IsStoreOver keys env cmp filters codings iterator world it order pairs

  -- the list of each
  abbrev lists : List (List Pair)
  lists = map layer_pairs (memory_layers value) ++ over.lists

  over_memory : (memory : List (InMemory M)) (layers : List (List Entry)) → Each (IsOverMemory iterator ucmp) memory layers → Each Over (map Memory memory) (map layer_pairs layers)
  over_memory [] [] each = tt
  over_memory [] (layer ∷ layers) each = absurd each
  over_memory (it ∷ memory) [] each = absurd each
  over_memory (it ∷ memory) (layer ∷ layers) each = (
    record {
      order_is = sym each.0.order_is;
      pairs_are = sym each.0.pairs_are;
      sorted = record { rising = each.0.sorted; accepted = layer_accepted layer };
    },
    over_memory memory layers each.1,
  )

  same_order : key_order keys (record { 0 = world.1.cmp }) ≡ order
  same_order = keys_are world.1.cmp ∙ ap (λ (o : List ℕ → List ℕ → Ordering). internal_order (any_in_order o)) order_is

  over_tables : (iters : List (VersionIter C)) (pairs : List (List Pair)) → Each (λ it ps. IsOverTables keys env cmp filters codings world it (key_order keys (record { 0 = world.1.cmp })) ps) iters pairs
      → Each Over (map Tables iters) pairs
  over_tables [] [] each = tt
  over_tables [] (ps ∷ pairs) each = absurd each
  over_tables (it ∷ iters) [] each = absurd each
  over_tables (it ∷ iters) (ps ∷ pairs) each = (
    subst (λ o. IsOverTables keys env cmp filters codings world it o ps) same_order each.0,
    over_tables iters pairs each.1,
  )

  each_over : Each Over children lists
  each_over = subst (λ cs. Each Over cs lists) (sym are.are)
      (each_append Over (map Memory are.memory) (map Tables are.tables) (map layer_pairs (memory_layers value)) over.lists
      (over_memory are.memory (memory_layers value) are.over_memory)
      (over_tables are.tables over.lists
      (each_by_index (λ it ps. IsOverTables keys env cmp filters codings world it (key_order keys (record { 0 = world.1.cmp })) ps) are.tables over.lists over.counted over.over)))

  are_over : AreOver child world children order lists
  are_over k it at = child_over world it order (slice_index_or lists k []) (each_at Over children lists k it [] each_over at)

  sorted_one : (it : StoreWalk C M) (pairs : List Pair) → Over it pairs → IsSortedIn order pairs
  sorted_one (Memory it) pairs is = is.sorted
  sorted_one (Tables it) pairs is = is.sorted

  sorted : All (IsSortedIn order) lists
  sorted = all_from_contains (IsSortedIn order) lists (λ pairs c. (let it = each_second Over children lists pairs each_over c in sorted_one it.0 pairs it.2))

  -- ---- as layers

  numbered : (memory : List (InMemory M)) (layers : List (List Entry)) → Each (IsOverMemory iterator ucmp) memory layers → map entries_of_pairs (map layer_pairs layers) ≡ layers
  numbered [] [] each = refl
  numbered [] (layer ∷ layers) each = absurd each
  numbered (it ∷ memory) [] each = absurd each
  numbered (it ∷ memory) (layer ∷ layers) each =
      let first = layer_is_read layer each.0.numbered in
      let rest = numbered memory layers each.1 in
      λ i. first i ∷ rest i

  abbrev table_layers : List (List Entry)
  table_layers = map entries_of_pairs over.lists

  layers_are : map entries_of_pairs lists ≡ memory_layers value ++ table_layers
  layers_are = map-append entries_of_pairs (map layer_pairs (memory_layers value)) over.lists
      ∙ ap (λ ls. ls ++ table_layers) (numbered are.memory (memory_layers value) are.over_memory)

  of_tables : (layer : List Entry) → Contains table_layers layer → (entry : Entry) → Contains layer entry → Contains (table_entries tables) entry
  of_tables layer c entry there = (over.exactly entry).0 (flat_in (λ (batch : List Entry). batch) table_layers layer entry c there)

  layered : AreLayered (map entries_of_pairs lists)
  layered = subst AreLayered (sym layers_are) (layers_pairwise value imm_older (table_entries tables) table_layers tables_older of_tables over.layered)

  -- all entries
  abbrev all : List Entry
  all = in_memory value ++ table_entries tables

  to_all : (entry : Entry) → Contains (entries_of (map entries_of_pairs lists)) entry → Contains all entry
  to_all entry c =
      let from = in_flat (λ (batch : List Entry). batch) (map entries_of_pairs lists) entry c in
      ⊎_elim
      (λ (in_mem : Contains (memory_layers value) from.0). Contains-append_left (in_memory value) (table_entries tables) entry (memory_layer value from.0 in_mem entry from.2))
      (λ (in_tab : Contains table_layers from.0). Contains-append_right (in_memory value) (table_entries tables) entry (of_tables from.0 in_tab entry from.2))
      (Contains-append_cases (memory_layers value) table_layers from.0 (subst (λ ls. Contains ls from.0) layers_are from.1))

  -- a layer's entries are among all
  in_layers : (layer : List Entry) (entry : Entry) → Contains (memory_layers value ++ table_layers) layer → Contains layer entry → Contains (entries_of (map entries_of_pairs lists)) entry
  in_layers layer entry c there = subst (λ ls. Contains (entries_of ls) entry) (sym layers_are) (flat_in (λ (batch : List Entry). batch) (memory_layers value ++ table_layers) layer entry c there)

  of_all : (entry : Entry) → Contains all entry → Contains (entries_of (map entries_of_pairs lists)) entry
  of_all entry c = ⊎_elim
      (λ (in_mem : Contains (in_memory value) entry). ⊎_elim
      (λ (mem : Contains value.mem.entries entry). in_layers value.mem.entries entry
      (Contains-append_left (memory_layers value) table_layers value.mem.entries (in_front value.mem.entries (imm_layers value.imm))) mem)
      (λ (waits : Contains (imm_entries value.imm) entry). in_layers (imm_entries value.imm) entry
      (Contains-append_left (memory_layers value) table_layers (imm_entries value.imm)
      (in_rest value.mem.entries (imm_entries value.imm) (imm_layers value.imm) (there_imm value.imm entry waits))) waits)
      (Contains-append_cases value.mem.entries (imm_entries value.imm) entry in_mem))
      (λ (in_tab : Contains (table_entries tables) entry).
      let from = in_flat (λ (batch : List Entry). batch) table_layers entry ((over.exactly entry).1 in_tab) in
      in_layers from.0 entry (Contains-append_right (memory_layers value) table_layers from.0 from.1) from.2)
      (Contains-append_cases (in_memory value) (table_entries tables) entry c)

  -- ---- merged

  -- The children are merged, to pairs that represent all entries, sorted.
  pub record IsMergedView (merged : List Pair) : Type 0 where
    pub is_merge : IsMergeToView child keys (record { 0 = value.cmp }) children world (any_in_order ucmp) merged
    pub entries : MergesEntries ucmp lists merged
    pub exactly : (entry : Entry) → Contains (entries_of_pairs merged) entry ↔ Contains all entry

  pub merged_view : (merged : List Pair) × IsMergedView merged
  merged_view =
      let has = layers_merged child keys (record { 0 = value.cmp }) (any_in_order ucmp) exact (sym (keys_are value.cmp)) world children lists
      (as_long Over children lists each_over) are_over sorted layered in
      let exactly : (entry : Entry) → Contains (entries_of_pairs has.0) entry ↔ Contains all entry = λ entry. (
        λ c. to_all entry ((has.2.exactly entry).0 c),
        λ c. (has.2.exactly entry).1 (of_all entry c),
      ) in (
        has.0,
        record {
          is_merge = record {
            lists = lists;
            merged = has.1;
            one = has.3;
            exact = exact;
            accepts = λ key. refl;
          };
          entries = has.2;
          exactly = exactly;
        },
      )
