-- A walk over the view of the merge of a store's children is one over the store's view.
use Rattle.std.specs.Prelude.{Contains, min}
use Rattle.std.proofs.Common.{◌≡◌, ◌<◌, ◌≤◌, ◌^◌, inl, inr, ⊎_elim, ℕ, Bool, true, List, ◌++◌, map, sym, ap, subst, append_assoc}
use Rattle.std.proofs.lemmas.List.Elements.{Contains-append_cases}
use Rattle.leveldb_base.proofs.EntriesLemmas.{in_map}
use Rattle.leveldb_base.specs.Cmp.{IsExactOrder, internal_accepts}
use Rattle.leveldb_base.specs.Entries.{entries_of_pairs}
use Rattle.leveldb_base.specs.Error.{IsOutOfMemory}
use Rattle.leveldb_base.specs.History.{Entry, History, SameView, entries_of}
use Rattle.leveldb_base.specs.KeyTypes.{greatest_sequence, internal_cmp}
use Rattle.leveldb_base.specs.Types.{Pair}
use Rattle.leveldb_base.specs.View.{view_of}
use Rattle.leveldb_base.specs.declared.cmp.Cmp.{Ghosts as CmpGhosts}
use Rattle.leveldb_base.specs.declared.cmp.internal.InternalKeyCmp.{InternalKeyCmp}
use Rattle.leveldb_base.specs.declared.error.Status.{Status}
use Rattle.leveldb_base.specs.declared.types.LdbIterator.{Ghosts as IteratorGhosts}
use Rattle.leveldb_env.specs.Compressor.{Codings}
use Rattle.leveldb_env.specs.declared.env.Env.{Ghosts as EnvGhosts}
use Rattle.leveldb_env.specs.declared.filter.FilterPolicy.{Ghosts as FilterGhosts}
use Rattle.leveldb_iter.specs.Children.{AnyFails}
use Rattle.leveldb_iter.specs.MergedEntries.{internal_order}
use Rattle.leveldb_iter.specs.Walk.{KeyOrder, key_order}
use Rattle.leveldb_iter.specs.declared.db_iter.ViewWalk.{ViewWalk}
use Rattle.leveldb_iter.specs.declared.merging_iter.MergeCore.{MergeCore}
use Rattle.leveldb_iter.specs.declared.walk.Walk.{Ghosts as WalkGhosts}
use Rattle.leveldb_version.proofs.Walks.VersionLayersLemmas.{version_iters_are_layers}
use Rattle.leveldb_files.specs.Stores.Format.{IsTableFault, Meaning}
use Rattle.leveldb_files.specs.Levels.Levels.{table_entries}
use Rattle.leveldb_version.specs.Walks.VersionIter.{FailsOr}
use Rattle.leveldb_version.specs.Walks.VersionIters.{OrdersInternalKeys}
use Rattle.leveldb_version.specs.declared.table_cache.moves.ReadTables.{ReadTables}
use Rattle.leveldb_version_set.specs.Sets.CurrentVersion.{IsCurrent}
use Rattle.leveldb_store.specs.Keeping.OpenStore.{AreInLevels, AreNumbersGiven, OpenStoreValue}
use Rattle.leveldb_store.specs.Reading.Read.{in_memory}
use Rattle.leveldb_store.specs.Reading.View.{AreChildrenOf, FailsBetween, IsOfNoCompressor, ShowsIn, ViewsMerge, ViewsStore, any_in_order, options_in}
use Rattle.leveldb_store.specs.Keeping.Written.{imm_entries}
use Rattle.leveldb_store.specs.Reading.StoreWalk.{FailsInStore, IsStoreOver}
use Rattle.leveldb_store.specs.declared.store_walk.StoreWalk.{StoreWalk}
use Rattle.leveldb_store.specs.declared.store_walk.StoreWalk.TheVariants.{Memory, Tables}
use Rattle.leveldb_store.proofs.Reading.ViewChildrenLemmas.{IsMergedView, merged_view}
use Rattle.leveldb_store.proofs.Reading.ViewHistoryLemmas.{view_of_history}
use Rattle.leveldb_store.proofs.Reading.ViewReadsLemmas.{fails_between}
use Rattle.leveldb_store.proofs.Reading.ViewTablesLemmas.{tables_to_walk, there_for}

-- where no order of keys refuses one
pub orders_keys : {C : Type 0} {keys : CmpGhosts (InternalKeyCmp C)} (cmp : CmpGhosts C) (c : C)
    → key_order keys (record { 0 = c }) ≡ internal_order (any_in_order (cmp.cmp c)) → OrdersInternalKeys keys (cmp.cmp c) c
orders_keys cmp c are = record {
  cmp_is = ap (λ (order : KeyOrder). order.cmp) are;
  accepts = λ key takes. subst (λ (order : KeyOrder). order.accepts key ≡ true) (sym are) takes;
}

module _ {E F C FP K M : Type 0} {keys : CmpGhosts (InternalKeyCmp C)} (env : EnvGhosts E F) (counts : (e : E) → env.failures e < 2 ^ 64)
    (cmp : CmpGhosts C) (filters : FilterGhosts FP) (codings : K → Codings)
    (iterator : IteratorGhosts M) (never : (it after : M) (status : Status) → iterator.fails it after status → ⊥)
    (keys_are : (c : C) → key_order keys (record { 0 = c }) ≡ internal_order (any_in_order (cmp.cmp c))) (exact : (c : C) → IsExactOrder (cmp.cmp c))
    (child : WalkGhosts (StoreWalk C M) E (ReadTables E C FP K F))
    (child_over : (world : E × ReadTables E C FP K F) (it : StoreWalk C M) (order : KeyOrder) (pairs : List Pair) → IsStoreOver keys env cmp filters codings iterator world it order pairs → child.over world it order pairs)
    (child_fails : (world : E × ReadTables E C FP K F) (it : StoreWalk C M) (later : E × ReadTables E C FP K F) (status : Status) → child.fails world it later status
    → FailsInStore keys env cmp filters codings iterator world it later status)
    (walk : WalkGhosts (ViewWalk (MergeCore (InternalKeyCmp C) (StoreWalk C M))) E (ReadTables E C FP K F))
    (value : OpenStoreValue C) (current : IsCurrent (cmp.cmp value.cmp) value.cmp value.set value.current) (given : AreNumbersGiven value.set value.set.full.added)
    (levels : AreInLevels env.models_disk (cmp.cmp value.cmp) value.set.full.added)
    (children : List (StoreWalk C M)) (are : AreChildrenOf iterator (cmp.cmp value.cmp) value children)
    (sequence : ℕ) (it : ViewWalk (MergeCore (InternalKeyCmp C) (StoreWalk C M)))
    (compares : C) (compares_is : compares ≡ value.cmp) (last : ℕ) (last_is : last ≡ min sequence greatest_sequence) (made : ViewsMerge child keys walk (record { 0 = compares }) children last it) where
  merge : ViewsMerge child keys walk (record { 0 = value.cmp }) children (min sequence greatest_sequence) it
  merge = subst (λ c. ViewsMerge child keys walk (record { 0 = c }) children (min sequence greatest_sequence) it) compares_is
      (subst (λ n. ViewsMerge child keys walk (record { 0 = compares }) children n it) last_is made)

  -- ---- why a child fails

  between : {Why : Type 0} (from to : E × ReadTables E C FP K F) (status : Status) → FailsOr env cmp filters codings Why from to status → FailsBetween env from to (λ e. Why) status
  between = fails_between env counts cmp filters codings

  fault_one : (from to : E × ReadTables E C FP K F) (status : Status) (one : StoreWalk C M) → FailsInStore keys env cmp filters codings iterator from one to status
      → FailsBetween env from to (λ e. IsTableFault (options_in env cmp filters codings from).format e.code) status
  fault_one from to status (Memory walk) fails = absurd (never walk.0 fails.0 status fails.1)
  fault_one from to status (Tables walk) fails = between from to status fails.fault

  view_fault : (from to : E × ReadTables E C FP K F) (status : Status) → walk.fails from it to status
      → FailsBetween env from to (λ e. IsTableFault (options_in env cmp filters codings from).format e.code) status
  view_fault from to status fails = ⊎_elim
      (λ (any : AnyFails child from children to status). fault_one from to status any.1 (child_fails from any.1 to status any.4))
      (⊎_elim (λ (out : IsOutOfMemory status). inl out) (λ corrupt. inr (inr (inl corrupt.0))))
      (merge.fails from to status fails)

  -- ---- where memory and tables show a history

  module _ (world : E × ReadTables E C FP K F) (meaning : Meaning) (history : History) (since : ℕ) (shows : ShowsIn keys env cmp filters codings value meaning history since world) where
    here : OrdersInternalKeys keys (cmp.cmp world.1.cmp) world.1.cmp
    here = orders_keys cmp world.1.cmp (keys_are world.1.cmp)

    merged : (pairs : List Pair) × IsMergedView env cmp filters codings iterator keys_are child child_over value (exact value.cmp) children are world shows.is_world.order_is shows.shows.tables
        (version_iters_are_layers keys env cmp filters codings value.current are.tables are.over_tables world (exact world.1.cmp) here meaning shows.shows.tables
        (tables_to_walk env cmp filters codings value current given levels world shows.is_world meaning shows.agrees shows.shows.tables shows.shows.has shows.shows.shows.levels))
        shows.shows.shows.imm_older shows.shows.shows.tables_older pairs
    merged = merged_view env cmp filters codings iterator keys_are child child_over value (exact value.cmp) children are world shows.is_world.order_is shows.shows.tables
        (version_iters_are_layers keys env cmp filters codings value.current are.tables are.over_tables world (exact world.1.cmp) here meaning shows.shows.tables
        (tables_to_walk env cmp filters codings value current given levels world shows.is_world meaning shows.agrees shows.shows.tables shows.shows.has shows.shows.shows.levels))
        shows.shows.shows.imm_older shows.shows.shows.tables_older

    -- an error of a walk over tables
    in_tables : (one : StoreWalk C M) → Contains (map Tables are.tables) one → (to : E × ReadTables E C FP K F) (status : Status) → FailsInStore keys env cmp filters codings iterator world one to status
        → FailsBetween env world to (IsOfNoCompressor (options_in env cmp filters codings world).format meaning) status
    in_tables (Memory walk) c to status fails = absurd (never walk.0 fails.0 status fails.1)
    in_tables (Tables walk) c to status fails =
        let from = in_map Tables are.tables (Tables walk) c in
        let same : from.0 ≡ walk = let e : Tables from.0 ≡ Tables walk = from.2 in cc in
        let there = there_for env cmp filters codings value current given levels world shows.is_world meaning shows.agrees shows.shows.tables shows.shows.has shows.shows.shows.levels
        (exact world.1.cmp) here are.tables are.over_tables walk (subst (Contains are.tables) same from.1) in
        between world to status (fails.lacks meaning there.0 there.1)

    lacks_one : (one : StoreWalk C M) → Contains children one → (to : E × ReadTables E C FP K F) (status : Status) → FailsInStore keys env cmp filters codings iterator world one to status
        → FailsBetween env world to (IsOfNoCompressor (options_in env cmp filters codings world).format meaning) status
    lacks_one one c to status fails = ⊎_elim
        (λ (in_mem : Contains (map Memory are.memory) one). of_memory one in_mem fails)
        (λ (in_tab : Contains (map Tables are.tables) one). in_tables one in_tab to status fails)
        (Contains-append_cases (map Memory are.memory) (map Tables are.tables) one (subst (λ cs. Contains cs one) are.are c))
      where
        of_memory : (one : StoreWalk C M) → Contains (map Memory are.memory) one → FailsInStore keys env cmp filters codings iterator world one to status
            → FailsBetween env world to (IsOfNoCompressor (options_in env cmp filters codings world).format meaning) status
        of_memory (Memory walk) c fails = absurd (never walk.0 fails.0 status fails.1)
        of_memory (Tables walk) c fails = let from = in_map Memory are.memory (Tables walk) c in let e : Memory from.0 ≡ Tables walk = from.2 in absurd cc

    view_lacks : (to : E × ReadTables E C FP K F) (status : Status) → walk.fails world it to status
        → FailsBetween env world to (IsOfNoCompressor (options_in env cmp filters codings world).format meaning) status
    view_lacks to status fails = ⊎_elim
        (λ (any : AnyFails child world children to status). lacks_one any.1 (any.0, any.2, any.3) to status (child_fails world any.1 to status any.4))
        (⊎_elim (λ (out : IsOutOfMemory status). inl out)
        (λ corrupt. absurd (corrupt.1 (any_in_order (cmp.cmp value.cmp)) merged.0 merged.1.is_merge)))
        (merge.fails world to status fails)

    same_view : since ≤ sequence → SameView (in_memory value ++ table_entries shows.shows.tables) (entries_of history) sequence
    same_view low = subst (λ (all : List Entry). SameView all (entries_of history) sequence)
        (sym (append_assoc value.mem.entries (imm_entries value.imm) (table_entries shows.shows.tables))) (shows.shows.shows.same sequence low)

  -- the walk is over the store's view
  pub views_store : ViewsStore keys env cmp filters codings walk value sequence it
  views_store = record {
    over = λ world meaning history since low shows. (let it = merged world meaning history since shows in (
      view_of (min sequence greatest_sequence) (entries_of_pairs it.0),
      view_of_history (cmp.cmp value.cmp) (exact value.cmp) it.0 it.1.entries.sorted (in_memory value ++ table_entries shows.shows.tables) it.1.exactly history sequence
          (same_view world meaning history since shows low),
      merge.over world (any_in_order (cmp.cmp value.cmp)) it.0 it.1.is_merge,
    ));
    none = merge.none;
    laws = merge.laws;
    fault = view_fault;
    lacks = λ from meaning history since shows to status fails. view_lacks from meaning history since shows to status fails;
  }

-- an order of users' keys that accepts each makes one of internal keys that accepts each with its
-- tag
pub keys_of : {C : Type 0} (cmp : CmpGhosts C) → ((c : C) (key : List ℕ) → cmp.accepts c key ≡ true) → (c : C)
    → (let own : KeyOrder = record { accepts = internal_accepts (cmp.accepts c); cmp = internal_cmp (cmp.cmp c) } in own ≡ internal_order (any_in_order (cmp.cmp c)))
keys_of cmp all c = ap (λ (accepts : List ℕ → Bool). record { accepts = internal_accepts accepts; cmp = internal_cmp (cmp.cmp c) }) (λ i key. all c key i)
