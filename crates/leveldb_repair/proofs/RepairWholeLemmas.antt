-- A repair of a store's files from its steps: what was found goes to walks over it, and these to a store.
use Rattle.std.specs.Prelude.{All, Contains, IsTrue, Result}
use Rattle.std.proofs.Common.{◌≡◌, ◌≤◌, ◌<◌, ◌+◌, ◌⊎◌, inl, inr, ⊎_elim, ℕ, List, [], ◌∷◌, ◌++◌, Ok, Err, map, sym, subst, arith}
use Rattle.std.proofs.lemmas.List.Elements.{All-contains, All-head, All-tail, Contains-append_cases}
use Rattle.leveldb_base.specs.Cmp.{IsExactOrder}
use Rattle.leveldb_base.specs.Entries.{entries_of_pairs}
use Rattle.leveldb_base.specs.Error.{IsOutOfMemory}
use Rattle.leveldb_base.specs.History.{AreUpTo}
use Rattle.leveldb_base.specs.KeyTypes.{greatest_sequence}
use Rattle.leveldb_base.specs.Types.{Pair}
use Rattle.leveldb_base.specs.declared.cmp.Cmp.{Ghosts as CmpGhosts}
use Rattle.leveldb_base.specs.declared.cmp.internal.InternalKeyCmp.{InternalKeyCmp}
use Rattle.leveldb_base.specs.declared.error.Status.{Status}
use Rattle.leveldb_base.specs.declared.types.LdbIterator.{Ghosts as IteratorGhosts}
use Rattle.leveldb_env.specs.Compressor.{Codings}
use Rattle.leveldb_env.specs.Env.{Files, bytes_of}
use Rattle.leveldb_env.specs.declared.env.Env.{Ghosts as EnvGhosts}
use Rattle.leveldb_env.specs.declared.filter.FilterPolicy.{Ghosts as FilterGhosts}
use Rattle.leveldb_iter.specs.Merge.{IsPairOf}
use Rattle.leveldb_iter.specs.MergedEntries.{internal_order}
use Rattle.leveldb_iter.specs.Walk.{key_order}
use Rattle.leveldb_iter.specs.declared.in_memory.InMemory.{InMemory}
use Rattle.leveldb_mem.specs.MemTable.{MemTableState}
use Rattle.leveldb_files.proofs.Stores.OneStoreLemmas.{flat_in}
use Rattle.leveldb_version.proofs.Versions.SearchLemmas.{all_from_contains}
use Rattle.leveldb_files.specs.Stores.Batches.{Each}
use Rattle.leveldb_version_set.specs.Repairs.Found.{IsAnyTable}
use Rattle.leveldb_store.specs.Tables.BuildTable.{TableChoices}
use Rattle.leveldb_store.specs.Writing.Switch.{AreFileNumbersTooFew}
use Rattle.leveldb_store.specs.Reading.View.{IsOverMemory, any_in_order}
use Rattle.leveldb_store.specs.declared.opening.listing.ListedFile.{ListedFile}
use Rattle.leveldb_repair.proofs.RepairChildrenLemmas.{children_over}
use Rattle.leveldb_repair.proofs.RepairFoundClashLemmas.{listed_cases, log_pair}
use Rattle.leveldb_repair.proofs.RepairMergeLemmas.{lists_are_found, log_numbered, logs_in_lists, logs_up_to, memory_lists, memory_of_entries}
use Rattle.leveldb_repair.proofs.RepairStoreLemmas.{not_repaired, repairs_after}
use Rattle.leveldb_repair.specs.FoundTables.{AreNumberedPairs, IsNewWalkOver}
use Rattle.leveldb_repair.specs.FoundWalk.{IsWalkOver}
use Rattle.leveldb_repair.specs.FoundWalkTable.{IsFoundOver}
use Rattle.leveldb_repair.specs.RepairSteps.{AreFoundIn, AreOverFound, AreOverMemory, FindsAll, HasFound, HaveFound, IsToRepair}
use Rattle.leveldb_repair.specs.RepairStore.{RepairsStore}
use Rattle.leveldb_repair.specs.FoundWalkOf.{FoundWalk}
use Rattle.leveldb_repair.specs.declared.found_walk.FoundWalk.TheVariants.{Memory, Table}
use Rattle.leveldb_repair.specs.declared.found_walk.files.ReadFiles.{ReadFiles}
use Rattle.leveldb_repair.specs.declared.found_walk.table.FoundTable.{FoundTable}
use Rattle.leveldb_repair.specs.declared.repair_store.find.Found.{Found}

module _ {E C K F FP : Type 0} {order : CmpGhosts (InternalKeyCmp C)} {filters : FilterGhosts FP}
    (choices : TableChoices order filters) (env : EnvGhosts E F) (cmp : CmpGhosts C)
    (codings : K → Codings) (compressors : K) (store : List ℕ) where
  abbrev compares : C
  compares = choices.cmp.0

  abbrev Finds : E → Result (Found E C F) Status → E → Type 0
  Finds = FindsAll choices env cmp codings compressors compares store

  -- ---- it isn't begun

  pub not_found : {from mid : E} {status : Status} → Finds from (Err status) mid
      → RepairsStore choices env store from (Err status) mid
  not_found finds = not_repaired choices env store finds.leaves finds.cause

  pub no_numbers : {from mid : E} {found : Found E C F} {status : Status}
      → Finds from (Ok found) mid
      → IsOutOfMemory status ⊎ AreFileNumbersTooFew found.greatest 3 status
      → RepairsStore choices env store from (Err status) mid
  no_numbers {found = found} {status = status} finds cause = not_repaired choices env store finds.leaves (⊎_elim
      (λ (memory : IsOutOfMemory status). inl memory)
      (λ (few : AreFileNumbersTooFew found.greatest 3 status).
      inr (inr (inr (inr (inr (inr (inl (
        few.code,
        λ modelled.
            let has = finds.ok in
            let repairs = has.repairs modelled in
            inr (found.greatest, repairs.taken_is, few.too_few),
      ))))))))
      cause)

  pub no_memory : {from mid : E} {found : Found E C F} {status : Status}
      → Finds from (Ok found) mid → IsOutOfMemory status
      → RepairsStore choices env store from (Err status) mid
  no_memory finds memory = not_repaired choices env store finds.leaves (inl memory)

  -- ---- the lists

  module _ {listed : List ListedFile} {files : Files} {mid : E} {walks : List (FoundTable E C F)}
      {logs : List (MemTableState C)}
      (are : AreFoundIn choices env cmp codings compressors compares store listed files mid walks
      logs) where
    abbrev no_table : List ℕ → List Pair → Type 0
    no_table bytes pairs = ⊥

    abbrev lists : List (List Pair)
    lists = are.lists ++ memory_lists logs

    up_to : (table : MemTableState C) → Contains logs table
        → AreUpTo greatest_sequence table.kept.entries
    up_to = logs_up_to store no_table files logs are.in_logs

    memory_numbered : (list : List Pair) → Contains (memory_lists logs) list
        → AreNumberedPairs list
    memory_numbered list there = record {
      each = memory_of_entries logs up_to list there;
      numbered = λ entry c.
          let is = (logs_in_lists store no_table files logs are.in_logs entry).0
          (flat_in entries_of_pairs (memory_lists logs) list entry there c) in
          (log_numbered is.0 (bytes_of is.1) entry is.3).0;
    }

    lists_have : HaveFound store choices.format files lists
    lists_have = record {
      numbered = all_from_contains AreNumberedPairs lists (λ list there. ⊎_elim
          (λ (one : Contains are.lists list).
          All-contains AreNumberedPairs are.lists list are.numbered one)
          (λ (one : Contains (memory_lists logs) list). memory_numbered list one)
          (Contains-append_cases are.lists (memory_lists logs) list there));
      pairs = λ meaning agrees pair any. ⊎_elim
          (λ (one : IsPairOf are.lists pair). inl (are.pairs meaning agrees pair one))
          (λ (one : IsPairOf (memory_lists logs) pair).
          inr (log_pair store no_table files logs are.in_logs pair one))
          (listed_cases are.lists (memory_lists logs) pair any);
      found = λ more decodes. lists_are_found store (IsAnyTable choices.format.order more) files
          are.lists (memory_lists logs) (are.in_tables more decodes)
          (logs_in_lists store (IsAnyTable choices.format.order more) files logs are.in_logs);
    }

  -- ---- the walks

  module _ {M : Type 0} (iterator : IteratorGhosts M)
      (never : (it after : M) (status : Status) → iterator.fails it after status → ⊥)
      (keys_are : (c : C)
      → key_order order (record { 0 = c }) ≡ internal_order (any_in_order (cmp.cmp c)))
      (exact : IsExactOrder (cmp.cmp compares))
      (codings_are : codings compressors ≡ choices.format.codings) {from mid : E}
      {found : Found E C F} (finds : Finds from (Ok found) mid) (read : ReadFiles K) (by : read.compressors.now ≡ compressors)
      (same : read.store.now ≡ store) (below : read.below ≡ found.greatest + 1)
      {children : List (FoundWalk E C M F)} (memory : List (InMemory M))
      (are_children : children ≡ map Table found.tables.items ++ map Memory memory)
      (over_memory : AreOverMemory iterator cmp found.logs.items memory) where
    has : HasFound choices env cmp codings compressors compares store from mid found
    has = finds.ok

    abbrev world : E × ReadFiles K
    world = (mid, read)

    listed_below : All (λ (file : ListedFile). file.number < read.below) has.listed
    listed_below = all_from_contains (λ (file : ListedFile). file.number < read.below) has.listed
        (λ file there.
        let above = has.above in
        let least = All-contains (λ (one : ListedFile). one.number ≤ found.greatest) has.listed file
        above there in
        omega (arith, below, least))

    tables_over : (walks : List (FoundTable E C F)) (lists : List (List Pair))
        → Each (IsNewWalkOver order env cmp codings compressors compares store has.listed mid)
        walks lists
        → Each (λ it pairs. IsFoundOver order env codings world it
        (key_order order (record { 0 = compares })) pairs) walks lists
    tables_over [] [] each = tt
    tables_over [] (list ∷ lists) each = absurd each
    tables_over (walk ∷ walks) [] each = absurd each
    tables_over (walk ∷ walks) (list ∷ lists) each =
        let at = each.0 read by same listed_below in
        (at.over, tables_over walks lists each.1)

    -- all memtables are in one order
    memory_over : (walks : List (InMemory M)) (logs : List (MemTableState C))
        → All (λ (table : MemTableState C). table.cmp ≡ compares) logs
        → AreOverMemory iterator cmp logs walks
        → Each (λ it (table : MemTableState C).
        IsOverMemory iterator (cmp.cmp compares) it table.kept.entries) walks logs
    memory_over [] [] ordered each = tt
    memory_over [] (table ∷ logs) ordered each = absurd each
    memory_over (walk ∷ walks) [] ordered each = absurd each
    memory_over (walk ∷ walks) (table ∷ logs) ordered each = (
      subst (λ (c : C). IsOverMemory iterator (cmp.cmp c) walk table.kept.entries)
          (All-head (λ (one : MemTableState C). one.cmp ≡ compares) table logs ordered) each.0,
      memory_over walks logs
          (All-tail (λ (one : MemTableState C). one.cmp ≡ compares) table logs ordered) each.1,
    )

    same_files : IsTrue env.models_disk
        → (env.observed mid).disk.files ≡ (env.observed from).disk.files
    same_files modelled = let leaves = finds.leaves in (leaves.run modelled).has

    pub over_found : AreOverFound choices env codings iterator store found.greatest world children
    over_found = record {
      makes = record { below = omega (arith, below); store_is = same };
      codings_are = subst (λ (k : K). codings k ≡ choices.format.codings) (sym by) codings_are;
      never = never;
      over = λ modelled.
          let are = has.are modelled in
          let old = (env.observed from).disk.files in
          let own : (files : Files) → Type 0
          = λ files. IsToRepair store files found.greatest
          × (lists : List (List Pair)) × HaveFound store choices.format files lists
          × Each (λ it pairs. IsWalkOver order env codings iterator world it
          (key_order order choices.cmp) pairs) children lists in
          subst own (sym (same_files modelled)) (
            has.repairs modelled,
            lists are,
            lists_have are,
            subst (λ (them : List (FoundWalk E C M F)).
                Each (λ it pairs. IsWalkOver order env codings iterator world it
                (key_order order choices.cmp) pairs) them (lists are)) (sym are_children)
                (children_over order env codings iterator cmp keys_are compares exact world
                found.tables.items are.lists memory found.logs.items
                (tables_over found.tables.items are.lists are.over)
                (memory_over memory found.logs.items has.ordered over_memory)),
          );
    }

    -- so what is made of them is a repair of the files
    pub whole : {result : Result (Unit {0}) Status} {to : E}
        → (AreOverFound choices env codings iterator store found.greatest world children
        → RepairsStore choices env store mid result to)
        → RepairsStore choices env store from result to
    whole {result} restores = repairs_after choices env store finds.leaves result
        (restores over_found)
