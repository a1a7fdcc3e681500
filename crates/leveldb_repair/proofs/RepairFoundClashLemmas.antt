-- What a clash of lists that have what is found says of the folder's files: two found entries are
-- of one key and number, and they differ, or the two pairs do in bytes that are ignored.
use Rattle.std.proofs.Common.{◌≡◌, ◌⊎◌, ⊎_elim, inl, inr, ℕ, List, ◌++◌, map, subst, sym}
use Rattle.std.proofs.lemmas.List.Elements.{Contains-append_cases}
use Rattle.std.specs.Prelude.{◌↔◌, Contains, flat_map}
use Rattle.std.specs.declared.cmp.Ordering.{Ordering}
use Rattle.std.specs.declared.cmp.Ordering.TheVariants.{Equal}
use Rattle.leveldb_base.proofs.EntriesLemmas.{in_map, map_in}
use Rattle.leveldb_base.specs.Cmp.{IsExactOrder}
use Rattle.leveldb_base.specs.Entries.{entries_of_pairs, entry_of_pair, internal_pair}
use Rattle.leveldb_base.specs.History.{Entry}
use Rattle.leveldb_base.specs.KeyTypes.{internal_cmp}
use Rattle.leveldb_base.specs.Types.{Pair}
use Rattle.leveldb_env.specs.Env.{Files}
use Rattle.leveldb_iter.specs.Merge.{IsPairOf}
use Rattle.leveldb_iter.specs.Walk.{KeyOrder}
use Rattle.leveldb_mem.specs.MemTable.{MemTableState}
use Rattle.leveldb_files.proofs.Stores.OneStoreLemmas.{flat_in}
use Rattle.leveldb_version_set.specs.Repairs.Found.{AreFound, IsFound}
use Rattle.leveldb_repair.proofs.RepairClashLemmas.{AreOfOneNumber, HaveClash, clash_differs}
use Rattle.leveldb_repair.proofs.RepairMergeLemmas.{AreOfEntries, listed_of_entry, memory_lists}
use Rattle.leveldb_repair.specs.FoundLogs.{HaveEntry, IsInLog}

-- a pair of lists and others is one of either
pub listed_cases : (lists others : List (List Pair)) (pair : Pair)
    → IsPairOf (lists ++ others) pair → IsPairOf lists pair ⊎ IsPairOf others pair
listed_cases lists others pair any = ⊎_elim
    (λ (one : Contains lists any.1). inl (one.0, any.1, one.1, one.2, any.4))
    (λ (one : Contains others any.1). inr (one.0, any.1, one.1, one.2, any.4))
    (Contains-append_cases lists others any.1 (any.0, any.2, any.3))

module _ (store : List ℕ) (IsTableOf : List ℕ → List Pair → Type 0) (files : Files) where
  -- of lists of pairs of entries that have exactly what is found
  module _ (order : KeyOrder) {cmp : List ℕ → List ℕ → Ordering} (exact : IsExactOrder cmp)
      (cmp_is : order.cmp ≡ internal_cmp cmp) (lists : List (List Pair))
      (each : (list : List Pair) → Contains lists list → AreOfEntries list)
      (found : AreFound store IsTableOf files (flat_map entries_of_pairs lists)) where
    -- each pair is that of a found entry
    pub listed_is_found : (pair : Pair) → IsPairOf lists pair
        → IsFound store IsTableOf files (entry_of_pair pair)
    listed_is_found pair any = (found (entry_of_pair pair)).0
        (flat_in entries_of_pairs lists any.1 (entry_of_pair pair) (any.0, any.2, any.3)
        (map_in entry_of_pair any.1 pair any.4))

    -- a clash is of found entries of one key and number
    pub clash_is_found : (clash : HaveClash order lists)
        → IsFound store IsTableOf files (entry_of_pair clash.one)
        × IsFound store IsTableOf files (entry_of_pair clash.other)
        × AreOfOneNumber clash.one clash.other
    clash_is_found clash = (
      listed_is_found clash.one clash.one_there,
      listed_is_found clash.other clash.other_there,
      clash_differs exact clash.one clash.other
          (listed_of_entry lists each clash.one clash.one_there)
          (listed_of_entry lists each clash.other clash.other_there)
          (subst (λ (o : List ℕ → List ℕ → Ordering). o clash.one.0 clash.other.0 ≡ Equal) cmp_is
          clash.equal) clash.differ,
    )

  -- a pair of the lists of memtables that have the entries of logs is one of a log, as that of an
  -- entry: where it is a deletion it has no bytes in place of a value
  pub log_pair : {C : Type 0} (memory : List (MemTableState C))
      → ((entry : Entry) → HaveEntry memory entry ↔ IsInLog store files entry) → (pair : Pair)
      → IsPairOf (memory_lists memory) pair
      → (entry : Entry) × IsInLog store files entry × (internal_pair entry ≡ pair)
  log_pair {C} memory in_logs pair any =
      let from = in_map (λ (table : MemTableState C). map internal_pair table.kept.entries)
      memory any.1 (any.0, any.2, any.3) in
      let at = in_map internal_pair from.0.kept.entries pair
      (subst (λ ps. Contains ps pair) (sym from.2) any.4) in
      (at.0, (in_logs at.0).0 (from.0, from.1, at.1), at.2)
