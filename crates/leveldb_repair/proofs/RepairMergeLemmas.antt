-- The lists of pairs that are found, of tables and of memtables, and a merge of them: which entries
-- they have, and that these are what is found.
use Rattle.std.proofs.Common.{◌≡◌, ⊎_elim, inl, inr, ◌<◌, ◌≤◌, ℕ, List, [], ◌∷◌, ◌++◌, None, Option, Some, arith, map, refl, subst, sym}
use Rattle.std.proofs.lemmas.List.Concat.{flat_map-append}
use Rattle.std.proofs.lemmas.List.Elements.{Contains-append_cases, Contains-append_left, Contains-append_right}
use Rattle.std.specs.Prelude.{◌↔◌, Contains, flat_map}
use Rattle.leveldb_base.proofs.EntriesLemmas.{in_map, map_in, pair_is_read}
use Rattle.leveldb_base.proofs.HistoryLemmas.{in_cases, in_front, in_none, in_rest}
use Rattle.leveldb_base.specs.Entries.{bytes_of_value, entries_of_pairs, entry_of_pair, internal_pair, type_of, value_of}
use Rattle.leveldb_base.specs.History.{AreAbove, AreUpTo, Entry}
use Rattle.leveldb_base.specs.KeyTypes.{greatest_sequence}
use Rattle.leveldb_base.specs.Types.{Pair}
use Rattle.leveldb_env.specs.Env.{File, Files, bytes_of, in_folder}
use Rattle.leveldb_iter.specs.Merge.{HaveOnePairAKey, IsMerge, IsPairOf}
use Rattle.leveldb_iter.specs.Walk.{KeyOrder}
use Rattle.leveldb_mem.specs.MemTable.{MemTableState}
use Rattle.leveldb_files.proofs.Histories.NumbersLemmas.{placed_above, up_to}
use Rattle.leveldb_files.proofs.Stores.OneStoreLemmas.{flat_in, in_flat}
use Rattle.leveldb_version.proofs.Versions.PairwiseLemmas.{each_second}
use Rattle.leveldb_files.specs.Stores.Batches.{Each, batch_entries}
use Rattle.leveldb_version_set.specs.Repairs.Found.{AreFound, IsFound, IsNumberedBatch, LogHas, TableHas}
use Rattle.leveldb_files.specs.Stores.Store.{IsInternalPair}
use Rattle.leveldb_repair.specs.FoundLogs.{HaveEntry, IsInLog}

-- ---- the pairs and entries of a merge

module _ (order : KeyOrder) (lists : List (List Pair)) (merged : List Pair)
    (merge : IsMerge order lists merged) where
  -- a merge of lists that have one pair of each key has exactly their pairs
  pub merge_has_pairs : HaveOnePairAKey order lists → (pair : Pair)
      → Contains merged pair ↔ IsPairOf lists pair
  merge_has_pairs one pair = (
    merge.from pair,
    λ any.
        let kept = merge.keys pair any in
        subst (Contains merged) (one kept.0 pair (merge.from kept.0 kept.1) any kept.2) kept.1,
  )

  -- and exactly their entries
  pub merge_has_entries : HaveOnePairAKey order lists → (entry : Entry)
      → Contains (entries_of_pairs merged) entry
      ↔ Contains (flat_map entries_of_pairs lists) entry
  merge_has_entries one entry = (
    λ c.
        let from = in_map entry_of_pair merged entry c in
        let any = merge.from from.0 from.1 in
        flat_in entries_of_pairs lists any.1 entry (any.0, any.2, any.3)
        (subst (Contains (entries_of_pairs any.1)) from.2
        (map_in entry_of_pair any.1 from.0 any.4)),
    λ c.
        let list = in_flat entries_of_pairs lists entry c in
        let at = list.1 in
        let from = in_map entry_of_pair list.0 entry list.2 in
        subst (Contains (entries_of_pairs merged)) from.2
        (map_in entry_of_pair merged from.0
        ((merge_has_pairs one from.0).1 (at.0, list.0, at.1, at.2, from.1))),
  )

-- ---- pairs of entries

-- each pair is that of its entry
abbrev pub AreOfEntries : List Pair → Type 0
AreOfEntries pairs = Each IsInternalPair pairs (entries_of_pairs pairs)

pub pair_of_entry : (pairs : List Pair) → AreOfEntries pairs → (pair : Pair)
    → Contains pairs pair → IsInternalPair pair (entry_of_pair pair)
pair_of_entry [] are pair there = absurd (in_none pair there)
pair_of_entry (first ∷ pairs) are pair there = ⊎_elim
    (λ (same : first ≡ pair). subst (λ (p : Pair). IsInternalPair p (entry_of_pair p)) same are.0)
    (λ (rest : Contains pairs pair). pair_of_entry pairs are.1 pair rest)
    (in_cases first pair pairs there)

pub pairs_of_entries : (pairs : List Pair)
    → ((pair : Pair) → Contains pairs pair → IsInternalPair pair (entry_of_pair pair))
    → AreOfEntries pairs
pairs_of_entries [] each = tt
pairs_of_entries (first ∷ pairs) each = (
  each first (in_front first pairs),
  pairs_of_entries pairs (λ pair there. each pair (in_rest first pair pairs there)),
)

-- so are those of a merge of lists of such pairs
pub listed_of_entry : (lists : List (List Pair))
    → ((list : List Pair) → Contains lists list → AreOfEntries list) → (pair : Pair)
    → IsPairOf lists pair → IsInternalPair pair (entry_of_pair pair)
listed_of_entry lists each pair any =
    pair_of_entry any.1 (each any.1 (any.0, any.2, any.3)) pair any.4

pub merged_of_entries : (order : KeyOrder) (lists : List (List Pair)) (merged : List Pair)
    → IsMerge order lists merged
    → ((list : List Pair) → Contains lists list → AreOfEntries list) → AreOfEntries merged
merged_of_entries order lists merged merge each = pairs_of_entries merged
    (λ pair there. listed_of_entry lists each pair (merge.from pair there))

-- ---- the lists of memtables

-- the entries of memtables as pairs, a list of each
abbrev pub memory_lists : {C : Type 0} → List (MemTableState C) → List (List Pair)
memory_lists tables = map (λ table. map internal_pair table.kept.entries) tables

same_value : (value : Option (List ℕ)) → value ≡ value_of (type_of value) (bytes_of_value value)
same_value None = refl
same_value (Some value) = refl

-- an entry's pair is that of its entry
pub internal_of_entry : (entry : Entry) → entry.sequence ≤ greatest_sequence
    → IsInternalPair (internal_pair entry) (entry_of_pair (internal_pair entry))
internal_of_entry entry most =
    let is : IsInternalPair (internal_pair entry) entry = record {
      kind = type_of entry.value;
      key = refl;
      value = same_value entry.value;
      fits = omega (arith, most);
    } in
    subst (IsInternalPair (internal_pair entry)) (sym (pair_is_read entry (omega (arith, most)))) is

-- the pairs of entries represent these
pub entries_are_read : (entries : List Entry) → AreUpTo greatest_sequence entries
    → entries_of_pairs (map internal_pair entries) ≡ entries
entries_are_read [] up_to = refl
entries_are_read (entry ∷ entries) up_to =
    let first = up_to entry (in_front entry entries) in
    let rest = entries_are_read entries (λ other c. up_to other (in_rest entry other entries c)) in
    λ i. pair_is_read entry (omega (arith, first)) i ∷ rest i

module _ {C : Type 0} (tables : List (MemTableState C))
    (numbered : (table : MemTableState C) → Contains tables table
    → AreUpTo greatest_sequence table.kept.entries) where
  abbrev pairs_in : MemTableState C → List Pair
  pairs_in table = map internal_pair table.kept.entries

  -- the lists have exactly the entries of the memtables
  pub memory_has_entries : (entry : Entry)
      → Contains (flat_map entries_of_pairs (memory_lists tables)) entry ↔ HaveEntry tables entry
  memory_has_entries entry = (
    λ c.
        let list = in_flat entries_of_pairs (memory_lists tables) entry c in
        let from = in_map pairs_in tables list.0 list.1 in
        let table = from.0 in (
          table,
          from.1,
          subst (λ es. Contains es entry)
              (entries_are_read table.kept.entries (numbered table from.1))
              (subst (λ ps. Contains (entries_of_pairs ps) entry) (sym from.2) list.2),
        ),
    λ has.
        let table = has.0 in
        flat_in entries_of_pairs (memory_lists tables) (pairs_in table) entry
        (map_in pairs_in tables table has.1)
        (subst (λ es. Contains es entry)
        (sym (entries_are_read table.kept.entries (numbered table has.1))) has.2),
  )

  -- and each of their pairs is that of its entry
  pub memory_of_entries : (list : List Pair) → Contains (memory_lists tables) list
      → AreOfEntries list
  memory_of_entries list there =
      let from = in_map pairs_in tables list there in
      let table = from.0 in
      subst AreOfEntries from.2 (pairs_of_entries (pairs_in table) (λ pair c.
      let entry = in_map internal_pair table.kept.entries pair c in
      subst (λ (p : Pair). IsInternalPair p (entry_of_pair p)) entry.2
      (internal_of_entry entry.0 (numbered table from.1 entry.0 entry.1))))

-- ---- numbers

-- an entry of a log has a number from 1 to the greatest
pub log_numbered : (name bytes : List ℕ) (entry : Entry) → LogHas name bytes entry
    → (0 < entry.sequence) × (entry.sequence ≤ greatest_sequence)
log_numbered name bytes entry (n, is_log, batches, found, there) =
    let from = in_flat batch_entries batches entry there in
    let batch = from.0 in
    let text = each_second IsNumberedBatch found.front batches batch found.each from.1 in
    let is = text.2 in (
      placed_above batch.first batch.items 0 is.from_one entry from.2,
      up_to greatest_sequence (batch_entries batch) is.fits entry from.2,
    )

-- ---- what is found

module _ (store : List ℕ) (IsTableOf : List ℕ → List Pair → Type 0) (files : Files) where
  -- a readable table of the folder has the entry
  abbrev pub IsInAnyTable : Entry → Type 0
  IsInAnyTable entry = (name : List ℕ) × (file : File)
      × (files (in_folder store name) ≡ Some file)
      × TableHas store IsTableOf name (bytes_of file) entry

  -- an entry that is found has a number from 1 on
  pub found_above_zero : (entry : Entry) → IsFound store IsTableOf files entry → 0 < entry.sequence
  found_above_zero entry (name, file, there, inl (n, is_table, entries, readable, has)) =
      readable.numbered entry has
  found_above_zero entry (name, file, there, inr log) =
      (log_numbered name (bytes_of file) entry log).0

  pub found_numbered : (entries : List Entry) → AreFound store IsTableOf files entries
      → AreAbove 0 entries
  found_numbered entries found entry there = found_above_zero entry ((found entry).0 there)

  module _ {C : Type 0} (memory : List (MemTableState C))
      (logs : (entry : Entry) → HaveEntry memory entry ↔ IsInLog store files entry) where
    -- memtables that have exactly the entries of logs have no number past the greatest
    pub logs_up_to : (table : MemTableState C) → Contains memory table
        → AreUpTo greatest_sequence table.kept.entries
    logs_up_to table there entry c =
        let is = (logs entry).0 (table, there, c) in
        (log_numbered is.0 (bytes_of is.1) entry is.3).1

    pub logs_in_lists : (entry : Entry)
        → Contains (flat_map entries_of_pairs (memory_lists memory)) entry
        ↔ IsInLog store files entry
    logs_in_lists entry =
        let has = memory_has_entries memory logs_up_to entry in
        (λ c. (logs entry).0 (has.0 c), λ is. has.1 ((logs entry).1 is))

  -- lists that have exactly the entries of the folder's tables, and lists that have those of its
  -- logs, have what is found
  module _ (tables logs : List (List Pair))
      (in_tables : (entry : Entry) → Contains (flat_map entries_of_pairs tables) entry
      ↔ IsInAnyTable entry)
      (in_logs : (entry : Entry) → Contains (flat_map entries_of_pairs logs) entry
      ↔ IsInLog store files entry) where
    pub lists_are_found :
        AreFound store IsTableOf files (flat_map entries_of_pairs (tables ++ logs))
    lists_are_found entry = (
      λ c. ⊎_elim
          (λ (one : Contains (flat_map entries_of_pairs tables) entry).
          let is = (in_tables entry).0 one in (is.0, is.1, is.2, inl is.3))
          (λ (one : Contains (flat_map entries_of_pairs logs) entry).
          let is = (in_logs entry).0 one in (is.0, is.1, is.2, inr is.3))
          (Contains-append_cases (flat_map entries_of_pairs tables)
          (flat_map entries_of_pairs logs) entry
          (subst (λ es. Contains es entry) both c)),
      λ found. subst (λ es. Contains es entry) (sym both) (⊎_elim
          (λ (table : TableHas store IsTableOf found.0 (bytes_of found.1) entry).
          Contains-append_left (flat_map entries_of_pairs tables)
          (flat_map entries_of_pairs logs) entry
          ((in_tables entry).1 (found.0, found.1, found.2, table)))
          (λ (log : LogHas found.0 (bytes_of found.1) entry).
          Contains-append_right (flat_map entries_of_pairs tables)
          (flat_map entries_of_pairs logs) entry
          ((in_logs entry).1 (found.0, found.1, found.2, log)))
          found.3),
    )
      where
        both : flat_map entries_of_pairs (tables ++ logs)
            ≡ flat_map entries_of_pairs tables ++ flat_map entries_of_pairs logs
        both = flat_map-append entries_of_pairs tables logs

    -- so has a merge of them, where they have one pair of each key
    pub merge_is_found : (order : KeyOrder) (merged : List Pair)
        → IsMerge order (tables ++ logs) merged → HaveOnePairAKey order (tables ++ logs)
        → AreFound store IsTableOf files (entries_of_pairs merged)
    merge_is_found order merged merge one entry =
        let same = merge_has_entries order (tables ++ logs) merged merge one entry in
        let is = lists_are_found entry in
        (λ c. is.0 (same.0 c), λ found. same.1 (is.1 found))
