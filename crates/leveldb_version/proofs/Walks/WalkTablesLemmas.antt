-- The tables of a version's walks, in a world where its files are tables in levels.
use Rattle.std.specs.Prelude.{Contains}
use Rattle.std.proofs.Common.{◌≡◌, ⊎_elim, ℕ, ◌<◌, ◌^◌, true, List, [], ◌∷◌, None, map, refl, sym, ◌∙◌, ap, subst}
use Rattle.std.proofs.lemmas.List.Elements.{All-contains}
use Rattle.std.specs.declared.cmp.Ordering.{Ordering}
use Rattle.leveldb_base.proofs.EntriesLemmas.{in_map, map_in}
use Rattle.leveldb_base.proofs.HistoryLemmas.{in_cases, in_front, in_none, in_rest}
use Rattle.leveldb_base.proofs.OrderLemmas.{exact_total}
use Rattle.leveldb_base.specs.Cmp.{IsExactOrder}
use Rattle.leveldb_base.specs.Entries.{entries_of_pairs, entry_of_pair}
use Rattle.leveldb_base.specs.History.{AreRising, Entry}
use Rattle.leveldb_base.specs.KeyTypes.{internal_cmp}
use Rattle.leveldb_base.specs.Types.{Pair}
use Rattle.leveldb_base.specs.declared.cmp.Cmp.{Ghosts as CmpGhosts}
use Rattle.leveldb_base.specs.declared.cmp.internal.InternalKeyCmp.{InternalKeyCmp}
use Rattle.leveldb_base.specs.declared.types.FileMetaData.{FileMetaData}
use Rattle.leveldb_env.specs.Compressor.{Codings}
use Rattle.leveldb_env.specs.Env.{Files}
use Rattle.leveldb_env.specs.declared.env.Env.{Ghosts as EnvGhosts}
use Rattle.leveldb_env.specs.declared.filter.FilterPolicy.{Ghosts as FilterGhosts}
use Rattle.leveldb_iter.specs.Walk.{key_order}
use Rattle.leveldb_table.specs.Table.{AreParted, Part}
use Rattle.leveldb_table.specs.TableReader.{pairs_in}
use Rattle.leveldb_version.proofs.Tables.NewestTablesLemmas.{one_number, table_of, there}
use Rattle.leveldb_files.proofs.Stores.OneStoreLemmas.{flat_in, in_flat}
use Rattle.leveldb_version.proofs.Versions.PairwiseLemmas.{choose, each_first, each_more_of, each_of_map, each_second}
use Rattle.leveldb_version.proofs.Versions.SearchLemmas.{all_from_contains}
use Rattle.leveldb_version.proofs.Tables.TableRunLemmas.{file_table, is_run, is_table_at, same_entries, same_internal}
use Rattle.leveldb_version.proofs.Tables.TablesInTurnLemmas.{AreInTurn, IsRun, of_all, turns_accepted, turns_parted, turns_rise}
use Rattle.leveldb_version.proofs.Versions.VersionLemmas.{internal_total}
use Rattle.leveldb_version.proofs.Walks.WalkFilesLemmas.{walk_turns, walk_within}
use Rattle.leveldb_version.proofs.Walks.WalkOrderLemmas.{keys_apart}
use Rattle.leveldb_files.specs.Stores.Batches.{Each}
use Rattle.leveldb_files.specs.Stores.Format.{Meaning}
use Rattle.leveldb_files.specs.Levels.Levels.{LiveTable}
use Rattle.leveldb_files.specs.Stores.Paths.{table_path}
use Rattle.leveldb_files.specs.Stores.Store.{IsInternalPair}
use Rattle.leveldb_version.specs.Tables.TableCache.{files_at, store_of}
use Rattle.leveldb_version.specs.Tables.TableMoves.{FileTable, IsIndexedFor, IsTableAt, table_pairs}
use Rattle.leveldb_version.specs.Versions.Version.{AreInVersionOrder, VersionValue, new_files_of}
use Rattle.leveldb_files.specs.Edits.Edit.{NewFile}
use Rattle.leveldb_version.specs.Edits.VersionEdit.{new_file_of}
use Rattle.leveldb_version.specs.Walks.VersionIter.{IsOverTables, table_in, table_part, table_parts}
use Rattle.leveldb_version.specs.Walks.VersionIters.{AreTablesToWalk, OrdersInternalKeys, files_of_walks}
use Rattle.leveldb_version.specs.declared.table_cache.moves.ReadTables.{ReadTables}
use Rattle.leveldb_version.specs.declared.version_iter.VersionIter.{VersionIter}

-- what holds of elements and what a function makes of them
from_each : {A B : Type 0} (R : A → B → Type 0) (f : A → B) (xs : List A) → Each R xs (map f xs) → (x : A) → Contains xs x → R x (f x)
from_each R f [] e x c = absurd (in_none x c)
from_each {A} R f (y ∷ xs) e x c = ⊎_elim
    (λ (same : y ≡ x). subst (λ (z : A). R z (f z)) same e.0)
    (λ (rest : Contains xs x). from_each R f xs e.1 x rest) (in_cases y x xs c)

to_each : {A B : Type 0} (R : A → B → Type 0) (f : A → B) (xs : List A) → ((x : A) → Contains xs x → R x (f x)) → Each R xs (map f xs)
to_each R f [] h = tt
to_each R f (x ∷ xs) h = (h x (in_front x xs), to_each R f xs (λ y c. h y (in_rest x y xs c)))

module _ {E C FP K F : Type 0} {order : CmpGhosts (InternalKeyCmp C)} (env : EnvGhosts E F) (cmp : CmpGhosts C) (filters : FilterGhosts FP) (codings : K → Codings)
    (version : VersionValue C) (world : E × ReadTables E C FP K F) (exact : IsExactOrder (cmp.cmp world.1.cmp)) (orders : OrdersInternalKeys order (cmp.cmp world.1.cmp) world.1.cmp)
    (meaning : Meaning) (tables : List LiveTable) (are : AreTablesToWalk order env cmp filters codings version meaning world tables) where
  abbrev ucmp : List ℕ → List ℕ → Ordering
  ucmp = cmp.cmp world.1.cmp

  abbrev store : List ℕ
  store = store_of world.1.cache.now

  abbrev disk : Files
  disk = files_at env world.0

  pub in_order : AreInVersionOrder ucmp (new_files_of version)
  in_order = subst (λ (o : List ℕ → List ℕ → Ordering). AreInVersionOrder o (new_files_of version)) are.order_is are.in_order

  -- a file's table is this one, with the entries of its live table
  pub record IsTableFor (file : ℕ × FileMetaData) (table : FileTable) : Type 0 where
    pub live : LiveTable
    pub is_live : Contains tables live
    pub file_is : live.file ≡ new_file_of file
    pub run : IsRun ucmp (new_file_of file) table
    pub at : ((new_file_of file).number < 2 ^ 64) × ((new_file_of file).largest ≡ table.largest) × IsTableAt ucmp meaning disk (table_path store (new_file_of file).number) table × ((new_file_of file).number < world.1.below)
    pub entries : entries_of_pairs (table_pairs table) ≡ live.entries
    pub internal : Each IsInternalPair (table_pairs table) live.entries

  table_for : (file : ℕ × FileMetaData) → Contains version.files file → (table : FileTable) × IsTableFor file table
  table_for file c =
      let live = table_of exact meaning store disk tables are.each (new_files_of version) are.files_are (new_file_of file) (map_in new_file_of version.files file c) in
      let has = there exact meaning store disk tables are.each live.0 live.1 in
      let fits = All-contains (λ (table : LiveTable). (table.file.level < 7) × (table.file.number < 2 ^ 64) × (table.file.size < 2 ^ 64) × (table.file.number < world.1.below)) tables live.0 are.fit live.1 in
      let total = exact_total exact in
      let table = file_table total (internal_total total) meaning store disk live.0 has in (
        table,
        record {
          live = live.0;
          is_live = live.1;
          file_is = live.2;
          run = subst (λ f. IsRun ucmp f table) live.2 (is_run total (internal_total total) meaning store disk live.0 has);
          at = (
            subst (λ (f : NewFile). f.number < 2 ^ 64) live.2 fits.1,
            sym (ap (λ (f : NewFile). f.largest) live.2),
            subst (λ (f : NewFile). IsTableAt ucmp meaning disk (table_path store f.number) table) live.2 (is_table_at total (internal_total total) meaning store disk live.0 has fits.2),
            subst (λ (f : NewFile). f.number < world.1.below) live.2 fits.3,
          );
          entries = same_entries total (internal_total total) meaning store disk live.0 has;
          internal = same_internal total (internal_total total) meaning store disk live.0 has;
        },
      )

  -- a walk's files are tables with these pairs, one after the other
  pub record HasPairs (part : List (ℕ × FileMetaData)) (pairs : List Pair) : Type 0 where
    pub tables_made : List FileTable
    pub each : Each IsTableFor part tables_made
    pub turns : AreInTurn ucmp (map new_file_of part)
    pub is : pairs ≡ pairs_in (table_parts tables_made)

  pub walk_pairs : (part : List (ℕ × FileMetaData)) → Contains (files_of_walks version.files) part → (pairs : List Pair) × HasPairs part pairs
  walk_pairs part c =
      let tables_made = choose IsTableFor part (λ file d. table_for file (walk_within version.files part c file d)) in (
        pairs_in (table_parts tables_made.0),
        record {
          tables_made = tables_made.0;
          each = tables_made.1;
          turns = walk_turns version.files ucmp (keys_apart exact meaning store disk tables are.each (new_files_of version) are.files_are are.once in_order are.levels) part c;
          is = refl;
        },
      )

  module _ (part : List (ℕ × FileMetaData)) (pairs : List Pair) (has : HasPairs part pairs) where
    runs : Each (IsRun ucmp) (map new_file_of part) has.tables_made
    runs = each_of_map (IsRun ucmp) new_file_of part has.tables_made (each_more_of IsTableFor (λ f t. IsRun ucmp (new_file_of f) t) part has.tables_made (λ f t is. is.run) has.each)

    indexed : (it : VersionIter C) → it.core ≡ None → IsIndexedFor order (order.cmp (record { 0 = world.1.cmp })) (table_in has.tables_made it.at).parts it.core
    indexed it none = subst (IsIndexedFor order (order.cmp (record { 0 = world.1.cmp })) (table_in has.tables_made it.at).parts) (sym none) tt

    -- a walk over the files that has not begun is over the pairs
    pub walk_over : (it : VersionIter C) → it.files.now ≡ part → it.core ≡ None → IsOverTables order env cmp filters codings world it (key_order order (record { 0 = world.1.cmp })) pairs
    walk_over it files none =
        let total = exact_total exact in
        let accepted = turns_accepted ucmp (order.accepts (record { 0 = world.1.cmp })) orders.accepts (map new_file_of part) has.tables_made runs in
        record {
          meaning = meaning;
          tables = has.tables_made;
          there = record {
            matched = are.matched;
            agrees = are.agrees;
            each = subst (λ fs. Each (λ file table. ((new_file_of file).number < 2 ^ 64) × ((new_file_of file).largest ≡ table.largest)
                × IsTableAt ucmp meaning disk (table_path store (new_file_of file).number) table × ((new_file_of file).number < world.1.below)) fs has.tables_made) (sym files)
                (each_more_of IsTableFor (λ file table. ((new_file_of file).number < 2 ^ 64) × ((new_file_of file).largest ≡ table.largest)
                × IsTableAt ucmp meaning disk (table_path store (new_file_of file).number) table × ((new_file_of file).number < world.1.below)) part has.tables_made (λ f t is. is.at) has.each);
            indexed = indexed it none;
          };
          keys_are = refl;
          pairs_are = has.is;
          sorted = record {
            rising = subst (λ (o : List ℕ → List ℕ → Ordering). AreRising o pairs) (sym orders.cmp_is)
                (subst (AreRising (internal_cmp ucmp)) (sym has.is) (turns_rise total (internal_total total) (map new_file_of part) has.tables_made runs has.turns));
            accepted = all_from_contains (λ (pair : Pair). order.accepts (record { 0 = world.1.cmp }) pair.0 ≡ true) pairs
                (λ pair c. of_all (λ (p : Pair). order.accepts (record { 0 = world.1.cmp }) p.0 ≡ true) (pairs_in (table_parts has.tables_made)) accepted.pairs pair (subst (λ ps. Contains ps pair) has.is c));
          };
          parted = subst (λ (o : List ℕ → List ℕ → Ordering). AreParted o (table_parts has.tables_made)) (sym orders.cmp_is)
              (turns_parted total (internal_total total) (map new_file_of part) has.tables_made runs has.turns);
          accepted = accepted;
        }

    -- each pair is that of its entry
    pub pairs_internal : Each IsInternalPair pairs (entries_of_pairs pairs)
    pairs_internal = to_each IsInternalPair entry_of_pair pairs (λ pair c.
        let block = in_flat (λ (p : Part). p.pairs) (table_parts has.tables_made) pair (subst (λ ps. Contains ps pair) has.is c) in
        let table = in_map table_part has.tables_made block.0 block.1 in
        let file = each_second IsTableFor part has.tables_made table.0 has.each table.1 in
        from_each IsInternalPair entry_of_pair (table_pairs table.0) (subst (Each IsInternalPair (table_pairs table.0)) (sym file.2.entries) file.2.internal) pair
        (subst (λ (p : Part). Contains p.pairs pair) (sym table.2) block.2))

    -- an entry of the pairs is one of a file's live table
    pub entry_from : (entry : Entry) → Contains (entries_of_pairs pairs) entry
        → (file : ℕ × FileMetaData) × (live : LiveTable) × Contains part file × Contains tables live × (live.file ≡ new_file_of file) × Contains live.entries entry
    entry_from entry c =
        let pair = in_map entry_of_pair pairs entry c in
        let block = in_flat (λ (p : Part). p.pairs) (table_parts has.tables_made) pair.0 (subst (λ ps. Contains ps pair.0) has.is pair.1) in
        let table = in_map table_part has.tables_made block.0 block.1 in
        let file = each_second IsTableFor part has.tables_made table.0 has.each table.1 in
        let there = subst (λ (p : Part). Contains p.pairs pair.0) (sym table.2) block.2 in (
          file.0,
          file.2.live,
          file.1,
          file.2.is_live,
          file.2.file_is,
          subst (λ es. Contains es entry) file.2.entries (subst (Contains (entries_of_pairs (table_pairs table.0))) pair.2 (map_in entry_of_pair (table_pairs table.0) pair.0 there)),
        )

    -- and the other way round
    pub entry_to : (file : ℕ × FileMetaData) → Contains part file → (live : LiveTable) → Contains tables live → live.file ≡ new_file_of file
        → (entry : Entry) → Contains live.entries entry → Contains (entries_of_pairs pairs) entry
    entry_to file c live d is entry e =
        let table = each_first IsTableFor part has.tables_made file has.each c in
        let one = one_number exact meaning store disk live table.2.live (there exact meaning store disk tables are.each live d) (there exact meaning store disk tables are.each table.2.live table.2.is_live)
        (ap (λ (f : NewFile). f.number) (is ∙ sym table.2.file_is)) in
        let pair = in_map entry_of_pair (table_pairs table.0) entry (subst (λ es. Contains es entry) (one ∙ sym table.2.entries) e) in
        subst (Contains (entries_of_pairs pairs)) pair.2 (map_in entry_of_pair pairs pair.0 (subst (λ ps. Contains ps pair.0) (sym has.is)
        (flat_in (λ (p : Part). p.pairs) (table_parts has.tables_made) (table_part table.0) pair.0 (map_in table_part has.tables_made table.0 table.1) pair.1)))
