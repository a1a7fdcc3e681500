-- The live tables of an open store as the walks over its version read them.
use Rattle.std.specs.Prelude.{All, Contains, IsPermutation}
use Rattle.std.proofs.Common.{◌≡◌, ◌<◌, ◌^◌, ℕ, List, None, map, sym, ◌∙◌, ap, subst, arith}
use Rattle.std.proofs.lemmas.List.Elements.{All-contains}
use Rattle.std.proofs.lemmas.List.Sorted.{Contains-permutation}
use Rattle.std.specs.List.{IsDistinct}
use Rattle.std.specs.declared.cmp.Ordering.{Ordering}
use Rattle.leveldb_base.proofs.EntriesLemmas.{map_in}
use Rattle.leveldb_base.specs.Cmp.{IsExactOrder}
use Rattle.leveldb_base.specs.declared.cmp.Cmp.{Ghosts as CmpGhosts}
use Rattle.leveldb_base.specs.declared.cmp.internal.InternalKeyCmp.{InternalKeyCmp}
use Rattle.leveldb_base.specs.declared.types.FileMetaData.{FileMetaData}
use Rattle.leveldb_env.specs.Compressor.{Codings}
use Rattle.leveldb_env.specs.declared.env.Env.{Ghosts as EnvGhosts}
use Rattle.leveldb_env.specs.declared.filter.FilterPolicy.{Ghosts as FilterGhosts}
use Rattle.leveldb_version.proofs.Versions.PairwiseLemmas.{each_more_of}
use Rattle.leveldb_version.proofs.Versions.SearchLemmas.{all_from_contains}
use Rattle.leveldb_version.proofs.Walks.WalkTablesLemmas.{IsTableFor, walk_pairs}
use Rattle.leveldb_files.specs.Stores.Format.{Agrees, IsTableOf, Meaning}
use Rattle.leveldb_files.specs.Levels.Levels.{LevelOrder, LiveTable}
use Rattle.leveldb_files.specs.Stores.Paths.{table_path}
use Rattle.leveldb_files.specs.Stores.Store.{HasTable}
use Rattle.leveldb_version.specs.Tables.TableCache.{files_at, store_of}
use Rattle.leveldb_version.specs.Tables.TableMoves.{FileTable, IsIndexedFor, IsTableAt}
use Rattle.leveldb_version.specs.Versions.Version.{AreInVersionOrder, VersionValue, new_files_of}
use Rattle.leveldb_files.specs.Edits.Edit.{NewFile}
use Rattle.leveldb_version.specs.Edits.VersionEdit.{new_file_of}
use Rattle.leveldb_version.specs.Walks.VersionIter.{AreTablesThere, table_in}
use Rattle.leveldb_version.specs.Walks.VersionIters.{AreTablesToWalk, AreVersionIters, OrdersInternalKeys}
use Rattle.leveldb_files.specs.Edits.VersionSet.{is_same_file, level_file}
use Rattle.leveldb_version.specs.declared.table_cache.moves.ReadTables.{ReadTables}
use Rattle.leveldb_version.specs.declared.version_iter.VersionIter.{VersionIter}
use Rattle.leveldb_version_set.specs.Sets.CurrentVersion.{IsCurrent}
use Rattle.leveldb_store.specs.Keeping.OpenStore.{AreInLevels, AreNumbersGiven, OpenStoreValue}
use Rattle.leveldb_store.specs.Reading.View.{IsWorldOf, options_in}
use Rattle.leveldb_store.specs.Keeping.Written.{HasLiveTables}

-- the tables of a version that are there, as those of one of its walks
module _ {E F C FP K : Type 0} {keys : CmpGhosts (InternalKeyCmp C)} (env : EnvGhosts E F)
    (cmp : CmpGhosts C) (filters : FilterGhosts FP) (codings : K → Codings)
    (version : VersionValue C) (world : E × ReadTables E C FP K F)
    (exact : IsExactOrder (cmp.cmp world.1.cmp))
    (orders : OrdersInternalKeys keys (cmp.cmp world.1.cmp) world.1.cmp)
    (meaning : Meaning) (tables : List LiveTable)
    (are : AreTablesToWalk keys env cmp filters codings version meaning world tables)
    (iters : List (VersionIter C)) (walks : AreVersionIters version iters) where
  pub tables_there : (it : VersionIter C) → Contains iters it → (tables_made : List FileTable)
      × AreTablesThere keys env cmp filters codings meaning world it tables_made
  tables_there it c =
      let part = it.files.now in
      let among = subst (λ (parts : List (List (ℕ × FileMetaData))). Contains parts part) walks.files (map_in (λ (one : VersionIter C). one.files.now) iters it c) in
      let has_pairs = (walk_pairs env cmp filters codings version world exact orders meaning tables are part among).1 in
      let none = All-contains (λ (one : VersionIter C). one.core ≡ None) iters it walks.not_begun c in (
        has_pairs.tables_made,
        record {
          matched = are.matched;
          agrees = are.agrees;
          each = each_more_of (IsTableFor env cmp filters codings version world exact orders meaning tables are)
              (λ file table. ((new_file_of file).number < 2 ^ 64) × ((new_file_of file).largest ≡ table.largest)
              × IsTableAt (cmp.cmp world.1.cmp) meaning (files_at env world.0) (table_path (store_of world.1.cache.now) (new_file_of file).number) table × ((new_file_of file).number < world.1.below))
              part has_pairs.tables_made (λ file table is. is.at) has_pairs.each;
          indexed = subst (IsIndexedFor keys (keys.cmp (record { 0 = world.1.cmp })) (table_in has_pairs.tables_made it.at).parts) (sym none) tt;
        },
      )

module _ {E F C FP K : Type 0} {keys : CmpGhosts (InternalKeyCmp C)} (env : EnvGhosts E F) (cmp : CmpGhosts C) (filters : FilterGhosts FP) (codings : K → Codings)
    (value : OpenStoreValue C) (current : IsCurrent (cmp.cmp value.cmp) value.cmp value.set value.current) (given : AreNumbersGiven value.set value.set.full.added)
    (levels : AreInLevels env.models_disk (cmp.cmp value.cmp) value.set.full.added)
    (world : E × ReadTables E C FP K F) (is_world : IsWorldOf keys env cmp filters codings value world)
    (meaning : Meaning) (agrees : Agrees (options_in env cmp filters codings world).format meaning) (tables : List LiveTable)
    (has : HasLiveTables (cmp.cmp value.cmp) meaning value (files_at env world.0) tables) (ordered : LevelOrder (cmp.cmp value.cmp) tables) where
  abbrev Fits : LiveTable → Type 0
  Fits table = (table.file.level < 7) × (table.file.number < 2 ^ 64) × (table.file.size < 2 ^ 64) × (table.file.number < world.1.below)

  table_fits : (table : LiveTable) → Contains tables table → Fits table
  table_fits table c =
      let live = subst (λ (files : List NewFile). Contains files table.file) has.files_are (map_in (λ (one : LiveTable). one.file) tables table c) in
      let level = All-contains (λ (file : NewFile). file.level < 7) value.set.full.added table.file (levels.seven is_world.has_open.modelled) live in
      let fits = All-contains (λ (file : NewFile). (file.number < 2 ^ 64) × (file.size < 2 ^ 64)) (new_files_of value.current) table.file current.fit
      (Contains-permutation value.set.full.added (new_files_of value.current) table.file current.same_files live) in
      let below = All-contains (λ (file : NewFile). file.number < value.set.next_file) value.set.full.added table.file given live in
      let bound = is_world.below_is in
      (level, fits.0, fits.1, omega (arith, below, bound))

  -- the version's tables are there
  pub tables_to_walk : AreTablesToWalk keys env cmp filters codings value.current meaning world tables
  tables_to_walk = record {
    matched = record { modelled = is_world.has_open.modelled; matches = is_world.has_open.are.matches };
    agrees = agrees;
    order_is = ap cmp.cmp current.cmp_is ∙ sym is_world.order_is;
    files_are = subst (λ (files : List NewFile). IsPermutation files (new_files_of value.current)) (sym has.files_are) current.same_files;
    once = subst (λ (files : List NewFile). IsDistinct is_same_file (map level_file files)) (sym has.files_are) levels.once;
    in_order = subst (λ (c : C). AreInVersionOrder (cmp.cmp c) (new_files_of value.current)) (sym current.cmp_is) current.in_order;
    each = subst (λ (store : List ℕ). All (HasTable store (cmp.cmp world.1.cmp) (IsTableOf (cmp.cmp world.1.cmp) meaning) (files_at env world.0)) tables) (sym is_world.has_open.are.path)
        (subst (λ (order : List ℕ → List ℕ → Ordering). All (HasTable value.set.store order (IsTableOf order meaning) (files_at env world.0)) tables) (sym is_world.order_is) has.each);
    fit = all_from_contains Fits tables table_fits;
    levels = subst (λ (order : List ℕ → List ℕ → Ordering). LevelOrder order tables) (sym is_world.order_is) ordered;
  }

  module _ (exact : IsExactOrder (cmp.cmp world.1.cmp)) (orders : OrdersInternalKeys keys (cmp.cmp world.1.cmp) world.1.cmp)
      (iters : List (VersionIter C)) (walks : AreVersionIters value.current iters) where
    -- each walk's files are tables, by what names and ids mean
    pub there_for : (it : VersionIter C) → Contains iters it → (tables_made : List FileTable) × AreTablesThere keys env cmp filters codings meaning world it tables_made
    there_for = tables_there env cmp filters codings value.current world exact orders meaning tables
        tables_to_walk iters walks
