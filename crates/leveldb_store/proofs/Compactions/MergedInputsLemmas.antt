-- The tables that a compaction of an open store takes, where the store is written: they are some of
-- its live tables, in levels, and a walk may go over them.
use Rattle.std.specs.Prelude.{◌&&◌, All, Contains, IsPermutation}
use Rattle.std.proofs.Common.{◌≡◌, ◌↔◌, ◌<◌, ◌^◌, ◌==◌, ◌∙◌, ℕ, Bool, true, false, List, map, refl, sym, ap, subst, arith}
use Rattle.std.proofs.lemmas.Bool.{eq-eqb, eqb-true}
use Rattle.std.proofs.lemmas.List.Elements.{All-contains}
use Rattle.std.proofs.lemmas.List.Sorted.{Contains-permutation, IsPermutation-map, IsPermutation-refl, IsPermutation-sym}
use Rattle.std.proofs.lemmas.Map.Keys.{IsDistinct-IsPermutation}
use Rattle.std.specs.declared.cmp.Ordering.{Ordering}
use Rattle.leveldb_base.proofs.EntriesLemmas.{map_in}
use Rattle.leveldb_base.proofs.OrderLemmas.{exact_total}
use Rattle.leveldb_base.specs.Cmp.{IsExactOrder}
use Rattle.leveldb_base.specs.declared.cmp.Cmp.{Ghosts as CmpGhosts}
use Rattle.leveldb_base.specs.declared.cmp.internal.InternalKeyCmp.{InternalKeyCmp}
use Rattle.leveldb_base.specs.Types.{Pair}
use Rattle.leveldb_env.specs.Compressor.{Codings}
use Rattle.leveldb_env.specs.Env.{Files}
use Rattle.leveldb_env.specs.declared.env.Env.{Ghosts as EnvGhosts}
use Rattle.leveldb_env.specs.declared.filter.FilterPolicy.{Ghosts as FilterGhosts}
use Rattle.leveldb_version_set.proofs.Compactions.ChoosingLemmas.{choices_go_by_sets}
use Rattle.leveldb_version_set.proofs.Compactions.CompactionEditLemmas.{live_known, live_order}
use Rattle.leveldb_version_set.proofs.Compactions.CompactionOutputsLemmas.{fewer_tables_fit, inputs_are_tables}
use Rattle.leveldb_version.proofs.Versions.DisjointLemmas.{fewer_disjoint}
use Rattle.leveldb_version.proofs.Versions.SearchLemmas.{all_from_contains}
use Rattle.leveldb_version_set.specs.Compactions.Compaction.{AreBounded, AreKnownByNumber, AreOnce, MayCompact, files_of_tables}
use Rattle.leveldb_version_set.specs.Sets.CurrentVersion.{IsCurrent}
use Rattle.leveldb_files.specs.Stores.Format.{Agrees, IsTableOf, Meaning}
use Rattle.leveldb_files.specs.Levels.Levels.{LevelOrder, LiveTable}
use Rattle.leveldb_version_set.specs.Compactions.Picking.{CompactionValue, IsCompactionOf}
use Rattle.leveldb_version.specs.Versions.Search.{AreDisjointLevels}
use Rattle.leveldb_files.specs.Stores.Store.{HasTable, HasTables}
use Rattle.leveldb_version.specs.Tables.TableCache.{files_at}
use Rattle.leveldb_version.specs.Versions.Version.{AreInVersionOrder, new_files_of}
use Rattle.leveldb_files.specs.Edits.Edit.{LevelFile, NewFile}
use Rattle.leveldb_version.specs.Walks.VersionIters.{AreTablesToWalk}
use Rattle.leveldb_files.specs.Edits.VersionSet.{is_same_file, level_file, live_after}
use Rattle.leveldb_version.specs.declared.table_cache.moves.ReadTables.{ReadTables}
use Rattle.leveldb_store.specs.Compactions.Compact.{IsOfStore}
use Rattle.leveldb_store.specs.Keeping.OpenStore.{AreInLevels, AreNumbersGiven, OpenStoreValue}
use Rattle.leveldb_store.specs.Reading.View.{IsWorldOf, options_in}
use Rattle.leveldb_store.specs.Keeping.Written.{HasLiveTables, IsWritten, memory_of}
use Rattle.leveldb_store.proofs.Keeping.TableKeepsLemmas.{in_range_of, live_tables, one_reading_of}

-- ---- a compaction of a store

same_bool : (s t : Bool) → (s ≡ true → t ≡ true) → (t ≡ true → s ≡ true) → s ≡ t
same_bool true t to back = sym (to refl)
same_bool false true to back = back refl
same_bool false false to back = refl

equal_back : (m n : ℕ) → (m == n) ≡ (n == m)
equal_back m n = same_bool (m == n) (n == m) (λ e. eq-eqb n m (sym (eqb-true m n e)))
    (λ e. eq-eqb m n (sym (eqb-true n m e)))

-- two files that are of one level and number are so the other way round
turned : (a b : LevelFile) → is_same_file a b ≡ is_same_file b a
turned a b = ap (λ same. same && (a.1 == b.1)) (equal_back a.0 b.0)
    ∙ ap (λ same. (b.0 == a.0) && same) (equal_back a.1 b.1)

-- each file is there once, also in another order
pub once_permuted : (these those : List NewFile) → IsPermutation these those → AreOnce these
    → AreOnce those
once_permuted these those same once =
    IsDistinct-IsPermutation is_same_file turned (map level_file these) (map level_file those)
    (IsPermutation-map level_file these those same) once

-- a compaction of the store's version, in an order that is the store's
pub of_store : {C : Type 0} {models_disk : Bool} (order : CmpGhosts C) {value : OpenStoreValue C}
    {it : CompactionValue C} {own : C} {manual : Bool} {file_size : ℕ}
    → order.cmp own ≡ order.cmp value.cmp
    → IsCurrent (order.cmp value.cmp) value.cmp value.set value.current
    → AreNumbersGiven value.set value.set.full.added
    → AreInLevels models_disk (order.cmp value.cmp) value.set.full.added
    → IsCompactionOf (order.cmp value.cmp) value.current manual file_size it
    → IsOfStore models_disk (order.cmp own) value it
of_store {models_disk = models_disk} order {value} {it} same current given levels chosen =
    subst (λ o. IsOfStore models_disk o value it) (sym same) (record {
      current = current;
      given = given;
      levels = levels;
      version_is = chosen.version_is;
      may = chosen.may;
    })

-- its own copy of the version is in that order
pub version_order : {C : Type 0} {models_disk : Bool} (order : CmpGhosts C)
    {value : OpenStoreValue C} {it : CompactionValue C} {own : C}
    → order.cmp own ≡ order.cmp value.cmp → IsOfStore models_disk (order.cmp own) value it
    → order.cmp it.version.cmp ≡ order.cmp own
version_order order same of =
    ap order.cmp (ap (λ v. v.cmp) of.version_is ∙ of.current.cmp_is) ∙ sym same

module _ {C : Type 0} {models_disk : Bool} {order : List ℕ → List ℕ → Ordering}
    {value : OpenStoreValue C} {it : CompactionValue C}
    (of : IsOfStore models_disk order value it) where
  -- a live file is one of the version, and the other way round
  pub live_current : (file : NewFile) → Contains value.set.full.added file
      → Contains (new_files_of value.current) file
  live_current file there = Contains-permutation value.set.full.added
      (new_files_of value.current) file of.current.same_files there

  pub current_live : (file : NewFile) → Contains (new_files_of value.current) file
      → Contains value.set.full.added file
  current_live file there = Contains-permutation (new_files_of value.current)
      value.set.full.added file
      (IsPermutation-sym value.set.full.added (new_files_of value.current) of.current.same_files)
      there

  -- each that is taken has a number that was given, and numbers that fit
  pub input_given : (file : NewFile) → Contains (new_files_of it.inputs) file
      → file.number < value.set.next_file
  input_given file there =
      All-contains (λ (f : NewFile). f.number < value.set.next_file) value.set.full.added file
      of.given (current_live file (of.may.there file there))

  pub input_fits : (file : NewFile) → Contains (new_files_of it.inputs) file
      → (file.number < 2 ^ 64) × (file.size < 2 ^ 64)
  input_fits file there =
      All-contains (λ (f : NewFile). (f.number < 2 ^ 64) × (f.size < 2 ^ 64))
      (new_files_of value.current) file of.current.fit (of.may.there file there)

  -- the files of the version are apart
  pub version_apart : AreDisjointLevels order (new_files_of it.version)
  version_apart = fewer_disjoint order value.set.full.added (new_files_of it.version)
      (λ file there. current_live file
      (subst (λ v. Contains (new_files_of v) file) of.version_is there)) of.levels.apart

  -- each is there once
  pub inputs_once : AreOnce (new_files_of it.inputs)
  inputs_once = of.may.once (once_permuted value.set.full.added (new_files_of value.current)
      of.current.same_files of.levels.once)

-- ---- of a store that is written

module _ {C : Type 0} {models_disk : Bool} {order : List ℕ → List ℕ → Ordering}
    (exact : IsExactOrder order) {value : OpenStoreValue C} {it : CompactionValue C}
    (of : IsOfStore models_disk order value it) (meaning : Meaning) {files : Files}
    (written : IsWritten order meaning value files) {live : List LiveTable}
    (has : HasLiveTables order meaning value files live) where
  abbrev T : List ℕ → List Pair → Type 0
  T = IsTableOf order meaning

  pub live_has : HasTables value.set.store order T files (live_after written.edits) live
  live_has = live_tables order meaning value.set.store files written.edits (memory_of value)
      written.by live has.files_are has.each

  -- live tables are in levels, in the ranges of their files, and known by their numbers
  pub live_ordered : LevelOrder order live
  live_ordered =
      let managed = written.by.tracked.managed in
      live_order value.set.store order T (one_reading_of order meaning) files
      (live_after written.edits) managed.tables live managed.has_tables live_has
      managed.fit.levels

  pub live_bounded : AreBounded order live
  live_bounded table there = in_range_of order meaning (exact_total exact) value.set.store files
      table (live_has.each table there).0

  pub live_by_number : AreKnownByNumber live
  live_by_number = live_known value.set.store order T (one_reading_of order meaning) files
      (live_after written.edits) live live_has

  -- their files are those of the version
  pub same_files : (file : NewFile) → Contains (new_files_of value.current) file
      ↔ Contains (files_of_tables live) file
  same_files file = (
    λ c. subst (λ fs. Contains fs file) (sym has.files_are) (current_live of file c),
    λ c. live_current of file (subst (λ fs. Contains fs file) has.files_are c),
  )

  -- those of which the files are taken
  pub inputs : List LiveTable
  inputs = (inputs_are_tables live (new_files_of it.inputs)
      (λ file there. (same_files file).0 (of.may.there file there))).0

  pub input_files : files_of_tables inputs ≡ new_files_of it.inputs
  unfolding inputs
  input_files = (inputs_are_tables live (new_files_of it.inputs)
      (λ file there. (same_files file).0 (of.may.there file there))).1

  pub inputs_live : (table : LiveTable) → Contains inputs table → Contains live table
  unfolding inputs
  inputs_live = (inputs_are_tables live (new_files_of it.inputs)
      (λ file there. (same_files file).0 (of.may.there file there))).2

  pub inputs_may : MayCompact order (files_of_tables live) it.level (files_of_tables inputs)
  inputs_may = choices_go_by_sets order it.level (new_files_of value.current)
      (files_of_tables live) (new_files_of it.inputs) (files_of_tables inputs) same_files
      (λ file. (
        λ c. subst (λ fs. Contains fs file) (sym input_files) c,
        λ c. subst (λ fs. Contains fs file) input_files c,
      ))
      (λ once. subst AreOnce (sym input_files) (inputs_once of)) of.may

  pub inputs_fit : LevelOrder order inputs × AreBounded order inputs
  inputs_fit = fewer_tables_fit order live inputs inputs_live live_ordered live_bounded

-- ---- a walk over them

module _ {E F C FP K : Type 0} {keys : CmpGhosts (InternalKeyCmp C)} (env : EnvGhosts E F)
    (cmp : CmpGhosts C) (filters : FilterGhosts FP) (codings : K → Codings)
    {order : List ℕ → List ℕ → Ordering} (exact : IsExactOrder order)
    {value : OpenStoreValue C} {it : CompactionValue C} (same : order ≡ cmp.cmp value.cmp)
    (of : IsOfStore env.models_disk order value it) (inputs_cmp : it.inputs.cmp ≡ it.version.cmp)
    (in_order : AreInVersionOrder (cmp.cmp it.inputs.cmp) (new_files_of it.inputs))
    (world : E × ReadTables E C FP K F)
    (is : IsWorldOf keys env cmp filters codings value world) (meaning : Meaning)
    (agrees : Agrees (options_in env cmp filters codings world).format meaning)
    (written : IsWritten order meaning value (files_at env world.0)) {live : List LiveTable}
    (has : HasLiveTables order meaning value (files_at env world.0) live) where
  world_order : order ≡ cmp.cmp world.1.cmp
  world_order = same ∙ sym is.order_is

  abbrev those : List LiveTable
  those = inputs exact of meaning written has

  abbrev Fits : LiveTable → Type 0
  Fits table = (table.file.level < 7) × (table.file.number < 2 ^ 64)
      × (table.file.size < 2 ^ 64) × (table.file.number < world.1.below)

  those_fit : (table : LiveTable) → Contains those table → Fits table
  those_fit table there =
      let file = subst (λ fs. Contains fs table.file) (input_files exact of meaning written has)
      (map_in (λ (t : LiveTable). t.file) those table there) in
      let fits = input_fits of table.file file in
      let given = input_given of table.file file in
      let below = is.below_is in (
        All-contains (λ (f : NewFile). f.level < 7) value.set.full.added table.file
            (of.levels.seven is.has_open.modelled)
            (current_live of table.file (of.may.there table.file file)),
        fits.0,
        fits.1,
        omega (arith, below, given),
      )

  pub inputs_to_walk : AreTablesToWalk keys env cmp filters codings it.inputs meaning world those
  inputs_to_walk = record {
    matched = record { modelled = is.has_open.modelled; matches = is.has_open.are.matches };
    agrees = agrees;
    order_is = ap cmp.cmp (inputs_cmp ∙ ap (λ v. v.cmp) of.version_is ∙ of.current.cmp_is)
        ∙ sym is.order_is;
    files_are = subst (IsPermutation (files_of_tables those))
        (input_files exact of meaning written has) (IsPermutation-refl (files_of_tables those));
    once = subst AreOnce (sym (input_files exact of meaning written has)) (inputs_once of);
    in_order = in_order;
    each = subst (λ store. All (HasTable store (cmp.cmp world.1.cmp)
        (IsTableOf (cmp.cmp world.1.cmp) meaning) (files_at env world.0)) those)
        (sym is.has_open.are.path)
        (subst (λ o. All (HasTable value.set.store o (IsTableOf o meaning)
        (files_at env world.0)) those) world_order
        (all_from_contains (HasTable value.set.store order (IsTableOf order meaning)
        (files_at env world.0)) those
        (λ table there. ((live_has exact of meaning written has).each table
        (inputs_live exact of meaning written has table there)).0)));
    fit = all_from_contains Fits those those_fit;
    levels = subst (λ o. LevelOrder o those) world_order
        (inputs_fit exact of meaning written has).0;
  }
