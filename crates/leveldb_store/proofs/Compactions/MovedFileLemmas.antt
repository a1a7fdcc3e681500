-- The one file that a compaction moves to the next level: it fits there, and of a store that is
-- written it is a table of all its entries.
use Rattle.std.specs.Prelude.{Contains, IsPermutation}
use Rattle.std.proofs.Common.{◌≡◌, ◌≢◌, ◌<◌, ◌+◌, ◌*◌, ◌∙◌, inl, inr, ⊎_elim, ℕ, Bool, true, false, ◌==◌, List, [], ◌∷◌, Some, Ok, cond, is_lt, map, slice_get, refl, sym, ap, subst, arith}
use Rattle.std.proofs.lemmas.List.Sorted.{IsPermutation-sym}
use Rattle.std.specs.declared.cmp.Ordering.{Ordering}
use Rattle.std.specs.declared.cmp.Ordering.TheVariants.{Less}
use Rattle.leveldb_base.proofs.HistoryLemmas.{in_cases, in_front, in_none}
use Rattle.leveldb_base.proofs.OrderLemmas.{exact_total, lt_itself}
use Rattle.leveldb_base.specs.Cmp.{IsExactOrder}
use Rattle.leveldb_base.specs.KeyTypes.{user_part}
use Rattle.leveldb_base.specs.declared.cmp.Cmp.{Ghosts as CmpGhosts}
use Rattle.leveldb_base.specs.declared.cmp.internal.InternalKeyCmp.{InternalKeyCmp}
use Rattle.leveldb_base.specs.declared.types.FileMetaData.{FileMetaData}
use Rattle.leveldb_env.specs.declared.env.Env.{Ghosts as EnvGhosts}
use Rattle.leveldb_env.specs.declared.filter.FilterPolicy.{Ghosts as FilterGhosts}
use Rattle.leveldb_version_set.proofs.Compactions.CompactionEditLemmas.{moves_compact}
use Rattle.leveldb_files.proofs.Histories.SafeLemmas.{some_is}
use Rattle.leveldb_version.proofs.Versions.SearchLemmas.{all_from_contains}
use Rattle.leveldb_version_set.specs.Compactions.Compaction.{IsWithinInputs, MayCompact, MayMove, MergesOrMoves, files_of_tables, moved}
use Rattle.leveldb_version.specs.Versions.DeeperLevels.{closed_range}
use Rattle.leveldb_version_set.specs.Compactions.CompactionEdit.{HasMadeOutputs}
use Rattle.leveldb_files.specs.Stores.Format.{IsTableOf, Meaning}
use Rattle.leveldb_files.specs.Levels.Levels.{LiveTable}
use Rattle.leveldb_version_set.specs.Engines.Opening.{FitsEdit}
use Rattle.leveldb_files.specs.Stores.Paths.{table_path}
use Rattle.leveldb_version_set.specs.Compactions.Picking.{CompactionValue}
use Rattle.leveldb_files.specs.Steps.StoreSteps.{IsKept}
use Rattle.leveldb_version.specs.Tables.TableCache.{TableOptions, files_at}
use Rattle.leveldb_version.specs.Versions.Version.{VersionValue, at_level, new_files_of}
use Rattle.leveldb_files.specs.Edits.Edit.{NewFile}
use Rattle.leveldb_version.specs.Edits.VersionEdit.{new_file_of}
use Rattle.leveldb_files.specs.Edits.VersionSet.{live_after}
use Rattle.leveldb_version.specs.declared.table_cache.TableCache.{TableCache}
use Rattle.leveldb_store.specs.Tables.BuildTable.{TableChoices}
use Rattle.leveldb_store.specs.Compactions.Compact.{AreReplacements, HasTablesWritten, IsMovedAlone, IsOfStore, MakesReplacements, of_level}
use Rattle.leveldb_store.specs.Keeping.OpenStore.{AreNumbersGiven, OpenStoreValue}
use Rattle.leveldb_store.proofs.Keeping.LevelForLemmas.{size_alike}
use Rattle.leveldb_store.proofs.Compactions.MergedInputsLemmas.{input_files, input_fits, input_given, inputs, inputs_live, inputs_may, live_has}
use Rattle.leveldb_store.proofs.Tables.OutputsLemmas.{new-none}
use Rattle.leveldb_store.proofs.Logs.ReplayFilesLemmas.{GivesNumbers-refl}

-- the one table of one file
one_table_of : (tables : List LiveTable) (file : NewFile) → files_of_tables tables ≡ file ∷ []
    → (table : LiveTable) × (tables ≡ table ∷ []) × (table.file ≡ file)
one_table_of [] file is = absurd (let never : [] ≡ file ∷ [] = is in cc)
one_table_of (table ∷ []) file is = (table, refl, let same : table.file ∷ [] ≡ file ∷ [] = is in cc)
one_table_of (table ∷ next ∷ tables) file is = absurd cc

module _ {E F C FP P : Type 0} {keys : CmpGhosts (InternalKeyCmp C)}
    {key_filters : FilterGhosts P} (env : EnvGhosts E F) (choices : TableChoices keys key_filters)
    (policy : FP) (exact : IsExactOrder choices.format.order) {value : OpenStoreValue C}
    {it : CompactionValue C} (of : IsOfStore env.models_disk choices.format.order value it)
    (smallest : ℕ) {X : Type 0} (items : X → List FileMetaData) (from : E)
    (tables : TableCache E C FP F) (file : FileMetaData)
    (is : IsMovedAlone choices.format.order it file) where
  abbrev by : TableOptions C FP
  by = record { format = choices.format; cmp = choices.cmp.0; policy = policy }

  abbrev order : List ℕ → List ℕ → Ordering
  order = choices.format.order

  abbrev input : NewFile
  input = new_file_of (it.level, file)

  abbrev output : NewFile
  output = new_file_of (it.level + 1, file)

  input_there : Contains (new_files_of it.inputs) input
  input_there = subst (λ fs. Contains fs input) (sym is.alone) (in_front input [])

  only : (other : NewFile) → Contains (output ∷ []) other → output ≡ other
  only other there = ⊎_elim (λ (same : output ≡ other). same)
      (λ (none : Contains [] other). absurd (in_none other none)) (in_cases output other [] there)

  not_itself : (key : List ℕ) → order key key ≢ Less
  not_itself key less =
      let never : true ≡ false = sym (ap is_lt less) ∙ lt_itself (exact_total exact) key in cc

  moved_fits : AreReplacements order it (output ∷ [])
  moved_fits = record {
    within = λ other there. subst (λ (f : NewFile). (f.level ≡ it.level + 1)
        × IsWithinInputs order (new_files_of it.inputs) f) (only other there) (
          refl,
          record {
            ordered = is.ordered;
            from = (input, input_there, not_itself (user_part file.smallest));
            to = (input, input_there, not_itself (user_part file.largest));
          },
        );
    apart = λ a b a_there b_there. inl (sym (only a a_there) ∙ only b b_there);
    fit = all_from_contains FitsEdit (output ∷ []) (λ other there.
        let fits = input_fits of input input_there in
        let its : FitsEdit output = record {
          number = fits.0;
          size = fits.1;
          smallest = is.smallest;
          largest = is.largest;
        } in
        subst FitsEdit (only other there) its);
  }

  moved_given : AreNumbersGiven value.set (output ∷ [])
  moved_given = all_from_contains (λ (f : NewFile). f.number < value.set.next_file) (output ∷ [])
      (λ other there. subst (λ (f : NewFile). f.number < value.set.next_file) (only other there)
      (input_given of input input_there))

  -- ---- of a store that is written

  module _ (meaning : Meaning) (live : List LiveTable)
      (w : HasTablesWritten keys env by value from tables meaning live) where
    abbrev those : List LiveTable
    those = inputs exact of meaning w.written w.has_live

    one : (table : LiveTable) × (those ≡ table ∷ []) × (table.file ≡ input)
    one = one_table_of those input
        (input_files exact of meaning w.written w.has_live ∙ is.alone)

    abbrev table : LiveTable
    table = one.0

    table_live : Contains live table
    table_live = inputs_live exact of meaning w.written w.has_live table
        (subst (λ ts. Contains ts table) (sym one.1) (in_front table []))

    kept : IsKept (files_at env from (table_path value.set.store table.file.number))
    kept =
        let live_table = (live_has exact of meaning w.written w.has_live).each table table_live in
        w.written.by.writable.tables table.file live_table.2 live_table.1

    made : HasMadeOutputs value.set.store order (IsTableOf order meaning) (files_at env from)
        smallest it.level live (table ∷ []) (moved table ∷ [])
    made = moves_compact value.set.store order (IsTableOf order meaning) (files_at env from)
        (live_after w.written.edits) smallest it.level live table
        (live_has exact of meaning w.written w.has_live) table_live
        (ap (λ (f : NewFile). f.level) one.2) kept
        (subst (λ ts. MayCompact order (files_of_tables live) it.level (files_of_tables ts)) one.1
        (inputs_may exact of meaning w.written w.has_live))

    same_order : IsPermutation (new_files_of it.version) (files_of_tables live)
    same_order = subst (λ (v : VersionValue C).
        IsPermutation (new_files_of v) (files_of_tables live)) (sym of.version_is)
        (subst (IsPermutation (new_files_of value.current)) (sym w.has_live.files_are)
        (IsPermutation-sym value.set.full.added (new_files_of value.current)
        of.current.same_files))

    may : MayMove order it.max_file_size it.level it.manual (files_of_tables live)
        (files_of_tables (table ∷ []))
    may = record {
      unasked = is.may.unasked;
      file = is.may.file;
      alone = ap files_of_tables (sym one.1)
          ∙ input_files exact of meaning w.written w.has_live ∙ is.may.alone;
      at = is.may.at;
      light = subst (λ size. size < 10 * it.max_file_size)
          (size_alike order (closed_range (user_part is.may.file.smallest)
          (user_part is.may.file.largest)) (new_files_of it.version) (files_of_tables live) same_order
          (it.level + 2)) is.may.light;
    }

    -- the one table is moved
    pub moved_made : (inputs outputs : List LiveTable)
        × (files_of_tables inputs ≡ new_files_of it.inputs)
        × (files_of_tables outputs ≡ output ∷ [])
        × HasMadeOutputs value.set.store order (IsTableOf order meaning) (files_at env from) smallest
        it.level live inputs outputs
        × MergesOrMoves order smallest it.level it.max_file_size it.manual live inputs outputs
    moved_made = (
      table ∷ [],
      moved table ∷ [],
      ap files_of_tables (sym one.1) ∙ input_files exact of meaning w.written w.has_live,
      ap (λ (f : NewFile). record f { level = f.level + 1 } ∷ []) one.2,
      made,
      inr (may, (table, refl, refl)),
    )

  -- the file is moved, and nothing changes yet
  pub replaced_by_move : (done : X) → items done ≡ file ∷ []
      → MakesReplacements keys env by value from tables choices smallest it
      (λ made. of_level (it.level + 1) (items made)) (Ok done) value from tables
  replaced_by_move done are = record {
    gives = GivesNumbers-refl value.set;
    back = λ number was. inl was;
    rest = refl;
    changes = new-none env value.set.store value.set.next_file from;
    fit = subst (λ fs. AreReplacements order it (of_level (it.level + 1) fs)
        × AreNumbersGiven value.set (of_level (it.level + 1) fs)) (sym are)
        (moved_fits, moved_given);
    made = λ meaning live w. subst (λ fs. (inputs outputs : List LiveTable)
        × (files_of_tables inputs ≡ new_files_of it.inputs)
        × (files_of_tables outputs ≡ of_level (it.level + 1) fs)
        × HasMadeOutputs value.set.store order (IsTableOf order meaning) (files_at env from) smallest
        it.level live inputs outputs
        × MergesOrMoves order smallest it.level it.max_file_size it.manual live inputs outputs)
        (sym are) (moved_made meaning live w);
    still_open = λ has. has.are;
    cause = record { later = omega arith; cause = tt };
  }

-- ---- which file is moved alone

-- the first of the level is the one that is taken
pub first_is_alone : {C : Type 0} (cmp : List ℕ → List ℕ → Ordering) (it : CompactionValue C)
    (found : ℕ × FileMetaData)
    → MayMove cmp it.max_file_size it.level it.manual (new_files_of it.version)
    (new_files_of it.inputs)
    → Some found ≡ slice_get (at_level (it.level + 0) it.inputs.files) 0
    → new_files_of it.inputs ≡ new_file_of (it.level, found.1) ∷ []
first_is_alone cmp it found may first = by it.inputs.files may.alone first
  where
    one : (x : ℕ × FileMetaData) (b : Bool) → Some found ≡ slice_get (cond b (x ∷ []) []) 0
        → x ≡ found
    one x true is = sym (some_is found x is)
    one x false is = absurd cc

    by : (files : List (ℕ × FileMetaData)) → map new_file_of files ≡ may.file ∷ []
        → Some found ≡ slice_get (at_level (it.level + 0) files) 0
        → map new_file_of files ≡ new_file_of (it.level, found.1) ∷ []
    by [] alone is = absurd (let never : [] ≡ may.file ∷ [] = alone in cc)
    by (x ∷ []) alone is =
        let same = one x (x.0 == (it.level + 0)) is in
        let its : new_file_of x ≡ may.file = cc in
        let level : x.0 ≡ it.level = ap (λ (f : NewFile). f.level) its ∙ may.at in
        let pair : x ≡ (it.level, found.1) = λ i. (level i, (same i).1) in
        ap (λ (f : ℕ × FileMetaData). new_file_of f ∷ []) pair
    by (x ∷ y ∷ files) alone is = absurd cc
