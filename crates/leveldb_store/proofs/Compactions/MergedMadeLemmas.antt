-- The tables that a merge has made, of a store that is written: they are tables of all entries of
-- its inputs but those that may go.
use Rattle.std.specs.Prelude.{Contains, IfSome, IsTrue}
use Rattle.std.proofs.Common.{◌≡◌, ◌≢◌, ◌↔◌, ◌<◌, ◌^◌, ◌+◌, ◌∙◌, ⊎_elim, ℕ, Bool, List, [], ◌∷◌, ◌++◌, Option, map, refl, sym, ap, subst, arith}
use Rattle.std.proofs.lemmas.List.{map-append}
use Rattle.std.specs.declared.cmp.Ordering.{Ordering}
use Rattle.leveldb_base.proofs.HistoryLemmas.{in_cases, in_front, in_none, in_rest}
use Rattle.leveldb_base.specs.Cmp.{IsExactOrder}
use Rattle.leveldb_base.specs.Entries.{entries_of_pairs, entry_of_pair}
use Rattle.leveldb_base.specs.KeyTypes.{user_part}
use Rattle.leveldb_base.specs.Thinning.{DropsAll, thinned}
use Rattle.leveldb_base.specs.Types.{Pair}
use Rattle.leveldb_base.specs.declared.cmp.Cmp.{Ghosts as CmpGhosts}
use Rattle.leveldb_base.specs.declared.types.FileMetaData.{FileMetaData}
use Rattle.leveldb_env.specs.Compressor.{Decodes}
use Rattle.leveldb_env.specs.Env.{Files}
use Rattle.leveldb_env.specs.declared.env.Env.{Ghosts as EnvGhosts}
use Rattle.leveldb_env.specs.declared.filter.FilterPolicy.{Ghosts as FilterGhosts}
use Rattle.leveldb_table.specs.TableBuilder.{IsMeaningOf}
use Rattle.leveldb_version_set.proofs.Compactions.CompactionOutputsLemmas.{drops_go_by_sets, thinned_tables_drop_all}
use Rattle.leveldb_files.proofs.Stores.OneStoreLemmas.{flat_in}
use Rattle.leveldb_files.proofs.Stores.StoreTablesLemmas.{held_tables_by_more}
use Rattle.leveldb_files.specs.Stores.Batches.{Each}
use Rattle.leveldb_version_set.specs.Compactions.Compaction.{MayCompact, files_of_tables}
use Rattle.leveldb_version.specs.Versions.DeeperLevels.{IsBaseLevelFor, is_base_level_for}
use Rattle.leveldb_version_set.specs.Compactions.CompactionEdit.{HasMadeOutputs}
use Rattle.leveldb_files.specs.Stores.Format.{Agrees, IsTableOf, Meaning}
use Rattle.leveldb_files.specs.Levels.Levels.{AreDisjoint, LiveTable, table_entries}
use Rattle.leveldb_files.specs.Stores.Paths.{table_path}
use Rattle.leveldb_files.specs.Stores.Store.{HasTable, IsStoreTable, SameEntries}
use Rattle.leveldb_files.specs.Steps.StoreSteps.{IsKept}
use Rattle.leveldb_files.specs.Edits.Edit.{NewFile}
use Rattle.leveldb_version.specs.Edits.VersionEdit.{new_file_of}
use Rattle.leveldb_store.specs.Tables.BuildTable.{IsTableBuilt, TableChoices}
use Rattle.leveldb_store.specs.Compactions.Merging.{Merge, MergesInto, all_pairs}
use Rattle.leveldb_store.specs.Tables.Outputs.{AreNextNumbers}
use Rattle.leveldb_store.proofs.Tables.BuildTableLemmas.{file_of_store}
use Rattle.leveldb_store.proofs.Compactions.MergeInputsLemmas.{AreInternal, pair_internal, pairs_internal}
use Rattle.leveldb_store.proofs.Compactions.MergedFilesLemmas.{IsFinished, files_apart, tables_finished, tables_read, tables_rise}
use Rattle.leveldb_store.proofs.Tables.OutputsLemmas.{file_numbers_within}
use Rattle.leveldb_store.proofs.Writing.Level0TableLemmas.{agreed_decode_more}

-- ---- tables of files

-- a file of a level with the entries of pairs
abbrev pub output_of : ℕ → FileMetaData → List Pair → LiveTable
output_of level file pairs =
    record { file = new_file_of (level, file); entries = entries_of_pairs pairs }

-- files of a level with the entries of tables' pairs
abbrev pub outputs_of : ℕ → List FileMetaData → List (List Pair) → List LiveTable
outputs_of level [] tables = []
outputs_of level (file ∷ files) [] = []
outputs_of level (file ∷ files) (pairs ∷ tables) =
    output_of level file pairs ∷ outputs_of level files tables

module _ (level : ℕ) (R : FileMetaData → List Pair → Type 0) where
  -- their files are these
  pub files_of_outputs : (files : List FileMetaData) (tables : List (List Pair))
      → Each R files tables → files_of_tables (outputs_of level files tables)
      ≡ map (λ (file : FileMetaData). new_file_of (level, file)) files
  files_of_outputs [] [] each = refl
  files_of_outputs [] (pairs ∷ tables) each = absurd each
  files_of_outputs (file ∷ files) [] each = absurd each
  files_of_outputs (file ∷ files) (pairs ∷ tables) each =
      ap (λ fs. new_file_of (level, file) ∷ fs) (files_of_outputs files tables each.1)

  -- and their entries those of all pairs
  pub entries_of_outputs : (files : List FileMetaData) (tables : List (List Pair))
      → Each R files tables → table_entries (outputs_of level files tables)
      ≡ entries_of_pairs (all_pairs tables)
  entries_of_outputs [] [] each = refl
  entries_of_outputs [] (pairs ∷ tables) each = absurd each
  entries_of_outputs (file ∷ files) [] each = absurd each
  entries_of_outputs (file ∷ files) (pairs ∷ tables) each =
      ap (λ es. entries_of_pairs pairs ++ es) (entries_of_outputs files tables each.1)
      ∙ sym (map-append entry_of_pair pairs (all_pairs tables))

  -- each is that of a file
  pub record IsOutputOf (files : List FileMetaData) (tables : List (List Pair))
      (table : LiveTable) : Type 0 where
    pub file : FileMetaData
    pub file_there : Contains files file
    pub pairs : List Pair
    pub pairs_there : Contains tables pairs
    pub holds : R file pairs
    pub is : output_of level file pairs ≡ table

  pub output_is : (files : List FileMetaData) (tables : List (List Pair)) → Each R files tables
      → (table : LiveTable) → Contains (outputs_of level files tables) table
      → IsOutputOf files tables table
  output_is [] tables each table there = absurd (in_none table there)
  output_is (file ∷ files) [] each table there = absurd (in_none table there)
  output_is (file ∷ files) (pairs ∷ tables) each table there = ⊎_elim
      (λ (is : output_of level file pairs ≡ table). record {
        file = file;
        file_there = in_front file files;
        pairs = pairs;
        pairs_there = in_front pairs tables;
        holds = each.0;
        is = is;
      })
      (λ later. let rest = output_is files tables each.1 table later in
      record {
        file = rest.file;
        file_there = in_rest file rest.file files rest.file_there;
        pairs = rest.pairs;
        pairs_there = in_rest pairs rest.pairs tables rest.pairs_there;
        holds = rest.holds;
        is = rest.is;
      })
      (in_cases (output_of level file pairs) table (outputs_of level files tables) there)

  -- each has a number of its own
  later_differs : (first next : ℕ) (file : FileMetaData) (files : List FileMetaData)
      (tables : List (List Pair)) → Each R files tables
      → AreNextNumbers first next (map (λ (f : FileMetaData). f.num) (file ∷ files))
      → (table : LiveTable) → Contains (outputs_of level files tables) table
      → table.file.number ≡ file.num → ⊥
  later_differs first next file files tables each are table there number =
      let from = output_is files tables each table there in
      let within = file_numbers_within (first + 1) next files are.1 from.file from.file_there in
      let its = ap (λ (t : LiveTable). t.file.number) from.is in
      omega (arith, within.0, its, number, are.0)

  pub outputs_known : (first next : ℕ) (files : List FileMetaData) (tables : List (List Pair))
      → Each R files tables
      → AreNextNumbers first next (map (λ (file : FileMetaData). file.num) files)
      → (a b : LiveTable) → Contains (outputs_of level files tables) a
      → Contains (outputs_of level files tables) b → a.file.number ≡ b.file.number → a ≡ b
  outputs_known first next [] tables each are a b a_there b_there same =
      absurd (in_none a a_there)
  outputs_known first next (file ∷ files) [] each are a b a_there b_there same =
      absurd (in_none a a_there)
  outputs_known first next (file ∷ files) (pairs ∷ tables) each are a b a_there b_there same =
      let rest = outputs_of level files tables in
      let differs = later_differs first next file files tables each.1 are in
      let more = outputs_known (first + 1) next files tables each.1 are.1 a b in
      ⊎_elim
      (λ (a_is : output_of level file pairs ≡ a). ⊎_elim
      (λ (b_is : output_of level file pairs ≡ b). sym a_is ∙ b_is)
      (λ b_later. absurd (differs b b_later
      (sym same ∙ ap (λ (t : LiveTable). t.file.number) (sym a_is))))
      (in_cases (output_of level file pairs) b rest b_there))
      (λ a_later. ⊎_elim
      (λ (b_is : output_of level file pairs ≡ b). absurd (differs a a_later
      (same ∙ ap (λ (t : LiveTable). t.file.number) (sym b_is))))
      (λ b_later. more a_later b_later same)
      (in_cases (output_of level file pairs) b rest b_there))
      (in_cases (output_of level file pairs) a rest a_there)

-- ---- what a merge has made

-- what a builder makes of these choices is a table of the store, by what its filters mean
abbrev pub BuildsForStore : {C FP : Type 0} {order : CmpGhosts C} {filters : FilterGhosts FP}
    → TableChoices order filters → Type 0
BuildsForStore choices = (pairs : List Pair) (bytes : List ℕ) → IsTableBuilt choices pairs bytes
    → (meaning : List ℕ → Option (List ℕ → List ℕ → Bool))
    → IsMeaningOf meaning choices.format.policy_name
    (λ key. choices.format.matches (user_part key))
    → IsStoreTable (Decodes choices.format.codings) choices.format.order meaning bytes pairs

module _ {C FP : Type 0} {order : CmpGhosts C} {filters : FilterGhosts FP}
    (merge : Merge order filters) {E F : Type 0} (env : EnvGhosts E F)
    (exact : IsExactOrder merge.choices.format.order)
    (builds : BuildsForStore merge.choices) (modelled : IsTrue env.models_disk) (meaning : Meaning)
    (agrees : Agrees merge.choices.format meaning) {first : ℕ} {read : List Pair} {next : ℕ}
    {files : List FileMetaData} {to : E} (merges : MergesInto merge env first read next files to)
    (internal : AreInternal read) (level : ℕ) where
  abbrev next_level : ℕ
  next_level = level + 1

  abbrev cmp : List ℕ → List ℕ → Ordering
  cmp = merge.choices.format.order

  abbrev Is : FileMetaData → List Pair → Type 0
  Is = IsFinished merge.choices env merge.store to

  abbrev T : List ℕ → List Pair → Type 0
  T = IsTableOf cmp meaning

  abbrev disk : Files
  disk = (env.observed to).disk.files

  abbrev pub merged_outputs : List LiveTable
  merged_outputs = outputs_of next_level files merges.tables

  finished : Each Is files merges.tables
  finished = tables_finished merge env exact merges

  table_internal : (pairs : List Pair) → Contains merges.tables pairs → AreInternal pairs
  table_internal pairs there = pairs_internal pairs (λ pair c.
      pair_internal read internal pair (tables_read merge env exact merges pair
      (flat_in (λ t. t) merges.tables pairs pair there c)))

  -- the file is a table of the pairs' entries, by what names and ids mean
  has_output : (file : FileMetaData) (pairs : List Pair) → Is file pairs
      → Contains merges.tables pairs
      → HasTable merge.store cmp T disk (output_of next_level file pairs)
  has_output file pairs is there =
      let f = merge.choices.format in
      let known : IsMeaningOf meaning.filters f.policy_name (λ key. f.matches (user_part key)) =
      subst (λ (o : Option (List ℕ → List ℕ → Bool)).
      IfSome o (λ known. known ≡ (λ key. f.matches (user_part key)))) (sym agrees.filters) refl in
      held_tables_by_more (Decodes f.codings) (Decodes meaning.codings)
      (agreed_decode_more f meaning agrees) merge.store cmp meaning.filters disk
      (output_of next_level file pairs)
      (file_of_store merge.choices pairs modelled is.is (builds pairs) meaning.filters next_level
      (entries_of_pairs pairs) known (table_internal pairs there))

  kept_output : (file : FileMetaData) (pairs : List Pair) → Is file pairs
      → IsKept (disk (table_path merge.store file.num))
  kept_output file pairs is = subst IsKept (sym (is.is.kept modelled)) refl

  -- their files
  pub outputs_files : files_of_tables merged_outputs
      ≡ map (λ (file : FileMetaData). new_file_of (next_level, file)) files
  outputs_files = files_of_outputs next_level Is files merges.tables finished

  abbrev IsOutput : LiveTable → Type 0
  IsOutput = IsOutputOf next_level Is files merges.tables

  output : (table : LiveTable) → Contains merged_outputs table → IsOutput table
  output table there = output_is next_level Is files merges.tables finished table there

  pub each_output : (table : LiveTable) → Contains merged_outputs table
      → HasTable merge.store cmp T disk table
      × IsKept (disk (table_path merge.store table.file.number)) × (table.file.level ≡ next_level)
      × (table.file.number < 2 ^ 64)
  each_output table there =
      let of = output table there in
      subst (λ (t : LiveTable). HasTable merge.store cmp T disk t
      × IsKept (disk (table_path merge.store t.file.number)) × (t.file.level ≡ next_level)
      × (t.file.number < 2 ^ 64)) of.is (
        has_output of.file of.pairs of.holds of.pairs_there,
        kept_output of.file of.pairs of.holds,
        refl,
        of.holds.number,
      )

  pub outputs_apart : (a b : LiveTable) → Contains merged_outputs a → Contains merged_outputs b
      → a.file.number ≢ b.file.number → AreDisjoint cmp a.file b.file
  outputs_apart a b a_there b_there differ =
      let of = output a a_there in
      let other = output b b_there in
      ⊎_elim
      (λ (same : of.file ≡ other.file). absurd (differ
      (ap (λ (t : LiveTable). t.file.number) (sym of.is)
      ∙ ap (λ (f : FileMetaData). f.num) same
      ∙ ap (λ (t : LiveTable). t.file.number) other.is)))
      (λ disjoint. subst (λ (t : LiveTable). AreDisjoint cmp t.file b.file) of.is
      (subst (λ (t : LiveTable).
      AreDisjoint cmp (new_file_of (next_level, of.file)) t.file) other.is disjoint))
      (files_apart merge.choices env merge.store to cmp exact next_level read files merges.tables
      finished merges.are_tables.cut (tables_rise merge env exact merges)
      (tables_read merge env exact merges) of.file other.file of.file_there other.file_there)

  -- what is dropped of inputs whose entries were read
  module _ (inputs : List LiveTable) (same : SameEntries (entries_of_pairs read) (table_entries inputs))
      (those : List NewFile) (tells : merge.is_base ≡ is_base_level_for cmp next_level those) where
    dropped : DropsAll merge.smallest (IsBaseLevelFor cmp next_level those) (table_entries inputs)
        (table_entries merged_outputs)
    dropped =
        let left : thinned merge.smallest (is_base_level_for cmp next_level those)
        (entries_of_pairs read) ≡ table_entries merged_outputs
        = ap (λ base. thinned merge.smallest base (entries_of_pairs read)) (sym tells)
        ∙ sym merges.entries
        ∙ sym (entries_of_outputs next_level Is files merges.tables finished) in
        thinned_tables_drop_all cmp merge.smallest next_level those (entries_of_pairs read) inputs
        merged_outputs same (λ entry. (
          λ c. subst (λ es. Contains es entry) left c,
          λ c. subst (λ es. Contains es entry) (sym left) c,
        ))

    -- where these are the live files
    pub dropped_live : (before : List LiveTable)
        → ((file : NewFile) → Contains those file ↔ Contains (files_of_tables before) file)
        → DropsAll merge.smallest (IsBaseLevelFor cmp next_level (files_of_tables before))
        (table_entries inputs) (table_entries merged_outputs)
    dropped_live before same_files =
        drops_go_by_sets.files cmp merge.smallest next_level those (files_of_tables before)
        (table_entries inputs) (table_entries merged_outputs) same_files dropped

    -- the outputs are made
    pub outputs_made : (before : List LiveTable)
        → ((file : NewFile) → Contains those file ↔ Contains (files_of_tables before) file)
        → MayCompact cmp (files_of_tables before) level (files_of_tables inputs)
        → ((table : LiveTable) → Contains inputs table → Contains before table)
        → HasMadeOutputs merge.store cmp T disk merge.smallest level before inputs merged_outputs
    outputs_made before same_files may there = record {
      may = may;
      there = there;
      each = each_output;
      known = λ a b a_there b_there levels numbers.
          outputs_known next_level Is first next files merges.tables finished
          merges.are_tables.numbers a b a_there b_there numbers;
      apart = outputs_apart;
      drops = (dropped_live before same_files).drops;
    }
