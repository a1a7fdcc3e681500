-- The files of tables that a merge has made: whatever was read, they lie within the ranges of the
-- inputs and are apart, and an edit may have them.
use Rattle.std.specs.Prelude.{Contains}
use Rattle.std.proofs.Common.{◌≡◌, ◌<◌, ◌^◌, ◌+◌, ◌⊎◌, ◌∙◌, inl, inr, ⊎_elim, ℕ, Bool, true, false, List, [], ◌∷◌, ◌++◌, cond, map, sym, ap, subst}
use Rattle.std.proofs.lemmas.List.{map-append}
use Rattle.std.proofs.lemmas.List.Elements.{Contains-append_left, Contains-append_right}
use Rattle.std.specs.List.{filter}
use Rattle.std.specs.declared.cmp.Ordering.{Ordering}
use Rattle.std.specs.declared.cmp.Ordering.TheVariants.{Less}
use Rattle.leveldb_base.proofs.EntriesLemmas.{in_map, map_in, rising_is_sorted}
use Rattle.leveldb_base.proofs.HistoryLemmas.{in_cases, in_none}
use Rattle.leveldb_base.proofs.OrderLemmas.{exact_total}
use Rattle.leveldb_base.proofs.ThinningLemmas.{of_filter}
use Rattle.leveldb_base.specs.Cmp.{IsExactOrder}
use Rattle.leveldb_base.specs.Entries.{AreSorted, entries_of_pairs, entry_of_pair}
use Rattle.leveldb_base.specs.History.{AreRising, IsBeforeAll}
use Rattle.leveldb_base.specs.KeyTypes.{internal_cmp, user_part}
use Rattle.leveldb_base.specs.Types.{Pair}
use Rattle.leveldb_base.specs.declared.cmp.Cmp.{Ghosts as CmpGhosts}
use Rattle.leveldb_base.specs.declared.types.FileMetaData.{FileMetaData}
use Rattle.leveldb_env.specs.Env.{AreBytes}
use Rattle.leveldb_env.specs.declared.env.Env.{Ghosts as EnvGhosts}
use Rattle.leveldb_env.specs.declared.filter.FilterPolicy.{Ghosts as FilterGhosts}
use Rattle.leveldb_table.specs.BlockBuilder.{last_added}
use Rattle.leveldb_version_set.proofs.Compactions.AmongLemmas.{among_tells}
use Rattle.leveldb_version_set.proofs.Compactions.CompactionOutputsLemmas.{keys_are_cut}
use Rattle.leveldb_version_set.proofs.Compactions.ContradictionLemmas.{agreed_files_lie_within, cut_files_are_apart}
use Rattle.leveldb_files.proofs.Stores.OneStoreLemmas.{flat_in}
use Rattle.leveldb_version.proofs.Versions.PairwiseLemmas.{each_first}
use Rattle.leveldb_version.proofs.Versions.SearchLemmas.{all_from_contains}
use Rattle.leveldb_files.specs.Stores.Batches.{Each}
use Rattle.leveldb_version_set.specs.Compactions.Compaction.{IsWithinInputs}
use Rattle.leveldb_version_set.specs.Compactions.Contradictions.{AgreeWithEdits, IsMadeOf, is_among_inputs}
use Rattle.leveldb_files.specs.Levels.Levels.{AreDisjoint}
use Rattle.leveldb_version_set.specs.Engines.Opening.{FitsEdit}
use Rattle.leveldb_version_set.specs.Compactions.Picking.{CompactionValue}
use Rattle.leveldb_files.specs.Stores.Store.{IsFirstKey, IsLastKey}
use Rattle.leveldb_version.specs.Versions.Version.{new_files_of}
use Rattle.leveldb_files.specs.Edits.Edit.{NewFile}
use Rattle.leveldb_version.specs.Edits.VersionEdit.{new_file_of}
use Rattle.leveldb_version_set.specs.Sets.VersionSetValue.{VersionSetValue}
use Rattle.leveldb_store.specs.Tables.BuildTable.{IsTableFile, TableChoices}
use Rattle.leveldb_store.specs.Compactions.Compact.{AreReplacements}
use Rattle.leveldb_store.specs.Compactions.Merging.{Merge, MergesInto, all_pairs}
use Rattle.leveldb_store.specs.Keeping.OpenStore.{AreNumbersGiven}
use Rattle.leveldb_store.specs.Tables.Outputs.{AreCutBefore, AreFinished, IsCutBefore}
use Rattle.leveldb_store.proofs.Tables.BuildTableLemmas.{last_pushed}
use Rattle.leveldb_store.proofs.Tables.OutputsLemmas.{file_numbers_within}

-- ---- pairs whose keys rise

module _ (cmp : List ℕ → List ℕ → Ordering) where
  before_or : (pair : Pair) (pairs : List Pair) (b : Bool) (key : List ℕ)
      → cmp key pair.0 ≡ Less → IsBeforeAll cmp key pairs
      → IsBeforeAll cmp key (cond b (pair ∷ pairs) pairs)
  before_or pair pairs true key first rest = (first, rest)
  before_or pair pairs false key first rest = rest

  before_some : (test : Pair → Bool) (key : List ℕ) (pairs : List Pair)
      → IsBeforeAll cmp key pairs → IsBeforeAll cmp key (filter test pairs)
  before_some test key [] all = tt
  before_some test key (pair ∷ pairs) all =
      before_or pair (filter test pairs) (test pair) key all.0 (before_some test key pairs all.1)

  rising_or : (pair : Pair) (pairs : List Pair) (b : Bool) → IsBeforeAll cmp pair.0 pairs
      → AreRising cmp pairs → AreRising cmp (cond b (pair ∷ pairs) pairs)
  rising_or pair pairs true first rest = (first, rest)
  rising_or pair pairs false first rest = rest

  -- so do some of them
  pub rising_some : (test : Pair → Bool) (pairs : List Pair) → AreRising cmp pairs
      → AreRising cmp (filter test pairs)
  rising_some test [] rising = tt
  rising_some test (pair ∷ pairs) rising =
      rising_or pair (filter test pairs) (test pair) (before_some test pair.0 pairs rising.0)
      (rising_some test pairs rising.1)

  before_first : (key : List ℕ) (front rest : List Pair) → IsBeforeAll cmp key (front ++ rest)
      → IsBeforeAll cmp key front
  before_first key [] rest all = tt
  before_first key (first ∷ front) rest all = (all.0, before_first key front rest all.1)

  pub rising_first : (front rest : List Pair) → AreRising cmp (front ++ rest)
      → AreRising cmp front
  rising_first [] rest rising = tt
  rising_first (first ∷ front) rest rising =
      (before_first first.0 front rest rising.0, rising_first front rest rising.1)

  pub rising_last : (front rest : List Pair) → AreRising cmp (front ++ rest) → AreRising cmp rest
  rising_last [] rest rising = rising
  rising_last (first ∷ front) rest rising = rising_last front rest rising.1

  -- so do those of each table, where all do
  pub table_rises : (tables : List (List Pair)) → AreRising cmp (all_pairs tables)
      → (table : List Pair) → Contains tables table → AreRising cmp table
  table_rises [] rising table there = absurd (in_none table there)
  table_rises (first ∷ tables) rising table there = ⊎_elim
      (λ (is : first ≡ table).
      subst (AreRising cmp) is (rising_first first (all_pairs tables) rising))
      (λ later. table_rises tables (rising_last first (all_pairs tables) rising) table later)
      (in_cases first table tables there)

-- the cuts between the other tables
cut_rest : (table : List Pair) (tables : List (List Pair)) → AreCutBefore [] (table ∷ tables)
    → AreCutBefore [] tables
cut_rest table [] cut = tt
cut_rest table (next ∷ tables) cut = cut.1

-- Where the last user key of a table isn't the first of the pairs that follow, each user key of it
-- is before each of these.
module _ (cmp : List ℕ → List ℕ → Ordering) (exact : IsExactOrder cmp) where
  cut_keys : {first last : List ℕ} (table next more : List Pair) → IsLastKey last table
      → IsFirstKey first next → IsCutBefore table next
      → AreRising (internal_cmp cmp) (table ++ (next ++ more)) → (x y : Pair) → Contains table x
      → Contains (next ++ more) y → cmp (user_part x.0) (user_part y.0) ≡ Less
  cut_keys {first} {last} table next more ends begins cut rising x y x_there y_there =
      let pair_last : Pair = (last, ends.1) in
      let pair_next : Pair = (first, begins.0) in
      let later = begins.1 ++ more in
      let table_is : table ≡ ends.0 ++ pair_last ∷ [] = ends.2 in
      let rest_is : next ++ more ≡ pair_next ∷ later = ap (λ ps. ps ++ more) begins.2 in
      let all_are : entries_of_pairs (table ++ (next ++ more))
      ≡ (entries_of_pairs ends.0 ++ entry_of_pair pair_last ∷ [])
      ++ entry_of_pair pair_next ∷ entries_of_pairs later
      = ap (λ ps. entries_of_pairs (ps ++ (next ++ more))) table_is
      ∙ ap (λ ps. entries_of_pairs ((ends.0 ++ pair_last ∷ []) ++ ps)) rest_is
      ∙ map-append entry_of_pair (ends.0 ++ pair_last ∷ []) (pair_next ∷ later)
      ∙ ap (λ es. es ++ entry_of_pair pair_next ∷ entries_of_pairs later)
      (map-append entry_of_pair ends.0 (pair_last ∷ [])) in
      let front_are : entries_of_pairs table ≡ entries_of_pairs ends.0 ++ entry_of_pair pair_last ∷ []
      = ap entries_of_pairs table_is ∙ map-append entry_of_pair ends.0 (pair_last ∷ []) in
      keys_are_cut cmp exact (entries_of_pairs ends.0) (entry_of_pair pair_last)
      (entry_of_pair pair_next) (entries_of_pairs later)
      (subst (AreSorted cmp) all_are
      (rising_is_sorted cmp exact (table ++ (next ++ more)) rising))
      (λ same. differ (ap (λ ps. user_part (last_added ps)) table_is
      ∙ ap user_part (last_pushed ends.0 pair_last) ∙ same))
      (entry_of_pair x) (entry_of_pair y)
      (subst (λ es. Contains es (entry_of_pair x)) front_are (map_in entry_of_pair table x x_there))
      (subst (λ ps. Contains (entries_of_pairs ps) (entry_of_pair y)) rest_is
      (map_in entry_of_pair (next ++ more) y y_there))
    where
      differ : user_part (last_added table) ≡ user_part first → ⊥
      differ = subst (IsCutBefore table) begins.2 cut

-- ---- files that are finished

module _ {C FP : Type 0} {order : CmpGhosts C} {filters : FilterGhosts FP}
    (choices : TableChoices order filters) {E F : Type 0} (env : EnvGhosts E F) (store : List ℕ)
    (at : E) where
  -- a file is a table of these pairs, and an edit may have it
  pub record IsFinished (file : FileMetaData) (pairs : List Pair) : Type 0 where
    pub is : IsTableFile choices pairs env.models_disk store (env.observed at).disk.files file
    pub number : file.num < 2 ^ 64
    pub size : file.size < 2 ^ 64
    pub smallest : AreBytes file.smallest
    pub largest : AreBytes file.largest

  pub finished_each : (files : List FileMetaData) (tables : List (List Pair))
      → AreFinished choices env store at files tables → Each IsFinished files tables
  finished_each [] [] are = tt
  finished_each (file ∷ files) (pairs ∷ tables) are = (
    record {
      is = are.0;
      number = are.1;
      size = are.2;
      smallest = are.4;
      largest = are.5;
    },
    finished_each files tables are.6,
  )
  finished_each [] (pairs ∷ tables) are = absurd are
  finished_each (file ∷ files) [] are = absurd are

  module _ (cmp : List ℕ → List ℕ → Ordering) (exact : IsExactOrder cmp) (level : ℕ)
      (read : List Pair) where
    abbrev Made : FileMetaData → NewFile
    Made file = new_file_of (level, file)

    -- a file is made of pairs that were read
    made_of : (file : FileMetaData) (pairs : List Pair) → IsFinished file pairs
        → ((pair : Pair) → Contains pairs pair → Contains read pair)
        → AreRising (internal_cmp cmp) pairs → IsMadeOf cmp read pairs (Made file)
    made_of file pairs finished among rising = record {
      among = among;
      rising = rising;
      smallest = finished.is.smallest;
      largest = finished.is.largest;
    }

    turned : (a b : NewFile) → AreDisjoint cmp a b → AreDisjoint cmp b a
    turned a b (inl before) = inr before
    turned a b (inr after) = inl after

    -- each user key of a table is before each of the tables after it
    ends_before : (file : FileMetaData) (table : List Pair) (files : List FileMetaData)
        (tables : List (List Pair)) → IsFinished file table → Each IsFinished files tables
        → AreCutBefore [] (table ∷ tables)
        → AreRising (internal_cmp cmp) (all_pairs (table ∷ tables)) → (x y : Pair)
        → Contains table x → Contains (all_pairs tables) y
        → cmp (user_part x.0) (user_part y.0) ≡ Less
    ends_before file table [] [] finished each cut rising x y x_there y_there =
        absurd (in_none y y_there)
    ends_before file table (next ∷ files) [] finished each cut rising x y x_there y_there =
        absurd each
    ends_before file table [] (pairs ∷ tables) finished each cut rising x y x_there y_there =
        absurd each
    ends_before file table (next ∷ files) (pairs ∷ tables) finished each cut rising x y x_there
        y_there =
        cut_keys cmp exact table pairs (all_pairs tables) finished.is.largest each.0.is.smallest cut.0
        rising x y x_there y_there

    -- two files are the same, or apart
    pub files_apart : (files : List FileMetaData) (tables : List (List Pair))
        → Each IsFinished files tables → AreCutBefore [] tables
        → AreRising (internal_cmp cmp) (all_pairs tables)
        → ((pair : Pair) → Contains (all_pairs tables) pair → Contains read pair)
        → (a b : FileMetaData) → Contains files a → Contains files b
        → (a ≡ b) ⊎ AreDisjoint cmp (Made a) (Made b)
    files_apart [] tables each cut rising among a b a_there b_there = absurd (in_none a a_there)
    files_apart (file ∷ files) [] each cut rising among a b a_there b_there = absurd each
    files_apart (file ∷ files) (table ∷ tables) each cut rising among a b a_there b_there = ⊎_elim
        (λ (a_is : file ≡ a). ⊎_elim
        (λ (b_is : file ≡ b). inl (sym a_is ∙ b_is))
        (λ b_later. inr (subst (λ f. AreDisjoint cmp (Made f) (Made b)) a_is
        (first_apart b b_later)))
        (in_cases file b files b_there))
        (λ a_later. ⊎_elim
        (λ (b_is : file ≡ b). inr (subst (λ f. AreDisjoint cmp (Made a) (Made f)) b_is
        (turned (Made file) (Made a) (first_apart a a_later))))
        (λ b_later. files_apart files tables each.1 (cut_rest table tables cut)
        (rising_last (internal_cmp cmp) table (all_pairs tables) rising)
        (λ pair there. among pair (Contains-append_right table (all_pairs tables) pair there)) a b
        a_later b_later)
        (in_cases file b files b_there))
        (in_cases file a files a_there)
      where
        first_apart : (other : FileMetaData) → Contains files other
            → AreDisjoint cmp (Made file) (Made other)
        first_apart other there =
            let its = each_first IsFinished files tables other each.1 there in
            cut_files_are_apart cmp read table its.0 (Made file) (Made other)
            (made_of file table each.0
            (λ pair c. among pair (Contains-append_left table (all_pairs tables) pair c))
            (rising_first (internal_cmp cmp) table (all_pairs tables) rising))
            (made_of other its.0 its.2
            (λ pair c. among pair (Contains-append_right table (all_pairs tables) pair
            (flat_in (λ t. t) tables its.0 pair its.1 c)))
            (table_rises (internal_cmp cmp) tables
            (rising_last (internal_cmp cmp) table (all_pairs tables) rising) its.0 its.1))
            (λ x y x_there y_there. ends_before file table files tables each.0 each.1 cut rising x y
            x_there (flat_in (λ t. t) tables its.0 y its.1 y_there))

    -- they lie within inputs with whose edits agrees what was read
    pub files_within : (inputs : List NewFile) → AgreeWithEdits cmp inputs read
        → (files : List FileMetaData) (tables : List (List Pair)) → Each IsFinished files tables
        → AreRising (internal_cmp cmp) (all_pairs tables)
        → ((pair : Pair) → Contains (all_pairs tables) pair → Contains read pair)
        → (file : FileMetaData) → Contains files file → IsWithinInputs cmp inputs (Made file)
    files_within inputs agreed files tables each rising among file there =
        let its = each_first IsFinished files tables file each there in
        agreed_files_lie_within cmp (exact_total exact) inputs read its.0 (Made file) agreed
        (made_of file its.0 its.2
        (λ pair c. among pair (flat_in (λ t. t) tables its.0 pair its.1 c))
        (table_rises (internal_cmp cmp) tables rising its.0 its.1))

-- ---- what a merge has made

module _ {C FP : Type 0} {order : CmpGhosts C} {filters : FilterGhosts FP}
    (merge : Merge order filters) {E F : Type 0} (env : EnvGhosts E F)
    (exact : IsExactOrder merge.choices.format.order) {first : ℕ} {read : List Pair} {next : ℕ}
    {files : List FileMetaData} {to : E} (merges : MergesInto merge env first read next files to)
  where
    abbrev cmp : List ℕ → List ℕ → Ordering
    cmp = merge.choices.format.order

    -- the pairs of its tables rise
    pub tables_rise : AreRising (internal_cmp cmp) (all_pairs merges.tables)
    tables_rise = subst (AreRising (internal_cmp cmp)) (sym merges.left)
        (rising_some (internal_cmp cmp) _ read merges.are_read.rising)

    -- and were read
    pub tables_read : (pair : Pair) → Contains (all_pairs merges.tables) pair → Contains read pair
    tables_read pair there =
        (of_filter _ read pair (subst (λ ps. Contains ps pair) merges.left there)).0

    pub tables_finished : Each (IsFinished merge.choices env merge.store to) files merges.tables
    tables_finished =
        finished_each merge.choices env merge.store to files merges.tables merges.are_tables.finished

    -- what was read agrees with the edits of these inputs, if they tell which keys are among them
    pub read_agrees : (inputs : List NewFile)
        → ((key : List ℕ) → merge.is_among key ≡ is_among_inputs cmp inputs key)
        → AgreeWithEdits cmp inputs read
    read_agrees inputs tells = record {
      tagged = merges.are_read.tagged;
      rising = merges.are_read.rising;
      within = λ pair there. (among_tells cmp inputs (user_part pair.0)).0
          (sym (tells (user_part pair.0)) ∙ merges.are_read.among pair there);
    }

    -- the files, of the next level
    pub merged_files : {D : Type 0} (it : CompactionValue D)
        → ((key : List ℕ) → merge.is_among key ≡ is_among_inputs cmp (new_files_of it.inputs) key)
        → AreReplacements cmp it (map (λ file. new_file_of (it.level + 1, file)) files)
    merged_files it tells =
        let level = it.level + 1 in
        let F = λ (file : FileMetaData). new_file_of (level, file) in
        record {
          within = λ file there.
              let from = in_map F files file there in (
                sym (ap (λ (f : NewFile). f.level) from.2),
                subst (IsWithinInputs cmp (new_files_of it.inputs)) from.2
                    (files_within merge.choices env merge.store to cmp exact level read
                    (new_files_of it.inputs) (read_agrees (new_files_of it.inputs) tells) files
                    merges.tables tables_finished tables_rise tables_read from.0 from.1),
              );
          apart = λ a b a_there b_there.
              let from = in_map F files a a_there in
              let other = in_map F files b b_there in
              ⊎_elim
              (λ (same : from.0 ≡ other.0). inl (sym from.2 ∙ ap F same ∙ other.2))
              (λ disjoint. inr (subst (λ f. AreDisjoint cmp f b) from.2
              (subst (AreDisjoint cmp (F from.0)) other.2 disjoint)))
              (files_apart merge.choices env merge.store to cmp exact level read files merges.tables
              tables_finished merges.are_tables.cut tables_rise tables_read from.0 other.0 from.1
              other.1);
          fit = all_from_contains FitsEdit (map F files) (λ file there.
              let from = in_map F files file there in
              let its = each_first (IsFinished merge.choices env merge.store to) files merges.tables
              from.0 tables_finished from.1 in
              let fits : FitsEdit (F from.0) = record {
                number = its.2.number;
                size = its.2.size;
                smallest = its.2.smallest;
                largest = its.2.largest;
              } in
              subst FitsEdit from.2 fits);
        }

    -- their numbers were given, of those that come to the next one
    pub merged_given : (level : ℕ) (set : VersionSetValue) → set.next_file ≡ next
        → AreNumbersGiven set (map (λ file. new_file_of (level, file)) files)
    merged_given level set is =
        let F = λ (file : FileMetaData). new_file_of (level, file) in
        all_from_contains (λ (file : NewFile). file.number < set.next_file) (map F files)
        (λ file there.
        let from = in_map F files file there in
        let within = file_numbers_within first next files merges.are_tables.numbers from.0 from.1 in
        subst (λ (f : NewFile). f.number < set.next_file) from.2
        (subst (λ n. from.0.num < n) (sym is) within.1))
