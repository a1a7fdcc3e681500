-- The files that take the place of those of a compaction: where its tables are merged, where its one
-- file is moved, and where memory is out before either.
use Rattle.std.specs.Prelude.{Contains, IfOk, Result}
use Rattle.std.proofs.Common.{◌≡◌, ◌↔◌, ◌+◌, inl, ℕ, List, Ok, Err, refl, sym, ap, subst, arith}
use Rattle.std.specs.declared.cmp.Ordering.{Ordering}
use Rattle.leveldb_base.specs.Entries.{entries_of_pairs}
use Rattle.leveldb_base.specs.Error.{IsOutOfMemory}
use Rattle.leveldb_base.specs.Types.{Pair}
use Rattle.leveldb_base.specs.declared.cmp.Cmp.{Ghosts as CmpGhosts}
use Rattle.leveldb_base.specs.declared.cmp.internal.InternalKeyCmp.{InternalKeyCmp}
use Rattle.leveldb_base.specs.declared.error.Status.{Status}
use Rattle.leveldb_base.specs.declared.types.FileMetaData.{FileMetaData}
use Rattle.leveldb_env.specs.Compressor.{Codings}
use Rattle.leveldb_env.specs.declared.env.Env.{Ghosts as EnvGhosts}
use Rattle.leveldb_env.specs.declared.filter.FilterPolicy.{Ghosts as FilterGhosts}
use Rattle.leveldb_iter.specs.declared.merging_iter.MergeCore.{MergeCore}
use Rattle.leveldb_iter.specs.declared.walk.Walk.{Ghosts as WalkGhosts}
use Rattle.leveldb_version_set.specs.Compactions.Compaction.{MergesOrMoves, files_of_tables}
use Rattle.leveldb_version.specs.Versions.DeeperLevels.{is_base_level_for}
use Rattle.leveldb_version_set.specs.Compactions.CompactionEdit.{HasMadeOutputs}
use Rattle.leveldb_version_set.specs.Compactions.Contradictions.{is_among_inputs}
use Rattle.leveldb_files.specs.Stores.Format.{IsTableOf, Meaning}
use Rattle.leveldb_files.specs.Levels.Levels.{LiveTable, table_entries}
use Rattle.leveldb_version_set.specs.Compactions.Picking.{CompactionValue}
use Rattle.leveldb_files.specs.Stores.Store.{SameEntries}
use Rattle.leveldb_version.specs.Tables.TableCache.{TableOptions, files_at}
use Rattle.leveldb_version.specs.Versions.Version.{VersionValue, new_files_of}
use Rattle.leveldb_files.specs.Edits.Edit.{NewFile}
use Rattle.leveldb_version_set.specs.Sets.VersionSetValue.{VersionSetValue}
use Rattle.leveldb_version.specs.declared.table_cache.TableCache.{TableCache}
use Rattle.leveldb_version.specs.declared.table_cache.moves.ReadTables.{ReadTables}
use Rattle.leveldb_version.specs.declared.version_iter.VersionIter.{VersionIter}
use Rattle.leveldb_store.specs.Tables.BuildTable.{TableChoices}
use Rattle.leveldb_store.specs.Compactions.Compact.{AreReplacements, HasTablesWritten, MakesReplacements, of_level}
use Rattle.leveldb_store.specs.Compactions.Merging.{MergesInto, MergesTables, merge_of}
use Rattle.leveldb_store.specs.Keeping.OpenStore.{AreNumbersGiven, OpenStoreValue}
use Rattle.leveldb_store.specs.Keeping.OpenTables.{AreOpenTablesOf}
use Rattle.leveldb_store.specs.Openings.Opening.{GivesNumbers, TakesBackNew}
use Rattle.leveldb_store.proofs.Compactions.MergeInputsLemmas.{AreInternal}
use Rattle.leveldb_store.proofs.Compactions.MergedCausesLemmas.{IsMergeOfStore, bears_new, by_choices, listed, merge_for, taken, why_unmerged, world_of}
use Rattle.leveldb_store.proofs.Compactions.MergedFilesLemmas.{merged_files, merged_given}
use Rattle.leveldb_store.proofs.Compactions.MergedInputsLemmas.{input_files, inputs_live, inputs_may, same_files}
use Rattle.leveldb_store.proofs.Compactions.MergedMadeLemmas.{BuildsForStore, dropped_live, merged_outputs, outputs_files, outputs_made}
use Rattle.leveldb_store.proofs.Compactions.MergedOpenLemmas.{open_on}
use Rattle.leveldb_store.proofs.Tables.OutputsLemmas.{new-none}
use Rattle.leveldb_store.proofs.Logs.ReplayFilesLemmas.{GivesNumbers-refl}

-- ---- tables that are merged

module _ {E F C FP K P : Type 0} {keys : CmpGhosts (InternalKeyCmp C)}
    {key_filters : FilterGhosts P} (env : EnvGhosts E F) (cmp : CmpGhosts C)
    (filters : FilterGhosts FP) (codings : K → Codings)
    {walk : WalkGhosts (MergeCore (InternalKeyCmp C) (VersionIter C)) E (ReadTables E C FP K F)}
    {value : OpenStoreValue C} {it : CompactionValue C}
    (choices : TableChoices keys key_filters) (builds : BuildsForStore choices) (policy : FP)
    {start : E × ReadTables E C FP K F} {walked : MergeCore (InternalKeyCmp C) (VersionIter C)}
    (m : IsMergeOfStore env cmp filters codings walk value it choices policy start walked)
    (smallest : ℕ) {X : Type 0} (items : X → List FileMetaData)
    (end : E × ReadTables E C FP K F) (new : OpenStoreValue C) where
  abbrev by : TableOptions C FP
  by = by_choices env cmp filters codings walk value it choices policy start walked

  abbrev order : List ℕ → List ℕ → Ordering
  order = choices.format.order

  abbrev Merged : Result X Status → Type 0
  Merged result = MergesTables (merge_for env cmp filters codings walk value it choices policy start
      walked smallest) env value.set.next_file walk items start walked result new.set.next_file end

  -- the files fit, whatever was read
  merged_fit : (result : Result X Status) → Merged result
      → IfOk result (λ made. AreReplacements order it (of_level (it.level + 1) (items made))
      × AreNumbersGiven new.set (of_level (it.level + 1) (items made)))
  merged_fit (Err status) merged = tt
  merged_fit (Ok made) merged =
      let read = merged.ok in (
        merged_files (merge_for env cmp filters codings walk value it choices policy start walked
            smallest) env m.exact read.1 it (λ key. refl),
        merged_given (merge_for env cmp filters codings walk value it choices policy start walked
            smallest) env m.exact read.1 (it.level + 1) new.set refl,
      )

  -- of a store that is written they are its tables
  module _ (meaning : Meaning) (live : List LiveTable)
      (w : HasTablesWritten keys env by value start.0 start.1.cache.now meaning live) where
    abbrev those : List LiveTable
    those = taken env cmp filters codings walk value it choices policy start walked m meaning live w

    version_files : (file : NewFile) → Contains (new_files_of it.version) file
        ↔ Contains (files_of_tables live) file
    version_files file = subst (λ (v : VersionValue C). Contains (new_files_of v) file
        ↔ Contains (files_of_tables live) file) (sym m.of.version_is)
        (same_files m.exact m.of meaning w.written w.has_live file)

    module _ (made : X) (read : List Pair)
        (into : MergesInto (merge_for env cmp filters codings walk value it choices policy start
        walked smallest) env value.set.next_file read new.set.next_file (items made) end.0)
        (is : (listed env cmp filters codings walk value it choices policy start walked m meaning
        live w).0 ≡ read) where
      internal : AreInternal read
      internal = subst AreInternal is (listed env cmp filters codings walk value it choices policy
          start walked m meaning live w).1.internal

      entries : SameEntries (entries_of_pairs read) (table_entries those)
      entries = subst (λ pairs. SameEntries (entries_of_pairs pairs) (table_entries those)) is
          (listed env cmp filters codings walk value it choices policy start walked m meaning live
          w).1.entries

      abbrev outputs : List LiveTable
      outputs = merged_outputs (merge_for env cmp filters codings walk value it choices policy start
          walked smallest) env m.exact builds w.has_open.modelled meaning w.agrees into internal
          it.level

      made_of_inputs : (inputs outputs : List LiveTable)
          × (files_of_tables inputs ≡ new_files_of it.inputs)
          × (files_of_tables outputs ≡ of_level (it.level + 1) (items made))
          × HasMadeOutputs value.set.store order (IsTableOf order meaning) (files_at env end.0)
          smallest it.level live inputs outputs
          × MergesOrMoves order smallest it.level it.max_file_size it.manual live inputs outputs
      made_of_inputs = (
        those,
        outputs,
        input_files m.exact m.of meaning w.written w.has_live,
        outputs_files (merge_for env cmp filters codings walk value it choices policy start walked
            smallest) env m.exact builds w.has_open.modelled meaning w.agrees into internal it.level,
        outputs_made (merge_for env cmp filters codings walk value it choices policy start walked
            smallest) env m.exact builds w.has_open.modelled meaning w.agrees into internal it.level
            those entries (new_files_of it.version) refl live version_files
            (inputs_may m.exact m.of meaning w.written w.has_live)
            (inputs_live m.exact m.of meaning w.written w.has_live),
        inl (dropped_live (merge_for env cmp filters codings walk value it choices policy start
            walked smallest) env m.exact builds w.has_open.modelled meaning w.agrees into internal
            it.level those entries (new_files_of it.version) refl live version_files).gone,
      )

  merged_made : (result : Result X Status) → Merged result
      → IfOk result (λ made. (meaning : Meaning) (live : List LiveTable)
      → HasTablesWritten keys env by value start.0 start.1.cache.now meaning live
      → (inputs outputs : List LiveTable)
      × (files_of_tables inputs ≡ new_files_of it.inputs)
      × (files_of_tables outputs ≡ of_level (it.level + 1) (items made))
      × HasMadeOutputs value.set.store order (IsTableOf order meaning) (files_at env end.0)
      smallest it.level live inputs outputs
      × MergesOrMoves order smallest it.level it.max_file_size it.manual live inputs outputs)
  merged_made (Err status) merged = tt
  merged_made (Ok made) merged = λ meaning live w.
      let read = merged.ok in
      let list = listed env cmp filters codings walk value it choices policy start walked m meaning
      live w in
      made_of_inputs meaning live w made read.0 read.1
      (read.2 (bears_new env cmp filters codings walk value it choices policy start walked m w.has_open)
      list.0 list.1.over)

  -- the merge of its tables makes the files that take their place
  pub replaced_by_merge : (result : Result X Status) → Merged result
      → GivesNumbers value.set new.set → TakesBackNew value.set new.set
      → new ≡ record value { set = new.set }
      → MakesReplacements keys env by value start.0 start.1.cache.now choices smallest it
      (λ made. of_level (it.level + 1) (items made)) result new end.0 end.1.cache.now
  replaced_by_merge result merged gives back rest = record {
    gives = gives;
    back = back;
    rest = rest;
    changes = merged.changes;
    fit = merged_fit result merged;
    made = merged_made result merged;
    still_open = λ has. subst (λ (o : TableOptions C FP).
        AreOpenTablesOf keys env o new.set (files_at env end.0) end.1.cache.now) m.reads
        (open_on env cmp filters codings walk m.merges.leaves value start end
        (world_of env cmp filters codings walk value it choices policy start walked m has)
        merged.comes new.set (ap (λ (s : VersionSetValue). s.store) gives.set) gives.rises);
    cause = why_unmerged env cmp filters codings walk value it choices policy start walked m smallest
        end new items result merged;
  }

-- ---- where nothing changes

module _ {E F C FP P : Type 0} {keys : CmpGhosts (InternalKeyCmp C)}
    {key_filters : FilterGhosts P} (env : EnvGhosts E F) (choices : TableChoices keys key_filters)
    (by : TableOptions C FP) {value : OpenStoreValue C}
    {it : CompactionValue C} (smallest : ℕ) {X : Type 0} (items : X → List FileMetaData)
    (from : E) (tables : TableCache E C FP F) where
  -- since memory is out
  pub replaced_by_none : (status : Status) → IsOutOfMemory status
      → MakesReplacements keys env by value from tables choices smallest it
      (λ made. of_level (it.level + 1) (items made)) (Err status) value from tables
  replaced_by_none status memory = record {
    gives = GivesNumbers-refl value.set;
    back = λ number is. inl is;
    rest = refl;
    changes = new-none env value.set.store value.set.next_file from;
    fit = tt;
    made = tt;
    still_open = λ has. has.are;
    cause = record { later = omega arith; cause = inl (inl memory) };
  }

-- ---- other words for the same

-- merges that are made with the same are the same
pub same_merge : {C FP : Type 0} {order : CmpGhosts C} {filters : FilterGhosts FP}
    (choices : TableChoices order filters) {E F T W X : Type 0} (env : EnvGhosts E F) {first : ℕ}
    {walk : WalkGhosts W E T} {items : X → List FileMetaData} {start end : E × T} {it : W}
    {result : Result X Status} {later smallest : ℕ} (level : ℕ) (files inputs : List NewFile)
    {store own : List ℕ} {cmp by : List ℕ → List ℕ → Ordering} → store ≡ own → cmp ≡ by
    → MergesTables (merge_of choices store smallest (is_base_level_for cmp level files)
    (is_among_inputs cmp inputs)) env first walk items start it result later end
    → MergesTables (merge_of choices own smallest (is_base_level_for by level files)
    (is_among_inputs by inputs)) env first walk items start it result later end
same_merge choices env {first} {walk} {items} {start} {end} {it} {result} {later} {smallest} level
    files inputs {store} {own} {cmp} {by} stores orders merged =
    subst (λ o. MergesTables (merge_of choices own smallest (is_base_level_for o level files)
    (is_among_inputs o inputs)) env first walk items start it result later end) orders
    (subst (λ s. MergesTables (merge_of choices s smallest (is_base_level_for cmp level files)
    (is_among_inputs cmp inputs)) env first walk items start it result later end) stores merged)

-- the open tables are these
pub replaced_in : {E F C FP D P X : Type 0} {order : CmpGhosts (InternalKeyCmp C)}
    (env : EnvGhosts E F) {by : TableOptions C FP} {old : OpenStoreValue C} {from : E}
    {keys : CmpGhosts D} {filters : FilterGhosts P} {choices : TableChoices keys filters}
    {smallest : ℕ} {it : CompactionValue C} {files : X → List NewFile} {result : Result X Status}
    {new : OpenStoreValue C} {to : E} {before tables after : TableCache E C FP F}
    (now : TableCache E C FP F) → before ≡ tables → now ≡ after
    → MakesReplacements order env by old from before choices smallest it files result new to after
    → MakesReplacements order env by old from tables choices smallest it files result new to now
replaced_in {order = order} env {by} {old} {from} {choices = choices} {smallest} {it} {files} {result}
    {new} {to} {before} {tables} {after} now were is made =
    subst (λ t. MakesReplacements order env by old from tables choices smallest it files result new to
    t) (sym is)
    (subst (λ t. MakesReplacements order env by old from t choices smallest it files result new to
    after) were made)
