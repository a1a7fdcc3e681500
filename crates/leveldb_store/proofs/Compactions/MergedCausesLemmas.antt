-- A compaction's tables that are merged: what is known of the walk over them, where the store is
-- written, and why the merge fails.
use Rattle.std.specs.Prelude.{Contains, Result}
use Rattle.std.proofs.Common.{◌≡◌, ◌<◌, ◌≤◌, ◌^◌, ◌+◌, ◌-◌, ◌⊎◌, ◌∙◌, inl, inr, ⊎_elim, ℕ, List, ◌++◌, Option, None, Some, Ok, Err, refl, sym, ap, subst, arith}
use Rattle.std.proofs.lemmas.List.Elements.{Contains-append_left, Contains-append_right}
use Rattle.std.specs.declared.cmp.Ordering.{Ordering}
use Rattle.leveldb_base.proofs.EntriesLemmas.{map_in}
use Rattle.leveldb_base.specs.Cmp.{IsExactOrder}
use Rattle.leveldb_base.specs.Entries.{entries_of_pairs, entry_of_pair}
use Rattle.leveldb_base.specs.Error.{IsOutOfMemory}
use Rattle.leveldb_base.specs.History.{AreRising}
use Rattle.leveldb_base.specs.KeyTypes.{internal_cmp, user_part}
use Rattle.leveldb_base.specs.Types.{Pair}
use Rattle.leveldb_base.specs.declared.cmp.Cmp.{Ghosts as CmpGhosts}
use Rattle.leveldb_base.specs.declared.cmp.internal.InternalKeyCmp.{InternalKeyCmp}
use Rattle.leveldb_base.specs.declared.error.Status.{Status}
use Rattle.leveldb_base.specs.declared.error.StatusCode.{StatusCode}
use Rattle.leveldb_base.specs.declared.error.StatusCode.TheVariants.{AlreadyExists, CompressionError, Corruption, IOError, InvalidArgument, InvalidData, LockError, NotFound, NotSupported, OK, OutOfMemory, PermissionDenied, Unknown}
use Rattle.leveldb_base.specs.declared.types.FileMetaData.{FileMetaData}
use Rattle.leveldb_env.specs.Compressor.{Codings}
use Rattle.leveldb_env.specs.EnvFile.{failed}
use Rattle.leveldb_env.specs.declared.env.Env.{Ghosts as EnvGhosts}
use Rattle.leveldb_env.specs.declared.filter.FilterPolicy.{Ghosts as FilterGhosts}
use Rattle.leveldb_iter.specs.Walk.{key_order}
use Rattle.leveldb_iter.specs.declared.merging_iter.MergeCore.{MergeCore}
use Rattle.leveldb_iter.specs.declared.walk.Walk.{Ghosts as WalkGhosts}
use Rattle.leveldb_version_set.proofs.Compactions.AmongLemmas.{among_tells}
use Rattle.leveldb_version_set.proofs.Compactions.ContradictionLemmas.{tables_agree_with_edits}
use Rattle.leveldb_files.proofs.Stores.OneStoreLemmas.{flat_in, in_flat}
use Rattle.leveldb_version.proofs.Versions.SearchLemmas.{all_from_contains}
use Rattle.leveldb_version.specs.Versions.DeeperLevels.{is_base_level_for}
use Rattle.leveldb_version_set.specs.Compactions.Contradictions.{AgreeWithEdits, is_among_inputs}
use Rattle.leveldb_files.specs.Stores.Format.{Agrees, IsTableFault, LacksCompressor, Meaning}
use Rattle.leveldb_files.specs.Levels.Levels.{LiveTable, table_entries}
use Rattle.leveldb_version_set.specs.Compactions.Picking.{CompactionValue}
use Rattle.leveldb_files.specs.Stores.Store.{SameEntries}
use Rattle.leveldb_version.specs.Tables.TableCache.{TableOptions}
use Rattle.leveldb_version.specs.Versions.Version.{VersionValue, new_files_of}
use Rattle.leveldb_version.specs.Walks.VersionIters.{AreTablesToWalk}
use Rattle.leveldb_version.specs.declared.table_cache.moves.ReadTables.{ReadTables}
use Rattle.leveldb_version.specs.declared.version_iter.VersionIter.{VersionIter}
use Rattle.leveldb_store.specs.Tables.BuildTable.{TableChoices}
use Rattle.leveldb_store.specs.Compactions.Compact.{FailsToMerge, HasTablesWritten, IsOfStore}
use Rattle.leveldb_store.specs.Compactions.Merging.{AreRead, BearsNewTables, IsReachedFrom, FailsOnWay, IsMergeFault, Merge, MergesTables, MovesLeaveFiles, merge_of}
use Rattle.leveldb_store.specs.Compactions.MergeInputs.{MergesTablesOf}
use Rattle.leveldb_store.specs.Keeping.OpenStore.{OpenStoreValue}
use Rattle.leveldb_store.specs.Reading.Read.{HasOpenTables, in_memory}
use Rattle.leveldb_store.specs.Writing.Room.{FailsFor, HasFailed}
use Rattle.leveldb_store.specs.Tables.TableFile.{FailsToWrite}
use Rattle.leveldb_store.specs.Reading.View.{IsOfNoCompressor, IsWorldOf, options_in}
use Rattle.leveldb_store.proofs.Compactions.MergeInputsLemmas.{AreInternal}
use Rattle.leveldb_store.proofs.Compactions.MergedInputsLemmas.{input_files, inputs, inputs_fit, inputs_live, inputs_to_walk}
use Rattle.leveldb_store.proofs.Compactions.MergedOpenLemmas.{moves_leave, reads_below, reads_on}
use Rattle.leveldb_store.proofs.Compactions.MergingLemmas.{in_place_front}
use Rattle.leveldb_store.proofs.Reading.ViewLemmas.{wider}
use Rattle.leveldb_store.proofs.Reading.ViewReadsLemmas.{counted_or_not}

-- ---- out of memory

none_or_not : {A : Type 0} (o : Option A) → (o ≡ None) ⊎ (o ≡ None → ⊥)
none_or_not None = inl refl
none_or_not (Some x) = inr (λ e. absurd cc)

-- an error is out of memory, or not
memory_or_not : (status : Status) → IsOutOfMemory status ⊎ (IsOutOfMemory status → ⊥)
memory_or_not status = by status.code refl
  where
    other : {code : StatusCode} → status.code ≡ code → (code ≡ OutOfMemory → ⊥)
        → IsOutOfMemory status ⊎ (IsOutOfMemory status → ⊥)
    other is differs = inr (λ out. differs (sym is ∙ out.0))

    by : (code : StatusCode) → status.code ≡ code
        → IsOutOfMemory status ⊎ (IsOutOfMemory status → ⊥)
    by OK is = other is (λ e. absurd cc)
    by AlreadyExists is = other is (λ e. absurd cc)
    by Corruption is = other is (λ e. absurd cc)
    by CompressionError is = other is (λ e. absurd cc)
    by IOError is = other is (λ e. absurd cc)
    by InvalidArgument is = other is (λ e. absurd cc)
    by InvalidData is = other is (λ e. absurd cc)
    by LockError is = other is (λ e. absurd cc)
    by NotFound is = other is (λ e. absurd cc)
    by NotSupported is = other is (λ e. absurd cc)
    by PermissionDenied is = other is (λ e. absurd cc)
    by Unknown is = other is (λ e. absurd cc)
    by OutOfMemory is = ⊎_elim
        (λ (none : status.err ≡ None). inl (is, none))
        (λ some. inr (λ out. some out.1))
        (none_or_not status.err)

-- ---- the merge of a store's tables

module _ {E F C FP K P : Type 0} {keys : CmpGhosts (InternalKeyCmp C)}
    {key_filters : FilterGhosts P} (env : EnvGhosts E F) (cmp : CmpGhosts C)
    (filters : FilterGhosts FP) (codings : K → Codings)
    (walk : WalkGhosts (MergeCore (InternalKeyCmp C) (VersionIter C)) E (ReadTables E C FP K F))
    (value : OpenStoreValue C) (it : CompactionValue C)
    (choices : TableChoices keys key_filters) (policy : FP) (start : E × ReadTables E C FP K F)
    (walked : MergeCore (InternalKeyCmp C) (VersionIter C)) where
  -- with what tables are opened
  abbrev pub by_choices : TableOptions C FP
  by_choices = record { format = choices.format; cmp = choices.cmp.0; policy = policy }

  -- with what they are merged
  abbrev pub merge_for : ℕ → Merge keys key_filters
  merge_for smallest = merge_of choices value.set.store smallest
      (is_base_level_for choices.format.order (it.level + 1) (new_files_of it.version))
      (is_among_inputs choices.format.order (new_files_of it.inputs))

  -- what is known of the merge of the tables that a compaction takes, whatever they are
  pub record IsMergeOfStore : Type 0 where
    pub counts : (e : E) → env.failures e < 2 ^ 64
    pub exact : IsExactOrder choices.format.order
    -- one order of user keys
    pub same : choices.format.order ≡ cmp.cmp value.cmp
    pub own : choices.format.order ≡ cmp.cmp choices.cmp.0
    pub of : IsOfStore env.models_disk choices.format.order value it
    pub inputs_cmp : it.inputs.cmp ≡ it.version.cmp
    -- the store's open tables are read so
    pub reads : options_in env cmp filters codings start ≡ by_choices
    pub below : start.1.below ≡ value.set.next_file
    pub merges : MergesTablesOf keys env cmp filters codings walk it.inputs choices.cmp.0 walked

  module _ (m : IsMergeOfStore) where
    abbrev order : List ℕ → List ℕ → Ordering
    order = choices.format.order

    -- where the open tables are the store's, this is its world
    pub world_of : HasOpenTables keys env by_choices value start.0 start.1.cache.now
        → IsWorldOf keys env cmp filters codings value start
    world_of has = record {
      order_is = ap (λ (o : TableOptions C FP). o.format.order) m.reads ∙ m.same;
      below_is = m.below;
      has_open = subst (λ (o : TableOptions C FP).
          HasOpenTables keys env o value start.0 start.1.cache.now) (sym m.reads) has;
    }

    -- in which the walk bears new tables
    pub bears_new : HasOpenTables keys env by_choices value start.0 start.1.cache.now
        → BearsNewTables env walk value.set.store value.set.next_file start
    bears_new has = m.merges.bears value.set.store value.set.next_file start
        (reads_below env cmp filters codings value start (world_of has))

    -- ---- of a store that is written

    module _ (meaning : Meaning) (live : List LiveTable)
        (w : HasTablesWritten keys env by_choices value start.0 start.1.cache.now meaning live)
      where
        -- the tables that it takes
        abbrev pub taken : List LiveTable
        taken = inputs m.exact m.of meaning w.written w.has_live

        to_walk : AreTablesToWalk keys env cmp filters codings it.inputs meaning start taken
        to_walk = inputs_to_walk env cmp filters codings m.exact m.same m.of m.inputs_cmp m.merges.in_order start
            (world_of w.has_open) meaning
            (subst (λ (o : TableOptions C FP). Agrees o.format meaning) (sym m.reads) w.agrees)
            w.written w.has_live

        -- it compares as the tables were sorted
        order_is : cmp.cmp choices.cmp.0 ≡ cmp.cmp it.inputs.cmp
        order_is = sym m.own ∙ m.same
            ∙ sym (ap cmp.cmp (m.inputs_cmp ∙ ap (λ v. v.cmp) m.of.version_is ∙ m.of.current.cmp_is))

        -- the list that the walk is over
        pub record IsRead (pairs : List Pair) : Type 0 where
          pub over : walk.over start walked (key_order keys choices.cmp) pairs
          pub agreed : AgreeWithEdits order (new_files_of it.inputs) pairs
          pub entries : SameEntries (entries_of_pairs pairs) (table_entries taken)
          pub internal : AreInternal pairs

        pub listed : (pairs : List Pair) × IsRead pairs
        listed =
            let over = m.merges.over start meaning taken to_walk order_is in (
              over.0,
              record {
                over = over.1;
                agreed = subst (λ fs. AgreeWithEdits order fs over.0)
                    (input_files m.exact m.of meaning w.written w.has_live)
                    (tables_agree_with_edits order taken over.0 (entries_of_pairs over.0)
                    (inputs_fit m.exact m.of meaning w.written w.has_live).1 over.4
                    (λ entry there. (over.3 entry).0 there)
                    (subst (λ o. AreRising (internal_cmp o) over.0) (sym m.own) over.2));
                entries = over.3;
                internal = over.4;
              },
            )

        module _ (smallest : ℕ) (read : List Pair)
            (first : BearsNewTables env walk value.set.store value.set.next_file start
            → (pairs : List Pair) → walk.over start walked (key_order keys choices.cmp) pairs
            → (rest : List Pair) × (pairs ≡ read ++ rest)) where
          rest : (rest : List Pair) × (listed.0 ≡ read ++ rest)
          rest = first (bears_new w.has_open) listed.0 listed.1.over

          -- what was read of it is in place
          pub read_in_place : AreRead (merge_for smallest) read
          read_in_place = in_place_front read rest.0 (subst (AreRead (merge_for smallest)) rest.1
              (record {
                tagged = listed.1.agreed.tagged;
                rising = listed.1.agreed.rising;
                among = λ pair there. (among_tells order (new_files_of it.inputs)
                    (user_part pair.0)).1 (listed.1.agreed.within pair there);
              }))

          -- and has entries of live tables
          pub read_theirs : (pair : Pair) → Contains read pair
              → Contains (in_memory value ++ table_entries live) (entry_of_pair pair)
          read_theirs pair there =
              let all = subst (λ ps. Contains ps pair) (sym rest.1)
              (Contains-append_left read rest.0 pair there) in
              let entry = (listed.1.entries (entry_of_pair pair)).0
              (map_in entry_of_pair listed.0 pair all) in
              let table = in_flat (λ (t : LiveTable). t.entries) taken (entry_of_pair pair) entry in
              Contains-append_right (in_memory value) (table_entries live) (entry_of_pair pair)
              (flat_in (λ (t : LiveTable). t.entries) live table.0 (entry_of_pair pair)
              (inputs_live m.exact m.of meaning w.written w.has_live table.0 table.1) table.2)

    -- ---- why it fails

    module _ (smallest : ℕ) (end : E × ReadTables E C FP K F) (new : OpenStoreValue C) where
      abbrev Fails : Status → Type 0
      Fails = FailsToMerge keys env by_choices value start.0 start.1.cache.now choices new

      abbrev Counted : Type 0
      Counted = HasFailed (env.failures start.0) (env.failures end.0)

      -- a table can't be read, where nothing was counted
      lost : (status : Status) → env.failures start.0 ≤ env.failures end.0
          → IsTableFault choices.format status.code
          → (BearsNewTables env walk value.set.store value.set.next_file start
          → walk.fails start walked end status) → Fails status ⊎ Counted
      lost status up fault from_start = ⊎_elim
          (λ (out : IsOutOfMemory status). inl (inl out))
          (λ no_memory. ⊎_elim
          (λ (counted : Counted). inr counted)
          (λ none. inl (inr (inr (inr (record {
            fault = fault;
            lacks = λ meaning live w. ⊎_elim
                (λ (out : IsOutOfMemory status). absurd (no_memory out))
                (⊎_elim
                (λ (counted : Counted). absurd (uncounted none counted))
                (λ (lacks : IsOfNoCompressor
                (options_in env cmp filters codings start).format meaning status). (
                  lacks.0,
                  subst (λ (o : TableOptions C FP). LacksCompressor o.format meaning)
                      m.reads lacks.1,
                )))
                (m.merges.lacks start meaning (taken meaning live w) (to_walk meaning live w)
                (order_is meaning live w) end status (from_start (bears_new w.has_open)));
          })))))
          (counted_or_not (env.failures start.0) (env.failures end.0) (m.counts start.0)))
          (memory_or_not status)
        where
          uncounted : (env.failures end.0 ≡ 2 ^ 64 - 1 → ⊥)
              × (env.failures start.0 < env.failures end.0 → ⊥) → Counted → ⊥
          uncounted none (inl rose) = none.1 rose
          uncounted none (inr full) =
              let fits = m.counts end.0 in none.0 (omega (arith, full, up, fits))

      on_way : (status : Status) → env.failures start.0 ≤ env.failures end.0
          → FailsOnWay env walk value.set.store value.set.next_file start walked end status
          → Fails status ⊎ Counted
      on_way status up way =
          let before = reads_on env cmp filters codings walk m.merges.leaves value.set.store
          value.set.next_file start way.at way.come in
          let kept = (m.merges.leaves way.at end way.kept).tables.later in
          ⊎_elim
          (λ (out : IsOutOfMemory status). inl (inl out))
          (⊎_elim
          (λ (counted : HasFailed (env.failures way.at.0) (env.failures end.0)).
          inr (wider (env.failures start.0) (env.failures way.at.0) (env.failures end.0)
          (env.failures end.0) before.later kept (omega arith) counted))
          (λ fault. lost status up
          (subst (λ (o : TableOptions C FP). IsTableFault o.format status.code)
          (before.options ∙ m.reads) fault) way.from_start))
          (m.merges.fault way.at way.now end status way.failed)

      -- what was read isn't merged
      on_merge : (status : Status) (read : List Pair)
          → (BearsNewTables env walk value.set.store value.set.next_file start
          → (pairs : List Pair) → walk.over start walked (key_order keys choices.cmp) pairs
          → (rest : List Pair) × (pairs ≡ read ++ rest))
          → IsMergeFault (merge_for smallest) new.set.next_file read status → Fails status
      on_merge status read first (inl some) = inr (inr (inl (record {
        pairs = some.some;
        not_built = some.not_built;
        theirs = λ meaning live w. all_from_contains
            (λ pair. Contains (in_memory value ++ table_entries live) (entry_of_pair pair)) some.some
            (λ pair there. read_theirs meaning live w smallest read first pair
            (some.among pair there));
      })))
      on_merge status read first (inr (inl used_up)) =
          inr (inl used_up)
      on_merge status read first (inr (inr misplaced)) = inr (inr (inr (record {
        fault = inl misplaced.0;
        lacks = λ meaning live w.
            absurd (misplaced.1 (read_in_place meaning live w smallest read first));
      })))

      on_write : (status : Status) (mid : ℕ) → env.failures start.0 ≤ mid → (read : List Pair)
          → (BearsNewTables env walk value.set.store value.set.next_file start
          → (pairs : List Pair) → walk.over start walked (key_order keys choices.cmp) pairs
          → (rest : List Pair) × (pairs ≡ read ++ rest))
          → FailsToWrite (IsMergeFault (merge_for smallest) new.set.next_file read) mid (env.failures end.0)
          (failed status) → Fails status ⊎ Counted
      on_write status mid low read first fails = ⊎_elim
          (λ uncounted. ⊎_elim
          (λ (out : IsOutOfMemory status). inl (inl out))
          (λ own. inl (on_merge status read first own.0))
          uncounted)
          (λ counted. inr (⊎_elim
          (λ (more : env.failures end.0 ≡ mid + 1). inl (omega (arith, more, low)))
          (λ full. wider (env.failures start.0) mid (env.failures end.0) (env.failures end.0) low
          (omega (arith, full.1)) (omega arith) (inr full.0))
          counted))
          fails.cause

      pub why_unmerged : {X : Type 0} (items : X → List FileMetaData) (result : Result X Status)
          → MergesTables (merge_for smallest) env value.set.next_file walk items start walked result
          new.set.next_file end → FailsFor Fails (env.failures start.0) (env.failures end.0) result
      why_unmerged items (Ok x) merged = record { later = merged.changes.later; cause = tt }
      why_unmerged items (Err status) merged = record {
        later = merged.changes.later;
        cause = ⊎_elim (λ way. on_way status merged.changes.later way)
            (λ write. on_write status write.0 write.1 write.2 write.3 write.4) merged.cause;
      }

-- what is known of the merge, by what is known of its walk
pub merge_of_store : {E F C FP K P : Type 0} {keys : CmpGhosts (InternalKeyCmp C)}
    {key_filters : FilterGhosts P} (env : EnvGhosts E F) (cmp : CmpGhosts C)
    (filters : FilterGhosts FP) (codings : K → Codings)
    {walk : WalkGhosts (MergeCore (InternalKeyCmp C) (VersionIter C)) E (ReadTables E C FP K F)}
    {value : OpenStoreValue C} {it : CompactionValue C} {choices : TableChoices keys key_filters}
    {policy : FP} {start : E × ReadTables E C FP K F}
    {walked : MergeCore (InternalKeyCmp C) (VersionIter C)}
    → ((e : E) → env.failures e < 2 ^ 64) → IsExactOrder choices.format.order
    → choices.format.order ≡ cmp.cmp value.cmp → choices.format.order ≡ cmp.cmp choices.cmp.0
    → IsOfStore env.models_disk choices.format.order value it → it.inputs.cmp ≡ it.version.cmp
    → options_in env cmp filters codings start
    ≡ record { format = choices.format; cmp = choices.cmp.0; policy = policy }
    → start.1.below ≡ value.set.next_file
    → MergesTablesOf keys env cmp filters codings walk it.inputs choices.cmp.0 walked
    → IsMergeOfStore env cmp filters codings walk value it choices policy start walked
merge_of_store env cmp filters codings counts exact same own of inputs_cmp reads below merges =
    record {
      counts = counts;
      exact = exact;
      same = same;
      own = own;
      of = of;
      inputs_cmp = inputs_cmp;
      reads = reads;
      below = below;
      merges = merges;
    }

module _ {E F C FP K : Type 0} {keys : CmpGhosts (InternalKeyCmp C)} (env : EnvGhosts E F)
    (cmp : CmpGhosts C) (filters : FilterGhosts FP) (codings : K → Codings)
    {walk : WalkGhosts (MergeCore (InternalKeyCmp C) (VersionIter C)) E (ReadTables E C FP K F)}
    {inputs : VersionValue C} {compares : C} {it : MergeCore (InternalKeyCmp C) (VersionIter C)}
    (merges : MergesTablesOf keys env cmp filters codings walk inputs compares it) where
  -- the walk's moves change no file
  pub inputs_leave : MovesLeaveFiles env walk
  inputs_leave = moves_leave env cmp filters codings walk merges.leaves

  -- and the open tables stay borrowed
  pub inputs_reference : {store : List ℕ} {first : ℕ} {start end : E × ReadTables E C FP K F}
      → IsReachedFrom env walk store first start end
      → end.1.cache.ghost_name ≡ start.1.cache.ghost_name
  inputs_reference {store} {first} {start} {end} come =
      (reads_on env cmp filters codings walk merges.leaves store first start end come).reference
