-- An engine's store shows the history from the smallest number on that is held: so as it is now,
-- and at each snapshot that is held. And why its tables aren't made, as a cause of the machine.
use Rattle.std.specs.Prelude.{Contains, map}
use Rattle.std.proofs.Common.{◌≡◌, ◌≢◌, ◌≤◌, ◌<◌, ◌⊎◌, ⊎_elim, inl, inr, ℕ, List, [], ◌∷◌, refl, sym, ap, subst, arith, Option, Some, None, IsTrue}
use Rattle.std.proofs.lemmas.Bool.{cases_lt}
use Rattle.std.specs.declared.cmp.Ordering.{Ordering}
use Rattle.leveldb_base.specs.Entries.{internal_pair}
use Rattle.leveldb_base.specs.Error.{IsOutOfMemory, text_of}
use Rattle.leveldb_base.specs.History.{History, entries_of, greatest}
use Rattle.leveldb_base.specs.Types.{Pair}
use Rattle.leveldb_base.specs.declared.error.Status.{Status}
use Rattle.leveldb_base.proofs.EntriesLemmas.{in_map, map_in}
use Rattle.leveldb_base.proofs.HistoryLemmas.{in_none}
use Rattle.leveldb_env.specs.Env.{Files}
use Rattle.leveldb_env.specs.Options.{Boxed, OptionsOf}
use Rattle.leveldb_env.specs.declared.env.Env.{Ghosts}
use Rattle.leveldb_env.specs.declared.filter.FilterPolicy.{Ghosts as FilterGhosts}
use Rattle.leveldb_iter.specs.Snapshot.{IsSmallestHeld}
use Rattle.leveldb_iter.specs.declared.snapshot.Snapshot.{Snapshot as HeldSnapshot}
use Rattle.leveldb_mem.specs.MemTable.{Kept}
use Rattle.leveldb_files.specs.Stores.Format.{Agrees, Format, HasCompressorError, LacksCompressor, Meaning}
use Rattle.leveldb_version_set.specs.Compactions.ShownFrom.{IsFrom, KeepsFrom}
use Rattle.leveldb_version.specs.Tables.TableCache.{TableOptions}
use Rattle.leveldb_store.proofs.Tables.NotBuiltLemmas.{not_built_causes}
use Rattle.leveldb_store.specs.Tables.BuildTable.{IsNotBuilt, TableChoices}
use Rattle.leveldb_store.specs.Compactions.Compact.{FailsToCompactRange, HasTablesWritten}
use Rattle.leveldb_store.specs.Keeping.OpenStore.{OpenStoreValue}
use Rattle.leveldb_store.specs.Reading.Read.{HasOpenTables}
use Rattle.leveldb_store.specs.Writing.Room.{AreEntriesNotBuilt, HasFailed}
use Rattle.leveldb_store.specs.Keeping.Written.{HasLiveTables, IsWritten, HasView}
use Rattle.rusty_leveldb.specs.Engines.Boxes.{EngineOf, InternalOrder}
use Rattle.rusty_leveldb.specs.Machines.Causes.{Cause, IsCausedBy, CompressorFails, ReachesDevice, ReadsTables, Setting, TakesMemory, WritesTables, block_format, compressor_failed, device_failed, lacks_compressor, out_of_memory, too_large}
use Rattle.rusty_leveldb.specs.Engines.Engine.{Recalls, ShowsViews, formats_of, engine_options, tables_by}
use Rattle.rusty_leveldb.specs.Engines.Serves.{Represents, refusal_of, setting_between, snapshot_of}
use Rattle.rusty_leveldb.specs.Machines.State as machine
use Rattle.rusty_leveldb.specs.Machines.State.{Request, Snapshot, State}
use Rattle.rusty_leveldb.proofs.Engines.EngineLemmas.{agreeing, is_of, not_closed, same_format}

-- ---- the smallest number that is held

-- snapshots that are held, or none
any_held : (held : List HeldSnapshot) → (held ≡ []) ⊎ (held ≢ [])
any_held [] = inl refl
any_held (one ∷ others) = inr (λ is. let never : (one ∷ others) ≡ [] = is in cc)

-- A number up to the last one and up to that of each snapshot which is held is up to the smallest
-- that is held.
up_to_smallest : (held : List HeldSnapshot) (last smallest since : ℕ)
    → IsSmallestHeld held last smallest → since ≤ last
    → ((one : HeldSnapshot) → Contains held one → since ≤ one.sequence) → since ≤ smallest
up_to_smallest held last smallest since is now each = ⊎_elim
    (λ (no : held ≡ []). let all = is.none no in omega (arith, all, now))
    (λ (some : held ≢ []).
    let oldest = (is.some some).there some in
    let same = oldest.2 in
    let most = each oldest.0 oldest.1 in omega (arith, same, most))
    (any_held held)

-- and the smallest is up to each
smallest_up_to : (held : List HeldSnapshot) (last smallest : ℕ) → IsSmallestHeld held last smallest
    → (one : HeldSnapshot) → Contains held one → smallest ≤ one.sequence
smallest_up_to held last smallest is one there = ⊎_elim
    (λ (no : held ≡ []). absurd (in_none one (subst (λ h. Contains h one) no there)))
    (λ (some : held ≢ []). (is.some some).least one there)
    (any_held held)

-- ---- a store that is written, of an engine that is open

-- a request that writes tables of what is in memory, and merges others
pub record MakesTables (old : State) (request : Request) : Type 0 where
  pub memory : TakesMemory request
  pub device : ReachesDevice request
  pub writes : WritesTables request
  pub reads : ReadsTables request
  pub format : block_format old request ≡ Some old.format

module _ {E C FP F P : Type 0} {B : Boxed} {keys : InternalOrder C} {key_filters : FilterGhosts P}
    (env : Ghosts E F) (choices : OptionsOf C FP B → TableChoices keys key_filters)
    (store : List ℕ) (meaning : Meaning) (before : EngineOf E C FP F B) (from : E)
    (old : State)
    (was : Represents store meaning (Recalls keys env (formats_of choices) store meaning) (Some before)
    (env.observed from).disk old) (opened : before.mode ≡ machine.open_mode)
    (modelled : IsTrue env.models_disk) where
  abbrev formats : OptionsOf C FP B → Format
  formats = formats_of choices

  abbrev by : TableOptions C FP
  by = tables_by formats before

  abbrev order : List ℕ → List ℕ → Ordering
  order = old.format.order

  abbrev files : Files
  files = (env.observed from).disk.files

  usable : old.mode ≡ machine.closed → ⊥
  usable = not_closed env formats store meaning before from old was opened

  same : formats (engine_options before) ≡ old.format
  same = same_format env formats store meaning before from old was opened

  -- names and ids mean what its format says
  pub agrees_by : Agrees by.format meaning
  agrees_by = subst (λ (f : Format). Agrees f meaning) (sym same)
      (agreeing env formats store meaning before from old was opened)

  -- the open tables are those of the store
  pub has_open : HasOpenTables keys env by before.store from before.tables
  has_open = record { modelled = modelled; are = was.memory_is.tables usable }

  -- it is written, in the order of its format
  pub written_by : IsWritten by.format.order meaning before.store files
  written_by = subst (λ (f : Format). IsWritten f.order meaning before.store files) (sym same)
      (is_of env formats store meaning before from old was opened).written

  pub views : ShowsViews meaning before.store files old
  views = was.memory_is.shows usable

  -- ---- what is shown

  -- the snapshots of the state are the engine's
  held_is : map snapshot_of before.snapshots.held ≡ old.held
  held_is = (was.memory_is.snapshots usable).held

  abbrev newest : ℕ
  newest = greatest (entries_of old.history)

  module _ (smallest : ℕ)
      (is : IsSmallestHeld before.snapshots.held before.store.set.last_sequence smallest) where
    since_within : views.since ≤ smallest
    since_within =
        let now = views.now in
        let reached = was.disk_is.is_state.reached in
        let last = was.memory_is.last usable in
        up_to_smallest before.snapshots.held before.store.set.last_sequence smallest views.since
        is (omega (arith, now, reached, last))
        (λ one there. views.held (snapshot_of one) (subst (λ h. Contains h (snapshot_of one)) held_is
        (map_in snapshot_of before.snapshots.held one there)))

    smallest_within : (one : Snapshot) → Contains old.held one → smallest ≤ one.sequence
    smallest_within one there =
        let found = in_map snapshot_of before.snapshots.held one
        (subst (λ h. Contains h one) (sym held_is) there) in
        subst (λ (s : Snapshot). smallest ≤ s.sequence) found.2
        (smallest_up_to before.snapshots.held before.store.set.last_sequence smallest is found.0
        found.1)

    -- A store that keeps what is shown from the smallest held number on shows the views: from that
    -- number on, or from the newest entry's if that is the smaller one.
    pub views_held : (value : OpenStoreValue C) (then : Files)
        → ((history : History) → KeepsFrom smallest history
        (HasView order meaning before.store files history) (HasView order meaning value then history))
        → ShowsViews meaning value then old
    views_held value then keeps = ⊎_elim
        (λ (less : newest < smallest).
        from_here newest views.now (inr (omega arith)) (omega arith)
        (λ one there. let most = smallest_within one there in omega (arith, less, most)))
        (λ (most : smallest ≤ newest).
        from_here smallest since_within (inl (omega arith)) most smallest_within)
        (cases_lt newest smallest)
      where
        from_here : (least : ℕ) → views.since ≤ least → IsFrom smallest old.history least
            → least ≤ newest → ((one : Snapshot) → Contains old.held one → least ≤ one.sequence)
            → ShowsViews meaning value then old
        from_here least more reaches now each = record {
          since = least;
          shows = keeps old.history views.since least views.shows more reaches;
          now = now;
          held = each;
        }

  -- ---- why no tables are made

  module _ (request : Request) (is : MakesTables old request) (to : E) (status : Status) where
    abbrev setting : Setting
    setting = setting_between meaning (env.failures from) (env.failures to)

    abbrev HasCause : Type 0
    HasCause = (cause : Cause) × IsCausedBy setting old request (refusal_of status) cause

    pub by_memory : IsOutOfMemory status
        → IsCausedBy setting old request (refusal_of status) out_of_memory
    by_memory memory = (is.memory, memory.0, ap text_of memory.1)

    pub by_device : HasFailed (env.failures from) (env.failures to)
        → IsCausedBy setting old request (refusal_of status) device_failed
    by_device failed = (is.device, failed)

    -- no table is built of some pairs
    not_in_tables : (pairs : List Pair) → IsNotBuilt (choices (engine_options before)) pairs status → HasCause
    not_in_tables pairs not = ⊎_elim (λ memory. (out_of_memory, by_memory memory))
        (λ other. ⊎_elim (λ code. (too_large, (is.writes, code)))
        (λ fails. (
          compressor_failed,
          subst (λ (f : Option Format). CompressorFails f status.code) (sym is.format)
              (subst (λ (f : Format). HasCompressorError f status.code) same fails),
        )) other)
        (not_built_causes (choices (engine_options before)) pairs status not)

    -- or of entries in memory
    entries_not_in_tables : (kept : Option Kept)
        → AreEntriesNotBuilt (choices (engine_options before)) kept status → HasCause
    entries_not_in_tables None never = absurd never
    entries_not_in_tables (Some kept) not = not_in_tables (map internal_pair kept.entries) not

    has_written : HasTablesWritten keys env by before.store from before.tables meaning
        views.shows.tables
    has_written = record {
      has_open = has_open;
      agrees = agrees_by;
      written = written_by;
      has_live = subst (λ (f : Format). HasLiveTables f.order meaning before.store files
          views.shows.tables) (sym same) views.shows.has;
    }

    pub tables_cause : (left : OpenStoreValue C) → FailsToCompactRange keys env by before.store from
        before.tables (choices (engine_options before)) left status
        ⊎ HasFailed (env.failures from) (env.failures to) → HasCause
    tables_cause left (inl (inl (inl memory))) = (out_of_memory, by_memory memory)
    tables_cause left (inl (inl (inr (inl used)))) = (too_large, (is.writes, used.code))
    tables_cause left (inl (inl (inr (inr (inl not))))) = not_in_tables not.pairs not.not_built
    tables_cause left (inl (inl (inr (inr (inr lost))))) =
        let why = lost.lacks meaning views.shows.tables has_written in (
          lacks_compressor,
          (is.reads, why.0, subst (λ (f : Format). LacksCompressor f meaning) same why.1),
        )
    tables_cause left (inl (inr (inl few))) = (too_large, (is.writes, few.code))
    tables_cause left (inl (inr (inr (inl mem)))) =
        entries_not_in_tables (Some before.store.mem) mem
    tables_cause left (inl (inr (inr (inr imm)))) = entries_not_in_tables before.store.imm imm
    tables_cause left (inr failed) = (device_failed, by_device failed)
