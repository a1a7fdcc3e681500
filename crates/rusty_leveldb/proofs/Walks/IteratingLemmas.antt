-- An iterator that an engine made.
use Rattle.std.specs.Prelude.{Contains, IfErr, IfOk, Result, Ok, Err}
use Rattle.std.specs.Borrow.{MutBor}
use Rattle.std.proofs.Common.{◌≡◌, ◌≤◌, ◌⊎◌, ◌∙◌, ⊎_elim, inr, ℕ, List, refl, sym, ap, subst, arith, Option, Some, None, IsTrue}
use Rattle.leveldb_base.specs.Error.{IsOutOfMemory}
use Rattle.leveldb_base.specs.History.{IsView, entries_of}
use Rattle.leveldb_base.specs.Types.{Pair}
use Rattle.leveldb_base.specs.declared.cmp.Cmp.{Ghosts as CmpGhosts}
use Rattle.leveldb_base.specs.declared.error.Status.{Status}
use Rattle.leveldb_base.specs.declared.error.StatusCode.TheVariants.{InvalidArgument}
use Rattle.leveldb_env.specs.Compressor.{Codings}
use Rattle.leveldb_env.specs.Options.{Boxed, OptionsOf}
use Rattle.leveldb_env.specs.declared.compressor.CompressorList.{CompressorList}
use Rattle.leveldb_env.specs.declared.env.Env.{Ghosts}
use Rattle.leveldb_env.specs.declared.filter.FilterPolicy.{Ghosts as FilterGhosts}
use Rattle.leveldb_iter.specs.declared.walk.Walk.{Ghosts as WalkGhosts}
use Rattle.leveldb_files.specs.Stores.Format.{Agrees, Format, IsTableFault, Meaning, format_of}
use Rattle.leveldb_version.specs.Tables.TableCache.{TableOptions, files_at}
use Rattle.leveldb_version.specs.declared.table_cache.TableCache.{TableCache}
use Rattle.leveldb_version.specs.declared.table_cache.moves.ReadTables.{ReadTables}
use Rattle.leveldb_store.specs.Keeping.OpenStore.{OpenStoreValue}
use Rattle.leveldb_store.specs.Reading.Read.{HasOpenTables}
use Rattle.leveldb_store.specs.Reading.View.{FailsBetween, IsOfNoCompressor, IsWorldOf, ShowsIn, options_in}
use Rattle.leveldb_store.specs.Keeping.Written.{HasView}
use Rattle.rusty_leveldb.specs.Engines.Boxes.{EngineOf, InternalOrder}
use Rattle.rusty_leveldb.specs.Machines.Causes.{IsNotHeld}
use Rattle.rusty_leveldb.specs.Engines.Engine.{IsClosed, IsEngineSequence, Recalls, ShowsViews, WalkExcused, held_in, engine_options, tables_by}
use Rattle.rusty_leveldb.specs.Walks.Iterator.{EngineIterates, IsIterator, IsMadeOver, IteratesAt, shown_store, world_in}
use Rattle.rusty_leveldb.specs.Machines.Machine.{IsSequenceOf}
use Rattle.rusty_leveldb.specs.Engines.Serves.{Represents}
use Rattle.rusty_leveldb.specs.Machines.State as machine
use Rattle.rusty_leveldb.specs.Machines.State.{Snapshot, State}
use Rattle.rusty_leveldb.specs.declared.db_iter.StoreIterator.{StoreIterator}

-- what an iterator borrows is the environment that it was given
pub made_reference : {E C FP F K V : Type 0} (keys : InternalOrder C) (env : Ghosts E F)
    (cmp : CmpGhosts C) (filters : FilterGhosts FP) (codings : K → Codings)
    (walk : WalkGhosts V E (ReadTables E C FP K F)) (value : OpenStoreValue C) (policy : FP)
    (compressors : K) (environment : MutBor E) (tables : TableCache E C FP F) (sequence : ℕ)
    (r : Result (StoreIterator E C FP K V F) Status)
    → IfOk r (IsMadeOver keys env cmp filters codings walk value policy compressors environment tables sequence)
    → IfOk r (λ it. it.env.ghost_name ≡ environment.ghost_name)
made_reference keys env cmp filters codings walk value policy compressors environment tables sequence (Ok it) made =
    made.reference
made_reference keys env cmp filters codings walk value policy compressors environment tables sequence (Err e) made = tt

module _ {E C FP F V : Type 0} {B : Boxed} (keys : InternalOrder C) (env : Ghosts E F) (cmp : CmpGhosts C) (filters : FilterGhosts FP)
    (codings : CompressorList B.compressors B.compressor → Codings)
    (walk : WalkGhosts V E (ReadTables E C FP (CompressorList B.compressors B.compressor) F))
    (before : EngineOf E C FP F B) (from : E) (at : Option Snapshot) where
  abbrev formats : OptionsOf C FP B → Format
  formats = format_of {B = B} cmp filters codings

  abbrev format : Format
  format = formats (engine_options before)

  abbrev It : Type 0
  It = StoreIterator E C FP (CompressorList B.compressors B.compressor) V F

  -- no iterator is made
  pub unmade : (e : Status) → (IsClosed before.mode ⊎ IsNotHeld (held_in before) at → e.code ≡ InvalidArgument) → WalkExcused before at e
      → EngineIterates keys env cmp filters codings walk before from at (Err e)
  unmade e refused cause = record {
    over = tt;
    is = tt;
    none = tt;
    env_is = tt;
    tables_are = tt;
    refused = refused;
    cause = cause;
  }

  module _ (usable : IsClosed before.mode → ⊥) (sequence : ℕ) (reads_at : IsEngineSequence before at sequence) where
    -- the snapshot is held
    held : (snapshot : Option Snapshot) → IsEngineSequence before snapshot sequence → IsNotHeld (held_in before) snapshot → ⊥
    held None is unheld = unheld
    held (Some one) is unheld = unheld is.0

    -- so no cause is there
    never : {T : Type 0} → IsClosed before.mode ⊎ IsNotHeld (held_in before) at → T
    never why = absurd (⊎_elim (λ closed. usable closed) (λ unheld. held at reads_at unheld) why)

    module _ (it : It) (now : it.env.now ≡ from) (open_tables : it.tables.cache.now ≡ before.tables)
        (order_is : it.tables.cmp ≡ before.store.cmp) (policy_is : it.tables.policy ≡ before.options.filter_policy)
        (compressors_are : it.tables.compressors.now ≡ before.options.compressor_list) where
      -- it reads with the engine's options
      options_are : options_in env cmp filters codings (world_in it) ≡ tables_by formats before
      options_are = rw (order_is, policy_is, compressors_are) refl

  -- an iterator that is made over the engine's store
  module _ (usable : IsClosed before.mode → ⊥) (sequence : ℕ) (reads_at : IsEngineSequence before at sequence) (it : It)
      (environment : MutBor E) (tables : TableCache E C FP F) (from_is : environment.now ≡ from) (tables_is : tables ≡ before.tables)
      (made : IsMadeOver keys env cmp filters codings walk before.store before.options.filter_policy before.options.compressor_list environment tables sequence it) where
    abbrev now : it.env.now ≡ from
    now = made.env_is ∙ from_is

    abbrev open_tables : it.tables.cache.now ≡ before.tables
    open_tables = made.reading.cache_is ∙ tables_is

    options : options_in env cmp filters codings (world_in it) ≡ tables_by formats before
    options = options_are usable sequence reads_at it now open_tables made.reading.order_is made.reading.policy_is made.reading.compressors_are

    format_is : (options_in env cmp filters codings (world_in it)).format ≡ format
    format_is = ap (λ (o : TableOptions C FP). o.format) options

    is_iterator : IsIterator keys env cmp filters codings walk format it
    is_iterator = record {
      format_is = format_is;
      fails = λ to status fails. subst (λ (f : Format). FailsBetween env (world_in it) to (λ e. IsTableFault f e.code) status) format_is
          (made.views.fault (world_in it) to status fails);
      reads = made.reads;
      laws = made.views.laws;
    }

    module _ (store : List ℕ) (meaning : Meaning) (modelled : IsTrue env.models_disk) (state : State)
        (was : Represents store meaning (Recalls keys env formats store meaning) (Some before) (env.observed from).disk state) where
      not_closed : state.mode ≡ machine.closed → ⊥
      not_closed is = usable (was.memory_is.mode ∙ is)

      same_format : format ≡ state.format
      same_format = was.memory_is.format not_closed

      shown : ShowsViews meaning before.store (env.observed from).disk.files state
      shown = was.memory_is.shows not_closed

      shows : HasView format.order meaning before.store (env.observed from).disk.files state.history shown.since
      shows = subst (λ (f : Format). HasView f.order meaning before.store (env.observed from).disk.files state.history shown.since) (sym same_format) shown.shows

      last_is : before.store.set.last_sequence ≡ state.last
      last_is = was.memory_is.last not_closed

      reads_in : (snapshot : Option Snapshot) → IsEngineSequence before snapshot sequence → IsSequenceOf state snapshot sequence × (shown.since ≤ sequence)
      reads_in None is = (
        is ∙ last_is,
        let least = shown.now in let reached = was.disk_is.is_state.reached in omega (arith, least, reached, is, last_is),
      )
      reads_in (Some one) is =
          let held : Contains state.held one = subst (λ held. Contains held one) (was.memory_is.snapshots not_closed).held is.0 in (
            (held, is.1),
            let least = shown.held one held in omega (arith, least, is.1),
          )

      has_open : HasOpenTables keys env (options_in env cmp filters codings (world_in it)) before.store it.env.now it.tables.cache.now
      has_open = rw (options, now, open_tables) (record { modelled = modelled; are = was.memory_is.tables not_closed })

      is_world : IsWorldOf keys env cmp filters codings before.store (world_in it)
      is_world = record { order_is = ap (λ (c : C). cmp.cmp c) made.reading.order_is; below_is = made.reading.below_is; has_open = has_open }

      abbrev shows_now : HasView format.order meaning before.store (files_at env it.env.now) state.history shown.since
      shows_now = subst (λ (e : E). HasView format.order meaning before.store (files_at env e) state.history shown.since) (sym now) shows

      abbrev shows_in : ShowsIn keys env cmp filters codings before.store meaning state.history shown.since (world_in it)
      shows_in = record {
        is_world = is_world;
        agrees = subst (λ (f : Format). Agrees f meaning) (sym (format_is ∙ same_format)) (was.disk_is.agrees not_closed);
        shows = shows_now;
      }

      view : (pairs : List Pair) × IsView format.order (entries_of state.history) sequence pairs
          × IteratesAt keys env cmp filters codings walk (shown_store before.store format meaning) pairs None it
      view =
          let over = made.views.over (world_in it) meaning state.history shown.since (reads_in at reads_at).1 shows_in in (
            over.0,
            over.1,
            record {
              is_iterator = is_iterator;
              is_at = over.2;
              pair_is = made.views.none;
              fails = λ to status fails. subst (λ (f : Format). FailsBetween env (world_in it) to (IsOfNoCompressor f meaning) status) format_is
                  (made.views.lacks (world_in it) meaning state.history shown.since shows_in to status fails);
              has_open = is_world;
            },
          )

      iterates : (sequence : ℕ) × IsSequenceOf state at sequence × (pairs : List Pair) × IsView state.format.order (entries_of state.history) sequence pairs
          × IteratesAt keys env cmp filters codings walk (shown_store before.store state.format meaning) pairs None it
      iterates = (
        sequence,
        (reads_in at reads_at).0,
        view.0,
        subst (λ (f : Format). IsView f.order (entries_of state.history) sequence view.0) same_format view.1,
        subst (λ (f : Format). IteratesAt keys env cmp filters codings walk (shown_store before.store f meaning) view.0 None it) same_format view.2,
      )

    pub made_iterates : EngineIterates keys env cmp filters codings walk before from at (Ok it)
    made_iterates = record {
      over = λ modelled store meaning state was. iterates store meaning modelled state was;
      is = is_iterator;
      none = made.views.none;
      env_is = now;
      tables_are = open_tables;
      refused = λ why. never usable sequence reads_at why;
      cause = tt;
    }

  -- one that is made, or no memory for it
  pub iterates_by : (IsClosed before.mode → ⊥) → (sequence : ℕ) → IsEngineSequence before at sequence
      → (environment : MutBor E) (tables : TableCache E C FP F) → environment.now ≡ from → tables ≡ before.tables → (r : Result It Status)
      → IfOk r (IsMadeOver keys env cmp filters codings walk before.store before.options.filter_policy before.options.compressor_list environment tables sequence)
      → IfErr r IsOutOfMemory → EngineIterates keys env cmp filters codings walk before from at r
  iterates_by usable sequence reads_at environment tables from_is tables_is (Ok it) made memory =
      made_iterates usable sequence reads_at it environment tables from_is tables_is made
  iterates_by usable sequence reads_at environment tables from_is tables_is (Err e) made memory =
      unmade e (λ why. never usable sequence reads_at why) (inr (inr memory))
