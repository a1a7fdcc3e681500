-- An opening that is done.
use Rattle.std.specs.Prelude.{IsSome}
use Rattle.std.proofs.Common.{◌≡◌, ◌≢◌, ◌≤◌, ◌∙◌, ⊎_elim, inl, inr, ℕ, Bool, true, false, List, [], sym, ap, subst, arith, None, Some, Ok, IsTrue}
use Rattle.leveldb_env.specs.Env.{Files, Run}
use Rattle.leveldb_env.specs.Options.{Boxed, OptionsOf}
use Rattle.leveldb_env.specs.declared.env.Env.{Ghosts}
use Rattle.leveldb_env.specs.declared.filter.FilterPolicy.{Ghosts as FilterGhosts}
use Rattle.leveldb_env.proofs.EnvLemmas.{Run-mono, SameBut-created}
use Rattle.leveldb_table.specs.Cache.{Cached, value_of}
use Rattle.leveldb_files.specs.Stores.Contents.{made}
use Rattle.leveldb_files.specs.Stores.Paths.{lock_path}
use Rattle.leveldb_files.specs.Steps.StoreSteps.{AppendedAreBytes}
use Rattle.leveldb_version.specs.Tables.TableCache.{IsNewTableCache, MatchesFiles, StoreTable, TableOptions, table_key, table_options}
use Rattle.leveldb_version_set.specs.Sets.VersionSetValue.{VersionSetValue}
use Rattle.leveldb_version.specs.declared.table_cache.TableCache.{TableCache}
use Rattle.leveldb_store.proofs.Keeping.KeptFilesLemmas.{keeping, opens_keeping}
use Rattle.leveldb_store.proofs.Openings.EndedLemmas.{ended_aside, ended_bytes, ended_files, ended_keeps, ended_later, ended_locks, ended_open, ended_time}
use Rattle.leveldb_store.proofs.Writing.RemovalLemmas.{leaves_since}
use Rattle.leveldb_store.specs.Tables.BuildTable.{TableChoices}
use Rattle.leveldb_store.specs.Compactions.Compact.{FailsToMerge, KeepsCompacted}
use Rattle.leveldb_store.specs.Openings.EndsOpening.{EndsOpening}
use Rattle.leveldb_files.specs.Stores.Format.{Agrees, Format, Meaning}
use Rattle.leveldb_store.specs.Keeping.OpenStore.{OpenStoreValue}
use Rattle.leveldb_store.specs.Keeping.OpenTables.{AreOpenTablesOf}
use Rattle.leveldb_store.specs.Openings.OpensStore.{IsForbidden, LacksUsableEdits, OpensStore}
use Rattle.leveldb_store.specs.Reading.Read.{HasOpenTables}
use Rattle.leveldb_store.specs.Writing.Room.{ChangesLoggerOnly}
use Rattle.leveldb_store.specs.Keeping.SoundCall.{BytesAreAppended}
use Rattle.leveldb_store.specs.Keeping.SetAside.{IsAsidePath}
use Rattle.leveldb_store.specs.Keeping.Written.{IsDataPath}
use Rattle.leveldb_store.specs.Keeping.WrittenFrom.{KeepsWrittenFrom}
use Rattle.leveldb_store.specs.Writing.Removal.{LeavesObsolete}
use Rattle.rusty_leveldb.specs.Engines.Boxes.{EngineOf, InternalOrder}
use Rattle.rusty_leveldb.specs.Engines.Calls.{EngineOpens}
use Rattle.rusty_leveldb.specs.Engines.Engine.{AnswersAs, formats_of, HasOwnTables, IsOpening, IsStoreName, Recalls, no_engine, engine_options, scene, tables_by}
use Rattle.rusty_leveldb.specs.Engines.Frame.{IsOwn, Spares}
use Rattle.rusty_leveldb.specs.Machines.Machine.{Opens}
use Rattle.rusty_leveldb.specs.Engines.Serves.{AreReadAs, TakesStep, IsSpared, Represents}
use Rattle.rusty_leveldb.specs.Machines.State.{Opening, State, done, open_mode, open_store}
use Rattle.rusty_leveldb.proofs.Openings.LateOpeningLemmas.{made_bytes}
use Rattle.rusty_leveldb.proofs.Machines.MachineLemmas.{risk_opening}
use Rattle.rusty_leveldb.proofs.Openings.OpeningLemmas.{contents, fits_or_not, is_sound, lock_spares, opened_found, opened_goes, other_lacks}
use Rattle.rusty_leveldb.proofs.Engines.ReadsLemmas.{IsNamed}
use Rattle.rusty_leveldb.proofs.Engines.RowLemmas.{open_row}
use Rattle.rusty_leveldb.proofs.Openings.UnderLockLemmas.{IsTaken, LooksNoFurther, but, late_spares, made_aside, never_here, own_not_aside}

-- ---- the open tables

-- Those of a store are none, where none is open.
pub none_open : {E C FP F : Type 0} {B : Boxed} {keys : InternalOrder C} (env : Ghosts E F)
    (by : TableOptions C FP) (set : VersionSetValue) (options : OptionsOf C FP B)
    (none : TableCache E C FP F) (opened : E) (store : List ℕ) → set.store ≡ store
    → IsNewTableCache store options none
    → ((by : TableOptions C FP) (files : Files) → MatchesFiles keys env by files none)
    → AreOpenTablesOf keys env by set (env.observed opened).disk.files none
none_open {E} {C} {FP} {F} env by set options none opened store path is_new matches = record {
  path = is_new.path ∙ sym path;
  given = λ number fits is_open.
      let never : false ≡ true = subst
      (λ (tables : Cached (StoreTable C FP F)).
      IsSome (value_of (table_key number) tables.pairs)) is_new.tables is_open in absurd (cc never);
  matches = matches by (env.observed opened).disk.files;
}

module _ {E C FP F P : Type 0} {B : Boxed} {keys : InternalOrder C} {key_filters : FilterGhosts P}
    (env : Ghosts E F) (choices : OptionsOf C FP B → TableChoices keys key_filters)
    (store : List ℕ) (options : OptionsOf C FP B) (asked : Opening) (from taken opened to : E)
    (engine : EngineOf E C FP F B)
    (took : IsTrue env.models_disk → IsTaken store (env.observed from) (env.observed taken))
    (limit : ℕ)
    (first : OpenStoreValue C)
    (opens_first : OpensStore env store asked.format asked.create_if_missing asked.error_if_exists
    taken limit (Ok first) opened)
    (opens_count : env.failures opened ≡ env.failures taken)
    (bytes_go : BytesAreAppended env taken opened) (cache : TableCache E C FP F)
    (no_open : IsTrue env.models_disk → AreOpenTablesOf keys env
    (table_options (formats_of choices options) options) first.set (env.observed opened).disk.files
    cache)
    (ends : EndsOpening keys env (table_options (formats_of choices options) options) first opened
    cache (choices options) (Ok tt) engine.store to engine.tables)
    (mode : engine.mode ≡ open_mode)
    (unheld : engine.snapshots ≡ record { held = []; given = 0 })
    (unlooked : engine.looked_at ≡ 0)
    (lock : engine.lock ≡ lock_path store)
    (tells : ChangesLoggerOnly options engine.options) (cmp : first.cmp ≡ options.cmp)
    (ignores : (a b : OptionsOf C FP B) → ChangesLoggerOnly a b → formats_of choices b ≡ formats_of choices a)
    (asked_is : formats_of choices options ≡ asked.format)
    (counted : env.failures taken ≡ env.failures from)
    (in_time : (env.observed from).moment ≤ (env.observed taken).moment)
    (is_limit : limit ≡ options.write_buffer_size)
    (well : IsStoreName store × IsTrue asked.fits × IsTrue asked.compresses) where
  abbrev formats : OptionsOf C FP B → Format
  formats = formats_of choices

  abbrev here : Files
  here = (env.observed taken).disk.files

  -- the store as it was opened, which keeps its files or not
  abbrev value : OpenStoreValue C
  value = keeping first engine.store.kept_to

  opens : OpensStore env store asked.format asked.create_if_missing asked.error_if_exists taken limit
      (Ok value) opened
  opens = opens_keeping first engine.store.kept_to env store asked.format
      asked.create_if_missing asked.error_if_exists taken limit opened opens_first

  -- what the end of the opening keeps, before damaged files are set aside
  abbrev kept : KeepsCompacted keys env (table_options (formats_of choices options) options)
      value opened cache value.set.last_sequence
      (FailsToMerge keys env (table_options (formats_of choices options) options)
      value opened cache (choices options)) ends.first.compacted
      engine.store ends.at engine.tables
  kept = ends.first.compacts.keeps

  same_cmp : engine.store.cmp ≡ options.cmp
  same_cmp = kept.rest.cmp ∙ cmp

  tells_in : ChangesLoggerOnly options (engine_options engine)
  tells_in = record {
    rest = ap (λ (o : OptionsOf C FP B). record o { cmp = engine.store.cmp }) tells.rest
        ∙ ap (λ (c : C). record options { log = engine.options.log; cmp = c }) same_cmp;
    sink = tells.sink;
  }

  format : formats (engine_options engine) ≡ asked.format
  format = ignores options (engine_options engine) tells_in ∙ asked_is

  -- its tables are opened as those of the options
  by_options : tables_by formats engine ≡ table_options (formats options) options
  by_options = ap (λ (f : Format). table_options f (engine_options engine))
      (ignores options (engine_options engine) tells_in)
      ∙ ap (λ (o : OptionsOf C FP B). table_options (formats options) o) tells_in.rest

  has_open : IsTrue env.models_disk → HasOpenTables keys env
      (table_options (formats_of choices options) options) value
      opened cache
  has_open modelled = record { modelled = modelled; are = no_open modelled }

  tables : IsTrue env.models_disk → HasOwnTables keys env formats engine (env.observed to).disk.files
  tables modelled = subst (λ (by : TableOptions C FP). AreOpenTablesOf keys env by engine.store.set
      (env.observed to).disk.files engine.tables) (sym by_options) (ended_open ends (has_open modelled))

  later : env.failures from ≤ env.failures to
  later = omega (arith, counted, opens_count, ended_later ends)

  may : IsTrue env.models_disk → LooksNoFurther store asked here → ⊥
  may modelled looks = (opens.stays modelled looks).0

  same_locks : IsTrue env.models_disk
      → (env.observed to).disk.locked ≡ (env.observed taken).disk.locked
  same_locks modelled = ended_locks ends modelled ∙ opens.locks modelled

  lock_held : IsTrue env.models_disk → IsTrue ((env.observed to).disk.locked (lock_path store))
  lock_held modelled = ap (λ (l : List ℕ → Bool). l (lock_path store)) (same_locks modelled)
      ∙ (took modelled).held

  spares : IsTrue env.models_disk
      → Spares store (IsOwn store) (env.observed from).disk (env.observed to).disk
  spares modelled = late_spares store (env.observed from) (env.observed taken) (env.observed to)
      (took modelled)
      (λ path foreign no_aside. ended_files ends modelled path
      (λ theirs. foreign (inl (subst (λ (s : List ℕ). IsDataPath s path) opens.path theirs)))
      (λ aside. no_aside (subst (λ (s : List ℕ). IsAsidePath s path) opens.path aside))
      ∙ (opens.others modelled).has path foreign)
      (λ path differs. ap (λ (l : List ℕ → Bool). l path) (same_locks modelled))

  module _ (modelled : IsTrue env.models_disk) (opening : Opening)
      (is : IsOpening store asked opening) (meaning : Meaning)
      (agrees : Agrees opening.format meaning) (old : State)
      (was : Represents store meaning (Recalls keys env formats store meaning) None
      (env.observed from).disk old) where
    same_format : opening.format ≡ asked.format
    same_format = ap (λ (o : Opening). o.format) is.same

    opens_so : OpensStore env store opening.format asked.create_if_missing asked.error_if_exists taken limit
        (Ok value) opened
    opens_so = subst (λ (f : Format). OpensStore env store f asked.create_if_missing
        asked.error_if_exists taken limit
        (Ok value) opened) (sym same_format) opens

    bytes_taken : AppendedAreBytes here
    bytes_taken = made_bytes store (env.observed from).disk.files here (took modelled).run.has
        was.disk_is.bytes

    bytes_end : AppendedAreBytes (env.observed to).disk.files
    bytes_end = ended_bytes ends modelled (bytes_go modelled bytes_taken)

    -- the format of the options is the one of the opening
    is_format : formats options ≡ opening.format
    is_format = asked_is ∙ sym same_format

    ended : KeepsWrittenFrom opening.format.order meaning value.set.last_sequence value
        (env.observed opened) engine.store (env.observed to)
    ended = subst (λ (f : Format). KeepsWrittenFrom f.order meaning value.set.last_sequence value
        (env.observed opened) engine.store (env.observed to)) is_format
        (ended_keeps ends (has_open modelled) meaning
        (subst (λ (f : Format). Agrees f meaning) (sym is_format) agrees))

    early_run : Run (IsSpared store meaning old (risk_opening opening old)) (env.observed from)
        (env.observed taken)
    early_run = Run-mono (λ files passes. lock_spares store meaning opening agrees
        (env.observed from) old was.disk_is files
        (SameBut-created (lock_path store) (env.observed from).disk.files files passes))
        (took modelled).run

    allowed : IsForbidden store opening.create_if_missing opening.error_if_exists here → ⊥
    allowed forbidden = may modelled (inl (subst (λ (o : Opening).
        IsForbidden store o.create_if_missing o.error_if_exists here) is.same forbidden))

    goes : IsNamed opening.format.order_name old.store
        → TakesStep store meaning (Recalls keys env formats store meaning)
        (scene env (no_engine {E = E} {C = C} {FP = FP} {F = F} {B = B}
        engine.options) from)
        (open_store opening) done (scene env (Some engine) to) old
    goes fits =
        let same_but = but env store asked from taken took modelled in
        let found = contents store meaning opening agrees (env.observed from) old was.disk_is fits
        (env.observed taken) same_but bytes_taken in
        let sound = is_sound store meaning opening agrees (env.observed from) old was.disk_is fits
        (env.observed taken) same_but bytes_taken in
        opened_goes env formats store meaning opening agrees from old was fits (env.observed taken)
        same_but bytes_taken value (env.observed opened) opens.path
        (opens_so.keeps modelled meaning agrees found sound)
        (opens_so.opens modelled meaning agrees found sound) engine to ends.first.ok kept.rest.store
        kept.rest.last value.set.last_sequence ended (took modelled).was_free allowed
        mode unheld lock (format ∙ sym same_format) (tables modelled) (is.fits.1 (well.0, well.1))
        (subst IsTrue (sym (ap (λ (o : Opening). o.compresses) is.same)) well.2) later early_run
        bytes_end (lock_held modelled) (spares modelled)

    -- and the files were read as the history that it has then
    abbrev Found : Type 0
    Found = (last : State) × Represents store meaning (Recalls keys env formats store meaning)
        (Some engine) (env.observed to).disk last × Opens old opening last
        × AreReadAs store meaning (env.observed from).disk.files last.history last.last

    finds : IsNamed opening.format.order_name old.store → Found
    finds fits =
        let same_but = but env store asked from taken took modelled in
        let found = contents store meaning opening agrees (env.observed from) old was.disk_is fits
        (env.observed taken) same_but bytes_taken in
        let sound = is_sound store meaning opening agrees (env.observed from) old was.disk_is fits
        (env.observed taken) same_but bytes_taken in
        opened_found env formats store meaning opening agrees from old was fits (env.observed taken)
        same_but bytes_taken value (env.observed opened) opens.path
        (opens_so.keeps modelled meaning agrees found sound)
        (opens_so.opens modelled meaning agrees found sound) engine to ends.first.ok kept.rest.store
        kept.rest.last value.set.last_sequence ended (took modelled).was_free allowed
        mode unheld lock (format ∙ sym same_format) (tables modelled) (is.fits.1 (well.0, well.1))
        (subst IsTrue (sym (ap (λ (o : Opening). o.compresses) is.same)) well.2)
        bytes_end (lock_held modelled)

    -- a store of another comparator isn't opened
    other_never : (name : List ℕ) × (old.store ≡ made (Some name))
        × (name ≢ opening.format.order_name) → ⊥
    other_never differs = may modelled (inr (inr (subst (λ (f : Format). LacksUsableEdits store f here)
        same_format (other_lacks store meaning opening agrees (env.observed from) old was.disk_is here
        (but env store asked from taken took modelled) differs.0 differs.1 differs.2))))

    pub done_found : Found
    done_found = ⊎_elim finds
        (λ (differs : (name : List ℕ) × (old.store ≡ made (Some name))
        × (name ≢ opening.format.order_name)). absurd (other_never differs))
        (fits_or_not store meaning opening agrees (env.observed from) old was.disk_is)

    pub done_goes : TakesStep store meaning (Recalls keys env formats store meaning)
        (scene env (no_engine {E = E} {C = C} {FP = FP} {F = F} {B = B}
        engine.options) from)
        (open_store opening) done (scene env (Some engine) to) old
    done_goes = ⊎_elim goes
        (λ (differs : (name : List ℕ) × (old.store ≡ made (Some name))
        × (name ≢ opening.format.order_name)).
        absurd (other_never differs))
        (fits_or_not store meaning opening agrees (env.observed from) old was.disk_is)

  -- the step, if the options say of names and ids what they mean
  stepped : (opening : Opening) → IsOpening store asked opening → (meaning : Meaning)
      → Agrees opening.format meaning
      → AnswersAs keys env formats store meaning None from (open_store opening) done (Some engine) to
  stepped opening is meaning agrees modelled old was =
      done_goes modelled opening is meaning agrees old was

  pub done_opens : LeavesObsolete env opened engine.store engine.removal to
      → EngineOpens env choices store options asked from (Ok engine) to
  done_opens left = record {
    ok = λ opening is meaning agrees. open_row keys env formats store opening meaning from to engine
        (stepped opening is meaning agrees);
    err = tt;
    found = λ opening is meaning agrees modelled old was.
        done_found modelled opening is meaning agrees old was;
    opened = record {
      mode = mode;
      options = tells_in;
      place = kept.rest.store ∙ opens.path;
      lock = lock ∙ ap lock_path (sym (kept.rest.store ∙ opens.path));
      looks = unlooked;
    };
    ends = record {
      taken = taken;
      opened = first;
      at = opened;
      tables = cache;
      begins = λ modelled. (took modelled).run;
      in_time = in_time;
      uncounted = (counted, opens_count);
      opens = subst (λ (n : ℕ). OpensStore env store asked.format asked.create_if_missing
          asked.error_if_exists taken n (Ok first) opened) is_limit opens_first;
      ends = ends;
    };
    tidy = leaves_since env (opens_count ∙ counted) left;
    held = λ modelled. (
      λ was_held. let never : true ≡ false = sym was_held ∙ (took modelled).was_free in cc,
      lock_held modelled,
    );
    others = spares;
    aside = λ modelled path is some.
        let kept = made_aside store (env.observed from).disk.files here (took modelled).run.has path is some in
        let opened_is = (opens.others modelled).has path (own_not_aside store path is) ∙ kept in
        ended_aside ends modelled path (subst (λ (s : List ℕ). IsAsidePath s path) (sym opens.path) is)
        (λ none. some (sym opened_is ∙ none)) ∙ opened_is;
    step = stepped;
    time = λ modelled.
        let first = (took modelled).run.time.later in
        let second = (opens.others modelled).time.later in
        let third = ended_time ends modelled in omega (arith, first, second, third);
    misnamed = λ no. absurd (no well);
    never_opens = λ modelled never.
        absurd (may modelled (never_here env store asked from taken took modelled never));
    unopened = tt;
    kept = tt;
    cause = record { later = later; cause = tt };
  }
