-- An engine that only reads: its look-ups and its walks in each history that it reads.
use Rattle.std.specs.Prelude.{IfErr, IfOk, OnErr, OnOk, Result, map}
use Rattle.std.proofs.Common.{◌≡◌, ◌+◌, ◌-◌, ◌^◌, ◌⊎◌, ⊎_elim, inl, inr, ℕ, List, [], refl, sym, ap, subst, arith, Option, None, Ok, Err, IsTrue}
use Rattle.leveldb_base.specs.Error.{IsOutOfMemory, text_of}
use Rattle.leveldb_base.specs.History.{History, IsValueAt, IsView, entries_of, greatest}
use Rattle.leveldb_base.specs.KeyTypes.{IsLongKey}
use Rattle.leveldb_base.specs.Types.{Pair}
use Rattle.leveldb_base.specs.declared.error.Status.{Status}
use Rattle.leveldb_base.specs.declared.error.StatusCode.TheVariants.{InvalidArgument, NotSupported}
use Rattle.leveldb_env.specs.Env.{Files}
use Rattle.leveldb_env.specs.Options.{Boxed, OptionsOf}
use Rattle.leveldb_env.specs.declared.env.Env.{Ghosts}
use Rattle.leveldb_env.proofs.EnvLemmas.{begun}
use Rattle.leveldb_iter.specs.declared.moves.Move.{Move}
use Rattle.leveldb_iter.specs.declared.moves.Step.{Step}
use Rattle.leveldb_store.specs.Keeping.OpenStore.{OpenStoreValue}
use Rattle.leveldb_store.specs.Keeping.OpenTables.{AreOpenTablesOf}
use Rattle.leveldb_store.specs.Reading.Read.{HasOpenTables, LooksUpKey}
use Rattle.leveldb_store.specs.Writing.Room.{FailsFor, HasFailed}
use Rattle.leveldb_store.specs.Reading.View.{IsOfNoCompressor, MakesMoves, WalksStore}
use Rattle.leveldb_store.specs.Keeping.Written.{HasView}
use Rattle.leveldb_table.specs.TableBlock.{FailsFor as FailsForWhy, KeepsDisk}
use Rattle.leveldb_files.specs.Stores.Format.{Agrees, Format, IsTableFault, LacksCompressor, Meaning}
use Rattle.leveldb_version.specs.Tables.TableCache.{files_at, table_options}
use Rattle.leveldb_version.specs.declared.table_cache.TableCache.{TableCache}
use Rattle.rusty_leveldb.specs.Engines.Boxes.{InternalOrder, ReaderOf}
use Rattle.rusty_leveldb.specs.Machines.Causes.{Cause, IsCausedBy, Setting, bad_operand, device_failed, lacks_compressor, out_of_memory}
use Rattle.rusty_leveldb.specs.Machines.Machine.{Responds}
use Rattle.rusty_leveldb.specs.Openings.ReadAlone.{LookUpExcused, ReaderGets, ReaderWalks, ReadsHistory, ReadsOnly, read_state, reader_options, reader_tables_by}
use Rattle.rusty_leveldb.specs.Engines.Serves.{found_or, refusal_of, setting_between}
use Rattle.rusty_leveldb.specs.Machines.State.{State, get, refused}
use Rattle.rusty_leveldb.specs.Walks.Walks.{move_of, walk_of, walked_or}
use Rattle.rusty_leveldb.proofs.Engines.ReadingLemmas.{only_seeks, shows_read}
use Rattle.rusty_leveldb.proofs.Walks.WalkLemmas.{moves_are}

-- nothing of the disk changes where no call is made
pub disk_still : {E F : Type 0} (env : Ghosts E F) (at : E) → KeepsDisk env at at
disk_still env at = record { disk = λ modelled. begun (env.observed at) refl; locks = λ modelled. refl }

-- a walk for which there is no memory
starved : (setting : Setting) (state : State) (moves : List Move) (status : Status)
    → IsOutOfMemory status
    → Responds setting state (walk_of None moves) (refused (refusal_of status)) state
starved setting state moves status out =
    record { cause = out_of_memory; comes = (tt, out.0, ap text_of out.1); leaves = refl }

module _ {E C FP F : Type 0} {B : Boxed} {keys : InternalOrder C} (env : Ghosts E F)
    (formats : OptionsOf C FP B → Format) where
  -- ---- what is read is read still

  -- by an engine of whose store only the seeks of files have changed
  module _ (before after : ReaderOf E C FP F B)
      (store_is : after.store ≡ record before.store { current = after.store.current }) where
    module _ (options_are : reader_options after ≡ reader_options before) (files now : Files)
        (same : now ≡ files) (meaning : Meaning) (history : History)
        (tables : AreOpenTablesOf keys env (reader_tables_by formats before) after.store.set now
        after.tables) where
      abbrev least : ℕ
      least = greatest (entries_of history)

      shows_still : HasView (formats (reader_options before)).order meaning before.store files history least
          → HasView (formats (reader_options after)).order meaning after.store now history least
      shows_still shown = subst (λ (o : OptionsOf C FP B).
          HasView (formats o).order meaning after.store now history least) (sym options_are)
          (subst (λ (v : OpenStoreValue C).
          HasView (formats (reader_options before)).order meaning v now history least) (sym store_is)
          (subst (λ (f : Files). HasView (formats (reader_options before)).order meaning
          (record before.store { current = after.store.current }) f history least) (sym same)
          (shows_read (formats (reader_options before)).order meaning before.store
          after.store.current files history least shown)))

      pub reads_on : ReadsHistory keys env formats meaning before files history
          → ReadsHistory keys env formats meaning after now history
      reads_on reads = record {
        agrees = subst (λ (o : OptionsOf C FP B). Agrees (formats o) meaning) (sym options_are)
            reads.agrees;
        shows = shows_still reads.shows;
        reached =
            let last = ap (λ (v : OpenStoreValue C). v.set.last_sequence) store_is in
            let reached = reads.reached in omega (arith, last, reached);
        tables = subst (λ (o : OptionsOf C FP B). AreOpenTablesOf keys env
            (table_options (formats o) o) after.store.set now after.tables) (sym options_are) tables;
      }

  module _ (before : ReaderOf E C FP F B) (from : E) where
    -- nothing has changed
    pub reads_still : ReadsOnly keys env formats before from before from
    reads_still = record {
      still = disk_still env from;
      keeps = λ modelled meaning history reads. reads;
      store = refl;
      options = refl;
    }

    -- the open tables are those of the files
    has_open : IsTrue env.models_disk → (meaning : Meaning) (history : History)
        → ReadsHistory keys env formats meaning before (files_at env from) history
        → HasOpenTables keys env (reader_tables_by formats before) before.store from before.tables
    has_open modelled meaning history reads = record { modelled = modelled; are = reads.tables }

    -- ---- a look-up

    module _ (key : List ℕ) where
      -- the key is too long
      pub gets_misfit : (status : Status) → status.code ≡ InvalidArgument → IsLongKey key
          → ReaderGets keys env formats before from key (Err status) before from
      gets_misfit status code long = record {
        finds = λ modelled meaning history reads. tt;
        answers = λ modelled meaning history reads.
            record { cause = bad_operand; comes = (code, inr long); leaves = refl };
        rest = reads_still;
        way = inl (refl, refl, inl (code, long));
        cause = record { later = omega arith; cause = inl (inl (code, long)) };
      }

      module _ (short : IsLongKey key → ⊥) (to : E) (result : Result (Option (List ℕ)) Status)
          (value : OpenStoreValue C) (cache : TableCache E C FP F)
          (looks : LooksUpKey keys env (reader_tables_by formats before) before.store from
          before.tables before.store.set.last_sequence key result value to cache) where
        -- the engine in the end
        abbrev sought : ReaderOf E C FP F B
        sought = record { options = reader_options before; store = value; tables = cache }

        sought_store : value ≡ record before.store { current = value.current }
        sought_store = only_seeks env (reader_tables_by formats before) before.store from
            before.tables before.store.set.last_sequence key result value to cache looks

        sought_options : reader_options sought ≡ reader_options before
        sought_options = ap (λ (v : OpenStoreValue C). let options : OptionsOf C FP B =
            record before.options { cmp = v.cmp } in options) sought_store

        module _ (modelled : IsTrue env.models_disk) (meaning : Meaning) (history : History)
            (reads : ReadsHistory keys env formats meaning before (files_at env from) history) where
          abbrev setting : Setting
          setting = setting_between meaning (env.failures from) (env.failures to)

          abbrev state : State
          state = read_state formats before history

          found : IfOk result
              (IsValueAt (entries_of history) before.store.set.last_sequence key)
          found = looks.finds (has_open modelled meaning history reads) meaning reads.agrees history
              (greatest (entries_of history)) reads.reached reads.shows

          lacks : FailsForWhy env (λ status. (status.code ≡ NotSupported)
              × LacksCompressor (formats (reader_options before)) meaning) from to result
          lacks = looks.lacks meaning reads.shows.tables (record {
            agrees = reads.agrees;
            has_open = has_open modelled meaning history reads;
            has_live = reads.shows.has;
            levels = reads.shows.shows.levels;
          })

          cause_of : (status : Status)
              → (IsOutOfMemory status ⊎ ((env.failures to ≡ env.failures from)
              × ((status.code ≡ NotSupported)
              × LacksCompressor (formats (reader_options before)) meaning)))
              ⊎ ((env.failures to ≡ env.failures from + 1)
              ⊎ ((env.failures from ≡ 2 ^ 64 - 1) × (env.failures to ≡ env.failures from)))
              → (cause : Cause) × IsCausedBy setting state (get None key) (refusal_of status) cause
          cause_of status (inl (inl memory)) = (out_of_memory, (tt, memory.0, ap text_of memory.1))
          cause_of status (inl (inr table)) = (lacks_compressor, (tt, table.1.0, table.1.1))
          cause_of status (inr (inl more)) = (device_failed, (tt, inl (omega (arith, more))))
          cause_of status (inr (inr full)) = (device_failed, (tt, inr full.0))

          answered : (r : Result (Option (List ℕ)) Status)
              → IfOk r (IsValueAt (entries_of history) before.store.set.last_sequence key)
              → IfErr r (λ e. (IsOutOfMemory e ⊎ ((env.failures to ≡ env.failures from)
              × ((e.code ≡ NotSupported)
              × LacksCompressor (formats (reader_options before)) meaning)))
              ⊎ ((env.failures to ≡ env.failures from + 1)
              ⊎ ((env.failures from ≡ 2 ^ 64 - 1) × (env.failures to ≡ env.failures from))))
              → Responds setting state (get None key) (found_or r) state
          answered (Ok value) is why = (
            record {
              operands = ⊎_elim (λ (never : ⊥). never) (λ (long : IsLongKey key). short long);
              numbers = λ never. never;
            },
            (
              record {
                sequence = before.store.set.last_sequence;
                at_is = refl;
                looks = is;
              },
              refl,
            ),
          )
          answered (Err status) is why =
              let cause = cause_of status why in
              record { cause = cause.0; comes = cause.1; leaves = refl }

          read_on : ReadsHistory keys env formats meaning sought (files_at env to) history
          read_on = reads_on before sought sought_store sought_options (files_at env from)
              (files_at env to) (looks.reads.kept_disk.disk modelled).has meaning history
              (looks.still_open (has_open modelled meaning history reads)) reads

        -- why it failed, for a cause of its own
        fails_by : (Why : Status → Type 0) → FailsForWhy env Why from to result
            → FailsFor (LookUpExcused key Why) (env.failures from)
            (env.failures to) result
        fails_by Why fails = record { later = fails.later; cause = by result fails.cause }
          where
            by : (r : Result (Option (List ℕ)) Status)
                → IfErr r (λ e. (IsOutOfMemory e ⊎ ((env.failures to ≡ env.failures from) × Why e))
                ⊎ ((env.failures to ≡ env.failures from + 1)
                ⊎ ((env.failures from ≡ 2 ^ 64 - 1) × (env.failures to ≡ env.failures from))))
                → IfErr r (λ e. LookUpExcused key Why e
                ⊎ HasFailed (env.failures from) (env.failures to))
            by (Ok value) why = tt
            by (Err status) (inl (inl memory)) = inl (inr (inl memory))
            by (Err status) (inl (inr table)) = inl (inr (inr table.1))
            by (Err status) (inr (inl more)) = inr (inl (omega (arith, more)))
            by (Err status) (inr (inr full)) = inr (inr full.0)

        gets : ReaderGets keys env formats before from key result sought to
        gets = record {
          finds = λ modelled meaning history reads. found modelled meaning history reads;
          answers = λ modelled meaning history reads. answered modelled meaning history reads result
              (found modelled meaning history reads)
              (lacks modelled meaning history reads).cause;
          rest = record {
            still = looks.reads.kept_disk;
            keeps = λ modelled meaning history reads. read_on modelled meaning history reads;
            store = sought_store;
            options = sought_options;
          };
          way = inr looks.way;
          cause = fails_by (λ e. IsTableFault (formats (reader_options before)) e.code)
              looks.reads.cause;
        }

      -- the same where the options were given the store's order before
      pub gets_in : (cmp : C) → cmp ≡ before.store.cmp → (last : ℕ)
          → last ≡ before.store.set.last_sequence → (IsLongKey key → ⊥) → (to : E)
          (result : Result (Option (List ℕ)) Status) (value : OpenStoreValue C)
          (cache : TableCache E C FP F)
          → (let options : OptionsOf C FP B = record before.options { cmp = cmp } in
          LooksUpKey keys env (table_options (formats options) options) before.store from
          before.tables last key result value to cache)
          → ReaderGets keys env formats before from key result
          (record { options = record before.options { cmp = cmp }; store = value; tables = cache })
          to
      gets_in cmp same last last_is short to result value cache looks =
          subst (λ (c : C). ReaderGets keys env formats before from key result
          (record { options = record before.options { cmp = c }; store = value; tables = cache }) to)
          (sym same) (gets short to result value cache
          (subst (λ (n : ℕ). LooksUpKey keys env (reader_tables_by formats before) before.store from
          before.tables n key result value to cache) last_is (subst (λ (c : C).
          let options : OptionsOf C FP B = record before.options { cmp = c } in
          LooksUpKey keys env (table_options (formats options) options) before.store from
          before.tables last key result value to cache) same looks)))

    -- ---- moves of a walk

    module _ (moves : List Move) where
      -- no walk is made
      pub walks_starved : (status : Status) → IsOutOfMemory status
          → ReaderWalks keys env formats before from moves [] (Err status) before from
      walks_starved status out = record {
        answers = λ modelled meaning history reads. starved
            (setting_between meaning (env.failures from) (env.failures from))
            (read_state formats before history) moves status out;
        rest = reads_still;
        later = omega arith;
        cause = out;
        refused = tt;
        none = refl;
      }

      module _ (to : E) (left : TableCache E C FP F) (given : List Step)
          (result : Result (Unit {0}) Status)
          (walks : WalksStore keys env (reader_tables_by formats before) before.store from
          before.tables before.store.set.last_sequence moves given result to left) where
        -- the engine in the end
        abbrev walked_to : ReaderOf E C FP F B
        walked_to =
            record { options = reader_options before; store = before.store; tables = left }

        memory_only : (r : Result (Unit {0}) Status)
            → IfErr r (λ e. IsOutOfMemory e × (given ≡ []) × (to ≡ from) × (left ≡ before.tables))
            → IfErr r IsOutOfMemory
        memory_only (Ok done) none = tt
        memory_only (Err status) none = none.0

        steps_none : (r : Result (Unit {0}) Status)
            → IfErr r (λ e. IsOutOfMemory e × (given ≡ []) × (to ≡ from) × (left ≡ before.tables))
            → OnErr r (given ≡ [])
        steps_none (Ok done) none = tt
        steps_none (Err status) none = none.1

        module _ (modelled : IsTrue env.models_disk) (meaning : Meaning) (history : History)
            (reads : ReadsHistory keys env formats meaning before (files_at env from) history) where
          abbrev format : Format
          format = formats (reader_options before)

          abbrev last : ℕ
          last = before.store.set.last_sequence

          abbrev walk_setting : Setting
          walk_setting = setting_between meaning (env.failures from) (env.failures to)

          abbrev walk_state : State
          walk_state = read_state formats before history

          responds : (r : Result (Unit {0}) Status)
              → OnOk r ((pairs : List Pair) × IsView format.order (entries_of history) last pairs
              × MakesMoves format.order (IsOfNoCompressor format meaning) pairs None
              (env.failures from) moves given (env.failures to))
              → IfErr r IsOutOfMemory
              → Responds walk_setting walk_state (walk_of None moves) (walked_or given r) walk_state
          responds (Ok done) over out = (
            record { operands = λ never. never; numbers = λ never. never },
            (
              record {
                sequence = last;
                at_is = refl;
                pairs = over.0;
                view = over.1;
                moves_are = moves_are format.order over.0 walk_state refl meaning None
                    (map move_of moves) moves given None (env.failures from) (env.failures to)
                    over.2;
              },
              refl,
            ),
          )
          responds (Err status) over out = starved walk_setting walk_state moves status out

          walk_read_on : ReadsHistory keys env formats meaning walked_to (files_at env to) history
          walk_read_on = reads_on before walked_to refl refl (files_at env from) (files_at env to)
              (walks.kept.disk modelled).has meaning history
              (walks.still_open (has_open modelled meaning history reads)) reads

        made : ReaderWalks keys env formats before from moves given result walked_to to
        made = record {
          answers = λ modelled meaning history reads. responds modelled meaning history reads result
              (walks.walks (has_open modelled meaning history reads) meaning reads.agrees history
              (greatest (entries_of history)) reads.reached reads.shows)
              (memory_only result walks.none);
          rest = record {
            still = walks.kept;
            keeps = λ modelled meaning history reads. walk_read_on modelled meaning history reads;
            store = refl;
            options = refl;
          };
          later = walks.later;
          cause = memory_only result walks.none;
          refused = walks.refused;
          none = steps_none result walks.none;
        }

      -- the same where the options were given the store's order before
      pub walks_in : (cmp : C) → cmp ≡ before.store.cmp → (last : ℕ)
          → last ≡ before.store.set.last_sequence → (to : E) (left : TableCache E C FP F)
          (given : List Step) (result : Result (Unit {0}) Status)
          → (let options : OptionsOf C FP B = record before.options { cmp = cmp } in
          WalksStore keys env (table_options (formats options) options) before.store from
          before.tables last moves given result to left)
          → ReaderWalks keys env formats before from moves given result
          (record { options = record before.options { cmp = cmp }; store = before.store; tables = left })
          to
      walks_in cmp same last last_is to left given result walks =
          subst (λ (c : C). ReaderWalks keys env formats before from moves given result
          (record { options = record before.options { cmp = c }; store = before.store; tables = left })
          to) (sym same) (made to left given result
          (subst (λ (n : ℕ). WalksStore keys env (reader_tables_by formats before) before.store from
          before.tables n moves given result to left) last_is (subst (λ (c : C).
          let options : OptionsOf C FP B = record before.options { cmp = c } in
          WalksStore keys env (table_options (formats options) options) before.store from
          before.tables last moves given result to left) same walks)))
