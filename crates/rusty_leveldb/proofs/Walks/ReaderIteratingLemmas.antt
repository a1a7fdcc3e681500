-- An iterator that an engine made which only reads.
use Rattle.std.specs.Prelude.{IfErr, IfOk, Result, Ok, Err}
use Rattle.std.specs.Borrow.{MutBor}
use Rattle.std.proofs.Common.{◌≡◌, ◌≤◌, ◌∙◌, ℕ, List, refl, sym, ap, subst, None, IsTrue}
use Rattle.leveldb_base.specs.Error.{IsOutOfMemory}
use Rattle.leveldb_base.specs.History.{History, IsView, entries_of, greatest}
use Rattle.leveldb_base.specs.Types.{Pair}
use Rattle.leveldb_base.specs.declared.cmp.Cmp.{Ghosts as CmpGhosts}
use Rattle.leveldb_base.specs.declared.error.Status.{Status}
use Rattle.leveldb_env.specs.Compressor.{Codings}
use Rattle.leveldb_env.specs.Options.{Boxed, OptionsOf}
use Rattle.leveldb_env.specs.declared.compressor.CompressorList.{CompressorList}
use Rattle.leveldb_env.specs.declared.env.Env.{Ghosts}
use Rattle.leveldb_env.specs.declared.filter.FilterPolicy.{Ghosts as FilterGhosts}
use Rattle.leveldb_iter.specs.declared.walk.Walk.{Ghosts as WalkGhosts}
use Rattle.leveldb_files.specs.Stores.Format.{Agrees, Format, IsTableFault, Meaning, format_of}
use Rattle.leveldb_version.specs.Tables.TableCache.{TableOptions, files_at}
use Rattle.leveldb_version.specs.declared.table_cache.TableCache.{TableCache}
use Rattle.leveldb_version.specs.declared.table_cache.moves.ReadTables.{ReadTables}
use Rattle.leveldb_store.specs.Reading.Read.{HasOpenTables}
use Rattle.leveldb_store.specs.Reading.View.{FailsBetween, IsOfNoCompressor, IsWorldOf, ShowsIn, options_in}
use Rattle.leveldb_store.specs.Keeping.Written.{HasView}
use Rattle.rusty_leveldb.specs.Engines.Boxes.{InternalOrder, ReaderOf}
use Rattle.rusty_leveldb.specs.Walks.Iterator.{IsIterator, IsMadeOver, IteratesAt, shown_store, world_in}
use Rattle.rusty_leveldb.specs.Openings.ReadAlone.{ReaderIterates, ReadsHistory, reader_options, reader_tables_by}
use Rattle.rusty_leveldb.specs.declared.db_iter.StoreIterator.{StoreIterator}

module _ {E C FP F V : Type 0} {B : Boxed} (keys : InternalOrder C) (env : Ghosts E F)
    (cmp : CmpGhosts C) (filters : FilterGhosts FP)
    (codings : CompressorList B.compressors B.compressor → Codings)
    (walk : WalkGhosts V E (ReadTables E C FP (CompressorList B.compressors B.compressor) F))
    (before : ReaderOf E C FP F B) (from : E) where
  abbrev formats : OptionsOf C FP B → Format
  formats = format_of {B = B} cmp filters codings

  abbrev format : Format
  format = formats (reader_options before)

  abbrev It : Type 0
  It = StoreIterator E C FP (CompressorList B.compressors B.compressor) V F

  module _ (it : It) (now : it.env.now ≡ from) (open_tables : it.tables.cache.now ≡ before.tables)
      (order_is : it.tables.cmp ≡ before.store.cmp)
      (policy_is : it.tables.policy ≡ before.options.filter_policy)
      (compressors_are : it.tables.compressors.now ≡ before.options.compressor_list) where
    -- it reads with the engine's options
    options_are : options_in env cmp filters codings (world_in it)
        ≡ reader_tables_by formats before
    options_are = rw (order_is, policy_is, compressors_are) refl

  -- an iterator that is made over the engine's store
  module _ (last : ℕ) (last_is : last ≡ before.store.set.last_sequence) (it : It)
      (environment : MutBor E) (tables : TableCache E C FP F) (from_is : environment.now ≡ from)
      (tables_is : tables ≡ before.tables)
      (made : IsMadeOver keys env cmp filters codings walk before.store
      before.options.filter_policy before.options.compressor_list environment tables last it) where
    abbrev now : it.env.now ≡ from
    now = made.env_is ∙ from_is

    abbrev open_tables : it.tables.cache.now ≡ before.tables
    open_tables = made.reading.cache_is ∙ tables_is

    options : options_in env cmp filters codings (world_in it) ≡ reader_tables_by formats before
    options = options_are it now open_tables made.reading.order_is made.reading.policy_is
        made.reading.compressors_are

    format_is : (options_in env cmp filters codings (world_in it)).format ≡ format
    format_is = ap (λ (o : TableOptions C FP). o.format) options

    is_iterator : IsIterator keys env cmp filters codings walk format it
    is_iterator = record {
      format_is = format_is;
      fails = λ to status fails. subst
          (λ (f : Format). FailsBetween env (world_in it) to (λ e. IsTableFault f e.code) status)
          format_is (made.views.fault (world_in it) to status fails);
      reads = made.reads;
      laws = made.views.laws;
    }

    module _ (modelled : IsTrue env.models_disk) (meaning : Meaning) (history : History)
        (reads : ReadsHistory keys env formats meaning before (files_at env from) history) where
      abbrev least : ℕ
      least = greatest (entries_of history)

      has_open : HasOpenTables keys env (options_in env cmp filters codings (world_in it))
          before.store it.env.now it.tables.cache.now
      has_open = rw (options, now, open_tables)
          (record { modelled = modelled; are = reads.tables })

      is_world : IsWorldOf keys env cmp filters codings before.store (world_in it)
      is_world = record {
        order_is = ap (λ (c : C). cmp.cmp c) made.reading.order_is;
        below_is = made.reading.below_is;
        has_open = has_open;
      }

      abbrev shows_in : ShowsIn keys env cmp filters codings before.store meaning history least
          (world_in it)
      shows_in = record {
        is_world = is_world;
        agrees = subst (λ (f : Format). Agrees f meaning) (sym format_is) reads.agrees;
        shows = subst (λ (e : E). HasView format.order meaning before.store (files_at env e) history
            least) (sym now) reads.shows;
      }

      view : (pairs : List Pair)
          × IsView format.order (entries_of history) before.store.set.last_sequence pairs
          × IteratesAt keys env cmp filters codings walk (shown_store before.store format meaning)
          pairs None it
      view =
          let over = made.views.over (world_in it) meaning history least
          (subst (λ (n : ℕ). least ≤ n) (sym last_is) reads.reached) shows_in in (
            over.0,
            subst (λ (n : ℕ). IsView format.order (entries_of history) n over.0) last_is over.1,
            record {
              is_iterator = is_iterator;
              is_at = over.2;
              pair_is = made.views.none;
              fails = λ to status fails. subst (λ (f : Format).
                  FailsBetween env (world_in it) to (IsOfNoCompressor f meaning) status) format_is
                  (made.views.lacks (world_in it) meaning history least shows_in to status fails);
              has_open = is_world;
            },
          )

    made_over : ReaderIterates keys env cmp filters codings walk before from (Ok it)
    made_over = record {
      over = λ modelled meaning history reads. view modelled meaning history reads;
      is = is_iterator;
      none = made.views.none;
      env_is = now;
      tables_are = open_tables;
      cause = tt;
    }

  -- one that is made, or no memory for it
  pub reader_iterates : (last : ℕ) → last ≡ before.store.set.last_sequence
      → (environment : MutBor E) (tables : TableCache E C FP F) → environment.now ≡ from
      → tables ≡ before.tables → (r : Result It Status)
      → IfOk r (IsMadeOver keys env cmp filters codings walk before.store
      before.options.filter_policy before.options.compressor_list environment tables last)
      → IfErr r IsOutOfMemory → ReaderIterates keys env cmp filters codings walk before from r
  reader_iterates last last_is environment tables from_is tables_is (Ok it) made memory =
      made_over last last_is it environment tables from_is tables_is made
  reader_iterates last last_is environment tables from_is tables_is (Err e) made memory =
      record { over = tt; is = tt; none = tt; env_is = tt; tables_are = tt; cause = memory }
