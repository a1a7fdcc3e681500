-- What moves over tables and new tables leave of an open store's world: with what its tables are
-- read, and that those which are open are its own.
use Rattle.std.specs.Prelude.{false}
use Rattle.std.proofs.Common.{◌≡◌, ◌≤◌, ◌∙◌, ℕ, List, refl, sym, subst, arith}
use Rattle.std.specs.Str.{bytes_eq}
use Rattle.leveldb_base.specs.declared.cmp.Cmp.{Ghosts as CmpGhosts}
use Rattle.leveldb_base.specs.declared.cmp.internal.InternalKeyCmp.{InternalKeyCmp}
use Rattle.leveldb_env.specs.Compressor.{Codings}
use Rattle.leveldb_env.specs.declared.env.Env.{Ghosts as EnvGhosts}
use Rattle.leveldb_env.specs.declared.filter.FilterPolicy.{Ghosts as FilterGhosts}
use Rattle.leveldb_iter.specs.declared.walk.Walk.{Ghosts as WalkGhosts}
use Rattle.leveldb_version.proofs.Tables.TableCacheLemmas.{matches_changed}
use Rattle.leveldb_files.specs.Stores.Paths.{table_path}
use Rattle.leveldb_version.specs.Tables.TableCache.{MatchesFiles, TableOptions, files_at, path_at}
use Rattle.leveldb_version.specs.Walks.VersionIter.{KeepsReading, reading}
use Rattle.leveldb_version.specs.Walks.VersionIterLaws.{reading_stays}
use Rattle.leveldb_version_set.specs.Sets.VersionSetValue.{VersionSetValue}
use Rattle.leveldb_version.specs.declared.table_cache.moves.ReadTables.{ReadTables}
use Rattle.leveldb_store.specs.Compactions.Merging.{IsReachedFrom, MovesLeaveFiles, by_move, by_writing, itself}
use Rattle.leveldb_store.specs.Compactions.MergeInputs.{ReadsBelow}
use Rattle.leveldb_store.specs.Keeping.OpenStore.{OpenStoreValue}
use Rattle.leveldb_store.specs.Keeping.OpenTables.{AreOpenTablesOf}
use Rattle.leveldb_store.specs.Tables.Outputs.{ChangesNewTables}
use Rattle.leveldb_store.specs.Reading.View.{IsWorldOf, options_in}
use Rattle.leveldb_store.proofs.Compactions.BearingLemmas.{reading_leaves}
use Rattle.leveldb_store.proofs.Keeping.GivenTablesLemmas.{same_or_gone}
use Rattle.leveldb_store.proofs.Tables.OutputsLemmas.{tables_apart}
use Rattle.leveldb_store.proofs.Reading.ViewReadsLemmas.{world_stays}

module _ {E F C FP K : Type 0} (env : EnvGhosts E F) (cmp : CmpGhosts C)
    (filters : FilterGhosts FP) (codings : K → Codings) where
  -- tables are read as before, and no failure is forgotten
  pub record ReadsAsBefore (from to : E × ReadTables E C FP K F) : Type 0 where
    pub options : options_in env cmp filters codings to ≡ options_in env cmp filters codings from
    pub reference : to.1.cache.ghost_name ≡ from.1.cache.ghost_name
    pub later : env.failures from.0 ≤ env.failures to.0

module _ {E F C FP K : Type 0} {keys : CmpGhosts (InternalKeyCmp C)} (env : EnvGhosts E F)
    (cmp : CmpGhosts C) (filters : FilterGhosts FP) (codings : K → Codings)
    (value : OpenStoreValue C) where
  -- no table is open that new ones change
  beside_new : (at to : E) (tables : ReadTables E C FP K F) (next : ℕ)
      → ChangesNewTables env value.set.store value.set.next_file next at to
      → IsWorldOf keys env cmp filters codings value (at, tables)
      → IsWorldOf keys env cmp filters codings value (to, tables)
  beside_new at to tables next changes world =
      let has = world.has_open in
      record {
        order_is = world.order_is;
        below_is = world.below_is;
        has_open = record {
          modelled = has.modelled;
          are = record {
            path = has.are.path;
            given = has.are.given;
            matches = matches_changed env (reading env cmp filters codings tables)
                tables.cache.now (λ number fits there. same_or_gone
                (files_at env at (path_at tables.cache.now number))
                (files_at env to (path_at tables.cache.now number))
                ((changes.run has.modelled).has (path_at tables.cache.now number)
                (λ n least below n_fits. subst
                (λ s. bytes_eq (table_path value.set.store n) (table_path s number) ≡ false)
                (sym has.are.path) (tables_apart value.set.store n number n_fits fits
                (λ same. let given = has.are.given number fits there in
                omega (arith, same, least, given))))))
                has.are.matches;
          };
        };
      }

  -- so walks over them bear new tables
  pub reads_below : (start : E × ReadTables E C FP K F)
      → IsWorldOf keys env cmp filters codings value start
      → ReadsBelow value.set.store value.set.next_file start
  reads_below start is = record {
    given = λ number fits there.
        let less = is.has_open.are.given number fits there in
        let below = is.below_is in omega (arith, less, below);
    below = let below = is.below_is in omega (arith, below);
    store_is = is.has_open.are.path;
  }

-- ---- after moves and new tables

module _ {E F C FP K W : Type 0} {keys : CmpGhosts (InternalKeyCmp C)} (env : EnvGhosts E F)
    (cmp : CmpGhosts C) (filters : FilterGhosts FP) (codings : K → Codings)
    (walk : WalkGhosts W E (ReadTables E C FP K F))
    (leaves : (from to : E × ReadTables E C FP K F) → walk.keeps from to
    → KeepsReading keys env cmp filters codings from to) where
  -- such a walk's moves change no file
  pub moves_leave : MovesLeaveFiles env walk
  moves_leave from to kept = reading_leaves env (leaves from to kept)

  module _ (store : List ℕ) (first : ℕ) (start : E × ReadTables E C FP K F) where
    pub reads_on : (world : E × ReadTables E C FP K F) → IsReachedFrom env walk store first start world
        → ReadsAsBefore env cmp filters codings start world
    reads_on world itself = record { options = refl; reference = refl; later = omega arith }
    reads_on world (by_move at to come kept) =
        let before = reads_on at come in
        let keeps = leaves at to kept in
        let more = keeps.tables.later in
        record {
          options = reading_stays at to keeps ∙ before.options;
          reference = keeps.reference ∙ before.reference;
          later = omega (arith, before.later, more);
        }
    reads_on world (by_writing at to tables next come changes) =
        let before = reads_on (at, tables) come in
        let more = changes.later in
        record {
          options = before.options;
          reference = before.reference;
          later = omega (arith, before.later, more);
        }

  module _ (value : OpenStoreValue C) where
    pub world_on : (start : E × ReadTables E C FP K F)
        → IsWorldOf keys env cmp filters codings value start
        → (world : E × ReadTables E C FP K F)
        → IsReachedFrom env walk value.set.store value.set.next_file start world
        → IsWorldOf keys env cmp filters codings value world
    world_on start is world itself = is
    world_on start is world (by_move at to come kept) =
        world_stays env cmp filters codings value at to (leaves at to kept)
        (world_on start is at come)
    world_on start is world (by_writing at to tables next come changes) =
        beside_new env cmp filters codings value at to tables next changes
        (world_on start is (at, tables) come)

    -- and its open tables are those of the store, after numbers were given
    pub open_on : (start world : E × ReadTables E C FP K F)
        → IsWorldOf keys env cmp filters codings value start
        → IsReachedFrom env walk value.set.store value.set.next_file start world
        → (set : VersionSetValue) → set.store ≡ value.set.store
        → value.set.next_file ≤ set.next_file
        → AreOpenTablesOf keys env (options_in env cmp filters codings start) set
        (files_at env world.0) world.1.cache.now
    open_on start world is come set store rises =
        let then = (world_on start is world come).has_open.are in
        record {
          path = then.path ∙ sym store;
          given = λ number fits there.
              let less = then.given number fits there in omega (arith, less, rises);
          matches = subst (λ (by : TableOptions C FP). MatchesFiles keys env by (files_at env world.0)
              world.1.cache.now)
              (reads_on value.set.store value.set.next_file start world come).options then.matches;
        }
