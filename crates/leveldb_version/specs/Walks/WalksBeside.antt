-- Walks over tables while other files change, as those of a compaction's outputs.
use Rattle.std.specs.Prelude.{◌≡◌, ◌<◌, ◌≤◌, ◌^◌, ℕ, List, Option, IsTrue}
use Rattle.leveldb_base.specs.Types.{Pair}
use Rattle.leveldb_base.specs.declared.cmp.Cmp.{Ghosts as CmpGhosts}
use Rattle.leveldb_base.specs.declared.cmp.internal.InternalKeyCmp.{InternalKeyCmp}
use Rattle.leveldb_base.specs.declared.error.Status.{Status}
use Rattle.leveldb_env.specs.Compressor.{Codings}
use Rattle.leveldb_env.specs.declared.env.Env.{Ghosts as EnvGhosts}
use Rattle.leveldb_env.specs.declared.filter.FilterPolicy.{Ghosts as FilterGhosts}
use Rattle.leveldb_iter.specs.Walk.{KeyOrder}
use Rattle.leveldb_version.specs.Tables.TableCache.{files_at, path_at}
use Rattle.leveldb_version.specs.Walks.VersionIter.{AreOpenGiven, FailsInTables, IsAtInTables, IsOverTables}
use Rattle.leveldb_version.specs.declared.table_cache.moves.ReadTables.{ReadTables}
use Rattle.leveldb_version.specs.declared.version_iter.VersionIter.{VersionIter}

module _ {E C FP K F : Type 0} (env : EnvGhosts E F) where
  -- An environment after other calls than reads of tables: no table has changed whose number is
  -- below that up to which tables may be opened, and no failure is uncounted.
  pub record ChangesBesideTables (reading : ReadTables E C FP K F) (from to : E) : Type 0 where
    pub later : env.failures from ≤ env.failures to
    pub files : IsTrue env.models_disk → (number : ℕ) → number < 2 ^ 64 → number < reading.below
        → files_at env to (path_at reading.cache.now number)
        ≡ files_at env from (path_at reading.cache.now number)

module _ {E C FP K F : Type 0} (order : CmpGhosts (InternalKeyCmp C)) (env : EnvGhosts E F)
    (cmp : CmpGhosts C) (filters : FilterGhosts FP) (codings : K → Codings) where
  -- what stays of walks then
  pub record WalksStay (reading : ReadTables E C FP K F) (from to : E) : Type 0 where
    -- each open table is still one whose number is below that one
    pub given : AreOpenGiven (to, reading)
    -- a walk is over the same pairs
    pub over : (it : VersionIter C) (keys : KeyOrder) (pairs : List Pair)
        → IsOverTables order env cmp filters codings (from, reading) it keys pairs
        → IsOverTables order env cmp filters codings (to, reading) it keys pairs
    -- and where it was
    pub at : (it : VersionIter C) (keys : KeyOrder) (pairs : List Pair) (position : Option ℕ)
        → IsAtInTables order env cmp filters codings (from, reading) it keys pairs position
        → IsAtInTables order env cmp filters codings (to, reading) it keys pairs position
    -- what may make a later move fail might have made it fail before
    pub excuses : (it : VersionIter C) (later : E × ReadTables E C FP K F) (status : Status)
        → FailsInTables order env cmp filters codings (to, reading) it later status
        → FailsInTables order env cmp filters codings (from, reading) it later status

  -- ---- a law

  -- walks stay where they are while files change that they can't open
  abbrev pub WalksStayBeside : Type 0
  WalksStayBeside = (reading : ReadTables E C FP K F) (from to : E)
      → ChangesBesideTables env reading from to → AreOpenGiven (from, reading)
      → WalksStay reading from to
