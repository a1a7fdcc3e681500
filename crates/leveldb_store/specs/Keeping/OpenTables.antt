-- Which tables of a store are open, and which of them a removal of files closes.
use Rattle.std.specs.Prelude.{◌≡◌, ◌<◌, ◌^◌, ℕ, Contains, IsSome, IsTrue}
use Rattle.leveldb_base.specs.declared.cmp.Cmp.{Ghosts as CmpGhosts}
use Rattle.leveldb_base.specs.declared.cmp.internal.InternalKeyCmp.{InternalKeyCmp}
use Rattle.leveldb_env.specs.Env.{Files}
use Rattle.leveldb_env.specs.declared.env.Env.{Ghosts}
use Rattle.leveldb_files.specs.Stores.Paths.{table_path}
use Rattle.leveldb_version.specs.Tables.TableCache.{ClosesTables, MatchesFiles, TableOptions, files_at, store_of, table_at}
use Rattle.leveldb_files.specs.Edits.Edit.{NewFile}
use Rattle.leveldb_version_set.specs.Sets.VersionSetValue.{VersionSetValue}
use Rattle.leveldb_version.specs.declared.table_cache.TableCache.{TableCache}

module _ {E C FP F : Type 0} (order : CmpGhosts (InternalKeyCmp C)) (env : Ghosts E F) where
  -- The open tables of a cache are those of a store: its path is the store's, each one's number was
  -- given, and each is the table in its file.
  pub record AreOpenTablesOf (by : TableOptions C FP) (set : VersionSetValue) (files : Files)
      (cache : TableCache E C FP F) : Type 0 where
    pub path : store_of cache ≡ set.store
    pub given : (number : ℕ) → number < 2 ^ 64 → IsSome (table_at cache number)
        → number < set.next_file
    pub matches : MatchesFiles order env by files cache

module _ {E C FP F : Type 0} (env : Ghosts E F) where
  -- What a call leaves of the open tables of a store that may delete obsolete files, by the set
  -- before it: some are closed, and of the others nothing changes but the order of their use.
  pub record ClosesObsolete (set : VersionSetValue) (from : E) (old : TableCache E C FP F)
      (to : E) (new : TableCache E C FP F) : Type 0 where
    pub closes : ClosesTables old new
    -- a live table stays open
    pub live : (file : NewFile) → Contains set.full.added file → file.number < 2 ^ 64
        → table_at new file.number ≡ table_at old file.number
    -- the file of a table that is open still is as it was, if its number was given before
    pub files : IsTrue env.models_disk → (number : ℕ) → number < 2 ^ 64 → number < set.next_file
        → IsSome (table_at new number) → files_at env to (table_path set.store number)
        ≡ files_at env from (table_path set.store number)
