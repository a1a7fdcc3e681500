-- What there is of a table at each moment while it is written, and after a call that failed: a
-- prefix of the table that a builder finished, or of what one had put that didn't.
use Rattle.std.specs.Prelude.{◌≡◌, ◌⊎◌, ◌≤◌, ◌<◌, ℕ, List, [], ◌++◌, Contains, IsTrue, Option, Some}
use Rattle.leveldb_base.specs.Types.{Pair}
use Rattle.leveldb_base.specs.declared.cmp.Cmp.{Ghosts as CmpGhosts}
use Rattle.leveldb_base.specs.declared.error.Status.{Status}
use Rattle.leveldb_env.specs.Env.{File, Files, Run, bytes_of}
use Rattle.leveldb_env.specs.declared.env.Env.{Ghosts as EnvGhosts}
use Rattle.leveldb_env.specs.declared.filter.FilterPolicy.{Ghosts as FilterGhosts}
use Rattle.leveldb_table.specs.TableBuilder.{IsNewBuilder, TableBuilt}
use Rattle.leveldb_files.specs.Stores.Paths.{table_path}
use Rattle.leveldb_store.specs.Tables.BuildTable.{IsTableBuilt, StopsAtEnd, TableChoices, flushes_all, puts_all}

module _ {C FP : Type 0} {order : CmpGhosts C} {filters : FilterGhosts FP}
    (choices : TableChoices order filters) (Has : Pair → Type 0) where
  -- These bytes are what a new builder of the choices had put that took some of the pairs and
  -- didn't finish its table, though each put took all.
  pub record IsLeftUnfinished (bytes : List ℕ) : Type 0 where
    pub pairs : List Pair
    pub each : (pair : Pair) → Contains pairs pair → Has pair
    pub core : TableBuilt C FP
    pub is_new : IsNewBuilder order filters choices.cmp choices.policy choices.id
        choices.block_size choices.restarts core
    pub status : Status
    pub stops : StopsAtEnd order filters choices.format.codings puts_all core [] pairs flushes_all
        status
    pub put : stops.to ≡ bytes

  -- they are the table that a builder of the choices makes of some of the pairs
  pub record IsBuiltOf (bytes : List ℕ) : Type 0 where
    pub pairs : List Pair
    pub each : (pair : Pair) → Contains pairs pair → Has pair
    pub built : IsTableBuilt choices pairs bytes

  -- they are a prefix of one or the other
  abbrev pub IsTablePart : List ℕ → Type 0
  IsTablePart bytes = (whole : List ℕ) × (rest : List ℕ) × (whole ≡ bytes ++ rest)
      × (IsLeftUnfinished whole ⊎ IsBuiltOf whole)

  -- a file is as it was, or it is there and its bytes are a part of such a table
  abbrev pub IsSameOrPart : Option File → Option File → Type 0
  IsSameOrPart old now =
      (now ≡ old) ⊎ ((file : File) × (now ≡ Some file) × IsTablePart (bytes_of file))

  -- so is each file
  abbrev pub AreSameOrParts : Files → Files → Type 0
  AreSameOrParts old now = (path : List ℕ) → IsSameOrPart (old path) (now path)

  -- so is each table of a number from the first on and below the next
  abbrev pub HaveTableParts : List ℕ → ℕ → ℕ → Files → Files → Type 0
  HaveTableParts store first next old now = (n : ℕ) → first ≤ n → n < next
      → IsSameOrPart (old (table_path store n)) (now (table_path store n))

-- now and at each moment on the way each file is as it was, or it is a part of a table of some of
-- these pairs
abbrev pub WritesParts : {C FP E F : Type 0} {order : CmpGhosts C} {filters : FilterGhosts FP}
    → TableChoices order filters → EnvGhosts E F → List Pair → E → E → Type 0
WritesParts choices env pairs from to = IsTrue env.models_disk
    → Run (AreSameOrParts choices (Contains pairs) (env.observed from).disk.files)
    (env.observed from) (env.observed to)
