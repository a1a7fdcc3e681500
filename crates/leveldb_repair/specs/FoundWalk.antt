-- The children of a repair's merge, by cases: over memory, and over a found table.
use Rattle.std.specs.Prelude.{ℕ, List, Option}
use Rattle.leveldb_base.specs.Types.{Pair}
use Rattle.leveldb_base.specs.declared.cmp.Cmp.{Ghosts as CmpGhosts}
use Rattle.leveldb_base.specs.declared.cmp.internal.InternalKeyCmp.{InternalKeyCmp}
use Rattle.leveldb_base.specs.declared.error.Status.{Status}
use Rattle.leveldb_base.specs.declared.types.LdbIterator.{Ghosts as IteratorGhosts}
use Rattle.leveldb_env.specs.Compressor.{Codings}
use Rattle.leveldb_env.specs.declared.env.Env.{Ghosts as EnvGhosts}
use Rattle.leveldb_iter.specs.InMemory.{IsAloneOver, IsAloneAt, FailsAlone, alone_here}
use Rattle.leveldb_iter.specs.Walk.{KeyOrder}
use Rattle.leveldb_repair.specs.FoundWalkTable.{FailsInFound, IsFoundAt, IsFoundOver, found_here}
use Rattle.leveldb_repair.specs.FoundWalkOf.{FoundWalk}
use Rattle.leveldb_repair.specs.declared.found_walk.FoundWalk.TheVariants.{Memory, Table}
use Rattle.leveldb_repair.specs.declared.found_walk.files.ReadFiles.{ReadFiles}

-- the pair that it is at
abbrev pub walk_here : {E C M F : Type 0} → IteratorGhosts M → FoundWalk E C M F → Option Pair
walk_here iterator (Memory it) = alone_here iterator it
walk_here iterator (Table it) = found_here it

module _ {E C K M F : Type 0} (order : CmpGhosts (InternalKeyCmp C)) (env : EnvGhosts E F)
    (codings : K → Codings) (iterator : IteratorGhosts M) where
  -- over which list it is
  abbrev pub IsWalkOver : E × ReadFiles K → FoundWalk E C M F → KeyOrder → List Pair → Type 0
  IsWalkOver world (Memory it) keys pairs = IsAloneOver iterator world it keys pairs
  IsWalkOver world (Table it) keys pairs = IsFoundOver order env codings world it keys pairs

  -- and at which position of it
  abbrev pub IsWalkAt : E × ReadFiles K → FoundWalk E C M F → KeyOrder → List Pair → Option ℕ
      → Type 0
  IsWalkAt world (Memory it) keys pairs position = IsAloneAt iterator world it keys pairs position
  IsWalkAt world (Table it) keys pairs position =
      IsFoundAt order env codings world it keys pairs position

  -- the errors that a move may have
  abbrev pub FailsInWalk : E × ReadFiles K → FoundWalk E C M F → E × ReadFiles K → Status → Type 0
  FailsInWalk world (Memory it) later status = FailsAlone iterator world it later status
  FailsInWalk world (Table it) later status = FailsInFound order env codings world it later status
