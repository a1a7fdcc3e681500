-- Why printing what files hold fails.
use Rattle.std.specs.Prelude.{◌⊎◌, ◌≤◌, ◌+◌, ℕ, List, Result, Err, length}
use Rattle.leveldb_base.specs.declared.error.Status.{Status}
use Rattle.leveldb_base.specs.Error.{IsOutOfMemory}
use Rattle.leveldb_env.specs.declared.env.sink.Sink.{Ghosts}
use Rattle.leveldb_inspect.specs.declared.fragments.Front.{Front}
use Rattle.leveldb_inspect.specs.declared.fragments.Front.TheVariants.{Whole}

module _ {O : Type 0} (sink : Ghosts O) where
  -- a put into the sink failed with this status
  abbrev pub IsPutError : Status → Type 0
  IsPutError status =
      (old : O) × (new : O) × (bytes : List ℕ) × sink.puts old bytes (Err status) new

  -- out of memory, or an error of the sink
  abbrev pub IsOutputError : Status → Type 0
  IsOutputError status = IsOutOfMemory status ⊎ IsPutError status

-- a whole fragment has a header at least, and ends within its block
abbrev pub FitsFront : List ℕ → ℕ → Front → Type 0
FitsFront block at (Whole kind count) = (7 ≤ count) × (at + count ≤ length block)
FitsFront block at other = Unit {0}
