-- The engine and a life, by the types of what their options own in boxes.
use Rattle.leveldb_base.specs.declared.cmp.Cmp.{Ghosts as CmpGhosts}
use Rattle.leveldb_base.specs.declared.cmp.internal.InternalKeyCmp.{InternalKeyCmp}
use Rattle.leveldb_env.specs.Options.{Boxed, OptionsOf}
use Rattle.leveldb_version.specs.declared.table_cache.TableCache.{TableCache}
use Rattle.rusty_leveldb.specs.Engines.EngineValue.{EngineValue}
use Rattle.rusty_leveldb.specs.Openings.ReaderValue.{ReaderValue}
use Rattle.rusty_leveldb.specs.declared.shell.crash_runs.Life.{Life}

-- the order of internal keys over comparators of this type
abbrev pub InternalOrder : Type 0 → Type 1
InternalOrder C = CmpGhosts (InternalKeyCmp C)

-- an engine whose options own boxes of these types
abbrev pub EngineOf : (E C FP F : Type 0) → Boxed → Type 0
EngineOf E C FP F B = EngineValue C (OptionsOf C FP B) (TableCache E C FP F)

-- an engine that only reads, whose options do
abbrev pub ReaderOf : (E C FP F : Type 0) → Boxed → Type 0
ReaderOf E C FP F B = ReaderValue C (OptionsOf C FP B) (TableCache E C FP F)

-- a life whose options do
abbrev pub LifeOf : Type 0 → Type 0 → Boxed → Type 0
LifeOf C FP B = Life C FP B.sinks B.compressors B.sink B.compressor
