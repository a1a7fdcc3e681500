use Rattle.leveldb_table.specs.TableBlock.{KeepsDisk}
use Rattle.leveldb_inspect.proofs.check.check_logs.Given as goal

abbrev pub invariant-loop-number : goal.invariant-loop-number
invariant-loop-number g l = record { keeps : KeepsDisk g.E.Env l.fn.env l.env }
