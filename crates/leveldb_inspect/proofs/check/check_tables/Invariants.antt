use Rattle.leveldb_table.specs.TableBlock.{KeepsDisk}
use Rattle.leveldb_inspect.proofs.check.check_tables.Given as goal

abbrev pub invariant-loop-table : goal.invariant-loop-table
invariant-loop-table g l = record { keeps : KeepsDisk g.E.Env l.fn.env l.env }
