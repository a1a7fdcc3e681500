use Rattle.leveldb_table.specs.TableBlock.{KeepsDisk}
use Rattle.leveldb_inspect.proofs.program.run.Given as goal

abbrev pub invariant-loop-name : goal.invariant-loop-name
invariant-loop-name g l = record { keeps : KeepsDisk g.E.Env l.fn.env l.env }
