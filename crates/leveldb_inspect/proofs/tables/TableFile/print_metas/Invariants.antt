use Rattle.leveldb_table.specs.TableBlock.{KeepsDisk}
use Rattle.leveldb_inspect.proofs.tables.TableFile.print_metas.Given as goal

abbrev pub invariant-loop : goal.invariant-loop
invariant-loop g l = record { keeps : KeepsDisk g.E.Env l.fn.env l.env }
