use Rattle.std.proofs.Common.{arith, subst, sym}
use Rattle.leveldb_repair.specs.FoundLogs.{AreAllTables}
use Rattle.leveldb_repair.proofs.FoundLogsLemmas.{AreAllTables-both, AreAllTables-full}
use Rattle.leveldb_repair.proofs.found_logs.memtables.Memtables.into_tables.Goals as goal
use Rattle.leveldb_repair.proofs.found_logs.memtables.Memtables.into_tables.Goals.{then-len-gt0+in_ok-push, else-len-gt0}

pub returns-clause-all : goal.returns-clause-all
returns-clause-all g c = elim c.if-len-gt0.branch [
  | then-len-gt0+in_ok-push w ↦ rw w.tables-is (subst (AreAllTables c.args.self) (sym w.in_ok-push.ensures.items) (AreAllTables-both c.args.self))
  | else-len-gt0 w ↦ rw w.tables-is (AreAllTables-full c.args.self (omega (arith, w.if-len-gt0, c.len.ensures)))
]
