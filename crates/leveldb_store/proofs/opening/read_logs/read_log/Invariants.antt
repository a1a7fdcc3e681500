use Rattle.leveldb_store.proofs.Logs.ReadLogsLemmas.{ReadingLog}
use Rattle.leveldb_store.proofs.opening.read_logs.read_log.Given as goal

-- the batches that were read are in memory
abbrev pub invariant-batches : goal.invariant-batches
invariant-batches g l = ReadingLog g.E.Env l.store l.number l.fn.logs l.fn.env l.logs l.log l.env

abbrev pub decreases-batches : goal.decreases-batches
decreases-batches g l = l.log.left
