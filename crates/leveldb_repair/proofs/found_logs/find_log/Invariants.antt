use Rattle.leveldb_repair.proofs.FindLogsLemmas.{FindingLog}
use Rattle.leveldb_repair.proofs.found_logs.find_log.Given as goal

-- the batches that were read are in memory
abbrev pub invariant-batches : goal.invariant-batches
invariant-batches g l = FindingLog g.E.Env l.store l.file l.fn.found l.fn.env l.found l.reading l.env

abbrev pub decreases-batches : goal.decreases-batches
decreases-batches g l = l.reading.left
