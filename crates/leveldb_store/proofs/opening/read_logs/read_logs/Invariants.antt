use Rattle.std.proofs.Common.{length}
use Rattle.leveldb_store.proofs.Logs.ReadLogsLemmas.{ReadingLogs}
use Rattle.leveldb_store.proofs.opening.read_logs.read_logs.Given as goal

-- the first of the logs are in memory
abbrev pub invariant-loop-number : goal.invariant-loop-number
invariant-loop-number g l = ReadingLogs g.E.Env l.store l.fn.cmp l.fn.numbers.keys l.fn.env l.numbers.keys l.logs l.env

abbrev pub decreases-loop-number : goal.decreases-loop-number
decreases-loop-number g l = length l.numbers.keys
