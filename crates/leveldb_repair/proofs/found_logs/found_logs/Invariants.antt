use Rattle.leveldb_repair.proofs.FindLogsLemmas.{FindingLogs}
use Rattle.leveldb_repair.proofs.found_logs.found_logs.Given as goal

-- what is found of the first files is in memory
abbrev pub invariant-loop-file : goal.invariant-loop-file
invariant-loop-file g l = FindingLogs g.E.Env l.fn.store l.fn.cmp l.files l.fn.env l.file-index l.found l.env
