use Rattle.std.proofs.Common.{refl}
use Rattle.leveldb_repair.proofs.FoundLogsLemmas.{HaveEntries-none}
use Rattle.leveldb_repair.proofs.found_logs.memtables.Memtables.new.Goals as goal

pub returns-clause-none : goal.returns-clause-none
returns-clause-none g c = HaveEntries-none _ c.new.ensures.items c.new-2.ensures.entries refl c.new-2.ensures.cmp
