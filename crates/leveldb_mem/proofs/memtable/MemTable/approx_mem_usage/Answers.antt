use Rattle.std.proofs.Common.{◌∙◌}
use Rattle.leveldb_mem.proofs.MemTableLemmas.{same_memory}
use Rattle.leveldb_mem.proofs.memtable.MemTable.approx_mem_usage.Goals as goal

pub returns : goal.returns
returns g c = rw (← c.self.view_is) (c.approx_memory.ensures ∙ same_memory c.self.inside.map.pairs c.self.invariant.0)
