use Rattle.std.proofs.Common.{rules}
use Rattle.leveldb_base.specs.CmpLaws.{sequence_part-lt}
use Rattle.leveldb_mem.proofs.memtable.MemTable.get.Goals as goal

pub newest-requires : goal.newest-requires
newest-requires g c = search (sequence_part-lt, rules)
