use Rattle.std.proofs.Common.{arith}
use Rattle.leveldb_mem.proofs.MemTableLemmas.{text_fits}
use Rattle.leveldb_mem.proofs.memtable.front_text.Goals as goal

pub unreachable-requires : goal.unreachable-requires
unreachable-requires c = c.in-None.ensures c.requires.0 c.requires.1 (text_fits c.requires.0 c.requires.1 c.args.bytes.now c.requires.2 (omega arith)) c.requires.2
