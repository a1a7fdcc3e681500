use Rattle.std.proofs.Common.{arith}
use Rattle.leveldb_mem.proofs.MemTableLemmas.{reserves}
use Rattle.leveldb_mem.proofs.memtable.MemTable.reserve.Goals as goal

pub returns-clause-kept : goal.returns-clause-kept
returns-clause-kept g c =
    let it = c.self.inside.map in
    let more = c.reserve.ensures in
    let new = c.reserve.new.self in
    rw (← c.self.view_is)
    (reserves it.pairs new.pairs c.self.invariant.0 it.places it.bytes new.places new.bytes c.args.count c.args.bytes c.max-places.result c.saturating_add.result
    (omega (arith, c.max-places.ensures, c.places.ensures.value)) c.saturating_add.ensures c.self.invariant.1 c.reserve.result more.pairs more.ok more.err more.bytes more.cause)
