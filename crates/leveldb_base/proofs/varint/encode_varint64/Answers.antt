use Rattle.std.proofs.Common.{arith}
use Rattle.leveldb_base.proofs.VarintLemmas.{writes_room, writes_more, writes_last}
use Rattle.leveldb_base.proofs.varint.encode_varint64.Goals as goal

pub bounds-dst-used : goal.bounds-dst-used
bounds-dst-used c = writes_room c.loop-rest.invariant (omega arith)

pub loop-rest-preserved : goal.loop-rest-preserved
loop-rest-preserved c = writes_more c.loop-rest.invariant (omega arith) (omega arith)

pub bounds-dst-used-2 : goal.bounds-dst-used-2
bounds-dst-used-2 c = writes_room c.loop-rest.invariant (omega arith)

pub returns-clause-used : goal.returns-clause-used
returns-clause-used c = (writes_last c.loop-rest.invariant (omega arith) (omega arith)).0

pub returns-clause-written : goal.returns-clause-written
returns-clause-written c = (writes_last c.loop-rest.invariant (omega arith) (omega arith)).1
