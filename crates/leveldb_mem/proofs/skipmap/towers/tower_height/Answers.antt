use Rattle.std.proofs.Common.{refl, arith}
use Rattle.std.proofs.lemmas.Bool.{iff_false}
use Rattle.leveldb_mem.proofs.TowersLemmas.{draws_more, stopped, ended}
use Rattle.leveldb_mem.proofs.skipmap.towers.tower_height.Goals as goal

pub drawing-init : goal.drawing-init
drawing-init g c = record { low = omega arith; high = omega arith; links = refl; rest = refl }

pub drawing-preserved : goal.drawing-preserved
drawing-preserved g c =
    draws_more c.drawing.invariant c.drawing-test.true c.next_u64.result _ c.next_u64.ensures (c.is_multiple_of.ensures.0 c.if-is_multiple_of.true)

pub returns-else-is_multiple_of-clause-height : goal.returns-else-is_multiple_of-clause-height
returns-else-is_multiple_of-clause-height g c =
    (stopped c.drawing.invariant c.drawing-test.true c.next_u64.result _ c.next_u64.ensures (iff_false c.is_multiple_of.ensures c.if-is_multiple_of.false)).0

pub returns-else-is_multiple_of-clause-rest : goal.returns-else-is_multiple_of-clause-rest
returns-else-is_multiple_of-clause-rest g c =
    (stopped c.drawing.invariant c.drawing-test.true c.next_u64.result _ c.next_u64.ensures (iff_false c.is_multiple_of.ensures c.if-is_multiple_of.false)).1

pub returns-else-is_multiple_of-clause-within : goal.returns-else-is_multiple_of-clause-within
returns-else-is_multiple_of-clause-within g c = (c.drawing.invariant.low, c.drawing.invariant.high)

pub returns-after-drawing-clause-height : goal.returns-after-drawing-clause-height
returns-after-drawing-clause-height g c = (ended c.drawing.invariant (omega (arith, c.drawing-test.false))).0

pub returns-after-drawing-clause-rest : goal.returns-after-drawing-clause-rest
returns-after-drawing-clause-rest g c = (ended c.drawing.invariant (omega (arith, c.drawing-test.false))).1

pub returns-after-drawing-clause-within : goal.returns-after-drawing-clause-within
returns-after-drawing-clause-within g c = (c.drawing.invariant.low, c.drawing.invariant.high)
