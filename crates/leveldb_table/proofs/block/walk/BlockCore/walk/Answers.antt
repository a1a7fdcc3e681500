use Rattle.std.proofs.Common.{arith}
use Rattle.leveldb_table.proofs.BlockWalkLemmas.{fronts, fronts_of, point_loads, is_there_step, is_there_loads}
use Rattle.leveldb_table.proofs.block.walk.BlockCore.walk.Goals as goal

pub load-requires : goal.load-requires
load-requires g c =
    point_loads c.args.block.now.entries (fronts_of c.block.view_is (fronts c.block.inside.entries.1)) c.args.self.now.key c.args.point c.args.stop c.requires.stop.0 c.requires.point c.requires.before c.requires.stop.1 c.requires.stop.2

pub loop-next-init : goal.loop-next-init
loop-next-init g c =
    let step = is_there_step (fronts_of c.block.view_is (fronts c.block.inside.entries.1)) c.load.new.self.key c.load.new.self.spot c.args.stop c.requires.stop.0 c.in_ok-next.ensures.ok c.requires.before c.requires.stop.1 c.requires.stop.2 in
    (step.0, step.1)

pub load-requires-in-loop-next : goal.load-requires-in-loop-next
load-requires-in-loop-next g c =
    is_there_loads (fronts_of c.block.view_is (fronts c.block.inside.entries.1)) c.loop-next.self.key c.loop-next.self.spot c.args.stop c.requires.stop.0 c.loop-next.invariant.0 c.loop-next-test.true c.requires.stop.1 c.requires.stop.2

pub loop-next-smaller : goal.loop-next-smaller
loop-next-smaller g c =
    let step = is_there_step (fronts_of c.block.view_is (fronts c.block.inside.entries.1)) c.load-in-loop-next.new.self.key c.load-in-loop-next.new.self.spot c.args.stop c.requires.stop.0 c.in_ok-next-2.ensures.ok c.loop-next-test.true c.requires.stop.1 c.requires.stop.2 in
    let more = step.2 in
    omega (arith, more, c.loop-next-test.true)

pub loop-next-preserved : goal.loop-next-preserved
loop-next-preserved g c =
    let step = is_there_step (fronts_of c.block.view_is (fronts c.block.inside.entries.1)) c.load-in-loop-next.new.self.key c.load-in-loop-next.new.self.spot c.args.stop c.requires.stop.0 c.in_ok-next-2.ensures.ok c.loop-next-test.true c.requires.stop.1 c.requires.stop.2 in
    (step.0, step.1)
