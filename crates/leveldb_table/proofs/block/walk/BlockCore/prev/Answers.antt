use Rattle.std.proofs.Common.{◌<◌, sym, arith}
use Rattle.leveldb_table.proofs.BlockWalkLemmas.{fronts, fronts_of, is_here, previous_reached}
use Rattle.leveldb_table.proofs.block.walk.BlockCore.prev.Goals as goal

pub returns-then-start-eq0-clause-ok : goal.returns-then-start-eq0-clause-ok
returns-then-start-eq0-clause-ok g c =
    let here = is_here (fronts_of c.block.view_is (fronts c.block.inside.entries.1)) c.self.inside.key.items c.self.inside.spot c.here_start-start.result (rw (← c.self.view_is) at c.requires) c.here_start-start.ensures in
    rw (← c.self.view_is) (sym (here.none c.if-start-eq0.true))

pub walk-requires-clause-stop : goal.walk-requires-clause-stop
walk-requires-clause-stop g c =
    let here = is_here (fronts_of c.block.view_is (fronts c.block.inside.entries.1)) c.self.inside.key.items c.self.inside.spot c.here_start-start.result (rw (← c.self.view_is) at c.requires) c.here_start-start.ensures in
    (here.index, here.within, here.begins)

pub returns-clause-ok : goal.returns-clause-ok
returns-clause-ok g c =
    let f = fronts_of c.block.view_is (fronts c.block.inside.entries.1) in
    let here = is_here f c.self.inside.key.items c.self.inside.spot c.here_start-start.result (rw (← c.self.view_is) at c.requires) c.here_start-start.ensures in
    let not_zero = c.if-start-eq0.false in
    let some : 0 < c.here_start-start.result = omega (arith, not_zero) in
    rw (← c.self.view_is) (previous_reached f here some c.walk.new.self.spot c.walk.new.self.key c.in_ok-walk.ensures.ok)
