use Rattle.leveldb_table.proofs.BlockWalkLemmas.{fronts, is_next, next_loads, next_ends, next_reached}
use Rattle.leveldb_table.proofs.block.walk.BlockCore.advance.Goals as goal

pub returns-then-next-block-clause-ok : goal.returns-then-next-block-clause-ok
returns-then-next-block-clause-ok g c =
    let requires = rw (← c.block.view_is, ← c.self.view_is) at c.requires in
    let f = fronts c.block.inside.entries.1 in
    let next = is_next f c.self.inside.key.items c.self.inside.spot c.next_start-next.result requires c.next_start-next.ensures in
    rw (← c.block.view_is, ← c.self.view_is) (next_ends f next c.if-next-block.true)

pub load-requires : goal.load-requires
load-requires g c =
    let requires = rw (← c.block.view_is, ← c.self.view_is) at c.requires in
    let f = fronts c.block.inside.entries.1 in
    let next = is_next f c.self.inside.key.items c.self.inside.spot c.next_start-next.result requires c.next_start-next.ensures in
    rw (← c.block.view_is, ← c.self.view_is) (next_loads f next c.if-next-block.false)

pub returns-clause-ok : goal.returns-clause-ok
returns-clause-ok g c =
    let requires = rw (← c.block.view_is, ← c.self.view_is) at c.requires in
    let f = fronts c.block.inside.entries.1 in
    let next = is_next f c.self.inside.key.items c.self.inside.spot c.next_start-next.result requires c.next_start-next.ensures in
    rw (← c.block.view_is, ← c.self.view_is) (next_reached f next c.load.new.self.spot c.load.new.self.key c.in_ok-load.field-0 c.if-next-block.false (rw (← c.block.view_is) at c.in_ok-load.ensures.ok))
