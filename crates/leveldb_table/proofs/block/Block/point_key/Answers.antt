use Rattle.std.proofs.Common.{[], take, drop, length, ◌-◌, sym, ap, subst, arith}
use Rattle.leveldb_table.specs.BlockCheck.{ReadsEntry}
use Rattle.leveldb_table.specs.BlockWalk.{HasKeyAt}
use Rattle.leveldb_table.proofs.BlockWalkLemmas.{loads_point, fronts, start_within, limit_within, loads_some, point_key_there}
use Rattle.leveldb_table.proofs.block.Block.point_key.Goals as goal

pub slice_bounds-take_entry-count : goal.slice_bounds-take_entry-count
slice_bounds-take_entry-count g c =
    let f = fronts c.self.inside.entries.1 in
    let index = rw (← c.self.view_is) at c.requires.index in
    let some = rw (← c.self.view_is) at c.requires.some in
    let start = rw (← c.self.view_is) at c.point-start.ensures in
    let loads = loads_point f.allowed [] c.point-start.result (c.args.index, index, sym start) some in
    omega (arith, start_within f loads)

pub slice_bounds-take_entry-start : goal.slice_bounds-take_entry-start
slice_bounds-take_entry-start g c =
    let f = fronts c.self.inside.entries.1 in
    let index = rw (← c.self.view_is) at c.requires.index in
    let some = rw (← c.self.view_is) at c.requires.some in
    let start = rw (← c.self.view_is) at c.point-start.ensures in
    let loads = loads_point f.allowed [] c.point-start.result (c.args.index, index, sym start) some in
    omega (arith, start_within f loads, limit_within f, ap length c.as_slice.ensures)

pub slice_bounds-take_entry-end : goal.slice_bounds-take_entry-end
slice_bounds-take_entry-end g c =
    let f = fronts c.self.inside.entries.1 in
    omega (arith, limit_within f, ap length c.as_slice.ensures)

pub unwrap-requires : goal.unwrap-requires
unwrap-requires g c =
    let f = fronts c.self.inside.entries.1 in
    let index = rw (← c.self.view_is) at c.requires.index in
    let some = rw (← c.self.view_is) at c.requires.some in
    let start = rw (← c.self.view_is) at c.point-start.ensures in
    let loads = loads_point f.allowed [] c.point-start.result (c.args.index, index, sym start) some in
    loads_some f loads c.take_entry.result (subst (λ z. ReadsEntry (take (c.self.inside.limit - c.point-start.result) (drop c.point-start.result z)) c.take_entry.result) c.as_slice.ensures c.take_entry.ensures)

pub returns : goal.returns
returns g c =
    let f = fronts c.self.inside.entries.1 in
    let index = rw (← c.self.view_is) at c.requires.index in
    let some = rw (← c.self.view_is) at c.requires.some in
    let start = rw (← c.self.view_is) at c.point-start.ensures in
    let loads = loads_point f.allowed [] c.point-start.result (c.args.index, index, sym start) some in
    let slice = take (c.self.inside.limit - c.point-start.result) (drop c.point-start.result c.self.inside.contents) in
    let read = subst (λ z. ReadsEntry (take (c.self.inside.limit - c.point-start.result) (drop c.point-start.result z)) c.take_entry.result) c.as_slice.ensures c.take_entry.ensures in
    let there = point_key_there f loads c.unwrap.result.0 c.unwrap.result.1 (subst (λ z. ReadsEntry slice z) c.unwrap.ensures read) in
    rw (← c.self.view_is) (subst (λ z. HasKeyAt c.self.inside.entries.0 z c.unwrap.result.0.rest.now) start there)
