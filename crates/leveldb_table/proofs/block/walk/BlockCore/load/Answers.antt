use Rattle.std.proofs.Common.{◌++◌, take, drop, length, ◌-◌, ◌∙◌, refl, ap, subst, arith}
use Rattle.leveldb_table.specs.BlockCheck.{ReadsEntry}
use Rattle.leveldb_table.proofs.BlockWalkLemmas.{fronts, start_within, limit_within, loads_some, is_loaded, spot_loaded}
use Rattle.leveldb_table.proofs.block.walk.BlockCore.load.Goals as goal

pub slice_bounds-take_entry-count : goal.slice_bounds-take_entry-count
slice_bounds-take_entry-count g c =
    let requires = rw (← c.block.view_is) at c.requires in
    omega (arith, start_within (fronts c.block.inside.entries.1) requires)

pub slice_bounds-take_entry-start : goal.slice_bounds-take_entry-start
slice_bounds-take_entry-start g c =
    let requires = rw (← c.block.view_is) at c.requires in
    let f = fronts c.block.inside.entries.1 in
    omega (arith, start_within f requires, limit_within f, ap length c.as_slice.ensures)

pub slice_bounds-take_entry-end : goal.slice_bounds-take_entry-end
slice_bounds-take_entry-end g c = omega (arith, limit_within (fronts c.block.inside.entries.1), ap length c.as_slice.ensures)

pub unwrap-requires : goal.unwrap-requires
unwrap-requires g c =
    let requires = rw (← c.block.view_is) at c.requires in
    loads_some (fronts c.block.inside.entries.1) requires c.take_entry.result
    (subst (λ z. ReadsEntry (take (c.block.inside.limit - c.args.start) (drop c.args.start z)) c.take_entry.result) c.as_slice.ensures c.take_entry.ensures)

pub returns-clause-ok : goal.returns-clause-ok
returns-clause-ok g c =
    let requires = rw (← c.block.view_is) at c.requires in
    let slice = take (c.block.inside.limit - c.args.start) (drop c.args.start c.block.inside.contents) in
    let read = subst (λ z. ReadsEntry (take (c.block.inside.limit - c.args.start) (drop c.args.start z)) c.take_entry.result) c.as_slice.ensures c.take_entry.ensures in
    let at = is_loaded (fronts c.block.inside.entries.1) requires c.unwrap.result.0 c.unwrap.result.1 (subst (λ z. ReadsEntry slice z) c.unwrap.ensures read) in
    let key = c.in_ok-extend_from_slice.ensures.items ∙ ap (λ z. z ++ c.unwrap.result.0.rest.now) c.truncate.ensures.items
    ∙ ap (λ place. take c.unwrap.result.0.shared place.key ++ c.unwrap.result.0.rest.now) c.self.view_is in
    rw (← c.block.view_is) (spot_loaded at c.extend_from_slice.new.self.items key _ refl refl refl, refl, refl)
