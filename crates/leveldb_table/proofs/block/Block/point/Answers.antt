use Rattle.std.proofs.Common.{◌+◌, ◌*◌, drop, length, refl, ap, ◌∙◌, arith, length-drop}
use Rattle.std.proofs.lemmas.List.{take_rest}
use Rattle.byteorder.specs.Endian.{little_number}
use Rattle.leveldb_table.proofs.BlockWalkLemmas.{sizes, point_there}
use Rattle.leveldb_table.proofs.block.Block.point.Goals as goal

pub overflow_add-self-inside : goal.overflow_add-self-inside
overflow_add-self-inside g c =
    let requires = rw (← c.self.view_is) at c.requires in
    omega (arith, requires, sizes c.self.inside.entries.1, ap length c.as_slice.ensures)

pub slice_bounds-read_u32-count : goal.slice_bounds-read_u32-count
slice_bounds-read_u32-count g c =
    let requires = rw (← c.self.view_is) at c.requires in
    omega (arith, requires, sizes c.self.inside.entries.1, ap length c.as_slice.ensures)

pub slice_bounds-read_u32-start : goal.slice_bounds-read_u32-start
slice_bounds-read_u32-start g c =
    let requires = rw (← c.self.view_is) at c.requires in
    omega (arith, requires, sizes c.self.inside.entries.1, ap length c.as_slice.ensures)

pub read_u32-requires : goal.read_u32-requires
read_u32-requires g c =
    let requires = rw (← c.self.view_is) at c.requires in
    rw take_rest (omega (arith, requires, sizes c.self.inside.entries.1, ap length c.as_slice.ensures, length-drop (c.self.inside.limit + 4 * c.args.index) c.as_slice.result.now))

pub returns : goal.returns
returns g c =
    let at = c.self.inside.limit + 4 * c.args.index in
    let requires = rw (← c.self.view_is) at c.requires in
    rw (← c.self.view_is) (c.read_u32.ensures ∙ ap (little_number 4) (take_rest c.as_slice.result.now at) ∙ ap (λ z. little_number 4 (drop at z)) c.as_slice.ensures
    ∙ point_there c.self.inside.entries.1 c.args.index at requires refl)
