use Rattle.std.proofs.Common.{◌+◌, ◌*◌, ◌≤◌, length, drop, get_or, ap, ◌∙◌, arith, length-drop}
use Rattle.std.proofs.lemmas.List.{take_rest}
use Rattle.byteorder.specs.Endian.{little_number}
use Rattle.leveldb_env.specs.FilterBlock.{places_from}
use Rattle.leveldb_env.proofs.FilterBlockLemmas.{whole_size, place_read, same_filters}
use Rattle.leveldb_env.proofs.filter_block.FilterBlockReader.place.Goals as goal

pub overflow_mul-index : goal.overflow_mul-index
overflow_mul-index g c =
    let held = c.self.inside.held.1 in
    omega (arith, whole_size held.block, held.ends, ap length (same_filters c.self.view_is), ap length c.as_slice.ensures)

pub overflow_add-self-inside : goal.overflow_add-self-inside
overflow_add-self-inside g c =
    let held = c.self.inside.held.1 in
    omega (arith, whole_size held.block, held.ends, ap length (same_filters c.self.view_is), ap length c.as_slice.ensures)

pub slice_bounds-read_u32-count : goal.slice_bounds-read_u32-count
slice_bounds-read_u32-count g c =
    let held = c.self.inside.held.1 in
    omega (arith, whole_size held.block, held.ends, ap length (same_filters c.self.view_is), ap length c.as_slice.ensures)

pub slice_bounds-read_u32-start : goal.slice_bounds-read_u32-start
slice_bounds-read_u32-start g c =
    let held = c.self.inside.held.1 in
    omega (arith, whole_size held.block, held.ends, ap length (same_filters c.self.view_is), ap length c.as_slice.ensures)

pub read_u32-requires : goal.read_u32-requires
read_u32-requires g c =
    let held = c.self.inside.held.1 in
    let at = c.self.inside.limit + 4 * c.args.index in
    rw take_rest
    (omega (arith, whole_size held.block, held.ends, ap length (same_filters c.self.view_is), ap length c.as_slice.ensures, length-drop at c.as_slice.result.now))

pub returns : goal.returns
returns g c =
    let held = c.self.inside.held.1 in
    let at = c.self.inside.limit + 4 * c.args.index in
    let within : c.args.index ≤ length c.self.inside.held.0 = omega (arith, ap length (same_filters c.self.view_is)) in
    c.read_u32.ensures ∙ ap (little_number 4) (take_rest c.as_slice.result.now at) ∙ ap (λ z. little_number 4 (drop at z)) c.as_slice.ensures
    ∙ place_read held.block c.args.index at within (omega (arith, held.ends))
    ∙ ap (λ z. get_or (places_from 0 z) c.args.index 0) (same_filters c.self.view_is)
