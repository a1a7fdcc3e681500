use Rattle.std.proofs.Common.{◌+◌, ◌-◌, ◌/◌, true, length, take, drop, get_or, slice_get, sym, ap, ◌∙◌, arith}
use Rattle.std.specs.Option.{option_map_or}
use Rattle.leveldb_env.specs.FilterBlock.{places_from}
use Rattle.leveldb_env.proofs.FilterBlockLemmas.{filter_read, same_filters, same_policy}
use Rattle.leveldb_env.proofs.filter_block.FilterBlockReader.key_may_match.Goals as goal

pub slice_bounds-key_may_match-count : goal.slice_bounds-key_may_match-count
slice_bounds-key_may_match-count g c =
    let held = c.self.inside.held.1 in
    let same = same_filters c.self.view_is in
    let index = c.args.block_offset / 2048 in
    let read = filter_read held.block index c.place-begin.result c.place-end.result (omega (arith, ap length same))
    (c.place-begin.ensures ∙ ap (λ z. get_or (places_from 0 z) index 0) (sym same)) (c.place-end.ensures ∙ ap (λ z. get_or (places_from 0 z) (index + 1) 0) (sym same)) in
    read.0

pub slice_bounds-key_may_match-start : goal.slice_bounds-key_may_match-start
slice_bounds-key_may_match-start g c =
    let held = c.self.inside.held.1 in
    let same = same_filters c.self.view_is in
    let index = c.args.block_offset / 2048 in
    let read = filter_read held.block index c.place-begin.result c.place-end.result (omega (arith, ap length same))
    (c.place-begin.ensures ∙ ap (λ z. get_or (places_from 0 z) index 0) (sym same)) (c.place-end.ensures ∙ ap (λ z. get_or (places_from 0 z) (index + 1) 0) (sym same)) in
    omega (arith, read.0, read.1, ap length c.as_slice.ensures)

pub slice_bounds-key_may_match-end : goal.slice_bounds-key_may_match-end
slice_bounds-key_may_match-end g c =
    let held = c.self.inside.held.1 in
    let same = same_filters c.self.view_is in
    let index = c.args.block_offset / 2048 in
    let read = filter_read held.block index c.place-begin.result c.place-end.result (omega (arith, ap length same))
    (c.place-begin.ensures ∙ ap (λ z. get_or (places_from 0 z) index 0) (sym same)) (c.place-end.ensures ∙ ap (λ z. get_or (places_from 0 z) (index + 1) 0) (sym same)) in
    omega (arith, read.0, read.1, ap length c.as_slice.ensures)

pub returns : goal.returns
returns g c =
    let held = c.self.inside.held.1 in
    let same = same_filters c.self.view_is in
    let index = c.args.block_offset / 2048 in
    let begin = c.place-begin.result in
    let end = c.place-end.result in
    let key = c.args.key.now in
    let read = filter_read held.block index begin end (omega (arith, ap length same))
    (c.place-begin.ensures ∙ ap (λ z. get_or (places_from 0 z) index 0) (sym same)) (c.place-end.ensures ∙ ap (λ z. get_or (places_from 0 z) (index + 1) 0) (sym same)) in
    c.key_may_match.ensures
    ∙ ap (λ z. g.FP.FilterPolicy.matches c.self.inside.policy key (take (end - begin) (drop begin z))) c.as_slice.ensures
    ∙ ap (λ z. g.FP.FilterPolicy.matches z key (take (end - begin) (drop begin c.self.inside.contents))) (same_policy c.self.view_is)
    ∙ ap (λ z. option_map_or (g.FP.FilterPolicy.matches c.args.self.now.policy key) z true) (sym read.2 ∙ ap (λ z. slice_get z index) same)
