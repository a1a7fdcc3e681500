use Rattle.std.proofs.Common.{◌∙◌, Some, refl, sym, slice_index, arith, length}
use Rattle.leveldb_base.proofs.PositionLemmas.{last_before_end}
use Rattle.leveldb_mem.specs.SkipMap.{HasNode}
use Rattle.leveldb_mem.proofs.SkipMapLemmas.{before_head, before_node, before_has, for_some}
use Rattle.leveldb_mem.proofs.skipmap.SkipMap.last.Goals as goal

pub returns-then-last-eq-HEAD-clause-position : goal.returns-then-last-eq-HEAD-clause-position
returns-then-last-eq-HEAD-clause-position g c =
    let it = c.self.inside in
    let last = slice_index c.path_to_end.result 0 in
    rw (← c.self.view_is) (before_head it.pairs.order (length it.pairs.pairs) last (omega (arith, c.self.invariant.2)) c.path_to_end.ensures.place c.if-last-eq-HEAD.true ∙ sym (last_before_end it.pairs.pairs))

pub returns-else-last-eq-HEAD-clause-position : goal.returns-else-last-eq-HEAD-clause-position
returns-else-last-eq-HEAD-clause-position g c =
    let it = c.self.inside in
    let last = slice_index c.path_to_end.result 0 in
    rw (← c.self.view_is) (before_node it.pairs.order (length it.pairs.pairs) last (omega (arith, c.self.invariant.2)) c.path_to_end.ensures.place c.if-last-eq-HEAD.false ∙ sym (last_before_end it.pairs.pairs))

pub returns-else-last-eq-HEAD-clause-within : goal.returns-else-last-eq-HEAD-clause-within
returns-else-last-eq-HEAD-clause-within g c =
    let it = c.self.inside in
    let last = slice_index c.path_to_end.result 0 in
    let has = before_has it.pairs.order (length it.pairs.pairs) last (omega (arith, c.self.invariant.2)) c.path_to_end.ensures.place c.if-last-eq-HEAD.false in
    rw (← c.self.view_is) (for_some (HasNode it.pairs.order it.pairs.pairs) (Some last) last refl (omega (arith, has, c.self.invariant.2)))
