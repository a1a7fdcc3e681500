use Rattle.std.proofs.Common.{◌-◌, ◌/◌, get_or, sym, ap, ◌∙◌, arith}
use Rattle.std.specs.Ordering.{is_lt}
use Rattle.leveldb_table.specs.Block.{restart_points}
use Rattle.leveldb_table.proofs.BlockWalkLemmas.{starts_by}
use Rattle.leveldb_table.proofs.block.Block.point_before_key.Goals as goal

pub loop-left-preserved-then-is_lt : goal.loop-left-preserved-then-is_lt
loop-left-preserved-then-is_lt g c = (
  omega arith,
  c.loop-left.invariant.1,
  rw (← c.self.view_is) (starts_by (g.met.C.Cmp.preorder c.self.inside.cmp) c.if-not-self.false c.self.inside.entries.1 c.args.key.now (sym c.accepts.ensures ∙ c.if-not-accepts.false)
      (get_or (restart_points c.self.inside.entries.0) (c.loop-left.right - (c.loop-left.right - c.loop-left.left) / 2) 0) c.point_key.result.now
      (rw (← c.self.view_is) at c.point_key.ensures)
      (sym (c.is_lt.ensures ∙ ap is_lt c.cmp.ensures) ∙ c.if-is_lt.true)),
)
