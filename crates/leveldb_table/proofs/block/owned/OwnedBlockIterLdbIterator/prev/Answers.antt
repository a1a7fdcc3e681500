use Rattle.std.proofs.Common.{sym, subst}
use Rattle.std.specs.Prelude.{IfOk, is_some, ◌≡◌}
use Rattle.leveldb_base.specs.Types.{previous_position}
use Rattle.leveldb_table.specs.BlockLaws.{IsWithin-number}
use Rattle.leveldb_table.proofs.BlockWalkLemmas.{moved}
use Rattle.leveldb_table.proofs.block.owned.OwnedBlockIterLdbIterator.prev.Goals as goal

pub returns-clause-ok : goal.returns-clause-ok
returns-clause-ok g c =
    rw (← c.self.view_is) (moved c.prev.result previous_position
    (IsWithin-number c.self.inside.block.contents c.self.inside.block.entries c.self.inside.core.key c.self.inside.core.spot c.self.inside.within)
    (IsWithin-number c.self.inside.block.contents c.self.inside.block.entries c.prev.new.self.key c.prev.new.self.spot c.prev.ensures.within)
    c.prev.ensures.ok)

pub returns-clause-there : goal.returns-clause-there
returns-clause-there g c =
    subst (λ z. IfOk c.prev.result (λ there. there ≡ is_some z)) (sym
    (IsWithin-number c.self.inside.block.contents c.self.inside.block.entries c.prev.new.self.key c.prev.new.self.spot c.prev.ensures.within)) c.prev.ensures.there
