use Rattle.std.proofs.Common.{None}
use Rattle.leveldb_base.specs.Types.{next_position}
use Rattle.leveldb_table.specs.Block.{pairs_of}
use Rattle.leveldb_table.specs.BlockLaws.{IsWithin-number}
use Rattle.leveldb_table.proofs.BlockWalkLemmas.{moved}
use Rattle.leveldb_table.proofs.block.owned.OwnedBlockIterLdbIterator.advance.Goals as goal

pub returns-clause-ok : goal.returns-clause-ok
returns-clause-ok g c =
    rw (← c.self.view_is) (moved c.advance.result (next_position (pairs_of None c.self.inside.block.entries))
    (IsWithin-number c.self.inside.block.contents c.self.inside.block.entries c.self.inside.core.key c.self.inside.core.spot c.self.inside.within)
    (IsWithin-number c.self.inside.block.contents c.self.inside.block.entries c.advance.new.self.key c.advance.new.self.spot c.advance.ensures.within)
    c.advance.ensures.ok)
