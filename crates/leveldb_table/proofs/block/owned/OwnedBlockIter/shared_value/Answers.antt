use Rattle.leveldb_table.specs.BlockLaws.{IsWithin-number}
use Rattle.leveldb_table.proofs.block.owned.OwnedBlockIter.shared_value.Goals as goal

pub returns-clause-ok : goal.returns-clause-ok
returns-clause-ok g c =
    let self = c.self.inside in
    rw (← c.self.view_is, IsWithin-number self.block.contents self.block.entries self.core.key self.core.spot self.within) c.shared_value.ensures.ok
