use Rattle.leveldb_table.specs.BlockLaws.{IsWithin-number}
use Rattle.leveldb_table.proofs.BlockWalkLemmas.{some_position}
use Rattle.leveldb_table.proofs.block.iter.BlockIterLdbIterator.valid.Goals as goal

pub returns : goal.returns
returns g c =
    let self = c.self.inside in
    rw (← c.self.view_is, IsWithin-number self.block.now.contents self.block.now.entries self.core.key self.core.spot self.within, some_position self.block.now.entries self.core.spot) c.valid.ensures
