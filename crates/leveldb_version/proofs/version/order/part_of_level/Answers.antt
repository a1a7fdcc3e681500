use Rattle.leveldb_version.proofs.version.order.part_of_level.Goals as goal

pub returns : goal.returns
returns c = c.range_of_level-start.ensures.here
