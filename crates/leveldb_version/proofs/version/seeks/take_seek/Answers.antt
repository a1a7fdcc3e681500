use Rattle.leveldb_version.proofs.Versions.SeeksLemmas.{seek_in_range}
use Rattle.leveldb_version.proofs.version.seeks.take_seek.Goals as goal

pub returns : goal.returns
returns c = seek_in_range c.args.at c.args.files.now _ _ _ c.range_of_level-start.ensures c.take_seek_among.ensures
