use Rattle.leveldb_base.proofs.ThinningLemmas.{entry_before_tells}
use Rattle.leveldb_base.proofs.laws.thinning.entry_before_tells_what_goes.Goals as goal

pub returns : goal.returns
returns c = entry_before_tells
