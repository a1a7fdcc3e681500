use Rattle.rusty_leveldb.proofs.Engines.ReadsLemmas.{nothing_stands, one_reading}
use Rattle.rusty_leveldb.proofs.promises.files_have_one_reading.Goals as goal

pub returns-clause-one : goal.returns-clause-one
returns-clause-one c = one_reading

pub returns-clause-none : goal.returns-clause-none
returns-clause-none c = nothing_stands
