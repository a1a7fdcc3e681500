use Rattle.rusty_leveldb.proofs.Headline.LawLemmas.{abandoned_is_whole, durable_is_kept}
use Rattle.rusty_leveldb.proofs.promises.durable_maps_are_kept.Goals as goal

pub returns-clause-durable : goal.returns-clause-durable
returns-clause-durable c = durable_is_kept

pub returns-clause-abandoned : goal.returns-clause-abandoned
returns-clause-abandoned c = abandoned_is_whole
