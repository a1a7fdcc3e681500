use Rattle.rusty_leveldb.proofs.Machines.LawsLemmas.{durable_stays, synced_stays, each_answer_parts}
use Rattle.rusty_leveldb.proofs.promises.durable_batches_stay.Goals as goal

pub returns-clause-durable : goal.returns-clause-durable
returns-clause-durable c = durable_stays

pub returns-clause-synced : goal.returns-clause-synced
returns-clause-synced c = synced_stays

pub returns-clause-answers : goal.returns-clause-answers
returns-clause-answers c = each_answer_parts
