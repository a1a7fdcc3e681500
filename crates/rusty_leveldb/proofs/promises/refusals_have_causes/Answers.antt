use Rattle.rusty_leveldb.proofs.Engines.CallLawsLemmas.{refusals_are_explained}
use Rattle.rusty_leveldb.proofs.Machines.Causes.{refusal_has_cause}
use Rattle.rusty_leveldb.proofs.promises.refusals_have_causes.Goals as goal

pub returns-clause-machine : goal.returns-clause-machine
returns-clause-machine g c = refusal_has_cause

pub returns-clause-calls : goal.returns-clause-calls
returns-clause-calls g c = refusals_are_explained g.E.Env _ _
