use Rattle.rusty_leveldb.proofs.Machines.LawsLemmas.{lives_fit}
use Rattle.rusty_leveldb.proofs.Machines.MachineLemmas.{step_fits, crash_between_fits, crash_inside_fits}
use Rattle.rusty_leveldb.proofs.promises.numbers_always_fit.Goals as goal

pub returns-clause-steps : goal.returns-clause-steps
returns-clause-steps c = step_fits

pub returns-clause-crashes : goal.returns-clause-crashes
returns-clause-crashes c = crash_between_fits

pub returns-clause-crashes_inside : goal.returns-clause-crashes_inside
returns-clause-crashes_inside c = crash_inside_fits

pub returns-clause-lives : goal.returns-clause-lives
returns-clause-lives c = lives_fit
