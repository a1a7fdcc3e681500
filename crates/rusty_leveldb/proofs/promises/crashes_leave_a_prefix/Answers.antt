use Rattle.rusty_leveldb.proofs.Engines.Crashes.{crash_between, crash_inside}
use Rattle.rusty_leveldb.proofs.promises.crashes_leave_a_prefix.Goals as goal

pub returns-clause-between : goal.returns-clause-between
returns-clause-between c = crash_between

pub returns-clause-inside : goal.returns-clause-inside
returns-clause-inside c = crash_inside
