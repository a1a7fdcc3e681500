use Rattle.rusty_leveldb.proofs.Repairs.RepairLawsLemmas.{crash_since_repair}
use Rattle.rusty_leveldb.proofs.promises.crashes_of_repairs_leave_the_old_or_the_found.Goals as goal

pub returns : goal.returns
returns g c = crash_since_repair g.E.Env _ g.met.E.Env.only_now
