use Rattle.rusty_leveldb.specs.Machines.Machine.{risk_of}
use Rattle.rusty_leveldb.proofs.Engines.Moments.{spared_since}
use Rattle.rusty_leveldb.proofs.promises.crashes_since_entry_leave_a_prefix.Goals as goal

pub returns : goal.returns
returns g c store meaning old new request from to moments files left since honest =
    spared_since store meaning old (risk_of request old new) moments (g.met.E.Env.only_now to) files left since honest
