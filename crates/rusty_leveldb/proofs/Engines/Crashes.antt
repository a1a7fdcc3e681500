-- Crashes between two requests and inside one.
use Rattle.std.proofs.Common.{◌≤◌}
use Rattle.leveldb_base.specs.History.{IsHistory, entries_of, greatest}
use Rattle.rusty_leveldb.specs.Machines.State.{State, IsState, Request, open_store}
use Rattle.rusty_leveldb.specs.Machines.Machine.{risk_between, risk_of}
use Rattle.rusty_leveldb.specs.Machines.Laws.{CrashBetween, CrashInside}
use Rattle.rusty_leveldb.proofs.Engines.Crashed.{crash_row}

pub crash_between : CrashBetween
crash_between store meaning old disk left stands leaves honest =
    crash_row store meaning old (risk_between old) disk.files left stands.is_state.history stands.is_state.pending stands.holds.crash leaves.files honest leaves.free

-- what is at risk is a history within its bound
risk_fits : (request : Request) (old new : State) → IsState old → IsState new → IsHistory (risk_of request old new).history × (greatest (entries_of (risk_of request old new).history) ≤ (risk_of request old new).bound)
risk_fits (open_store opening) old new was is = (was.history, was.pending)
risk_fits request old new was is = (is.history, is.pending)

pub crash_inside : CrashInside
crash_inside store meaning old new request files left was is spared leaves honest free =
    let fits = risk_fits request old new was is in
    crash_row store meaning old (risk_of request old new) files left fits.0 fits.1 spared leaves honest free
