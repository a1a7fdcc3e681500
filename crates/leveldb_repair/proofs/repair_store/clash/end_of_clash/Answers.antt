use Rattle.std.proofs.Common.{arith}
use Rattle.leveldb_repair.proofs.RepairStoreLemmas.{leaves_none, leaves_then}
use Rattle.leveldb_repair.proofs.repair_store.clash.end_of_clash.Goals as goal

pub halves-init : goal.halves-init
halves-init g c = (leaves_none g.E.Env c.args.env.now, omega arith, omega arith)
