use Rattle.std.proofs.Common.{◌-◌, ◌≤◌, length}
use Rattle.leveldb_store.specs.Compactions.Merging.{LeavesFiles}
use Rattle.leveldb_repair.proofs.repair_store.clash.start_of_clash.Given as goal

abbrev pub invariant-halves : goal.invariant-halves
invariant-halves g l = LeavesFiles g.E.Env l.fn.env l.env × (l.enough ≤ l.fewer) × (l.fewer ≤ length l.files)

abbrev pub decreases-halves : goal.decreases-halves
decreases-halves g l = l.fewer - l.enough
