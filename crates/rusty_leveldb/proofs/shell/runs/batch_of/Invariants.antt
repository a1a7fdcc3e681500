use Rattle.std.proofs.Common.{◌≡◌, take, map}
use Rattle.rusty_leveldb.specs.Programs.Shell.{change_of}
use Rattle.rusty_leveldb.proofs.shell.runs.batch_of.Given as goal

abbrev pub invariant-loop-item : goal.invariant-loop-item
invariant-loop-item l = l.batch.items ≡ map change_of (take l.item-index l.items)
