use Rattle.std.proofs.Common.{◌≤◌, ◌+◌, ◌*◌, ◌-◌, length}
use Rattle.leveldb_store.specs.Logs.Damage.{AreWholeUpTo}
use Rattle.leveldb_store.proofs.damage.scan_of.Given as goal

abbrev pub invariant-loop-found : goal.invariant-loop-found
invariant-loop-found l = record {
  whole : AreWholeUpTo l.text l.scan.end l.scan.is_open l.scan.has_data;
  within : l.scan.end ≤ length l.text;
  records : l.scan.records_end ≤ l.scan.end;
  count : 2 * l.fn.records ≤ 2 * l.left + l.scan.end;
}

abbrev pub decreases-loop-found : goal.decreases-loop-found
decreases-loop-found l = length l.text - l.scan.end
