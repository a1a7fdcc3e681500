use Rattle.std.proofs.Common.{rules}
use Rattle.leveldb_disks.proofs.mem_env.journal.make_change.Goals as goal

pub returns-in-Synced : goal.returns-in-Synced
returns-in-Synced c = record { there = search rules; ok = search rules; missing = search rules; err = search rules }

pub returns-in-Deleted : goal.returns-in-Deleted
returns-in-Deleted c = record { there = search rules; ok = search rules; missing = search rules; err = search rules }

pub returns-in-Renamed : goal.returns-in-Renamed
returns-in-Renamed c = record {
  there = search rules;
  ok = rw (c.if-not-done.false, c.in-Renamed.is) c.rename_file.ensures.ok;
  missing = search rules;
  err = search rules;
}
