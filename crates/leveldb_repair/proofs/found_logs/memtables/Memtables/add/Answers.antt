use Rattle.std.proofs.Common.{arith}
use Rattle.leveldb_repair.specs.FoundLogs.{KeepsEntries}
use Rattle.leveldb_repair.proofs.FoundLogsLemmas.{AddsBatch-here, AddsBatch-next, AddsBatch-none, KeepsEntries-same, up_to_kept}
use Rattle.leveldb_repair.proofs.found_logs.memtables.Memtables.add.Goals as goal
use Rattle.leveldb_repair.proofs.found_logs.memtables.Memtables.add.Goals.{else-self-sequence-via-then-self-sequence+in_ok-has_made_room+else-branch, else-self-sequence-via-else-self-sequence}

pub returns-then-count-eq0-clause-adds : goal.returns-then-count-eq0-clause-adds
returns-then-count-eq0-clause-adds g c = AddsBatch-none c.args.self.now c.args.batch.now (omega (arith, c.if-count-eq0.true, c.count.ensures)) c.requires.up_to

pub insert-requires-clause-up_to : goal.insert-requires-clause-up_to
insert-requires-clause-up_to g c = up_to_kept c.args.self.now c.has_made_room.new.self c.has_made_room.ensures.keeps c.requires.up_to

pub returns-then-branch-clause-adds : goal.returns-then-branch-clause-adds
returns-then-branch-clause-adds g c =
    AddsBatch-here c.args.self.now c.has_made_room.new.self c.insert.new.self c.args.batch.now c.has_made_room.ensures.keeps c.insert.ensures (omega (arith, c.if-self-sequence.true, c.sequence.ensures)) c.requires.up_to

pub returns-clause-adds : goal.returns-clause-adds
returns-clause-adds g c =
    let keeps : KeepsEntries c.args.self.now c.else-self-sequence.self = elim c.else-self-sequence.branch [
      | else-self-sequence-via-then-self-sequence+in_ok-has_made_room+else-branch w ↦ rw w.self-is w.has_made_room.ensures.keeps
      | else-self-sequence-via-else-self-sequence w ↦ rw w.self-is (KeepsEntries-same c.args.self.now)
    ] in
    AddsBatch-next c.args.self.now c.else-self-sequence.self c.begin_next.new.self c.prepare.new.self c.insert-2.new.self c.args.batch.now keeps c.in_ok-begin_next.ensures.next c.prepare.ensures.kept.entries c.prepare.ensures.cmp c.requires.numbered.from_one
    c.insert-2.ensures
