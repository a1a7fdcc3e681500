use Rattle.std.proofs.Common.{refl}
use Rattle.leveldb_disks.proofs.RecordLemmas.{journal_after, looks}
use Rattle.leveldb_disks.proofs.mem_env.record.RecordEnv.look.Goals as goal

pub returns-then-chosen-clause-looks : goal.returns-then-chosen-clause-looks
returns-then-chosen-clause-looks c = looks c.args.self.now _ c.turn.new.self.journal c.skip.new.self (journal_after c.turn.ensures.next) c.refuse_call-then-chosen.ensures.same.journal c.skip.ensures.files c.skip.ensures.time

pub returns-clause-looks : goal.returns-clause-looks
returns-clause-looks c = looks c.args.self.now _ c.turn.new.self.journal c.skip.new.self (journal_after c.turn.ensures.next) refl c.skip.ensures.files c.skip.ensures.time
