use Rattle.std.proofs.Common.{refl}
use Rattle.leveldb_disks.proofs.RecordLemmas.{journal_after, looks, asks_nothing}
use Rattle.leveldb_disks.proofs.mem_env.record.RecordEnv.find_no_memory.Goals as goal

pub returns-clause-asks : goal.returns-clause-asks
returns-clause-asks g c =
    let looked = looks c.args.self.now _ c.turn.new.self.journal c.skip.new.self (journal_after c.turn.ensures.next) refl c.skip.ensures.files c.skip.ensures.time in
    λ change may. asks_nothing c.args.self.now _ change may c.from.result looked c.from.ensures
