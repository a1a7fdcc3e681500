use Rattle.std.proofs.Common.{arith}
use Rattle.leveldb_mem.proofs.EntryLemmas.{new_after}
use Rattle.leveldb_repair.proofs.FoundLogsLemmas.{InsertsBatch-some}
use Rattle.leveldb_repair.proofs.found_logs.memtables.Memtables.insert.Goals as goal

pub insert_prepared-requires-clause-new : goal.insert_prepared-requires-clause-new
insert_prepared-requires-clause-new g c =
    new_after c.args.self.now.last c.args.self.now.latest.kept.entries c.sequence.result c.args.batch.now.items c.requires.up_to (omega (arith, c.sequence.ensures, c.requires.above))

pub returns : goal.returns
returns g c =
    InsertsBatch-some c.args.self.now c.args.batch.now c.insert_prepared.new.self c.sequence.result _ c.sequence.ensures c.requires.some c.requires.above c.insert_prepared.ensures.adds c.insert_prepared.ensures.cmp
    (omega (arith, c.sequence-2.ensures, c.count.ensures, c.from.ensures, c.requires.some))
