use Rattle.std.proofs.Common.{◌*◌, ◌≤◌, length}
use Rattle.leveldb_mem.proofs.JoiningLemmas.{Joins}
use Rattle.leveldb_mem.proofs.log.reader.ReaderCore.take_record.Given as goal

abbrev pub invariant-loop-taken : goal.invariant-loop-taken
invariant-loop-taken g l =
    (joins : Joins g.S.Source.gives l.initial.self l.initial.source l.first l.self l.source l.target.items)
    × (7 * l.taken ≤ length joins.front)
