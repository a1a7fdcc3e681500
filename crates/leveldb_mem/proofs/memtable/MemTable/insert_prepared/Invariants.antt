use Rattle.std.proofs.Common.{◌≡◌}
use Rattle.leveldb_base.specs.History.{placed}
use Rattle.leveldb_mem.proofs.EntryLemmas.{Inserting}
use Rattle.leveldb_mem.proofs.memtable.MemTable.insert_prepared.Given as goal

abbrev pub invariant-loop-key : goal.invariant-loop-key
invariant-loop-key g l = record {
  can : (goal.iterator-loop-key g).can_next l.key-iterator;
  ends : (goal.iterator-loop-key g).is_finite l.key-iterator;
  cmp : l.self.cmp ≡ l.fn.self.cmp;
  inserting : Inserting l.fn.self.kept (placed l.first l.batch.items) l.self.kept l.sequence l.key-iterator;
}
