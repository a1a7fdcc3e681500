use Rattle.std.proofs.Common.{◌≡◌, ◌++◌, List, map, take}
use Rattle.leveldb_iter.specs.declared.in_memory.InMemory.{InMemory}
use Rattle.leveldb_mem.specs.contracts.memtable.iterator.MemtableIteratorLdbIterator.TheImpl as iterating
use Rattle.leveldb_repair.specs.RepairSteps.{AreOverMemory}
use Rattle.leveldb_repair.specs.declared.found_walk.FoundWalk.TheVariants.{Memory}
use Rattle.leveldb_repair.proofs.repair_store.children.add_memory.Given as goal

abbrev pub invariant-loop-table : goal.invariant-loop-table
invariant-loop-table g l = (memory : List (InMemory _))
    × (l.children.items ≡ l.initial.children.items ++ map Memory memory)
    × AreOverMemory (iterating.ghosts g.row.C g.C.UserCmp g.C.UserCmp-dict g.C.Cmp g.C.Cmp-dict)
    g.C.Cmp (take l.table-index l.logs) memory
