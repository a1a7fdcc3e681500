use Rattle.std.proofs.Common.{◌≡◌, ◌++◌, length, map}
use Rattle.std.specs.Vec.Iter.{into_iter_items, into_iter_len}
use Rattle.leveldb_repair.specs.declared.found_walk.FoundWalk.TheVariants.{Table}
use Rattle.leveldb_repair.proofs.repair_store.children.table_walks.Given as goal

abbrev pub invariant-loop-table : goal.invariant-loop-table
invariant-loop-table g l =
    (l.yielded ++ into_iter_items l.table-iterator ≡ into_iter_items l.initial.table-iterator)
    × (l.children.items ≡ map Table l.yielded)
    × (into_iter_len l.table-iterator ≡ length (into_iter_items l.table-iterator))
