use Rattle.std.proofs.Common.{◌≡◌, ◌++◌, length, map}
use Rattle.std.specs.Vec.Iter.{into_iter_items, into_iter_len}
use Rattle.leveldb_store.specs.declared.store_walk.StoreWalk.TheVariants.{Tables}
use Rattle.leveldb_store.proofs.open_store.view.push_tables.Given as goal

abbrev pub invariant-loop-walk : goal.invariant-loop-walk
invariant-loop-walk g l = (l.yielded ++ into_iter_items l.walk-iterator ≡ into_iter_items l.initial.walk-iterator)
    × (l.children.items ≡ l.initial.children.items ++ map Tables l.yielded)
    × (into_iter_len l.walk-iterator ≡ length (into_iter_items l.walk-iterator))
