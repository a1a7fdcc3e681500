use Rattle.std.proofs.Common.{◌≡◌, ◌++◌, length, map, string_bytes}
use Rattle.std.specs.Vec.Iter.{into_iter_items, into_iter_len}
use Rattle.leveldb_store.specs.Openings.Listing.{AreFilesOf}
use Rattle.leveldb_store.proofs.opening.listing.files_of.Given as goal

abbrev pub invariant-loop-name : goal.invariant-loop-name
invariant-loop-name l = record {
  split : l.yielded ++ into_iter_items l.name-iterator ≡ into_iter_items l.initial.name-iterator;
  are : AreFilesOf (map string_bytes l.yielded) l.files.items;
  count : into_iter_len l.name-iterator ≡ length (into_iter_items l.name-iterator);
}
