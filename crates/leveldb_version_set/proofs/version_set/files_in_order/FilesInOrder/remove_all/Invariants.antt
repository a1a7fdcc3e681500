use Rattle.std.proofs.Common.{◌≡◌, fold, map}
use Rattle.std.specs.Map.Iter.{deref}
use Rattle.leveldb_version_set.specs.Sets.FilesInOrder.{ArePlaced, ordered_files}
use Rattle.leveldb_version.specs.Edits.FullEdit.{files_without}
use Rattle.leveldb_version_set.proofs.version_set.files_in_order.FilesInOrder.remove_all.Given as goal

abbrev pub invariant-loop-file : goal.invariant-loop-file
invariant-loop-file l = record {
  files : ordered_files l.self ≡ fold files_without (ordered_files l.initial.self) (map deref l.yielded);
  placed : ArePlaced l.self;
}
