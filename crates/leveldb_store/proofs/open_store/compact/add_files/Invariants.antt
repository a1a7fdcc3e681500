use Rattle.std.proofs.Common.{◌≡◌, ◌++◌, length, map}
use Rattle.std.specs.Vec.Iter.{into_iter_items, into_iter_len}
use Rattle.leveldb_base.specs.declared.types.FileMetaData.{FileMetaData}
use Rattle.leveldb_store.proofs.open_store.compact.add_files.Given as goal

abbrev pub invariant-loop-file : goal.invariant-loop-file
invariant-loop-file l = (l.yielded ++ into_iter_items l.file-iterator ≡ into_iter_items l.initial.file-iterator)
    × (l.edit.new_files.items ≡ l.initial.edit.new_files.items ++ map (λ (file : FileMetaData). (l.level, file)) l.yielded)
    × (into_iter_len l.file-iterator ≡ length (into_iter_items l.file-iterator))
    × (l.edit ≡ record l.initial.edit { new_files = l.edit.new_files })
