use Rattle.std.proofs.Common.{◌≡◌, ◌++◌}
use Rattle.leveldb_version_set.specs.Repairs.Repairing.{repaired_edit}
use Rattle.leveldb_version.specs.Edits.VersionEdit.{edit_of}
use Rattle.leveldb_repair.specs.WriteFound.{files_of_level_one}
use Rattle.leveldb_repair.proofs.repair_store.restore.edit_of_tables.Given as goal

abbrev pub invariant-loop-table : goal.invariant-loop-table
invariant-loop-table l = record {
  edit : edit_of l.edit ≡ repaired_edit l.comparator l.next l.last (files_of_level_one l.yielded);
  rest : l.yielded ++ l.table-iterator.rest.items ≡ l.fn.tables.items;
}
