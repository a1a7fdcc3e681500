use Rattle.std.proofs.Common.{◌≡◌, ◌++◌}
use Rattle.leveldb_version_set.specs.Engines.Opening.{tables_edit}
use Rattle.leveldb_version.specs.Edits.VersionEdit.{edit_of}
use Rattle.leveldb_store.specs.Openings.OpeningSteps.{made_files}
use Rattle.leveldb_store.proofs.opening.edit.edit_of_tables.Given as goal

abbrev pub invariant-loop-file : goal.invariant-loop-file
invariant-loop-file l = record {
  edit : edit_of l.edit ≡ tables_edit l.log (made_files l.yielded);
  rest : l.yielded ++ l.file-iterator.rest.items ≡ l.fn.tables.items;
}
