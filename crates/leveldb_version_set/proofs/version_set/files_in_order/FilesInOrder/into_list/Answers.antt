use Rattle.std.proofs.Common.{◌≡◌, ◌∙◌, ap, map, rules}
use Rattle.std.specs.Map.{values_of}
use Rattle.leveldb_version.specs.Edits.VersionEdit.{new_file_of}
use Rattle.leveldb_version_set.proofs.Sets.FilesInOrderLemmas.{values_mapped}
use Rattle.leveldb_version_set.proofs.version_set.files_in_order.FilesInOrder.into_list.Goals as goal

pub returns-clause-files : goal.returns-clause-files
returns-clause-files c =
    let all : c.in_ok-collect.field-0.items ≡ values_of c.args.self.files.entries = search rules in
    ap (map new_file_of) all ∙ values_mapped new_file_of c.args.self.files.entries
