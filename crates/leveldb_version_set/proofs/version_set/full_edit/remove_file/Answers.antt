use Rattle.std.proofs.Common.{◌≡◌, ◌∙◌, ℕ, Bool, ap, map, not, rules}
use Rattle.std.specs.List.{filter}
use Rattle.std.proofs.lemmas.Fn.{filter_same}
use Rattle.leveldb_base.specs.declared.types.FileMetaData.{FileMetaData}
use Rattle.leveldb_version.proofs.Edits.FullEditLemmas.{map-filter}
use Rattle.leveldb_version.specs.Edits.VersionEdit.{new_file_of}
use Rattle.leveldb_files.specs.Edits.VersionSet.{is_same_file, level_file}
use Rattle.leveldb_version_set.proofs.version_set.full_edit.remove_file.Goals as goal

pub returns-clause-files : goal.returns-clause-files
returns-clause-files c =
    let keeps : ℕ × FileMetaData → Bool = λ file. not (is_same_file (level_file (new_file_of file)) c.args.removed) in
    let kept : c.retain.new.self.items ≡ filter keeps c.args.files.now.items = filter_same _ keeps _ (λ x b f' k. search rules) _ _ c.retain.ensures.filtered in
    ap (map new_file_of) kept ∙ map-filter new_file_of (λ file. not (is_same_file (level_file file) c.args.removed)) c.args.files.now.items
