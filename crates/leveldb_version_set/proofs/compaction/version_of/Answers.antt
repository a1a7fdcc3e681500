use Rattle.std.proofs.Common.{◌≡◌, ◌∙◌, ◌++◌, List, ap, map, ℕ}
use Rattle.std.specs.Borrow.{Bor}
use Rattle.leveldb_base.specs.declared.types.FileMetaData.{FileMetaData}
use Rattle.leveldb_version_set.proofs.Compactions.CompactionCallLemmas.{copies_made}
use Rattle.leveldb_files.proofs.Levels.OverlapLemmas.{if_ok_more}
use Rattle.leveldb_version_set.specs.Compactions.Inputs.{input_files}
use Rattle.leveldb_version.specs.Versions.Version.{borrowed_files}
use Rattle.leveldb_files.specs.Edits.Edit.{NewFile}
use Rattle.leveldb_version.specs.Edits.VersionEdit.{new_file_of}
use Rattle.leveldb_version_set.proofs.compaction.version_of.Goals as goal

pub returns-clause-files : goal.returns-clause-files
returns-clause-files g c =
    let copied : map new_file_of c.as_slice-3.result.now ≡ input_files c.args.inputs.now =
    ap (map new_file_of) c.as_slice-3.ensures.value
    ∙ (c.in_ok-push_copies-2.ensures.ok
    ∙ (ap (λ (fs : List (Bor (ℕ × FileMetaData))). map new_file_of c.push_copies.new.copies.items ++ borrowed_files fs) c.as_slice-2.ensures.value
    ∙ ap (λ (fs : List NewFile). fs ++ borrowed_files c.args.inputs.now.of_next.items)
    (c.in_ok-push_copies.ensures.ok
    ∙ (ap (λ (fs : List (Bor (ℕ × FileMetaData))). map new_file_of c.new-files.result.items ++ borrowed_files fs) c.as_slice.ensures.value
    ∙ ap (λ (fs : List (ℕ × FileMetaData)). map new_file_of fs ++ borrowed_files c.args.inputs.now.of_level.items) c.new-files.ensures.items)))) in
    if_ok_more c.of_files.result c.of_files.ensures.ok (λ version is.
    copies_made (g.C.Cmp.cmp c.args.ucmp.now) c.args.ucmp.now c.as_slice-3.result.now version (input_files c.args.inputs.now) is copied)
