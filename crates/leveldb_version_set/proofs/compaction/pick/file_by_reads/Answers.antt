use Rattle.std.proofs.Common.{◌∙◌, ◌==◌, ap, map, subst, sym, ℕ, List}
use Rattle.std.specs.Prelude.{Contains, IfSome, find}
use Rattle.leveldb_base.specs.declared.types.FileMetaData.{FileMetaData}
use Rattle.leveldb_files.specs.Edits.Edit.{NewFile}
use Rattle.leveldb_version.specs.Edits.VersionEdit.{new_file_of}
use Rattle.leveldb_version_set.proofs.Compactions.PickingLemmas.{reads_choose, there_in_level}
use Rattle.leveldb_version.proofs.Versions.VersionLemmas.{at_level_map}
use Rattle.leveldb_version_set.proofs.compaction.pick.file_by_reads.Goals as goal

pub returns-then-level-lt6-clause-there : goal.returns-then-level-lt6-clause-there
returns-then-level-lt6-clause-there g c =
    there_in_level c.in-Some.level c.args.version.now.files c.file_of_number.result c.if-level-lt6.true
    (subst (λ (files : List (ℕ × FileMetaData)). IfSome c.file_of_number.result (λ file. Contains files file.now)) c.files.ensures.files c.file_of_number.ensures.there)

pub returns-then-level-lt6-clause-value : goal.returns-then-level-lt6-clause-value
returns-then-level-lt6-clause-value g c =
    c.file_of_number.ensures.value
    ∙ (ap (λ (files : List NewFile). find (λ file. file.number == c.in-Some.number) files) (ap (map new_file_of) c.files.ensures.files ∙ at_level_map c.in-Some.level c.args.version.now.files)
    ∙ sym (reads_choose c.args.version.now c.in-Some.level c.in-Some.number (sym c.file_to_compact.ensures ∙ c.in-Some.is) c.if-level-lt6.true))
