use Rattle.std.proofs.Common.{◌≡◌, ◌∙◌, List, Option, Some, ap, map, subst, sym, ℕ}
use Rattle.std.specs.Option.{option_copied, option_map_or}
use Rattle.std.specs.Prelude.{Contains, IfSome}
use Rattle.leveldb_base.specs.declared.types.FileMetaData.{FileMetaData}
use Rattle.leveldb_version_set.proofs.Compactions.PickingLemmas.{known_level, there_in_level}
use Rattle.leveldb_version.proofs.Versions.VersionLemmas.{at_level_map}
use Rattle.leveldb_version_set.specs.Compactions.Picking.{file_after, file_by_reads, used_pointer}
use Rattle.leveldb_version.specs.Versions.Scores.{level_by_score}
use Rattle.leveldb_files.specs.Levels.Summary.{files_of_level}
use Rattle.leveldb_version.specs.Versions.Version.{new_files_of}
use Rattle.leveldb_files.specs.Edits.Edit.{NewFile}
use Rattle.leveldb_version.specs.Edits.VersionEdit.{new_file_of, pointer_of}
use Rattle.leveldb_version_set.proofs.compaction.pick.asking_file.Goals as goal

pub returns-in-Some-clause-there : goal.returns-in-Some-clause-there
returns-in-Some-clause-there g c =
    let version = c.args.version.now in
    let asks : level_by_score (new_files_of version) ≡ Some c.in-Some.level = sym c.level_by_score.ensures ∙ c.in-Some.is in
    there_in_level c.in-Some.level version.files c.file_after.result (known_level (new_files_of version) c.in-Some.level asks)
    (subst (λ (files : List (ℕ × FileMetaData)). IfSome c.file_after.result (λ file. Contains files file.now)) c.files.ensures.files c.file_after.ensures.there)

pub returns-in-Some-clause-value : goal.returns-in-Some-clause-value
returns-in-Some-clause-value g c =
    let version = c.args.version.now in
    let cmp = g.C.Cmp.cmp version.cmp in
    let level = c.in-Some.level in
    let pointers = map pointer_of c.args.pointers.now in
    let files = map new_file_of c.files.result.now in
    let asks : level_by_score (new_files_of version) ≡ Some level = sym c.level_by_score.ensures ∙ c.in-Some.is in
    c.file_after.ensures.value
    ∙ (ap (λ (u : g.row.C.Denot). file_after (g.C.Cmp.cmp u) (option_copied c.used_pointer-pointer.result) files) c.ucmp.ensures
    ∙ (ap (λ (p : Option (List ℕ)). file_after cmp p files) c.used_pointer-pointer.ensures
    ∙ (ap (λ (fs : List NewFile). file_after cmp (used_pointer pointers level) fs) (ap (map new_file_of) c.files.ensures.files ∙ at_level_map level version.files)
    ∙ sym (ap (λ (o : Option ℕ). option_map_or (λ l. file_after cmp (used_pointer pointers l) (files_of_level l (new_files_of version))) o (file_by_reads version)) asks))))
