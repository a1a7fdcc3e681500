use Rattle.std.proofs.Common.{◌∙◌, ◌<◌, sym}
use Rattle.std.proofs.lemmas.List.Elements.{All-map}
use Rattle.leveldb_files.specs.Edits.Edit.{NewFile, Pointer}
use Rattle.leveldb_version.specs.Edits.VersionEdit.{new_file_of, pointer_of}
use Rattle.leveldb_version_set.proofs.Sets.LogEditLemmas.{All-unmap}
use Rattle.leveldb_version_set.proofs.version_set.log_edit.levels_fit.Goals as goal

pub returns-then-not-pointers_fit : goal.returns-then-not-pointers_fit
returns-then-not-pointers_fit c =
    let Fits : Pointer → Type 0 = λ it. it.level < 7 in
    (λ never. absurd (cc never), λ fits. sym c.if-not-pointers_fit.true ∙ c.pointers_fit.ensures.1 (All-unmap Fits pointer_of c.args.edit.now.compaction_ptrs.items fits.pointers))

pub returns-then-not-deleted_fit : goal.returns-then-not-deleted_fit
returns-then-not-deleted_fit c = (λ never. absurd (cc never), λ fits. sym c.if-not-deleted_fit.true ∙ c.deleted_fit.ensures.1 fits.deleted)

pub returns : goal.returns
returns c =
    let Fits : Pointer → Type 0 = λ it. it.level < 7 in
    let FileFits : NewFile → Type 0 = λ it. it.level < 7 in (
      λ yes. record {
        pointers = All-map Fits pointer_of c.args.edit.now.compaction_ptrs.items (c.pointers_fit.ensures.0 c.if-not-pointers_fit.false);
        deleted = c.deleted_fit.ensures.0 c.if-not-deleted_fit.false;
        added = All-map FileFits new_file_of c.args.edit.now.new_files.items (c.new_files_fit.ensures.0 yes);
      },
      λ fits. c.new_files_fit.ensures.1 (All-unmap FileFits new_file_of c.args.edit.now.new_files.items fits.added),
    )
