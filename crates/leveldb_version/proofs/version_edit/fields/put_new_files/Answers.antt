use Rattle.std.proofs.Common.{ℕ, ◌<◌, ◌^◌, ◌++◌, ◌∙◌, List, ap, flat_map, map, subst}
use Rattle.std.proofs.lemmas.List.{take_all}
use Rattle.std.specs.List.{All}
use Rattle.std.proofs.lemmas.List.Elements.{All-more}
use Rattle.std.proofs.lemmas.Result.{IfOk-from_err}
use Rattle.leveldb_base.specs.declared.types.FileMetaData.{FileMetaData}
use Rattle.leveldb_files.specs.Edits.Edit.{adds, field_bytes}
use Rattle.leveldb_version.specs.Edits.VersionEdit.{new_file_of}
use Rattle.leveldb_version.proofs.Edits.VersionEditLemmas.{put_more}
use Rattle.leveldb_version.proofs.ExitLemmas.{cause_passed}
use Rattle.leveldb_version.proofs.version_edit.fields.put_new_files.Goals as goal

pub returns-in_err-put_new_file : goal.returns-in_err-put_new_file
returns-in_err-put_new_file c =
    let exit = c.from_residual in
    record {
      ok = IfOk-from_err exit.result _ exit.ensures.0;
      small = IfOk-from_err exit.result _ exit.ensures.0;
      memory = cause_passed _ exit.result _ exit.ensures.1 c.in_err-put_new_file.ensures.memory;
    }

pub loop-file-preserved : goal.loop-file-preserved
loop-file-preserved c =
    let Small : ℕ × FileMetaData → Type 0 = λ file. (file.1.num < 2 ^ 64) × (file.1.size < 2 ^ 64) in
    record {
      put = put_more adds new_file_of c.args.files.now c.loop-file.file-index c.file-item.result _ _ _ c.loop-file-test.true c.file-item.is c.loop-file.invariant.put c.in_ok-put_new_file.ensures.ok;
      small = All-more Small c.args.files.now c.loop-file.file-index c.file-item.result c.loop-file-test.true c.loop-file.invariant.small
          (subst Small c.file-item.is (c.in_ok-put_new_file.ensures.num, c.in_ok-put_new_file.ensures.size));
    }

pub returns-clause-ok : goal.returns-clause-ok
returns-clause-ok c =
    c.loop-file.invariant.put ∙ ap (λ z. c.args.dst.now.items ++ flat_map field_bytes (map adds (map new_file_of z))) (take_all c.loop-file.file-index c.args.files.now c.loop-file-test.false)

pub returns-clause-small : goal.returns-clause-small
returns-clause-small c =
    let AllSmall : List (ℕ × FileMetaData) → Type 0 = λ files. All (λ file. (file.1.num < 2 ^ 64) × (file.1.size < 2 ^ 64)) files in
    subst AllSmall (take_all c.loop-file.file-index c.args.files.now c.loop-file-test.false) c.loop-file.invariant.small
