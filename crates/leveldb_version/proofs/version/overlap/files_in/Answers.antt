use Rattle.std.proofs.Common.{◌∙◌, List, ap, map, ℕ}
use Rattle.std.proofs.lemmas.List.{take_all}
use Rattle.std.proofs.lemmas.Result.{IfOk-from_err}
use Rattle.std.specs.List.{filter}
use Rattle.leveldb_base.specs.declared.types.FileMetaData.{FileMetaData}
use Rattle.leveldb_files.specs.Levels.Overlap.{overlaps}
use Rattle.leveldb_version.specs.Edits.VersionEdit.{new_file_of}
use Rattle.leveldb_version.proofs.ExitLemmas.{cause_is}
use Rattle.leveldb_version.proofs.version.overlap.files_in.Goals as goal

pub returns-in_err-push : goal.returns-in_err-push
returns-in_err-push g c =
    let exit = c.from_residual in
    record {
      ok = IfOk-from_err exit.result _ exit.ensures.0;
      memory = cause_is _ exit.result exit.ensures.1;
    }

pub returns-clause-ok : goal.returns-clause-ok
returns-clause-ok g c =
    let p = overlaps (g.C.Cmp.cmp c.args.ucmp.now) c.args.range.now in
    c.loop-file.invariant ∙ ap (λ (files : List (ℕ × FileMetaData)). filter p (map new_file_of files)) (take_all c.loop-file.file-index c.args.files.now c.loop-file-test.false)
