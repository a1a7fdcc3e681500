use Rattle.std.proofs.Common.{◌++◌, ◌∙◌, ap, flat_map, map}
use Rattle.std.proofs.lemmas.List.{take_all}
use Rattle.std.proofs.lemmas.Result.{IfOk-from_err}
use Rattle.leveldb_files.specs.Edits.Edit.{field_bytes, points}
use Rattle.leveldb_version.specs.Edits.VersionEdit.{pointer_of}
use Rattle.leveldb_version.proofs.Edits.VersionEditLemmas.{put_more}
use Rattle.leveldb_version.proofs.ExitLemmas.{cause_passed}
use Rattle.leveldb_version.proofs.version_edit.fields.put_pointers.Goals as goal

pub returns-in_err-put_pointer : goal.returns-in_err-put_pointer
returns-in_err-put_pointer c =
    let exit = c.from_residual in
    record {
      ok = IfOk-from_err exit.result _ exit.ensures.0;
      memory = cause_passed _ exit.result _ exit.ensures.1 c.in_err-put_pointer.ensures.memory;
    }

pub loop-pointer-preserved : goal.loop-pointer-preserved
loop-pointer-preserved c =
    put_more points pointer_of c.args.pointers.now c.loop-pointer.pointer-index c.pointer-item.result _ _ _ c.loop-pointer-test.true c.pointer-item.is c.loop-pointer.invariant c.in_ok-put_pointer.ensures.ok

pub returns-clause-ok : goal.returns-clause-ok
returns-clause-ok c =
    c.loop-pointer.invariant ∙ ap (λ z. c.args.dst.now.items ++ flat_map field_bytes (map points (map pointer_of z))) (take_all c.loop-pointer.pointer-index c.args.pointers.now c.loop-pointer-test.false)
