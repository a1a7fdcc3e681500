use Rattle.std.proofs.Common.{List, subst, sym, take}
use Rattle.std.proofs.lemmas.Result.{err_from_is_err_and}
use Rattle.std.proofs.lemmas.List.{take_all}
use Rattle.leveldb_version_set.specs.Sets.Usable.{AreAllApart, IsApartFrom}
use Rattle.leveldb_files.specs.Edits.Edit.{NewFile}
use Rattle.leveldb_version.specs.Edits.VersionEdit.{new_file_of}
use Rattle.leveldb_version_set.proofs.Sets.UsableLemmas.{as_new_files, each_more, file_is_one, files_more}
use Rattle.leveldb_version_set.proofs.version_set.usable.check_apart.Goals as goal

pub returns-in_err-check_apart_from-clause-cause : goal.returns-in_err-check_apart_from-clause-cause
returns-in_err-check_apart_from-clause-cause g c =
    let p = err_from_is_err_and c.from_residual.result c.from_residual.ensures.1 in
    rw (p.1, p.2) (record {
      a = new_file_of c.file-item.result;
      a_there = file_is_one c.args.files.now c.loop-file.file-index c.file-item.result c.loop-file-test.true c.file-item.is;
      clashes = c.in_err-check_apart_from.ensures.cause;
    })

pub loop-file-preserved : goal.loop-file-preserved
loop-file-preserved g c =
    let P : List NewFile → Type 0 = λ these. AreAllApart (g.C.Cmp.cmp c.args.ucmp.now) these (as_new_files c.args.files.now) in
    let Q : NewFile → Type 0 = λ a. IsApartFrom (g.C.Cmp.cmp c.args.ucmp.now) a (as_new_files c.args.files.now) in
    subst P (sym (files_more c.args.files.now c.loop-file.file-index c.file-item.result c.loop-file-test.true c.file-item.is))
    (each_more Q (as_new_files (take c.loop-file.file-index c.args.files.now)) (new_file_of c.file-item.result) c.loop-file.invariant c.in_ok-check_apart_from.ensures.ok)

pub returns-clause-ok : goal.returns-clause-ok
returns-clause-ok g c =
    let P : List NewFile → Type 0 = λ these. AreAllApart (g.C.Cmp.cmp c.args.ucmp.now) these (as_new_files c.args.files.now) in
    subst (λ fs. P (as_new_files fs)) (take_all c.loop-file.file-index c.args.files.now c.loop-file-test.false) c.loop-file.invariant
