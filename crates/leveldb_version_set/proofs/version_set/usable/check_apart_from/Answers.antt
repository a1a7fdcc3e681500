use Rattle.std.proofs.Common.{List, subst, sym, take}
use Rattle.std.proofs.lemmas.Result.{err_from_is_err_and}
use Rattle.std.proofs.lemmas.List.{take_all}
use Rattle.leveldb_files.specs.Levels.Levels.{AreDisjoint}
use Rattle.leveldb_version_set.specs.Sets.Usable.{ArePeers, IsApartFrom}
use Rattle.leveldb_files.specs.Edits.Edit.{NewFile}
use Rattle.leveldb_version.specs.Edits.VersionEdit.{new_file_of}
use Rattle.leveldb_version_set.proofs.Sets.UsableLemmas.{as_new_files, each_more, file_is_one, files_more}
use Rattle.leveldb_version_set.proofs.version_set.usable.check_apart_from.Goals as goal

pub returns-in_err-check_pair-clause-cause : goal.returns-in_err-check_pair-clause-cause
returns-in_err-check_pair-clause-cause g c =
    let p = err_from_is_err_and c.from_residual.result c.from_residual.ensures.1 in
    rw (p.1, p.2) (record {
      b = new_file_of c.other-item.result;
      b_there = file_is_one c.args.files.now c.loop-other.other-index c.other-item.result c.loop-other-test.true c.other-item.is;
      clash = c.in_err-check_pair.ensures.cause;
    })

pub loop-other-preserved : goal.loop-other-preserved
loop-other-preserved g c =
    let P : List NewFile → Type 0 = IsApartFrom (g.C.Cmp.cmp c.args.ucmp.now) (new_file_of c.args.file.now) in
    let Q : NewFile → Type 0 = λ b. ArePeers (new_file_of c.args.file.now) b → AreDisjoint (g.C.Cmp.cmp c.args.ucmp.now) (new_file_of c.args.file.now) b in
    subst P (sym (files_more c.args.files.now c.loop-other.other-index c.other-item.result c.loop-other-test.true c.other-item.is))
    (each_more Q (as_new_files (take c.loop-other.other-index c.args.files.now)) (new_file_of c.other-item.result) c.loop-other.invariant c.in_ok-check_pair.ensures.ok)

pub returns-clause-ok : goal.returns-clause-ok
returns-clause-ok g c =
    let P : List NewFile → Type 0 = IsApartFrom (g.C.Cmp.cmp c.args.ucmp.now) (new_file_of c.args.file.now) in
    subst (λ fs. P (as_new_files fs)) (take_all c.loop-other.other-index c.args.files.now c.loop-other-test.false) c.loop-other.invariant
