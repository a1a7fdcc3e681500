use Rattle.std.proofs.Common.{◌==◌, Bool, sym}
use Rattle.std.proofs.lemmas.Bool.{eq-eqb, eqb-true}
use Rattle.leveldb_base.proofs.OrderLemmas.{is_false}
use Rattle.leveldb_files.specs.Edits.Edit.{NewFile}
use Rattle.leveldb_version.specs.Edits.VersionEdit.{new_file_of}
use Rattle.leveldb_files.proofs.Levels.OverlapLemmas.{find_here, find_next}
use Rattle.leveldb_version_set.proofs.compaction.pick.file_of_number.Goals as goal

pub returns-then-file-number-clause-value : goal.returns-then-file-number-clause-value
returns-then-file-number-clause-value c =
    let named : NewFile → Bool = λ file. file.number == c.args.number in
    sym (find_here named new_file_of c.args.files.now c.loop-file.file-index c.file-item.result c.loop-file-test.true (sym c.file-item.is) c.loop-file.invariant
    (eq-eqb (new_file_of c.file-item.result).number c.args.number c.if-file-number.true))

pub loop-file-preserved : goal.loop-file-preserved
loop-file-preserved c =
    let named : NewFile → Bool = λ file. file.number == c.args.number in
    find_next named new_file_of c.args.files.now c.loop-file.file-index c.file-item.result c.loop-file-test.true (sym c.file-item.is) c.loop-file.invariant
    (is_false ((new_file_of c.file-item.result).number == c.args.number) (λ yes. c.if-file-number.false (eqb-true (new_file_of c.file-item.result).number c.args.number yes)))
