use Rattle.std.proofs.Common.{◌≡◌, ◌<◌, length, arith}
use Rattle.std.proofs.lemmas.Bool.Decides.{nat_tests}
use Rattle.leveldb_base.specs.declared.error.StatusCode.TheVariants.{Corruption}
use Rattle.leveldb_files.specs.Edits.Edit.{Edit, IsEdit}
use Rattle.leveldb_version.proofs.Edits.VersionEditLemmas.{nothing_read, no_seeks_first, of_error, reads_none, read_more, no_more_seeks}
use Rattle.leveldb_version.proofs.version_edit.VersionEdit.decode_from.Goals as goal

pub loop-rest-init : goal.loop-rest-init
loop-rest-init c = record { read = nothing_read _ _ c.new-edit.ensures; seeks = no_seeks_first c.new-edit.result c.new-edit.ensures }

pub returns-in_default-clause-malformed : goal.returns-in_default-clause-malformed
returns-in_default-clause-malformed c =
    let some : 0 < length c.loop-rest.rest.now = grind (arith, nat_tests) in
    of_error (λ status. status.code ≡ Corruption → (edit : Edit) → IsEdit c.args.src.now edit → ⊥) c.err.result (λ _ _. reads_none c.loop-rest.invariant.read some c.in_default.ensures)

pub loop-rest-preserved : goal.loop-rest-preserved
loop-rest-preserved c = record {
  read = read_more c.loop-rest.invariant.read _ _ _ c.in-Some.ensures c.in_ok-apply.ensures.ok;
  seeks = no_more_seeks _ _ _ c.loop-rest.invariant.seeks c.in_ok-apply.ensures.files;
}
