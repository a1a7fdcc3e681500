use Rattle.std.proofs.Common.{◌≡◌, ◌∙◌, rules}
use Rattle.std.proofs.lemmas.Result.{IfOk-from_err}
use Rattle.leveldb_env.proofs.EnvLemmas.{ChangesFiles-refused, Run-call, Run-mono}
use Rattle.leveldb_files.specs.Stores.Paths.{manifest_path}
use Rattle.leveldb_version.proofs.ExitLemmas.{uncounted}
use Rattle.leveldb_version_set.proofs.Sets.NewManifestLemmas.{at_current, beside, manifest_made}
use Rattle.leveldb_version_set.proofs.version_set.new_manifest.make_manifest.Goals as goal

pub returns-in_err-file-clause-does : goal.returns-in_err-file-clause-does
returns-in_err-file-clause-does g c = λ modelled.
    let path : c.deref.result.now ≡ manifest_path c.args.store.now c.args.number = search rules in
    let making = rw (path, c.deref-2.ensures.value) at c.write_file.ensures.does in
    ChangesFiles-refused c.from_residual.ensures.0
    (Run-mono (beside c.args.store.now c.args.number c.ranges.number.fits c.args.records.bytes.items _) (Run-call modelled (making modelled)))

pub returns-in_err-set_current_file-clause-does : goal.returns-in_err-set_current_file-clause-does
returns-in_err-set_current_file-clause-does g c = λ modelled.
    let path : c.deref.result.now ≡ manifest_path c.args.store.now c.args.number = search rules in
    let making = rw (path, c.deref-2.ensures.value) at c.in_ok-file.ensures.does in
    ChangesFiles-refused c.from_residual-in_err-set_current_file.ensures.0
    (at_current c.args.store.now c.args.number c.ranges.number.fits c.args.records.bytes.items modelled (making modelled) (c.set_current_file.ensures.does modelled))

pub returns-clause-does : goal.returns-clause-does
returns-clause-does g c = λ modelled.
    let path : c.deref.result.now ≡ manifest_path c.args.store.now c.args.number = search rules in
    let making = rw (path, c.deref-2.ensures.value) at c.in_ok-file.ensures.does in
    manifest_made c.args.store.now c.args.number c.ranges.number.fits c.args.records.bytes.items modelled (making modelled) (c.in_ok-set_current_file.ensures.does modelled)

pub returns-in_err-file-clause-locks : goal.returns-in_err-file-clause-locks
returns-in_err-file-clause-locks g c = c.write_file.ensures.locks

pub returns-in_err-file-clause-bytes : goal.returns-in_err-file-clause-bytes
returns-in_err-file-clause-bytes g c = c.write_file.ensures.bytes

pub returns-in_err-file-clause-ok : goal.returns-in_err-file-clause-ok
returns-in_err-file-clause-ok g c = IfOk-from_err c.from_residual.result _ c.from_residual.ensures.0

pub returns-in_err-set_current_file-clause-locks : goal.returns-in_err-set_current_file-clause-locks
returns-in_err-set_current_file-clause-locks g c = λ modelled. c.set_current_file.ensures.locks modelled ∙ c.write_file.ensures.locks modelled

pub returns-in_err-set_current_file-clause-bytes : goal.returns-in_err-set_current_file-clause-bytes
returns-in_err-set_current_file-clause-bytes g c = λ modelled old. c.set_current_file.ensures.bytes modelled (c.write_file.ensures.bytes modelled old)

pub returns-in_err-set_current_file-clause-ok : goal.returns-in_err-set_current_file-clause-ok
returns-in_err-set_current_file-clause-ok g c = IfOk-from_err c.from_residual-in_err-set_current_file.result _ c.from_residual-in_err-set_current_file.ensures.0

pub returns-clause-locks : goal.returns-clause-locks
returns-clause-locks g c = λ modelled. c.set_current_file.ensures.locks modelled ∙ c.write_file.ensures.locks modelled

pub returns-clause-bytes : goal.returns-clause-bytes
returns-clause-bytes g c = λ modelled old. c.set_current_file.ensures.bytes modelled (c.write_file.ensures.bytes modelled old)

pub returns-clause-cause : goal.returns-clause-cause
returns-clause-cause g c = uncounted (c.in_ok-set_current_file.ensures.cause.ok ∙ c.in_ok-file.ensures.cause.ok)
