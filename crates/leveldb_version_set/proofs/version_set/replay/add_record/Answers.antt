use Rattle.std.proofs.lemmas.Result.{err_from_is_err_and}
use Rattle.leveldb_version_set.proofs.Sets.ReplayLemmas.{no_edit_decoded}
use Rattle.leveldb_version_set.proofs.version_set.replay.add_record.Goals as goal

pub returns-in_err-edit-clause-cause : goal.returns-in_err-edit-clause-cause
returns-in_err-edit-clause-cause c =
    let p = err_from_is_err_and c.from_residual.result c.from_residual.ensures.1 in
    rw (p.1, p.2) (no_edit_decoded c.args.bytes.now c.in_err-edit.field-0.0 c.in_err-edit.ensures.malformed c.in_err-edit.ensures.cause)
