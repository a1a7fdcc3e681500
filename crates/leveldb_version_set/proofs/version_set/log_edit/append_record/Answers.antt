use Rattle.std.proofs.lemmas.Result.{err_from_is_err_and}
use Rattle.leveldb_env.proofs.EnvLemmas.{ChangesFiles-refused}
use Rattle.leveldb_version_set.proofs.Sets.LogEditLemmas.{appended_cause, appended_does, appended_err, appended_ok, unappended, unappended_cause, unappended_does}
use Rattle.leveldb_version_set.proofs.version_set.log_edit.append_record.Goals as goal

pub returns-in_err-append-clause-does : goal.returns-in_err-append-clause-does
returns-in_err-append-clause-does g c = λ modelled.
    ChangesFiles-refused c.from_residual.ensures.0 (unappended_does g.E.Env _ c.requires.usable _ _ c.in_err-append.ensures modelled)

pub returns-in_err-append-clause-err : goal.returns-in_err-append-clause-err
returns-in_err-append-clause-err g c =
    let p = err_from_is_err_and c.from_residual.result c.from_residual.ensures.1 in
    rw (p.1, p.2) (unappended g.E.Env _ c.requires.usable _ _ c.in_err-append.ensures)

pub returns-in_err-append-clause-cause : goal.returns-in_err-append-clause-cause
returns-in_err-append-clause-cause g c =
    let p = err_from_is_err_and c.from_residual.result c.from_residual.ensures.1 in
    rw (p.1, p.2) (unappended_cause g.E.Env _ c.requires.usable _ _ c.in_err-append.ensures)

pub returns-clause-does : goal.returns-clause-does
returns-clause-does g c = appended_does g.E.Env _ c.requires.usable _ _ c.in_ok-append.ensures c.sync.ensures

pub returns-clause-ok : goal.returns-clause-ok
returns-clause-ok g c = appended_ok g.E.Env _ c.requires.usable _ _ c.in_ok-append.ensures c.sync.ensures

pub returns-clause-err : goal.returns-clause-err
returns-clause-err g c = appended_err g.E.Env _ c.requires.usable _ _ c.in_ok-append.ensures c.sync.ensures _

pub returns-clause-cause : goal.returns-clause-cause
returns-clause-cause g c = appended_cause g.E.Env _ c.requires.usable _ _ c.in_ok-append.ensures c.sync.ensures
