use Rattle.std.proofs.Common.{◌≡◌, ◌∙◌, Ok}
use Rattle.std.proofs.lemmas.Result.{IfOk-from_err, err_from_is_err_and}
use Rattle.leveldb_env.proofs.EnvLemmas.{Run-call}
use Rattle.leveldb_env.proofs.WholeFilesLemmas.{found_ok}
use Rattle.leveldb_version.proofs.ExitLemmas.{still_then}
use Rattle.leveldb_version_set.proofs.Sets.RecoverLemmas.{replay_refused, size_unread}
use Rattle.leveldb_version_set.proofs.version_set.recover.read_manifest.Goals as goal

pub returns-in_err-left-clause-cause : goal.returns-in_err-left-clause-cause
returns-in_err-left-clause-cause g c =
    let p = err_from_is_err_and c.from_residual.result c.from_residual.ensures.1 in
    rw (p.1, p.2) (replay_refused g.E.Env.models_disk c.args.path.now (g.E.Env.observed c.args.env.now) (g.E.Env.failures c.args.env.now) (g.E.Env.failures c.replay_file.new.env)
    c.replay_file.result c.in_err-left.field-0.0 c.in_err-left.ensures c.replay_file.ensures.cause)

pub returns-in_err-size-clause-cause : goal.returns-in_err-size-clause-cause
returns-in_err-size-clause-cause g c =
    let p = err_from_is_err_and c.from_residual-in_err-size.result c.from_residual-in_err-size.ensures.1 in
    let read : c.replay_file.result ≡ Ok _ = found_ok c.args.path.now c.replay_file.result _ c.in_ok-left.ensures in
    rw (p.1, p.2) (size_unread g.E.Env.models_disk c.args.path.now (g.E.Env.observed c.args.env.now) (g.E.Env.observed c.replay_file.new.env)
    (g.E.Env.failures c.args.env.now) (g.E.Env.failures c.replay_file.new.env) (g.E.Env.failures c.size_of.new.self) c.replay_file.result _ c.size_of.result c.in_err-size.field-0.0
    read c.replay_file.ensures.cause (λ modelled. (c.replay_file.ensures.does modelled).now modelled) c.in_err-size.ensures c.size_of.ensures.cause)

pub returns-in_err-left-clause-still : goal.returns-in_err-left-clause-still
returns-in_err-left-clause-still g c = λ modelled. Run-call modelled (c.replay_file.ensures.does modelled)

pub returns-in_err-left-clause-locks : goal.returns-in_err-left-clause-locks
returns-in_err-left-clause-locks g c = c.replay_file.ensures.locks

pub returns-in_err-left-clause-ok : goal.returns-in_err-left-clause-ok
returns-in_err-left-clause-ok g c = IfOk-from_err c.from_residual.result _ c.from_residual.ensures.0

pub returns-in_err-size-clause-still : goal.returns-in_err-size-clause-still
returns-in_err-size-clause-still g c = λ modelled. still_then (Run-call modelled (c.replay_file.ensures.does modelled)) (Run-call modelled c.size_of.ensures.does)

pub returns-in_err-size-clause-locks : goal.returns-in_err-size-clause-locks
returns-in_err-size-clause-locks g c = λ modelled. c.size_of.ensures.locks modelled ∙ c.replay_file.ensures.locks modelled

pub returns-in_err-size-clause-ok : goal.returns-in_err-size-clause-ok
returns-in_err-size-clause-ok g c = IfOk-from_err c.from_residual-in_err-size.result _ c.from_residual-in_err-size.ensures.0

pub returns-clause-still : goal.returns-clause-still
returns-clause-still g c = λ modelled. still_then (Run-call modelled (c.replay_file.ensures.does modelled)) (Run-call modelled c.size_of.ensures.does)

pub returns-clause-locks : goal.returns-clause-locks
returns-clause-locks g c = λ modelled. c.size_of.ensures.locks modelled ∙ c.replay_file.ensures.locks modelled
