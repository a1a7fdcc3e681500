use Rattle.std.proofs.Common.{inl, refl}
use Rattle.std.proofs.lemmas.Result.{err_from_is_err_and}
use Rattle.leveldb_env.proofs.EnvLemmas.{Run-call, begun}
use Rattle.leveldb_version_set.proofs.Sets.RecoverLemmas.{cause_of_error}
use Rattle.leveldb_repair.proofs.found_logs.tell_left_out.Goals as goal

pub returns-then-is_none-clause-run : goal.returns-then-is_none-clause-run
returns-then-is_none-clause-run g c = λ modelled. begun (g.E.Env.observed c.args.env.now) refl

pub returns-in_err-text-clause-run : goal.returns-in_err-text-clause-run
returns-in_err-text-clause-run g c = λ modelled. Run-call modelled (c.read_file.ensures.does modelled)

pub returns-in_err-text-clause-cause : goal.returns-in_err-text-clause-cause
returns-in_err-text-clause-cause g c =
    let failed = err_from_is_err_and c.from_residual.result c.from_residual.ensures.1 in
    rw (failed.1, failed.2) (cause_of_error _ (λ lost. lost) (λ lost. inl lost) c.in_err-text.ensures.cause)

pub returns-clause-run : goal.returns-clause-run
returns-clause-run g c = λ modelled. Run-call modelled (c.read_file.ensures.does modelled)
