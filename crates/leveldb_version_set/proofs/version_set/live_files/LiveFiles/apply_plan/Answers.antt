use Rattle.std.proofs.Common.{refl}
use Rattle.std.proofs.lemmas.Result.{err_from_is_err_and}
use Rattle.leveldb_version_set.proofs.Sets.RecoveredLemmas.{recovered_anew, recovered_going_on, reopening_refused}
use Rattle.leveldb_version_set.proofs.version_set.live_files.LiveFiles.apply_plan.Goals as goal

pub returns-in_err-file-clause-recovers : goal.returns-in_err-file-clause-recovers
returns-in_err-file-clause-recovers g c = λ cmp comparator reuse limit start is still locks.
    let p = err_from_is_err_and c.from_residual.result c.from_residual.ensures.1 in
    rw (p.1, p.2) (reopening_refused g.E.Env.models_disk cmp comparator reuse limit c.args.self.now _ (g.E.Env.observed start) c.args.plan is (g.E.Env.observed c.args.env.now) (g.E.Env.observed c.reopen.new.env)
    (g.E.Env.failures c.args.env.now) (g.E.Env.failures c.args.env.now) (g.E.Env.failures c.reopen.new.env) still locks c.reopen.ensures.locks refl c.if-plan.true
    c.in_err-file.field-0.0 c.in_err-file.ensures.does c.in_err-file.ensures.cause refl)

pub returns-then-plan-clause-recovers : goal.returns-then-plan-clause-recovers
returns-then-plan-clause-recovers g c = λ cmp comparator reuse limit start is still locks.
    recovered_going_on g.E.Env.models_disk cmp comparator reuse limit c.args.self.now _ (g.E.Env.observed start) c.args.plan is (g.E.Env.observed c.args.env.now) (g.E.Env.observed c.reopen.new.env)
    (g.E.Env.failures c.args.env.now) (g.E.Env.failures c.args.env.now) (g.E.Env.failures c.reopen.new.env) still locks c.reopen.ensures.locks refl c.if-plan.true
    _ c.in_ok-file.ensures.does c.in_ok-file.ensures.cause.ok c.install.ensures

pub returns-clause-recovers : goal.returns-clause-recovers
returns-clause-recovers g c = λ cmp comparator reuse limit start is still locks.
    recovered_anew g.E.Env.models_disk cmp comparator reuse limit c.args.self.now _ (g.E.Env.observed start) c.args.plan is (g.E.Env.observed c.args.env.now)
    (g.E.Env.failures c.args.env.now) (g.E.Env.failures c.args.env.now) still locks refl c.if-plan.false c.install-2.ensures
