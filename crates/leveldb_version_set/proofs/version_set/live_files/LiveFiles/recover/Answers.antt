use Rattle.std.proofs.Common.{ℕ, refl, subst}
use Rattle.std.proofs.lemmas.Result.{err_from_is_err_and}
use Rattle.leveldb_version_set.proofs.Sets.RecoveredLemmas.{nothing_recovered}
use Rattle.leveldb_version_set.specs.Sets.Recover.{RecoverResult}
use Rattle.leveldb_version_set.proofs.version_set.live_files.LiveFiles.recover.Goals as goal

pub returns-in_err-plan : goal.returns-in_err-plan
returns-in_err-plan g c =
    let p = err_from_is_err_and c.from_residual.result c.from_residual.ensures.1 in
    let cause = c.in_err-plan.ensures.cause in
    rw (p.1, p.2) (nothing_recovered g.E.Env.models_disk (g.C.Cmp.cmp c.args.options.now.cmp) (g.C.Cmp.name c.args.options.now.cmp) c.args.options.now.reuse_manifest c.args.options.now.max_file_size c.args.self.now c.args.self.now
    (g.E.Env.observed c.args.env.now) (g.E.Env.observed c.plan.new.env) (g.E.Env.failures c.args.env.now) (g.E.Env.failures c.plan.new.env) c.in_err-plan.field-0.0 c.plan.ensures.still c.plan.ensures.locks refl
    (record { later = cause.later; ok = tt; uncounted = cause.uncounted; cause = cause.cause }))

pub returns : goal.returns
returns g c =
    subst (λ (failed : ℕ). RecoverResult g.E.Env.models_disk (g.C.Cmp.cmp c.args.options.now.cmp) (g.C.Cmp.name c.args.options.now.cmp) c.args.options.now.reuse_manifest c.args.options.now.max_file_size c.args.self.now
    (g.E.Env.observed c.args.env.now) failed c.apply_plan.result c.apply_plan.new.self (g.E.Env.observed c.apply_plan.new.env) (g.E.Env.failures c.apply_plan.new.env)) c.in_ok-plan.ensures.cause.ok
    (c.apply_plan.ensures.recovers (g.C.Cmp.cmp c.args.options.now.cmp) (g.C.Cmp.name c.args.options.now.cmp) c.args.options.now.reuse_manifest c.args.options.now.max_file_size
    c.args.env.now c.in_ok-plan.ensures.ok c.plan.ensures.still c.plan.ensures.locks)
