use Rattle.std.proofs.Common.{ap}
use Rattle.std.proofs.lemmas.Result.{err_from_is_err_and}
use Rattle.leveldb_version_set.specs.Sets.VersionSetValue.{VersionSetValue, broken}
use Rattle.leveldb_version_set.proofs.Sets.RecoveredLemmas.{set_read, set_unread}
use Rattle.leveldb_version_set.proofs.version_set.live_files.LiveFiles.read.Goals as goal

pub returns-in_err-plan : goal.returns-in_err-plan
returns-in_err-plan g c =
    let p = err_from_is_err_and c.from_residual.result c.from_residual.ensures.1 in
    rw (p.1, p.2) (set_unread g.E.Env.models_disk (g.C.Cmp.cmp c.args.options.now.cmp) (g.C.Cmp.name c.args.options.now.cmp) c.args.self.now
    (g.E.Env.observed c.args.env.now) (g.E.Env.observed c.plan.new.env) (g.E.Env.failures c.args.env.now) (g.E.Env.failures c.plan.new.env) c.plan.ensures.still c.plan.ensures.locks
    c.args.options.now.reuse_manifest c.args.options.now.max_file_size c.in_err-plan.field-0.0 c.in_err-plan.ensures.cause)

pub returns : goal.returns
returns g c =
    set_read g.E.Env.models_disk (g.C.Cmp.cmp c.args.options.now.cmp) (g.C.Cmp.name c.args.options.now.cmp) c.args.self.now
    (g.E.Env.observed c.args.env.now) (g.E.Env.observed c.plan.new.env) (g.E.Env.failures c.args.env.now) (g.E.Env.failures c.plan.new.env) c.plan.ensures.still c.plan.ensures.locks
    c.args.options.now.reuse_manifest c.args.options.now.max_file_size c.in_ok-plan.plan c.in_ok-plan.ensures.ok c.in_ok-plan.ensures.cause.ok
    c.install.new.self _ c.install.ensures (ap (λ (s : VersionSetValue). record s { manifest = broken }) c.self.view_is)
