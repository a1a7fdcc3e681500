use Rattle.std.proofs.Common.{◌∙◌, ℕ, Err, Ok, ap, map, refl, subst, sym}
use Rattle.std.proofs.lemmas.Result.{err_from_is_err_and}
use Rattle.leveldb_version_set.specs.Sets.CurrentVersion.{IsCurrent}
use Rattle.leveldb_version_set.specs.Sets.Recover.{RecoverResult}
use Rattle.leveldb_files.specs.Edits.Edit.{Edit}
use Rattle.leveldb_version.specs.Edits.VersionEdit.{new_file_of}
use Rattle.leveldb_version_set.specs.Sets.VersionSetValue.{VersionSetValue}
use Rattle.leveldb_version_set.proofs.Sets.CurrentVersionLemmas.{made_current, still_current, with_version}
use Rattle.leveldb_version_set.proofs.Sets.RecoveredLemmas.{nothing_recovered, planned_then_out_of_memory}
use Rattle.leveldb_version_set.proofs.version_set.set.VersionSet.recover.Goals as goal

pub returns-in_err-plan-clause-recovers : goal.returns-in_err-plan-clause-recovers
returns-in_err-plan-clause-recovers g c =
    let p = err_from_is_err_and c.from_residual.result c.from_residual.ensures.1 in
    let cause = c.in_err-plan.ensures.cause in
    rw (← c.self.view_is, p.1, p.2) (nothing_recovered g.E.Env.models_disk (g.C.Cmp.cmp c.args.options.now.cmp) (g.C.Cmp.name c.args.options.now.cmp) c.args.options.now.reuse_manifest c.args.options.now.max_file_size c.self.inside.files c.self.inside.files
    (g.E.Env.observed c.args.env.now) (g.E.Env.observed c.plan.new.env) (g.E.Env.failures c.args.env.now) (g.E.Env.failures c.plan.new.env) c.in_err-plan.field-0.0 c.plan.ensures.still c.plan.ensures.locks refl
    (record { later = cause.later; ok = tt; uncounted = cause.uncounted; cause = cause.cause }))

pub returns-in_err-current-clause-recovers : goal.returns-in_err-current-clause-recovers
returns-in_err-current-clause-recovers g c =
    let p = err_from_is_err_and c.from_residual-in_err-current.result c.from_residual-in_err-current.ensures.1 in
    rw (← c.self.view_is, p.1) (planned_then_out_of_memory _ _ _ _ _ _ _ _ refl c.plan.ensures.still c.plan.ensures.locks c.in_ok-plan.ensures.cause.ok (rw p.2 c.in_err-current.ensures.memory))

pub returns-in_err-needs_new_manifest-clause-recovers : goal.returns-in_err-needs_new_manifest-clause-recovers
returns-in_err-needs_new_manifest-clause-recovers g c =
    let p = err_from_is_err_and c.from_residual-in_err-needs_new_manifest.result c.from_residual-in_err-needs_new_manifest.ensures.1 in
    rw (← c.self.view_is, p.1, p.2)
    (subst (λ (failed : ℕ). RecoverResult g.E.Env.models_disk (g.C.Cmp.cmp c.args.options.now.cmp) (g.C.Cmp.name c.args.options.now.cmp) c.args.options.now.reuse_manifest c.args.options.now.max_file_size c.self.inside.files
    (g.E.Env.observed c.args.env.now) failed (Err c.in_err-needs_new_manifest.field-0.0) c.apply_plan.new.self (g.E.Env.observed c.apply_plan.new.env) (g.E.Env.failures c.apply_plan.new.env)) c.in_ok-plan.ensures.cause.ok
    (c.in_err-needs_new_manifest.ensures.recovers (g.C.Cmp.cmp c.args.options.now.cmp) (g.C.Cmp.name c.args.options.now.cmp) c.args.options.now.reuse_manifest c.args.options.now.max_file_size
    c.args.env.now c.in_ok-plan.ensures.ok c.plan.ensures.still c.plan.ensures.locks))

pub returns-clause-recovers : goal.returns-clause-recovers
returns-clause-recovers g c =
    rw (← c.self.view_is)
    (subst (λ (failed : ℕ). RecoverResult g.E.Env.models_disk (g.C.Cmp.cmp c.args.options.now.cmp) (g.C.Cmp.name c.args.options.now.cmp) c.args.options.now.reuse_manifest c.args.options.now.max_file_size c.self.inside.files
    (g.E.Env.observed c.args.env.now) failed (Ok c.in_ok-needs_new_manifest.needs_new_manifest) c.apply_plan.new.self (g.E.Env.observed c.apply_plan.new.env) (g.E.Env.failures c.apply_plan.new.env)) c.in_ok-plan.ensures.cause.ok
    (c.in_ok-needs_new_manifest.ensures.recovers (g.C.Cmp.cmp c.args.options.now.cmp) (g.C.Cmp.name c.args.options.now.cmp) c.args.options.now.reuse_manifest c.args.options.now.max_file_size
    c.args.env.now c.in_ok-plan.ensures.ok c.plan.ensures.still c.plan.ensures.locks))

pub invariant_of-self : goal.invariant_of-self
invariant_of-self g c =
    let recovers = c.in_err-needs_new_manifest.ensures.recovers (g.C.Cmp.cmp c.args.options.now.cmp) (g.C.Cmp.name c.args.options.now.cmp) c.args.options.now.reuse_manifest c.args.options.now.max_file_size
    c.args.env.now c.in_ok-plan.ensures.ok c.plan.ensures.still c.plan.ensures.locks in
    still_current c.self.inside.current.cmp c.self.inside.files c.apply_plan.new.self c.self.inside.current
    (ap (λ (s : VersionSetValue). s.full) recovers.err) c.self.invariant

pub invariant_of-self-2 : goal.invariant_of-self-2
invariant_of-self-2 g c =
    let made = c.in_ok-current.ensures.ok in
    subst (λ k. IsCurrent (g.C.Cmp.cmp k) k c.apply_plan.new.self c.in_ok-current.current) (sym made.cmp_is)
    (made_current (g.C.Cmp.cmp c.args.options.now.cmp) c.args.options.now.cmp c.apply_plan.new.self c.as_slice-files.result.now c.in_ok-current.current made
    (ap (map new_file_of) c.as_slice-files.ensures.value ∙ sym (ap (λ (e : Edit). e.added) c.in_ok-needs_new_manifest.ensures.files)) c.in_ok-current.ensures.fit)

pub returns-in_err-needs_new_manifest-clause-err : goal.returns-in_err-needs_new_manifest-clause-err
returns-in_err-needs_new_manifest-clause-err g c =
    let p = err_from_is_err_and c.from_residual-in_err-needs_new_manifest.result c.from_residual-in_err-needs_new_manifest.ensures.1 in
    let recovers = c.in_err-needs_new_manifest.ensures.recovers (g.C.Cmp.cmp c.args.options.now.cmp) (g.C.Cmp.name c.args.options.now.cmp) c.args.options.now.reuse_manifest c.args.options.now.max_file_size
    c.args.env.now c.in_ok-plan.ensures.ok c.plan.ensures.still c.plan.ensures.locks in
    rw (← c.self.view_is, p.1) (ap (λ (s : VersionSetValue). with_version s c.self.inside.current) recovers.err)
