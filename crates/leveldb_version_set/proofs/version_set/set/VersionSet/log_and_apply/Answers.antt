use Rattle.std.proofs.Common.{◌≡◌, ◌∙◌, Err, Ok, false, subst, sym, true}
use Rattle.std.specs.Prelude.{◌≢◌}
use Rattle.std.proofs.lemmas.Result.{err_from_is_err_and}
use Rattle.leveldb_version_set.specs.Sets.CurrentVersion.{IsCurrent}
use Rattle.leveldb_version_set.specs.Sets.LogEdit.{LogEditResult}
use Rattle.leveldb_version.specs.Edits.VersionEdit.{edit_of}
use Rattle.leveldb_version_set.specs.Sets.VersionSetValue.{broken}
use Rattle.leveldb_version_set.proofs.Sets.CurrentVersionLemmas.{current_after, still_current}
use Rattle.leveldb_version_set.proofs.Sets.LogEditLemmas.{files_logged, files_unlogged, logged_by, unlogged}
use Rattle.leveldb_version_set.proofs.version_set.set.VersionSet.log_and_apply.Goals as goal

pub returns-in_err-next-clause-log : goal.returns-in_err-next-clause-log
returns-in_err-next-clause-log g c =
    let p = err_from_is_err_and c.from_residual.result c.from_residual.ensures.1 in
    let usable : c.self.inside.files.manifest ≢ broken = λ is. let never : false ≡ true = sym c.if-is_broken.false ∙ c.is_broken.ensures.1 is in cc in
    let fits = c.levels_fit.ensures.0 c.if-not-levels_fit.false in
    rw (← c.self.view_is, p.1, p.2) (unlogged _ _ _ c.in_err-next.ensures.memory usable fits)

pub returns-in_err-log-clause-log : goal.returns-in_err-log-clause-log
returns-in_err-log-clause-log g c =
    let p = err_from_is_err_and c.from_residual-in_err-log.result c.from_residual-in_err-log.ensures.1 in
    let usable : c.self.inside.files.manifest ≢ broken = λ is. let never : false ≡ true = sym c.if-is_broken.false ∙ c.is_broken.ensures.1 is in cc in
    let fits = c.levels_fit.ensures.0 c.if-not-levels_fit.false in
    rw (← c.self.view_is, p.1, p.2)
    (logged_by usable fits (c.in_err-log.ensures.used (edit_of c.args.edit) c.with_numbers-edit.ensures) (c.in_err-log.ensures.not_made (edit_of c.args.edit) c.with_numbers-edit.ensures))

pub returns-clause-log : goal.returns-clause-log
returns-clause-log g c =
    let usable : c.self.inside.files.manifest ≢ broken = λ is. let never : false ≡ true = sym c.if-is_broken.false ∙ c.is_broken.ensures.1 is in cc in
    let fits = c.levels_fit.ensures.0 c.if-not-levels_fit.false in
    rw (← c.self.view_is)
    (logged_by usable fits (c.in_ok-log.ensures.used (edit_of c.args.edit) c.with_numbers-edit.ensures) (c.in_ok-log.ensures.not_made (edit_of c.args.edit) c.with_numbers-edit.ensures))

pub invariant_of-self : goal.invariant_of-self
invariant_of-self g c =
    let usable : c.self.inside.files.manifest ≢ broken = λ is. let never : false ≡ true = sym c.if-is_broken.false ∙ c.is_broken.ensures.1 is in cc in
    let fits = c.levels_fit.ensures.0 c.if-not-levels_fit.false in
    let logged : LogEditResult g.E.Env.models_disk c.self.inside.files (edit_of c.args.edit) (g.E.Env.observed c.args.env.now) (g.E.Env.failures c.args.env.now) (Err c.in_err-log.field-0.0) c.log.new.self (g.E.Env.observed c.log.new.env) (g.E.Env.failures c.log.new.env) =
    logged_by usable fits (c.in_err-log.ensures.used (edit_of c.args.edit) c.with_numbers-edit.ensures) (c.in_err-log.ensures.not_made (edit_of c.args.edit) c.with_numbers-edit.ensures) in
    still_current c.self.inside.current.cmp c.self.inside.files c.log.new.self c.self.inside.current (files_unlogged usable fits logged) c.self.invariant

pub invariant_of-self-2 : goal.invariant_of-self-2
invariant_of-self-2 g c =
    let usable : c.self.inside.files.manifest ≢ broken = λ is. let never : false ≡ true = sym c.if-is_broken.false ∙ c.is_broken.ensures.1 is in cc in
    let fits = c.levels_fit.ensures.0 c.if-not-levels_fit.false in
    let logged : LogEditResult g.E.Env.models_disk c.self.inside.files (edit_of c.args.edit) (g.E.Env.observed c.args.env.now) (g.E.Env.failures c.args.env.now) (Ok tt) c.log.new.self (g.E.Env.observed c.log.new.env) (g.E.Env.failures c.log.new.env) =
    logged_by usable fits (c.in_ok-log.ensures.used (edit_of c.args.edit) c.with_numbers-edit.ensures) (c.in_ok-log.ensures.not_made (edit_of c.args.edit) c.with_numbers-edit.ensures) in
    let next = c.in_ok-next.next in
    subst (λ k. IsCurrent (g.C.Cmp.cmp k) k c.log.new.self next) (sym c.in_ok-next.ensures.ok.same_cmp)
    (current_after c.self.inside.current.cmp (edit_of c.args.edit) c.self.inside.files c.log.new.self c.self.inside.current next c.self.invariant (files_logged usable fits logged) c.in_ok-next.ensures.ok c.in_ok-next.ensures.fit)

-- the record is bytes

pub returns-in_err-log-clause-bytes : goal.returns-in_err-log-clause-bytes
returns-in_err-log-clause-bytes g c =
    let p = err_from_is_err_and c.from_residual-in_err-log.result c.from_residual-in_err-log.ensures.1 in
    rw (← c.self.view_is, p.1) (c.in_err-log.ensures.bytes (edit_of c.args.edit) c.with_numbers-edit.ensures)

pub returns-clause-bytes : goal.returns-clause-bytes
returns-clause-bytes g c = rw (← c.self.view_is) (c.in_ok-log.ensures.bytes (edit_of c.args.edit) c.with_numbers-edit.ensures)
