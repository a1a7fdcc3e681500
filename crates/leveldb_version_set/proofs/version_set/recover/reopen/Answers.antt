use Rattle.std.specs.Prelude.{string_bytes}
use Rattle.std.proofs.lemmas.Result.{err_from_is_err_and}
use Rattle.leveldb_version_set.proofs.Sets.RecoverLemmas.{reopened, reopened_unsynced}
use Rattle.leveldb_version_set.proofs.version_set.recover.reopen.Goals as goal

pub returns-in_err-sync-clause-does : goal.returns-in_err-sync-clause-does
returns-in_err-sync-clause-does g c = λ modelled.
    let p = err_from_is_err_and c.from_residual-in_err-sync.result c.from_residual-in_err-sync.ensures.1 in
    rw (p.1, p.2)
    (reopened_unsynced g.E.Env.models_disk (string_bytes c.args.plan.now.path) c.deref.result.now (g.E.Env.name_of c.in_ok-file.file) (g.E.Env.observed c.args.env.now) (g.E.Env.observed c.open_appendable_file.new.self)
    (g.E.Env.observed c.sync.new.self) c.in_ok-file.file c.in_err-sync.field-0.0 _ modelled (c.requires modelled) c.deref.ensures (c.in_ok-file.ensures.file modelled) c.in_ok-file.ensures.does c.in_err-sync.ensures.does)

pub returns-clause-does : goal.returns-clause-does
returns-clause-does g c = λ modelled.
    reopened g.E.Env.models_disk (string_bytes c.args.plan.now.path) c.deref.result.now (g.E.Env.name_of c.in_ok-file.file) (g.E.Env.observed c.args.env.now) (g.E.Env.observed c.open_appendable_file.new.self)
    (g.E.Env.observed c.sync.new.self) c.in_ok-file.file c.in_ok-sync.field-0 _ modelled (c.requires modelled) c.deref.ensures (c.in_ok-file.ensures.file modelled) c.in_ok-file.ensures.does c.in_ok-sync.ensures.does
