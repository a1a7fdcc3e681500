use Rattle.std.proofs.Common.{◌≡◌, Err, Ok, Some, rules, subst}
use Rattle.std.proofs.lemmas.Result.{err_from_is_err_and}
use Rattle.leveldb_env.specs.WholeFiles.{IsFoundOr}
use Rattle.leveldb_mem.proofs.LogFileLemmas.{record_appended, record_refused}
use Rattle.leveldb_mem.proofs.log.log_file.LogFile.append.Goals as goal

pub returns-in_err-found : goal.returns-in_err-found
returns-in_err-found g c =
    let p = err_from_is_err_and c.from_residual.result c.from_residual.ensures.1 in
    let is : c.self.inside.file ≡ Some c.in-Some.file = search rules in
    rw (← c.self.view_is, p.1, p.2)
    (record_refused g.E.Env _ c.args.env.now c.in-Some.file (rw is at c.self.invariant.0) c.args.text.now c.requires c.put_record-added.result c.in_err-found.field-0.0
    c.put_record-added.ensures.err c.put_record-added.ensures.broken
    (subst (λ s. IsFoundOr s c.put_record-added.result (Err c.in_err-found.field-0.0)) c.deref.ensures c.in_err-found.ensures))

pub returns : goal.returns
returns g c =
    let is : c.self.inside.file ≡ Some c.in-Some.file = search rules in
    rw (← c.self.view_is)
    (record_appended g.E.Env _ c.args.env.now c.in-Some.file (rw is at c.self.invariant.0) c.args.text.now c.requires c.put_record-added.result c.in_ok-found.field-0
    c.put_record-added.ensures.ok c.put_record-added.ensures.broken
    (subst (λ s. IsFoundOr s c.put_record-added.result (Ok c.in_ok-found.field-0)) c.deref.ensures c.in_ok-found.ensures))
