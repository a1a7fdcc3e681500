use Rattle.std.proofs.Common.{◌≡◌, ◌∙◌, ap, inl, inr, refl, subst, ⊎_elim}
use Rattle.std.specs.Prelude.{string_bytes}
use Rattle.std.proofs.lemmas.Result.{IfOk-from_err}
use Rattle.leveldb_env.specs.Env.{BeforeOrAfter, ChangesFiles, emptied}
use Rattle.leveldb_files.specs.Stores.Paths.{log_path}
use Rattle.leveldb_version_set.proofs.Sets.RecoverLemmas.{cause_of_error}
use Rattle.leveldb_store.specs.Logs.ReplayLog.{HasCauseOr}
use Rattle.leveldb_store.proofs.ExitLemmas.{at_error, cause_passed, change_passed, nothing_done, uncounted}
use Rattle.leveldb_store.proofs.opening.log_to_write.make_log.Goals as goal

-- no number is given
pub returns-in_err-number-clause-opens : goal.returns-in_err-number-clause-opens
returns-in_err-number-clause-opens g c =
    let exit = c.from_residual in
    record {
      does = nothing_done (g.E.Env.observed c.args.env.now) exit.ensures.0 (inl refl);
      locks = λ modelled. refl;
      number = IfOk-from_err exit.result _ exit.ensures.0;
      file = IfOk-from_err exit.result _ exit.ensures.0;
    }

pub returns-in_err-number-clause-given : goal.returns-in_err-number-clause-given
returns-in_err-number-clause-given g c = IfOk-from_err c.from_residual.result _ c.from_residual.ensures.0

pub returns-in_err-number-clause-fits : goal.returns-in_err-number-clause-fits
returns-in_err-number-clause-fits g c = IfOk-from_err c.from_residual.result _ c.from_residual.ensures.0

pub returns-in_err-number-clause-err : goal.returns-in_err-number-clause-err
returns-in_err-number-clause-err g c = cause_passed _ c.from_residual.result _ c.from_residual.ensures.1 (inl c.in_err-number.ensures.err)

pub returns-in_err-number-clause-cause : goal.returns-in_err-number-clause-cause
returns-in_err-number-clause-cause g c =
    let exit = c.from_residual in
    uncounted exit.result (cause_passed _ exit.result _ exit.ensures.1 (inr (c.in_err-number.ensures.cause, refl))) exit.ensures.0

-- no path is made
pub returns-in_err-path-clause-opens : goal.returns-in_err-path-clause-opens
returns-in_err-path-clause-opens g c =
    let exit = c.from_residual-in_err-path in
    record {
      does = nothing_done (g.E.Env.observed c.args.env.now) exit.ensures.0 (inl refl);
      locks = λ modelled. refl;
      number = IfOk-from_err exit.result _ exit.ensures.0;
      file = IfOk-from_err exit.result _ exit.ensures.0;
    }

pub returns-in_err-path-clause-given : goal.returns-in_err-path-clause-given
returns-in_err-path-clause-given g c = IfOk-from_err c.from_residual-in_err-path.result _ c.from_residual-in_err-path.ensures.0

pub returns-in_err-path-clause-fits : goal.returns-in_err-path-clause-fits
returns-in_err-path-clause-fits g c = IfOk-from_err c.from_residual-in_err-path.result _ c.from_residual-in_err-path.ensures.0

pub returns-in_err-path-clause-err : goal.returns-in_err-path-clause-err
returns-in_err-path-clause-err g c = cause_passed _ c.from_residual-in_err-path.result _ c.from_residual-in_err-path.ensures.1 (inr c.in_ok-number.ensures.ok)

pub returns-in_err-path-clause-cause : goal.returns-in_err-path-clause-cause
returns-in_err-path-clause-cause g c =
    let exit = c.from_residual-in_err-path in
    uncounted exit.result (cause_passed _ exit.result _ exit.ensures.1 (inl c.in_err-path.ensures.cause)) exit.ensures.0

-- the file isn't made
pub returns-in_err-file-clause-opens : goal.returns-in_err-file-clause-opens
returns-in_err-file-clause-opens g c =
    let exit = c.from_residual-in_err-file in
    let path_is : string_bytes c.in_ok-path.path ≡ log_path c.args.store.now c.args.versions.now.next_file = c.in_ok-path.ensures.ok ∙ ap (log_path c.args.store.now) c.in_ok-number.ensures.number in
    record {
      does = change_passed exit.result exit.ensures.0 (subst (λ p. ChangesFiles g.E.Env.models_disk (emptied p) (BeforeOrAfter (emptied p)) (g.E.Env.observed c.args.env.now) (g.E.Env.observed c.make.new.env) c.make.result)
          path_is c.make.ensures.does);
      locks = c.make.ensures.locks;
      number = IfOk-from_err exit.result _ exit.ensures.0;
      file = IfOk-from_err exit.result _ exit.ensures.0;
    }

pub returns-in_err-file-clause-given : goal.returns-in_err-file-clause-given
returns-in_err-file-clause-given g c = IfOk-from_err c.from_residual-in_err-file.result _ c.from_residual-in_err-file.ensures.0

pub returns-in_err-file-clause-fits : goal.returns-in_err-file-clause-fits
returns-in_err-file-clause-fits g c = IfOk-from_err c.from_residual-in_err-file.result _ c.from_residual-in_err-file.ensures.0

pub returns-in_err-file-clause-err : goal.returns-in_err-file-clause-err
returns-in_err-file-clause-err g c = cause_passed _ c.from_residual-in_err-file.result _ c.from_residual-in_err-file.ensures.1 (inr c.in_ok-number.ensures.ok)

pub returns-in_err-file-clause-cause : goal.returns-in_err-file-clause-cause
returns-in_err-file-clause-cause g c =
    let exit = c.from_residual-in_err-file in
    at_error (HasCauseOr _ _ _) exit.result exit.ensures.1
    (cause_of_error _ (λ memory. inl memory) (λ why. ⊎_elim (λ memory. inl memory) (λ other. inr other.1) why) c.in_err-file.ensures.cause)
