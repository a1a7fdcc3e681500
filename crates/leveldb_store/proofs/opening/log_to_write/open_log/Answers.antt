use Rattle.std.proofs.Common.{◌<◌, ◌^◌, Err, List, None, inl, subst, sym, ℕ}
use Rattle.std.proofs.lemmas.Result.{err_from_is_err_and}
use Rattle.leveldb_base.specs.declared.error.Status.{Status}
use Rattle.leveldb_env.specs.Env.{emptied}
use Rattle.leveldb_env.specs.declared.env.Env.{Ghosts}
use Rattle.leveldb_version_set.proofs.Sets.RecoverLemmas.{cause_of_error}
use Rattle.leveldb_files.specs.Stores.Paths.{log_path}
use Rattle.leveldb_version_set.specs.Sets.VersionSetValue.{AreFileNumbersUsedUp, VersionSetValue}
use Rattle.leveldb_store.specs.Openings.OpeningSteps.{OpensFile, OpensLog}
use Rattle.leveldb_store.specs.Logs.ReplayLog.{HasCauseOr}
use Rattle.leveldb_store.specs.Writing.Switch.{MayGiveNumber}
use Rattle.leveldb_store.specs.declared.open_store.OpenLog.{OpenLog}
use Rattle.leveldb_store.proofs.opening.log_to_write.open_log.Goals as goal

-- a new log isn't made
not_made : {E F C : Type 0} (env : Ghosts E F) (store : List ℕ) (cmp : C) (old : VersionSetValue) (from : E) (status : Status) (new : VersionSetValue) (to : E)
    → OpensFile env store (emptied (log_path store old.next_file)) old.next_file 0 from (Err status) to → old.next_file < 2 ^ 64 → MayGiveNumber old new
    → HasCauseOr {T = OpenLog E F} (AreFileNumbersUsedUp old.next_file) (env.failures from) (env.failures to) (Err status)
    → OpensLog env store cmp None old from (Err status) new to
not_made env store cmp old from status new to opens fits given cause = record {
  set = tt;
  fits = tt;
  number_fits = fits;
  err = given;
  does = record { ok = λ modelled. tt; now = opens.does.now; time = opens.does.time };
  locks = opens.locks;
  number = tt;
  file = tt;
  order = tt;
  entries = tt;
  cause = cause_of_error status (λ why. why) (λ why. inl why) cause;
}

pub returns-in_err-open-in-None : goal.returns-in_err-open-in-None
returns-in_err-open-in-None g c =
    let failed = err_from_is_err_and c.from_residual-in_err-open-in-None.result c.from_residual-in_err-open-in-None.ensures.1 in
    let made = c.in_err-open-in-None.ensures in
    record {
      opens = rw (failed.1, failed.2) (subst (λ used. OpensLog g.E.Env c.args.store.now c.args.cmp used c.args.versions.now c.args.env.now (Err c.in_err-open-in-None.field-0.0) c.make_log.new.versions c.make_log.new.env) (sym c.in-None.is)
          (not_made g.E.Env c.args.store.now c.args.cmp c.args.versions.now c.args.env.now c.in_err-open-in-None.field-0.0 c.make_log.new.versions c.make_log.new.env made.opens made.number_fits made.err made.cause));
    }
