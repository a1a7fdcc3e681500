use Rattle.std.proofs.lemmas.Result.{IfOk-from_err}
use Rattle.leveldb_version.proofs.ExitLemmas.{cause_is, cause_passed}
use Rattle.leveldb_version.proofs.table_cache.TableCache.new.Goals as goal

pub returns-in_err-from_str : goal.returns-in_err-from_str
returns-in_err-from_str g c =
    let exit = c.from_residual in
    record {
      ok = IfOk-from_err exit.result _ exit.ensures.0;
      matches = IfOk-from_err exit.result _ exit.ensures.0;
      memory = cause_is _ exit.result exit.ensures.1;
    }

pub returns-in_err-new : goal.returns-in_err-new
returns-in_err-new g c =
    let exit = c.from_residual-in_err-new in
    record {
      ok = IfOk-from_err exit.result _ exit.ensures.0;
      matches = IfOk-from_err exit.result _ exit.ensures.0;
      memory = cause_passed _ exit.result _ exit.ensures.1 c.in_err-new.ensures.memory;
    }

pub returns-in_err-new-2 : goal.returns-in_err-new-2
returns-in_err-new-2 g c =
    let exit = c.from_residual-in_err-new-2 in
    record {
      ok = IfOk-from_err exit.result _ exit.ensures.0;
      matches = IfOk-from_err exit.result _ exit.ensures.0;
      memory = cause_passed _ exit.result _ exit.ensures.1 c.in_err-new-2.ensures.memory;
    }
