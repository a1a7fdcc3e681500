use Rattle.std.proofs.lemmas.Result.{IfOk-from_err}
use Rattle.leveldb_version.proofs.ExitLemmas.{cause_is, cause_passed}
use Rattle.leveldb_version.proofs.version.summary.put_level.Goals as goal

pub returns-in_err-head : goal.returns-in_err-head
returns-in_err-head c =
    let exit = c.from_residual in
    record {
      ok = IfOk-from_err exit.result _ exit.ensures.0;
      memory = cause_is _ exit.result exit.ensures.1;
    }

pub returns-in_err-push_str : goal.returns-in_err-push_str
returns-in_err-push_str c =
    let exit = c.from_residual-in_err-push_str in
    record {
      ok = IfOk-from_err exit.result _ exit.ensures.0;
      memory = cause_is _ exit.result exit.ensures.1;
    }

pub returns-in_err-put_files : goal.returns-in_err-put_files
returns-in_err-put_files c =
    let exit = c.from_residual-in_err-put_files in
    record {
      ok = IfOk-from_err exit.result _ exit.ensures.0;
      memory = cause_passed _ exit.result _ exit.ensures.1 c.in_err-put_files.ensures.memory;
    }

pub returns-in_err-push_str-2 : goal.returns-in_err-push_str-2
returns-in_err-push_str-2 c =
    let exit = c.from_residual-in_err-push_str-2 in
    record {
      ok = IfOk-from_err exit.result _ exit.ensures.0;
      memory = cause_is _ exit.result exit.ensures.1;
    }
