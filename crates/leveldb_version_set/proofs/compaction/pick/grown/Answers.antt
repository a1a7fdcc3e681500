use Rattle.std.proofs.Common.{inl, refl}
use Rattle.std.proofs.lemmas.Result.{IfOk-from_err}
use Rattle.leveldb_version.proofs.ExitLemmas.{cause_passed}
use Rattle.leveldb_version_set.proofs.compaction.pick.grown.Goals as goal

pub returns-in_err-wide : goal.returns-in_err-wide
returns-in_err-wide g c =
    let exit = c.from_residual in
    record {
      may = IfOk-from_err exit.result _ exit.ensures.0;
      keeps = λ ordered. IfOk-from_err exit.result _ exit.ensures.0;
      better = IfOk-from_err exit.result _ exit.ensures.0;
      memory = cause_passed _ exit.result _ exit.ensures.1 c.in_err-wide.ensures.memory;
    }

pub returns-then-is_empty : goal.returns-then-is_empty
returns-then-is_empty g c = record { may = c.requires.may; keeps = λ ordered file d. d; better = inl refl; memory = tt }

pub returns : goal.returns
returns g c = record { may = c.requires.may; keeps = λ ordered file d. d; better = inl refl; memory = tt }
