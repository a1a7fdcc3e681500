use Rattle.std.proofs.Common.{ap}
use Rattle.std.proofs.lemmas.Result.{err_from_is_err_and}
use Rattle.leveldb_store.proofs.Tables.OutputsLemmas.{finished_so, unfinished_so}
use Rattle.leveldb_store.proofs.outputs.Outputs.finish.Goals as goal

pub returns-in_err-close : goal.returns-in_err-close
returns-in_err-close g c =
    let failed = err_from_is_err_and c.from_residual.result c.from_residual.ensures.1 in
    record {
      finishes = λ store first next tables pairs have.
          rw failed.1 (rw failed.2 (unfinished_so _ g.E.Env store _ (c.in_err-close.ensures.finishes store first next tables pairs have)));
    }

pub returns : goal.returns
returns g c = record {
  finishes = λ store first next tables pairs have.
      finished_so _ g.E.Env store _ _ (ap (λ v. v.done) c.self.view_is) (c.in_ok-close.ensures.finishes store first next tables pairs have);
}
