use Rattle.std.proofs.lemmas.Result.{IfOk-from_err}
use Rattle.std.proofs.Common.{◌∙◌, [], inl, refl, subst}
use Rattle.leveldb_env.specs.Env.{AreBytes}
use Rattle.leveldb_env.specs.EnvFile.{opened}
use Rattle.leveldb_env.specs.contracts.compressor.CompressorListCompressors.TheImpl.{ghosts as compressors}
use Rattle.leveldb_store.proofs.ExitLemmas.{cause_passed}
use Rattle.leveldb_store.proofs.Tables.GrowsLemmas.{grows_none}
use Rattle.leveldb_store.proofs.Tables.TableFileLemmas.{changes-none, own_fails}
use Rattle.leveldb_store.proofs.Tables.TriesLemmas.{may_nothing}
use Rattle.leveldb_store.proofs.table_file.TableFile.finish.Goals as goal

-- nothing was put yet
pub returns-in_err-largest : goal.returns-in_err-largest
returns-in_err-largest g c =
    let exit = c.from_residual in
    record {
      ok = IfOk-from_err exit.result _ exit.ensures.0;
      made = IfOk-from_err exit.result _ exit.ensures.0;
      err = cause_passed _ exit.result _ exit.ensures.1 (λ there. record {
        changes = changes-none g.E.Env _ c.args.env.now;
        cause = own_fails refl (inl c.in_err-largest.ensures.memory);
      });
      left = cause_passed _ exit.result _ exit.ensures.1 (record {
        bytes = [];
        may = may_nothing g.C.Cmp g.FP.FilterPolicy ((compressors g.dyn-1).codings c.args.compressors.now) c.args.self.core;
        grows = grows_none g.E.Env (opened c.args.env.now c.args.self.file) [];
      });
    }

-- it wasn't finished
pub returns-in_err-size : goal.returns-in_err-size
returns-in_err-size g c =
    let exit = c.from_residual-in_err-size in
    record {
      ok = IfOk-from_err exit.result _ exit.ensures.0;
      made = IfOk-from_err exit.result _ exit.ensures.0;
      err = cause_passed _ exit.result _ exit.ensures.1 c.in_err-size.ensures.err;
      left = cause_passed _ exit.result _ exit.ensures.1 c.in_err-size.ensures.left;
    }

pub returns : goal.returns
returns g c = record {
  ok = c.in_ok-size.ensures.ok;
  made = record {
    number_is = refl;
    seeks = refl;
    smallest_is = refl;
    largest_is = c.in_ok-largest.ensures.ok ∙ c.last_key.ensures;
    bytes = subst AreBytes c.last_key.ensures c.in_ok-largest.ensures.bytes;
    fits = c.in_ok-size.ensures.fits;
  };
  err = tt;
  left = tt;
}
