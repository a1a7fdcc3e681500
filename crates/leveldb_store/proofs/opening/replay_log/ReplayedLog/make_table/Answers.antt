use Rattle.std.proofs.Common.{◌∙◌, sym}
use Rattle.std.proofs.lemmas.Result.{err_from_is_err_and}
use Rattle.leveldb_base.specs.CmpLaws.{total_order}
use Rattle.leveldb_store.proofs.Logs.ReplayLogLemmas.{MakesRestTable-done, MakesRestTable-unbuilt, MakesRestTable-unlisted}
use Rattle.leveldb_store.proofs.opening.replay_log.ReplayedLog.make_table.Goals as goal

pub returns-in_err-file : goal.returns-in_err-file
returns-in_err-file g c =
    let failed = err_from_is_err_and c.from_residual-in_err-file.result c.from_residual-in_err-file.ensures.1 in
    record {
      makes = rw (failed.1, failed.2, c.in_ok-number.ensures.ok) (MakesRestTable-unbuilt g.E.Env _ c.args.self.now c.args.versions.now c.in_ok-number.ensures.fits c.args.store.now c.in_ok-number.number
          c.requires.store c.in_ok-number.ensures.number _ c.in_err-file.ensures.makes _);
    }

pub returns-in_err-push : goal.returns-in_err-push
returns-in_err-push g c =
    let failed = err_from_is_err_and c.from_residual-in_err-push.result c.from_residual-in_err-push.ensures.1 in
    record {
      makes = rw (failed.1, c.in_ok-number.ensures.ok) (MakesRestTable-unlisted g.E.Env _ c.args.self.now c.args.versions.now c.in_ok-number.ensures.fits c.args.store.now c.in_ok-number.number
          c.requires.store c.in_ok-number.ensures.number c.in_ok-file.file _ c.in_ok-file.ensures.makes failed.2 _);
    }

pub returns : goal.returns
returns g c = record {
  makes = rw c.in_ok-number.ensures.ok (MakesRestTable-done g.E.Env _ c.args.self.now c.args.versions.now c.in_ok-number.ensures.fits c.args.store.now c.in_ok-number.number
      c.requires.store c.in_ok-number.ensures.number c.in_ok-file.file c.in_ok-file.ensures.makes c.requires.some c.build_memtable.ensures.entries c.push.new.self c.new.result
      c.in_ok-push.ensures.items c.new.ensures.entries c.new.ensures.places (c.new.ensures.cmp ∙ sym c.requires.order)
      (total_order (g.met.C.Cmp.preorder c.args.options.now.cmp) (g.met.C.UserCmp.accepts_all c.args.options.now.cmp)) c.build_memtable.ensures.rising);
}
