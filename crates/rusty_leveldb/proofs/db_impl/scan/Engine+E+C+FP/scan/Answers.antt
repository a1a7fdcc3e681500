-- A closed store, a snapshot that isn't held, a key that is too long, or the store's scan.
use Rattle.std.specs.Prelude.{map}
use Rattle.std.specs.Option.{option_map}
use Rattle.std.proofs.Common.{[], ◌∙◌, ap, inl, inr, subst, sym, append-nil}
use Rattle.std.proofs.lemmas.Result.{err_from_is_err_and}
use Rattle.leveldb_env.specs.contracts.compressor.CompressorListCompressors.TheImpl.{ghosts as compressors}
use Rattle.rusty_leveldb.specs.Engines.Engine.{IsEngineSequence}
use Rattle.rusty_leveldb.specs.Engines.Serves.{snapshot_of}
use Rattle.rusty_leveldb.specs.Walks.Scan.{bytes_of_copy}
use Rattle.rusty_leveldb.proofs.Walks.StoreScanLemmas.{scan_closed, scan_misfit, scan_serves_by}
use Rattle.rusty_leveldb.proofs.db_impl.scan.Engine+E+C+FP.scan.Goals as goal

pub returns-in_err-check_not_closed : goal.returns-in_err-check_not_closed
returns-in_err-check_not_closed g c =
    let p = err_from_is_err_and c.from_residual.result c.from_residual.ensures.1 in
    rw (p.1, p.2) (
      [],
      sym (append-nil c.args.pairs.now.items),
      scan_closed g.E.Env _ c.args.self.now (option_map snapshot_of c.args.at) c.args.scan
          c.args.count c.args.env.now c.in_err-check_not_closed.field-0.0
          c.in_err-check_not_closed.ensures.cause,
    )

pub returns-in_err-sequence : goal.returns-in_err-sequence
returns-in_err-sequence g c =
    let p = err_from_is_err_and c.from_residual-in_err-sequence.result
    c.from_residual-in_err-sequence.ensures.1 in
    let unheld = c.in_err-sequence.ensures.cause in
    rw (p.1, p.2) (
      [],
      sym (append-nil c.args.pairs.now.items),
      scan_misfit g.E.Env _ c.args.self.now (option_map snapshot_of c.args.at) c.args.scan
          c.args.count c.args.env.now c.in_ok-check_not_closed.ensures.ok
          c.in_err-sequence.field-0.0 unheld.0 (inl unheld.1),
    )

pub returns-in_err-check_key : goal.returns-in_err-check_key
returns-in_err-check_key g c =
    let p = err_from_is_err_and c.from_residual-in_err-check_key.result
    c.from_residual-in_err-check_key.ensures.1 in
    let long = c.in_err-check_key.ensures.long in
    rw (p.1, p.2) (
      [],
      sym (append-nil c.args.pairs.now.items),
      scan_misfit g.E.Env _ c.args.self.now (option_map snapshot_of c.args.at) c.args.scan
          c.args.count c.args.env.now c.in_ok-check_not_closed.ensures.ok
          c.in_err-check_key.field-0.0 long.0 (inr long.1),
    )

pub returns : goal.returns
returns g c =
    let scans = c.scan_store.ensures in (
      scans.0,
      scans.1,
      rw (← c.self.view_is) (scan_serves_by g.E.Env g.C.Cmp g.FP.FilterPolicy
          (compressors g.dyn-2).codings _ (option_map snapshot_of c.args.at) c.args.scan
          c.args.count c.args.env.now
          (λ closed. c.in_ok-check_not_closed.ensures.ok (sym (ap (λ v. v.mode) c.self.view_is)
          ∙ closed)) c.in_ok-sequence.sequence
          (subst (λ e. IsEngineSequence e (option_map snapshot_of c.args.at)
          c.in_ok-sequence.sequence) (sym c.self.view_is) c.in_ok-sequence.ensures.ok)
          c.scan_store.new.env c.scan_store.new.tables (map bytes_of_copy scans.0)
          c.scan_store.result scans.2),
    )
