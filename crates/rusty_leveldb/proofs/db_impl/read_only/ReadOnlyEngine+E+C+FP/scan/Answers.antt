-- A key that is too long, or the store's scan.
use Rattle.std.specs.Prelude.{map}
use Rattle.std.proofs.Common.{[], sym, append-nil}
use Rattle.std.proofs.lemmas.Result.{err_from_is_err_and}
use Rattle.leveldb_env.specs.contracts.compressor.CompressorListCompressors.TheImpl.{ghosts as compressors}
use Rattle.leveldb_files.specs.Stores.Format.{format_of}
use Rattle.rusty_leveldb.specs.Walks.Scan.{bytes_of_copy}
use Rattle.rusty_leveldb.proofs.Walks.StoreScanLemmas.{read_misfit, read_scans}
use Rattle.rusty_leveldb.proofs.db_impl.read_only.ReadOnlyEngine+E+C+FP.scan.Goals as goal

pub returns-in_err-check_key : goal.returns-in_err-check_key
returns-in_err-check_key g c =
    let p = err_from_is_err_and c.from_residual.result c.from_residual.ensures.1 in
    let long = c.in_err-check_key.ensures.long in
    rw (p.1, p.2) (
      [],
      sym (append-nil c.args.pairs.now.items),
      read_misfit g.E.Env _ c.args.self.now c.args.scan c.args.count c.args.env.now
          c.in_err-check_key.field-0.0 long.0 long.1,
    )

pub returns : goal.returns
returns g c =
    let scans = c.scan_store.ensures in (
      scans.0,
      scans.1,
      rw (← c.self.view_is) (read_scans g.E.Env
          (format_of g.C.Cmp g.FP.FilterPolicy (compressors g.dyn-2).codings) _ c.args.scan c.args.count c.args.env.now
          c.last_sequence-last.result c.last_sequence-last.ensures c.scan_store.new.env
          c.scan_store.new.tables (map bytes_of_copy scans.0) c.scan_store.result scans.2),
    )
