-- No memory for a walk, or its scan.
use Rattle.std.specs.Prelude.{map}
use Rattle.std.proofs.Common.{[], sym, append-nil}
use Rattle.std.proofs.lemmas.Result.{err_from_is_err_and}
use Rattle.rusty_leveldb.specs.Walks.Scan.{bytes_of_copy}
use Rattle.rusty_leveldb.proofs.Walks.ScanWalkLemmas.{none_copied}
use Rattle.rusty_leveldb.proofs.Walks.StoreScanLemmas.{reference_kept, view_scanned, view_starved}
use Rattle.rusty_leveldb.proofs.db_impl.scan.scan_in.Goals as goal

pub returns-in_err-view-clause-scans : goal.returns-in_err-view-clause-scans
returns-in_err-view-clause-scans g c =
    let p = err_from_is_err_and c.from_residual.result c.from_residual.ensures.1 in
    rw (p.1, p.2) (
      [],
      sym (append-nil c.args.pairs.now.items),
      view_starved g.E.Env _ c.args.store.now c.args.env.now c.args.reading.now.cache.now
          c.args.sequence c.args.scan c.args.count c.in_err-view.field-0.0
          c.in_err-view.ensures.memory,
    )

pub returns-clause-scans : goal.returns-clause-scans
returns-clause-scans g c =
    let made = c.scan_view.ensures in
    let view = c.in_ok-view.ensures in (
      made.0,
      made.1,
      view_scanned g.E.Env g.C.Cmp g.FP.FilterPolicy g.K.Compressors.codings _ view.reads
          c.args.store.now c.args.sequence c.in_ok-view.view view.views c.args.env.now
          c.scan_view.new.env c.args.reading.now c.scan_view.new.tables c.requires.order
          c.requires.below c.args.scan c.args.count (map bytes_of_copy made.0) c.scan_view.result
          made.2 (none_copied c.scan_view.result made.0 made.3),
    )

pub returns-clause-reference : goal.returns-clause-reference
returns-clause-reference g c =
    let made = c.scan_view.ensures in
    let view = c.in_ok-view.ensures in
    reference_kept g.E.Env g.C.Cmp g.FP.FilterPolicy g.K.Compressors.codings _ view.reads
    c.args.store.now c.args.sequence c.in_ok-view.view view.views c.args.env.now
    c.scan_view.new.env c.args.reading.now c.scan_view.new.tables c.requires.order
    c.requires.below c.args.scan c.args.count (map bytes_of_copy made.0) c.scan_view.result made.2
    (none_copied c.scan_view.result made.0 made.3)
