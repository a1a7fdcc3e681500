use Rattle.std.specs.Prelude.{map}
use Rattle.std.proofs.Common.{◌≡◌, ◌∙◌, rules, sym}
use Rattle.rusty_leveldb.specs.Walks.Scan.{bytes_of_copy}
use Rattle.rusty_leveldb.proofs.Walks.StoreScanLemmas.{scanned_by}
use Rattle.rusty_leveldb.proofs.db_impl.scan.scan_store.Goals as goal

pub returns : goal.returns
returns g c =
    let made = c.scan_in-scanned.ensures.scans in
    let same = sym (c.scan_in-scanned.ensures.reference ∙ c.reading-reading.ensures.reference) in
    let reading = c.reading-reading.ensures.reads in (
      made.0,
      made.1,
      scanned_by g.E.Env g.C.Cmp g.FP.FilterPolicy g.K.Compressors.codings c.args.store.now
          c.args.store.now.cmp c.args.policy c.args.compressors.now c.args.tables.now
          c.reading-reading.result (record {
            cache_is = reading.cache_is;
            order_is = reading.order_is ∙ c.cmp.ensures;
            policy_is = reading.policy_is;
            compressors_are = reading.compressors_are;
            below_is = reading.below_is;
          }) c.args.env.now c.args.sequence c.args.scan c.args.count (map bytes_of_copy made.0)
          c.scan_in-scanned.result c.scan_in-scanned.new.env
          c.scan_in-scanned.new.reading.cache.now _ (search (rules, same)) made.2,
    )
