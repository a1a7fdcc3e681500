use Rattle.std.proofs.Common.{◌∙◌, ap, map, subst, sym}
use Rattle.leveldb_base.specs.Entries.{internal_pair}
use Rattle.leveldb_base.specs.History.{AreRising}
use Rattle.leveldb_base.specs.KeyTypes.{internal_cmp}
use Rattle.leveldb_store.proofs.Tables.BuildTableLemmas.{Each-internal, MakesTable-never, tagged_accepted, tagged_internal}
use Rattle.leveldb_store.proofs.build.build_memtable.Goals as goal

pub build_table-requires-clause-reads : goal.build_table-requires-clause-reads
build_table-requires-clause-reads g c = record {
  stays_over = λ from to tables it keys pairs over. record { order_is = over.order_is; pairs_are = over.pairs_are; sorted = over.sorted };
  stays = λ from to tables it keys pairs position at. record { over = record { order_is = at.over.order_is; pairs_are = at.over.pairs_are; sorted = at.over.sorted }; position_is = at.position_is };
  excuses = λ from to tables it later status failed. failed;
  still = λ from to same. ap (λ world. world.0) same;
}

pub build_table-requires-clause-over : goal.build_table-requires-clause-over
build_table-requires-clause-over g c =
    let entries = c.args.memtable.now.kept.entries in
    let pairs = map internal_pair entries in (
      pairs,
      record {
        order_is = ap internal_cmp (sym c.requires.order) ∙ sym c.iter.ensures.order;
        pairs_are = sym c.iter.ensures.pairs;
        sorted = record {
          rising = subst (λ cmp. AreRising (internal_cmp cmp) pairs) c.requires.order c.iter.ensures.sorted;
          accepted = tagged_accepted (g.met.C.UserCmp.accepts_all c.args.options.now.cmp) pairs (tagged_internal entries);
        };
      },
    )

pub returns-clause-makes : goal.returns-clause-makes
returns-clause-makes g c =
    let entries = c.args.memtable.now.kept.entries in
    let pairs = map internal_pair entries in
    MakesTable-never c.build_table.result (λ status failed. failed.1.1) (c.build_table.ensures.makes pairs (record {
      order_is = ap internal_cmp (sym c.requires.order) ∙ sym c.iter.ensures.order;
      pairs_are = sym c.iter.ensures.pairs;
      sorted = record {
        rising = subst (λ cmp. AreRising (internal_cmp cmp) pairs) c.requires.order c.iter.ensures.sorted;
        accepted = tagged_accepted (g.met.C.UserCmp.accepts_all c.args.options.now.cmp) pairs (tagged_internal entries);
      };
    }))

pub returns-clause-entries : goal.returns-clause-entries
returns-clause-entries g c = Each-internal c.args.memtable.now.kept.entries c.iter.ensures.numbered
