-- The store is charged and compacted by the engine's options, in the order of the store.
use Rattle.std.proofs.Common.{ap, refl}
use Rattle.leveldb_store.proofs.Keeping.KeptEntriesLemmas.{memory_of_charged}
use Rattle.leveldb_store.specs.Keeping.OpenStore.{OpenStoreValue}
use Rattle.leveldb_store.specs.Writing.Removal.{but_removal}
use Rattle.rusty_leveldb.proofs.Engines.TidyLemmas.{tidied}
use Rattle.rusty_leveldb.proofs.Walks.ChargesLemmas.{charged_range}
use Rattle.rusty_leveldb.proofs.db_impl.compact.Engine+E+C+FP.compact_store.Goals as goal

pub returns-clause-compacts : goal.returns-clause-compacts
returns-clause-compacts g c =
    rw (← c.self.view_is, c.keep_removal.ensures.done) (record {
      smallest = c.smallest_held-smallest.result;
      is_smallest = (rw c.last_sequence.ensures at c.smallest_held-smallest.ensures);
      compacts = (rw c.cmp-self-inside.ensures at (charged_range _ g.E.Env _ c.self.inside.store
          c.args.env.now c.self.inside.tables _
          (c.self.invariant (rw (← c.self.view_is) at c.requires)) _ c.charge.new.store c.charge.ensures.version
          (but_removal c.compact_range-compacted.result) c.compact_range-compacted.new.self
          c.compact_range-compacted.new.env c.compact_range-compacted.new.tables _
          c.compact_range-compacted.ensures.compacts));
      entries = (rw c.cmp-self-inside.ensures at (memory_of_charged g.E.Env _ c.self.inside.store
          c.args.env.now c.charge.new.store c.compact_range-compacted.new.self
          c.compact_range-compacted.new.env c.charge.ensures.version
          c.compact_range-compacted.ensures.entries));
      tidy = tidied g.E.Env _ c.args.env.now c.compact_range-compacted.result c.charge.new.store _
          c.compact_range-compacted.new.env
          (ap (λ (v : OpenStoreValue g.row.C.Denot). v.set) c.charge.ensures.version)
          (ap (λ (v : OpenStoreValue g.row.C.Denot). v.kept_to) c.charge.ensures.version)
          c.keep_removal.ensures.kept c.compact_range-compacted.ensures.compacts.keeps.usable
          c.compact_range-compacted.ensures.removes;
      rest = (rw c.cmp-self-inside.ensures refl);
      mode = c.mode_by-self-inside.ensures;
    })
