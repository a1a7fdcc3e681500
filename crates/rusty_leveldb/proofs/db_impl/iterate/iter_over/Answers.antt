use Rattle.std.proofs.Common.{refl, ◌∙◌}
use Rattle.rusty_leveldb.proofs.db_impl.iterate.iter_over.Goals as goal

pub returns-clause-made : goal.returns-clause-made
returns-clause-made g c =
    let reading = c.reading-tables.ensures.reads in record {
      views = c.in_ok-view.ensures.views;
      reads = c.in_ok-view.ensures.reads;
      reading = record {
        cache_is = reading.cache_is;
        order_is = reading.order_is ∙ c.cmp.ensures;
        policy_is = reading.policy_is;
        compressors_are = reading.compressors_are;
        below_is = reading.below_is;
      };
      reference = refl;
      env_is = refl;
    }
