-- The store makes room by the engine's options, in the order of the store.
use Rattle.std.specs.Prelude.{is_some}
use Rattle.std.proofs.Common.{◌∙◌, ap, refl}
use Rattle.rusty_leveldb.proofs.Engines.TidyLemmas.{tidied}
use Rattle.rusty_leveldb.proofs.db_impl.write.Engine+E+C+FP.make_room.Goals as goal

pub returns : goal.returns
returns g c =
    rw (← c.self.view_is, c.keep_removal.ensures.done) (record {
      smallest = c.smallest_held-smallest.result;
      is_smallest = (rw c.last_sequence.ensures at c.smallest_held-smallest.ensures);
      makes = (rw c.cmp-self-inside.ensures at c.room_in-made.ensures.makes);
      looks = c.room_in-made.ensures.looks;
      tidy = tidied g.E.Env _ c.args.env.now c.room_in-made.result c.self.inside.store _
          c.room_in-made.new.env refl refl c.keep_removal.ensures.kept
          c.room_in-made.ensures.makes.keeps.usable c.room_in-made.ensures.removes;
      rest = (rw c.cmp-self-inside.ensures refl);
      sink = c.room_in-made.ensures.log ∙ ap is_some c.take-log.ensures.value;
      mode = c.mode_by-self-inside.ensures;
    })
