use Rattle.std.proofs.Common.{rules, refl}
use Rattle.leveldb_iter.proofs.DbIterLemmas.{leaves_none, leaves_forward, leaves_reverse}
use Rattle.leveldb_iter.proofs.db_iter.ViewWalk.step_off.Goals as goal

pub returns-in_ok-seek_to_first-in-None-clause-moves : goal.returns-in_ok-seek_to_first-in-None-clause-moves
returns-in_ok-seek_to_first-in-None-clause-moves g c = leaves_none g.M.Walk g.met.M.Walk.laws _ _ _ c.in-None.is c.in_ok-seek_to_first-in-None.ensures.moves

pub returns-in_ok-advance-in-Some-Forward-clause-moves : goal.returns-in_ok-advance-in-Some-Forward-clause-moves
returns-in_ok-advance-in-Some-Forward-clause-moves g c = leaves_forward g.M.Walk g.met.M.Walk.laws _ _ c.save_key.ensures.walk c.in_ok-advance-in-Some-Forward.ensures.moves _
    (search rules) c.in_ok-save_key-in-Some-Forward.ensures.key

pub returns-in_ok-advance-in-Some-Reverse-clause-moves : goal.returns-in_ok-advance-in-Some-Reverse-clause-moves
returns-in_ok-advance-in-Some-Reverse-clause-moves g c = leaves_reverse g.M.Walk g.met.M.Walk.laws _ (_, c.args.self.now.saved_value.items) refl c.in_ok-advance-in-Some-Reverse.ensures.moves
    (search rules)
