use Rattle.leveldb_iter.proofs.DbIterTurnLemmas.{leaves_back_reverse, leaves_back_forward}
use Rattle.leveldb_iter.proofs.db_iter.ViewWalk.step_off_back.Goals as goal

pub returns-in-Reverse-clause-moves : goal.returns-in-Reverse-clause-moves
returns-in-Reverse-clause-moves g c = leaves_back_reverse g.M.Walk g.met.M.Walk.laws (c.args.self.now.saved_key.items, c.args.self.now.saved_value.items) c.in-Reverse.is

pub returns-in_ok-save_key-in-Forward-clause-moves : goal.returns-in_ok-save_key-in-Forward-clause-moves
returns-in_ok-save_key-in-Forward-clause-moves g c = leaves_back_forward g.M.Walk g.met.M.Walk.laws (c.args.self.now.saved_key.items, c.args.self.now.saved_value.items) c.save_key.ensures.walk c.in-Forward.is c.in_ok-save_key-in-Forward.ensures.key c.save_key.ensures.sequence c.turn_back.ensures.moves
