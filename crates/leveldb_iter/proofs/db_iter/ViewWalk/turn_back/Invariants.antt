use Rattle.std.proofs.Common.{◌^◌, ◌-◌, ◌≡◌, Ok}
use Rattle.leveldb_iter.specs.DbIterSteps.{MovesBelow, IsTurning}
use Rattle.leveldb_iter.proofs.db_iter.ViewWalk.turn_back.Given as goal

abbrev pub invariant-loop : goal.invariant-loop
invariant-loop g l = record {
  at : l.self.at ≡ l.initial.self.at;
  sequence : l.self.sequence ≡ l.initial.self.sequence;
  key : l.self.saved_key.items ≡ l.initial.self.saved_key.items;
  so_far : MovesBelow g.M.Walk
      (IsTurning g.M.Walk (l.initial.env, l.initial.tables) l.initial.self.walk l.initial.self.sequence l.initial.self.saved_key.items)
      (λ (u : Unit {0}). IsTurning g.M.Walk (l.env, l.tables) l.self.walk l.initial.self.sequence l.initial.self.saved_key.items)
      (l.initial.env, l.initial.tables) l.initial.self.walk (Ok (tt {0})) (l.env, l.tables) l.self.walk;
}

abbrev pub decreases-loop : goal.decreases-loop
decreases-loop g l = 2 ^ 128 - l.counter
