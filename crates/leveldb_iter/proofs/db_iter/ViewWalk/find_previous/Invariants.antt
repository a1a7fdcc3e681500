use Rattle.std.proofs.Common.{◌^◌, ◌-◌, ◌≡◌, None, Ok}
use Rattle.std.specs.Bool.{then_some}
use Rattle.leveldb_iter.specs.DbIterSteps.{MovesBelow, IsOnScanBack}
use Rattle.leveldb_iter.proofs.db_iter.ViewWalk.find_previous.Given as goal

abbrev pub invariant-loop : goal.invariant-loop
invariant-loop g l = record {
  at : l.self.at ≡ None;
  sequence : l.self.sequence ≡ l.initial.self.sequence;
  so_far : MovesBelow g.M.Walk
      (IsOnScanBack g.M.Walk (l.initial.env, l.initial.tables) l.initial.self.walk l.initial.self.sequence None)
      (λ (u : Unit {0}). IsOnScanBack g.M.Walk (l.env, l.tables) l.self.walk l.initial.self.sequence (then_some l.taken (l.self.saved_key.items, l.self.saved_value.items)))
      (l.initial.env, l.initial.tables) l.initial.self.walk (Ok (tt {0})) (l.env, l.tables) l.self.walk;
}

abbrev pub decreases-loop : goal.decreases-loop
decreases-loop g l = 2 ^ 128 - l.counter
