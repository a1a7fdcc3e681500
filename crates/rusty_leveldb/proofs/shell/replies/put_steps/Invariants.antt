use Rattle.std.proofs.Common.{◌≡◌, ◌++◌, take}
use Rattle.std.specs.Prelude.{flat_map}
use Rattle.rusty_leveldb.specs.Programs.Language.{step_line}
use Rattle.rusty_leveldb.proofs.shell.replies.put_steps.Given as goal

abbrev pub invariant-loop-step : goal.invariant-loop-step
invariant-loop-step l = l.out.items ≡ l.fn.out.items ++ flat_map step_line (take l.step-index l.steps)
