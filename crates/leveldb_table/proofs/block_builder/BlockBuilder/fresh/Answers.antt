use Rattle.std.proofs.Common.{ap, refl}
use Rattle.std.proofs.lemmas.Result.{IfOk-from_err}
use Rattle.leveldb_table.proofs.RefusalLemmas.{IfErr-refused}
use Rattle.leveldb_table.proofs.block_builder.BlockBuilder.fresh.Goals as goal

pub returns-in_err-with_capacity-clause-none : goal.returns-in_err-with_capacity-clause-none
returns-in_err-with_capacity-clause-none g c = IfOk-from_err _ _ c.from_residual.ensures.0

pub returns-in_err-with_capacity-clause-begun : goal.returns-in_err-with_capacity-clause-begun
returns-in_err-with_capacity-clause-begun g c = IfOk-from_err _ _ c.from_residual.ensures.0

pub returns-in_err-with_capacity-clause-order : goal.returns-in_err-with_capacity-clause-order
returns-in_err-with_capacity-clause-order g c = IfOk-from_err _ _ c.from_residual.ensures.0

pub returns-in_err-with_capacity-clause-interval : goal.returns-in_err-with_capacity-clause-interval
returns-in_err-with_capacity-clause-interval g c = IfOk-from_err _ _ c.from_residual.ensures.0

pub returns-in_err-with_capacity-clause-room : goal.returns-in_err-with_capacity-clause-room
returns-in_err-with_capacity-clause-room g c = IfOk-from_err _ _ c.from_residual.ensures.0

pub returns-in_err-with_capacity-clause-memory : goal.returns-in_err-with_capacity-clause-memory
returns-in_err-with_capacity-clause-memory g c = IfErr-refused _ _ c.from_residual.result (λ status memory. memory) c.from_residual.ensures.1

pub returns-clause-order : goal.returns-clause-order
returns-clause-order g c = ap (λ core. core.cmp) c.self.view_is

pub returns-clause-begun : goal.returns-clause-begun
returns-clause-begun g c = refl

pub returns-clause-interval : goal.returns-clause-interval
returns-clause-interval g c = ap (λ core. core.interval) c.self.view_is

pub returns-clause-room : goal.returns-clause-room
returns-clause-room g c = c.in_ok-with_capacity.ensures.capacity

pub returns-clause-memory : goal.returns-clause-memory
returns-clause-memory g c = tt
