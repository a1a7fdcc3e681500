use Rattle.std.proofs.Common.{Ok, ap}
use Rattle.leveldb_store.proofs.Logs.WholeLogLemmas.{looked_clean, looked_later, looking_more, looked_keeps}
use Rattle.std.proofs.lemmas.Result.{IfOk-from_err}
use Rattle.leveldb_store.proofs.open_store.damage.read_through.Goals as goal

pub returns-in_err-next_batch-clause-later : goal.returns-in_err-next_batch-clause-later
returns-in_err-next_batch-clause-later g c = looked_later g.E.Env _ c.args.env.now c.batches.invariant c.in_err-next_batch.ensures

pub batches-preserved : goal.batches-preserved
batches-preserved g c = looking_more g.E.Env _ c.args.env.now c.batches.invariant c.in_ok-next_batch.ensures (ap (λ found. Ok found) c.in-More.is)

pub returns-in-CleanEnd-clause-clean : goal.returns-in-CleanEnd-clause-clean
returns-in-CleanEnd-clause-clean g c is_clean = looked_clean g.E.Env _ c.args.env.now c.batches.invariant c.in_ok-next_batch.ensures (ap (λ found. Ok found) c.in-CleanEnd.is)

pub returns-in-CleanEnd-clause-later : goal.returns-in-CleanEnd-clause-later
returns-in-CleanEnd-clause-later g c = looked_later g.E.Env _ c.args.env.now c.batches.invariant c.in_ok-next_batch.ensures

pub returns-in-BadEnd-clause-later : goal.returns-in-BadEnd-clause-later
returns-in-BadEnd-clause-later g c = looked_later g.E.Env _ c.args.env.now c.batches.invariant c.in_ok-next_batch.ensures

pub returns-in_err-log-clause-clean : goal.returns-in_err-log-clause-clean
returns-in_err-log-clause-clean g c = IfOk-from_err c.from_residual.result _ c.from_residual.ensures.0

pub returns-in_err-log-clause-keeps : goal.returns-in_err-log-clause-keeps
returns-in_err-log-clause-keeps g c = record { disk = c.open.ensures.run; locks = c.open.ensures.locks }

pub returns-in_err-log-clause-later : goal.returns-in_err-log-clause-later
returns-in_err-log-clause-later g c = c.open.ensures.cause.later

pub returns-in_err-batch-clause-clean : goal.returns-in_err-batch-clause-clean
returns-in_err-batch-clause-clean g c = IfOk-from_err c.from_residual-in_err-batch.result _ c.from_residual-in_err-batch.ensures.0

pub returns-in_err-batch-clause-keeps : goal.returns-in_err-batch-clause-keeps
returns-in_err-batch-clause-keeps g c = record { disk = c.open.ensures.run; locks = c.open.ensures.locks }

pub returns-in_err-batch-clause-later : goal.returns-in_err-batch-clause-later
returns-in_err-batch-clause-later g c = c.open.ensures.cause.later

pub returns-in_err-next_batch-clause-clean : goal.returns-in_err-next_batch-clause-clean
returns-in_err-next_batch-clause-clean g c = IfOk-from_err c.from_residual-in_err-next_batch.result _ c.from_residual-in_err-next_batch.ensures.0

pub returns-in_err-next_batch-clause-keeps : goal.returns-in_err-next_batch-clause-keeps
returns-in_err-next_batch-clause-keeps g c = looked_keeps g.E.Env _ c.args.env.now c.batches.invariant c.in_err-next_batch.ensures

pub returns-in-CleanEnd-clause-keeps : goal.returns-in-CleanEnd-clause-keeps
returns-in-CleanEnd-clause-keeps g c = looked_keeps g.E.Env _ c.args.env.now c.batches.invariant c.in_ok-next_batch.ensures

pub returns-in-BadEnd-clause-keeps : goal.returns-in-BadEnd-clause-keeps
returns-in-BadEnd-clause-keeps g c = looked_keeps g.E.Env _ c.args.env.now c.batches.invariant c.in_ok-next_batch.ensures
