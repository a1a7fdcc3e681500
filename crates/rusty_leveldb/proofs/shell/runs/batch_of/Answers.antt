use Rattle.std.proofs.Common.{rules}
use Rattle.rusty_leveldb.proofs.Engines.Batching.{too_long_among}
use Rattle.rusty_leveldb.proofs.shell.runs.batch_of.Goals as goal

pub returns-in_err-add-clause-cause : goal.returns-in_err-add-clause-cause
returns-in_err-add-clause-cause c =
    search (rules, too_long_among c.loop-item.batch c.args.items.now c.loop-item.item-index c.item-item.result c.loop-item-test.true c.item-item.is c.loop-item.invariant)
