use Rattle.std.proofs.Common.{rules}
use Rattle.leveldb_base.proofs.CmpLemmas.{raised_between-index}
use Rattle.leveldb_base.proofs.cmp.index_between.Goals as goal

pub returns-clause-raised : goal.returns-clause-raised
returns-clause-raised c = raised_between-index c.args.from.now c.args.to.now c.position.result (search rules)
