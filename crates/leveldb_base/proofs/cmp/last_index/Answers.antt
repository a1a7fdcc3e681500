use Rattle.std.proofs.Common.{rules}
use Rattle.leveldb_base.proofs.CmpLemmas.{raised_last-index}
use Rattle.leveldb_base.proofs.cmp.last_index.Goals as goal

pub returns-clause-raised : goal.returns-clause-raised
returns-clause-raised c = raised_last-index c.args.key.now c.rposition.result (search rules)
