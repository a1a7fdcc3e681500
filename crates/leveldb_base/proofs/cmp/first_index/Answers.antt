use Rattle.std.proofs.Common.{rules}
use Rattle.leveldb_base.proofs.CmpLemmas.{raised_first-index}
use Rattle.leveldb_base.proofs.cmp.first_index.Goals as goal

pub returns-clause-raised : goal.returns-clause-raised
returns-clause-raised c = raised_first-index c.args.key.now c.position.result (search rules)
