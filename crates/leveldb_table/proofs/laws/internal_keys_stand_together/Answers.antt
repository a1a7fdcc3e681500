use Rattle.leveldb_table.proofs.TableReaderLemmas.{internal_together}
use Rattle.leveldb_table.proofs.laws.internal_keys_stand_together.Goals as goal

pub returns : goal.returns
returns g c order = internal_together (g.met.C.Cmp.preorder order.0) (g.met.C.UserCmp.exact order.0)
