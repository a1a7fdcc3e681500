use Rattle.leveldb_table.proofs.TableReaderLemmas.{raw_together}
use Rattle.leveldb_table.proofs.laws.raw_keys_stand_together.Goals as goal

pub returns : goal.returns
returns g c order = raw_together (g.met.C.Cmp.preorder order) (g.met.C.UserCmp.exact order)
