use Rattle.leveldb_table.proofs.TableBuilderLemmas.{internal_separated}
use Rattle.leveldb_table.proofs.laws.internal_keys_are_separated.Goals as goal

pub returns : goal.returns
returns g c order = internal_separated (g.met.C.Cmp.preorder order.0) (g.C.Cmp.shortest_sep order.0) (g.met.C.Cmp.separates order.0) (g.met.C.UserCmp.exact order.0)
