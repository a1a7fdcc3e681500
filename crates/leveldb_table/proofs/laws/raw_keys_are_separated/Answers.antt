use Rattle.leveldb_table.proofs.TableBuilderLemmas.{raw_separated}
use Rattle.leveldb_table.proofs.laws.raw_keys_are_separated.Goals as goal

pub returns : goal.returns
returns g c order = raw_separated (g.met.C.Cmp.preorder order) (g.C.Cmp.shortest_sep order) (g.met.C.Cmp.separates order)
