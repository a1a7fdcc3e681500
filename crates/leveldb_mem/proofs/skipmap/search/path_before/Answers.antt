use Rattle.std.proofs.Common.{◌∙◌, inr}
use Rattle.leveldb_mem.proofs.Halving.{count_before-is}
use Rattle.leveldb_mem.proofs.Rising.{parted_by_order}
use Rattle.leveldb_mem.proofs.skipmap.search.path_before.Goals as goal

pub path_to-requires-clause-parted : goal.path_to-requires-clause-parted
path_to-requires-clause-parted g c = inr (parted_by_order (g.met.C.Cmp.preorder c.args.cmp.now) c.requires.sorted c.args.key.now cc)

pub returns-then-accepts-clause-place : goal.returns-then-accepts-clause-place
returns-then-accepts-clause-place g c = c.path_to.ensures.place ∙ count_before-is (g.C.Cmp.cmp c.args.cmp.now) c.args.key.now c.args.pairs.now.pairs

pub returns-else-accepts-clause-place : goal.returns-else-accepts-clause-place
returns-else-accepts-clause-place g c = c.path_to-else-accepts.ensures.place ∙ count_before-is (g.C.Cmp.cmp c.args.cmp.now) c.args.key.now c.args.pairs.now.pairs
