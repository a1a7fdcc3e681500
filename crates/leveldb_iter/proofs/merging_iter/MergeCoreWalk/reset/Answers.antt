use Rattle.std.proofs.Common.{refl}
use Rattle.leveldb_iter.proofs.MergingIterLemmas.{reset_to_none}
use Rattle.leveldb_iter.proofs.merging_iter.MergeCoreWalk.reset.Goals as goal

pub returns : goal.returns
returns g c = reset_to_none g.I.Walk g.met.I.Walk.laws g.C.Cmp g.met.C.Cmp.preorder c.args.self.now _ refl refl refl
