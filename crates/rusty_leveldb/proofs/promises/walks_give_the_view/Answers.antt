use Rattle.rusty_leveldb.proofs.Machines.WalkLawsLemmas.{forward_walk_gives_view, prev_undoes_advance}
use Rattle.rusty_leveldb.proofs.promises.walks_give_the_view.Goals as goal

pub returns-clause-forward : goal.returns-clause-forward
returns-clause-forward c = forward_walk_gives_view

pub returns-clause-back : goal.returns-clause-back
returns-clause-back c = prev_undoes_advance
