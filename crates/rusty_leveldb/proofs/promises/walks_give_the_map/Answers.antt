use Rattle.rusty_leveldb.proofs.Headline.WalkLawLemmas.{forward_walk_gives_map, prev_leads_back}
use Rattle.rusty_leveldb.proofs.promises.walks_give_the_map.Goals as goal

pub returns-clause-forward : goal.returns-clause-forward
returns-clause-forward c = forward_walk_gives_map

pub returns-clause-back : goal.returns-clause-back
returns-clause-back c = prev_leads_back
