use Rattle.leveldb_env.proofs.FilterBlockLemmas.{keeps_keys}
use Rattle.leveldb_env.proofs.laws.added_keys_pass.Goals as goal

pub returns : goal.returns
returns g c = keeps_keys g.FP.FilterPolicy.filter_for g.FP.FilterPolicy.matches g.met.FP.FilterPolicy.finds
