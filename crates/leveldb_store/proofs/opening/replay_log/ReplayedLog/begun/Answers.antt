use Rattle.std.proofs.Common.{refl, rules}
use Rattle.leveldb_store.proofs.opening.replay_log.ReplayedLog.begun.Goals as goal

pub returns : goal.returns
returns g c = record {
  tables = search rules;
  rest = search rules;
  places = search rules;
  cmp_is = search rules;
  last_is = refl;
  size_is = refl;
  bad = refl;
}
