use Rattle.std.proofs.Common.{rules}
use Rattle.std.proofs.lemmas.Result.{MatchResult-weaker}
use Rattle.leveldb_env.proofs.EnvFileLemmas.{ends_as}
use Rattle.leveldb_version_set.proofs.Sets.ReplayFileLemmas.{ReplaysRest-borrowed, StopsReplay-borrowed}
use Rattle.leveldb_version_set.proofs.version_set.replay.replay_rest.Goals as goal

pub returns-clause-ok : goal.returns-clause-ok
returns-clause-ok g c =
    MatchResult-weaker c.replay.result c.replay.ensures.ok (λ found shows. ends_as (ReplaysRest-borrowed g.E.Env shows) (search rules) (search rules)) (λ status none. tt)

pub returns-clause-err : goal.returns-clause-err
returns-clause-err g c =
    MatchResult-weaker c.replay.result c.replay.ensures.err (λ found none. tt) (λ status up. ends_as (StopsReplay-borrowed g.E.Env up) (search rules) (search rules))
