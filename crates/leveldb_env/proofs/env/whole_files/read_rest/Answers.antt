use Rattle.std.proofs.Common.{rules}
use Rattle.std.proofs.lemmas.Result.{MatchResult-weaker}
use Rattle.leveldb_env.proofs.EnvFileLemmas.{IsReadOut-borrowed, IsGivenUp-borrowed, ends_as}
use Rattle.leveldb_env.proofs.env.whole_files.read_rest.Goals as goal

pub returns-clause-ok : goal.returns-clause-ok
returns-clause-ok g c = MatchResult-weaker c.read_to_end.result c.read_to_end.ensures.ok
    (λ all given. ends_as (IsReadOut-borrowed g.E.Env given) (search rules) (search rules)) (λ status none. tt)

pub returns-clause-err : goal.returns-clause-err
returns-clause-err g c = MatchResult-weaker c.read_to_end.result c.read_to_end.ensures.err
    (λ all none. tt) (λ status given. ends_as (IsGivenUp-borrowed g.E.Env given) (search rules) (search rules))
