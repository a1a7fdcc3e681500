use Rattle.std.proofs.Common.{rules}
use Rattle.std.proofs.lemmas.Result.{MatchResult-weaker}
use Rattle.leveldb_env.proofs.EnvFileLemmas.{ends_as}
use Rattle.leveldb_mem.proofs.ReaderLemmas.{IsReadAsLog-borrowed, StopsReadingFile-borrowed}
use Rattle.leveldb_mem.proofs.log.files.records_of_rest.Goals as goal

pub returns-clause-ok : goal.returns-clause-ok
returns-clause-ok g c =
    MatchResult-weaker c.read_records.result c.read_records.ensures.log (λ found shows. ends_as (IsReadAsLog-borrowed g.E.Env shows) (search rules) (search rules)) (λ status none. tt)

pub returns-clause-err : goal.returns-clause-err
returns-clause-err g c =
    MatchResult-weaker c.read_records.result c.read_records.ensures.err (λ found none. tt) (λ status up. ends_as (StopsReadingFile-borrowed g.E.Env up) (search rules) (search rules))
