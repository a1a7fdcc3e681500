use Rattle.std.proofs.Common.{rules}
use Rattle.std.proofs.lemmas.Result.{MatchResult-weaker}
use Rattle.leveldb_env.proofs.EnvFileLemmas.{ends_as}
use Rattle.leveldb_store.proofs.Logs.LogSourceLemmas.{finds_borrowed, name_kept, read_named, stops_borrowed}
use Rattle.leveldb_store.proofs.log_replay.next_record.Goals as goal

pub returns-clause-found : goal.returns-clause-found
returns-clause-found g c =
    MatchResult-weaker c.next_record.result c.next_record.ensures.found (λ found finds. ends_as (finds_borrowed g.E.Env found _ _ _ _ _ finds) (search rules) (search rules)) (λ status none. tt)

pub returns-clause-err : goal.returns-clause-err
returns-clause-err g c usable =
    MatchResult-weaker c.next_record.result (c.next_record.ensures.err usable) (λ found none. tt) (λ status stops. ends_as (stops_borrowed g.E.Env stops.0) (search rules) (search rules))

pub returns-clause-name : goal.returns-clause-name
returns-clause-name g c modelled =
    name_kept g.E.Env (read_named g.E.Env modelled _ _ _ _ _ c.next_record.result c.next_record.ensures.found (λ usable. MatchResult-weaker c.next_record.result (c.next_record.ensures.err usable) (λ found none. tt) (λ status stops. stops.0)) (λ failed. (c.next_record.ensures.failed failed).2)) (search rules)
