use Rattle.std.proofs.Common.{subst}
use Rattle.leveldb_env.specs.Env.{HasCause}
use Rattle.leveldb_env.specs.WholeFiles.{IsLost}
use Rattle.leveldb_store.proofs.Logs.NextFoundLemmas.{file_is_log}
use Rattle.leveldb_store.proofs.log_replay.LogReplay.open.Goals as goal

pub returns-clause-opens : goal.returns-clause-opens
returns-clause-opens g c =
    file_is_log g.E.Env.models_disk c.args.store.now c.args.number (g.E.Env.observed c.args.env.now).disk.files _ c.in_ok-path.ensures.ok c.open_path.result c.open_path.ensures.opens

pub returns-clause-cause : goal.returns-clause-cause
returns-clause-cause g c =
    subst (λ p. HasCause (IsLost g.E.Env.models_disk p (g.E.Env.observed c.args.env.now) (g.E.Env.failures c.args.env.now) (g.E.Env.failures c.open_path.new.env)) (g.E.Env.failures c.args.env.now) (g.E.Env.failures c.open_path.new.env)
    c.open_path.result) c.in_ok-path.ensures.ok c.open_path.ensures.cause
