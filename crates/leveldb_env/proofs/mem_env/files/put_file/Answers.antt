use Rattle.std.proofs.Common.{◌≡◌, ◌∙◌, Some, string_bytes, rules}
use Rattle.leveldb_env.specs.Env.{with_file}
use Rattle.leveldb_env.specs.MemEnv.{files_of}
use Rattle.leveldb_env.proofs.MemEnvLemmas.{files_updated}
use Rattle.leveldb_env.proofs.mem_env.files.put_file.Goals as goal

pub returns-clause-ok : goal.returns-clause-ok
returns-clause-ok c =
    let named : string_bytes c.in_ok-key.key ≡ c.args.name.now = search rules in
    files_updated (string_bytes c.in_ok-key.key) c.args.files.now c.insert.new.self _ c.in_ok-insert.ensures.updates
    ∙ (λ i. with_file (named i) (Some c.args.file) (files_of c.args.files.now))
