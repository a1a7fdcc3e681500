use Rattle.std.proofs.Common.{◌≡◌, None, inr, rules}
use Rattle.std.proofs.lemmas.Result.{IfErr-weaker}
use Rattle.leveldb_env.specs.MemEnv.{IsNoSuchFile, IsNoFileOrMemory}
use Rattle.leveldb_disks.specs.Record.{files_in}
use Rattle.leveldb_disks.proofs.RecordLemmas.{no_such_file, turns_own}
use Rattle.leveldb_disks.proofs.mem_env.record.RecordEnvEnv.open_sequential_file.Goals as goal

pub returns-then-not-contains_key-clause-turns : goal.returns-then-not-contains_key-clause-turns
returns-then-not-contains_key-clause-turns c =
    let env = c.args.self.now in
    let name = c.args.name.now in
    let gone : files_in env name ≡ None = search rules in
    let why = no_such_file (files_in env) name c.missing.result gone c.missing.ensures.code c.missing.ensures.text in
    turns_own (IsNoFileOrMemory (files_in env) name) env c.look.new.self c.missing.result c.in_ok-look.ensures.turns (IfErr-weaker c.missing.result (IsNoSuchFile (files_in env) name) (IsNoFileOrMemory (files_in env) name) (λ e no. inr no) why)
