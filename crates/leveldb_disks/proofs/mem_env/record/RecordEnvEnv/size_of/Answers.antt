use Rattle.std.proofs.Common.{◌≡◌, None, rules}
use Rattle.leveldb_env.specs.MemEnv.{IsNoSuchFile}
use Rattle.leveldb_disks.specs.Record.{files_in}
use Rattle.leveldb_disks.proofs.RecordLemmas.{no_such_file, turns_own}
use Rattle.leveldb_disks.proofs.mem_env.record.RecordEnvEnv.size_of.Goals as goal

pub returns-in-None-clause-turns : goal.returns-in-None-clause-turns
returns-in-None-clause-turns c =
    let env = c.args.self.now in
    let name = c.args.name.now in
    let gone : files_in env name ≡ None = search rules in
    let why = no_such_file (files_in env) name c.missing.result gone c.missing.ensures.code c.missing.ensures.text in
    turns_own (IsNoSuchFile (files_in env) name) env c.look.new.self c.missing.result c.in_ok-look.ensures.turns why
