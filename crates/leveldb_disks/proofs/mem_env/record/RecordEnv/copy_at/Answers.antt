use Rattle.std.proofs.Common.{◌≡◌, None, rules}
use Rattle.leveldb_disks.specs.Record.{files_in}
use Rattle.leveldb_disks.proofs.RecordLemmas.{no_such_file}
use Rattle.leveldb_disks.proofs.mem_env.record.RecordEnv.copy_at.Goals as goal

pub returns-in-None-clause-cause : goal.returns-in-None-clause-cause
returns-in-None-clause-cause c =
    let gone : files_in c.args.self.now c.args.name.now ≡ None = search rules in
    no_such_file (files_in c.args.self.now) c.args.name.now c.missing.result gone c.missing.ensures.code c.missing.ensures.text
