use Rattle.leveldb_env.specs.Env.{file_kept}
use Rattle.leveldb_env.proofs.MemEnvLemmas.{files_written}
use Rattle.leveldb_env.proofs.mem_env.files.sync_file.Goals as goal

pub returns-clause-synced : goal.returns-clause-synced
returns-clause-synced c =
    let w = c.sync.new.self in
    files_written c.args.name.now c.args.files.now (c.get_mut.follows.lender w) c.in-Some.file.now w file_kept c.in-Some.ensures.value (c.get_mut.follows.holds w).3 c.sync.ensures
