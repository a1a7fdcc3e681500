use Rattle.std.proofs.lemmas.Result.{MatchResult-weaker}
use Rattle.leveldb_env.proofs.MemEnvLemmas.{files_of-copy}
use Rattle.leveldb_env.proofs.mem_env.files.copy_files.Goals as goal

pub returns : goal.returns
returns c = MatchResult-weaker c.clone.result c.clone.ensures.cases (λ copy same. files_of-copy c.args.files.now copy same) (λ e none. tt)
