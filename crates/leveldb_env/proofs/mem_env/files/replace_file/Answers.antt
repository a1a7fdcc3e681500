use Rattle.std.proofs.Common.{Some, IsSome, subst, refl}
use Rattle.leveldb_env.proofs.MemEnvLemmas.{files_updated}
use Rattle.leveldb_env.proofs.mem_env.files.replace_file.Goals as goal

pub returns-in-Some : goal.returns-in-Some
returns-in-Some c = files_updated c.args.name.now c.args.files.now (c.get_mut.follows.lender c.args.file) (Some c.args.file) ((c.get_mut.follows.holds c.args.file).3 (subst IsSome c.in-Some.ensures.value refl))
