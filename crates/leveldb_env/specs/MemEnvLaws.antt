-- What the environment in memory reports of the present moment. Its impl of `Env` cites these as its
-- laws, where the checker takes no term of proofs/.
use Rattle.std.specs.Prelude.{◌≡◌, ◌<◌, ◌^◌, false, IsTrue}
use Rattle.std.proofs.Common.{lit<}
use Rattle.std.proofs.lemmas.Bool.{false≢true}
use Rattle.leveldb_env.specs.declared.mem_env.MemEnv.{MemEnv}
use Rattle.leveldb_env.specs.Env.{Files}
use Rattle.leveldb_env.specs.MemEnv.{mem_observed}

-- no count of failures reaches 2^64
pub mem_failures_below : (env : MemEnv) → 0 < 2 ^ 64
mem_failures_below env = lit< tt

pub mem_only_now : (env : MemEnv) (files : Files)
    → (mem_observed env).at_moment (mem_observed env).moment files
    → files ≡ (mem_observed env).disk.files
mem_only_now env files were = absurd were

pub mem_counts_now : (env : MemEnv) → IsTrue false
    → (mem_observed env).at_moment (mem_observed env).moment (mem_observed env).disk.files
mem_counts_now env modelled = absurd (false≢true modelled)
