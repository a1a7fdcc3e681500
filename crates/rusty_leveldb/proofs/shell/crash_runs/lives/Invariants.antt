use Rattle.std.proofs.Common.{◌≡◌, ◌≤◌, ◌+◌, ◌++◌, length, vec_len, vec_capacity}
use Rattle.leveldb_base.specs.contracts.cmp.internal.InternalKeyCmpCmp.TheImpl.{ghosts as key_order}
use Rattle.leveldb_env.specs.contracts.filter.internal.InternalFilterPolicyFilterPolicy.TheImpl.{ghosts as key_policy}
use Rattle.leveldb_disks.specs.contracts.mem_env.record.RecordEnvEnv.TheImpl.{ghosts}
use Rattle.leveldb_env.specs.contracts.compressor.CompressorListCompressors.TheImpl.{ghosts as compressors}
use Rattle.rusty_leveldb.specs.Programs.Lives.{IsCrash, AreReportsTo}
use Rattle.rusty_leveldb.proofs.shell.crash_runs.lives.Given as goal

abbrev pub invariant-loop-life : goal.invariant-loop-life
invariant-loop-life g l =
    (vec_len l.reports + length l.life-iterator.rest.items ≤ vec_capacity l.reports) × (l.yielded ++ l.life-iterator.rest.items ≡ l.fn.lives.items)
    × AreReportsTo ghosts g.C.Cmp g.FP.FilterPolicy (compressors g.dyn-2).codings (key_order g.row.C g.C.UserCmp g.C.UserCmp-dict g.C.Cmp g.C.Cmp-dict) (key_policy g.row.FP g.FP.FilterPolicy g.FP.FilterPolicy-dict) l.name IsCrash l.yielded l.reports.items l.env
