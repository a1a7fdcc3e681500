use Rattle.std.proofs.Common.{◌≤◌, ◌+◌, ◌-◌, ℕ, List, [], length, map, take, vec_len, vec_capacity}
use Rattle.leveldb_base.specs.contracts.cmp.internal.InternalKeyCmpCmp.TheImpl.{ghosts as key_order}
use Rattle.leveldb_disks.specs.contracts.mem_env.record.RecordEnvEnv.TheImpl.{ghosts}
use Rattle.leveldb_disks.specs.Record.{moment_of}
use Rattle.leveldb_env.specs.contracts.compressor.CompressorListCompressors.TheImpl.{ghosts as compressors}
use Rattle.leveldb_env.specs.contracts.filter.internal.InternalFilterPolicyFilterPolicy.TheImpl.{ghosts as key_policy}
use Rattle.leveldb_store.specs.Tables.BuildTable.{choices_of}
use Rattle.rusty_leveldb.specs.Engines.Engine.{opening_of}
use Rattle.rusty_leveldb.specs.Programs.RunCalls.{CallsInTurn}
use Rattle.rusty_leveldb.specs.Engines.Serves.{snapshot_of}
use Rattle.leveldb_files.specs.Stores.Format.{format_of}
use Rattle.rusty_leveldb.proofs.Programs.Living.{Given, LivesSoFar}
use Rattle.rusty_leveldb.proofs.shell.crash_runs.live.Given as goal

abbrev pub invariant-loop-command : goal.invariant-loop-command
invariant-loop-command g l =
    (moment_of l.fn.env ≤ moment_of l.env)
    × (vec_len l.replies + (length l.commands - l.command-index) ≤ vec_capacity l.replies)
    × (given : List ℕ) × Given (moment_of l.fn.env) l.replies.items given
    × LivesSoFar g.row.C.Denot g.row.FP.Denot (key_order g.row.C g.C.UserCmp g.C.UserCmp-dict g.C.Cmp g.C.Cmp-dict) ghosts (format_of g.C.Cmp g.FP.FilterPolicy (compressors g.dyn-2).codings) l.name l.fn.env (opening_of g.C.Cmp g.FP.FilterPolicy (compressors g.dyn-2).codings l.fn.options) (take l.command-index l.commands) l.replies.items (map snapshot_of l.taken.items) given l.engine l.env
    × CallsInTurn ghosts (choices_of g.C.Cmp g.FP.FilterPolicy (key_order g.row.C g.C.UserCmp g.C.UserCmp-dict g.C.Cmp g.C.Cmp-dict) (key_policy g.row.FP g.FP.FilterPolicy g.FP.FilterPolicy-dict) (compressors g.dyn-2).codings)
    l.initial.engine l.initial.env [] (take l.command-index l.commands) (map (λ reply. reply.1) l.replies.items) l.engine l.env l.taken.items
