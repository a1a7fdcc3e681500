use Rattle.std.proofs.Common.{◌≡◌, ◌≤◌, ◌++◌, ◌+◌, ◌-◌, List, [], length, map, take, vec_len, vec_capacity}
use Rattle.leveldb_base.specs.contracts.cmp.internal.InternalKeyCmpCmp.TheImpl.{ghosts as key_order}
use Rattle.leveldb_env.specs.contracts.compressor.CompressorListCompressors.TheImpl.{ghosts as compressors}
use Rattle.leveldb_env.specs.contracts.filter.internal.InternalFilterPolicyFilterPolicy.TheImpl.{ghosts as key_policy}
use Rattle.rusty_leveldb.specs.declared.shell.commands.Reply.{Reply}
use Rattle.rusty_leveldb.specs.Engines.Engine.{opening_of}
use Rattle.rusty_leveldb.specs.Engines.Serves.{snapshot_of}
use Rattle.leveldb_files.specs.Stores.Format.{format_of}
use Rattle.leveldb_store.specs.Tables.BuildTable.{choices_of}
use Rattle.leveldb_store.specs.Keeping.SoundCall.{TimeGoesOn}
use Rattle.rusty_leveldb.specs.Programs.RunCalls.{CallsInTurn}
use Rattle.rusty_leveldb.proofs.Programs.Playing.{RunsCommandsSoFar}
use Rattle.rusty_leveldb.proofs.shell.runs.run.Given as goal

abbrev pub invariant-loop-command : goal.invariant-loop-command
invariant-loop-command g l =
    (g.E.Env.failures l.fn.env ≤ g.E.Env.failures l.env)
    × (vec_len l.replies + (length l.commands - l.command-index) ≤ vec_capacity l.replies)
    × (given : List Reply) × (l.replies.items ≡ l.fn.replies.items ++ given) × (length given ≡ l.command-index)
    × RunsCommandsSoFar g.row.C.Denot g.row.FP.Denot (key_order g.row.C g.C.UserCmp g.C.UserCmp-dict g.C.Cmp g.C.Cmp-dict) g.E.Env (format_of g.C.Cmp g.FP.FilterPolicy (compressors g.dyn-2).codings) l.name l.fn.env (opening_of g.C.Cmp g.FP.FilterPolicy (compressors g.dyn-2).codings l.fn.opt) (take l.command-index l.commands) given (map snapshot_of l.taken.items) l.engine l.env
    × TimeGoesOn g.E.Env l.fn.env l.env
    × CallsInTurn g.E.Env (choices_of g.C.Cmp g.FP.FilterPolicy (key_order g.row.C g.C.UserCmp g.C.UserCmp-dict g.C.Cmp g.C.Cmp-dict) (key_policy g.row.FP g.FP.FilterPolicy g.FP.FilterPolicy-dict) (compressors g.dyn-2).codings)
    l.initial.engine l.initial.env [] (take l.command-index l.commands) given l.engine l.env l.taken.items
