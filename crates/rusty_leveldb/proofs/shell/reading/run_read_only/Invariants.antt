use Rattle.std.proofs.Common.{◌≡◌, ◌≤◌, ◌++◌, ◌+◌, ◌-◌, List, length, take, vec_len, vec_capacity}
use Rattle.leveldb_base.specs.contracts.cmp.internal.InternalKeyCmpCmp.TheImpl.{ghosts as key_order}
use Rattle.leveldb_env.specs.contracts.compressor.CompressorListCompressors.TheImpl.{ghosts as compressors}
use Rattle.leveldb_files.specs.Stores.Format.{format_of}
use Rattle.rusty_leveldb.specs.declared.shell.commands.Reply.{Reply}
use Rattle.rusty_leveldb.proofs.Programs.RunAloneLemmas.{ReadsSoFar}
use Rattle.rusty_leveldb.proofs.shell.reading.run_read_only.Given as goal

abbrev pub invariant-loop-command : goal.invariant-loop-command
invariant-loop-command g l =
    (vec_len l.replies + (length l.commands - l.command-index) ≤ vec_capacity l.replies)
    × (given : List Reply) × (l.replies.items ≡ l.fn.replies.items ++ given)
    × (length given ≡ l.command-index)
    × ReadsSoFar (key_order g.row.C g.C.UserCmp g.C.UserCmp-dict g.C.Cmp g.C.Cmp-dict)
    g.E.Env (format_of g.C.Cmp g.FP.FilterPolicy (compressors g.dyn-2).codings) l.initial.engine
    l.initial.env (take l.command-index l.commands) given l.engine l.env
    × (g.E.Env.failures l.initial.env ≤ g.E.Env.failures l.env)
