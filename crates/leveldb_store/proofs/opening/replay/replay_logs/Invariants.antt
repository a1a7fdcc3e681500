use Rattle.std.proofs.Common.{◌≡◌, ◌≤◌, ◌∷◌, ◌++◌, List, None, [], length, ℕ}
use Rattle.std.specs.Prelude.{IfSome, IsSome, IsTrue}
use Rattle.leveldb_base.specs.contracts.cmp.internal.InternalKeyCmpCmp.TheImpl.{ghosts as key_order}
use Rattle.leveldb_env.specs.contracts.compressor.CompressorListCompressors.TheImpl.{ghosts as compressors}
use Rattle.leveldb_env.specs.contracts.filter.internal.InternalFilterPolicyFilterPolicy.TheImpl.{ghosts as key_policy}
use Rattle.leveldb_store.specs.Tables.BuildTable.{choices_of}
use Rattle.leveldb_store.specs.Logs.ReplayLog.{IsUnusable}
use Rattle.leveldb_store.proofs.Logs.ReplayLoopLemmas.{IsReplaying}
use Rattle.leveldb_store.proofs.opening.replay.replay_logs.Given as goal

-- the logs before these are replayed
abbrev pub invariant-loop-number : goal.invariant-loop-number
invariant-loop-number g l =
    let keys = key_order g.row.C g.C.UserCmp g.C.UserCmp-dict g.C.Cmp g.C.Cmp-dict in
    let key_filters = key_policy g.row.FP g.FP.FilterPolicy g.FP.FilterPolicy-dict in
    record {
      replaying : IsReplaying g.E.Env (choices_of g.C.Cmp g.FP.FilterPolicy keys key_filters (compressors g.dyn-2).codings l.options) l.options.write_buffer_size l.fn.versions l.fn.logs.keys l.fn.env l.replay l.logs.keys l.versions l.env;
      used : IsSome l.replay.used → IsTrue l.options.reuse_logs;
      unused : l.logs.keys ≡ [] → IsTrue l.options.reuse_logs → l.replay.used ≡ None → IsTrue g.E.Env.models_disk → (front : List ℕ) (number : ℕ) → l.fn.logs.keys ≡ front ++ number ∷ []
          → l.fn.versions.log_number ≤ number → IsUnusable l.options.write_buffer_size l.fn.versions.store (g.E.Env.observed l.fn.env).disk.files number;
      order : IfSome l.replay.used (λ used. used.entries.cmp ≡ l.options.cmp);
    }

abbrev pub decreases-loop-number : goal.decreases-loop-number
decreases-loop-number g l = length l.logs.keys
