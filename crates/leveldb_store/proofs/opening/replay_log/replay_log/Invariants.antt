use Rattle.leveldb_base.specs.contracts.cmp.internal.InternalKeyCmpCmp.TheImpl.{ghosts as key_order}
use Rattle.leveldb_env.specs.contracts.compressor.CompressorListCompressors.TheImpl.{ghosts as compressors}
use Rattle.leveldb_env.specs.contracts.filter.internal.InternalFilterPolicyFilterPolicy.TheImpl.{ghosts as key_policy}
use Rattle.leveldb_store.specs.Tables.BuildTable.{choices_of}
use Rattle.leveldb_store.proofs.Logs.ReplayStoreLemmas.{Replaying}
use Rattle.leveldb_store.proofs.opening.replay_log.replay_log.Given as goal

-- the batches that were read are replayed
abbrev pub invariant-batches : goal.invariant-batches
invariant-batches g l =
    let keys = key_order g.row.C g.C.UserCmp g.C.UserCmp-dict g.C.Cmp g.C.Cmp-dict in
    let key_filters = key_policy g.row.FP g.FP.FilterPolicy g.FP.FilterPolicy-dict in
    Replaying g.E.Env (choices_of g.C.Cmp g.FP.FilterPolicy keys key_filters (compressors g.dyn-2).codings l.options) l.options.write_buffer_size
    l.fn.versions l.fn.last l.fn.number l.fn.env l.options.cmp l.replayed l.log l.versions l.env

abbrev pub decreases-batches : goal.decreases-batches
decreases-batches g l = l.log.left
