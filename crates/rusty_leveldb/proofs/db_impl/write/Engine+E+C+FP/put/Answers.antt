-- Refused by the mode, a batch that isn't made, or what the write of the one change returned.
use Rattle.std.proofs.Common.{◌∷◌, [], Some, false, subst, inl}
use Rattle.std.proofs.lemmas.Result.{err_from_is_err_and}
use Rattle.leveldb_mem.specs.WriteBatch.{item_of}
use Rattle.leveldb_base.specs.contracts.cmp.internal.InternalKeyCmpCmp.TheImpl.{ghosts as key_order}
use Rattle.leveldb_env.specs.contracts.compressor.CompressorListCompressors.TheImpl.{ghosts as compressors}
use Rattle.leveldb_env.specs.contracts.filter.internal.InternalFilterPolicyFilterPolicy.TheImpl.{ghosts as key_policy}
use Rattle.leveldb_store.specs.Tables.BuildTable.{choices_of}
use Rattle.rusty_leveldb.specs.Engines.Calls.{EngineWrites}
use Rattle.rusty_leveldb.proofs.Engines.WriteCallLemmas.{one_change, unmade, unmade_serves}
use Rattle.rusty_leveldb.proofs.Engines.CallsLemmas.{refused_writes}
use Rattle.rusty_leveldb.proofs.db_impl.write.Engine+E+C+FP.put.Goals as goal

pub returns-in_err-check_open : goal.returns-in_err-check_open
returns-in_err-check_open g c =
    let p = err_from_is_err_and c.from_residual.result c.from_residual.ensures.1 in
    rw (p.1, p.2) (refused_writes g.E.Env _ c.args.self.now c.in_err-check_open.field-0.0
    c.args.env.now c.in_err-check_open.ensures.cause (item_of c.args.key.now (Some c.args.value.now) ∷ []) false)

pub returns-in_err-batch : goal.returns-in_err-batch
returns-in_err-batch g c =
    let p = err_from_is_err_and c.from_residual-in_err-batch.result
    c.from_residual-in_err-batch.ensures.1 in
    rw (p.1, p.2) (unmade_serves g.E.Env _ c.args.self.now c.args.env.now
    c.in_ok-check_open.ensures.ok ((item_of c.args.key.now (Some c.args.value.now)) ∷ []) false
    c.in_err-batch.field-0.0 (inl c.in_err-batch.ensures.memory))

pub returns-in_err-put : goal.returns-in_err-put
returns-in_err-put g c =
    let p = err_from_is_err_and c.from_residual-in_err-put.result
    c.from_residual-in_err-put.ensures.1 in
    rw (p.1, p.2) (unmade_serves g.E.Env _ c.args.self.now c.args.env.now
    c.in_ok-check_open.ensures.ok ((item_of c.args.key.now (Some c.args.value.now)) ∷ []) false
    c.in_err-put.field-0.0 (unmade c.in_ok-batch.batch (item_of c.args.key.now (Some c.args.value.now)) c.in_err-put.field-0.0
    c.in_ok-batch.ensures.ok c.in_err-put.ensures.cause c.in_err-put.ensures.too_long.0))

pub returns : goal.returns
returns g c =
    let keys = key_order g.row.C g.C.UserCmp g.C.UserCmp-dict g.C.Cmp g.C.Cmp-dict in
    let key_filters = key_policy g.row.FP g.FP.FilterPolicy g.FP.FilterPolicy-dict in
    subst (λ items. EngineWrites g.E.Env
    (choices_of g.C.Cmp g.FP.FilterPolicy keys key_filters (compressors g.dyn-2).codings)
    c.args.self.now c.args.env.now items false c.write.result c.write.new.self c.write.new.env)
    (one_change c.in_ok-batch.batch c.put.new.self (item_of c.args.key.now (Some c.args.value.now)) c.in_ok-batch.ensures.ok
    c.in_ok-put.ensures.ok) c.write.ensures
