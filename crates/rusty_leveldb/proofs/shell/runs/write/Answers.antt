-- Refused by the mode, a batch that isn't made, or what the engine's write returned.
use Rattle.std.proofs.Common.{subst}
use Rattle.std.specs.Prelude.{map}
use Rattle.std.proofs.lemmas.Result.{err_from_is_err_and}
use Rattle.leveldb_base.specs.contracts.cmp.internal.InternalKeyCmpCmp.TheImpl.{ghosts as key_order}
use Rattle.leveldb_env.specs.contracts.compressor.CompressorListCompressors.TheImpl.{ghosts as compressors}
use Rattle.leveldb_env.specs.contracts.filter.internal.InternalFilterPolicyFilterPolicy.TheImpl.{ghosts as key_policy}
use Rattle.leveldb_store.specs.Tables.BuildTable.{choices_of}
use Rattle.rusty_leveldb.specs.Engines.Calls.{EngineWrites}
use Rattle.rusty_leveldb.specs.Programs.Shell.{change_of}
use Rattle.rusty_leveldb.proofs.Engines.CallsLemmas.{refused_writes}
use Rattle.rusty_leveldb.proofs.Engines.WriteCallLemmas.{unmade_serves}
use Rattle.rusty_leveldb.proofs.shell.runs.write.Goals as goal

pub returns-in_err-check_writable : goal.returns-in_err-check_writable
returns-in_err-check_writable g c =
    let p = err_from_is_err_and c.from_residual.result c.from_residual.ensures.1 in
    rw (p.1, p.2) (refused_writes g.E.Env _ c.args.engine.now c.in_err-check_writable.field-0.0
    c.args.env.now c.in_err-check_writable.ensures.cause (map change_of c.args.items.now) c.args.sync)

pub returns-in_err-batch : goal.returns-in_err-batch
returns-in_err-batch g c =
    let p = err_from_is_err_and c.from_residual-in_err-batch.result c.from_residual-in_err-batch.ensures.1 in
    rw (p.1, p.2) (unmade_serves g.E.Env _ c.args.engine.now c.args.env.now
    c.in_ok-check_writable.ensures.ok (map change_of c.args.items.now) c.args.sync
    c.in_err-batch.field-0.0 c.in_err-batch.ensures.cause)

pub returns : goal.returns
returns g c =
    let keys = key_order g.row.C g.C.UserCmp g.C.UserCmp-dict g.C.Cmp g.C.Cmp-dict in
    let key_filters = key_policy g.row.FP g.FP.FilterPolicy g.FP.FilterPolicy-dict in
    subst (λ items. EngineWrites g.E.Env
    (choices_of g.C.Cmp g.FP.FilterPolicy keys key_filters (compressors g.dyn-2).codings)
    c.args.engine.now c.args.env.now items c.args.sync c.write.result c.write.new.self c.write.new.env)
    c.in_ok-batch.ensures.ok c.write.ensures
