-- Refused by the mode, no room in the memtable, or what writing the batch returned.
use Rattle.std.proofs.Common.{Ok, ap, subst, sym}
use Rattle.std.proofs.lemmas.Result.{err_from_is_err_and}
use Rattle.leveldb_base.specs.contracts.cmp.internal.InternalKeyCmpCmp.TheImpl.{ghosts as key_order}
use Rattle.leveldb_env.specs.contracts.compressor.CompressorListCompressors.TheImpl.{ghosts as compressors}
use Rattle.leveldb_env.specs.contracts.filter.internal.InternalFilterPolicyFilterPolicy.TheImpl.{ghosts as key_policy}
use Rattle.leveldb_store.specs.Tables.BuildTable.{choices_of}
use Rattle.leveldb_files.specs.Stores.Format.{format_of}
use Rattle.rusty_leveldb.proofs.Engines.Batching.{not_too_long}
use Rattle.rusty_leveldb.proofs.Engines.WriteCallLemmas.{batch_serves, room_fails_serves}
use Rattle.rusty_leveldb.proofs.Engines.EngineLemmas.{follows_unbroken}
use Rattle.rusty_leveldb.specs.Engines.Room.{EngineMakesRoom}
use Rattle.rusty_leveldb.proofs.Engines.CallsLemmas.{refused_writes}
use Rattle.rusty_leveldb.proofs.db_impl.write.Engine+E+C+FP.write.Goals as goal

pub returns-in_err-check_open : goal.returns-in_err-check_open
returns-in_err-check_open g c =
    let p = err_from_is_err_and c.from_residual.result c.from_residual.ensures.1 in
    rw (p.1, p.2) (refused_writes g.E.Env _ c.args.self.now c.in_err-check_open.field-0.0
    c.args.env.now c.in_err-check_open.ensures.cause c.args.batch.items c.args.sync)

pub returns-in_err-make_room : goal.returns-in_err-make_room
returns-in_err-make_room g c =
    let p = err_from_is_err_and c.from_residual-in_err-make_room.result
    c.from_residual-in_err-make_room.ensures.1 in
    rw (p.1, p.2) (room_fails_serves g.E.Env _ c.args.self.now c.args.env.now
    c.in_ok-check_open.ensures.ok c.args.batch.items c.args.sync
    (λ a b is. ap (format_of g.C.Cmp g.FP.FilterPolicy (compressors g.dyn-2).codings) is.rest)
    (not_too_long c.contents.result.now c.args.batch.first c.args.batch.items c.contents.ensures)
    c.make_room.new.self c.make_room.new.env c.in_err-make_room.field-0.0
    c.in_err-make_room.ensures)

pub returns : goal.returns
returns g c =
    let keys = key_order g.row.C g.C.UserCmp g.C.UserCmp-dict g.C.Cmp g.C.Cmp-dict in
    let key_filters = key_policy g.row.FP g.FP.FilterPolicy g.FP.FilterPolicy-dict in
    let choices =
    choices_of g.C.Cmp g.FP.FilterPolicy keys key_filters (compressors g.dyn-2).codings in
    batch_serves g.E.Env choices c.args.self.now c.args.env.now
    c.in_ok-check_open.ensures.ok c.args.batch.items c.args.sync
    (λ a b is. ap (format_of g.C.Cmp g.FP.FilterPolicy (compressors g.dyn-2).codings) is.rest)
    (not_too_long c.contents.result.now c.args.batch.first c.args.batch.items c.contents.ensures)
    _ c.make_room.new.env (subst (λ e. EngineMakesRoom g.E.Env choices c.args.self.now
    c.args.env.now (Ok tt) e c.make_room.new.env) (sym c.self.view_is) c.in_ok-make_room.ensures) c.write_batch-written.new.self _ c.mode_by-self-inside.ensures
    c.write_batch-written.new.env c.write_batch-written.result c.write_batch-written.ensures.short
    c.write_batch-written.ensures.writes c.write_batch-written.ensures.sound

pub invariant_of-self : goal.invariant_of-self
invariant_of-self g c = follows_unbroken _ _ c.mode_by-self-inside.ensures
