-- A closed store, no memory, or the snapshot that was given out.
use Rattle.std.proofs.Common.{rules, ◌≡◌, ◌++◌, ◌∷◌, [], inl, refl}
use Rattle.std.proofs.lemmas.Result.{err_from_is_err_and}
use Rattle.leveldb_base.specs.contracts.cmp.internal.InternalKeyCmpCmp.TheImpl.{ghosts as key_order}
use Rattle.leveldb_env.specs.contracts.compressor.CompressorListCompressors.TheImpl.{ghosts as compressors}
use Rattle.leveldb_env.specs.contracts.filter.internal.InternalFilterPolicyFilterPolicy.TheImpl.{ghosts as key_policy}
use Rattle.leveldb_store.specs.Tables.BuildTable.{choices_of}
use Rattle.rusty_leveldb.proofs.Engines.SnapshotLemmas.{closed_gives, gives_none}
use Rattle.rusty_leveldb.proofs.shell.views.take.Goals as goal

pub returns-in_err-check_not_closed-clause-err : goal.returns-in_err-check_not_closed-clause-err
returns-in_err-check_not_closed-clause-err g c =
    let keys = key_order g.row.C g.C.UserCmp g.C.UserCmp-dict g.C.Cmp g.C.Cmp-dict in
    let key_filters = key_policy g.row.FP g.FP.FilterPolicy g.FP.FilterPolicy-dict in
    let choices = choices_of g.C.Cmp g.FP.FilterPolicy keys key_filters (compressors g.dyn-2).codings in
    let p = err_from_is_err_and c.from_residual.result c.from_residual.ensures.1 in
    rw (p.1, p.2) (
      refl,
      λ at. closed_gives g.E.Env choices c.args.engine.now c.in_err-check_not_closed.field-0.0 at
          c.in_err-check_not_closed.ensures.cause,
    )

pub returns-in_err-reserve-clause-err : goal.returns-in_err-reserve-clause-err
returns-in_err-reserve-clause-err g c =
    let keys = key_order g.row.C g.C.UserCmp g.C.UserCmp-dict g.C.Cmp g.C.Cmp-dict in
    let key_filters = key_policy g.row.FP g.FP.FilterPolicy g.FP.FilterPolicy-dict in
    let choices = choices_of g.C.Cmp g.FP.FilterPolicy keys key_filters (compressors g.dyn-2).codings in
    let p = err_from_is_err_and c.from_residual-in_err-reserve.result c.from_residual-in_err-reserve.ensures.1 in
    rw p.1 (
      c.reserve.ensures.items,
      λ at. gives_none g.E.Env choices c.args.engine.now c.in_ok-check_not_closed.ensures.ok p.0 at
          (inl p.2),
    )

pub returns-in_err-snapshot-clause-err : goal.returns-in_err-snapshot-clause-err
returns-in_err-snapshot-clause-err g c =
    let p = err_from_is_err_and c.from_residual-in_err-snapshot.result c.from_residual-in_err-snapshot.ensures.1 in
    rw (p.1, p.2) (c.reserve.ensures.items, λ at. c.in_err-snapshot.ensures at)

pub returns-clause-ok : goal.returns-clause-ok
returns-clause-ok g c =
    let one = c.in_ok-snapshot.snapshot in
    let pushed : c.push.new.self.items ≡ c.args.taken.now.items ++ one ∷ [] = search rules in (
      search rules,
      one,
      pushed,
      λ at. c.in_ok-snapshot.ensures at,
    )
