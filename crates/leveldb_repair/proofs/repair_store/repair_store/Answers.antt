use Rattle.std.proofs.Common.{refl}
use Rattle.std.proofs.lemmas.Result.{err_from_is_err_and}
use Rattle.leveldb_base.proofs.HistoryLemmas.{exact_order}
use Rattle.leveldb_repair.proofs.RepairChildrenLemmas.{found_keys}
use Rattle.leveldb_repair.proofs.RepairWholeLemmas.{no_memory, no_numbers, not_found, whole}
use Rattle.leveldb_repair.proofs.repair_store.repair_store.Goals as goal

pub returns-in_err-found : goal.returns-in_err-found
returns-in_err-found g c =
    let failed = err_from_is_err_and c.from_residual.result c.from_residual.ensures.1 in
    rw (failed.1, failed.2) (not_found _ g.E.Env g.C.Cmp _ _ c.args.store.now c.in_err-found.ensures)

pub returns-in_err-versions : goal.returns-in_err-versions
returns-in_err-versions g c =
    let failed = err_from_is_err_and c.from_residual-in_err-versions.result c.from_residual-in_err-versions.ensures.1 in
    rw (failed.1, failed.2) (no_numbers _ g.E.Env g.C.Cmp _ _ c.args.store.now c.in_ok-found.ensures c.in_err-versions.ensures.cause)

pub returns-in_err-children : goal.returns-in_err-children
returns-in_err-children g c =
    let failed = err_from_is_err_and c.from_residual-in_err-children.result c.from_residual-in_err-children.ensures.1 in
    rw (failed.1, failed.2) (no_memory _ g.E.Env g.C.Cmp _ _ c.args.store.now c.in_ok-found.ensures c.in_err-children.ensures.memory)

pub returns : goal.returns
returns g c =
    let cmp = c.args.options.now.cmp in
    let exact = exact_order (g.C.Cmp.accepts cmp) (g.C.Cmp.cmp cmp) (g.met.C.UserCmp.accepts_all cmp) (g.met.C.Cmp.preorder cmp) (g.met.C.UserCmp.exact cmp) in
    let children = c.in_ok-children.ensures.ok in
    whole _ g.E.Env g.C.Cmp _ _ c.args.store.now _ (λ it after status failed. failed) (found_keys g.C.Cmp g.met.C.UserCmp.accepts_all) exact refl c.in_ok-found.ensures _ refl refl refl children.0
    children.1 (rw c.as_slice.ensures.value at children.2) c.restore_walks.ensures
