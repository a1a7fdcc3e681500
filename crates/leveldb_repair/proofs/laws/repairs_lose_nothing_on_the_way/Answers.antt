use Rattle.leveldb_store.proofs.Tables.BuildTableLemmas.{built_of_store}
use Rattle.leveldb_repair.proofs.RepairPartsLemmas.{crashes_leave_found, moments_leave_found}
use Rattle.leveldb_repair.proofs.laws.repairs_lose_nothing_on_the_way.Goals as goal

pub returns-clause-meanwhile : goal.returns-clause-meanwhile
returns-clause-meanwhile g c = λ store.
    let cmp = c.args.options.now.cmp in
    moments_leave_found _ (λ pairs bytes built meaning known. built_of_store _ (g.met.C.Cmp.preorder cmp) (g.met.C.UserCmp.accepts_all cmp) (g.met.C.UserCmp.exact cmp) (g.C.Cmp.shortest_sep cmp) (g.met.C.Cmp.separates cmp)
    (g.FP.FilterPolicy.matches c.args.options.now.filter_policy) built meaning known) store

pub returns-clause-crash : goal.returns-clause-crash
returns-clause-crash g c = λ store.
    let cmp = c.args.options.now.cmp in
    crashes_leave_found _ (λ pairs bytes built meaning known. built_of_store _ (g.met.C.Cmp.preorder cmp) (g.met.C.UserCmp.accepts_all cmp) (g.met.C.UserCmp.exact cmp) (g.C.Cmp.shortest_sep cmp) (g.met.C.Cmp.separates cmp)
    (g.FP.FilterPolicy.matches c.args.options.now.filter_policy) built meaning known) store
