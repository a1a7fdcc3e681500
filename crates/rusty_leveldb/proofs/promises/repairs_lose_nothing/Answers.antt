use Rattle.leveldb_store.proofs.Tables.BuildTableLemmas.{built_of_store}
use Rattle.rusty_leveldb.proofs.Repairs.RepairLawsLemmas.{crash_loses_nothing, nothing_lost}
use Rattle.rusty_leveldb.proofs.promises.repairs_lose_nothing.Goals as goal

pub returns-clause-after : goal.returns-clause-after
returns-clause-after g c =
    let cmp = c.args.options.now.cmp in
    nothing_lost g.E.Env _ (λ pairs bytes built meaning known. built_of_store _ (g.met.C.Cmp.preorder cmp) (g.met.C.UserCmp.accepts_all cmp) (g.met.C.UserCmp.exact cmp) (g.C.Cmp.shortest_sep cmp) (g.met.C.Cmp.separates cmp)
    (g.FP.FilterPolicy.matches c.args.options.now.filter_policy) built meaning known)

pub returns-clause-crash : goal.returns-clause-crash
returns-clause-crash g c =
    let cmp = c.args.options.now.cmp in
    crash_loses_nothing g.E.Env _ (λ pairs bytes built meaning known. built_of_store _ (g.met.C.Cmp.preorder cmp) (g.met.C.UserCmp.accepts_all cmp) (g.met.C.UserCmp.exact cmp) (g.C.Cmp.shortest_sep cmp) (g.met.C.Cmp.separates cmp)
    (g.FP.FilterPolicy.matches c.args.options.now.filter_policy) built meaning known) g.met.E.Env.only_now
