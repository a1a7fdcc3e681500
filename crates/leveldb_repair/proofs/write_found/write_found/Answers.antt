use Rattle.leveldb_base.proofs.HistoryLemmas.{exact_order}
use Rattle.leveldb_store.proofs.Tables.BuildTableLemmas.{built_of_store}
use Rattle.leveldb_repair.proofs.WriteFoundLemmas.{all_written}
use Rattle.leveldb_repair.proofs.write_found.write_found.Goals as goal

pub returns-clause-writes : goal.returns-clause-writes
returns-clause-writes g c = λ leaves.
    let cmp = c.args.options.now.cmp in
    let exact = exact_order (g.C.Cmp.accepts cmp) (g.C.Cmp.cmp cmp) (g.met.C.UserCmp.accepts_all cmp) (g.met.C.Cmp.preorder cmp) (g.met.C.UserCmp.exact cmp) in
    all_written _ g.E.Env c.args.store.now c.args.versions.now.set.next_file exact
    (λ pairs bytes built meaning known. built_of_store _ (g.met.C.Cmp.preorder cmp) (g.met.C.UserCmp.accepts_all cmp) (g.met.C.UserCmp.exact cmp) (g.C.Cmp.shortest_sep cmp) (g.met.C.Cmp.separates cmp)
    (g.FP.FilterPolicy.matches c.args.options.now.filter_policy) built meaning known)
    g.W.Walk (λ files. files.items) c.merge_tables-written.result (c.merge_tables-written.ensures.merges leaves)
