use Rattle.std.proofs.Common.{rules}
use Rattle.leveldb_base.specs.CmpLaws.{total_order}
use Rattle.leveldb_version.proofs.Versions.VersionLemmas.{sorted_by_closure, version_total}
use Rattle.leveldb_version.proofs.version.order.sort_files.Goals as goal

pub returns-clause-in_order : goal.returns-clause-in_order
returns-clause-in_order g c =
    sorted_by_closure (version_total (total_order (g.met.C.Cmp.preorder c.args.ucmp.now) (g.met.C.UserCmp.accepts_all c.args.ucmp.now)))
    _ (c.in_ok-sort_by.ensures.sorted) (λ a r q k. search rules)
