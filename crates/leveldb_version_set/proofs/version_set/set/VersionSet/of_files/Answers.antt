use Rattle.std.proofs.Common.{subst, sym}
use Rattle.leveldb_version_set.specs.Sets.CurrentVersion.{IsCurrent}
use Rattle.leveldb_version_set.proofs.Sets.CurrentVersionLemmas.{made_current}
use Rattle.leveldb_version_set.proofs.version_set.set.VersionSet.of_files.Goals as goal

pub invariant_of-result : goal.invariant_of-result
invariant_of-result g c =
    let made = c.in_ok-current.ensures.ok in
    subst (λ k. IsCurrent (g.C.Cmp.cmp k) k c.args.live c.in_ok-current.current) (sym made.cmp_is)
    (made_current (g.C.Cmp.cmp c.args.cmp) c.args.cmp c.args.live c.files.result.now c.in_ok-current.current made c.files.ensures c.in_ok-current.ensures.fit)
