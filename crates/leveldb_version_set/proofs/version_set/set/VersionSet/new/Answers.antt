use Rattle.std.proofs.Common.{ap, sym, subst}
use Rattle.leveldb_version_set.specs.Sets.CurrentVersion.{IsCurrent}
use Rattle.leveldb_version_set.proofs.Sets.CurrentVersionLemmas.{none_current}
use Rattle.leveldb_version_set.proofs.version_set.set.VersionSet.new.Goals as goal

pub invariant_of-result : goal.invariant_of-result
invariant_of-result g c =
    subst (λ v. IsCurrent (g.C.Cmp.cmp v.cmp) v.cmp c.in_ok-files.files v) (sym c.new-current.ensures)
    (none_current (ap (λ set. set.full.added) c.in_ok-files.ensures.ok))
