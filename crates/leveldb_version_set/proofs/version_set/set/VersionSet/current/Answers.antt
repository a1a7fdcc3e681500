use Rattle.std.proofs.Common.{subst}
use Rattle.leveldb_version_set.specs.Sets.CurrentVersion.{IsCurrent, VersionsValue}
use Rattle.leveldb_version_set.proofs.version_set.set.VersionSet.current.Goals as goal

pub returns-clause-current : goal.returns-clause-current
returns-clause-current g c =
    subst (λ (v : VersionsValue g.row.C.Denot). IsCurrent (g.C.Cmp.cmp v.current.cmp) v.current.cmp v.set v.current) c.self.view_is c.self.invariant
