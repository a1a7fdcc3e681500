use Rattle.std.proofs.Common.{Bool, ap, subst, sym}
use Rattle.leveldb_version_set.specs.Sets.CurrentVersion.{IsCurrent}
use Rattle.leveldb_version.specs.Versions.Version.{VersionValue, charged}
use Rattle.leveldb_version_set.proofs.Sets.CurrentVersionLemmas.{charged_cmp, charged_current, with_version}
use Rattle.leveldb_version_set.proofs.version_set.set.VersionSet.update_stats.Goals as goal

pub invariant_of-self : goal.invariant_of-self
invariant_of-self g c =
    let files = c.self.inside.files in
    let version = c.self.inside.current in
    let charge = c.args.stats.file in
    subst (λ (v : VersionValue g.row.C.Denot). IsCurrent (g.C.Cmp.cmp v.cmp) v.cmp files v) (sym (ap (λ (p : VersionValue g.row.C.Denot × Bool). p.0) c.update_stats.ensures))
    (subst (λ k. IsCurrent (g.C.Cmp.cmp k) k files (charged version charge).0) (sym (charged_cmp version charge))
    (charged_current version.cmp files version c.self.invariant charge))

pub returns-clause-version : goal.returns-clause-version
returns-clause-version g c =
    rw (← c.self.view_is)
    (ap (λ (p : VersionValue g.row.C.Denot × Bool). with_version c.self.inside.files p.0) c.update_stats.ensures)

pub returns-clause-chosen : goal.returns-clause-chosen
returns-clause-chosen g c =
    rw (← c.self.view_is) (ap (λ (p : VersionValue g.row.C.Denot × Bool). p.1) c.update_stats.ensures)
