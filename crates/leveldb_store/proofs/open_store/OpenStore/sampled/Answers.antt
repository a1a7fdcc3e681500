-- The levels of the version are apart, as those of the live files are.
use Rattle.std.proofs.Common.{◌≡◌, ap, subst, sym}
use Rattle.leveldb_version.specs.Versions.Sampling.{ChargesForSample}
use Rattle.leveldb_version.specs.Versions.Search.{AreDisjointLevels}
use Rattle.leveldb_version.specs.Versions.Version.{VersionValue, new_files_of}
use Rattle.leveldb_store.proofs.Keeping.LevelsApartLemmas.{permuted_apart}
use Rattle.leveldb_store.proofs.open_store.OpenStore.sampled.Goals as goal

pub returns : goal.returns
returns g c =
    let cmp = g.C.Cmp.cmp c.self.inside.cmp in
    let versions = c.self.inside.versions in
    let same : g.C.Cmp.cmp versions.current.cmp ≡ cmp = ap g.C.Cmp.cmp c.self.invariant.8 in
    let apart : AreDisjointLevels cmp (new_files_of versions.current) =
    permuted_apart cmp versions.set.full.added (new_files_of versions.current)
    c.current.ensures.current.same_files c.self.invariant.10.apart in
    let given = subst (λ (v : VersionValue g.row.C.Denot).
    AreDisjointLevels (g.C.Cmp.cmp v.cmp) (new_files_of v)
    → ChargesForSample (g.C.Cmp.cmp v.cmp) c.args.key.now (new_files_of v) c.sampled.result)
    c.current.ensures.version c.sampled.ensures in
    rw (← c.self.view_is) (subst
    (λ o. ChargesForSample o c.args.key.now (new_files_of versions.current) c.sampled.result) same
    (given (subst (λ o. AreDisjointLevels o (new_files_of versions.current)) (sym same) apart)))
