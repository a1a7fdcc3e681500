use Rattle.std.specs.Prelude.{◌≢◌, IsTrue, string_bytes}
use Rattle.std.proofs.Common.{◌≡◌, ◌∙◌, ap, sym, subst}
use Rattle.leveldb_base.specs.History.{AreUpTo}
use Rattle.leveldb_version_set.proofs.Sets.CurrentVersionLemmas.{charged_cmp}
use Rattle.leveldb_version_set.specs.Sets.CurrentVersion.{VersionsValue}
use Rattle.leveldb_version_set.specs.Sets.VersionSetValue.{VersionSetValue, unmade}
use Rattle.leveldb_store.proofs.Keeping.CurrentVersionLemmas.{charged_store}
use Rattle.leveldb_store.specs.Keeping.OpenStore.{AreInLevels, AreNumbersGiven, HasOwnManifest}
use Rattle.leveldb_store.proofs.open_store.OpenStore.charge.Goals as goal

pub invariant_of-self : goal.invariant_of-self
invariant_of-self g c =
    let is = c.self.invariant in
    let inside = c.self.inside in
    let file = c.args.stats.file in
    let versions = c.update_stats.ensures.version in
    let same = sym (ap (λ (v : VersionsValue g.row.C.Denot). v.set) versions) in (
      subst (λ (s : VersionSetValue). s.store ≡ string_bytes inside.name) same is.0,
      is.1,
      is.2,
      is.3,
      subst (λ (s : VersionSetValue). IsTrue g.E.Env.models_disk → HasOwnManifest s) same is.4,
      subst (λ (s : VersionSetValue). s.manifest ≢ unmade) same is.5,
      subst (λ (s : VersionSetValue). AreUpTo s.last_sequence inside.mem.kept.entries) same is.6,
      is.7,
      ap (λ (v : VersionsValue g.row.C.Denot). v.current.cmp) versions ∙ charged_cmp inside.versions.current file ∙ is.8,
      subst (λ (s : VersionSetValue). AreNumbersGiven s s.full.added) same is.9,
      subst (λ (s : VersionSetValue). AreInLevels g.E.Env.models_disk (g.C.Cmp.cmp inside.cmp) s.full.added) same is.10,
    )

pub returns : goal.returns
returns g c =
    charged_store _ c.args.self.now c.self.view_is c.update_stats.new.self c.args.stats.file c.update_stats.ensures.version
