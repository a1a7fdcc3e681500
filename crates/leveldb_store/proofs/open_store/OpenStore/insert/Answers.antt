use Rattle.std.proofs.Common.{◌≡◌, ◌∙◌, ◌+◌, ◌<◌, ap, arith, length, subst, sym}
use Rattle.leveldb_base.specs.History.{AreUpTo, greatest, placed}
use Rattle.leveldb_mem.proofs.EntryLemmas.{new_after}
use Rattle.leveldb_version_set.specs.Sets.CurrentVersion.{VersionsValue}
use Rattle.leveldb_files.specs.Edits.Edit.{Edit}
use Rattle.leveldb_version_set.specs.Sets.VersionSetValue.{VersionSetValue}
use Rattle.leveldb_store.proofs.Keeping.GivenNumbersLemmas.{live_given}
use Rattle.leveldb_store.specs.Keeping.OpenStore.{AreInLevels, HasOwnManifest}
use Rattle.leveldb_store.proofs.Writing.WriteLemmas.{greatest_below, inserted_up_to}
use Rattle.leveldb_store.proofs.open_store.OpenStore.insert.Goals as goal

pub insert_prepared-requires-clause-numbered : goal.insert_prepared-requires-clause-numbered
insert_prepared-requires-clause-numbered g c =
    let last = c.args.self.now.set.last_sequence in
    let items = c.args.batch.now.items in
    let first : c.sequence.result ≡ last + 1 = c.sequence.ensures ∙ c.requires.first in
    let below = greatest_below last items in
    subst (λ n. greatest (placed n items) < 72057594037927936) (sym first) (omega (arith, below, c.requires.numbers.1))

pub insert_prepared-requires-clause-new : goal.insert_prepared-requires-clause-new
insert_prepared-requires-clause-new g c =
    let last = c.args.self.now.set.last_sequence in
    let same = ap (λ v. v.set.last_sequence) c.self.view_is in
    let first : c.sequence.result ≡ last + 1 = c.sequence.ensures ∙ c.requires.first in
    new_after c.self.inside.versions.set.last_sequence c.self.inside.mem.kept.entries c.sequence.result c.args.batch.now.items c.self.invariant.6 (omega (arith, first, same))

pub invariant_of-self : goal.invariant_of-self
invariant_of-self g c =
    let is = c.self.invariant in
    let versions = c.set_last_seq.ensures in
    let set = ap (λ (v : VersionsValue g.row.C.Denot). v.set) versions in
    let same = ap (λ v. v.set.last_sequence) c.self.view_is in
    let now : c.set_last_seq.new.self.set.last_sequence ≡ c.self.inside.versions.set.last_sequence + length c.args.batch.now.items =
    ap (λ (s : VersionSetValue). s.last_sequence) set ∙ omega arith in
    let first : c.sequence.result ≡ c.self.inside.versions.set.last_sequence + 1 = c.sequence.ensures ∙ c.requires.first ∙ ap (λ n. n + 1) (sym same) in (
      ap (λ (s : VersionSetValue). s.store) set ∙ is.0,
      is.1,
      c.insert_prepared.ensures.cmp ∙ is.2,
      is.3,
      λ modelled. subst HasOwnManifest (sym set) (is.4 modelled),
      λ e. is.5 (sym (ap (λ (s : VersionSetValue). s.manifest) set) ∙ e),
      subst (λ n. AreUpTo n c.insert_prepared.new.self.kept.entries) (sym now)
          (inserted_up_to c.self.inside.versions.set.last_sequence c.self.inside.mem.kept.entries c.sequence.result c.args.batch.now.items
          c.insert_prepared.new.self.kept.entries is.6 first c.insert_prepared.ensures.adds.gains),
      is.7,
      ap (λ (v : VersionsValue g.row.C.Denot). v.current.cmp) versions ∙ is.8,
      live_given c.self.inside.versions.set c.set_last_seq.new.self.set (ap (λ (s : VersionSetValue). s.full) set) (omega (arith, ap (λ (s : VersionSetValue). s.next_file) set)) is.9,
      subst (λ (full : Edit). AreInLevels g.E.Env.models_disk (g.C.Cmp.cmp c.self.inside.cmp) full.added) (sym (ap (λ (s : VersionSetValue). s.full) set)) is.10,
    )
