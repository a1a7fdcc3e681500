use Rattle.std.proofs.Common.{◌∙◌, ap, length, map, subst, sym, ℕ}
use Rattle.std.specs.List.Sorted.{IsNonDecreasingBy}
use Rattle.leveldb_base.specs.declared.types.FileMetaData.{FileMetaData}
use Rattle.leveldb_version.specs.Versions.Version.{after_seek}
use Rattle.leveldb_version.proofs.Versions.VersionLemmas.{levels_rise, seeks_keep_order, seeks_keep_fit}
use Rattle.leveldb_version.proofs.version.Version.update_stats.Goals as goal

pub has_last_seek-requires : goal.has_last_seek-requires
has_last_seek-requires g c =
    subst (IsNonDecreasingBy (λ (file : ℕ × FileMetaData). file.0)) (sym c.as_slice.ensures.value)
    (levels_rise (g.C.Cmp.cmp c.self.inside.cmp) c.self.inside.files.items c.self.invariant.0)

pub take_seek-requires : goal.take_seek-requires
take_seek-requires g c =
    subst (IsNonDecreasingBy (λ (file : ℕ × FileMetaData). file.0)) (sym c.deref_mut.ensures.value)
    (levels_rise (g.C.Cmp.cmp c.self.inside.cmp) c.self.inside.files.items c.self.invariant.0)

pub invariant_of-self-2 : goal.invariant_of-self-2
invariant_of-self-2 g c = (
  seeks_keep_order (g.C.Cmp.cmp c.self.inside.cmp) c.in-Some.file c.self.inside.files.items c.take_seek.new.files c.self.inside.files.len
      c.self.invariant.0 (c.take_seek.ensures ∙ ap (λ files. map (after_seek c.in-Some.file) files) c.deref_mut.ensures.value)
      (sym c.deref_mut.ensures.len ∙ ap length c.deref_mut.ensures.value),
  seeks_keep_fit c.in-Some.file c.self.inside.files.items c.take_seek.new.files c.self.inside.files.len
      c.self.invariant.1 (c.take_seek.ensures ∙ ap (λ files. map (after_seek c.in-Some.file) files) c.deref_mut.ensures.value)
      (sym c.deref_mut.ensures.len ∙ ap length c.deref_mut.ensures.value),
)
