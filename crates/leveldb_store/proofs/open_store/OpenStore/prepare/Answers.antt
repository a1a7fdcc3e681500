use Rattle.std.proofs.Common.{◌∙◌, subst, sym}
use Rattle.leveldb_base.specs.History.{AreUpTo}
use Rattle.leveldb_store.proofs.open_store.OpenStore.prepare.Goals as goal

pub invariant_of-self : goal.invariant_of-self
invariant_of-self g c =
    let is = c.self.invariant in
    (is.0, is.1, c.prepare.ensures.cmp ∙ is.2, is.3, is.4, is.5, subst (AreUpTo c.self.inside.versions.set.last_sequence) (sym c.prepare.ensures.kept.entries) is.6, is.7, is.8, is.9, is.10)

pub invariant_of-self-2 : goal.invariant_of-self-2
invariant_of-self-2 g c =
    let is = c.self.invariant in
    (is.0, is.1, c.prepare.ensures.cmp ∙ is.2, is.3, is.4, is.5, subst (AreUpTo c.self.inside.versions.set.last_sequence) (sym c.prepare.ensures.kept.entries) is.6, is.7, is.8, is.9, is.10)
