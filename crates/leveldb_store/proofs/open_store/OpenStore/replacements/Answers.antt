use Rattle.std.proofs.Common.{◌≡◌, ◌∷◌, ◌++◌, ◌∙◌, [], ap, rules, subst, sym}
use Rattle.leveldb_base.proofs.HistoryLemmas.{exact_order}
use Rattle.leveldb_version_set.specs.Sets.CurrentVersion.{IsCurrent}
use Rattle.leveldb_store.specs.Compactions.Compact.{IsMovedAlone}
use Rattle.leveldb_store.specs.Keeping.OpenStore.{AreInLevels, AreNumbersGiven}
use Rattle.leveldb_store.proofs.Keeping.CurrentVersionLemmas.{current_by}
use Rattle.leveldb_store.proofs.Compactions.MergedInputsLemmas.{of_store}
use Rattle.leveldb_store.proofs.Compactions.MovedFileLemmas.{replaced_by_move}
use Rattle.leveldb_store.proofs.open_store.OpenStore.replacements.Goals as goal

pub returns-in-Some : goal.returns-in-Some
returns-in-Some g c =
    let cmp = c.args.options.now.cmp in
    let store = c.args.self.now in
    let exact = exact_order (g.C.Cmp.accepts cmp) (g.C.Cmp.cmp cmp) (g.met.C.UserCmp.accepts_all cmp) (g.met.C.Cmp.preorder cmp) (g.met.C.UserCmp.exact cmp) in
    let current : IsCurrent (g.C.Cmp.cmp store.cmp) store.cmp store.set store.current = rw (← c.self.view_is) (current_by g.C.Cmp c.self.invariant.8 c.current-version.ensures.current) in
    let given : AreNumbersGiven store.set store.set.full.added = rw (← c.self.view_is) c.self.invariant.9 in
    let levels : AreInLevels g.E.Env.models_disk (g.C.Cmp.cmp store.cmp) store.set.full.added = rw (← c.self.view_is) c.self.invariant.10 in
    let of = of_store g.C.Cmp c.requires.order current given levels c.requires.chosen in
    let copy : c.in_ok-clone.field-0 ≡ c.in-Some.file.now = search rules in
    let made = c.in_ok-push.ensures.items ∙ ap (λ files. files ++ c.in_ok-clone.field-0 ∷ []) c.new-files.ensures.items ∙ ap (λ file. file ∷ []) copy in
    record {
      makes = replaced_by_move g.E.Env _ _ exact of c.args.smallest (λ files. files.items) c.args.env.now c.args.tables.now c.in-Some.file.now
          (subst (λ o. IsMovedAlone o c.args.compaction.now c.in-Some.file.now) (sym c.requires.order) c.in-Some.ensures.alone) c.push.new.self made;
    }
