use Rattle.std.proofs.Common.{◌≡◌, ◌∙◌, ap, false, map, subst, sym, true, refl}
use Rattle.std.specs.Prelude.{◌≢◌, IsTrue, string_bytes}
use Rattle.std.proofs.lemmas.Result.{err_from_is_err_and}
use Rattle.leveldb_env.proofs.EnvLemmas.{Run-call, Run-mono}
use Rattle.leveldb_env.specs.Env.{ListsChildren}
use Rattle.leveldb_version_set.specs.Sets.VersionSetValue.{broken}
use Rattle.leveldb_store.proofs.Keeping.OpenTablesLemmas.{no_removal, removal_then}
use Rattle.leveldb_store.proofs.Keeping.RemoveLemmas.{RemovesObsolete-after, RemovesObsolete-unlisted, none_removed, removal_keeps, removing_after}
use Rattle.leveldb_store.proofs.Writing.Level0TableLemmas.{keeps_nothing}
use Rattle.leveldb_store.proofs.open_store.OpenStore.remove_obsolete.Goals as goal

pub returns-in_err-names-clause-keeps : goal.returns-in_err-names-clause-keeps
returns-in_err-names-clause-keeps g c = λ modelled meaning allowed w.
    let old = c.args.self.now in
    let from = g.E.Env.observed c.args.env.now in
    let to = g.E.Env.observed c.children.new.self in
    removal_keeps (g.C.Cmp.cmp old.cmp) meaning (λ store. IsTrue (allowed store)) old from to
    (Run-mono (λ files same. none_removed old.set old.kept_to from.disk.files files same) (Run-call modelled c.in_err-names.ensures.does)) w

pub returns-in_err-names-clause-removes : goal.returns-in_err-names-clause-removes
returns-in_err-names-clause-removes g c =
    let set = c.args.self.now.set in
    let failed = err_from_is_err_and c.from_residual-in_err-names.result c.from_residual-in_err-names.ensures.1 in
    let same_set : c.self.inside.versions.set ≡ set = ap (λ v. v.set) c.self.view_is in
    let usable : set.manifest ≢ broken = λ is. let never : false ≡ true = c.if-is_broken.ensures.1 (ap (λ v. v.manifest) same_set ∙ is) in cc in
    let folder : c.deref.result.now ≡ set.store = c.deref.ensures ∙ sym c.self.invariant.0 ∙ ap (λ v. v.store) same_set in
    rw (failed.1, failed.2) (RemovesObsolete-unlisted g.E.Env set c.args.self.now.kept_to c.args.env.now usable c.children.new.self _ (λ modelled. Run-call modelled c.in_err-names.ensures.does) c.in_err-names.ensures.locks
    (rw folder at c.in_err-names.ensures.cause))

pub returns-clause-removes : goal.returns-clause-removes
returns-clause-removes g c =
    let set = c.args.self.now.set in
    let from = c.args.env.now in
    let mid = c.children.new.self in
    let same_set : c.self.inside.versions.set ≡ set = ap (λ v. v.set) c.self.view_is in
    let usable : set.manifest ≢ broken = λ is. let never : false ≡ true = c.if-is_broken.ensures.1 (ap (λ v. v.manifest) same_set ∙ is) in cc in
    let folder : c.deref.result.now ≡ set.store = c.deref.ensures ∙ sym c.self.invariant.0 ∙ ap (λ v. v.store) same_set in
    let listed : IsTrue g.E.Env.models_disk → ListsChildren (g.E.Env.observed from).disk.files set.store (map string_bytes c.deref-2.result.now) = λ modelled.
    subst (λ s. ListsChildren (g.E.Env.observed from).disk.files s (map string_bytes c.deref-2.result.now)) folder
    (subst (λ items. ListsChildren (g.E.Env.observed from).disk.files c.deref.result.now (map string_bytes items)) (sym c.deref-2.ensures.value) (c.in_ok-names.ensures.ok modelled)) in
    RemovesObsolete-after g.E.Env set c.args.self.now.kept_to from usable mid (λ modelled. Run-call modelled c.in_ok-names.ensures.does) c.in_ok-names.ensures.cause.ok (map string_bytes c.deref-2.result.now) listed
    c.remove_all.result c.remove_all.new.env c.remove_all.ensures.removes c.in_ok-names.ensures.locks

pub returns-clause-keeps : goal.returns-clause-keeps
returns-clause-keeps g c = λ modelled meaning allowed w.
    let old = c.args.self.now in
    let from = g.E.Env.observed c.args.env.now in
    let mid = g.E.Env.observed c.children.new.self in
    let to = g.E.Env.observed c.remove_all.new.env in
    removal_keeps (g.C.Cmp.cmp old.cmp) meaning (λ store. IsTrue (allowed store)) old from to
    (removing_after old.set old.kept_to from mid to (Run-call modelled c.in_ok-names.ensures.does) (c.remove_all.ensures.removes.run modelled)) w

pub returns-clause-closes : goal.returns-clause-closes
returns-clause-closes g c =
    removal_then g.E.Env c.args.self.now.set
    (no_removal g.E.Env c.args.self.now.set c.args.env.now c.children.new.self c.args.tables.now (λ modelled. (Run-call modelled c.in_ok-names.ensures.does).has))
    c.remove_all.ensures.closes

pub returns-then-is_broken-clause-closes : goal.returns-then-is_broken-clause-closes
returns-then-is_broken-clause-closes g c = no_removal g.E.Env c.args.self.now.set c.args.env.now c.args.env.now c.args.tables.now (λ modelled. refl)

pub returns-then-is_broken-clause-keeps : goal.returns-then-is_broken-clause-keeps
returns-then-is_broken-clause-keeps g c = λ modelled meaning. keeps_nothing (g.C.Cmp.cmp c.args.self.now.cmp) meaning c.args.self.now (g.E.Env.observed c.args.env.now)

pub returns-in_err-live-clause-closes : goal.returns-in_err-live-clause-closes
returns-in_err-live-clause-closes g c = no_removal g.E.Env c.args.self.now.set c.args.env.now c.args.env.now c.args.tables.now (λ modelled. refl)

pub returns-in_err-live-clause-keeps : goal.returns-in_err-live-clause-keeps
returns-in_err-live-clause-keeps g c = λ modelled meaning. keeps_nothing (g.C.Cmp.cmp c.args.self.now.cmp) meaning c.args.self.now (g.E.Env.observed c.args.env.now)

pub returns-in_err-names-clause-closes : goal.returns-in_err-names-clause-closes
returns-in_err-names-clause-closes g c = no_removal g.E.Env c.args.self.now.set c.args.env.now c.children.new.self c.args.tables.now (λ modelled. (Run-call modelled c.in_err-names.ensures.does).has)
