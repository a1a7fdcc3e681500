use Rattle.std.proofs.Common.{◌≡◌, ◌∙◌, ap, false, inr, refl, subst, sym, true}
use Rattle.leveldb_env.proofs.EnvLemmas.{Run-call, SameBut-deleted}
use Rattle.leveldb_store.proofs.Keeping.OpenTablesLemmas.{other_removed, table_removed}
use Rattle.leveldb_store.proofs.Keeping.RemoveLemmas.{kept_name, not_obsolete_name}
use Rattle.std.specs.Prelude.{IsTrue}
use Rattle.leveldb_env.specs.Env.{SameBut, in_folder}
use Rattle.leveldb_version.specs.Tables.TableCache.{files_at}
use Rattle.leveldb_version_set.specs.Engines.Writing.{IsObsolete}
use Rattle.leveldb_store.proofs.open_store.OpenStore.remove_one.Goals.{else-is_table, then-is_table}
use Rattle.leveldb_store.proofs.open_store.OpenStore.remove_one.Goals as goal

pub returns-then-not-is_obsolete-clause-removes : goal.returns-then-not-is_obsolete-clause-removes
returns-then-not-is_obsolete-clause-removes g c = inr (
  not_obsolete_name c.args.self.now.set c.args.self.now.kept_to c.args.name.now c.in-Some.number c.in-Some.kind c.in-Some.ensures
      (λ obsolete. let never : false ≡ true = c.if-not-is_obsolete.ensures.1 obsolete in cc),
  refl,
  refl,
)

pub returns-then-is_kept-clause-removes : goal.returns-then-is_kept-clause-removes
returns-then-is_kept-clause-removes g c = inr (
  kept_name c.args.self.now.set c.args.self.now.kept_to c.args.name.now c.in-Some.number c.in-Some.kind c.in-Some.ensures
      (c.if-is_kept.ensures.0 refl),
  refl,
  refl,
)

pub returns-clause-closes : goal.returns-clause-closes
returns-clause-closes g c =
    let set = c.args.self.now.set in
    let from = c.args.env.now in
    let to = c.delete.new.self in
    let name = c.args.name.now in
    let path : c.deref.result.now ≡ in_folder set.store name =
    c.deref.ensures ∙ c.in_ok-path.ensures.ok ∙ ap (λ s. in_folder s name) (sym c.self.invariant.0 ∙ ap (λ v. v.set.store) c.self.view_is) in
    let change : IsTrue g.E.Env.models_disk → SameBut (in_folder set.store name) (files_at g.E.Env from) (files_at g.E.Env to) = λ modelled.
    subst (λ p. SameBut p (files_at g.E.Env from) (files_at g.E.Env to)) path
    (SameBut-deleted c.deref.result.now (files_at g.E.Env from) (files_at g.E.Env to) (Run-call modelled c.delete.ensures.does).has) in
    let obsolete : IsObsolete set c.in-Some.kind c.in-Some.number = c.if-not-is_obsolete.ensures.0 refl in
    elim c.if-is_table.branch [
      | then-is_table w ↦ rw w.tables-is (table_removed g.E.Env set name c.in-Some.number c.in-Some.kind c.in-Some.ensures obsolete from to change (c.is_table.ensures.0 w.if-is_table.true) w.evict.ensures)
      | else-is_table w ↦ rw w.tables-is (other_removed g.E.Env set name c.in-Some.number c.in-Some.kind c.in-Some.ensures obsolete from to change (λ table. let never : false ≡ true = sym w.if-is_table.false ∙ c.is_table.ensures.1 table in cc) c.args.tables.now)
    ]
