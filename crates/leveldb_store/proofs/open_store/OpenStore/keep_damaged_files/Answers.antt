use Rattle.std.proofs.Common.{◌≡◌, ◌∙◌, ◌-◌, ℕ, Err, List, Ok, String, Vec, ap, length, map, rules, subst, sym, vec_len}
use Rattle.std.specs.Global.{Global}
use Rattle.std.proofs.lemmas.Bool.{eqb-false, eqb-true}
use Rattle.std.proofs.lemmas.List.{nil_from_length}
use Rattle.std.specs.Prelude.{IsTrue, string_bytes}
use Rattle.std.proofs.lemmas.Result.{err_from_is_err_and}
use Rattle.leveldb_env.proofs.EnvLemmas.{Run-call}
use Rattle.leveldb_env.specs.Env.{HasCause, IsEmptyFolder, ListsChildren}
use Rattle.leveldb_store.proofs.Keeping.DamageLemmas.{MostOf, looks_nowhere, looks_past, map_empty, none_damaged, some_damaged}
use Rattle.leveldb_store.specs.Keeping.OpenStore.{OpenStoreValue}
use Rattle.leveldb_store.specs.Openings.EndsOpening.{LooksForDamage}
use Rattle.leveldb_store.proofs.open_store.OpenStore.keep_damaged_files.Goals.{then-is_empty, else-is_empty}
use Rattle.leveldb_store.proofs.open_store.OpenStore.keep_damaged_files.Goals as goal

-- the paths that are returned
abbrev paths_of : Vec (String Global) Global → List (List ℕ)
paths_of paths = map string_bytes paths.items

pub returns-in_err-names-clause-err : goal.returns-in_err-names-clause-err
returns-in_err-names-clause-err g c =
    let set = c.args.self.now.set in
    let same_set : c.self.inside.versions.set ≡ set = ap (λ v. v.set) c.self.view_is in
    let folder : c.deref.result.now ≡ set.store = c.deref.ensures ∙ sym c.self.invariant.0 ∙ ap (λ v. v.store) same_set in
    let p = err_from_is_err_and c.from_residual.result c.from_residual.ensures.1 in
    let status = c.in_err-names.field-0.0 in
    let next : c.next_file_num.result ≡ set.next_file = search rules in
    rw (p.1, p.2) (looks_nowhere g.E.Env set c.args.env.now status c.children.new.self
    (subst (λ s. HasCause {T = Vec (String Global) Global} (IsEmptyFolder g.E.Env.models_disk s (g.E.Env.observed c.args.env.now)) (g.E.Env.failures c.args.env.now) (g.E.Env.failures c.children.new.self) (Err status)) folder c.in_err-names.ensures.cause)
    _ (c.saturating_sub.ensures ∙ ap (λ n. n - 1) next))

pub returns-in_err-paths-clause-err : goal.returns-in_err-paths-clause-err
returns-in_err-paths-clause-err g c =
    let set = c.args.self.now.set in
    let files = (g.E.Env.observed c.args.env.now).disk.files in
    let names = map string_bytes c.deref-3.result.now in
    let same_set : c.self.inside.versions.set ≡ set = ap (λ v. v.set) c.self.view_is in
    let folder : c.deref.result.now ≡ set.store = c.deref.ensures ∙ sym c.self.invariant.0 ∙ ap (λ v. v.store) same_set in
    let listed : IsTrue g.E.Env.models_disk → ListsChildren files set.store names = λ modelled.
    subst (λ s. ListsChildren files s names) folder
    (subst (λ items. ListsChildren files c.deref.result.now (map string_bytes items)) (sym c.deref-3.ensures.value) (c.in_ok-names.ensures.ok modelled)) in
    let same_names = c.deref-2.ensures.value ∙ sym c.deref-3.ensures.value in
    let most = subst (λ items. MostOf (map string_bytes items) c.greatest_number.result) same_names (c.greatest_number.ensures.most, c.greatest_number.ensures.is_one) in
    let p = err_from_is_err_and c.from_residual-in_err-paths.result c.from_residual-in_err-paths.ensures.1 in
    rw (p.1, p.2) (looks_past g.E.Env set c.args.env.now names listed c.children.new.self c.tell_damage.new.env (λ modelled. (Run-call modelled c.in_ok-names.ensures.does).has) c.in_ok-names.ensures.cause.ok
    c.greatest_number.result most.0 most.1 paths_of c.in_err-paths.field-0.0 (rw same_set at c.in_err-paths.ensures.looks))

pub returns-clause-ok : goal.returns-clause-ok
returns-clause-ok g c =
    let set = c.args.self.now.set in
    let files = (g.E.Env.observed c.args.env.now).disk.files in
    let names = map string_bytes c.deref-3.result.now in
    let same_set : c.self.inside.versions.set ≡ set = ap (λ v. v.set) c.self.view_is in
    let folder : c.deref.result.now ≡ set.store = c.deref.ensures ∙ sym c.self.invariant.0 ∙ ap (λ v. v.store) same_set in
    let listed : IsTrue g.E.Env.models_disk → ListsChildren files set.store names = λ modelled.
    subst (λ s. ListsChildren files s names) folder
    (subst (λ items. ListsChildren files c.deref.result.now (map string_bytes items)) (sym c.deref-3.ensures.value) (c.in_ok-names.ensures.ok modelled)) in
    let same_names = c.deref-2.ensures.value ∙ sym c.deref-3.ensures.value in
    let most = subst (λ items. MostOf (map string_bytes items) c.greatest_number.result) same_names (c.greatest_number.ensures.most, c.greatest_number.ensures.is_one) in
    let vec = c.in_ok-paths.paths in
    let counted = c.in_ok-names.ensures.cause.ok in
    elim c.if-is_empty.branch as (λ w. LooksForDamage g.E.Env c.args.self.now.set c.args.env.now c.if-is_empty.self.kept_to (map string_bytes c.in_ok-paths.paths.items) (Ok tt) c.tell_damage.new.env) [
      | then-is_empty w ↦ subst (λ k. LooksForDamage g.E.Env set c.args.env.now k (map string_bytes vec.items) (Ok tt) c.tell_damage.new.env) (sym (ap (λ (v : OpenStoreValue g.row.C.Denot). v.kept_to) w.self-is))
          (none_damaged g.E.Env set c.args.env.now names listed c.children.new.self c.tell_damage.new.env (λ modelled. (Run-call modelled c.in_ok-names.ensures.does).has) counted c.greatest_number.result most.0 most.1 paths_of vec (rw same_set at c.in_ok-paths.ensures.looks)
          (ap (map string_bytes) (nil_from_length vec.items (sym vec.ok.0 ∙ eqb-true (vec_len vec) 0 (sym c.is_empty.ensures ∙ w.if-is_empty.true)))))
      | else-is_empty w ↦ subst (λ k. LooksForDamage g.E.Env set c.args.env.now k (map string_bytes vec.items) (Ok tt) c.tell_damage.new.env) (sym (ap (λ (v : OpenStoreValue g.row.C.Denot). v.kept_to) w.self-is))
          (some_damaged g.E.Env set c.args.env.now names listed c.children.new.self c.tell_damage.new.env (λ modelled. (Run-call modelled c.in_ok-names.ensures.does).has) counted c.greatest_number.result most.0 most.1 paths_of vec (rw same_set at c.in_ok-paths.ensures.looks)
          (λ none. eqb-false (vec_len vec) 0 (sym c.is_empty.ensures ∙ w.if-is_empty.false) (vec.ok.0 ∙ ap length (map_empty string_bytes vec.items none))))
    ]
