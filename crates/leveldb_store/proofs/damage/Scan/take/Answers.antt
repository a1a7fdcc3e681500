use Rattle.std.proofs.Common.{◌≡◌, ◌∙◌, Bool, false, inl, inr, not, subst, sym, true, ⊎_elim}
use Rattle.std.specs.Prelude.{IsTrue}
use Rattle.leveldb_store.specs.Logs.Damage.{HasBegun, parts_after}
use Rattle.leveldb_store.proofs.Logs.LogDamageLemmas.{begun_on}
use Rattle.leveldb_store.proofs.damage.Scan.take.Goals.{then-self+then-self-2, then-self+else-self-2, else-self}
use Rattle.leveldb_store.proofs.damage.Scan.take.Goals as goal

-- no last part is one that isn't
not_last : (last : Bool) → not last ≡ true → IsTrue last → ⊥
not_last true never is = cc
not_last false open_still never = cc

pub returns-else-not-self-clause-begun : goal.returns-else-not-self-clause-begun
returns-else-not-self-clause-begun c = λ parts begun f is.
    let old = c.args.self.now in
    let found = c.args.found in
    let on = begun_on parts old.is_open old.has_data begun f found.kind found.has_data is
    (λ last. not_last c.is_last.result c.if-not-self.false (c.is_last.ensures.1 last)) c.if-self.self in
    subst (λ b. HasBegun (parts_after parts f) b c.if-self.self) (sym c.if-not-self.false)
    (elim c.if-self.branch [
      | then-self+then-self-2 w ↦ on ((λ filled. inl w.if-self-2.true), (λ either. w.self-is ∙ w.if-self-2.true))
      | then-self+else-self-2 w ↦ on (
        (λ filled. inr (sym w.self-is ∙ filled)),
        (λ either. w.self-is ∙ ⊎_elim
            (λ (before : IsTrue old.has_data). absurd (let never : true ≡ false = sym before ∙ w.if-self-2.false in cc))
            (λ (now : IsTrue found.has_data). now) either),
      )
      | else-self w ↦ absurd (let never : true ≡ false = sym c.if-not-self.false ∙ w.if-self.false in cc)
    ])
