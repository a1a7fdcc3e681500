use Rattle.std.proofs.Common.{◌≡◌, ◌∷◌, [], ◌++◌, List, length, map, refl, sym, ap, subst, ◌∙◌, append_assoc, append-nil, arith}
use Rattle.std.specs.Vec.Iter.{into_iter_items}
use Rattle.leveldb_store.specs.declared.store_walk.StoreWalk.TheVariants.{Tables}
use Rattle.leveldb_store.proofs.open_store.view.push_tables.Goals as goal

nothing_left : {X : Type 0} (l : List X) → length l ≡ 0 → l ≡ []
nothing_left [] h = refl
nothing_left (x ∷ xs) h = absurd (omega arith)

mapped_one : {X Y : Type 0} (f : X → Y) (old : List Y) (xs : List X) (x : X) → (old ++ map f xs) ++ f x ∷ [] ≡ old ++ map f (xs ++ x ∷ [])
mapped_one f [] [] x = refl
mapped_one f [] (y ∷ ys) x = ap (λ l. f y ∷ l) (mapped_one f [] ys x)
mapped_one f (o ∷ os) xs x = ap (λ l. o ∷ l) (mapped_one f os xs x)

pub loop-walk-preserved : goal.loop-walk-preserved
loop-walk-preserved g c =
    let at = c.loop-walk in
    let x = c.in-Some.walk in
    let steps : into_iter_items at.walk-iterator ≡ x ∷ into_iter_items c.next.new.self = c.in-Some.ensures.steps.0 in (
      append_assoc at.yielded (x ∷ []) _ ∙ rw (← steps) at.invariant.0,
      c.in_ok-push.ensures.items ∙ ap (λ l. l ++ Tables x ∷ []) at.invariant.1 ∙ mapped_one Tables c.args.children.now.items at.yielded x,
      let was = at.invariant.2 in
          let gone = c.in-Some.ensures.steps.1 in
          let short = ap length steps in
          omega arith,
    )

pub returns-clause-ok : goal.returns-clause-ok
returns-clause-ok g c =
    let at = c.loop-walk in
    let none = c.in-None.ensures.steps in
    let empty : into_iter_items at.walk-iterator ≡ [] = nothing_left _ (sym at.invariant.2 ∙ none.0) in
    let all = sym (append-nil at.yielded) ∙ rw empty at at.invariant.0 ∙ c.into_iter-walk-iterator.ensures.into_iter_gives.0 in
    subst (λ l. at.children.items ≡ c.args.children.now.items ++ map Tables l) all at.invariant.1
