use Rattle.std.proofs.Common.{◌≡◌, ◌∷◌, [], List, length, map, refl, sym, subst, ◌∙◌, append-nil, arith}
use Rattle.std.specs.Vec.Iter.{into_iter_items}
use Rattle.leveldb_repair.specs.declared.found_walk.FoundWalk.TheVariants.{Table}
use Rattle.leveldb_repair.proofs.repair_store.children.table_walks.Goals as goal

nothing_left : {X : Type 0} (l : List X) → length l ≡ 0 → l ≡ []
nothing_left [] h = refl
nothing_left (x ∷ xs) h = absurd (omega arith)

pub returns-clause-ok : goal.returns-clause-ok
returns-clause-ok g c =
    let at = c.loop-table in
    let none = c.in-None.ensures.steps in
    let empty : into_iter_items at.table-iterator ≡ [] = nothing_left _ (sym at.invariant.2 ∙ none.0) in
    let all = sym (append-nil at.yielded) ∙ rw empty at at.invariant.0 ∙ c.into_iter-table-iterator.ensures.into_iter_gives.0 in
    subst (λ l. at.children.items ≡ map Table l) all at.invariant.1
