use Rattle.std.proofs.Common.{◌≡◌, ◌≤◌, ◌<◌, ◌⊎◌, ◌++◌, ◌∷◌, [], ⊎_elim, inl, inr, arith, map, subst, sym, take}
use Rattle.std.specs.Prelude.{string_bytes}
use Rattle.std.proofs.lemmas.Bool.{cases_lt}
use Rattle.std.proofs.lemmas.List.{length-map, take_all}
use Rattle.leveldb_store.proofs.Keeping.DamageLemmas.{MostOf, most_more, most_none, most_same}
use Rattle.leveldb_store.proofs.Keeping.RemoveLemmas.{next_item}
use Rattle.leveldb_store.proofs.open_store.damage.greatest_number.Goals.{in-Some, in_default}
use Rattle.leveldb_store.proofs.open_store.damage.greatest_number.Goals as goal

pub loop-name-init : goal.loop-name-init
loop-name-init c = most_none

pub loop-name-preserved : goal.loop-name-preserved
loop-name-preserved c =
    let names = c.args.names.now in
    let i = c.loop-name.name-index in
    let item = c.name-item.result in
    let done = take i (map string_bytes names) in
    let before = c.loop-name.greatest in
    let now = c.match-file_name_parts.greatest in
    let next = next_item string_bytes names i item (omega arith) c.name-item.is in
    subst (λ xs. MostOf xs now) (sym next.0)
    (elim c.match-file_name_parts.branch as (λ w. MostOf (take i (map string_bytes c.args.names.now) ++ string_bytes c.name-item.result ∷ []) c.match-file_name_parts.greatest) [
      | in-Some w ↦ most_more done (string_bytes item) before c.loop-name.invariant w.in-Some.number _ (rw c.deref.ensures at w.in-Some.ensures) now
          (omega (arith, w.max-greatest.ensures, w.greatest-is)) (omega (arith, w.max-greatest.ensures, w.greatest-is))
          (⊎_elim (λ (less : w.in-Some.number < before). inr (omega (arith, less, w.max-greatest.ensures, w.greatest-is)))
          (λ (more : before ≤ w.in-Some.number). inl (omega (arith, more, w.max-greatest.ensures, w.greatest-is)))
          (cases_lt w.in-Some.number before))
      | in_default w ↦ subst (MostOf (done ++ string_bytes item ∷ [])) (sym w.greatest-is) (most_same done (string_bytes item) before c.loop-name.invariant (rw c.deref.ensures at w.in_default.ensures))
    ])

pub returns : goal.returns
returns c =
    let all : take c.loop-name.name-index (map string_bytes c.args.names.now) ≡ map string_bytes c.args.names.now =
    take_all c.loop-name.name-index (map string_bytes c.args.names.now) (simp length-map (omega arith)) in
    let most = subst (λ names. MostOf names c.loop-name.greatest) all c.loop-name.invariant in
    record { most = most.0; is_one = most.1 }
