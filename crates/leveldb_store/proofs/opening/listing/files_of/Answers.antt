use Rattle.std.proofs.Common.{◌≡◌, ◌∷◌, [], List, length, map, refl, sym, ap, subst, ◌∙◌, append_assoc, append-nil, arith, rules, string_bytes}
use Rattle.std.proofs.lemmas.List.{map-append}
use Rattle.std.specs.Vec.Iter.{into_iter_items}
use Rattle.leveldb_store.specs.Openings.Listing.{AreFilesOf}
use Rattle.leveldb_store.proofs.Openings.ListingLemmas.{files_more, no_files}
use Rattle.leveldb_store.proofs.opening.listing.files_of.Goals as goal

nothing_left : {X : Type 0} (l : List X) → length l ≡ 0 → l ≡ []
nothing_left [] h = refl
nothing_left (x ∷ xs) h = absurd (omega arith)

pub loop-name-init : goal.loop-name-init
loop-name-init c = record { split = search rules; are = subst (AreFilesOf []) (sym c.new-files.ensures.items) no_files; count = search rules }

pub loop-name-preserved : goal.loop-name-preserved
loop-name-preserved c =
    let at = c.loop-name in
    let x = c.in-Some.name in
    let steps : into_iter_items at.name-iterator ≡ x ∷ into_iter_items c.next.new.self = c.in-Some.ensures.steps.0 in record {
      split = append_assoc at.yielded (x ∷ []) _ ∙ rw (← steps) at.invariant.split;
      are = subst (λ ns. AreFilesOf ns c.add_file.new.files.items) (sym (map-append string_bytes at.yielded (x ∷ [])))
          (files_more (map string_bytes at.yielded) (string_bytes x) at.files.items c.add_file.new.files.items at.invariant.are c.in_ok-add_file.ensures.ok);
      count =
          let was = at.invariant.count in
          let gone = c.in-Some.ensures.steps.1 in
          let short = ap length steps in
          omega arith;
    }

pub returns-clause-ok : goal.returns-clause-ok
returns-clause-ok c =
    let at = c.loop-name in
    let none = c.in-None.ensures.steps in
    let empty : into_iter_items at.name-iterator ≡ [] = nothing_left _ (sym at.invariant.count ∙ none.0) in
    let all = sym (append-nil at.yielded) ∙ rw empty at at.invariant.split ∙ c.into_iter-name-iterator.ensures.into_iter_gives.0 in
    subst (λ l. AreFilesOf (map string_bytes l) at.files.items) all at.invariant.are
