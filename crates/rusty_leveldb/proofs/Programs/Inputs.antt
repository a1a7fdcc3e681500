-- Input that is read up to a limit and ends before it, is read whole.
use Rattle.std.proofs.Common.{◌≡◌, ◌<◌, inl, inr, ℕ, List, [], ◌++◌, length, take, Option, Some, None, ap, ◌∙◌, arith, length-take}
use Rattle.std.specs.Prelude.{IfSome}
use Rattle.std.specs.Option.{option_map}
use Rattle.std.proofs.lemmas.Bool.{cases_lt}
use Rattle.std.proofs.lemmas.List.{take_all}

pub whole_input : (input : Option (List ℕ)) (limit : ℕ) (text start : List ℕ) → start ≡ [] → IfSome (option_map (take limit) input) (λ read. text ≡ start ++ read)
    → length text < limit → IfSome input (λ bytes. text ≡ bytes)
whole_input None limit text start none read short = tt
whole_input (Some bytes) limit text start none read short =
    let all : text ≡ take limit bytes = read ∙ ap (λ (xs : List ℕ). xs ++ take limit bytes) none in
    let long = ap length all in
    let cut = length-take limit bytes in
    elim (cases_lt limit (length bytes)) [
      | inl more ↦ absurd (omega (arith, short, long, cut, more))
      | inr few ↦ all ∙ take_all limit bytes few
    ]
