-- The premise of calls that are given a store, an engine or options by `&mut`, or return one.
use Rattle.std.specs.Prelude.{◌≡◌}

-- It holds of every value, so it asks nothing of a caller. Options can own boxed values (`dyn`), and
-- a function that passes a store on is proved for the boxes that its caller has: so it may call
-- nothing that could put a box of its own there. Of a call of another crate the check sees no body.
-- But a call that has a premise and makes a box of a type that it is given isn't proved, so of one
-- that is proved the check knows that it makes none.
abbrev pub IsAnyValue : {T : Type 0} → T → Type 0
IsAnyValue value = value ≡ value
