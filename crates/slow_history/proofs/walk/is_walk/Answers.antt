use Rattle.std.proofs.Common.{◌≡◌, ℕ, suc, List, [], ◌∷◌, Option, None, length, refl, ap, arith}
use Rattle.std.specs.declared.cmp.Ordering.{Ordering}
use Rattle.leveldb_base.specs.Types.{Pair}
use Rattle.slow_history.specs.declared.walk.Move.{Move}
use Rattle.slow_history.specs.declared.walk.Landing.{Landing}
use Rattle.slow_history.specs.View.{borrowed_pairs}
use Rattle.slow_history.specs.Walk.{position_after, position_left, LeadTo}
use Rattle.slow_history.proofs.walk.is_walk.Goals as goal

-- each move led somewhere
as_many : (order : List ℕ → List ℕ → Ordering) (pairs : List Pair) (position : Option ℕ) (moves : List Move) (landings : List Landing)
    → LeadTo order pairs position moves landings → length moves ≡ length landings
as_many order pairs position [] [] leads = refl
as_many order pairs position [] (led ∷ landings) leads = absurd leads
as_many order pairs position (one ∷ moves) [] leads = absurd leads
as_many order pairs position (one ∷ moves) (led ∷ landings) leads =
    ap suc (as_many order pairs (position_left (position_after order pairs position one) led) moves landings leads.1)

pub returns-then-moves-landings : goal.returns-then-moves-landings
returns-then-moves-landings g c = (
  λ wrong. cc wrong,
  λ leads. let same = as_many (g.C.Cmp.cmp c.args.cmp.now) (borrowed_pairs c.args.pairs.now) None c.args.moves.now c.args.landings.now leads in
      let other = c.if-moves-landings.true in absurd (omega (arith, same, other)),
)
