use Rattle.std.proofs.Common.{◌≡◌, ◌∙◌, ℕ, ◌+◌, List, Option, ◌∷◌, ◌++◌, None, take, drop, sym, ap, subst}
use Rattle.std.specs.Map.{lookup}
use Rattle.std.specs.Str.{bytes_eq}
use Rattle.leveldb_env.specs.MemEnv.{files_of}
use Rattle.leveldb_env.specs.Picks.{IsAllowed, IsTailOf, tails_of}
use Rattle.leveldb_env.proofs.PicksLemmas.{pick_of, allowed_none, allowed_more, allowed_fits, allowed_once, tails_up_to, tails_around, copied_none, copied_some}
use Rattle.leveldb_env.proofs.mem_env.picks.is_allowed.Goals as goal
use Rattle.leveldb_env.proofs.mem_env.picks.is_allowed.Goals.{After-as_slice, then-not-is_tail-via-then-not-is_tail, then-not-is_tail-via-else-not-is_tail+then-is_some}

-- the tail at hand, as the calls are given it
at_hand : (c : After-as_slice) → (c.as_str-name.result.now, c.as_slice.result.now) ≡ pick_of c.index-tails-i.result
at_hand c = λ i. (c.as_str-name.ensures.value i, c.as_slice.ensures.value i)

-- what a search for its name finds before it
before : After-as_slice → List ℕ → Option (List ℕ)
before c name = lookup (bytes_eq name) (tails_of (take c.loop-i.i c.args.tails.now))

-- tails that are allowed are so around the one at hand
around : (c : After-as_slice) → IsAllowed (files_of c.args.files.now) (tails_of c.args.tails.now) → IsAllowed (files_of c.args.files.now) (tails_of (take c.loop-i.i c.args.tails.now) ++ pick_of c.index-tails-i.result ∷ tails_of (drop (c.loop-i.i + 1) c.args.tails.now))
around c allowed = subst (IsAllowed (files_of c.args.files.now)) (tails_around c.args.tails.now c.loop-i.i c.index-tails-i.result c.loop-i-test.true c.index-tails-i.is) allowed

fits : (c : After-as_slice) → IsAllowed (files_of c.args.files.now) (tails_of c.args.tails.now) → IsTailOf (files_of c.args.files.now) (c.as_str-name.result.now, c.as_slice.result.now)
fits c allowed = subst (IsTailOf (files_of c.args.files.now)) (sym (at_hand c)) (allowed_fits (files_of c.args.files.now) _ _ _ (around c allowed))

once : (c : After-as_slice) → IsAllowed (files_of c.args.files.now) (tails_of c.args.tails.now) → before c c.as_str-name.result.now ≡ None
unfolding before
once c allowed = ap (before c) c.as_str-name.ensures.value ∙ allowed_once (files_of c.args.files.now) _ _ _ (around c allowed)

pub loop-i-init : goal.loop-i-init
loop-i-init c = allowed_none (files_of c.args.files.now)

pub returns-then-not-is_tail : goal.returns-then-not-is_tail
unfolding before
returns-then-not-is_tail c =
    let at = (goal.at.returns-then-not-is_tail c).After-as_slice in (
      λ no. absurd (cc no),
      λ allowed. elim c.then-not-is_tail.branch [
        | then-not-is_tail-via-then-not-is_tail w ↦ absurd (cc (sym w.if-not-is_tail.true ∙ c.is_tail.ensures.1 (fits at allowed)))
        | then-not-is_tail-via-else-not-is_tail+then-is_some w ↦ absurd (copied_some w.find_tail.result _ w.find_tail.ensures (sym w.is_some.ensures ∙ w.if-is_some.true) (once at allowed))
      ],
    )

pub loop-i-preserved : goal.loop-i-preserved
unfolding before
loop-i-preserved c =
    let at = (goal.at.loop-i-preserved c).After-as_slice in
    let files = files_of c.args.files.now in
    let tails = c.args.tails.now in
    let given = c.index-tails-i.result in
    let fits : IsTailOf files (pick_of given) = subst (IsTailOf files) (at_hand at) (c.is_tail.ensures.0 c.if-not-is_tail.false) in
    let new : lookup (bytes_eq (pick_of given).0) (tails_of (take c.loop-i.i tails)) ≡ None =
    ap (before at) (sym c.as_str-name.ensures.value) ∙ copied_none c.find_tail.result _ c.find_tail.ensures (sym c.is_some.ensures ∙ c.if-is_some.false) in
    subst (IsAllowed files) (sym (tails_up_to tails c.loop-i.i given c.loop-i-test.true c.index-tails-i.is))
    (allowed_more files (tails_of (take c.loop-i.i tails)) (pick_of given) c.loop-i.invariant fits new)
