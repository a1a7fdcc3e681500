use Rattle.std.proofs.Common.{◌≡◌, None, Option, refl, subst, sym}
use Rattle.leveldb_version.specs.Tables.TableMoves.{IsWalkIn, stepped}
use Rattle.leveldb_version.proofs.table_cache.moves.step_in.Goals as goal

pub returns-in-Some : goal.returns-in-Some
returns-in-Some g c = rw (c.env-1.given.1 (sym c.step.ensures.same.env), c.blocks-1.given.1 (sym c.step.ensures.same.cache)) (stepped c.in-Some.core c.step.new.self (subst (λ o. IsWalkIn c.args.table.now o c.in-Some.core) (sym c.in-Some.is) refl) refl c.step.ensures.steps)

none_of : {T : Type 0} (o : Option T) → o ≡ None → o ≡ None
none_of o is = is

pub returns : goal.returns
returns g c =
    let begun = subst (λ walk. IsWalkIn c.args.table.now None walk) (sym c.filling-fresh.ensures) c.in_ok-begun.ensures.ok in
    rw (c.env-2-1.given.1 (sym c.step-there.ensures.same.env), c.blocks-2-1.given.1 (sym c.step-there.ensures.same.cache)) (stepped c.filling-fresh.result c.step-there.new.self (subst (λ o. IsWalkIn c.args.table.now o c.filling-fresh.result) (sym (none_of c.args.core.now c.in_default.is)) begun) refl c.step-there.ensures.steps)
