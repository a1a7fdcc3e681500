use Rattle.std.proofs.Common.{inl, inr, refl, subst, sym}
use Rattle.leveldb_base.specs.Names.{IsFileName}
use Rattle.leveldb_store.proofs.opening.listing.add_file.Goals as goal

pub returns-in_default-clause-ok : goal.returns-in_default-clause-ok
returns-in_default-clause-ok c = inl (λ n kind is. c.in_default.ensures n kind (subst (λ t. IsFileName t n kind) (sym c.as_str.ensures.value) is), refl)

pub returns-clause-ok : goal.returns-clause-ok
returns-clause-ok c = inr (_, subst (λ t. IsFileName t c.in-Some.number c.in-Some.kind) c.as_str.ensures.value c.in-Some.ensures, refl, c.in_ok-push.ensures.items)
