use Rattle.leveldb_version.proofs.Tables.TableCacheCallLemmas.{gets_refused, gets_uncopied, looks_refused, uses_uncopied}
use Rattle.leveldb_version.proofs.table_cache.TableCache.get.Goals as goal

pub returns-in_err-value-clause-in_open : goal.returns-in_err-value-clause-in_open
returns-in_err-value-clause-in_open g c table there =
    looks_refused c.from_residual.result c.from_residual.ensures.1 (c.in_err-value.ensures.in_open table there)

pub returns-in_err-key-clause-uses : goal.returns-in_err-key-clause-uses
returns-in_err-key-clause-uses g c =
    uses_uncopied g.E.Env c.from_residual-in_err-key.result c.from_residual-in_err-key.ensures.1 c.in_ok-value.ensures.uses

pub returns-in_err-value-clause-gets : goal.returns-in_err-value-clause-gets
returns-in_err-value-clause-gets g c = λ modelled was. gets_refused c.from_residual.result c.from_residual.ensures.1 (c.in_err-value.ensures.gets modelled was)

pub returns-in_default-clause-gets : goal.returns-in_default-clause-gets
returns-in_default-clause-gets g c = λ modelled was. rw c.in_default.is at (c.in_ok-value.ensures.gets modelled was)

pub returns-in_err-key-clause-gets : goal.returns-in_err-key-clause-gets
returns-in_err-key-clause-gets g c = λ modelled was. gets_uncopied g.E.Env c.from_residual-in_err-key.result c.from_residual-in_err-key.ensures.1 (c.in_ok-value.ensures.gets modelled was)

pub returns-clause-gets : goal.returns-clause-gets
returns-clause-gets g c = λ modelled was. rw (c.in_ok-key.ensures, c.key.ensures) (rw c.in-Some.is at (c.in_ok-value.ensures.gets modelled was))

pub returns-in_default-clause-uses : goal.returns-in_default-clause-uses
returns-in_default-clause-uses g c = rw c.in_default.is at c.in_ok-value.ensures.uses

pub returns-in_default-clause-in_open : goal.returns-in_default-clause-in_open
returns-in_default-clause-in_open g c = λ table there. rw c.in_default.is at (c.in_ok-value.ensures.in_open table there)

pub returns-clause-uses : goal.returns-clause-uses
returns-clause-uses g c = rw (c.in_ok-key.ensures, c.key.ensures) (rw c.in-Some.is at c.in_ok-value.ensures.uses)

pub returns-clause-in_open : goal.returns-clause-in_open
returns-clause-in_open g c = λ table there. rw (c.in_ok-key.ensures, c.key.ensures) (rw c.in-Some.is at (c.in_ok-value.ensures.in_open table there))
