use Rattle.leveldb_store.proofs.Keeping.CurrentVersionLemmas.{logged_cmp}
use Rattle.leveldb_store.proofs.opening.edit.log_edit.Goals as goal

pub returns-clause-cmp : goal.returns-clause-cmp
returns-clause-cmp g c =
    logged_cmp _ _ _ _ c.log_and_apply.result c.log_and_apply.ensures.ok
    c.log_and_apply.ensures.err
