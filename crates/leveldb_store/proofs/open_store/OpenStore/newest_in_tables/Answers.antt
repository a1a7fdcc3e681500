use Rattle.std.proofs.Common.{◌≡◌, ◌∙◌, ap, min}
use Rattle.std.proofs.lemmas.Result.{err_from_is_err_and}
use Rattle.leveldb_base.specs.KeyTypes.{greatest_sequence, internal_key}
use Rattle.leveldb_base.specs.declared.key_types.ValueType.TheVariants.{TypeValue}
use Rattle.leveldb_store.specs.Reading.Read.{sought_key}
use Rattle.leveldb_store.proofs.Keeping.CurrentVersionLemmas.{current_by}
use Rattle.leveldb_store.proofs.Reading.ReadLemmas.{not_searched}
use Rattle.leveldb_store.proofs.open_store.OpenStore.newest_in_tables.Goals as goal

pub returns-in_err-sought-clause-searches : goal.returns-in_err-sought-clause-searches
returns-in_err-sought-clause-searches g c =
    let failed = err_from_is_err_and c.from_residual.result c.from_residual.ensures.1 in
    rw failed.1 (not_searched _ g.E.Env _ c.args.self.now c.args.env.now c.args.tables.now c.args.sequence c.args.key.now _ (rw failed.2 c.in_err-sought.ensures.cause))

pub returns-clause-searches : goal.returns-clause-searches
returns-clause-searches g c =
    let number : c.min-last.result ≡ min c.args.sequence greatest_sequence = c.min-last.ensures in
    let sought : c.in_ok-sought.sought ≡ sought_key c.args.sequence c.args.key.now = c.in_ok-sought.ensures.ok ∙ ap (λ n. internal_key c.args.key.now n TypeValue) number in
    rw (← sought, ← c.self.view_is, ← c.current-version.ensures.version) c.get.ensures

pub returns-in_err-sought-clause-current : goal.returns-in_err-sought-clause-current
returns-in_err-sought-clause-current g c =
    rw (← c.self.view_is) (current_by g.C.Cmp c.self.invariant.8 c.current-version.ensures.current)

pub returns-clause-current : goal.returns-clause-current
returns-clause-current g c =
    rw (← c.self.view_is) (current_by g.C.Cmp c.self.invariant.8 c.current-version.ensures.current)
