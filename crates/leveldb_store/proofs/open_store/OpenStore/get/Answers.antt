use Rattle.std.proofs.Common.{◌∙◌, sym, subst}
use Rattle.std.proofs.lemmas.Result.{err_from_is_err_and}
use Rattle.leveldb_base.proofs.EntriesLemmas.{absent_copied, absent_is}
use Rattle.leveldb_base.specs.Entries.{lookup_copied}
use Rattle.leveldb_store.specs.Reading.Read.{FindsInMemory}
use Rattle.leveldb_store.proofs.Reading.ReadLemmas.{got_in_memory, got_in_tables}
use Rattle.leveldb_store.proofs.open_store.OpenStore.get.Goals as goal

pub returns-then-not-is_absent : goal.returns-then-not-is_absent
returns-then-not-is_absent g c =
    got_in_memory _ g.E.Env _ c.args.self.now c.args.env.now c.args.tables.now c.args.sequence c.args.key.now (lookup_copied c.newest_in_memory-found.result) (absent_copied c.newest_in_memory-found.result ∙ (sym c.is_absent.ensures ∙ c.if-not-is_absent.true)) (λ older. c.newest_in_memory-found.ensures older) c.copied.result c.copied.ensures.ok c.copied.ensures.memory

pub returns-in_err-found : goal.returns-in_err-found
returns-in_err-found g c =
    let failed = err_from_is_err_and c.from_residual.result c.from_residual.ensures.1 in
    let search = c.in_err-found.ensures in
    rw (failed.1, failed.2)
    (got_in_tables _ g.E.Env _ c.args.self.now c.args.env.now c.args.tables.now c.args.sequence c.args.key.now search.current search.given (rw (← c.requires) at search.levels.apart)
    (subst (FindsInMemory c.args.self.now c.args.sequence c.args.key.now) (absent_is (lookup_copied c.newest_in_memory-found.result) (absent_copied c.newest_in_memory-found.result ∙ sym c.is_absent.ensures ∙ c.if-not-is_absent.false))
    c.newest_in_memory-found.ensures) _ search.searches)

pub returns : goal.returns
returns g c =
    let old = c.args.self.now in
    let search = c.in_ok-found.ensures in
    rw (c.into_value.ensures, c.charge.ensures)
    (got_in_tables _ g.E.Env _ old c.args.env.now c.args.tables.now c.args.sequence c.args.key.now search.current search.given (rw (← c.requires) at search.levels.apart)
    (subst (FindsInMemory c.args.self.now c.args.sequence c.args.key.now) (absent_is (lookup_copied c.newest_in_memory-found.result) (absent_copied c.newest_in_memory-found.result ∙ sym c.is_absent.ensures ∙ c.if-not-is_absent.false))
    c.newest_in_memory-found.ensures) _ search.searches)
