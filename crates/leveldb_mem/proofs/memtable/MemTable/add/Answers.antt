use Rattle.std.proofs.Common.{Ok, Err, List, ℕ, Option, subst}
use Rattle.std.proofs.lemmas.Result.{err_from_is_err_and}
use Rattle.leveldb_mem.specs.MemTable.{entry_of, AddResult}
use Rattle.leveldb_mem.proofs.EntryLemmas.{added, not_added, not_prepared}
use Rattle.leveldb_mem.proofs.memtable.MemTable.add.Goals as goal

pub returns-then-put-clause-kept : goal.returns-then-put-clause-kept
returns-then-put-clause-kept g c =
    subst (λ (v : Option (List ℕ)). AddResult c.args.self.now.kept (entry_of c.args.sequence c.args.key.now v) (Ok tt) c.put.new.self.kept) c.given-value.ensures
    (added c.if-put.true c.in_ok-prepare_entry.ensures.kept.entries c.put.ensures.kept)

pub returns-clause-kept : goal.returns-clause-kept
returns-clause-kept g c =
    subst (λ (v : Option (List ℕ)). AddResult c.args.self.now.kept (entry_of c.args.sequence c.args.key.now v) c.err.result c.put.new.self.kept) c.given-value.ensures
    (not_added c.if-put.false c.in_ok-prepare_entry.ensures.kept.entries c.in_ok-prepare_entry.ensures.room c.put.ensures.kept c.err.result c.err.ensures.code)

pub returns-in_err-prepare_entry-clause-kept : goal.returns-in_err-prepare_entry-clause-kept
returns-in_err-prepare_entry-clause-kept g c =
    let p = err_from_is_err_and c.from_residual.result c.from_residual.ensures.1 in
    let status = c.in_err-prepare_entry.field-0.0 in
    let prepared = c.in_err-prepare_entry.ensures in
    rw (p.1, p.2)
    (subst (λ (v : Option (List ℕ)). AddResult c.args.self.now.kept (entry_of c.args.sequence c.args.key.now v) (Err status) c.prepare_entry.new.self.kept) c.given-value.ensures
    (not_prepared status prepared.kept prepared.room))
