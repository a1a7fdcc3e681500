use Rattle.std.proofs.Common.{drop, ap, ◌∙◌, arith, rules}
use Rattle.std.proofs.lemmas.List.{take_rest}
use Rattle.leveldb_mem.proofs.WriteBatchLemmas.{length-batch, items_counted, batch_seen, entries_there, entries_are, entries_counted}
use Rattle.leveldb_mem.proofs.write_batch.WriteBatch.iter.Goals as goal

pub slice_bounds-result-count : goal.slice_bounds-result-count
slice_bounds-result-count c = omega (arith, length-batch c.self.inside.is_batch.1, c.deref.ensures.len)

pub slice_bounds-result-start : goal.slice_bounds-result-start
slice_bounds-result-start c = omega (arith, length-batch c.self.inside.is_batch.1, c.deref.ensures.len)

pub invariant_of-result : goal.invariant_of-result
invariant_of-result c = (
  (
    c.args.self.now.items,
    take_rest c.deref.result.now 12 ∙ ap (λ z. drop 12 z) c.deref.ensures.value ∙ entries_there (batch_seen c.self.inside.is_batch c.self.view_is),
  ),
  tt,
)

pub returns-clause-items : goal.returns-clause-items
returns-clause-items c =
    let there = take_rest c.deref.result.now 12 ∙ ap (λ z. drop 12 z) c.deref.ensures.value ∙ entries_there (batch_seen c.self.inside.is_batch c.self.view_is) in
    search (entries_are, rules)

pub returns-clause-bound : goal.returns-clause-bound
returns-clause-bound c =
    let read = batch_seen c.self.inside.is_batch c.self.view_is in
    let there = take_rest c.deref.result.now 12 ∙ ap (λ z. drop 12 z) c.deref.ensures.value ∙ entries_there read in
    let fits = items_counted _ _ _ read in
    search (entries_counted, rules)
