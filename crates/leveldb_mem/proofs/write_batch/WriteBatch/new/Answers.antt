use Rattle.std.proofs.Common.{[], ◌++◌, replicate, ap, ◌∙◌, rules}
use Rattle.leveldb_mem.specs.WriteBatch.{batch_of}
use Rattle.leveldb_mem.proofs.WriteBatchLemmas.{empty_batch, batch_is}
use Rattle.leveldb_mem.proofs.write_batch.WriteBatch.new.Goals as goal

pub invariant_of-result : goal.invariant_of-result
invariant_of-result c =
    ((batch_of 0 [], empty_batch (c.in_ok-extend_from_slice.ensures.items ∙ ap (λ z. z ++ replicate 12 0) c.in_ok-entries.ensures.items)), tt)

pub returns-clause-ok : goal.returns-clause-ok
returns-clause-ok c =
    let made = empty_batch (c.in_ok-extend_from_slice.ensures.items ∙ ap (λ z. z ++ replicate 12 0) c.in_ok-entries.ensures.items) in
    search (batch_is, rules)
