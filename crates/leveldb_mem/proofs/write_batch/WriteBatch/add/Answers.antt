use Rattle.std.proofs.Common.{ℕ, option_copied, ◌++◌, length, ap, ◌∙◌, arith, rules, length-append}
use Rattle.leveldb_mem.specs.WriteBatch.{item_of, with_item, change_bytes, BatchOf}
use Rattle.leveldb_mem.proofs.WriteBatchLemmas.{length-batch, length-items-le, batch_is, batch_seen, too_long, not_too_long, counted, other_cause, OnErr-always}
use Rattle.leveldb_mem.proofs.write_batch.WriteBatch.add.Goals as goal

pub returns-in_default-clause-too_long : goal.returns-in_default-clause-too_long
unfolding change_bytes
returns-in_default-clause-too_long c =
    let read = batch_seen c.self.inside.is_batch c.self.view_is in
    (λ _. too_long read _ _ (c.len.ensures ∙ c.self.inside.entries.ok.0) c.in_default.ensures, λ _. c.err.ensures.code)

pub returns-in_err-reserve-clause-err : goal.returns-in_err-reserve-clause-err
returns-in_err-reserve-clause-err c =
    let read = batch_seen c.self.inside.is_batch c.self.view_is in
    let kept : BatchOf c.reserve.new.self.items c.args.self.now.first c.args.self.now.items = rw c.in_err-reserve.ensures.items read in
    OnErr-always c.from_residual.result (search (batch_is, rules))

pub returns-in_err-reserve-clause-too_long : goal.returns-in_err-reserve-clause-too_long
unfolding change_bytes
returns-in_err-reserve-clause-too_long c =
    let read = batch_seen c.self.inside.is_batch c.self.view_is in (
      λ h. absurd (other_cause _ c.from_residual.ensures.1 h),
      λ h. absurd (not_too_long read _ _ (c.len.ensures ∙ c.self.inside.entries.ok.0) c.in-Some.ensures.0 h),
    )

pub overflow_add-count : goal.overflow_add-count
overflow_add-count c =
    let read = batch_seen c.self.inside.is_batch c.self.view_is in
    omega (arith, length-items-le read, c.count-count.ensures)

pub write_count-requires : goal.write_count-requires
write_count-requires c =
    let read = batch_seen c.self.inside.is_batch c.self.view_is in
    omega (arith, length-batch read, c.deref_mut.ensures.len, c.put_entry.new.entries.ok.0, ap length c.put_entry.ensures, length-append {A = ℕ}, ap length c.in_ok-reserve.ensures.items)

pub invariant_of-self-inside-2 : goal.invariant_of-self-inside-2
unfolding change_bytes
invariant_of-self-inside-2 c =
    let read = batch_seen c.self.inside.is_batch c.self.view_is in
    let item = item_of c.args.key.now (option_copied c.args.value) in (
      (
        with_item c.args.self.now item,
        counted _ c.count-count.result item read (omega (arith, c.in-Some.ensures.0, read.limited, c.len.ensures, c.self.inside.entries.ok.0)) c.count-count.ensures
            (c.put_entry.ensures ∙ ap (λ z. z ++ change_bytes item) c.in_ok-reserve.ensures.items) c.put_entry.new.entries.ok.0 c.deref_mut.ensures.value c.write_count.ensures,
      ),
      tt,
    )

pub returns-clause-ok : goal.returns-clause-ok
unfolding change_bytes
returns-clause-ok c =
    let read = batch_seen c.self.inside.is_batch c.self.view_is in
    let item = item_of c.args.key.now (option_copied c.args.value) in
    let made =
    counted c.put_entry.new.entries.len c.count-count.result item read (omega (arith, c.in-Some.ensures.0, read.limited, c.len.ensures, c.self.inside.entries.ok.0)) c.count-count.ensures
    (c.put_entry.ensures ∙ ap (λ z. z ++ change_bytes item) c.in_ok-reserve.ensures.items) c.put_entry.new.entries.ok.0 c.deref_mut.ensures.value c.write_count.ensures in
    search (batch_is, rules)

pub returns-clause-too_long : goal.returns-clause-too_long
unfolding change_bytes
returns-clause-too_long c =
    let read = batch_seen c.self.inside.is_batch c.self.view_is in
    (λ h. absurd h, not_too_long read _ _ (c.len.ensures ∙ c.self.inside.entries.ok.0) c.in-Some.ensures.0)
