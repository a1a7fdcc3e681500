use Rattle.std.proofs.Common.{rules}
use Rattle.leveldb_mem.proofs.WriteBatchLemmas.{entries_seen, none_left, first_left, others_left, length-others_left}
use Rattle.leveldb_mem.proofs.write_batch.WriteBatchIterIterator.next.Goals as goal

pub returns-in_err-item-clause-steps : goal.returns-in_err-item-clause-steps
returns-in_err-item-clause-steps c =
    let none = none_left c.args.self.now (entries_seen c.self.inside.are_entries c.self.view_is) c.in_err-item.ensures in
    rw c.from_residual.ensures (none, none)

pub invariant_of-self-inside : goal.invariant_of-self-inside
invariant_of-self-inside c =
    let first = first_left c.args.self.now (entries_seen c.self.inside.are_entries c.self.view_is) _ _ c.in_ok-item.ensures in
    ((first.0, first.1), tt)

pub returns-clause-steps : goal.returns-clause-steps
returns-clause-steps c =
    let first = first_left c.args.self.now (entries_seen c.self.inside.are_entries c.self.view_is) _ _ c.in_ok-item.ensures in
    let left = first.2 in let following = first.1 in
    search (others_left, rules)

pub returns-clause-goes : goal.returns-clause-goes
returns-clause-goes c =
    let first = first_left c.args.self.now (entries_seen c.self.inside.are_entries c.self.view_is) _ _ c.in_ok-item.ensures in
    let left = first.2 in let following = first.1 in
    record { on = λ _. (tt, tt, search (length-others_left, rules)); keeps = tt; rests = λ _. tt }
