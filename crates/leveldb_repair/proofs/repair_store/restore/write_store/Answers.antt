use Rattle.std.proofs.Common.{◌∙◌, arith, sym}
use Rattle.std.proofs.lemmas.Result.{err_from_is_err_and}
use Rattle.leveldb_repair.proofs.RepairWriteLemmas.{ended, next_has_one, no_memory, unwritten, used_up}
use Rattle.leveldb_version_set.specs.Repairs.Repairing.{repaired_edit}
use Rattle.leveldb_repair.specs.WriteFound.{files_of_level_one}
use Rattle.leveldb_repair.proofs.repair_store.restore.write_store.Goals as goal

pub returns-in_err-made : goal.returns-in_err-made
returns-in_err-made g c = λ from leaves over.
    let failed = err_from_is_err_and c.from_residual.result c.from_residual.ensures.1 in
    let rises = c.write_found.ensures.numbers.rises in
    let next = c.requires in
    rw (failed.1, failed.2) (unwritten _ g.E.Env c.args.plan.now.store.now c.args.plan.now.greatest g.W.Walk _ _ from c.args.found leaves over _ (omega (arith, rises, next)) c.write_found.ensures.fits
    (rw next at c.in_err-made.ensures.writes over.moves))

pub returns-then-next : goal.returns-then-next
returns-then-next g c = λ from leaves over.
    let failed = err_from_is_err_and c.err.result c.err.ensures.code in
    let rises = c.write_found.ensures.numbers.rises in
    let next = c.requires in
    rw failed.1 (used_up _ g.E.Env c.args.plan.now.store.now c.args.plan.now.greatest g.W.Walk _ _ from c.args.found leaves over (omega (arith, rises, next))
    (sym c.next_file_num-next.ensures ∙ c.if-next.true)
    (rw next at c.in_ok-made.ensures.writes over.moves).changes
    (rw next at c.in_ok-made.ensures.writes over.moves).parts
    (rw next at c.in_ok-made.ensures.writes over.moves).few failed.2)

pub returns-in_err-edit : goal.returns-in_err-edit
returns-in_err-edit g c = λ from leaves over.
    let failed = err_from_is_err_and c.from_residual-in_err-edit.result c.from_residual-in_err-edit.ensures.1 in
    let rises = c.write_found.ensures.numbers.rises in
    let next = c.requires in
    rw (failed.1, failed.2) (no_memory _ g.E.Env c.args.plan.now.store.now c.args.plan.now.greatest g.W.Walk _ _ from c.args.found leaves over (omega (arith, rises, next)) c.write_found.ensures.fits
    (rw next at c.in_ok-made.ensures.writes over.moves).changes
    (rw next at c.in_ok-made.ensures.writes over.moves).parts c.in_err-edit.ensures.memory)

pub returns : goal.returns
returns g c = λ from leaves over.
    let rises = c.write_found.ensures.numbers.rises in
    let next = c.requires in
    let writes = rw next at c.in_ok-made.ensures.writes over.moves in
    let ok = writes.ok in
    let edit_is = c.in_ok-edit.ensures.ok ∙ (λ i. repaired_edit (c.id.ensures i) (c.next_file_num-next.ensures i) c.args.found.last (files_of_level_one c.in_ok-made.made.items)) in
    ended _ g.E.Env c.args.plan.now.store.now c.args.plan.now.greatest g.W.Walk _ _ from c.args.found leaves over (rw next at rises)
    (next_has_one c.next_file_num-next.ensures c.write_found.ensures.fits c.if-next.false) writes.changes writes.parts ok.1 ok.2 (rw c.id.ensures at c.id.utf8) c.make_manifest_of.result
    (rw edit_is at c.make_manifest_of.ensures)
