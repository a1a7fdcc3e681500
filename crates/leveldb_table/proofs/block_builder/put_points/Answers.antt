use Rattle.std.proofs.Common.{◌+◌, ◌++◌, ◌∷◌, ◌∙◌, ap, append_assoc, arith, flat_map, length}
use Rattle.std.proofs.lemmas.List.{take_all}
use Rattle.leveldb_base.specs.Varint.{little}
use Rattle.leveldb_table.proofs.RefusalLemmas.{IfErr-passed, IfErr-refused, OnOk-refused}
use Rattle.leveldb_table.proofs.TableLemmas.{OnOk-with}
use Rattle.leveldb_table.proofs.block_builder.put_points.Goals as goal

pub returns-in_err-reserve-clause-ok : goal.returns-in_err-reserve-clause-ok
returns-in_err-reserve-clause-ok c = OnOk-refused _ _ c.from_residual.result c.from_residual.ensures.1

pub returns-in_err-reserve-clause-memory : goal.returns-in_err-reserve-clause-memory
returns-in_err-reserve-clause-memory c = IfErr-refused _ _ c.from_residual.result (λ status memory. memory) c.from_residual.ensures.1

pub returns-in_err-put_number-clause-ok : goal.returns-in_err-put_number-clause-ok
returns-in_err-put_number-clause-ok c = OnOk-refused _ _ c.from_residual-in_err-put_number.result c.from_residual-in_err-put_number.ensures.1

pub returns-in_err-put_number-clause-memory : goal.returns-in_err-put_number-clause-memory
returns-in_err-put_number-clause-memory c = IfErr-passed _ c.from_residual-in_err-put_number.result c.from_residual-in_err-put_number.ensures.1 c.in_err-put_number.ensures.memory

pub returns-clause-memory : goal.returns-clause-memory
returns-clause-memory c = c.put_number-2.ensures.memory

pub returns-clause-ok : goal.returns-clause-ok
returns-clause-ok c =
    let old = c.args.buffer.now.items in
    let points = c.args.points.now.items in
    let buffer = c.loop-point.buffer.items in
    let all = take_all c.loop-point.point-index points (omega (arith, c.loop-point-test.false, ap length c.deref-point-items.ensures.value)) in
    OnOk-with c.put_number-2.result _ _ (λ put.
    put ∙ ap (λ n. buffer ++ little 4 n) (omega (arith, c.len-2.ensures, c.args.points.now.ok.0))
    ∙ ap (λ z. z ++ little 4 (length points + 1)) (c.loop-point.invariant ∙ ap (λ z. old ++ flat_map (little 4) (0 ∷ z)) all)
    ∙ append_assoc old (flat_map (little 4) (0 ∷ points)) (little 4 (length points + 1))) c.put_number-2.ensures.ok
