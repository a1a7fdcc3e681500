use Rattle.std.proofs.Common.{◌<◌, refl, subst, inl, inr}
use Rattle.std.specs.List.{All}
use Rattle.std.proofs.lemmas.Result.{IfOk-from_err}
use Rattle.leveldb_table.proofs.BlockCheckLemmas.{no_block_short, no_block_parts, held_parts}
use Rattle.leveldb_table.proofs.RefusalLemmas.{IfErr-passed, IfErr-refused, IfOk-refused}
use Rattle.leveldb_table.proofs.block.Block.new.Goals as goal

pub returns-in_default-clause-damage : goal.returns-in_default-clause-damage
returns-in_default-clause-damage g c = λ _. no_block_short (g.C.Cmp.cmp c.args.cmp) c.args.contents c.as_slice-bytes.result.now c.as_slice-bytes.ensures c.in_default.ensures.limit

pub invariant_of-result : goal.invariant_of-result
invariant_of-result g c = (
  held_parts c.args.contents c.as_slice-bytes.result.now c.as_slice-bytes.ensures c.in-Some.limit c.in-Some.ensures.limit c.in-Some.limit refl
      (g.C.Cmp.accepts c.args.cmp) (g.C.Cmp.cmp c.args.cmp) c.in-Some-2.accepted (subst (λ z. All (λ byte. byte < 256) z) c.as_slice-bytes.ensures c.in-Some.ensures.bytes) (rw c.in-Some-2.is at c.in_ok-accepted.ensures.found),
  tt,
)

pub returns-in-None-clause-damage : goal.returns-in-None-clause-damage
returns-in-None-clause-damage g c =
    λ _. no_block_parts c.args.contents c.as_slice-bytes.result.now c.as_slice-bytes.ensures c.in-Some.limit c.in-Some.ensures.limit c.in-Some.limit refl
    (g.C.Cmp.cmp c.args.cmp) (rw c.in-None.is at c.in_ok-accepted.ensures.found)

pub returns-in_default-clause-ok : goal.returns-in_default-clause-ok
returns-in_default-clause-ok g c = IfOk-refused _ _ c.damaged.result c.damaged.ensures

pub returns-in_err-accepted-clause-ok : goal.returns-in_err-accepted-clause-ok
returns-in_err-accepted-clause-ok g c = IfOk-from_err _ _ c.from_residual.ensures.0

pub returns-in-None-clause-ok : goal.returns-in-None-clause-ok
returns-in-None-clause-ok g c = IfOk-refused _ _ c.damaged-in-None.result c.damaged-in-None.ensures

pub returns-in_default-clause-encoded : goal.returns-in_default-clause-encoded
returns-in_default-clause-encoded g c = IfOk-refused _ _ c.damaged.result c.damaged.ensures

pub returns-in_err-accepted-clause-encoded : goal.returns-in_err-accepted-clause-encoded
returns-in_err-accepted-clause-encoded g c = IfOk-from_err _ _ c.from_residual.ensures.0

pub returns-in-None-clause-encoded : goal.returns-in-None-clause-encoded
returns-in-None-clause-encoded g c = IfOk-refused _ _ c.damaged-in-None.result c.damaged-in-None.ensures

pub returns-in_default-clause-same_contents : goal.returns-in_default-clause-same_contents
returns-in_default-clause-same_contents g c = IfOk-refused _ _ c.damaged.result c.damaged.ensures

pub returns-in_err-accepted-clause-same_contents : goal.returns-in_err-accepted-clause-same_contents
returns-in_err-accepted-clause-same_contents g c = IfOk-from_err _ _ c.from_residual.ensures.0

pub returns-in-None-clause-same_contents : goal.returns-in-None-clause-same_contents
returns-in-None-clause-same_contents g c = IfOk-refused _ _ c.damaged-in-None.result c.damaged-in-None.ensures

pub returns-in_default-clause-same_order : goal.returns-in_default-clause-same_order
returns-in_default-clause-same_order g c = IfOk-refused _ _ c.damaged.result c.damaged.ensures

pub returns-in_err-accepted-clause-same_order : goal.returns-in_err-accepted-clause-same_order
returns-in_err-accepted-clause-same_order g c = IfOk-from_err _ _ c.from_residual.ensures.0

pub returns-in-None-clause-same_order : goal.returns-in-None-clause-same_order
returns-in-None-clause-same_order g c = IfOk-refused _ _ c.damaged-in-None.result c.damaged-in-None.ensures

pub returns-in_default-clause-cause : goal.returns-in_default-clause-cause
returns-in_default-clause-cause g c = IfErr-refused _ _ c.damaged.result (λ status code. inl code) c.damaged.ensures

pub returns-in-None-clause-cause : goal.returns-in-None-clause-cause
returns-in-None-clause-cause g c = IfErr-refused _ _ c.damaged-in-None.result (λ status code. inl code) c.damaged-in-None.ensures

pub returns-in_err-accepted-clause-cause : goal.returns-in_err-accepted-clause-cause
returns-in_err-accepted-clause-cause g c = IfErr-passed _ c.from_residual.result c.from_residual.ensures.1 (inr c.in_err-accepted.ensures.memory)
