use Rattle.std.proofs.Common.{inl, inr, subst, sym}
use Rattle.std.proofs.lemmas.Result.{IfOk-from_err}
use Rattle.leveldb_table.specs.TableBlock.{IsUndecodedBy}
use Rattle.leveldb_table.proofs.RefusalLemmas.{IfErr-passed, IfErr-refused}
use Rattle.leveldb_table.proofs.table_block.decoded.Goals as goal

pub returns-in_err-get-clause-ok : goal.returns-in_err-get-clause-ok
returns-in_err-get-clause-ok g c = IfOk-from_err _ _ c.from_residual.ensures.0

pub returns-in_err-get-clause-cause : goal.returns-in_err-get-clause-cause
returns-in_err-get-clause-cause g c =
    let unset = c.in_err-get.ensures.unset in
    IfErr-passed _ c.from_residual.result c.from_residual.ensures.1 (inr (subst (λ coding. IsUndecodedBy coding c.args.id c.args.stored.items c.in_err-get.field-0.0) (sym unset.0) unset.1))

pub returns-in_err-freeze-in-Plain-clause-ok : goal.returns-in_err-freeze-in-Plain-clause-ok
returns-in_err-freeze-in-Plain-clause-ok g c = IfOk-from_err _ _ c.from_residual-in_err-freeze-in-Plain.ensures.0

pub returns-in_err-freeze-in-Plain-clause-cause : goal.returns-in_err-freeze-in-Plain-clause-cause
returns-in_err-freeze-in-Plain-clause-cause g c = IfErr-refused _ _ c.from_residual-in_err-freeze-in-Plain.result (λ status memory. inl memory) c.from_residual-in_err-freeze-in-Plain.ensures.1

pub returns-in_err-copy-in-Boxed-clause-ok : goal.returns-in_err-copy-in-Boxed-clause-ok
returns-in_err-copy-in-Boxed-clause-ok g c = IfOk-from_err _ _ c.from_residual-in_err-copy-in-Boxed.ensures.0

pub returns-in_err-copy-in-Boxed-clause-cause : goal.returns-in_err-copy-in-Boxed-clause-cause
returns-in_err-copy-in-Boxed-clause-cause g c = IfErr-refused _ _ c.from_residual-in_err-copy-in-Boxed.result (λ status memory. inl memory) c.from_residual-in_err-copy-in-Boxed.ensures.1

pub returns-in_err-from_vec-in-Boxed-clause-ok : goal.returns-in_err-from_vec-in-Boxed-clause-ok
returns-in_err-from_vec-in-Boxed-clause-ok g c = IfOk-from_err _ _ c.from_residual-in_err-from_vec-in-Boxed.ensures.0

pub returns-in_err-from_vec-in-Boxed-clause-cause : goal.returns-in_err-from_vec-in-Boxed-clause-cause
returns-in_err-from_vec-in-Boxed-clause-cause g c = IfErr-refused _ _ c.from_residual-in_err-from_vec-in-Boxed.result (λ status memory. inl memory) c.from_residual-in_err-from_vec-in-Boxed.ensures.1

pub returns-in_err-decode-in-Boxed-clause-ok : goal.returns-in_err-decode-in-Boxed-clause-ok
returns-in_err-decode-in-Boxed-clause-ok g c = IfOk-from_err _ _ c.from_residual-in_err-decode-in-Boxed.ensures.0
