use Rattle.std.proofs.Common.{inl, inr}
use Rattle.std.proofs.lemmas.Result.{err_from_is_err_and}
use Rattle.leveldb_table.proofs.table_builder.builder_core.metaindex.Goals as goal

pub returns-in_err-add_handle-clause-cause : goal.returns-in_err-add_handle-clause-cause
returns-in_err-add_handle-clause-cause c =
    let p = err_from_is_err_and c.from_residual-in_err-add_handle.result c.from_residual-in_err-add_handle.ensures.1 in
    rw (p.1, p.2) (elim c.in_err-add_handle.ensures.cause [ inl code ↦ inr (code, rw (c.spaced-builder.ensures.none, c.as_bytes.ensures.value, c.in_ok-key.ensures.ok) at (c.in_err-add_handle.ensures.too_large code)) | inr memory ↦ inl memory ])
