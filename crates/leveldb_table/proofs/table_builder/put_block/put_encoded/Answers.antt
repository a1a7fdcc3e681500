use Rattle.std.proofs.Common.{inl, inr, refl}
use Rattle.std.proofs.lemmas.Result.{IfOk-from_err}
use Rattle.leveldb_table.proofs.RefusalLemmas.{IfErr-passed}
use Rattle.leveldb_table.proofs.table_builder.put_block.put_encoded.Goals as goal

pub returns-in_err-compressor-clause-ok : goal.returns-in_err-compressor-clause-ok
returns-in_err-compressor-clause-ok g c = IfOk-from_err _ _ c.from_residual.ensures.0

pub returns-in_err-encode-clause-ok : goal.returns-in_err-encode-clause-ok
returns-in_err-encode-clause-ok g c = IfOk-from_err _ _ c.from_residual-in_err-encode.ensures.0

pub returns-in_err-compressor-clause-cause : goal.returns-in_err-compressor-clause-cause
returns-in_err-compressor-clause-cause g c = IfErr-passed _ c.from_residual.result c.from_residual.ensures.1 (inl (refl, c.in_err-compressor.ensures.unset.0, c.in_err-compressor.ensures.unset.1))

pub returns-in_err-compressor-clause-err : goal.returns-in_err-compressor-clause-err
returns-in_err-compressor-clause-err g c = IfErr-passed _ c.from_residual.result c.from_residual.ensures.1 (inr refl)

pub returns-in_err-encode-clause-err : goal.returns-in_err-encode-clause-err
returns-in_err-encode-clause-err g c = IfErr-passed _ c.from_residual-in_err-encode.result c.from_residual-in_err-encode.ensures.1 (inr refl)
