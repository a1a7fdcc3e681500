use Rattle.std.proofs.Common.{ℕ, Err}
use Rattle.std.proofs.lemmas.Result.{IfOk-from_err}
use Rattle.leveldb_env.specs.contracts.compressor.CompressorListCompressors.TheImpl
use Rattle.leveldb_table.proofs.TableBlockLemmas.{lacks_stored, lacks_undecoded, lacks_block, damaged_or_memory, located_as, reads_ok, reads_own, reads_passed, reads_weaker, reads_refused}
use Rattle.leveldb_table.proofs.RefusalLemmas.{IfOk-refused}
use Rattle.leveldb_table.proofs.table_block.read_block_into.Goals as goal

pub returns-in_err-id-clause-reads : goal.returns-in_err-id-clause-reads
returns-in_err-id-clause-reads g c =
    let codings = (TheImpl.ghosts g.dyn-1).codings c.args.compressors.now in
    reads_refused g.E.Env c.from_residual.result c.from_residual.ensures.1
    (reads_weaker g.E.Env _ (lacks_stored g.E.Env codings (g.C.Cmp.cmp c.args.cmp) c.args.env.now c.args.file.now c.args.location) c.in_err-id.ensures.reads)

pub returns-in_err-decoded-clause-reads : goal.returns-in_err-decoded-clause-reads
returns-in_err-decoded-clause-reads g c =
    let codings = (TheImpl.ghosts g.dyn-1).codings c.args.compressors.now in
    let before = c.in_ok-id.ensures.reads in
    reads_passed g.E.Env c.from_residual-in_err-decoded.result before.kept_disk before.cause.ok c.from_residual-in_err-decoded.ensures.1
    (lacks_undecoded g.E.Env codings (g.C.Cmp.cmp c.args.cmp) c.args.env.now c.args.file.now c.args.location c.in_ok-id.ensures.ok c.in_err-decoded.ensures.cause)

pub returns-in-Ok-clause-reads : goal.returns-in-Ok-clause-reads
returns-in-Ok-clause-reads g c =
    let before = c.in_ok-id.ensures.reads in
    reads_ok g.E.Env before.kept_disk before.cause.ok

pub returns-in-Err-clause-reads : goal.returns-in-Err-clause-reads
returns-in-Err-clause-reads g c =
    let codings = (TheImpl.ghosts g.dyn-1).codings c.args.compressors.now in
    let before = c.in_ok-id.ensures.reads in
    let found = damaged_or_memory {T = ℕ} (Err c.in-Err.status) c.in-Err.ensures.damage c.in-Err.ensures.cause in
    reads_own g.E.Env c.located.result before.kept_disk before.cause.ok c.located.ensures (λ status how.
    lacks_block g.E.Env codings (g.C.Cmp.cmp c.args.cmp) c.args.env.now c.args.file.now c.args.location c.in_ok-id.ensures.ok c.in_ok-decoded.ensures.ok status
    (located_as how found))

pub returns-in_err-id-clause-ok : goal.returns-in_err-id-clause-ok
returns-in_err-id-clause-ok g c = IfOk-from_err _ _ c.from_residual.ensures.0

pub returns-in_err-id-clause-order : goal.returns-in_err-id-clause-order
returns-in_err-id-clause-order g c = IfOk-from_err _ _ c.from_residual.ensures.0

pub returns-in_err-id-clause-encoded : goal.returns-in_err-id-clause-encoded
returns-in_err-id-clause-encoded g c = IfOk-from_err _ _ c.from_residual.ensures.0

pub returns-in_err-decoded-clause-ok : goal.returns-in_err-decoded-clause-ok
returns-in_err-decoded-clause-ok g c = IfOk-from_err _ _ c.from_residual-in_err-decoded.ensures.0

pub returns-in_err-decoded-clause-order : goal.returns-in_err-decoded-clause-order
returns-in_err-decoded-clause-order g c = IfOk-from_err _ _ c.from_residual-in_err-decoded.ensures.0

pub returns-in_err-decoded-clause-encoded : goal.returns-in_err-decoded-clause-encoded
returns-in_err-decoded-clause-encoded g c = IfOk-from_err _ _ c.from_residual-in_err-decoded.ensures.0

pub returns-in-Err-clause-ok : goal.returns-in-Err-clause-ok
returns-in-Err-clause-ok g c = IfOk-refused _ _ c.located.result c.located.ensures

pub returns-in-Err-clause-order : goal.returns-in-Err-clause-order
returns-in-Err-clause-order g c = IfOk-refused _ _ c.located.result c.located.ensures

pub returns-in-Err-clause-encoded : goal.returns-in-Err-clause-encoded
returns-in-Err-clause-encoded g c = IfOk-refused _ _ c.located.result c.located.ensures

pub returns-in-Ok-clause-order : goal.returns-in-Ok-clause-order
returns-in-Ok-clause-order g c = c.in-Ok.ensures.same_order

pub returns-in-Ok-clause-encoded : goal.returns-in-Ok-clause-encoded
returns-in-Ok-clause-encoded g c = c.in-Ok.ensures.encoded
