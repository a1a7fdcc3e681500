use Rattle.std.proofs.Common.{inr, refl, sym, ◌∙◌, arith}
use Rattle.std.proofs.lemmas.Result.{IfOk-from_err}
use Rattle.std.proofs.lemmas.List.{length-drop}
use Rattle.leveldb_table.proofs.FooterLemmas.{ends_at, ends_long, ends_with}
use Rattle.leveldb_table.proofs.TableBlockLemmas.{KeepsDisk-refl, reads_own, reads_ok, reads_refused, reads_weaker}
use Rattle.leveldb_table.proofs.RefusalLemmas.{IfOk-refused}
use Rattle.leveldb_table.proofs.table_reader.open.read_footer.Goals as goal

pub returns-in_default-clause-reads : goal.returns-in_default-clause-reads
returns-in_default-clause-reads g c =
    reads_own g.E.Env c.too_short.result (KeepsDisk-refl g.E.Env c.args.env.now) refl c.too_short.ensures (λ status code. inr (
      code,
      λ bytes has meta index ends. c.in_default.ensures (ends_long ends),
    ))

pub returns-in-Some-decode-clause-ok : goal.returns-in-Some-decode-clause-ok
returns-in-Some-decode-clause-ok g c = λ bytes has.
    let read = c.in_ok-bytes.ensures in
    let decoded = c.in-Some-decode.ensures in
    ends_at c.in-Some.offset (omega (arith, c.in-Some.ensures.0, c.in-Some.ensures.1)) decoded.0 decoded.1 read.size (read.ok bytes has) (sym c.as_slice.ensures ∙ decoded.2)

pub returns-clause-reads : goal.returns-clause-reads
returns-clause-reads g c =
    let read = c.in_ok-bytes.ensures in
    reads_own g.E.Env c.corruption.result read.reads.kept_disk read.reads.cause.ok c.corruption.ensures (λ status code. inr (
      code,
      λ bytes has meta index ends.
          c.in-None.ensures meta index ends.meta_fits ends.index_fits (c.as_slice.ensures ∙ read.ok bytes has ∙ ends_with c.in-Some.offset (omega (arith, c.in-Some.ensures.0, c.in-Some.ensures.1)) ends),
    ))

pub returns-in_default-clause-ok : goal.returns-in_default-clause-ok
returns-in_default-clause-ok g c = IfOk-refused _ _ c.too_short.result c.too_short.ensures

pub returns-in_err-bytes-clause-reads : goal.returns-in_err-bytes-clause-reads
returns-in_err-bytes-clause-reads g c =
    reads_weaker g.E.Env _ (λ status damaged. (damaged.0, λ bytes has meta index ends. omega (arith, damaged.1 bytes has, length-drop c.in-Some.offset bytes, ends.within, c.in-Some.ensures.0, c.in-Some.ensures.1)))
    (reads_refused g.E.Env c.from_residual.result c.from_residual.ensures.1 c.in_err-bytes.ensures.reads)

pub returns-in_err-bytes-clause-ok : goal.returns-in_err-bytes-clause-ok
returns-in_err-bytes-clause-ok g c = IfOk-from_err _ _ c.from_residual.ensures.0

pub returns-in-Some-decode-clause-reads : goal.returns-in-Some-decode-clause-reads
returns-in-Some-decode-clause-reads g c =
    let read = c.in_ok-bytes.ensures.reads in
    reads_ok g.E.Env read.kept_disk read.cause.ok

pub returns-clause-ok : goal.returns-clause-ok
returns-clause-ok g c = IfOk-refused _ _ c.corruption.result c.corruption.ensures
