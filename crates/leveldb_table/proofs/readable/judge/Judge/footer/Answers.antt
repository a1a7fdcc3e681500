use Rattle.std.proofs.Common.{ap, arith, length, ◌∙◌, refl}
use Rattle.std.proofs.lemmas.Result.{IfOk-from_err}
use Rattle.leveldb_table.proofs.FooterLemmas.{ends_long}
use Rattle.leveldb_table.proofs.ReadableFileLemmas.{footer_read, never_damaged}
use Rattle.leveldb_table.proofs.TableBlockLemmas.{KeepsDisk-refl, reads_ok, reads_refused, reads_weaker}
use Rattle.leveldb_table.proofs.readable.judge.Judge.footer.Goals as goal

pub returns-in_default-clause-ok : goal.returns-in_default-clause-ok
returns-in_default-clause-ok g c = λ bytes has same meta index ends.
    c.in_default.ensures (omega (arith, same, ends_long ends))

pub returns-clause-ok : goal.returns-clause-ok
returns-clause-ok g c = λ bytes has same.
    let read = c.in_ok-bytes.ensures in
    let value = c.as_slice.ensures in
    footer_read bytes c.in-Some.offset c.decode.result (omega (
      arith,
      c.in-Some.ensures.0,
      c.in-Some.ensures.1,
    )) same (ap length value ∙ read.size) (value ∙ read.ok bytes has)
    c.decode.ensures

pub returns-in_default-clause-reads : goal.returns-in_default-clause-reads
returns-in_default-clause-reads g c = reads_ok g.E.Env (KeepsDisk-refl g.E.Env c.args.env.now) refl

pub returns-in_err-bytes-clause-reads : goal.returns-in_err-bytes-clause-reads
returns-in_err-bytes-clause-reads g c =
    reads_weaker g.E.Env _ (never_damaged g.E.Env c.in-Some.offset 48 c.args.self.now.size (omega (arith, c.in-Some.ensures.0, c.in-Some.ensures.1)))
    (reads_refused g.E.Env c.from_residual.result c.from_residual.ensures.1 c.in_err-bytes.ensures.reads)

pub returns-in_err-bytes-clause-ok : goal.returns-in_err-bytes-clause-ok
returns-in_err-bytes-clause-ok g c = IfOk-from_err _ _ c.from_residual.ensures.0

pub returns-clause-reads : goal.returns-clause-reads
returns-clause-reads g c =
    let read = c.in_ok-bytes.ensures.reads in
    reads_ok g.E.Env read.kept_disk read.cause.ok
