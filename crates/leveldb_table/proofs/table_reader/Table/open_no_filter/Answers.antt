use Rattle.std.proofs.Common.{arith, refl, inl, inr}
use Rattle.leveldb_table.proofs.TableBlockLemmas.{reads_ok, reads_passed, reads_weaker, reads_refused}
use Rattle.leveldb_table.proofs.TableReaderLemmas.{opens_err}
use Rattle.leveldb_table.proofs.table_reader.Table.open_no_filter.Goals as goal

pub returns-in_err-footer : goal.returns-in_err-footer
returns-in_err-footer g c =
    opens_err _ c.from_residual.result c.from_residual.ensures.1
    (reads_refused g.E.Env c.from_residual.result c.from_residual.ensures.1
    (reads_weaker g.E.Env _ (λ status why. inr why) c.in_err-footer.ensures.reads)) refl

pub returns-in_err-id : goal.returns-in_err-id
returns-in_err-id g c =
    let read = c.in_ok-footer.ensures in
    let id = c.in_err-id.ensures in
    opens_err _ c.from_residual-in_err-id.result c.from_residual-in_err-id.ensures.1
    (reads_passed g.E.Env c.from_residual-in_err-id.result read.reads.kept_disk read.reads.cause.ok c.from_residual-in_err-id.ensures.1
    (inr (inl (id.cause, id.used_up.0 id.cause)))) id.err

pub returns : goal.returns
returns g c =
    let read = c.in_ok-footer.ensures in
    record {
      reads = reads_ok g.E.Env read.reads.kept_disk read.reads.cause.ok;
      ok = read.ok;
      file = refl;
      order = (refl, read.order);
      policy = refl;
      id = (c.in_ok-id.ensures.next, c.in_ok-id.ensures.given);
      id_fits = omega arith;
      err = tt;
    }
