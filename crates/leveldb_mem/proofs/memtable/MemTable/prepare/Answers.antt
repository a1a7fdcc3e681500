use Rattle.std.proofs.Common.{◌∙◌, length, ap, arith}
use Rattle.std.specs.Prelude.{max}
use Rattle.std.proofs.lemmas.Result.{on_ok_weaker, IfErr-weaker}
use Rattle.leveldb_mem.specs.MemTable.{FailsToPrepare, FailsToNumber, bytes_in}
use Rattle.leveldb_mem.proofs.MemTableLemmas.{bytes_in-batch, batch-le, prepares}
use Rattle.leveldb_mem.proofs.memtable.MemTable.prepare.Goals as goal

pub returns-clause-kept : goal.returns-clause-kept
returns-clause-kept g c =
    let old = c.args.self.now.kept in
    let items = c.args.batch.now.items in
    let kept = c.reserve.ensures.kept in
    let batch = c.contents.ensures in
    record {
      entries = kept.entries;
      ok = on_ok_weaker c.reserve.result (λ p. record { places = omega (arith, p.0, c.count.ensures); bytes = omega (arith, p.1, bytes_in-batch batch) }) kept.ok;
      made = on_ok_weaker c.reserve.result (λ p. p.0 ∙ ap (λ n. max old.places n) c.count.ensures) kept.ok;
      places = kept.places;
      bytes = kept.kept_bytes;
      cause = IfErr-weaker c.reserve.result (FailsToNumber old c.count.result (length c.contents.result.now)) (FailsToPrepare old (length items) (bytes_in items))
          (λ status why. prepares old (length items) (bytes_in items) (length c.contents.result.now) (batch-le batch) status (rw c.count.ensures at why)) kept.cause;
    }
