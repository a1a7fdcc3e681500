use Rattle.std.proofs.Common.{rules}
use Rattle.std.proofs.lemmas.Result.{on_err_weaker}
use Rattle.leveldb_mem.specs.WriteBatch.{BatchOf}
use Rattle.leveldb_mem.proofs.WriteBatchLemmas.{batch_is, batch_seen}
use Rattle.leveldb_mem.proofs.write_batch.WriteBatch.set_contents.Goals as goal

pub returns-clause-err : goal.returns-clause-err
returns-clause-err c =
    let read = batch_seen c.self.inside.is_batch c.self.view_is in
    on_err_weaker c.replace.result
    (λ same. let kept : BatchOf c.replace.new.entries.items c.args.self.now.first c.args.self.now.items = rw same read in search (batch_is, rules))
    c.replace.ensures.err
