use Rattle.std.proofs.Common.{ap}
use Rattle.leveldb_mem.specs.WriteBatch.{Batch}
use Rattle.store_uses.proofs.SaysLemmas.{nothing_found, put_is_found}
use Rattle.store_uses.proofs.says.put_and_get.Goals as goal

pub returns-in_err-put : goal.returns-in_err-put
returns-in_err-put g c store holds =
    nothing_found _ _ c.from_residual.result c.from_residual.ensures.1

pub returns-in_err-db : goal.returns-in_err-db
returns-in_err-db g c store holds =
    nothing_found _ _ c.from_residual-in_err-db.result c.from_residual-in_err-db.ensures.1

pub returns-in_err-write : goal.returns-in_err-write
returns-in_err-write g c store holds =
    nothing_found _ _ c.from_residual-in_err-write.result c.from_residual-in_err-write.ensures.1

pub returns-in_err-found : goal.returns-in_err-found
returns-in_err-found g c store holds =
    nothing_found _ _ c.from_residual-in_err-found.result c.from_residual-in_err-found.ensures.1

pub returns-in_err-abandon : goal.returns-in_err-abandon
returns-in_err-abandon g c store holds =
    nothing_found _ _ c.from_residual-in_err-abandon.result c.from_residual-in_err-abandon.ensures.1

pub returns : goal.returns
returns g c store holds =
    put_is_found _ _ _ _ store c.args.env.now holds c.batches_are_atomic.ensures.later
    c.in_ok-db.ensures.says.0 c.in_ok-db.db.env.now c.write.new.self.env.now c.get.new.self.env.now
    c.in_ok-db.db.state c.write.new.self.state c.get.new.self.state c.args.batch.items
    c.put.new.self.items c.args.key.now c.args.value.now c.in_ok-found.found
    (ap (λ (batch : Batch). batch.items) (c.in_ok-put.ensures.ok)) c.in_ok-db.ensures.says.1
    c.in_ok-db.ensures.says.2 c.in_ok-write.ensures.says c.in_ok-found.ensures.says
