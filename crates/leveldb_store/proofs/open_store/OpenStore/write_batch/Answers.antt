use Rattle.std.proofs.Common.{◌≡◌, ◌≤◌, List, length, ap, subst, arith}
use Rattle.leveldb_base.specs.History.{Item}
use Rattle.leveldb_mem.proofs.WriteBatchLemmas.{length-batch_bytes}
use Rattle.std.proofs.lemmas.Result.{err_from_is_err_and}
use Rattle.leveldb_mem.specs.WriteBatch.{Batch, batch_bytes, max_length}
use Rattle.leveldb_store.proofs.Keeping.SoundWriteLemmas.{batch_sound, part_sound, prepare_sound}
use Rattle.leveldb_store.proofs.Writing.WriteBatchLemmas.{can_be_inserted, wrote_all, wrote_nothing, wrote_part}
use Rattle.leveldb_store.proofs.open_store.OpenStore.write_batch.Goals as goal

-- ---- what is written

pub returns-in_err-prepare-clause-writes : goal.returns-in_err-prepare-clause-writes
returns-in_err-prepare-clause-writes g c =
    let p = err_from_is_err_and c.from_residual.result c.from_residual.ensures.1 in
    let prepares = c.in_err-prepare.ensures in
    rw (p.1, p.2)
    (wrote_nothing g.E.Env (g.C.Cmp.cmp c.args.self.now.cmp) c.args.self.now c.args.env.now c.args.batch c.args.sync _ c.prepare.new.self c.prepare.new.batch prepares
    c.in_err-prepare.field-0.0 prepares.cause)

pub returns-in_err-log_batch-clause-writes : goal.returns-in_err-log_batch-clause-writes
returns-in_err-log_batch-clause-writes g c =
    let p = err_from_is_err_and c.from_residual-in_err-log_batch.result c.from_residual-in_err-log_batch.ensures.1 in
    rw (p.1, p.2)
    (wrote_part g.E.Env (g.C.Cmp.cmp c.args.self.now.cmp) c.args.self.now c.args.env.now c.args.batch c.args.sync c.prepare.new.self c.prepare.new.batch c.in_ok-prepare.ensures
    c.log_batch.ensures.encoded c.log_batch.ensures.bytes c.log_batch.new.self c.log_batch.new.env c.in_err-log_batch.field-0.0 c.in_err-log_batch.ensures.logs)

pub insert-requires : goal.insert-requires
insert-requires g c =
    can_be_inserted g.E.Env (g.C.Cmp.cmp c.args.self.now.cmp) c.args.self.now c.args.env.now c.args.batch c.args.sync c.prepare.new.self c.prepare.new.batch c.in_ok-prepare.ensures
    c.log_batch.ensures.encoded c.log_batch.ensures.bytes c.log_batch.new.self c.log_batch.new.env c.in_ok-log_batch.ensures.logs

pub returns-clause-writes : goal.returns-clause-writes
returns-clause-writes g c =
    wrote_all g.E.Env (g.C.Cmp.cmp c.args.self.now.cmp) c.args.self.now c.args.env.now c.args.batch c.args.sync c.prepare.new.self c.prepare.new.batch c.in_ok-prepare.ensures
    c.log_batch.ensures.encoded c.log_batch.ensures.bytes c.log_batch.new.self c.log_batch.new.env c.in_ok-log_batch.ensures.logs c.requires.usable c.insert.new.self c.insert.ensures

-- ---- time and bytes, and what breaks the store

pub returns-in_err-prepare-clause-sound : goal.returns-in_err-prepare-clause-sound
returns-in_err-prepare-clause-sound g c =
    let p = err_from_is_err_and c.from_residual.result c.from_residual.ensures.1 in
    rw (p.1, p.2)
    (prepare_sound g.E.Env (g.C.Cmp.cmp c.args.self.now.cmp) c.args.self.now c.args.env.now c.args.batch _ c.prepare.new.self c.prepare.new.batch c.in_err-prepare.ensures c.in_err-prepare.field-0.0)

pub returns-in_err-log_batch-clause-sound : goal.returns-in_err-log_batch-clause-sound
returns-in_err-log_batch-clause-sound g c =
    let p = err_from_is_err_and c.from_residual-in_err-log_batch.result c.from_residual-in_err-log_batch.ensures.1 in
    rw (p.1, p.2)
    (part_sound g.E.Env (g.C.Cmp.cmp c.args.self.now.cmp) c.args.self.now c.args.env.now c.args.batch _ c.prepare.new.self c.prepare.new.batch c.in_ok-prepare.ensures
    (batch_bytes c.prepare.new.batch.first c.prepare.new.batch.items) c.log_batch.ensures.bytes c.args.sync c.log_batch.new.self c.log_batch.new.env c.in_err-log_batch.field-0.0
    c.in_err-log_batch.ensures.logs)

pub returns-clause-sound : goal.returns-clause-sound
returns-clause-sound g c =
    batch_sound g.E.Env (g.C.Cmp.cmp c.args.self.now.cmp) c.args.self.now c.args.env.now c.args.batch _ c.prepare.new.self c.prepare.new.batch c.in_ok-prepare.ensures
    (batch_bytes c.prepare.new.batch.first c.prepare.new.batch.items) c.log_batch.ensures.bytes c.args.sync c.log_batch.new.self c.log_batch.new.env c.insert.new.self
    c.in_ok-log_batch.ensures.logs

-- ---- its length

pub returns-clause-short : goal.returns-clause-short
returns-clause-short g c =
    let items : c.prepare.new.batch.items ≡ c.args.batch.items =
    ap (λ (b : Batch). b.items) c.in_ok-prepare.ensures.ok in
    let limited : length (batch_bytes c.prepare.new.batch.first c.args.batch.items) ≤ max_length =
    subst (λ (list : List Item). length (batch_bytes c.prepare.new.batch.first list) ≤ max_length) items
    c.log_batch.ensures.encoded.limited in
    omega (
      arith,
      limited,
      length-batch_bytes c.prepare.new.batch.first c.args.batch.items,
      length-batch_bytes 0 c.args.batch.items,
    )
