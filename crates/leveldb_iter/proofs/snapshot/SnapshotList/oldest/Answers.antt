use Rattle.std.proofs.Common.{◌∙◌, ◌<◌, ap, length}
use Rattle.leveldb_iter.proofs.SnapshotLemmas.{oldest_next}
use Rattle.leveldb_iter.proofs.snapshot.SnapshotList.oldest.Goals as goal

pub loop-one-preserved : goal.loop-one-preserved
loop-one-preserved c =
    let held = c.args.self.now.held in
    let same = c.deref-one-items.ensures.value ∙ ap (λ v. v.held) c.self.view_is in
    let below : c.loop-one.one-index < length held = rw same at c.loop-one-test.true in
    let least = c.loop-one.invariant in
    rw c.min-least.ensures (rw same
    (oldest_next held c.loop-one.one-index c.loop-one.least (record { number = 0; sequence = 0 }) below least.0 least.1))
