use Rattle.std.proofs.Common.{◌∙◌, ◌<◌, ap, length}
use Rattle.leveldb_iter.proofs.SnapshotLemmas.{newest_next}
use Rattle.leveldb_iter.proofs.snapshot.SnapshotList.newest.Goals as goal

pub loop-one-preserved : goal.loop-one-preserved
loop-one-preserved c =
    let held = c.args.self.now.held in
    let same = c.deref-one-items.ensures.value ∙ ap (λ v. v.held) c.self.view_is in
    let below : c.loop-one.one-index < length held = rw same at c.loop-one-test.true in
    rw c.max-greatest.ensures (rw same
    (newest_next held c.loop-one.one-index c.loop-one.greatest (record { number = 0; sequence = 0 }) below c.loop-one.invariant))
