use Rattle.std.proofs.Common.{◌≡◌, sym}
use Rattle.std.specs.Prelude.{Some, slice_get}
use Rattle.leveldb_iter.proofs.SnapshotLemmas.{numbers_left, releases_at}
use Rattle.leveldb_iter.proofs.snapshot.SnapshotList.release.Goals as goal

pub invariant_of-self : goal.invariant_of-self
invariant_of-self c =
    let at : slice_get c.self.inside.held.items c.in-Some.index ≡ Some c.args.snapshot = rw c.as_slice.ensures.value at c.in-Some.ensures.found in
    rw c.remove.ensures.items (numbers_left c.self.inside.held.items c.self.inside.given c.in-Some.index c.args.snapshot at c.self.invariant)

pub returns-clause-releases : goal.returns-clause-releases
returns-clause-releases c =
    let at : slice_get c.self.inside.held.items c.in-Some.index ≡ Some c.args.snapshot = rw c.as_slice.ensures.value at c.in-Some.ensures.found in
    rw (sym c.self.view_is) (rw c.remove.ensures.items (releases_at c.self.inside.held.items c.self.inside.given c.in-Some.index c.args.snapshot at))
