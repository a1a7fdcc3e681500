-- Each command is a call of the engine, whose result the reply tells.
use Rattle.std.proofs.Common.{[], Ok, Err, append-nil, map, refl, sym, ◌∙◌}
use Rattle.std.proofs.lemmas.List.{length-map}
use Rattle.rusty_leveldb.specs.Engines.Serves.{snapshot_of}
use Rattle.rusty_leveldb.proofs.shell.runs.answer.Goals as goal

pub returns-in-Put : goal.returns-in-Put
returns-in-Put g c = rw c.in-Put.is (
  c.put.result,
  (c.reply_of.ensures (map snapshot_of c.args.taken.now.items), refl),
  (rw (c.deref.ensures.value, c.deref-in-Put.ensures.value) at c.put.ensures),
)

pub returns-in-Delete : goal.returns-in-Delete
returns-in-Delete g c = rw c.in-Delete.is (
  c.delete.result,
  (c.reply_of-in-Delete.ensures (map snapshot_of c.args.taken.now.items), refl),
  (rw c.deref-in-Delete.ensures.value at c.delete.ensures),
)

pub returns-in-Write : goal.returns-in-Write
returns-in-Write g c = rw c.in-Write.is (
  c.write.result,
  (c.reply_of-in-Write.ensures (map snapshot_of c.args.taken.now.items), refl),
  (rw c.deref-in-Write.ensures.value at c.write.ensures),
)

pub returns-in-Get : goal.returns-in-Get
returns-in-Get g c = rw c.in-Get.is (
  c.get.result,
  (c.looked_up.ensures (map snapshot_of c.args.taken.now.items), refl),
  (rw c.deref-in-Get.ensures.value at c.get.ensures),
)

pub returns-in-GetAt : goal.returns-in-GetAt
returns-in-GetAt g c = rw c.in-GetAt.is (
  c.get_at.result,
  (c.looked_up-in-GetAt.ensures (map snapshot_of c.args.taken.now.items), refl),
  (rw (c.deref-in-GetAt.ensures.value, c.deref-in-GetAt-2.ensures.value) at c.get_at.ensures),
)

pub returns-in-Release : goal.returns-in-Release
returns-in-Release g c = rw c.in-Release.is (
  c.release.result,
  (c.reply_of-in-Release.ensures (map snapshot_of c.args.taken.now.items), refl),
  (rw c.deref-in-Release.ensures.value at (c.release.ensures c.args.env.now)),
)

pub returns-in-Compact : goal.returns-in-Compact
returns-in-Compact g c = rw c.in-Compact.is (
  c.compact_range.result,
  (c.reply_of-in-Compact.ensures (map snapshot_of c.args.taken.now.items), refl),
  (rw (c.deref-in-Compact.ensures.value, c.deref-in-Compact-2.ensures.value) at c.compact_range.ensures),
)

pub returns-in-Flush : goal.returns-in-Flush
returns-in-Flush g c = rw c.in-Flush.is (
  c.flush.result,
  (c.reply_of-in-Flush.ensures (map snapshot_of c.args.taken.now.items), refl),
  c.flush.ensures,
)

pub returns-in-Close : goal.returns-in-Close
returns-in-Close g c = rw c.in-Close.is (
  c.close.result,
  (c.reply_of-in-Close.ensures (map snapshot_of c.args.taken.now.items), refl),
  c.close.ensures,
)

pub returns-in-Ok : goal.returns-in-Ok
returns-in-Ok g c =
    let ok = c.in-Ok.ensures.ok in
    rw c.in-Snap.is (
      Ok ok.1,
      (ok.0 ∙ sym (length-map c.args.taken.now.items snapshot_of), snapshot_of ok.1, refl),
      ok.2,
      ok.3 c.args.env.now,
    )

pub returns-in-Err : goal.returns-in-Err
returns-in-Err g c =
    let err = c.in-Err.ensures.err in
    rw c.in-Snap.is (
      Err c.in-Err.status,
      refl,
      err.0 ∙ sym (append-nil c.args.taken.now.items),
      err.1 c.args.env.now,
    )

pub returns-in-Ok-walk : goal.returns-in-Ok-walk
returns-in-Ok-walk g c = rw c.in-Walk.is (
  c.in-Ok-walk.steps.items,
  Ok tt,
  (refl, refl),
  (rw (c.deref-in-Walk.ensures.value, c.deref-in-Walk-2.ensures.value) at c.in-Ok-walk.ensures),
)

pub returns-in-Err-walk : goal.returns-in-Err-walk
returns-in-Err-walk g c = rw c.in-Walk.is (
  [],
  Err c.in-Err-walk.status,
  (refl, refl),
  (rw (c.deref-in-Walk.ensures.value, c.deref-in-Walk-2.ensures.value) at c.in-Err-walk.ensures),
)
