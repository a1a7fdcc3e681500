use Rattle.std.proofs.Common.{◌∙◌, arith, subst, sym}
use Rattle.leveldb_base.specs.History.{AreUpTo}
use Rattle.leveldb_mem.proofs.EntryLemmas.{new_after}
use Rattle.leveldb_store.proofs.Logs.ReplayLogLemmas.{TakesBatch-none, TakesBatch-some, no_room_left}
use Rattle.leveldb_store.proofs.opening.replay_log.ReplayedLog.add_batch.Goals as goal
use Rattle.leveldb_store.proofs.opening.replay_log.ReplayedLog.add_batch.Goals.{then-count-gt0, else-count-gt0}

pub insert_prepared-requires-clause-new : goal.insert_prepared-requires-clause-new
insert_prepared-requires-clause-new g c =
    let above = c.requires.follows.above in
    new_after c.args.self.now.last c.prepare.new.self.kept.entries c.sequence.result c.args.batch.now.items
    (subst (AreUpTo c.args.self.now.last) (sym c.prepare.ensures.kept.entries) c.requires.up_to) (omega (arith, c.sequence.ensures, above))

pub returns-clause-ok : goal.returns-clause-ok
returns-clause-ok g c =
    let places = no_room_left c.args.self.now.rest.kept.places c.prepare.new.self.kept.places c.insert_prepared.new.self.kept.places c.sequence.result c.args.batch.now.items
    c.in_ok-prepare.ensures.kept.made c.insert_prepared.ensures.adds.places in
    elim c.if-count-gt0.branch [
      | then-count-gt0 w ↦ rw w.self-is (TakesBatch-some c.args.self.now c.args.batch.now c.insert_prepared.new.self c.prepare.new.self.kept.entries c.sequence.result c.requires.follows c.sequence.ensures
          c.prepare.ensures.kept.entries c.insert_prepared.ensures.adds.gains c.insert_prepared.ensures.adds.grows places (c.insert_prepared.ensures.cmp ∙ c.prepare.ensures.cmp) _ (omega (arith, w.if-count-gt0, c.count.ensures))
          (omega (arith, w.sequence-then-count-gt0.ensures, w.count-then-count-gt0.ensures, w.from.ensures)))
      | else-count-gt0 w ↦ rw w.self-is (TakesBatch-none c.args.self.now c.args.batch.now c.insert_prepared.new.self c.prepare.new.self.kept.entries c.sequence.result c.requires.follows c.sequence.ensures
          c.prepare.ensures.kept.entries c.insert_prepared.ensures.adds.gains c.insert_prepared.ensures.adds.grows places (c.insert_prepared.ensures.cmp ∙ c.prepare.ensures.cmp) (omega (arith, w.if-count-gt0, c.count.ensures)))
    ]
