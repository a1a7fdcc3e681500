use Rattle.std.proofs.Common.{◌∙◌, refl, option_copied}
use Rattle.leveldb_mem.specs.WriteBatch.{item_of}
use Rattle.leveldb_mem.proofs.EntryLemmas.{inserting_from, inserting_next, inserted_all, next_fits, next_room, next_new}
use Rattle.leveldb_mem.proofs.memtable.MemTable.insert_prepared.Goals as goal

pub loop-key-init : goal.loop-key-init
loop-key-init g c = record {
  can = tt;
  ends = tt;
  cmp = refl;
  inserting = inserting_from c.args.self.now.kept c.args.first c.args.batch.now.items _ (c.into_iter-key-iterator.ensures.into_iter_gives ∙ c.iter-key-items.ensures.items) c.requires.room c.requires.numbered c.requires.new;
}

pub add_prepared-requires-clause-numbered : goal.add_prepared-requires-clause-numbered
add_prepared-requires-clause-numbered g c =
    next_fits _ _ _ c.loop-key.sequence _ (item_of c.in-Some.key.now (option_copied c.in-Some.value)) c.next.new.self c.in-Some.ensures.steps c.loop-key.invariant.inserting

pub add_prepared-requires-clause-room : goal.add_prepared-requires-clause-room
add_prepared-requires-clause-room g c =
    next_room _ _ _ c.loop-key.sequence _ (item_of c.in-Some.key.now (option_copied c.in-Some.value)) c.next.new.self c.in-Some.ensures.steps c.loop-key.invariant.inserting

pub add_prepared-requires-clause-new : goal.add_prepared-requires-clause-new
add_prepared-requires-clause-new g c =
    next_new _ _ _ c.loop-key.sequence _ (item_of c.in-Some.key.now (option_copied c.in-Some.value)) c.next.new.self c.in-Some.ensures.steps c.loop-key.invariant.inserting

pub loop-key-preserved : goal.loop-key-preserved
loop-key-preserved g c = record {
  can = tt;
  ends = tt;
  cmp = c.add_prepared.ensures.cmp ∙ c.loop-key.invariant.cmp;
  inserting = inserting_next _ _ _ c.loop-key.sequence _ (item_of c.in-Some.key.now (option_copied c.in-Some.value)) c.next.new.self c.in-Some.ensures.steps c.loop-key.invariant.inserting
      c.add_prepared.new.self.kept c.add_prepared.ensures.adds c.add_prepared.ensures.grows;
}

pub returns-clause-adds : goal.returns-clause-adds
returns-clause-adds g c = inserted_all _ _ _ _ _ c.in-None.ensures.steps.0 c.loop-key.invariant.inserting
