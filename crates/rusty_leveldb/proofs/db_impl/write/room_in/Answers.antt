-- There is room, and the compaction that is due is done, if one is; no room is made; or it is made
-- and the store compacts what it asks for.
use Rattle.std.proofs.Common.{◌≡◌, ◌∙◌, Err, Ok, ap, false, refl, subst, sym, true}
use Rattle.std.proofs.lemmas.Result.{IfOk-from_err, err_from_is_err_and}
use Rattle.leveldb_store.specs.Keeping.KeptEntries.{CompactsOnceAtMost}
use Rattle.leveldb_store.specs.Keeping.LoggedEdits.{LogsByScore}
use Rattle.leveldb_store.specs.Keeping.OpenStore.{OpenStoreValue}
use Rattle.leveldb_store.specs.Writing.Removal.{but_removal}
use Rattle.rusty_leveldb.proofs.Walks.ChargesLemmas.{charged_tables}
use Rattle.rusty_leveldb.proofs.Engines.RoomInLemmas.{due_compacted, room_compacted, room_not_made, room_there}
use Rattle.rusty_leveldb.proofs.Engines.TidyLemmas.{ends_charged}
use Rattle.rusty_leveldb.proofs.db_impl.write.room_in.Goals as goal

pub returns-then-not-look_for_compaction-clause-makes :
    goal.returns-then-not-look_for_compaction-clause-makes
returns-then-not-look_for_compaction-clause-makes g c = room_there _ g.E.Env _ c.args.store.now
    c.args.env.now c.args.tables.now _ refl _ _ _
    (λ full. absurd (let never : false ≡ true = c.if-not-is_full.ensures.1 full in cc))
    (sym c.if-not-look_for_compaction.ensures.due) c.requires.usable

pub returns-then-not-is_full-clause-makes : goal.returns-then-not-is_full-clause-makes
returns-then-not-is_full-clause-makes g c =
    let asked = c.compact_if_asked.ensures.asked in
    due_compacted _ g.E.Env _ c.args.store.now c.args.env.now c.args.tables.now _ refl _ _ _
    (λ full. absurd (let never : false ≡ true = c.if-not-is_full.ensures.1 full in cc))
    (sym c.if-not-look_for_compaction.ensures.due) c.requires.usable
    (but_removal c.compact_if_asked.result) c.compact_if_asked.new.self c.compact_if_asked.new.env
    c.compact_if_asked.new.tables c.compact_if_asked.ensures.compacts asked.by_score asked.asks
    (sym c.requires.order) c.compact_if_asked.ensures.keeps.once

pub returns-in_err-made-clause-makes : goal.returns-in_err-made-clause-makes
returns-in_err-made-clause-makes g c =
    let p = err_from_is_err_and c.from_residual.result c.from_residual.ensures.1 in
    let failed = c.in_err-made.ensures in
    rw (p.1, p.2) (room_not_made _ g.E.Env _ c.args.store.now c.args.env.now c.args.tables.now _
    refl _ _ _ (sym c.requires.order) _ c.make_room.new.self c.make_room.new.env
    c.make_room.new.tables failed.makes failed.sound failed.tables.closes failed.tables.entries)

pub returns-in_err-compacted-clause-makes : goal.returns-in_err-compacted-clause-makes
returns-in_err-compacted-clause-makes g c =
    let p = err_from_is_err_and c.from_residual-in_err-compacted.result
    c.from_residual-in_err-compacted.ensures.1 in
    let made = c.in_ok-made.ensures in
    let charged = c.charge.ensures.version in
    rw (p.1, p.2) (room_compacted _ g.E.Env _ c.args.store.now c.args.env.now c.args.tables.now _ refl _ _ _
    (sym c.requires.order) (c.if-not-is_full.ensures.0 refl) c.make_room.new.self
    c.make_room.new.env c.make_room.new.tables made.makes made.sound made.tables.closes
    made.tables.none_new made.tables.logs made.tables.entries (Err c.in_err-compacted.field-0.0)
    c.compact_if_asked-2.new.self c.compact_if_asked-2.new.env c.compact_if_asked-2.new.tables
    (charged_tables _ g.E.Env _ c.make_room.new.self
    c.make_room.new.env c.make_room.new.tables _ made.makes.usable _ c.charge.new.store charged
    (Err c.in_err-compacted.field-0.0) c.compact_if_asked-2.new.self c.compact_if_asked-2.new.env
    c.compact_if_asked-2.new.tables c.in_err-compacted.ensures.compacts)
    (ap g.C.Cmp.cmp made.makes.rest.cmp ∙ sym c.requires.order)
    tt c.in_err-compacted.ensures.asked.asks
    c.charge.new.store charged
    (subst (λ (s : OpenStoreValue g.row.C.Denot). CompactsOnceAtMost (g.C.Cmp.cmp s.cmp)
    g.E.Env.models_disk c.charge.new.store (g.E.Env.observed c.make_room.new.env)
    c.compact_if_asked-2.new.self (g.E.Env.observed c.compact_if_asked-2.new.env)) charged
    c.in_err-compacted.ensures.keeps.once))

pub returns-clause-makes : goal.returns-clause-makes
returns-clause-makes g c =
    let made = c.in_ok-made.ensures in
    let charged = c.charge.ensures.version in
    room_compacted _ g.E.Env _ c.args.store.now c.args.env.now c.args.tables.now _ refl _ _ _
    (sym c.requires.order) (c.if-not-is_full.ensures.0 refl) c.make_room.new.self
    c.make_room.new.env c.make_room.new.tables made.makes made.sound made.tables.closes
    made.tables.none_new made.tables.logs made.tables.entries (Ok tt)
    c.compact_if_asked-2.new.self c.compact_if_asked-2.new.env c.compact_if_asked-2.new.tables
    (charged_tables _ g.E.Env _ c.make_room.new.self
    c.make_room.new.env c.make_room.new.tables _ made.makes.usable _ c.charge.new.store charged
    (Ok tt) c.compact_if_asked-2.new.self c.compact_if_asked-2.new.env
    c.compact_if_asked-2.new.tables c.in_ok-compacted.ensures.compacts)
    (ap g.C.Cmp.cmp made.makes.rest.cmp ∙ sym c.requires.order)
    (subst (λ (s : OpenStoreValue g.row.C.Denot).
    LogsByScore s.set c.compact_if_asked-2.new.self.set) charged
    c.in_ok-compacted.ensures.asked.by_score) c.in_ok-compacted.ensures.asked.asks
    c.charge.new.store charged
    (subst (λ (s : OpenStoreValue g.row.C.Denot). CompactsOnceAtMost (g.C.Cmp.cmp s.cmp)
    g.E.Env.models_disk c.charge.new.store (g.E.Env.observed c.make_room.new.env)
    c.compact_if_asked-2.new.self (g.E.Env.observed c.compact_if_asked-2.new.env)) charged
    c.in_ok-compacted.ensures.keeps.once)

-- ---- when a compaction was looked for

pub returns-in_err-compacted-clause-looks : goal.returns-in_err-compacted-clause-looks
returns-in_err-compacted-clause-looks g c = record {
  full = λ full. refl;
  room = λ room. absurd (room (c.if-not-is_full.ensures.0 refl));
}

pub returns-clause-looks : goal.returns-clause-looks
returns-clause-looks g c = record {
  full = λ full. refl;
  room = λ room. absurd (room (c.if-not-is_full.ensures.0 refl));
}

-- ---- the removal

pub returns-then-not-look_for_compaction-clause-removes :
    goal.returns-then-not-look_for_compaction-clause-removes
returns-then-not-look_for_compaction-clause-removes g c = (refl, refl)

pub returns-then-not-is_full-clause-removes : goal.returns-then-not-is_full-clause-removes
returns-then-not-is_full-clause-removes g c = c.compact_if_asked.ensures.removes

pub returns-in_err-made-clause-removes : goal.returns-in_err-made-clause-removes
returns-in_err-made-clause-removes g c =
    IfOk-from_err c.from_residual.result _ c.from_residual.ensures.0

pub returns-in_err-compacted-clause-removes : goal.returns-in_err-compacted-clause-removes
returns-in_err-compacted-clause-removes g c = IfOk-from_err c.from_residual-in_err-compacted.result _
    c.from_residual-in_err-compacted.ensures.0

pub returns-clause-removes : goal.returns-clause-removes
returns-clause-removes g c =
    let made = c.in_ok-made.ensures in
    let charged = c.charge.ensures.version in
    let full = c.if-not-is_full.ensures.0 refl in
    rw c.or.ensures
    (ends_charged g.E.Env c.args.store.now c.make_room.new.self c.charge.new.store
    c.compact_if_asked-2.new.self c.args.env.now c.make_room.new.env c.compact_if_asked-2.new.env
    c.in_ok-made.made c.in_ok-compacted.compacted
    (λ same. full.0 (sym (ap (λ (s : OpenStoreValue g.row.C.Denot). s.mem.entries) same)
    ∙ (made.makes.none_waits full).0))
    made.makes.cause.later (ap (λ (s : OpenStoreValue g.row.C.Denot). s.set) charged)
    (ap (λ (s : OpenStoreValue g.row.C.Denot). s.kept_to) charged) made.removes
    c.in_ok-compacted.ensures.removes)
