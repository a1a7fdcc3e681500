use Rattle.std.proofs.Common.{◌∙◌, Ok, ap, arith, inl, refl}
use Rattle.std.proofs.lemmas.Result.{IfOk-weaker, err_from_is_err_and, IfOk-from_err}
use Rattle.leveldb_version.specs.Tables.TableCache.{files_at}
use Rattle.leveldb_store.proofs.Keeping.KeptEntriesLemmas.{entries_same, entries_switched, entries_then}
use Rattle.leveldb_store.proofs.Keeping.LoggedEditsLemmas.{no_tables, two_tables}
use Rattle.leveldb_store.proofs.Keeping.NoNewEntriesLemmas.{adds_none, adds_none_in_order, steps_add_none, switch_adds_none}
use Rattle.leveldb_store.proofs.Keeping.OpenTablesLemmas.{closes_after, closes_none, closes_then, no_removal}
use Rattle.leveldb_store.proofs.Logs.ReplayFilesLemmas.{GivesNumbers-refl}
use Rattle.leveldb_store.proofs.Writing.RemovalLemmas.{ends_after, table_changes}
use Rattle.leveldb_store.proofs.Writing.RoomLemmas.{fails_first, no_room_made, room_tried, step_for, step_switched, step_tables_made, usable_switched}
use Rattle.leveldb_store.specs.Writing.Removal.{but_removal}
use Rattle.leveldb_store.proofs.open_store.OpenStore.make_room.Goals as goal

-- ---- room

pub returns-in_err-compact_memtable-clause-makes : goal.returns-in_err-compact_memtable-clause-makes
returns-in_err-compact_memtable-clause-makes g c =
    let old = c.args.self.now in
    let from = c.args.env.now in
    let cmp = g.C.Cmp.cmp old.cmp in
    let p = err_from_is_err_and c.from_residual.result c.from_residual.ensures.1 in
    let failed = c.in_err-compact_memtable.ensures.imm in
    rw (p.1, p.2)
    (no_room_made g.E.Env cmp _ _ old from _ c.compact_memtable.new.self c.compact_memtable.new.env (c.if-not-is_full.ensures.0 refl)
    (step_for g.E.Env cmp _ (fails_first g.E.Env cmp _ old from) old from _ c.compact_memtable.new.self c.compact_memtable.new.env failed.step) (inl failed.mem))

pub returns-in_err-compact_memtable-clause-sound : goal.returns-in_err-compact_memtable-clause-sound
returns-in_err-compact_memtable-clause-sound g c =
    let p = err_from_is_err_and c.from_residual.result c.from_residual.ensures.1 in
    rw (p.1, p.2) c.in_err-compact_memtable.ensures.imm.step.sound

pub returns-in_err-switch_log-clause-makes : goal.returns-in_err-switch_log-clause-makes
returns-in_err-switch_log-clause-makes g c =
    let old = c.args.self.now in
    let from = c.args.env.now in
    let order = g.C.Cmp.cmp in
    let mid = c.compact_memtable.new.self in
    let at = c.compact_memtable.new.env in
    let new = c.switch_log.new.self in
    let to = c.switch_log.new.env in
    let first = c.in_ok-compact_memtable.ensures.imm in
    let failed = c.in_err-switch_log.ensures in
    let p = err_from_is_err_and c.from_residual-in_err-switch_log.result c.from_residual-in_err-switch_log.ensures.1 in
    rw (p.1, p.2)
    (no_room_made g.E.Env (order old.cmp) _ _ old from _ new to (c.if-not-is_full.ensures.0 refl)
    (step_switched g.E.Env order _ old mid from at first.step first.numbers _ new to failed.switches failed.keeps failed.sound)
    (inl (failed.switches.err.2 ∙ first.mem)))

pub returns-in_err-switch_log-clause-sound : goal.returns-in_err-switch_log-clause-sound
returns-in_err-switch_log-clause-sound g c =
    let first = c.in_ok-compact_memtable.ensures.imm in
    let failed = c.in_err-switch_log.ensures in
    let p = err_from_is_err_and c.from_residual-in_err-switch_log.result c.from_residual-in_err-switch_log.ensures.1 in
    let step = step_switched g.E.Env g.C.Cmp.cmp _ c.args.self.now c.compact_memtable.new.self c.args.env.now c.compact_memtable.new.env first.step first.numbers _ c.switch_log.new.self c.switch_log.new.env failed.switches failed.keeps failed.sound in
    rw (p.1, p.2) step.sound

pub compact_memtable-requires-2-clause-usable : goal.compact_memtable-requires-2-clause-usable
compact_memtable-requires-2-clause-usable g c =
    let first = c.in_ok-compact_memtable.ensures.imm in
    let done = c.in_ok-switch_log.ensures in
    usable_switched g.E.Env c.compact_memtable.new.self c.compact_memtable.new.env first.step.usable (Ok tt) c.switch_log.new.self c.switch_log.new.env done.switches

pub returns-clause-makes : goal.returns-clause-makes
returns-clause-makes g c =
    let old = c.args.self.now in
    let from = c.args.env.now in
    let order = g.C.Cmp.cmp in
    let mid = c.compact_memtable.new.self in
    let at = c.compact_memtable.new.env in
    let switched = c.switch_log.new.self in
    let begun = c.switch_log.new.env in
    let new = c.compact_memtable-2.new.self in
    let to = c.compact_memtable-2.new.env in
    let result = but_removal c.compact_memtable-2.result in
    let first = c.in_ok-compact_memtable.ensures.imm in
    let done = c.in_ok-switch_log.ensures in
    let last = c.compact_memtable-2.ensures.imm in
    let second = step_switched g.E.Env order _ old mid from at first.step first.numbers (Ok tt) switched begun done.switches done.keeps done.sound in
    room_tried g.E.Env (order old.cmp) _ _ old from result new to (c.if-not-is_full.ensures.0 refl)
    (step_tables_made g.E.Env order _ old mid from at first.step first.numbers first.mem switched begun done.switches second result new to last.step)
    (ap (λ kept. kept.entries) last.mem ∙ done.switches.empty) (ap (λ kept. kept.places) last.mem ∙ done.switches.places) last.none_waits last.waits

pub returns-clause-sound : goal.returns-clause-sound
returns-clause-sound g c =
    let old = c.args.self.now in
    let from = c.args.env.now in
    let order = g.C.Cmp.cmp in
    let mid = c.compact_memtable.new.self in
    let at = c.compact_memtable.new.env in
    let switched = c.switch_log.new.self in
    let begun = c.switch_log.new.env in
    let first = c.in_ok-compact_memtable.ensures.imm in
    let done = c.in_ok-switch_log.ensures in
    let second = step_switched g.E.Env order _ old mid from at first.step first.numbers (Ok tt) switched begun done.switches done.keeps done.sound in
    let all = step_tables_made g.E.Env order _ old mid from at first.step first.numbers first.mem switched begun done.switches second (but_removal c.compact_memtable-2.result) c.compact_memtable-2.new.self c.compact_memtable-2.new.env
    c.compact_memtable-2.ensures.imm.step in
    all.sound

-- ---- the removal

pub returns-then-not-is_full-clause-removes : goal.returns-then-not-is_full-clause-removes
returns-then-not-is_full-clause-removes g c = (refl, refl)

pub returns-clause-removes : goal.returns-clause-removes
returns-clause-removes g c =
    let done = c.in_ok-switch_log.ensures.switches in
    let last = c.compact_memtable-2.ensures in
    ends_after g.E.Env c.args.self.now c.switch_log.new.self c.compact_memtable-2.new.self c.args.env.now c.switch_log.new.env c.compact_memtable-2.new.env c.compact_memtable-2.result
    (omega (arith, c.in_ok-compact_memtable.ensures.imm.step.cause.later, done.cause.later))
    (table_changes c.switch_log.new.self c.compact_memtable-2.new.self c.compact_memtable.new.self.mem (but_removal c.compact_memtable-2.result) done.waits last.imm.none_waits)
    last.removes

-- ---- the tables

pub returns-then-not-is_full-clause-tables : goal.returns-then-not-is_full-clause-tables
returns-then-not-is_full-clause-tables g c = record {
  entries = entries_same g.E.Env _ c.args.self.now c.args.env.now;
  none_new = λ modelled meaning agrees w. adds_none (g.C.Cmp.cmp c.args.self.now.cmp) meaning c.args.self.now (files_at g.E.Env c.args.env.now);
  logs = no_tables 2 (GivesNumbers-refl c.args.self.now.set);
  closes = no_removal g.E.Env c.args.self.now.set c.args.env.now c.args.env.now c.args.tables.now (λ modelled. refl);
}

pub returns-in_err-compact_memtable-clause-tables : goal.returns-in_err-compact_memtable-clause-tables
returns-in_err-compact_memtable-clause-tables g c =
    let p = err_from_is_err_and c.from_residual.result c.from_residual.ensures.1 in
    let failed = c.in_err-compact_memtable.ensures.tables in
    rw (p.1, p.2) (record { entries = failed.entries; none_new = tt; logs = tt; closes = failed.closes })

pub returns-in_err-switch_log-clause-tables : goal.returns-in_err-switch_log-clause-tables
returns-in_err-switch_log-clause-tables g c =
    let mid = c.compact_memtable.new.self in
    let at = c.compact_memtable.new.env in
    let new = c.switch_log.new.self in
    let rest = c.in_ok-compact_memtable.ensures.imm.step.rest in
    let first = c.in_ok-compact_memtable.ensures.tables in
    let switched = c.in_err-switch_log.ensures.switches in
    let p = err_from_is_err_and c.from_residual-in_err-switch_log.result c.from_residual-in_err-switch_log.ensures.1 in
    rw (p.1, p.2)
    (record {
      entries = entries_then g.E.Env _ rest.store rest.numbers switched.rest.store switched.rest.numbers first.entries
          (entries_switched g.E.Env _ mid at c.in_ok-compact_memtable.ensures.imm.none_waits _ new c.switch_log.new.env switched);
      none_new = tt;
      logs = tt;
      closes = closes_then g.E.Env c.args.self.now.set mid.set rest.store rest.numbers first.entries.live.live first.closes
          (closes_none g.E.Env mid.set new.set switched.tables c.compact_memtable.new.tables);
    })

pub returns-clause-tables : goal.returns-clause-tables
returns-clause-tables g c =
    let order = g.C.Cmp.cmp in
    let old = c.args.self.now in
    let from = c.args.env.now in
    let mid = c.compact_memtable.new.self in
    let at = c.compact_memtable.new.env in
    let switched = c.switch_log.new.self in
    let begun = c.switch_log.new.env in
    let new = c.compact_memtable-2.new.self in
    let to = c.compact_memtable-2.new.env in
    let result = but_removal c.compact_memtable-2.result in
    let one = c.in_ok-compact_memtable.ensures.imm in
    let first = c.in_ok-compact_memtable.ensures.tables in
    let done = c.in_ok-switch_log.ensures in
    let last = c.compact_memtable-2.ensures.tables in
    let second = step_switched g.E.Env order _ old mid from at one.step one.numbers (Ok tt) switched begun done.switches done.keeps done.sound in
    let rest = c.compact_memtable-2.ensures.imm.step.rest in
    record {
      entries = entries_then g.E.Env _ second.rest.store second.rest.numbers rest.store rest.numbers
          (entries_then g.E.Env _ one.step.rest.store one.step.rest.numbers done.switches.rest.store done.switches.rest.numbers first.entries
          (entries_switched g.E.Env _ mid at one.none_waits (Ok tt) switched begun done.switches))
          last.entries;
      none_new = IfOk-weaker result _ _
          (λ unit none. steps_add_none g.E.Env _ (order old.cmp) old switched new from begun to second
          (steps_add_none g.E.Env _ (order old.cmp) old mid switched from at begun one.step first.none_new (switch_adds_none g.E.Env _ (order old.cmp) mid at switched begun done.switches))
          (adds_none_in_order g.E.Env _ order switched begun new to second.rest.cmp none))
          last.none_new;
      logs = IfOk-weaker result _ _ (λ unit logs. two_tables first.logs done.switches.set logs) last.logs;
      closes = closes_then g.E.Env old.set mid.set one.step.rest.store one.step.rest.numbers first.entries.live.live first.closes
          (closes_after g.E.Env mid.set switched.set done.switches.rest.store done.switches.rest.numbers done.switches.tables last.closes);
    }

-- what else is left

pub returns-in_err-compact_memtable-clause-removes : goal.returns-in_err-compact_memtable-clause-removes
returns-in_err-compact_memtable-clause-removes g c = IfOk-from_err c.from_residual.result _ c.from_residual.ensures.0

pub returns-in_err-switch_log-clause-removes : goal.returns-in_err-switch_log-clause-removes
returns-in_err-switch_log-clause-removes g c = IfOk-from_err c.from_residual-in_err-switch_log.result _ c.from_residual-in_err-switch_log.ensures.0

pub returns-then-not-is_full-clause-log : goal.returns-then-not-is_full-clause-log
returns-then-not-is_full-clause-log g c = refl

pub returns-in_err-compact_memtable-clause-log : goal.returns-in_err-compact_memtable-clause-log
returns-in_err-compact_memtable-clause-log g c = c.in_err-compact_memtable.ensures.log

pub returns-in_err-switch_log-clause-log : goal.returns-in_err-switch_log-clause-log
returns-in_err-switch_log-clause-log g c = c.in_ok-compact_memtable.ensures.log

pub returns-clause-log : goal.returns-clause-log
returns-clause-log g c = c.compact_memtable-2.ensures.log ∙ c.in_ok-compact_memtable.ensures.log

pub switch_log-requires-clause-none_waits : goal.switch_log-requires-clause-none_waits
switch_log-requires-clause-none_waits g c = c.in_ok-compact_memtable.ensures.imm.none_waits
