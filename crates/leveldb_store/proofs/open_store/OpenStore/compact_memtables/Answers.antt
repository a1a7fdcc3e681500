use Rattle.std.proofs.Common.{◌∙◌, Ok, ap, arith}
use Rattle.std.proofs.lemmas.Result.{IfOk-from_err, IfOk-weaker, err_from_is_err_and}
use Rattle.leveldb_store.proofs.Keeping.KeptEntriesLemmas.{entries_switched, entries_then}
use Rattle.leveldb_store.proofs.Keeping.LoggedEditsLemmas.{more_tables, two_tables}
use Rattle.leveldb_store.proofs.Keeping.NoNewEntriesLemmas.{adds_none_in_order, steps_add_none, switch_adds_none}
use Rattle.leveldb_store.proofs.Keeping.OpenTablesLemmas.{closes_after, closes_none, closes_then}
use Rattle.leveldb_store.proofs.Writing.RemovalLemmas.{ends_after, on_ok_by, table_changes}
use Rattle.leveldb_store.proofs.Writing.RoomLemmas.{fails_first, step_for, step_switched, step_tables_made, usable_switched}
use Rattle.leveldb_store.specs.Writing.Removal.{but_removal}
use Rattle.leveldb_store.proofs.open_store.OpenStore.compact_memtables.Goals as goal

pub returns-in_err-removal-clause-step : goal.returns-in_err-removal-clause-step
returns-in_err-removal-clause-step g c =
    let old = c.args.self.now in
    let from = c.args.env.now in
    let cmp = g.C.Cmp.cmp old.cmp in
    let p = err_from_is_err_and c.from_residual.result c.from_residual.ensures.1 in
    let failed = c.in_err-removal.ensures.imm in
    rw (p.1, p.2)
    (step_for g.E.Env cmp _ (fails_first g.E.Env cmp _ old from) old from _ c.compact_memtable.new.self c.compact_memtable.new.env failed.step)

pub returns-in_err-switch_log-clause-step : goal.returns-in_err-switch_log-clause-step
returns-in_err-switch_log-clause-step g c =
    let first = c.in_ok-removal.ensures.imm in
    let failed = c.in_err-switch_log.ensures in
    let p = err_from_is_err_and c.from_residual-in_err-switch_log.result c.from_residual-in_err-switch_log.ensures.1 in
    rw (p.1, p.2)
    (step_switched g.E.Env g.C.Cmp.cmp _ c.args.self.now c.compact_memtable.new.self c.args.env.now c.compact_memtable.new.env first.step first.numbers _ c.switch_log.new.self c.switch_log.new.env failed.switches failed.keeps failed.sound)

pub compact_memtable-requires-2-clause-usable : goal.compact_memtable-requires-2-clause-usable
compact_memtable-requires-2-clause-usable g c =
    let first = c.in_ok-removal.ensures.imm in
    let done = c.in_ok-switch_log.ensures in
    usable_switched g.E.Env c.compact_memtable.new.self c.compact_memtable.new.env first.step.usable (Ok tt) c.switch_log.new.self c.switch_log.new.env done.switches

pub returns-clause-step : goal.returns-clause-step
returns-clause-step g c =
    let order = g.C.Cmp.cmp in
    let old = c.args.self.now in
    let from = c.args.env.now in
    let mid = c.compact_memtable.new.self in
    let at = c.compact_memtable.new.env in
    let first = c.in_ok-removal.ensures.imm in
    let done = c.in_ok-switch_log.ensures in
    let second = step_switched g.E.Env order _ old mid from at first.step first.numbers (Ok tt) c.switch_log.new.self c.switch_log.new.env done.switches done.keeps done.sound in
    step_tables_made g.E.Env order _ old mid from at first.step first.numbers first.mem c.switch_log.new.self c.switch_log.new.env done.switches second (but_removal c.compact_memtable-2.result) c.compact_memtable-2.new.self c.compact_memtable-2.new.env
    c.compact_memtable-2.ensures.imm.step

-- ---- the tables

pub returns-in_err-removal-clause-tables : goal.returns-in_err-removal-clause-tables
returns-in_err-removal-clause-tables g c =
    let p = err_from_is_err_and c.from_residual.result c.from_residual.ensures.1 in
    let failed = c.in_err-removal.ensures.tables in
    rw (p.1, p.2) (record { entries = failed.entries; none_new = tt; logs = tt; closes = failed.closes })

pub returns-then-len-eq0-clause-tables : goal.returns-then-len-eq0-clause-tables
returns-then-len-eq0-clause-tables g c =
    let first = c.in_ok-removal.ensures.tables in
    record { entries = first.entries; none_new = first.none_new; logs = more_tables 1 first.logs; closes = first.closes }

pub returns-in_err-switch_log-clause-tables : goal.returns-in_err-switch_log-clause-tables
returns-in_err-switch_log-clause-tables g c =
    let mid = c.compact_memtable.new.self in
    let at = c.compact_memtable.new.env in
    let new = c.switch_log.new.self in
    let rest = c.in_ok-removal.ensures.imm.step.rest in
    let first = c.in_ok-removal.ensures.tables in
    let switched = c.in_err-switch_log.ensures.switches in
    let p = err_from_is_err_and c.from_residual-in_err-switch_log.result c.from_residual-in_err-switch_log.ensures.1 in
    rw (p.1, p.2)
    (record {
      entries = entries_then g.E.Env _ rest.store rest.numbers switched.rest.store switched.rest.numbers first.entries
          (entries_switched g.E.Env _ mid at c.in_ok-removal.ensures.imm.none_waits _ new c.switch_log.new.env switched);
      none_new = tt;
      logs = tt;
      closes = closes_then g.E.Env c.args.self.now.set mid.set rest.store rest.numbers first.entries.live.live first.closes
          (closes_none g.E.Env mid.set new.set switched.tables c.compact_memtable.new.tables);
    })

pub returns-clause-tables : goal.returns-clause-tables
returns-clause-tables g c =
    let order = g.C.Cmp.cmp in
    let old = c.args.self.now in
    let from = c.args.env.now in
    let mid = c.compact_memtable.new.self in
    let at = c.compact_memtable.new.env in
    let switched = c.switch_log.new.self in
    let begun = c.switch_log.new.env in
    let new = c.compact_memtable-2.new.self in
    let to = c.compact_memtable-2.new.env in
    let one = c.in_ok-removal.ensures.imm in
    let first = c.in_ok-removal.ensures.tables in
    let done = c.in_ok-switch_log.ensures in
    let last = c.compact_memtable-2.ensures.tables in
    let second = step_switched g.E.Env order _ old mid from at one.step one.numbers (Ok tt) switched begun done.switches done.keeps done.sound in
    let rest = c.compact_memtable-2.ensures.imm.step.rest in
    let result = but_removal c.compact_memtable-2.result in
    record {
      entries = entries_then g.E.Env _ second.rest.store second.rest.numbers rest.store rest.numbers
          (entries_then g.E.Env _ one.step.rest.store one.step.rest.numbers done.switches.rest.store done.switches.rest.numbers first.entries
          (entries_switched g.E.Env _ mid at one.none_waits (Ok tt) switched begun done.switches))
          last.entries;
      none_new = IfOk-weaker result _ _
          (λ unit none. steps_add_none g.E.Env _ (order old.cmp) old switched new from begun to second
          (steps_add_none g.E.Env _ (order old.cmp) old mid switched from at begun one.step first.none_new (switch_adds_none g.E.Env _ (order old.cmp) mid at switched begun done.switches))
          (adds_none_in_order g.E.Env _ order switched begun new to second.rest.cmp none))
          last.none_new;
      logs = IfOk-weaker result _ _ (λ unit logs. two_tables first.logs done.switches.set logs) last.logs;
      closes = closes_then g.E.Env old.set mid.set one.step.rest.store one.step.rest.numbers first.entries.live.live first.closes
          (closes_after g.E.Env mid.set switched.set done.switches.rest.store done.switches.rest.numbers done.switches.tables last.closes);
    }

-- ---- what is in memory

pub returns-in_err-removal-clause-tables_made : goal.returns-in_err-removal-clause-tables_made
returns-in_err-removal-clause-tables_made g c =
    IfOk-from_err c.from_residual.result _ c.from_residual.ensures.0

pub returns-in_err-switch_log-clause-tables_made : goal.returns-in_err-switch_log-clause-tables_made
returns-in_err-switch_log-clause-tables_made g c =
    IfOk-from_err c.from_residual-in_err-switch_log.result _ c.from_residual-in_err-switch_log.ensures.0

pub returns-clause-tables_made : goal.returns-clause-tables_made
returns-clause-tables_made g c =
    let last = c.compact_memtable-2.ensures.imm in
    on_ok_by _ c.compact_memtable-2.result
    (IfOk-weaker (but_removal c.compact_memtable-2.result) _ _
    (λ unit none. (ap (λ mem. mem.entries) last.mem ∙ c.in_ok-switch_log.ensures.switches.empty, none)) last.none_waits)

-- ---- the removal

pub returns-in_err-removal-clause-removes : goal.returns-in_err-removal-clause-removes
returns-in_err-removal-clause-removes g c = IfOk-from_err c.from_residual.result _ c.from_residual.ensures.0

pub returns-then-len-eq0-clause-removes : goal.returns-then-len-eq0-clause-removes
returns-then-len-eq0-clause-removes g c = c.in_ok-removal.ensures.removes

pub returns-in_err-switch_log-clause-removes : goal.returns-in_err-switch_log-clause-removes
returns-in_err-switch_log-clause-removes g c =
    IfOk-from_err c.from_residual-in_err-switch_log.result _ c.from_residual-in_err-switch_log.ensures.0

pub returns-clause-removes : goal.returns-clause-removes
returns-clause-removes g c =
    let done = c.in_ok-switch_log.ensures.switches in
    let last = c.compact_memtable-2.ensures in
    ends_after g.E.Env c.args.self.now c.switch_log.new.self c.compact_memtable-2.new.self c.args.env.now c.switch_log.new.env c.compact_memtable-2.new.env c.compact_memtable-2.result
    (omega (arith, c.in_ok-removal.ensures.imm.step.cause.later, done.cause.later))
    (table_changes c.switch_log.new.self c.compact_memtable-2.new.self c.compact_memtable.new.self.mem (but_removal c.compact_memtable-2.result) done.waits last.imm.none_waits)
    last.removes

-- ---- the sink of lines

pub returns-in_err-removal-clause-log : goal.returns-in_err-removal-clause-log
returns-in_err-removal-clause-log g c = c.in_err-removal.ensures.log

pub returns-then-len-eq0-clause-log : goal.returns-then-len-eq0-clause-log
returns-then-len-eq0-clause-log g c = c.in_ok-removal.ensures.log

pub returns-in_err-switch_log-clause-log : goal.returns-in_err-switch_log-clause-log
returns-in_err-switch_log-clause-log g c = c.in_ok-removal.ensures.log

pub returns-clause-log : goal.returns-clause-log
returns-clause-log g c = c.compact_memtable-2.ensures.log ∙ c.in_ok-removal.ensures.log

pub switch_log-requires-clause-none_waits : goal.switch_log-requires-clause-none_waits
switch_log-requires-clause-none_waits g c = c.in_ok-removal.ensures.imm.none_waits
