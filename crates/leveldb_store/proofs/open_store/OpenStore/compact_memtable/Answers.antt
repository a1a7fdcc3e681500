use Rattle.std.proofs.Common.{◌≡◌, ◌∙◌, Ok, arith, false, refl, sym, true}
use Rattle.std.proofs.lemmas.Result.{err_from_is_err_and}
use Rattle.leveldb_version.specs.Tables.TableCache.{files_at}
use Rattle.leveldb_store.proofs.Keeping.KeptEntriesLemmas.{entries_of_table, entries_same, entries_then, entries_tidied}
use Rattle.leveldb_store.proofs.Keeping.LoggedEditsLemmas.{no_tables, one_table}
use Rattle.leveldb_store.proofs.Keeping.NoNewEntriesLemmas.{adds_none, adds_none_removed, steps_add_none}
use Rattle.leveldb_store.proofs.Keeping.OpenTablesLemmas.{closes_after, closes_none, no_removal}
use Rattle.leveldb_store.proofs.Logs.ReplayFilesLemmas.{GivesNumbers-refl}
use Rattle.leveldb_store.proofs.Writing.RoomLemmas.{number_tables_made, step_in_order, step_of_none, step_of_table, step_of_tidying, step_then, usable_tables_made}
use Rattle.leveldb_store.proofs.open_store.OpenStore.compact_memtable.Goals as goal

pub tidy_up-requires : goal.tidy_up-requires
tidy_up-requires g c =
    let old = c.args.self.now in
    record {
      usable = usable_tables_made g.E.Env (g.C.Cmp.cmp old.cmp) _ old c.args.env.now c.requires.usable (Ok tt) c.write_level0_table.new.self c.write_level0_table.new.env
          c.in_ok-write_level0_table.ensures.tables;
    }

-- ---- none wait

pub returns-then-not-has_imm-clause-imm : goal.returns-then-not-has_imm-clause-imm
returns-then-not-has_imm-clause-imm g c = record {
  step = step_of_none g.E.Env (g.C.Cmp.cmp c.args.self.now.cmp) _ c.args.self.now c.args.env.now c.requires.usable;
  none_waits = c.if-not-has_imm.ensures.0 refl;
  numbers = omega arith;
  waits = tt;
  mem = refl;
}

pub returns-then-not-has_imm-clause-removes : goal.returns-then-not-has_imm-clause-removes
returns-then-not-has_imm-clause-removes g c = (refl, refl)

pub returns-then-not-has_imm-clause-tables : goal.returns-then-not-has_imm-clause-tables
returns-then-not-has_imm-clause-tables g c = record {
  entries = entries_same g.E.Env _ c.args.self.now c.args.env.now;
  none_new = λ modelled meaning agrees w. adds_none (g.C.Cmp.cmp c.args.self.now.cmp) meaning c.args.self.now (files_at g.E.Env c.args.env.now);
  logs = no_tables 1 (GivesNumbers-refl c.args.self.now.set);
  closes = no_removal g.E.Env c.args.self.now.set c.args.env.now c.args.env.now c.args.tables.now (λ modelled. refl);
}

-- ---- no table is made

pub returns-in_err-write_level0_table-clause-imm : goal.returns-in_err-write_level0_table-clause-imm
returns-in_err-write_level0_table-clause-imm g c =
    let p = err_from_is_err_and c.from_residual.result c.from_residual.ensures.1 in
    let failed = c.in_err-write_level0_table.ensures in
    rw (p.1, p.2)
    (record {
      step = step_of_table g.E.Env _ _ c.args.self.now c.args.env.now c.requires.usable
          (λ none. let never : true ≡ false = c.if-not-has_imm.ensures.1 none in absurd (cc never)) _ c.write_level0_table.new.self c.write_level0_table.new.env
          failed.tables failed.keeps failed.sound;
      none_waits = tt;
      numbers = tt;
      waits = λ none. let never : true ≡ false = c.if-not-has_imm.ensures.1 (sym failed.tables.waits ∙ none) in absurd (cc never);
      mem = failed.tables.mem;
    })

pub returns-in_err-write_level0_table-clause-tables : goal.returns-in_err-write_level0_table-clause-tables
returns-in_err-write_level0_table-clause-tables g c =
    let p = err_from_is_err_and c.from_residual.result c.from_residual.ensures.1 in
    let failed = c.in_err-write_level0_table.ensures.tables in
    rw (p.1, p.2)
    (record {
      entries = entries_of_table g.E.Env _ c.args.self.now c.args.env.now _ _ c.write_level0_table.new.self c.write_level0_table.new.env failed tt;
      none_new = tt;
      logs = tt;
      closes = closes_none g.E.Env c.args.self.now.set c.write_level0_table.new.self.set failed.tables c.args.tables.now;
    })

-- ---- one is made

pub returns-clause-imm : goal.returns-clause-imm
returns-clause-imm g c =
    let old = c.args.self.now in
    let from = c.args.env.now in
    let order = g.C.Cmp.cmp in
    let mid = c.write_level0_table.new.self in
    let at = c.write_level0_table.new.env in
    let to = c.tidy_up.new.env in
    let made = c.in_ok-write_level0_table.ensures in
    let tables_made = step_of_table g.E.Env (order old.cmp) _ old from c.requires.usable
    (λ none. let never : true ≡ false = c.if-not-has_imm.ensures.1 none in absurd (cc never)) (Ok tt) mid at made.tables made.keeps made.sound in
    record {
      step = step_then g.E.Env (order old.cmp) _ old mid from at tables_made (λ status never. absurd never) (Ok tt) mid to
          (step_in_order g.E.Env order _ (λ cmp status. ⊥) mid at (Ok tt) mid to tables_made.rest.cmp
          (step_of_tidying g.E.Env (order mid.cmp) _ mid at to tables_made.usable c.tidy_up.ensures.tidies c.tidy_up.ensures.time c.tidy_up.ensures.bytes));
      none_waits = made.tables.none_waits;
      numbers = number_tables_made g.E.Env (order old.cmp) _ old from c.requires.usable mid at made.tables;
      waits = tt;
      mem = made.tables.mem;
    }

pub returns-clause-removes : goal.returns-clause-removes
returns-clause-removes g c = record {
  at = c.write_level0_table.new.env;
  later = c.in_ok-write_level0_table.ensures.tables.cause.later;
  removes = c.tidy_up.ensures.removes;
}

pub returns-clause-tables : goal.returns-clause-tables
returns-clause-tables g c =
    let old = c.args.self.now in
    let from = c.args.env.now in
    let order = g.C.Cmp.cmp in
    let mid = c.write_level0_table.new.self in
    let at = c.write_level0_table.new.env in
    let to = c.tidy_up.new.env in
    let made = c.in_ok-write_level0_table.ensures in
    let tables_made = step_of_table g.E.Env (order old.cmp) _ old from c.requires.usable
    (λ none. let never : true ≡ false = c.if-not-has_imm.ensures.1 none in absurd (cc never)) (Ok tt) mid at made.tables made.keeps made.sound in
    record {
      entries = entries_then g.E.Env _ made.tables.rest.store made.tables.rest.numbers refl (omega arith)
          (entries_of_table g.E.Env _ old from _ (Ok tt) mid at made.tables made.added)
          (entries_tidied g.E.Env _ (order mid.cmp) mid at to c.tidy_up.ensures.tidies);
      none_new = steps_add_none g.E.Env _ (order old.cmp) old mid mid from at to tables_made made.none_new
          (λ modelled meaning agrees w. adds_none_removed (order old.cmp) meaning mid (files_at g.E.Env at) (files_at g.E.Env to) w (c.tidy_up.ensures.tidies.run modelled).has);
      logs = one_table made.tables.logged;
      closes = closes_after g.E.Env old.set mid.set made.tables.rest.store made.tables.rest.numbers made.tables.tables c.tidy_up.ensures.closes;
    }
