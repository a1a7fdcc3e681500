use Rattle.std.proofs.Common.{◌≡◌, ◌∙◌, [], List, Ok, ap, arith, inl, refl, subst, sym, ℕ}
use Rattle.std.proofs.lemmas.Result.{IfOk-from_err, err_from_is_err_and}
use Rattle.leveldb_base.specs.CmpLaws.{user_part-internal_key}
use Rattle.leveldb_base.specs.KeyTypes.{user_part}
use Rattle.leveldb_base.specs.declared.key_types.ValueType.TheVariants.{TypeValue}
use Rattle.leveldb_files.specs.Levels.Overlap.{named_range}
use Rattle.leveldb_store.proofs.Compactions.CompactLevelLemmas.{clear_alike, clear_more}
use Rattle.leveldb_store.proofs.Compactions.CompactRangeLemmas.{memory_compacted, range_then}
use Rattle.leveldb_store.proofs.Compactions.CompactedLemmas.{failed_at_once}
use Rattle.leveldb_store.proofs.Keeping.KeptEntriesLemmas.{memory_compacts, memory_same, memory_in_tables}
use Rattle.leveldb_store.proofs.Writing.RemovalLemmas.{ends_then}
use Rattle.leveldb_store.specs.Keeping.KeptEntries.{CompactsInTurn, CompactsOnceAtMost}
use Rattle.leveldb_store.specs.Keeping.OpenStore.{OpenStoreValue}
use Rattle.leveldb_store.proofs.open_store.OpenStore.compact_range.Goals as goal

-- ---- before the levels

pub returns-in_err-begin-clause-compacts : goal.returns-in_err-begin-clause-compacts
returns-in_err-begin-clause-compacts g c =
    let p = err_from_is_err_and c.from_residual.result c.from_residual.ensures.1 in
    rw (p.1, p.2)
    (record {
      keeps = failed_at_once _ g.E.Env _ c.args.self.now c.args.env.now c.args.tables.now _ _ _ (inl (inl c.in_err-begin.ensures.cause));
      tables_made = tt;
      clear = tt;
    })

pub returns-in_err-end-clause-compacts : goal.returns-in_err-end-clause-compacts
returns-in_err-end-clause-compacts g c =
    let p = err_from_is_err_and c.from_residual-in_err-end.result c.from_residual-in_err-end.ensures.1 in
    rw (p.1, p.2)
    (record {
      keeps = failed_at_once _ g.E.Env _ c.args.self.now c.args.env.now c.args.tables.now _ _ _ (inl (inl c.in_err-end.ensures.cause));
      tables_made = tt;
      clear = tt;
    })

pub returns-in_err-made-clause-compacts : goal.returns-in_err-made-clause-compacts
returns-in_err-made-clause-compacts g c =
    let p = err_from_is_err_and c.from_residual-in_err-made.result c.from_residual-in_err-made.ensures.1 in
    let failed = c.in_err-made.ensures in
    rw (p.1, p.2)
    (record {
      keeps = memory_compacted _ g.E.Env _ c.args.self.now c.args.env.now c.args.tables.now _ refl _ (sym c.requires.order) _ c.compact_memtables.new.self c.compact_memtables.new.env c.compact_memtables.new.tables failed.step failed.tables.none_new failed.tables.closes;
      tables_made = tt;
      clear = tt;
    })

pub compact_by_reads-requires : goal.compact_by_reads-requires
compact_by_reads-requires g c =
    let done = c.in_ok-made.ensures in
    record {
      usable = done.step.usable;
      order = c.requires.order ∙ sym (ap g.C.Cmp.cmp done.step.rest.cmp);
      none_waits = done.tables_made.1;
    }

pub returns-in_err-read-clause-compacts : goal.returns-in_err-read-clause-compacts
returns-in_err-read-clause-compacts g c =
    let p = err_from_is_err_and c.from_residual-in_err-read.result c.from_residual-in_err-read.ensures.1 in
    let done = c.in_ok-made.ensures in
    rw (p.1, p.2)
    (record {
      keeps = range_then _ g.E.Env _ c.args.self.now c.args.env.now c.args.tables.now _ refl _
          (memory_compacted _ g.E.Env _ c.args.self.now c.args.env.now c.args.tables.now _ refl _ (sym c.requires.order) (Ok tt) c.compact_memtables.new.self c.compact_memtables.new.env c.compact_memtables.new.tables done.step done.tables.none_new done.tables.closes)
          c.in_err-read.ensures.compacts;
      tables_made = tt;
      clear = tt;
    })

pub loop-level-init : goal.loop-level-init
loop-level-init g c =
    let done = c.in_ok-made.ensures in
    let read = c.in_ok-read.ensures in
    record {
      keeps = range_then _ g.E.Env _ c.args.self.now c.args.env.now c.args.tables.now _ refl _
          (memory_compacted _ g.E.Env _ c.args.self.now c.args.env.now c.args.tables.now _ refl _ (sym c.requires.order) (Ok tt) c.compact_memtables.new.self c.compact_memtables.new.env c.compact_memtables.new.tables done.step done.tables.none_new done.tables.closes)
          read.compacts;
      tables_made = (
        ap (λ (v : OpenStoreValue g.row.C.Denot). v.mem.entries) read.compacts.memory ∙ done.tables_made.0,
        ap (λ (v : OpenStoreValue g.row.C.Denot). v.imm) read.compacts.memory ∙ done.tables_made.1,
      );
      clear = λ level less. absurd (omega (arith, less));
      entries = memory_compacts g.E.Env _ c.args.self.now c.args.env.now
          (memory_in_tables g.E.Env _ c.args.self.now c.args.env.now c.compact_memtables.new.env done.step.rest.store done.tables.entries)
          read.compacts.memory (
            [],
            subst (λ cmp. CompactsOnceAtMost cmp g.E.Env.models_disk c.compact_memtables.new.self (g.E.Env.observed c.compact_memtables.new.env) c.compact_by_reads.new.self (g.E.Env.observed c.compact_by_reads.new.env))
                (ap g.C.Cmp.cmp done.step.rest.cmp ∙ sym c.requires.order) read.keeps.once,
          );
      removes = rw (c.or-removal.ensures) (ends_then g.E.Env c.args.self.now c.compact_memtables.new.self c.compact_by_reads.new.self c.args.env.now c.compact_memtables.new.env c.compact_by_reads.new.env c.in_ok-made.made c.in_ok-read.read done.step.cause.later done.removes read.removes);
      log = read.log ∙ done.log;
    }

-- ---- one level after another

pub compact_level-requires-clause-order : goal.compact_level-requires-clause-order
compact_level-requires-clause-order g c = c.requires.order ∙ sym (ap g.C.Cmp.cmp c.loop-level.invariant.keeps.rest.cmp)

pub compact_level-requires-clause-usable : goal.compact_level-requires-clause-usable
compact_level-requires-clause-usable g c = c.loop-level.invariant.keeps.usable

pub compact_level-requires-clause-none_waits : goal.compact_level-requires-clause-none_waits
compact_level-requires-clause-none_waits g c = c.loop-level.invariant.tables_made.1

pub returns-in_err-last-clause-compacts : goal.returns-in_err-last-clause-compacts
returns-in_err-last-clause-compacts g c =
    let p = err_from_is_err_and c.from_residual-in_err-last.result c.from_residual-in_err-last.ensures.1 in
    rw (p.1, p.2)
    (record {
      keeps = range_then _ g.E.Env _ c.args.self.now c.args.env.now c.args.tables.now _ refl _ c.loop-level.invariant.keeps c.in_err-last.ensures.compacts;
      tables_made = tt;
      clear = tt;
    })

pub loop-level-preserved : goal.loop-level-preserved
loop-level-preserved g c =
    let before = c.loop-level.invariant in
    let done = c.in_ok-last.ensures in
    let level = c.loop-level.level in
    let from = c.args.from.now in
    let to = c.args.to.now in
    let same = ap g.C.Cmp.cmp before.keeps.rest.cmp ∙ sym c.requires.order in
    let begins = ap user_part (c.internal_key.ensures ∙ c.in_ok-begin.ensures.ok) ∙ user_part-internal_key from 0 TypeValue in
    let ends = ap user_part (c.internal_key-2.ensures ∙ c.in_ok-end.ensures.ok) ∙ user_part-internal_key to 0 TypeValue in
    record {
      keeps = range_then _ g.E.Env _ c.args.self.now c.args.env.now c.args.tables.now _ refl _ before.keeps done.compacts;
      tables_made = (
        ap (λ (v : OpenStoreValue g.row.C.Denot). v.mem.entries) done.compacts.memory ∙ before.tables_made.0,
        ap (λ (v : OpenStoreValue g.row.C.Denot). v.imm) done.compacts.memory ∙ before.tables_made.1,
      );
      clear = clear_more (g.C.Cmp.cmp c.args.options.now.cmp) (named_range from to) level c.loop-level.self.set.full.added c.compact_level.new.self.set.full.added before.clear (clear_alike level c.compact_level.new.self.set.full.added same begins ends done.clear) done.above;
      entries = memory_compacts g.E.Env _ c.args.self.now c.args.env.now before.entries done.compacts.memory
          (subst (λ cmp. CompactsInTurn g.E.Env cmp c.loop-level.self c.loop-level.env c.compact_level.new.self c.compact_level.new.env)
          same done.in_turn);
      removes = rw (c.or-removal-in-loop-level.ensures) (ends_then g.E.Env c.args.self.now c.loop-level.self c.compact_level.new.self c.args.env.now c.loop-level.env c.compact_level.new.env c.loop-level.removal c.in_ok-last.last before.keeps.cause.later before.removes done.removes);
      log = done.log ∙ before.log;
    }

-- ---- what was in memory

pub returns-in_err-begin-clause-entries : goal.returns-in_err-begin-clause-entries
returns-in_err-begin-clause-entries g c = memory_same g.E.Env _ c.args.self.now c.args.env.now

pub returns-in_err-end-clause-entries : goal.returns-in_err-end-clause-entries
returns-in_err-end-clause-entries g c = memory_same g.E.Env _ c.args.self.now c.args.env.now

pub returns-in_err-made-clause-entries : goal.returns-in_err-made-clause-entries
returns-in_err-made-clause-entries g c =
    memory_in_tables g.E.Env _ c.args.self.now c.args.env.now c.compact_memtables.new.env c.in_err-made.ensures.step.rest.store c.in_err-made.ensures.tables.entries

pub returns-in_err-read-clause-entries : goal.returns-in_err-read-clause-entries
returns-in_err-read-clause-entries g c =
    let done = c.in_ok-made.ensures in
    memory_compacts g.E.Env _ c.args.self.now c.args.env.now
    (memory_in_tables g.E.Env _ c.args.self.now c.args.env.now c.compact_memtables.new.env done.step.rest.store done.tables.entries)
    c.in_err-read.ensures.compacts.memory (
      [],
      subst (λ cmp. CompactsOnceAtMost cmp g.E.Env.models_disk c.compact_memtables.new.self (g.E.Env.observed c.compact_memtables.new.env) c.compact_by_reads.new.self (g.E.Env.observed c.compact_by_reads.new.env))
          (ap g.C.Cmp.cmp done.step.rest.cmp ∙ sym c.requires.order) c.in_err-read.ensures.keeps.once,
    )

pub returns-in_err-last-clause-entries : goal.returns-in_err-last-clause-entries
returns-in_err-last-clause-entries g c =
    memory_compacts g.E.Env _ c.args.self.now c.args.env.now c.loop-level.invariant.entries c.in_err-last.ensures.compacts.memory
    (subst (λ cmp. CompactsInTurn g.E.Env cmp c.loop-level.self c.loop-level.env c.compact_level.new.self c.compact_level.new.env)
    (ap g.C.Cmp.cmp c.loop-level.invariant.keeps.rest.cmp ∙ sym c.requires.order) c.in_err-last.ensures.in_turn)

pub returns-clause-entries : goal.returns-clause-entries
returns-clause-entries g c = c.loop-level.invariant.entries

-- ---- the removal

pub returns-in_err-begin-clause-removes : goal.returns-in_err-begin-clause-removes
returns-in_err-begin-clause-removes g c = IfOk-from_err c.from_residual.result _ c.from_residual.ensures.0

pub returns-in_err-end-clause-removes : goal.returns-in_err-end-clause-removes
returns-in_err-end-clause-removes g c = IfOk-from_err c.from_residual-in_err-end.result _ c.from_residual-in_err-end.ensures.0

pub returns-in_err-made-clause-removes : goal.returns-in_err-made-clause-removes
returns-in_err-made-clause-removes g c = IfOk-from_err c.from_residual-in_err-made.result _ c.from_residual-in_err-made.ensures.0

pub returns-in_err-read-clause-removes : goal.returns-in_err-read-clause-removes
returns-in_err-read-clause-removes g c = IfOk-from_err c.from_residual-in_err-read.result _ c.from_residual-in_err-read.ensures.0

pub returns-in_err-last-clause-removes : goal.returns-in_err-last-clause-removes
returns-in_err-last-clause-removes g c = IfOk-from_err c.from_residual-in_err-last.result _ c.from_residual-in_err-last.ensures.0

pub returns-clause-removes : goal.returns-clause-removes
returns-clause-removes g c = c.loop-level.invariant.removes

-- ---- the sink of lines

pub returns-in_err-begin-clause-log : goal.returns-in_err-begin-clause-log
returns-in_err-begin-clause-log g c = refl

pub returns-in_err-end-clause-log : goal.returns-in_err-end-clause-log
returns-in_err-end-clause-log g c = refl

pub returns-in_err-made-clause-log : goal.returns-in_err-made-clause-log
returns-in_err-made-clause-log g c = c.in_err-made.ensures.log

pub returns-in_err-read-clause-log : goal.returns-in_err-read-clause-log
returns-in_err-read-clause-log g c = c.in_err-read.ensures.log ∙ c.in_ok-made.ensures.log

pub returns-in_err-last-clause-log : goal.returns-in_err-last-clause-log
returns-in_err-last-clause-log g c = c.in_err-last.ensures.log ∙ c.loop-level.invariant.log

pub returns-clause-log : goal.returns-clause-log
returns-clause-log g c = c.loop-level.invariant.log
