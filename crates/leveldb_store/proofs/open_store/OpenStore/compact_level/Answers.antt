use Rattle.std.proofs.Common.{◌∙◌, [], ap, inl, refl, subst, sym}
use Rattle.std.proofs.lemmas.Result.{IfOk-from_err, err_from_is_err_and}
use Rattle.leveldb_files.specs.Levels.Summary.{files_of_level}
use Rattle.leveldb_store.proofs.Compactions.CompactLevelLemmas.{above_replaced, keeps_above, keeps_above_then, level_has_fewer}
use Rattle.leveldb_store.proofs.Compactions.CompactedLemmas.{compacts_then, failed_at_once, nothing_compacted}
use Rattle.leveldb_store.proofs.Compactions.CompactsOnceLemmas.{none_compacted}
use Rattle.leveldb_store.proofs.Keeping.KeptEntriesLemmas.{in_turn_then}
use Rattle.leveldb_store.proofs.Compactions.ReplacedFilesLemmas.{logged_replaces}
use Rattle.leveldb_store.proofs.Writing.RemovalLemmas.{ends_then}
use Rattle.leveldb_store.specs.Keeping.KeptEntries.{CompactsOnceAtMost}
use Rattle.leveldb_store.proofs.open_store.OpenStore.compact_level.Goals as goal

pub loop-removal-init : goal.loop-removal-init
loop-removal-init g c = record {
  compacts = record {
    keeps = nothing_compacted _ g.E.Env _ c.args.self.now c.args.env.now c.args.tables.now _ _ c.requires.usable;
    memory = refl;
  };
  above = keeps_above c.args.level c.args.self.now.set.full.added;
  in_turn = ([], none_compacted _ g.E.Env.models_disk c.args.self.now (g.E.Env.observed c.args.env.now));
  removes = (refl, refl);
  log = refl;
}

pub loop-removal-smaller : goal.loop-removal-smaller
loop-removal-smaller g c =
    let one = rw c.in-Some.is at c.in_ok-picked.ensures.each in
    let replaces = logged_replaces c.in_ok-last.ensures.does.logged one.0.may in
    level_has_fewer c.in_ok-picked.ensures.current one.0 one.1 c.compact_picked.new.self.set.full.added replaces

pub loop-removal-preserved : goal.loop-removal-preserved
loop-removal-preserved g c =
    let before = c.loop-removal.invariant in
    let one = rw c.in-Some.is at c.in_ok-picked.ensures.each in
    let done = c.in_ok-last.ensures in
    let replaces = logged_replaces done.does.logged one.0.may in
    record {
      compacts = compacts_then before.compacts done.compacts;
      above = keeps_above_then c.args.level c.args.self.now.set.full.added c.loop-removal.self.set.full.added c.compact_picked.new.self.set.full.added before.above
          (above_replaced c.in_ok-picked.ensures.current one.0 one.1 c.compact_picked.new.self.set.full.added replaces);
      in_turn = in_turn_then g.E.Env _ c.args.self.now c.loop-removal.self c.compact_picked.new.self c.args.env.now c.loop-removal.env c.compact_picked.new.env before.in_turn (
        [],
        subst (λ cmp. CompactsOnceAtMost cmp g.E.Env.models_disk c.loop-removal.self (g.E.Env.observed c.loop-removal.env) c.compact_picked.new.self (g.E.Env.observed c.compact_picked.new.env))
            (ap g.C.Cmp.cmp before.compacts.keeps.rest.cmp) done.keeps.once,
      );
      removes = rw (c.or-removal.ensures) (ends_then g.E.Env c.args.self.now c.loop-removal.self c.compact_picked.new.self c.args.env.now c.loop-removal.env c.compact_picked.new.env c.loop-removal.removal c.in_ok-last.last before.compacts.keeps.cause.later before.removes done.removes);
      log = done.log ∙ before.log;
    }

pub compact_picked-requires-clause-usable : goal.compact_picked-requires-clause-usable
compact_picked-requires-clause-usable g c = c.loop-removal.invariant.compacts.keeps.usable

pub compact_picked-requires-clause-order : goal.compact_picked-requires-clause-order
compact_picked-requires-clause-order g c = c.requires.order ∙ sym (ap g.C.Cmp.cmp c.loop-removal.invariant.compacts.keeps.rest.cmp)

pub returns-in_err-picked : goal.returns-in_err-picked
returns-in_err-picked g c =
    let exit = c.from_residual in
    let p = err_from_is_err_and exit.result exit.ensures.1 in
    let before = c.loop-removal.invariant in
    record {
      compacts = rw (p.1, p.2) (compacts_then before.compacts (record {
        keeps = failed_at_once _ g.E.Env _ c.loop-removal.self c.loop-removal.env c.loop-removal.tables _ _ _ (inl c.in_err-picked.ensures.memory);
        memory = refl;
      }));
      clear = IfOk-from_err exit.result _ exit.ensures.0;
      above = before.above;
      in_turn = before.in_turn;
      removes = IfOk-from_err exit.result _ exit.ensures.0;
      log = before.log;
    }

pub returns-in_err-last : goal.returns-in_err-last
returns-in_err-last g c =
    let exit = c.from_residual-in_err-last in
    let p = err_from_is_err_and exit.result exit.ensures.1 in
    let before = c.loop-removal.invariant in
    let failed = c.in_err-last.ensures in
    record {
      compacts = rw (p.1, p.2) (compacts_then before.compacts failed.compacts);
      clear = IfOk-from_err exit.result _ exit.ensures.0;
      above = λ other less. ap (λ full. files_of_level other full.added) failed.does.err ∙ before.above other less;
      in_turn = in_turn_then g.E.Env _ c.args.self.now c.loop-removal.self c.compact_picked.new.self c.args.env.now c.loop-removal.env c.compact_picked.new.env before.in_turn (
        [],
        subst (λ cmp. CompactsOnceAtMost cmp g.E.Env.models_disk c.loop-removal.self (g.E.Env.observed c.loop-removal.env) c.compact_picked.new.self (g.E.Env.observed c.compact_picked.new.env))
            (ap g.C.Cmp.cmp before.compacts.keeps.rest.cmp) failed.keeps.once,
      );
      removes = IfOk-from_err exit.result _ exit.ensures.0;
      log = failed.log ∙ before.log;
    }

pub returns-clause-compacts : goal.returns-clause-compacts
returns-clause-compacts g c = c.loop-removal.invariant.compacts

pub returns-clause-above : goal.returns-clause-above
returns-clause-above g c = c.loop-removal.invariant.above

pub returns-clause-in_turn : goal.returns-clause-in_turn
returns-clause-in_turn g c = c.loop-removal.invariant.in_turn

pub returns-clause-removes : goal.returns-clause-removes
returns-clause-removes g c = c.loop-removal.invariant.removes

pub returns-clause-log : goal.returns-clause-log
returns-clause-log g c = c.loop-removal.invariant.log
