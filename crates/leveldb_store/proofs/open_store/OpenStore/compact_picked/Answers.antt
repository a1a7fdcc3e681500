use Rattle.std.proofs.Common.{◌≡◌, ◌∙◌, None, Some, ap, refl, rules, subst, sym}
use Rattle.std.proofs.lemmas.Result.{IfOk-from_err, err_from_is_err_and}
use Rattle.leveldb_store.proofs.Compactions.CompactPickedLemmas.{compacted_once, compacted_tidied}
use Rattle.leveldb_store.proofs.Compactions.CompactedLemmas.{compacts_then, nothing_compacted}
use Rattle.leveldb_store.proofs.Compactions.CompactsOnceLemmas.{compacted_inputs, compacted_none, none_compacted}
use Rattle.std.specs.Prelude.{IfSome}
use Rattle.leveldb_store.specs.Compactions.Compact.{LogsCompaction}
use Rattle.leveldb_store.proofs.Keeping.KeptBytesLemmas.{meanwhile_none, meanwhile_removed}
use Rattle.leveldb_store.specs.Keeping.KeptBytes.{AreKept, LosesNoBytesMeanwhile}
use Rattle.leveldb_store.specs.Keeping.KeptEntries.{CompactsOnceAtMost}
use Rattle.leveldb_store.specs.Keeping.OpenStore.{OpenStoreValue}
use Rattle.leveldb_store.specs.Writing.Room.{TidiesUp}
use Rattle.leveldb_store.proofs.open_store.OpenStore.compact_picked.Goals as goal

pub returns-in_err-compact-clause-compacts : goal.returns-in_err-compact-clause-compacts
returns-in_err-compact-clause-compacts g c =
    let p = err_from_is_err_and c.from_residual.result c.from_residual.ensures.1 in
    rw (p.1, p.2) (compacted_once c.requires.usable c.in_err-compact.ensures.compacts)

pub returns-clause-compacts : goal.returns-clause-compacts
returns-clause-compacts g c =
    let old = c.args.self.now in
    let mid = c.compact.new.self in
    let at = c.compact.new.env in
    let to = c.tidy_up.new.env in
    let one = c.in_ok-compact.ensures.compacts in
    let tidied = c.tidy_up.ensures in
    let same = ap g.C.Cmp.cmp (ap (λ (v : OpenStoreValue g.row.C.Denot). v.cmp) one.memory) ∙ sym c.requires.order in
    compacts_then (compacted_once c.requires.usable one)
    (compacted_tidied _ g.E.Env _ _ _ mid one.usable at to c.compact.new.tables c.tidy_up.new.tables
    (subst (λ cmp. TidiesUp g.E.Env cmp mid at to) same tidied.tidies) tidied.closes tidied.time tidied.bytes)

pub returns-in_default-clause-compacts : goal.returns-in_default-clause-compacts
returns-in_default-clause-compacts g c = record {
  keeps = nothing_compacted _ g.E.Env _ c.args.self.now c.args.env.now c.args.tables.now _ _ c.requires.usable;
  memory = refl;
}

-- ---- the compaction

pub returns-in_default-clause-does : goal.returns-in_default-clause-does
returns-in_default-clause-does g c = record {
  logged = rw c.in_default.is tt;
  none = λ is. (refl, refl, refl, refl);
  err = tt;
  version = tt;
}

pub returns-in_err-compact-clause-does : goal.returns-in_err-compact-clause-does
returns-in_err-compact-clause-does g c =
    let p = err_from_is_err_and c.from_residual.result c.from_residual.ensures.1 in
    rw (p.1, p.2)
    (record {
      logged = tt;
      none = λ none. let never : Some c.in-Some.compaction ≡ None = sym c.in-Some.is ∙ none in absurd (cc never);
      err = search rules;
      version = c.in_err-compact.ensures.compacts.err.1;
    })

pub returns-clause-does : goal.returns-clause-does
returns-clause-does g c =
    let old = c.args.self.now in
    let new = c.compact.new.self in
    let order = g.C.Cmp.cmp old.cmp in
    let logged = subst (λ cmp. LogsCompaction cmp c.in-Some.compaction old new) c.requires.order c.in_ok-compact.ensures.compacts.logged.0 in
    record {
      logged = subst (λ picked. IfSome picked (λ it. LogsCompaction order it old new)) (sym c.in-Some.is) logged;
      none = λ none. let never : Some c.in-Some.compaction ≡ None = sym c.in-Some.is ∙ none in absurd (cc never);
      err = tt;
      version = tt;
    }

-- ---- the removal

pub returns-in_default-clause-removes : goal.returns-in_default-clause-removes
returns-in_default-clause-removes g c = (refl, refl)

pub returns-in_err-compact-clause-removes : goal.returns-in_err-compact-clause-removes
returns-in_err-compact-clause-removes g c = IfOk-from_err c.from_residual.result _ c.from_residual.ensures.0

pub returns-clause-removes : goal.returns-clause-removes
returns-clause-removes g c = record {
  at = c.compact.new.env;
  later = c.in_ok-compact.ensures.compacts.cause.later;
  removes = c.tidy_up.ensures.removes;
}

-- ---- what is lost

pub returns-in_default-clause-keeps : goal.returns-in_default-clause-keeps
returns-in_default-clause-keeps g c = record {
  once = none_compacted _ g.E.Env.models_disk c.args.self.now (g.E.Env.observed c.args.env.now);
  kept = tt;
  keeps = λ each modelled below. meanwhile_none g.E.Env c.args.self.now.set.store c.args.env.now;
  breaks = λ unbroken. tt;
}

pub returns-in_err-compact-clause-keeps : goal.returns-in_err-compact-clause-keeps
returns-in_err-compact-clause-keeps g c =
    let p = err_from_is_err_and c.from_residual.result c.from_residual.ensures.1 in
    let failed = c.in_err-compact.ensures.compacts in
    rw (p.1, p.2)
    (record {
      once = subst (λ cmp. CompactsOnceAtMost cmp g.E.Env.models_disk c.args.self.now (g.E.Env.observed c.args.env.now) c.compact.new.self (g.E.Env.observed c.compact.new.env)) c.requires.order
          (compacted_none failed);
      kept = failed.kept;
      keeps = λ each. failed.kept;
      breaks = failed.breaks;
    })

pub returns-clause-keeps : goal.returns-clause-keeps
returns-clause-keeps g c =
    let old = c.args.self.now in
    let mid = c.compact.new.self in
    let one = c.in_ok-compact.ensures.compacts in
    let from = c.args.env.now in
    let same : mid.kept_to ≡ old.kept_to = ap (λ (v : OpenStoreValue g.row.C.Denot). v.kept_to) one.memory in
    record {
      once = subst (λ cmp. CompactsOnceAtMost cmp g.E.Env.models_disk c.args.self.now (g.E.Env.observed c.args.env.now) c.compact.new.self (g.E.Env.observed c.tidy_up.new.env)) c.requires.order
          (compacted_inputs c.in_ok-compact.ensures.compacts c.tidy_up.ensures.tidies);
      kept = tt;
      keeps = λ each modelled below.
          subst (λ s. LosesNoBytesMeanwhile g.E.Env s from c.tidy_up.new.env) one.rest.store
          (meanwhile_removed mid.set mid.kept_to g.E.Env from c.compact.new.env c.tidy_up.new.env
          (subst (λ s. AreKept s (g.E.Env.observed from).disk.files mid.kept_to) (sym one.rest.store)
          (subst (AreKept old.set.store (g.E.Env.observed from).disk.files) (sym same) (each modelled)))
          (subst (λ s. LosesNoBytesMeanwhile g.E.Env s from c.compact.new.env) (sym one.rest.store)
          (one.kept modelled below)) (c.tidy_up.ensures.removes.run modelled));
      breaks = λ unbroken. tt;
    }

pub returns-in_default-clause-log : goal.returns-in_default-clause-log
returns-in_default-clause-log g c = refl

pub returns-in_err-compact-clause-log : goal.returns-in_err-compact-clause-log
returns-in_err-compact-clause-log g c = refl

pub returns-clause-log : goal.returns-clause-log
returns-clause-log g c = c.tidy_up.ensures.log

pub compact-requires-clause-usable : goal.compact-requires-clause-usable
compact-requires-clause-usable g c = c.requires.usable

pub compact-requires-clause-order : goal.compact-requires-clause-order
compact-requires-clause-order g c = c.requires.order

pub compact-requires-clause-none_waits : goal.compact-requires-clause-none_waits
compact-requires-clause-none_waits g c = c.requires.none_waits
