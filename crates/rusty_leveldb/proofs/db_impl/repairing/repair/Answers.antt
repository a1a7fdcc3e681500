-- A repair that ends before its lock is taken, and one that ends under it.
use Rattle.std.specs.Prelude.{IsTrue, is_some}
use Rattle.std.proofs.Common.{◌≡◌, ◌∙◌, ⊎_elim, inl, inr, false, true, refl, arith, Option, None, Some}
use Rattle.std.proofs.lemmas.Result.{err_from_is_err_and}
use Rattle.leveldb_base.specs.CmpLaws.{total_order}
use Rattle.leveldb_env.proofs.EnvLemmas.{Run-call}
use Rattle.leveldb_env.specs.contracts.compressor.CompressorListCompressors.TheImpl.{ghosts as compressors}
use Rattle.rusty_leveldb.specs.Engines.Engine.{opening_of}
use Rattle.rusty_leveldb.proofs.Openings.AskedLemmas.{within_if, within_is}
use Rattle.rusty_leveldb.proofs.Openings.OpenCallLemmas.{lock_excused, near_folder, near_lock, near_still, why_of}
use Rattle.rusty_leveldb.proofs.Repairs.RepairCallLemmas.{done_repairs, early_repairs, late_repairs}
use Rattle.rusty_leveldb.proofs.Openings.UnderLockLemmas.{lock_taken}
use Rattle.rusty_leveldb.proofs.db_impl.repairing.repair.Goals as goal

-- a compressor that isn't set
unset_compressor : {A : Type 0} (set : Option A) → set ≡ None → IsTrue (is_some set) → ⊥
unset_compressor None is some = let never : false ≡ true = some in absurd (cc never)
unset_compressor (Some one) is some = absurd (let never : Some one ≡ None = is in cc)

pub returns-in_err-check_name : goal.returns-in_err-check_name
returns-in_err-check_name g c =
    let p = err_from_is_err_and c.from_residual.result c.from_residual.ensures.1 in
    rw (p.1, p.2) (early_repairs g.E.Env c.args.name.now
    (opening_of g.C.Cmp g.FP.FilterPolicy (compressors g.dyn-2).codings c.args.opt)
    c.args.env.now c.args.env.now _ c.in_err-check_name.field-0.0
    (λ modelled. near_still c.args.name.now (g.E.Env.observed c.args.env.now)) (omega arith)
    (inl (inr (inl (
      inl (
        c.in_err-check_name.ensures.cause.0,
        λ both. c.in_err-check_name.ensures.cause.1 both.0,
      ),
      λ modelled. (near_still c.args.name.now (g.E.Env.observed c.args.env.now)).run,
    )))) (λ no. refl))

pub returns-in_err-check : goal.returns-in_err-check
returns-in_err-check g c =
    let p = err_from_is_err_and c.from_residual-in_err-check.result
    c.from_residual-in_err-check.ensures.1 in
    rw (p.1, p.2) (early_repairs g.E.Env c.args.name.now
    (opening_of g.C.Cmp g.FP.FilterPolicy (compressors g.dyn-2).codings c.args.opt)
    c.args.env.now c.args.env.now _ c.in_err-check.field-0.0
    (λ modelled. near_still c.args.name.now (g.E.Env.observed c.args.env.now)) (omega arith)
    (inl (inr (inl (
      ⊎_elim
          (λ limit. inl (limit.0, λ both. limit.1 (within_if c.args.opt both.1)))
          (λ unset. inr (inl (unset.0, unset_compressor _ unset.1)))
          c.in_err-check.ensures.cause,
      λ modelled. (near_still c.args.name.now (g.E.Env.observed c.args.env.now)).run,
    )))) (λ no. refl))

pub returns-in_err-lock : goal.returns-in_err-lock
returns-in_err-lock g c =
    let p = err_from_is_err_and c.from_residual-in_err-lock.result
    c.from_residual-in_err-lock.ensures.1 in
    rw (p.1, p.2) (early_repairs g.E.Env c.args.name.now
    (opening_of g.C.Cmp g.FP.FilterPolicy (compressors g.dyn-2).codings c.args.opt)
    c.args.env.now c.args.env.now _ c.in_err-lock.field-0.0
    (λ modelled. near_still c.args.name.now (g.E.Env.observed c.args.env.now)) (omega arith)
    (inl (inl c.in_err-lock.ensures.cause))
    (λ no. absurd (no (
      c.in_ok-check_name.ensures.ok,
      within_is c.args.opt c.in_ok-check.ensures.limits,
      c.in_ok-check.ensures.compressor,
    ))))

pub returns-in_err-mkdir : goal.returns-in_err-mkdir
returns-in_err-mkdir g c =
    let p = err_from_is_err_and c.from_residual-in_err-mkdir.result
    c.from_residual-in_err-mkdir.ensures.1 in
    rw (p.1, p.2) (early_repairs g.E.Env c.args.name.now
    (opening_of g.C.Cmp g.FP.FilterPolicy (compressors g.dyn-2).codings c.args.opt)
    c.args.env.now c.mkdir.new.self _ c.in_err-mkdir.field-0.0
    (λ modelled. near_folder c.args.name.now (g.E.Env.observed c.args.env.now)
    (g.E.Env.observed c.mkdir.new.self) modelled c.mkdir.ensures.does c.mkdir.ensures.locks)
    c.in_err-mkdir.ensures.cause.later
    (why_of (g.E.Env.failures c.args.env.now) (g.E.Env.failures c.args.env.now)
    (g.E.Env.failures c.mkdir.new.self) c.in_err-mkdir.field-0.0 refl (λ memory. inl memory)
    c.in_err-mkdir.ensures.cause)
    (λ no. absurd (no (
      c.in_ok-check_name.ensures.ok,
      within_is c.args.opt c.in_ok-check.ensures.limits,
      c.in_ok-check.ensures.compressor,
    ))))

pub returns-in_err-lock-2 : goal.returns-in_err-lock-2
returns-in_err-lock-2 g c =
    let p = err_from_is_err_and c.from_residual-in_err-lock-2.result
    c.from_residual-in_err-lock-2.ensures.1 in
    let run = λ (modelled : IsTrue g.E.Env.models_disk). near_lock c.args.name.now c.deref.result.now
    (g.E.Env.observed c.args.env.now) (g.E.Env.observed c.mkdir.new.self)
    (g.E.Env.observed c.lock.new.self) modelled (c.deref.ensures ∙ c.in_ok-lock.ensures.ok)
    (Run-call modelled c.mkdir.ensures.does) c.in_err-lock-2.ensures.does in
    rw (p.1, p.2) (early_repairs g.E.Env c.args.name.now
    (opening_of g.C.Cmp g.FP.FilterPolicy (compressors g.dyn-2).codings c.args.opt)
    c.args.env.now c.lock.new.self _ c.in_err-lock-2.field-0.0
    (λ modelled. record {
      run = run modelled;
      locks = c.in_err-lock-2.ensures.locks modelled ∙ c.mkdir.ensures.locks modelled;
    })
    (omega (arith, c.in_ok-mkdir.ensures.cause.ok, c.in_err-lock-2.ensures.cause.later))
    (why_of (g.E.Env.failures c.args.env.now) (g.E.Env.failures c.mkdir.new.self)
    (g.E.Env.failures c.lock.new.self) c.in_err-lock-2.field-0.0 c.in_ok-mkdir.ensures.cause.ok
    (λ why. ⊎_elim (λ memory. inl memory)
    (λ held. inr (inl (inr (inr (inl held)), λ modelled. run modelled)))
    (lock_excused c.args.name.now c.deref.result.now (g.E.Env.observed c.args.env.now)
    (g.E.Env.observed c.mkdir.new.self) c.in_err-lock-2.field-0.0
    (c.deref.ensures ∙ c.in_ok-lock.ensures.ok) c.mkdir.ensures.locks why))
    c.in_err-lock-2.ensures.cause)
    (λ no. absurd (no (
      c.in_ok-check_name.ensures.ok,
      within_is c.args.opt c.in_ok-check.ensures.limits,
      c.in_ok-check.ensures.compressor,
    ))))

pub returns-in_err-repaired : goal.returns-in_err-repaired
returns-in_err-repaired g c =
    let p = err_from_is_err_and c.from_residual-in_err-repaired.result
    c.from_residual-in_err-repaired.ensures.1 in
    rw (p.1, p.2) (late_repairs g.E.Env _ c.args.name.now
    (opening_of g.C.Cmp g.FP.FilterPolicy (compressors g.dyn-2).codings c.args.opt) refl
    (total_order (g.met.C.Cmp.preorder c.args.opt.cmp) (g.met.C.UserCmp.accepts_all c.args.opt.cmp))
    c.args.env.now c.lock.new.self c.repair_store-repaired.new.env c.give_back-given_back.new.env
    (λ modelled. lock_taken c.args.name.now c.deref.result.now (g.E.Env.observed c.args.env.now)
    (g.E.Env.observed c.mkdir.new.self) (g.E.Env.observed c.lock.new.self) modelled
    (c.deref.ensures ∙ c.in_ok-lock.ensures.ok)
    (near_lock c.args.name.now c.deref.result.now (g.E.Env.observed c.args.env.now)
    (g.E.Env.observed c.mkdir.new.self) (g.E.Env.observed c.lock.new.self) modelled
    (c.deref.ensures ∙ c.in_ok-lock.ensures.ok) (Run-call modelled c.mkdir.ensures.does)
    c.in_ok-lock-2.ensures.does) (c.mkdir.ensures.locks modelled) c.in_ok-lock-2.ensures.does
    c.in_ok-lock-2.ensures.locks (c.in_ok-lock-2.ensures.was_free modelled))
    (c.in_ok-lock-2.ensures.cause.ok ∙ c.in_ok-mkdir.ensures.cause.ok) _ c.in_err-repaired.ensures
    c.give_back-given_back.result c.give_back-given_back.ensures.does
    c.deref-2.result.now (c.deref-2.ensures ∙ c.in_ok-lock.ensures.ok)
    c.give_back-given_back.ensures.locks c.give_back-given_back.ensures.cause
    (g.met.E.Env.counts c.give_back-given_back.new.env) (
      c.in_ok-check_name.ensures.ok,
      within_is c.args.opt c.in_ok-check.ensures.limits,
      c.in_ok-check.ensures.compressor,
    ) _ refl)

pub returns : goal.returns
returns g c = done_repairs g.E.Env _ c.args.name.now
    (opening_of g.C.Cmp g.FP.FilterPolicy (compressors g.dyn-2).codings c.args.opt) refl
    (total_order (g.met.C.Cmp.preorder c.args.opt.cmp) (g.met.C.UserCmp.accepts_all c.args.opt.cmp))
    c.args.env.now c.lock.new.self c.repair_store-repaired.new.env c.give_back-given_back.new.env
    (λ modelled. lock_taken c.args.name.now c.deref.result.now (g.E.Env.observed c.args.env.now)
    (g.E.Env.observed c.mkdir.new.self) (g.E.Env.observed c.lock.new.self) modelled
    (c.deref.ensures ∙ c.in_ok-lock.ensures.ok)
    (near_lock c.args.name.now c.deref.result.now (g.E.Env.observed c.args.env.now)
    (g.E.Env.observed c.mkdir.new.self) (g.E.Env.observed c.lock.new.self) modelled
    (c.deref.ensures ∙ c.in_ok-lock.ensures.ok) (Run-call modelled c.mkdir.ensures.does)
    c.in_ok-lock-2.ensures.does) (c.mkdir.ensures.locks modelled) c.in_ok-lock-2.ensures.does
    c.in_ok-lock-2.ensures.locks (c.in_ok-lock-2.ensures.was_free modelled))
    (c.in_ok-lock-2.ensures.cause.ok ∙ c.in_ok-mkdir.ensures.cause.ok) _ c.in_ok-repaired.ensures
    c.give_back-given_back.result c.give_back-given_back.ensures.does
    c.deref-2.result.now (c.deref-2.ensures ∙ c.in_ok-lock.ensures.ok)
    c.give_back-given_back.ensures.locks c.give_back-given_back.ensures.cause
    (g.met.E.Env.counts c.give_back-given_back.new.env) (
      c.in_ok-check_name.ensures.ok,
      within_is c.args.opt c.in_ok-check.ensures.limits,
      c.in_ok-check.ensures.compressor,
    ) refl
