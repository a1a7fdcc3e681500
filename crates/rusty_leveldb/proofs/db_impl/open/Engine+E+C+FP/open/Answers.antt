-- An opening that ends before its lock is taken, and one that ends under it.
use Rattle.std.specs.Prelude.{IsTrue, is_some}
use Rattle.std.proofs.Common.{◌≡◌, ◌∙◌, ⊎_elim, inl, inr, false, true, refl, ap, arith, Option, None, Some}
use Rattle.std.proofs.lemmas.Result.{err_from_is_err_and}
use Rattle.leveldb_env.proofs.EnvLemmas.{Run-call}
use Rattle.leveldb_env.specs.contracts.compressor.CompressorListCompressors.TheImpl.{ghosts as compressors}
use Rattle.leveldb_files.specs.Stores.Format.{format_of}
use Rattle.rusty_leveldb.specs.Engines.Engine.{opening_of}
use Rattle.rusty_leveldb.proofs.Openings.AskedLemmas.{within_if, within_is}
use Rattle.rusty_leveldb.proofs.Openings.DoneOpeningLemmas.{done_opens, none_open}
use Rattle.rusty_leveldb.proofs.Openings.LateOpeningLemmas.{late_opens}
use Rattle.rusty_leveldb.proofs.Openings.LeftOpeningLemmas.{broken_bytes, broken_cause, left_broken, left_unopened, unopened_cause}
use Rattle.rusty_leveldb.proofs.Openings.OpenCallLemmas.{early_opens, lock_excused, near_folder, near_lock, near_still, why_of}
use Rattle.rusty_leveldb.proofs.Openings.UnderLockLemmas.{lock_taken}
use Rattle.rusty_leveldb.proofs.db_impl.open.Engine+E+C+FP.open.Goals as goal

-- a compressor that isn't set
unset_compressor : {A : Type 0} (set : Option A) → set ≡ None → IsTrue (is_some set) → ⊥
unset_compressor None is some = let never : false ≡ true = some in absurd (cc never)
unset_compressor (Some one) is some = absurd (let never : Some one ≡ None = is in cc)

pub returns-in_err-check_name : goal.returns-in_err-check_name
returns-in_err-check_name g c =
    let p = err_from_is_err_and c.from_residual.result
    c.from_residual.ensures.1 in
    rw (p.1, p.2) (early_opens g.E.Env _ c.args.name.now c.args.options
    (opening_of g.C.Cmp g.FP.FilterPolicy (compressors g.dyn-2).codings c.args.options)
    c.args.env.now c.args.env.now c.in_err-check_name.field-0.0 refl
    (λ modelled. near_still c.args.name.now (g.E.Env.observed c.args.env.now)) (omega arith)
    (inl (inr (inl (
      c.in_err-check_name.ensures.cause.0,
      λ both. c.in_err-check_name.ensures.cause.1 both.0,
    )))) (λ no. refl))

pub returns-in_err-check : goal.returns-in_err-check
returns-in_err-check g c =
    let p = err_from_is_err_and c.from_residual-in_err-check.result
    c.from_residual-in_err-check.ensures.1 in
    rw (p.1, p.2) (early_opens g.E.Env _ c.args.name.now c.args.options
    (opening_of g.C.Cmp g.FP.FilterPolicy (compressors g.dyn-2).codings c.args.options)
    c.args.env.now c.args.env.now c.in_err-check.field-0.0 refl
    (λ modelled. near_still c.args.name.now (g.E.Env.observed c.args.env.now)) (omega arith)
    (inl (⊎_elim
    (λ limit. inr (inl (limit.0, λ both. limit.1 (within_if c.args.options both.1))))
    (λ unset. inr (inr (inr (inr (inr (inr (inl (unset.0, unset_compressor _ unset.1)))))))) c.in_err-check.ensures.cause))
    (λ no. refl))

pub returns-in_err-lock : goal.returns-in_err-lock
returns-in_err-lock g c =
    let p = err_from_is_err_and c.from_residual-in_err-lock.result
    c.from_residual-in_err-lock.ensures.1 in
    rw (p.1, p.2) (early_opens g.E.Env _ c.args.name.now c.args.options
    (opening_of g.C.Cmp g.FP.FilterPolicy (compressors g.dyn-2).codings c.args.options)
    c.args.env.now c.args.env.now c.in_err-lock.field-0.0 refl
    (λ modelled. near_still c.args.name.now (g.E.Env.observed c.args.env.now)) (omega arith)
    (inl (inl c.in_err-lock.ensures.cause))
    (λ no. absurd (no (
      c.in_ok-check_name.ensures.ok,
      within_is c.args.options c.in_ok-check.ensures.limits,
      c.in_ok-check.ensures.compressor,
    ))))

pub returns-in_err-tables : goal.returns-in_err-tables
returns-in_err-tables g c =
    let p = err_from_is_err_and c.from_residual-in_err-tables.result
    c.from_residual-in_err-tables.ensures.1 in
    rw (p.1, p.2) (early_opens g.E.Env _ c.args.name.now c.args.options
    (opening_of g.C.Cmp g.FP.FilterPolicy (compressors g.dyn-2).codings c.args.options)
    c.args.env.now c.args.env.now c.in_err-tables.field-0.0 refl
    (λ modelled. near_still c.args.name.now (g.E.Env.observed c.args.env.now)) (omega arith)
    (inl (inl c.in_err-tables.ensures.memory))
    (λ no. absurd (no (
      c.in_ok-check_name.ensures.ok,
      within_is c.args.options c.in_ok-check.ensures.limits,
      c.in_ok-check.ensures.compressor,
    ))))

pub returns-in_err-mkdir : goal.returns-in_err-mkdir
returns-in_err-mkdir g c =
    let p = err_from_is_err_and c.from_residual-in_err-mkdir.result
    c.from_residual-in_err-mkdir.ensures.1 in
    rw (p.1, p.2) (early_opens g.E.Env _ c.args.name.now c.args.options
    (opening_of g.C.Cmp g.FP.FilterPolicy (compressors g.dyn-2).codings c.args.options)
    c.args.env.now c.mkdir.new.self c.in_err-mkdir.field-0.0 refl
    (λ modelled. near_folder c.args.name.now (g.E.Env.observed c.args.env.now)
    (g.E.Env.observed c.mkdir.new.self) modelled c.mkdir.ensures.does c.mkdir.ensures.locks)
    c.in_err-mkdir.ensures.cause.later
    (why_of (g.E.Env.failures c.args.env.now) (g.E.Env.failures c.args.env.now)
    (g.E.Env.failures c.mkdir.new.self) c.in_err-mkdir.field-0.0 refl (λ memory. inl memory)
    c.in_err-mkdir.ensures.cause)
    (λ no. absurd (no (
      c.in_ok-check_name.ensures.ok,
      within_is c.args.options c.in_ok-check.ensures.limits,
      c.in_ok-check.ensures.compressor,
    ))))

pub returns-in_err-lock-2 : goal.returns-in_err-lock-2
returns-in_err-lock-2 g c =
    let p = err_from_is_err_and c.from_residual-in_err-lock-2.result
    c.from_residual-in_err-lock-2.ensures.1 in
    rw (p.1, p.2) (early_opens g.E.Env _ c.args.name.now c.args.options
    (opening_of g.C.Cmp g.FP.FilterPolicy (compressors g.dyn-2).codings c.args.options)
    c.args.env.now c.lock.new.self c.in_err-lock-2.field-0.0 refl
    (λ modelled. record {
      run = near_lock c.args.name.now c.deref.result.now (g.E.Env.observed c.args.env.now)
          (g.E.Env.observed c.mkdir.new.self) (g.E.Env.observed c.lock.new.self) modelled
          (c.deref.ensures ∙ c.in_ok-lock.ensures.ok) (Run-call modelled c.mkdir.ensures.does)
          c.in_err-lock-2.ensures.does;
      locks = c.in_err-lock-2.ensures.locks modelled ∙ c.mkdir.ensures.locks modelled;
    })
    (omega (arith, c.in_ok-mkdir.ensures.cause.ok, c.in_err-lock-2.ensures.cause.later))
    (why_of (g.E.Env.failures c.args.env.now) (g.E.Env.failures c.mkdir.new.self)
    (g.E.Env.failures c.lock.new.self) c.in_err-lock-2.field-0.0 c.in_ok-mkdir.ensures.cause.ok
    (λ why. ⊎_elim (λ memory. inl memory) (λ held. inr (inr (inl held)))
    (lock_excused c.args.name.now c.deref.result.now (g.E.Env.observed c.args.env.now)
    (g.E.Env.observed c.mkdir.new.self) c.in_err-lock-2.field-0.0
    (c.deref.ensures ∙ c.in_ok-lock.ensures.ok) c.mkdir.ensures.locks why))
    c.in_err-lock-2.ensures.cause)
    (λ no. absurd (no (
      c.in_ok-check_name.ensures.ok,
      within_is c.args.options c.in_ok-check.ensures.limits,
      c.in_ok-check.ensures.compressor,
    ))))

pub invariant_of-result : goal.invariant_of-result
invariant_of-result g c = λ is_open. c.in-Ok-ended.ensures.ends.first.ok

pub returns-in-Ok-ended : goal.returns-in-Ok-ended
returns-in-Ok-ended g c = done_opens g.E.Env _ c.args.name.now c.args.options
    (opening_of g.C.Cmp g.FP.FilterPolicy (compressors g.dyn-2).codings c.args.options)
    c.args.env.now c.lock.new.self c.open.new.env c.end_opening-ended.new.env _
    (λ modelled. lock_taken c.args.name.now c.deref.result.now (g.E.Env.observed c.args.env.now)
    (g.E.Env.observed c.mkdir.new.self) (g.E.Env.observed c.lock.new.self) modelled
    (c.deref.ensures ∙ c.in_ok-lock.ensures.ok)
    (near_lock c.args.name.now c.deref.result.now (g.E.Env.observed c.args.env.now)
    (g.E.Env.observed c.mkdir.new.self) (g.E.Env.observed c.lock.new.self) modelled
    (c.deref.ensures ∙ c.in_ok-lock.ensures.ok) (Run-call modelled c.mkdir.ensures.does)
    c.in_ok-lock-2.ensures.does) (c.mkdir.ensures.locks modelled) c.in_ok-lock-2.ensures.does
    c.in_ok-lock-2.ensures.locks (c.in_ok-lock-2.ensures.was_free modelled))
    c.args.options.write_buffer_size c.in-Ok.store c.in-Ok.ensures.opens
    c.in-Ok.ensures.cause.ok c.in-Ok.ensures.bytes c.in_ok-tables.tables
    (λ modelled. none_open g.E.Env _ c.in-Ok.store.set c.args.options c.in_ok-tables.tables
    c.open.new.env c.args.name.now c.in-Ok.ensures.opens.path c.in_ok-tables.ensures.ok
    c.in_ok-tables.ensures.matches)
    c.in-Ok-ended.ensures.ends refl c.new-in-Ok.ensures refl c.in_ok-lock.ensures.ok
    (record { rest = refl; sink = c.end_opening-ended.ensures.log ∙ ap is_some c.take-log.ensures.value }) c.in-Ok.ensures.cmp
    (λ a b is. ap (format_of g.C.Cmp g.FP.FilterPolicy (compressors g.dyn-2).codings) is.rest) refl
    (c.in_ok-lock-2.ensures.cause.ok ∙ c.in_ok-mkdir.ensures.cause.ok)
    (omega (arith, c.mkdir.ensures.does.time.later, c.in_ok-lock-2.ensures.does.time.later)) refl (
      c.in_ok-check_name.ensures.ok,
      within_is c.args.options c.in_ok-check.ensures.limits,
      c.in_ok-check.ensures.compressor,
    ) c.in-Ok-ended.ensures.removes

pub returns-in-Err-ended : goal.returns-in-Err-ended
returns-in-Err-ended g c = late_opens g.E.Env _ c.args.options c.args.name.now
    (opening_of g.C.Cmp g.FP.FilterPolicy (compressors g.dyn-2).codings c.args.options)
    c.args.env.now c.lock.new.self c.end_opening-ended.new.env c.give_back.new.env c.in-Err-ended.e
    (λ modelled. lock_taken c.args.name.now c.deref.result.now (g.E.Env.observed c.args.env.now)
    (g.E.Env.observed c.mkdir.new.self) (g.E.Env.observed c.lock.new.self) modelled
    (c.deref.ensures ∙ c.in_ok-lock.ensures.ok)
    (near_lock c.args.name.now c.deref.result.now (g.E.Env.observed c.args.env.now)
    (g.E.Env.observed c.mkdir.new.self) (g.E.Env.observed c.lock.new.self) modelled
    (c.deref.ensures ∙ c.in_ok-lock.ensures.ok) (Run-call modelled c.mkdir.ensures.does)
    c.in_ok-lock-2.ensures.does) (c.mkdir.ensures.locks modelled) c.in_ok-lock-2.ensures.does
    c.in_ok-lock-2.ensures.locks (c.in_ok-lock-2.ensures.was_free modelled))
    (left_broken _ g.E.Env _ _ c.args.name.now _ _ _ c.lock.new.self c.open.new.env
    c.end_opening-ended.new.env c.args.options.write_buffer_size c.in-Ok.store c.in-Ok.ensures.opens
    c.in-Ok.ensures.cause.ok refl c.in_ok-tables.tables
    (λ modelled. none_open g.E.Env _ c.in-Ok.store.set c.args.options c.in_ok-tables.tables
    c.open.new.env c.args.name.now c.in-Ok.ensures.opens.path c.in_ok-tables.ensures.ok
    c.in_ok-tables.ensures.matches)
    c.in-Err-ended.e c.end_opening-ended.new.self c.end_opening-ended.new.tables
    c.in-Err-ended.ensures.ends)
    (broken_cause _ g.E.Env _ _ c.args.name.now _ _ _ c.lock.new.self c.open.new.env
    c.end_opening-ended.new.env c.args.options.write_buffer_size c.in-Ok.store c.in-Ok.ensures.opens
    c.in-Ok.ensures.cause.ok refl c.in_ok-tables.tables
    (λ modelled. none_open g.E.Env _ c.in-Ok.store.set c.args.options c.in_ok-tables.tables
    c.open.new.env c.args.name.now c.in-Ok.ensures.opens.path c.in_ok-tables.ensures.ok
    c.in_ok-tables.ensures.matches)
    c.in-Err-ended.e c.end_opening-ended.new.self c.end_opening-ended.new.tables
    c.in-Err-ended.ensures.ends _)
    refl
    (broken_bytes _ g.E.Env _ _ c.args.name.now _ _ _ c.lock.new.self c.open.new.env
    c.end_opening-ended.new.env c.args.options.write_buffer_size c.in-Ok.store c.in-Ok.ensures.opens
    c.in-Ok.ensures.cause.ok refl c.in_ok-tables.tables
    (λ modelled. none_open g.E.Env _ c.in-Ok.store.set c.args.options c.in_ok-tables.tables
    c.open.new.env c.args.name.now c.in-Ok.ensures.opens.path c.in_ok-tables.ensures.ok
    c.in_ok-tables.ensures.matches)
    c.in-Err-ended.e c.end_opening-ended.new.self c.end_opening-ended.new.tables
    c.in-Err-ended.ensures.ends c.in-Ok.ensures.bytes)
    c.give_back.result c.give_back.ensures.does
    c.deref-in-Err-ended.result.now (c.deref-in-Err-ended.ensures ∙ c.in_ok-lock.ensures.ok)
    c.give_back.ensures.locks c.give_back.ensures.cause
    (c.in_ok-lock-2.ensures.cause.ok ∙ c.in_ok-mkdir.ensures.cause.ok) (
      c.in_ok-check_name.ensures.ok,
      within_is c.args.options c.in_ok-check.ensures.limits,
      c.in_ok-check.ensures.compressor,
    )

pub returns-in-Err : goal.returns-in-Err
returns-in-Err g c = late_opens g.E.Env _ c.args.options c.args.name.now
    (opening_of g.C.Cmp g.FP.FilterPolicy (compressors g.dyn-2).codings c.args.options)
    c.args.env.now c.lock.new.self c.open.new.env c.give_back-in-Err.new.env c.in-Err.status
    (λ modelled. lock_taken c.args.name.now c.deref.result.now (g.E.Env.observed c.args.env.now)
    (g.E.Env.observed c.mkdir.new.self) (g.E.Env.observed c.lock.new.self) modelled
    (c.deref.ensures ∙ c.in_ok-lock.ensures.ok)
    (near_lock c.args.name.now c.deref.result.now (g.E.Env.observed c.args.env.now)
    (g.E.Env.observed c.mkdir.new.self) (g.E.Env.observed c.lock.new.self) modelled
    (c.deref.ensures ∙ c.in_ok-lock.ensures.ok) (Run-call modelled c.mkdir.ensures.does)
    c.in_ok-lock-2.ensures.does) (c.mkdir.ensures.locks modelled) c.in_ok-lock-2.ensures.does
    c.in_ok-lock-2.ensures.locks (c.in_ok-lock-2.ensures.was_free modelled))
    (left_unopened g.E.Env _ _ _ _ _ _ c.in-Err.status c.open.new.env c.in-Err.ensures.opens)
    (unopened_cause c.in-Err.ensures.cause) refl c.in-Err.ensures.bytes c.give_back-in-Err.result c.give_back-in-Err.ensures.does
    c.deref-in-Err.result.now (c.deref-in-Err.ensures ∙ c.in_ok-lock.ensures.ok)
    c.give_back-in-Err.ensures.locks c.give_back-in-Err.ensures.cause
    (c.in_ok-lock-2.ensures.cause.ok ∙ c.in_ok-mkdir.ensures.cause.ok) (
      c.in_ok-check_name.ensures.ok,
      within_is c.args.options c.in_ok-check.ensures.limits,
      c.in_ok-check.ensures.compressor,
    )
