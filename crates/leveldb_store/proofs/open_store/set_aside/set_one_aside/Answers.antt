use Rattle.std.proofs.Common.{◌≡◌, ◌∙◌, ⊎_elim, inl, inr, arith, false, refl, rules, subst, sym, true}
use Rattle.std.specs.Prelude.{IsSome}
use Rattle.std.proofs.lemmas.Result.{err_from_is_err_and}
use Rattle.leveldb_env.proofs.EnvLemmas.{Run-call, begun}
use Rattle.leveldb_env.specs.Env.{Files}
use Rattle.leveldb_store.proofs.Keeping.SetAsideCallLemmas.{none_of, one_not_aside, one_renamed}
use Rattle.leveldb_store.proofs.Keeping.SoundLemmas.{failed_once}
use Rattle.leveldb_store.specs.Keeping.SetAside.{aside_path}
use Rattle.leveldb_store.proofs.open_store.set_aside.set_one_aside.Goals as goal

pub returns-in_err-other : goal.returns-in_err-other
returns-in_err-other g c =
    let p = err_from_is_err_and c.from_residual.result c.from_residual.ensures.1 in
    rw p.1 (one_not_aside g.E.Env c.args.path.now c.args.env.now c.args.env.now (λ modelled. begun (g.E.Env.observed c.args.env.now) refl) (λ modelled. refl) p.0 (omega arith) (inl (inl p.2)))

pub returns-in_err-exists : goal.returns-in_err-exists
returns-in_err-exists g c =
    let p = err_from_is_err_and c.from_residual-in_err-exists.result c.from_residual-in_err-exists.ensures.1 in
    let looked = c.exists.ensures in
    rw (p.1, p.2) (one_not_aside g.E.Env c.args.path.now c.args.env.now c.exists.new.self (λ modelled. Run-call modelled looked.does) looked.locks _ looked.cause.later
    (⊎_elim (λ memory. inl (inl memory)) (λ counted. inr (failed_once (g.E.Env.failures c.args.env.now) (g.E.Env.failures c.exists.new.self) counted)) c.in_err-exists.ensures.cause.cause))

pub returns-then-branch : goal.returns-then-branch
returns-then-branch g c =
    let p = err_from_is_err_and c.err.result c.err.ensures.code in
    let looked = c.exists.ensures in
    let here = (g.E.Env.observed c.args.env.now).disk.files in
    let is_other : c.deref.result.now ≡ aside_path c.args.path.now = search rules in
    rw p.1 (one_not_aside g.E.Env c.args.path.now c.args.env.now c.exists.new.self (λ modelled. Run-call modelled looked.does) looked.locks p.0 looked.cause.later
    (inl (inr (inl (
      p.2,
      λ modelled. subst (λ (f : Files). IsSome (f (aside_path c.args.path.now))) (sym (Run-call modelled looked.does).has)
          (subst (λ o. IsSome (here o)) is_other ((c.in_ok-exists.ensures.ok modelled).0 c.if-branch.true)),
    )))))

pub returns : goal.returns
returns g c =
    let looked = c.exists.ensures in
    let renames = c.rename.ensures in
    let other = c.deref-2.result.now in
    let here = (g.E.Env.observed c.args.env.now).disk.files in
    let is_other : other ≡ aside_path c.args.path.now = search rules in
    one_renamed g.E.Env c.args.path.now c.args.env.now c.exists.new.self (λ modelled. Run-call modelled looked.does) looked.locks c.in_ok-exists.ensures.cause.ok other is_other
    (λ modelled. none_of (here other) (λ some. let never : false ≡ true = sym c.if-branch.false ∙ (c.in_ok-exists.ensures.ok modelled).1 (subst (λ o. IsSome (here o)) (c.deref-2.ensures ∙ sym c.deref.ensures) some) in cc))
    c.rename.result c.rename.new.self renames.does renames.locks renames.there renames.cause
