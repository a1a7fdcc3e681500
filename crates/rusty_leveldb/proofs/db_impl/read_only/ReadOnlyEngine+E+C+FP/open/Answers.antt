-- An opening that ends before a call is made, one whose files aren't read, and one that is done.
use Rattle.std.specs.Prelude.{IsTrue, is_some}
use Rattle.std.proofs.Common.{◌≡◌, ⊎_elim, inl, inr, false, true, refl, Option, None, Some}
use Rattle.std.proofs.lemmas.Result.{err_from_is_err_and}
use Rattle.leveldb_env.specs.contracts.compressor.CompressorListCompressors.TheImpl.{ghosts as compressors}
use Rattle.leveldb_files.specs.Stores.Format.{format_of}
use Rattle.rusty_leveldb.specs.Engines.Engine.{opening_of}
use Rattle.rusty_leveldb.proofs.Openings.AskedLemmas.{within_if, within_is}
use Rattle.rusty_leveldb.proofs.Openings.ReaderOpeningLemmas.{alone_early, alone_fails, alone_opens}
use Rattle.rusty_leveldb.proofs.db_impl.read_only.ReadOnlyEngine+E+C+FP.open.Goals as goal

-- a compressor that isn't set
unset_compressor : {A : Type 0} (set : Option A) → set ≡ None → IsTrue (is_some set) → ⊥
unset_compressor None is some = let never : false ≡ true = some in absurd (cc never)
unset_compressor (Some one) is some = absurd (let never : Some one ≡ None = is in cc)

pub returns-in_err-check_name : goal.returns-in_err-check_name
returns-in_err-check_name g c =
    let p = err_from_is_err_and c.from_residual.result c.from_residual.ensures.1 in
    rw (p.1, p.2) (alone_early g.E.Env
    (format_of g.C.Cmp g.FP.FilterPolicy (compressors g.dyn-2).codings) c.args.name.now
    c.args.options (opening_of g.C.Cmp g.FP.FilterPolicy (compressors g.dyn-2).codings c.args.options)
    c.args.env.now c.in_err-check_name.field-0.0 (inr (inl (
      c.in_err-check_name.ensures.cause.0,
      λ both. c.in_err-check_name.ensures.cause.1 both.0,
    ))))

pub returns-in_err-check : goal.returns-in_err-check
returns-in_err-check g c =
    let p = err_from_is_err_and c.from_residual-in_err-check.result
    c.from_residual-in_err-check.ensures.1 in
    rw (p.1, p.2) (alone_early g.E.Env
    (format_of g.C.Cmp g.FP.FilterPolicy (compressors g.dyn-2).codings) c.args.name.now
    c.args.options (opening_of g.C.Cmp g.FP.FilterPolicy (compressors g.dyn-2).codings c.args.options)
    c.args.env.now c.in_err-check.field-0.0 (⊎_elim
    (λ limit. inr (inl (limit.0, λ both. limit.1 (within_if c.args.options both.1))))
    (λ unset. inr (inr (inl (unset.0, unset_compressor _ unset.1)))) c.in_err-check.ensures.cause))

pub returns-in_err-tables : goal.returns-in_err-tables
returns-in_err-tables g c =
    let p = err_from_is_err_and c.from_residual-in_err-tables.result
    c.from_residual-in_err-tables.ensures.1 in
    rw (p.1, p.2) (alone_early g.E.Env
    (format_of g.C.Cmp g.FP.FilterPolicy (compressors g.dyn-2).codings) c.args.name.now
    c.args.options (opening_of g.C.Cmp g.FP.FilterPolicy (compressors g.dyn-2).codings c.args.options)
    c.args.env.now c.in_err-tables.field-0.0 (inl c.in_err-tables.ensures.memory))

pub returns-in_err-store : goal.returns-in_err-store
returns-in_err-store g c =
    let p = err_from_is_err_and c.from_residual-in_err-store.result
    c.from_residual-in_err-store.ensures.1 in
    rw (p.1, p.2) (alone_fails g.E.Env
    (format_of g.C.Cmp g.FP.FilterPolicy (compressors g.dyn-2).codings) c.args.name.now
    c.args.options (opening_of g.C.Cmp g.FP.FilterPolicy (compressors g.dyn-2).codings c.args.options)
    c.args.env.now refl c.open_to_read.new.env c.in_err-store.field-0.0 (
      c.in_ok-check_name.ensures.ok,
      within_is c.args.options c.in_ok-check.ensures.limits,
      c.in_ok-check.ensures.compressor,
    ) c.in_err-store.ensures.opens c.in_err-store.ensures.cause)

pub returns : goal.returns
returns g c = alone_opens g.E.Env
    (format_of g.C.Cmp g.FP.FilterPolicy (compressors g.dyn-2).codings) c.args.name.now
    c.args.options (opening_of g.C.Cmp g.FP.FilterPolicy (compressors g.dyn-2).codings c.args.options)
    c.args.env.now refl c.open_to_read.new.env (
      c.in_ok-check_name.ensures.ok,
      within_is c.args.options c.in_ok-check.ensures.limits,
      c.in_ok-check.ensures.compressor,
    ) c.in_ok-store.store c.in_ok-tables.tables c.in_ok-store.ensures.opens
    c.in_ok-store.ensures.cause.ok c.in_ok-store.ensures.opens.unusable
    c.in_ok-store.ensures.cmp
    c.in_ok-tables.ensures.ok c.in_ok-tables.ensures.matches
