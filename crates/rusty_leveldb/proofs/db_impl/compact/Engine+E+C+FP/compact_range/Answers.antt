-- Refused by the mode, an end that is too long, or what the compaction of the store returned.
use Rattle.std.proofs.Common.{ap, inl, inr}
use Rattle.std.proofs.lemmas.Result.{err_from_is_err_and}
use Rattle.leveldb_env.specs.contracts.compressor.CompressorListCompressors.TheImpl.{ghosts as compressors}
use Rattle.leveldb_files.specs.Stores.Format.{format_of}
use Rattle.rusty_leveldb.proofs.Compactions.CompactCallLemmas.{compact_serves, refused_compacts, long_compacts}
use Rattle.rusty_leveldb.proofs.db_impl.compact.Engine+E+C+FP.compact_range.Goals as goal

pub returns-in_err-check_open : goal.returns-in_err-check_open
returns-in_err-check_open g c =
    let p = err_from_is_err_and c.from_residual.result c.from_residual.ensures.1 in
    rw (p.1, p.2) (refused_compacts g.E.Env _ c.args.self.now c.args.env.now c.args.from.now
    c.args.to.now c.in_err-check_open.field-0.0 c.in_err-check_open.ensures.cause)

pub returns-in_err-check_key_size : goal.returns-in_err-check_key_size
returns-in_err-check_key_size g c =
    let p = err_from_is_err_and c.from_residual-in_err-check_key_size.result
    c.from_residual-in_err-check_key_size.ensures.1 in
    let long = c.in_err-check_key_size.ensures.long in
    rw (p.1, p.2) (long_compacts g.E.Env _ c.args.self.now c.args.env.now c.args.from.now
    c.args.to.now c.in_ok-check_open.ensures.ok c.in_err-check_key_size.field-0.0 long.0
    (inl long.1))

pub returns-in_err-check_key_size-2 : goal.returns-in_err-check_key_size-2
returns-in_err-check_key_size-2 g c =
    let p = err_from_is_err_and c.from_residual-in_err-check_key_size-2.result
    c.from_residual-in_err-check_key_size-2.ensures.1 in
    let long = c.in_err-check_key_size-2.ensures.long in
    rw (p.1, p.2) (long_compacts g.E.Env _ c.args.self.now c.args.env.now c.args.from.now
    c.args.to.now c.in_ok-check_open.ensures.ok c.in_err-check_key_size-2.field-0.0 long.0
    (inr long.1))

pub returns : goal.returns
returns g c = compact_serves g.E.Env _ c.args.self.now c.args.env.now c.args.from.now
    c.args.to.now c.in_ok-check_open.ensures.ok c.compact_store.new.self c.compact_store.new.env
    (λ a b is. ap (format_of g.C.Cmp g.FP.FilterPolicy (compressors g.dyn-2).codings) is.rest)
    c.in_ok-check_key_size.ensures.ok c.in_ok-check_key_size-2.ensures.ok c.compact_store.result
    c.compact_store.ensures.compacts c.compact_store.ensures.sink
