use Rattle.std.proofs.Common.{ap, length, nat_le, ◌&&◌}
use Rattle.leveldb_base.specs.KeyTypes.{user_part}
use Rattle.leveldb_env.specs.contracts.compressor.CompressorListCompressors.TheImpl
use Rattle.leveldb_table.proofs.ReadableFileLemmas.{judges_open, judges_none}
use Rattle.leveldb_table.proofs.readable.is_readable_table.Goals as goal

pub returns : goal.returns
returns g c =
    let codings = (TheImpl.ghosts g.dyn-1).codings c.args.compressors.now in
    judges_open g.E.Env codings (g.C.Cmp.cmp c.args.cmp) c.is_table.ensures.fits
    c.in_ok-file.ensures c.is_table.result
    (λ key. ap (λ b. nat_le 8 (length key) && b) (g.met.C.UserCmp.accepts_all c.args.cmp (user_part
    key)))
    c.is_table.ensures.reads c.is_table.ensures.ok

pub returns-in_err-file : goal.returns-in_err-file
returns-in_err-file g c = judges_none g.E.Env ((TheImpl.ghosts g.dyn-1).codings c.args.compressors.now) (g.C.Cmp.cmp c.args.cmp) c.from_residual.result c.from_residual.ensures.1 c.in_err-file.ensures
