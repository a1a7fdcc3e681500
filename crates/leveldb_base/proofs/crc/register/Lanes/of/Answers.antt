use Rattle.std.proofs.Common.{◌∙◌, arith, sym}
use Rattle.leveldb_base.proofs.CrcLemmas.{lanes_register-block}
use Rattle.leveldb_base.proofs.crc.register.Lanes.of.Goals as goal

pub returns : goal.returns
returns c =
    lanes_register-block c.args.register c.number_of.result c.number_of-2.result c.number_of-3.result c.number_of-4.result c.args.block.now
    c.as_chunks.result.0.now (omega arith) c.as_chunks.ensures.front (sym c.mixed.ensures ∙ c.number_of.ensures) c.number_of-2.ensures c.number_of-3.ensures
    c.number_of-4.ensures
