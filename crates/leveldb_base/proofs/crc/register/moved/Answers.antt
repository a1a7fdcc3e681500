use Rattle.std.proofs.Common.{◌∙◌, ap, arith}
use Rattle.leveldb_base.specs.Crc.{crc_register, crc_zeros}
use Rattle.leveldb_base.proofs.CrcLemmas.{crc_zeros-le_bytes}
use Rattle.leveldb_base.proofs.crc.register.moved.Goals as goal

pub returns : goal.returns
returns c =
    c.word_then_zeros.ensures ∙ ap (λ bytes. crc_zeros c.args.zeros (crc_register 0 bytes)) c.to_le_bytes.ensures
    ∙ crc_zeros-le_bytes c.args.zeros c.args.register (omega arith)
