use Rattle.std.proofs.Common.{◌∙◌, ap, ap₂, arith, get_or}
use Rattle.std.specs.Int.Bits.{bit_xor}
use Rattle.leveldb_base.specs.Crc.{crc_register, crc_zeros}
use Rattle.leveldb_base.proofs.CrcLemmas.{crc_zeros-word, four_elements}
use Rattle.leveldb_base.proofs.crc.register.word_then_zeros.Goals as goal

pub returns : goal.returns
returns c =
    let word = c.args.word
    in ap₂ bit_xor (ap₂ bit_xor c.byte_then_zeros.ensures c.byte_then_zeros-2.ensures) (ap₂ bit_xor c.byte_then_zeros-3.ensures c.byte_then_zeros-4.ensures)
    ∙ crc_zeros-word c.args.zeros (get_or word 0 0) (get_or word 1 0) (get_or word 2 0) (get_or word 3 0)
    ∙ ap (λ bytes. crc_zeros c.args.zeros (crc_register 0 bytes)) (four_elements word (omega arith))
