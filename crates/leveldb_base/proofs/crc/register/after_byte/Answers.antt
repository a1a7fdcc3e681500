use Rattle.std.proofs.Common.{◌∙◌, ap, ◌/◌}
use Rattle.std.specs.Int.Bits.{bit_xor}
use Rattle.std.proofs.lemmas.Nat.{and_mask}
use Rattle.leveldb_base.specs.Crc.{crc_zeros}
use Rattle.leveldb_base.proofs.CrcLemmas.{crc_byte-apart}
use Rattle.leveldb_base.proofs.crc.register.after_byte.Goals as goal

pub returns : goal.returns
returns c =
    let register = c.args.register
    in ap (λ r. bit_xor r (register / 256)) (c.byte_then_zeros.ensures ∙ ap (λ low. crc_zeros 1 (bit_xor c.args.byte low)) (and_mask register 8))
    ∙ crc_byte-apart register c.args.byte
