use Rattle.std.proofs.Common.{◌≡◌, ◌+◌, ◌*◌, ◌/◌, ◌%◌, ◌^◌, ap, arith}
use Rattle.std.specs.Int.Bits.{bit_xor}
use Rattle.byteorder.specs.Endian.{little_number}
use Rattle.leveldb_env.specs.Bloom.{mixed}
use Rattle.leveldb_env.proofs.filter.bloom.mixed.Goals as goal

pub returns : goal.returns
unfolding mixed
returns c =
    let number : c.from_le_bytes.result ≡ little_number 4 c.args.word = omega arith
    in let product : (c.args.hash + c.from_le_bytes.result) % 2 ^ 32 * 0xc6a4a793 % 2 ^ 32 ≡ (c.args.hash + little_number 4 c.args.word) * 0xc6a4a793 % 2 ^ 32 = omega arith
    in ap (λ p. bit_xor p (p / 2 ^ c.args.shift)) product
