use Rattle.std.proofs.Common.{arith}
use Rattle.leveldb_env.proofs.BloomLemmas.{has_bit-set}
use Rattle.leveldb_env.proofs.filter.bloom.set_bit.Goals as goal

pub returns : goal.returns
returns c = λ other. has_bit-set c.args.bytes.now c.args.bit other (omega arith)
