use Rattle.leveldb_base.proofs.VarintLemmas.{length-varint-pos, length-varint_32, length-varint_64}
use Rattle.leveldb_base.proofs.laws.varints_are_short.Goals as goal

pub returns : goal.returns
returns c = record { some = length-varint-pos; bits_32 = length-varint_32; bits_64 = length-varint_64 }
