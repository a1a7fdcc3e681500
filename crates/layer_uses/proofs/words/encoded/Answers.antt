use Rattle.leveldb_base.proofs.VarintLemmas.{length-varint_32}
use Rattle.layer_uses.proofs.words.encoded.Goals as goal

pub encode_varint32-length-requires : goal.encode_varint32-length-requires
encode_varint32-length-requires c = length-varint_32 c.args.n c.ranges.n.fits
