use Rattle.leveldb_base.proofs.VarintLemmas.{Writes}
use Rattle.leveldb_base.proofs.varint.encode_varint64.Given as goal

abbrev pub invariant-loop-rest : goal.invariant-loop-rest
invariant-loop-rest l = Writes l.n l.fn.dst l.dst l.used l.rest

abbrev pub decreases-loop-rest : goal.decreases-loop-rest
decreases-loop-rest l = l.rest
