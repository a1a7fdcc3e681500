use Rattle.leveldb_base.proofs.VarintLemmas.{ReadsGroups}
use Rattle.leveldb_base.proofs.varint.get_long_varint.Given as goal

abbrev pub invariant-loop-i : goal.invariant-loop-i
invariant-loop-i l = ReadsGroups l.src l.i l.n
