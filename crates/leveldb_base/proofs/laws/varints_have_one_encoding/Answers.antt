use Rattle.std.proofs.Common.{sym, subst}
use Rattle.leveldb_base.specs.Varint.{IsVarint}
use Rattle.leveldb_base.proofs.VarintLemmas.{IsVarint-varint, varint_only}
use Rattle.leveldb_base.proofs.laws.varints_have_one_encoding.Goals as goal

pub returns : goal.returns
returns c = λ bytes n. (varint_only bytes n, λ same. subst (λ z. IsVarint z n) (sym same) (IsVarint-varint n))
