use Rattle.leveldb_base.proofs.VarintLemmas.{read_written, read_sized}
use Rattle.leveldb_base.proofs.laws.written_is_read.Goals as goal

pub returns : goal.returns
returns c = record { number = read_written; text = read_sized }
