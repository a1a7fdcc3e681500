use Rattle.std.proofs.lemmas.List.{take_rest}
use Rattle.leveldb_base.proofs.VarintLemmas.{read_number}
use Rattle.leveldb_table.proofs.block.entry.take_number.Goals as goal

pub returns : goal.returns
returns c = (c.in_ok-n.ensures.0, rw take_rest (read_number 32 c.args.bytes.now c.in_ok-n.n c.in_ok-n.used c.in_ok-n.ensures).1)
