use Rattle.std.proofs.lemmas.List.{take_rest}
use Rattle.leveldb_base.proofs.VarintLemmas.{read_number}
use Rattle.leveldb_version.proofs.version_edit.fields.take_number.Goals as goal

pub returns : goal.returns
returns c = (c.in_ok-number.ensures.0, rw take_rest (read_number 64 _ _ _ c.in_ok-number.ensures).1)
