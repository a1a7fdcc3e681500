use Rattle.std.proofs.Common.{◌∙◌}
use Rattle.leveldb_base.proofs.CrcLemmas.{crc_zeros-none}
use Rattle.leveldb_base.proofs.crc.register.after_word.Goals as goal

pub returns : goal.returns
returns c = c.word_then_zeros.ensures ∙ crc_zeros-none _ ∙ c.mixed.ensures
