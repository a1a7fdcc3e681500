use Rattle.std.proofs.Common.{◌∙◌, ap, arith, sym}
use Rattle.leveldb_base.specs.Crc.{crc_register}
use Rattle.leveldb_base.proofs.CrcLemmas.{four_elements}
use Rattle.leveldb_base.proofs.crc.register.number_of.Goals as goal

pub returns : goal.returns
returns c = ap (crc_register 0) (sym (four_elements c.args.word (omega arith))) ∙ c.number_in.ensures
