use Rattle.std.proofs.Common.{arith}
use Rattle.leveldb_base.proofs.CrcLemmas.{lanes_register-after}
use Rattle.leveldb_base.proofs.crc.register.Lanes.after.Goals as goal

pub returns : goal.returns
returns c =
    let it = c.args.self
    in let words = c.of-words.result
    in rw (c.moved.ensures, c.moved-2.ensures, c.moved-3.ensures, c.moved-4.ensures)
    (lanes_register-after it.first it.second it.third it.fourth words.first words.second words.third words.fourth c.args.block.now (omega arith) c.of-words.ensures)
