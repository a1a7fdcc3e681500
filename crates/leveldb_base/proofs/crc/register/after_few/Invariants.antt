use Rattle.std.proofs.Common.{◌≡◌, fold, take}
use Rattle.leveldb_base.specs.Crc.{crc_register, lanes_register}
use Rattle.leveldb_base.proofs.crc.register.after_few.Given as goal

abbrev pub invariant-loop-block : goal.invariant-loop-block
invariant-loop-block l =
    let first = l.initial.lanes
    in lanes_register l.lanes.first l.lanes.second l.lanes.third l.lanes.fourth
    ≡ fold crc_register (lanes_register first.first first.second first.third first.fourth) (take l.block-index l.others)
