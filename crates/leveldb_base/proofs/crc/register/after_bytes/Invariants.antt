use Rattle.std.proofs.Common.{◌≡◌, fold, take}
use Rattle.leveldb_base.specs.Crc.{crc_byte}
use Rattle.leveldb_base.proofs.crc.register.after_bytes.Given as goal

abbrev pub invariant-loop-byte : goal.invariant-loop-byte
invariant-loop-byte l = l.register ≡ fold crc_byte l.fn.register (take l.byte-index l.bytes)
