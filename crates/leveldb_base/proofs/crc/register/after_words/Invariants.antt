use Rattle.std.proofs.Common.{◌≡◌, fold, take}
use Rattle.leveldb_base.specs.Crc.{crc_register}
use Rattle.leveldb_base.proofs.crc.register.after_words.Given as goal

abbrev pub invariant-loop-word : goal.invariant-loop-word
invariant-loop-word l = l.register ≡ fold crc_register l.fn.register (take l.word-index l.words)
