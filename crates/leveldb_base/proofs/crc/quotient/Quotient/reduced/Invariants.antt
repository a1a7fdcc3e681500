use Rattle.std.proofs.Common.{◌≡◌, drop}
use Rattle.leveldb_base.specs.Crc.{reduced}
use Rattle.leveldb_base.specs.declared.crc.quotient.TheConstants.{TERMS}
use Rattle.leveldb_base.proofs.crc.quotient.Quotient.reduced.Given as goal

abbrev pub invariant-loop-term : goal.invariant-loop-term
invariant-loop-term l = reduced (drop l.term-index TERMS) l.self.bytes l.offset l.left ≡ reduced TERMS l.self.bytes l.offset l.block
