use Rattle.std.proofs.Common.{◌≡◌, drop}
use Rattle.leveldb_base.specs.Cmp.{bytewise}
use Rattle.leveldb_base.proofs.cmp.words.cmp_by_bytes.Given as goal

abbrev pub invariant-loop-i : goal.invariant-loop-i
invariant-loop-i l =
    bytewise l.fn.a l.fn.b ≡ bytewise (drop l.i l.fn.a) (drop l.i l.fn.b)
