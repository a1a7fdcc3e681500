use Rattle.std.proofs.Common.{None, length}
use Rattle.leveldb_base.specs.Types.{Pair}
use Rattle.leveldb_table.specs.Block.{pairs_of}
use Rattle.leveldb_table.specs.BlockCheck.{key_before}
use Rattle.leveldb_table.specs.BlockWalk.{position_over}
use Rattle.leveldb_table.specs.ReadableTable.{IsKeyBetween}
use Rattle.leveldb_table.proofs.ReadableFileLemmas.{IsPassing}
use Rattle.leveldb_table.proofs.ReadableTableLemmas.{rest_from}
use Rattle.leveldb_table.proofs.readable.keys.are_between.Given as goal

abbrev pub invariant-pairs : goal.invariant-pairs
invariant-pairs g l =
    IsPassing
    (λ (pair : Pair). IsKeyBetween (g.C.Cmp.accepts l.cmp) (g.C.Cmp.cmp l.cmp) (key_before
    l.line.first l.line.before.now) l.line.here.now pair.0)
    (pairs_of None l.block.entries) l.pairs

abbrev pub decreases-pairs : goal.decreases-pairs
decreases-pairs g l = length (rest_from (pairs_of None l.block.entries) (position_over l.pairs))
