use Rattle.std.proofs.Common.{None, length}
use Rattle.leveldb_env.specs.contracts.compressor.CompressorListCompressors.TheImpl
use Rattle.leveldb_table.specs.Block.{pairs_of}
use Rattle.leveldb_table.specs.BlockCheck.{key_before}
use Rattle.leveldb_table.specs.BlockWalk.{position_over}
use Rattle.leveldb_table.proofs.ReadableFileLemmas.{LinesSoFar}
use Rattle.leveldb_table.proofs.ReadableTableLemmas.{rest_from}
use Rattle.leveldb_table.proofs.readable.judge.Judge.lines_hold.Given as goal

abbrev pub invariant-lines : goal.invariant-lines
invariant-lines g l =
    LinesSoFar g.E.Env ((TheImpl.ghosts g.dyn-1).codings l.self.compressors.now) (g.C.Cmp.accepts
    l.self.cmp) (g.C.Cmp.cmp l.self.cmp) l.initial.env l.self.file l.self.size
    (pairs_of None l.index.entries) (key_before l.first l.before.items) l.lines l.env

abbrev pub decreases-lines : goal.decreases-lines
decreases-lines g l = length (rest_from (pairs_of None l.index.entries) (position_over l.lines))
