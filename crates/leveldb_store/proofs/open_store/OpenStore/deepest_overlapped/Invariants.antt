use Rattle.std.proofs.Common.{◌≡◌, ◌<◌}
use Rattle.leveldb_files.specs.Levels.Overlap.{named_range}
use Rattle.leveldb_store.proofs.Compactions.CompactLevelLemmas.{deepest_before}
use Rattle.leveldb_store.proofs.open_store.OpenStore.deepest_overlapped.Given as goal

-- the deepest of the levels before this one
abbrev pub invariant-loop-level : goal.invariant-loop-level
invariant-loop-level g l = record {
  deepest : l.deepest ≡ deepest_before (g.C.Cmp.cmp l.self.cmp) (named_range l.from l.to) l.self.set.full.added l.level;
  known : l.deepest < 6;
}
