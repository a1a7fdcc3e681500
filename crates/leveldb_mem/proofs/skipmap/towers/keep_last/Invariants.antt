use Rattle.std.proofs.Common.{◌≡◌, ◌≢◌, ◌+◌, ◌<◌, ◌≤◌, ℕ, length, slice_index}
use Rattle.leveldb_mem.proofs.skipmap.towers.keep_last.Given as goal

abbrev pub invariant-loop-at : goal.invariant-loop-at
invariant-loop-at l = record {
  long : length l.last ≡ length l.fn.last;
  last : (k : ℕ) → k < l.at → slice_index l.words (l.node + k) ≡ 0 → slice_index l.last k ≡ l.node;
  followed : (k : ℕ) → k < l.at → slice_index l.words (l.node + k) ≢ 0 → slice_index l.last k ≡ slice_index l.fn.last k;
  higher : (k : ℕ) → l.at ≤ k → slice_index l.last k ≡ slice_index l.fn.last k;
}
