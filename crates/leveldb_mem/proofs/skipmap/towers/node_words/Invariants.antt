use Rattle.std.proofs.Common.{◌≡◌, ◌+◌, ◌<◌, ℕ, length, slice_index}
use Rattle.leveldb_mem.proofs.skipmap.towers.node_words.Given as goal

abbrev pub invariant-loop-at : goal.invariant-loop-at
invariant-loop-at l = record {
  long : length l.node ≡ 16;
  start : slice_index l.node 0 ≡ l.fn.start;
  key : slice_index l.node 1 ≡ l.fn.key_length;
  value : slice_index l.node 2 ≡ l.fn.value_length;
  height : slice_index l.node 3 ≡ l.fn.height;
  links : (k : ℕ) → k < l.at → slice_index l.node (4 + k) ≡ slice_index l.words (slice_index l.path k + k);
}
