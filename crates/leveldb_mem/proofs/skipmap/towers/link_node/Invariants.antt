use Rattle.std.proofs.Common.{◌≡◌, ◌≢◌, ◌+◌, ◌<◌, ℕ, length, slice_index}
use Rattle.leveldb_mem.proofs.skipmap.towers.link_node.Given as goal

abbrev pub invariant-loop-at : goal.invariant-loop-at
invariant-loop-at l = record {
  long : length l.words ≡ length l.fn.words;
  linked : (k : ℕ) → k < l.at → slice_index l.words (slice_index l.path k + k) ≡ l.node;
  others : (i : ℕ) → ((k : ℕ) → k < l.at → i ≢ slice_index l.path k + k) → slice_index l.words i ≡ slice_index l.fn.words i;
}
