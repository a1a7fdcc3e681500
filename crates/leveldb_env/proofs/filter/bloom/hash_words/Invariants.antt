use Rattle.std.proofs.Common.{◌≡◌, fold, take}
use Rattle.byteorder.specs.Endian.{little_number}
use Rattle.leveldb_env.specs.Bloom.{mixed}
use Rattle.leveldb_env.proofs.filter.bloom.hash_words.Given as goal

abbrev pub invariant-loop-word : goal.invariant-loop-word
invariant-loop-word l = l.hash ≡ fold (λ hash word. mixed 16 hash (little_number 4 word)) l.fn.hash (take l.word-index l.words)
