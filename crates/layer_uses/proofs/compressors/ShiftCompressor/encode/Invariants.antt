use Rattle.std.proofs.Common.{◌≡◌, ◌+◌, ◌%◌, map, take}
use Rattle.layer_uses.proofs.compressors.ShiftCompressor.encode.Given as goal

abbrev pub invariant-loop-byte : goal.invariant-loop-byte
invariant-loop-byte l = map (λ byte. (byte + 255) % 256) l.stored.items ≡ take l.byte-index l.byte-items
