use Rattle.std.proofs.Common.{◌≡◌, ◌+◌, ◌%◌, map, take}
use Rattle.layer_uses.proofs.compressors.ShiftCompressor.decode.Given as goal

abbrev pub invariant-loop-byte : goal.invariant-loop-byte
invariant-loop-byte l = map (λ byte. (byte + 255) % 256) (take l.byte-index l.byte-items) ≡ l.block.items
