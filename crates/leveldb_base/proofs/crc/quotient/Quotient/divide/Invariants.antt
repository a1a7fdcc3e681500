use Rattle.std.proofs.Common.{◌≡◌, ◌*◌, ◌<◌, All, ℕ, List, length, take}
use Rattle.std.specs.List.{concat}
use Rattle.std.specs.Simd.Lanes.{chunk, put_chunk}
use Rattle.leveldb_base.specs.Crc.{reduced}
use Rattle.leveldb_base.specs.declared.crc.quotient.TheConstants.{TERMS}
use Rattle.leveldb_base.proofs.crc.quotient.Quotient.divide.Given as goal

-- the blocks so far are divided
pub record Divides (old bytes done : List ℕ) (offset index : ℕ) : Type 0 where
  pub far : offset ≡ 16 * index
  pub count : length done ≡ offset
  pub quotient : chunk 266 offset bytes ≡ reduced TERMS bytes 0 done
  pub small : All (λ byte. byte < 256) (chunk 266 offset bytes)
  pub same : bytes ≡ put_chunk 266 old (chunk 266 offset bytes)

abbrev pub invariant-loop-block : goal.invariant-loop-block
invariant-loop-block l = Divides l.initial.self.bytes l.self.bytes (concat (take l.block-index l.blocks)) l.offset l.block-index
