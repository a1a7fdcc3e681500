use Rattle.std.proofs.Common.{◌≡◌, ◌+◌, ◌*◌, ℕ, List, length, take}
use Rattle.std.specs.List.{concat}
use Rattle.leveldb_base.specs.Crc.{reduced, crc_register, lanes_register}
use Rattle.leveldb_base.specs.declared.crc.quotient.TheConstants.{TERMS}
use Rattle.leveldb_base.proofs.crc.quotient.Quotient.after_left.Given as goal

-- the blocks so far are read
pub record Reads (bytes done : List ℕ) (offset at index lanes : ℕ) : Type 0 where
  pub far : at ≡ offset + 16 * index
  pub count : length done ≡ 16 * index
  pub read : lanes ≡ crc_register 0 (reduced TERMS bytes offset done)

abbrev pub invariant-loop-block : goal.invariant-loop-block
invariant-loop-block l =
    Reads l.self.bytes (concat (take l.block-index l.blocks)) l.offset l.at l.block-index
    (lanes_register l.lanes.first l.lanes.second l.lanes.third l.lanes.fourth)
