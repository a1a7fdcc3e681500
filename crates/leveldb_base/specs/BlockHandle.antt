-- A block's offset and size in its file, and their encoding in LevelDB's tables.
use Rattle.std.specs.Prelude.{◌≡◌, ℕ, ◌^◌, ◌<◌, List, ◌++◌, length, drop, Option, None, Some}
use Rattle.leveldb_base.specs.Varint.{varint}

-- a block's offset in its file, and its length in bytes
pub record Handle : Type 0 where
  -- where the block begins
  pub offset : ℕ
  -- how many bytes it has
  pub size : ℕ

-- both numbers as varints
abbrev pub handle_bytes : Handle → List ℕ
handle_bytes handle = varint handle.offset ++ varint handle.size

-- both numbers have at most 64 bits
pub record HandleFits (handle : Handle) : Type 0 where
  -- the offset has
  pub offset : handle.offset < 2 ^ 64
  -- and so has the length
  pub size : handle.size < 2 ^ 64

-- What reading a handle at the front of some bytes gives: the handle and the length of its
-- encoding, or nothing where no encoding of a handle is a prefix of the bytes.
abbrev pub ReadsHandle : List ℕ → Option (Handle × ℕ) → Type 0
ReadsHandle bytes (Some (handle, used)) =
    HandleFits handle × (used ≡ length (handle_bytes handle))
    × (bytes ≡ handle_bytes handle ++ drop used bytes)
ReadsHandle bytes None =
    (handle : Handle) (rest : List ℕ) → HandleFits handle → bytes ≡ handle_bytes handle ++ rest → ⊥
