-- What sources give, one read after another.
use Rattle.std.specs.Prelude.{◌≡◌, ◌<◌, ℕ, List, [], ◌∷◌, length, take, Result, Ok, Err, ◌⊎◌, drop}
use Rattle.leveldb_base.specs.declared.error.Status.{Status}
use Rattle.std.specs.List.{concat}
use Rattle.leveldb_base.specs.Error.{IsOutOfMemory}

-- what a read gave of which `n` bytes went into a target
abbrev pub given : Result ℕ Status → List ℕ → Result (List ℕ) Status
given (Ok n) target = Ok (take n target)
given (Err e) target = Err e

module _ {S : Type 0} (gives : S → ℕ → Result (List ℕ) Status → S → Type 0) where
  -- reads of a source that gave these pieces, one after another
  abbrev pub Draws : S → List (List ℕ) → S → Type 0
  Draws from [] to = to ≡ from
  Draws from (piece ∷ pieces) to = (room : ℕ) × (mid : S) × (0 < length piece)
      × gives from room (Ok piece) mid × Draws mid pieces to

  -- a read for which there was room gave nothing, as at a source's end
  abbrev pub AtEnd : S → S → Type 0
  AtEnd from to = (room : ℕ) × (0 < room) × gives from room (Ok []) to

  -- a read failed
  abbrev pub ReadFails : S → Status → S → Type 0
  ReadFails from status to = (room : ℕ) × gives from room (Err status) to

module _ {S : Type 0} (gives : S → ℕ → Result (List ℕ) Status → S → Type 0) where
  -- reads gave these bytes, one after another
  pub record GivesSome (from : S) (bytes : List ℕ) (to : S) : Type 0 where
    -- the pieces
    pub pieces : List (List ℕ)
    -- each was read, in this order
    pub drawn : Draws gives from pieces to
    -- and together they are the bytes
    pub joined : bytes ≡ concat pieces

  -- reads gave these bytes, and then there were no more
  pub record GivesAll (from : S) (bytes : List ℕ) (to : S) : Type 0 where
    -- the source after its last byte
    pub mid : S
    -- reads gave the bytes
    pub given_before : GivesSome from bytes mid
    -- and then one gave none
    pub at_end : AtEnd gives mid to

  -- reads gave some bytes, and then one failed, or there was no memory for what had been read
  pub record GivesUp (from : S) (status : Status) (to : S) : Type 0 where
    -- the source before the failure
    pub mid : S
    -- what had been read
    pub bytes : List ℕ
    -- reads gave it
    pub given_before : GivesSome from bytes mid
    -- then one failed, or there was no memory for what had been read
    pub why : ReadFails gives mid status to ⊎ ((to ≡ mid) × IsOutOfMemory status)

-- bytes in memory give as many as there is room for, and are then what follows
pub record GivesFirst (old : List ℕ) (room : ℕ) (result : Result (List ℕ) Status) (new : List ℕ)
    : Type 0 where
  -- as many as there is room for, or all
  pub ok : result ≡ Ok (take room old)
  -- the others are left
  pub left : new ≡ drop room old
