-- What sinks are after a put or a flush.
use Rattle.std.specs.Prelude.{◌≡◌, ℕ, List, [], ◌∷◌, ◌++◌, Result, Ok, Err, OnOk, OnErr, IfErr}
use Rattle.std.specs.List.{concat}
use Rattle.std.specs.Borrow.{MutBor}
use Rattle.leveldb_base.specs.declared.error.Status.{Status}
use Rattle.leveldb_base.specs.Error.{IsOutOfMemory}

module _ {S : Type 0} (puts : S → List ℕ → Result (Unit {0}) Status → S → Type 0) where
  -- these pieces were put, one after another
  abbrev pub PutsEach : S → List (List ℕ) → S → Type 0
  PutsEach from [] to = to ≡ from
  PutsEach from (piece ∷ pieces) to = (mid : S) × puts from piece (Ok tt) mid
      × PutsEach mid pieces to

  -- these bytes were put, in one piece or more, or none
  pub record PutsAll (from : S) (bytes : List ℕ) (to : S) : Type 0 where
    -- the pieces
    pub pieces : List (List ℕ)
    -- each was put, in this order
    pub put : PutsEach from pieces to
    -- and together they are the bytes
    pub joined : bytes ≡ concat pieces

  -- of these bytes some were put, and then the put of a piece failed
  pub record PutsPart (from : S) (bytes : List ℕ) (status : Status) (to : S) : Type 0 where
    -- the sink before the put that failed
    pub mid : S
    -- what was put before
    pub done : List ℕ
    -- what was to be put next
    pub piece : List ℕ
    -- the puts before succeeded
    pub put_before : PutsAll from done mid
    -- this one failed
    pub failed : puts mid piece (Err status) to
    -- the rest of the bytes was its piece
    pub joined : bytes ≡ done ++ piece

-- ---- bytes in memory

-- The bytes are appended to the old ones. The only error is out of memory, and it changes nothing.
pub record AppendsBytes (old bytes : List ℕ) (result : Result (Unit {0}) Status) (new : List ℕ)
    : Type 0 where
  -- an Ok appends the bytes
  pub ok : OnOk result (new ≡ old ++ bytes)
  -- an Err changes nothing
  pub err : OnErr result (new ≡ old)
  -- the only cause
  pub memory : IfErr result IsOutOfMemory

-- a flush never fails, and changes nothing
pub record FlushesNothing (old : List ℕ) (result : Result (Unit {0}) Status) (new : List ℕ)
    : Type 0 where
  -- it succeeds
  pub ok : result ≡ Ok tt
  -- and changes nothing
  pub same : new ≡ old

-- ---- what is borrowed

-- what is borrowed changes so, and is still the same
pub record ChangesBorrowed {S : Type 0} (Changes : S → S → Type 0) (old new : MutBor S)
    : Type 0 where
  -- what is borrowed changes so
  pub changes : Changes old.now new.now
  -- and is the same one
  pub same_reference : new.ghost_name ≡ old.ghost_name
