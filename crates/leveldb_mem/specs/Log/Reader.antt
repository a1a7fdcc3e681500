-- A reader of a log, and what its calls find.
use Rattle.std.specs.Prelude.{◌≡◌, Ok, length, IfOk, IfErr, IsErrAnd, OnErr, ℕ, Bool, true, false}
use Rattle.std.specs.Prelude.{List, [], ◌++◌, Result, codes, string_bytes, IfSome, ◌⊎◌, ◌^◌, ◌<◌}
use Rattle.std.specs.Prelude.{◌≤◌}
use Rattle.leveldb_base.specs.declared.error.Status.{Status}
use Rattle.leveldb_base.specs.declared.error.StatusCode.TheVariants.{Corruption, NotSupported}
use Rattle.leveldb_env.specs.Source.{GivesSome, GivesAll, GivesUp}
use Rattle.leveldb_mem.specs.declared.log.reader.Found.{Found}
use Rattle.leveldb_mem.specs.declared.log.reader.Found.TheVariants.{Record, End, WrongChecksum}
use Rattle.leveldb_mem.specs.declared.log.reader.Found.TheVariants.{Damage}
use Rattle.leveldb_mem.specs.Log.{offset_after, IsRecord, clean, bad, Ends, LogOf, BreaksOff}
use Rattle.leveldb_mem.specs.Log.{IsBlockSize}

-- a reader of a log
pub record ReaderState : Type 0 where
  -- whether it asks for right checksums
  pub checked : Bool
  -- the size of its blocks
  pub size : ℕ
  -- the offset in its block of what is read next
  pub offset : ℕ
  -- the bytes that its source has given and that are still to be read
  pub unread : List ℕ
  -- whether it has failed
  pub failed : Bool

-- a reader at a log's start
abbrev pub new_reader : Bool → ℕ → ReaderState
new_reader checked size =
    record { checked = checked; size = size; offset = 0; unread = []; failed = false }

-- a reader after a front of the bytes, with these still to be read
abbrev pub after_front : ReaderState → List ℕ → List ℕ → ReaderState
after_front reader front unread =
    record reader { offset = offset_after reader.size reader.offset front; unread = unread }

-- no front of the bytes breaks off with a wrong checksum
abbrev pub NeverBreaks : ℕ → Bool → ℕ → List ℕ → Type 0
NeverBreaks size first offset bytes = (front more : List ℕ) → bytes ≡ front ++ more
    → BreaksOff size first offset front → ⊥

-- from this offset on the bytes are no record, for another cause than a wrong checksum
pub record IsTorn (checked : Bool) (size offset : ℕ) (bytes : List ℕ) : Type 0 where
  -- they are no record
  pub ends : Ends checked size bad offset bytes
  -- and where checksums are asked for, none is wrong
  pub never_breaks : checked ≡ true → NeverBreaks size true offset bytes

-- the error of a fragment with a wrong checksum
pub record IsWrongChecksum (status : Status) : Type 0 where
  -- `Corruption`
  pub code : status.code ≡ Corruption
  -- with this text, where there was memory for one
  pub text : IfSome status.err (λ text. string_bytes text ≡ codes "Corruption: Invalid Checksum")

-- the end of a log by damage
abbrev pub IsDamage : Found → Type 0
IsDamage (Damage cause) = Unit {0}
IsDamage found = ⊥

module _ {S : Type 0} where
  -- first these bytes come that are still to be read, and then what reads of the source gave
  pub record IsUnreadThenGiven (Gives : S → List ℕ → S → Type 0) (unread : List ℕ) (source : S)
      (bytes : List ℕ) (to : S) : Type 0 where
    -- what the source gave
    pub given : List ℕ
    -- in reads that led to this source
    pub reads : Gives source given to
    -- the bytes are what was still to be read, and then these
    pub bytes_are : bytes ≡ unread ++ given

module _ {S : Type 0} (gives : S → ℕ → Result (List ℕ) Status → S → Type 0) where
  -- All that comes up to the source's end is so: the end was reached, or it is so whatever follows.
  pub data HoldsOfRest (P : List ℕ → Type 0) (unread : List ℕ) (source to : S) : Type 0 where
    at_end : (bytes : List ℕ) → IsUnreadThenGiven (GivesAll gives) unread source bytes to → P bytes
        → HoldsOfRest P unread source to
    whatever_follows : (bytes : List ℕ)
        → IsUnreadThenGiven (GivesSome gives) unread source bytes to
        → ((more : List ℕ) → P (bytes ++ more)) → HoldsOfRest P unread source to

  -- reads gave 2^64 bytes of one record, whose fragments aren't counted further
  pub record GivesTooMuch (from : S) (status : Status) (to : S) : Type 0 where
    -- `NotSupported`
    pub code : status.code ≡ NotSupported
    -- what reads gave
    pub bytes : List ℕ
    -- up to this source
    pub given_before : GivesSome gives from bytes to
    -- it has 2^64 bytes at least
    pub many : 2 ^ 64 ≤ length bytes

  -- why a reading stops before it finds what comes next
  abbrev pub StopsReading : S → Status → S → Type 0
  StopsReading from status to = GivesUp gives from status to ⊎ GivesTooMuch from status to

  -- a record comes next, and was read
  pub record FindsRecord (old : ReaderState) (source : S) (text : List ℕ) (new : ReaderState)
      (to : S) : Type 0 where
    -- the record's bytes
    pub front : List ℕ
    -- they come, and what the reader still has to read comes after them
    pub come : IsUnreadThenGiven (GivesSome gives) old.unread source (front ++ new.unread) to
    -- they are this record
    pub is_record : IsRecord old.checked old.size text old.offset front
    -- the reader is after it
    pub reader : new ≡ after_front old front new.unread

  -- nothing comes
  pub record FindsEnd (old : ReaderState) (source : S) (new : ReaderState) (to : S) : Type 0 where
    -- nothing is still to be read, and the source is at its end
    pub come : IsUnreadThenGiven (GivesAll gives) old.unread source [] to
    -- the reader is as it was
    pub reader : new ≡ old

  -- what comes next breaks off with a wrong checksum, and the fragment that has it was passed
  pub record FindsWrongChecksum (old : ReaderState) (source : S) (new : ReaderState) (to : S)
      : Type 0 where
    -- the bytes up to the end of the fragment with the wrong checksum
    pub front : List ℕ
    -- checksums are asked for
    pub asked : old.checked ≡ true
    -- they come, and what the reader still has to read comes after them
    pub come : IsUnreadThenGiven (GivesSome gives) old.unread source (front ++ new.unread) to
    -- a record breaks off in them
    pub breaks : BreaksOff old.size true old.offset front
    -- the reader is after them
    pub reader : new ≡ after_front old front new.unread

  -- what comes next, by what was found
  abbrev pub FindsNext : Found → ReaderState → S → List ℕ → ReaderState → S → Type 0
  FindsNext Record old source text new to = FindsRecord old source text new to
  FindsNext End old source text new to = FindsEnd old source new to × (text ≡ [])
  FindsNext WrongChecksum old source text new to = FindsWrongChecksum old source new to
  FindsNext (Damage cause) old source text new to =
      HoldsOfRest (IsTorn old.checked old.size old.offset) old.unread source to

  -- why a read failed, and what that leaves
  pub data FailsToRead (old : ReaderState) (source : S) (status : Status)
      (new : ReaderState) (to : S) : Type 0 where
    wrong_checksum : IsWrongChecksum status → FindsWrongChecksum old source new to
        → FailsToRead old source status new to
    torn : status.code ≡ Corruption
        → HoldsOfRest (IsTorn old.checked old.size old.offset) old.unread source to
        → new.failed ≡ true → FailsToRead old source status new to
    given_up : GivesUp gives source status to → new.failed ≡ true
        → FailsToRead old source status new to
    too_long : GivesTooMuch source status to → new.failed ≡ true
        → FailsToRead old source status new to

  -- what reading a record returns, and what it leaves: of the target, only what is in it after the
  -- call
  pub record ReadResult (old : ReaderState) (source : S) (result : Result ℕ Status)
      (text : List ℕ) (new : ReaderState) (to : S) : Type 0 where
    -- the length of the record
    pub count : IfOk result (λ count. count ≡ length text)
    -- a record was read
    pub found : IfOk result (λ count. 0 < count → FindsRecord old source text new to)
    -- or there is no further one
    pub end : result ≡ Ok 0 → FindsEnd old source new to
    -- an Err has one of these causes
    pub err : old.failed ≡ false → IfErr result (λ status. FailsToRead old source status new to)
    -- a reader that has failed does nothing
    pub failed : old.failed ≡ true → IsErrAnd result (λ status. status.code ≡ Corruption)
        × (new ≡ old) × (to ≡ source)
    -- no part of a record is left in the target
    pub cleared : OnErr result (text ≡ [])

  -- So far these records were read, from the log's start on, and what the reader still has to read
  -- comes after them.
  pub record ReadSoFar (checked : Bool) (size : ℕ) (from : S) (records : List (List ℕ))
      (now : ReaderState) (at : S) : Type 0 where
    -- the bytes of the records
    pub front : List ℕ
    -- the source gave them, and then what the reader still has to read
    pub come : IsUnreadThenGiven (GivesSome gives) [] from (front ++ now.unread) at
    -- they are a log of these records
    pub log : LogOf checked size records clean 0 front
    -- the reader is after them
    pub reader : now ≡ after_front (new_reader checked size) front now.unread

-- ---- how the block is held

-- what was read of the block comes before what is there of it, and that within the block
pub record IsReaderBuffer (size used filled held : ℕ) : Type 0 where
  -- of a size that a reader takes
  pub block : IsBlockSize size
  -- what was read ends within the block
  pub inside : used < size
  -- it was there to be read
  pub read : used ≤ filled
  -- what is there is in the buffer
  pub there : filled ≤ held
  -- the buffer is no longer than a block
  pub whole : held ≤ size
