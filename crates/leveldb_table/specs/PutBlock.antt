-- Blocks put into a table's file.
use Rattle.std.specs.Prelude.{◌≡◌, ◌⊎◌, ℕ, ◌+◌, ◌^◌, ◌<◌, ◌≤◌, List, [], length, Result, Ok, Err, None, IsSomeAnd}
use Rattle.leveldb_base.specs.BlockHandle.{Handle, HandleFits, handle_bytes}
use Rattle.leveldb_base.specs.Error.{IsOutOfMemory}
use Rattle.leveldb_base.specs.declared.error.Status.{Status}
use Rattle.leveldb_base.specs.declared.error.StatusCode.TheVariants.{NotSupported}
use Rattle.leveldb_env.specs.Compressor.{Codings, Decodes, IsUnset, IsEncodeError}
use Rattle.leveldb_table.specs.BlockBuilder.{IsEntryTooLarge}
use Rattle.leveldb_table.specs.Table.{with_trailer, filter_key}

-- a number of bytes can't be counted in 64 bits
abbrev pub IsTooLong : ℕ → Status → Type 0
IsTooLong count status = (status.code ≡ NotSupported) × (2 ^ 64 ≤ count)

-- the compressor that is set under the id fails for this very text, with a code of its own
abbrev pub IsCompressorError : Codings → ℕ → List ℕ → Status → Type 0
IsCompressorError codings id text status =
    IsSomeAnd (codings id) (λ coding. IsEncodeError coding text status)

-- why there is no metaindex that says where the filters of a name are: out of memory, or its one
-- line is too large
abbrev pub IsNoMetaindex : List ℕ → Handle → Status → Type 0
IsNoMetaindex name filters status =
    IsOutOfMemory status
    ⊎ ((status.code ≡ NotSupported) × IsEntryTooLarge [] (filter_key name) (handle_bytes filters))

module _ {S : Type 0} (puts : S → List ℕ → Result (Unit {0}) Status → S → Type 0) where
  -- a stored block was put with its trailer at this offset: where it is, and where the trailer
  -- ends
  pub record PutsBlock (id : ℕ) (stored : List ℕ) (from : S) (offset : ℕ) (handle : Handle)
      (end : ℕ) (to : S) : Type 0 where
    pub put : puts from (with_trailer id stored) (Ok tt) to
    pub begins : handle.offset ≡ offset
    pub size : handle.size ≡ length stored
    pub fits : HandleFits handle
    pub ends : end ≡ offset + length stored + 5

  -- these bytes weren't put: the sink failed, or none was tried, out of memory or for a number of
  -- bytes that is too large; it isn't where the sink failed
  abbrev pub IsPutError : List ℕ → ℕ → S → Status → S → Type 0
  IsPutError bytes count from status to =
      ((count < 2 ^ 64) × puts from bytes (Err status) to)
      ⊎ ((to ≡ from) × (IsOutOfMemory status ⊎ IsTooLong count status))

  -- A block of this text wasn't put at this offset: no compressor is set under the id; or the
  -- compressor failed for the text, out of memory or with a code of its own; or the put failed.
  abbrev pub IsNotPut : Codings → ℕ → List ℕ → ℕ → S → Status → S → Type 0
  IsNotPut codings id text offset from status to =
      ((to ≡ from) × (codings id ≡ None) × IsUnset id status)
      ⊎ ((to ≡ from) × (IsOutOfMemory status ⊎ IsCompressorError codings id text status))
      ⊎ ((stored : List ℕ) × Decodes codings id stored text
      × IsPutError (with_trailer id stored) (offset + length stored + 5) from status to)

  -- A block of this text wasn't put at this offset; or it was, and then came what is said of its
  -- handle, its end and the sink.
  abbrev pub StopsFrom : Codings → ℕ → List ℕ → ℕ → (Handle → ℕ → S → Status → S → Type 0) → S
      → Status → S → Type 0
  StopsFrom codings id text offset Rest from status to =
      IsNotPut codings id text offset from status to
      ⊎ ((stored : List ℕ) × Decodes codings id stored text
      × (handle : Handle) × (end : ℕ) × (mid : S) × PutsBlock id stored from offset handle end mid
      × Rest handle end mid status to)

  -- one put of some bytes failed with this status, or none was tried
  abbrev pub PutsNone : S → Status → S → Type 0
  PutsNone from status to = ((bytes : List ℕ) × puts from bytes (Err status) to) ⊎ (to ≡ from)

  -- a footer was put at this offset, and the sink was flushed
  pub record PutsFooter (flushes : S → Result (Unit {0}) Status → S → Type 0) (bytes : List ℕ)
      (offset : ℕ) (from : S) (end : ℕ) (to : S) : Type 0 where
    pub mid : S
    pub put : puts from bytes (Ok tt) mid
    pub flushed : flushes mid (Ok tt) to
    pub ends : end ≡ offset + 48

  -- the footer would end at too large an offset, or the sink failed to take it, or to be flushed
  -- after it
  abbrev pub StopsAtFooter : (S → Result (Unit {0}) Status → S → Type 0) → List ℕ → ℕ → S → Status
      → S → Type 0
  StopsAtFooter flushes bytes offset from status to =
      ((to ≡ from) × IsTooLong (offset + 48) status)
      ⊎ puts from bytes (Err status) to
      ⊎ ((mid : S) × puts from bytes (Ok tt) mid × flushes mid (Err status) to)
