-- A writer of a log, and what its calls do to it and to its sink.
use Rattle.std.specs.Prelude.{◌≡◌, ◌≢◌, ◌⊎◌, ℕ, Bool, true, List, [], length, Result, Ok, Err}
use Rattle.std.specs.Prelude.{codes, string_bytes, IfSome, IfOk, IfErr, IsErrAnd, OnOk, OnErr}
use Rattle.std.specs.Prelude.{false}
use Rattle.leveldb_base.specs.declared.error.Status.{Status}
use Rattle.leveldb_base.specs.declared.error.StatusCode.TheVariants.{IOError}
use Rattle.leveldb_base.specs.Error.{IsOutOfMemory}
use Rattle.leveldb_mem.specs.Log.{offset_after, framed_record}

-- a writer of a log
pub record WriterState : Type 0 where
  -- the size of its blocks
  pub size : ℕ
  -- the offset in its block of what is written next
  pub offset : ℕ
  -- whether a call of its sink has failed
  pub broken : Bool

-- a writer in blocks of this size, at this offset of its block
abbrev pub new_writer : ℕ → ℕ → WriterState
new_writer size offset = record { size = size; offset = offset; broken = false }

-- a call came after one that failed in the sink
pub record IsWriterBroken (status : Status) : Type 0 where
  -- `IOError`
  pub code : status.code ≡ IOError
  -- with this text, where there was memory for one
  pub text : IfSome status.err (λ text. string_bytes text ≡ codes "IOError: reopen the store")

-- the framing of a record after what was written
abbrev pub frame : WriterState → List ℕ → List ℕ
frame writer text = framed_record writer.size text writer.offset

-- a writer after the framing of a record
abbrev pub after_frame : WriterState → List ℕ → WriterState
after_frame writer text =
    record writer { offset = offset_after writer.size writer.offset (frame writer text) }

-- a writer after a call that failed in the sink
abbrev pub broken_writer : WriterState → WriterState
broken_writer writer = record writer { broken = true }

-- writer and sink stay as they were
pub record SameWriterAndSink {S : Type 0} (old : WriterState) (sink : S) (new : WriterState)
    (sink_after : S) : Type 0 where
  -- the writer
  pub same_writer : new ≡ old
  -- and the sink
  pub same_sink : sink_after ≡ sink

module _ {S : Type 0} (puts : S → List ℕ → Result (Unit {0}) Status → S → Type 0) where
  -- A record was added, and its framing has `count` bytes: it was put into the sink in one piece.
  -- An empty record puts nothing.
  pub record AddsRecord (old : WriterState) (sink : S) (text : List ℕ) (count : ℕ)
      (new : WriterState) (sink_after : S) : Type 0 where
    -- the length of the framing
    pub counted : count ≡ length (frame old text)
    -- the writer is after it
    pub writer : new ≡ after_frame old text
    -- it was put into the sink
    pub put : text ≢ [] → puts sink (frame old text) (Ok tt) sink_after
    -- or nothing for an empty record
    pub none_put : text ≡ [] → sink_after ≡ sink

  -- A record wasn't added, with this status: out of memory, which changes nothing, or because the
  -- sink failed, to which its framing was put.
  pub record FailsToAdd (old : WriterState) (sink : S) (text : List ℕ) (status : Status)
      (new : WriterState) (sink_after : S) : Type 0 where
    -- an empty record doesn't fail
    pub some : text ≢ []
    -- memory was out, or the sink failed and the writer is broken
    pub why : (IsOutOfMemory status × SameWriterAndSink old sink new sink_after)
        ⊎ (puts sink (frame old text) (Err status) sink_after × (new ≡ broken_writer old))

  -- what adding a record returns, and what it leaves
  pub record AddRecordResult (old : WriterState) (sink : S) (text : List ℕ)
      (result : Result ℕ Status) (new : WriterState) (sink_after : S) : Type 0 where
    -- the record was added, and the length of its framing is returned
    pub ok : IfOk result (λ count. AddsRecord old sink text count new sink_after)
    -- else memory was out, or the sink failed
    pub err : old.broken ≡ false
        → IfErr result (λ status. FailsToAdd old sink text status new sink_after)
    -- a broken writer does nothing
    pub broken : old.broken ≡ true → IsErrAnd result IsWriterBroken
        × SameWriterAndSink old sink new sink_after

module _ {S : Type 0} (flushes : S → Result (Unit {0}) Status → S → Type 0) where
  -- the sink was flushed, and an error of it breaks the writer
  pub record Flushes (old : WriterState) (sink : S) (result : Result (Unit {0}) Status)
      (new : WriterState) (sink_after : S) : Type 0 where
    -- what the sink did
    pub flushed : flushes sink result sink_after
    -- an Ok leaves the writer as it was
    pub ok : OnOk result (new ≡ old)
    -- an Err breaks it
    pub err : OnErr result (new ≡ broken_writer old)

  -- what flushing returns, and what it leaves
  pub record FlushResult (old : WriterState) (sink : S) (result : Result (Unit {0}) Status)
      (new : WriterState) (sink_after : S) : Type 0 where
    -- the sink is flushed
    pub usable : old.broken ≡ false → Flushes old sink result new sink_after
    -- a broken writer does nothing
    pub broken : old.broken ≡ true → IsErrAnd result IsWriterBroken
        × SameWriterAndSink old sink new sink_after
