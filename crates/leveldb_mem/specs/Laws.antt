-- What holds of every log and of every batch: the statements that the contracts of module `laws`
-- name.
use Rattle.std.specs.Prelude.{◌^◌, ◌≡◌, ◌≢◌, ℕ, ◌+◌, ◌<◌, ◌≤◌, ◌⊎◌, Bool, true, List, [], ◌∷◌, ◌++◌}
use Rattle.std.specs.Prelude.{length, take, All}
use Rattle.leveldb_base.specs.History.{Item}
use Rattle.leveldb_mem.specs.Log.{IsBlockSize, log_block_size, offset_after, End, clean, bad, LogOf}
use Rattle.leveldb_mem.specs.Log.{IsLogFile, IsFramedRecord, IsFramed, framed_record, framed}
use Rattle.leveldb_mem.specs.Log.{frame_at, BreaksOff, FragmentAt, HonestTail}
use Rattle.leveldb_mem.specs.WriteBatch.{BatchOf, IsShort}

-- ---- the log: reading

-- two readings of the same bytes are one, in records and end
abbrev pub OneLogReading : Type 0
OneLogReading = (checked : Bool) (size offset : ℕ) (bytes : List ℕ)
    (records others : List (List ℕ)) (end other_end : End) → IsBlockSize size
    → LogOf checked size records end offset bytes
    → LogOf checked size others other_end offset bytes → (records ≡ others) × (end ≡ other_end)

-- any bytes read as some records and an end
abbrev pub EachIsLog : Type 0
EachIsLog = (checked : Bool) (size offset : ℕ) (bytes : List ℕ) → IsBlockSize size
    → (records : List (List ℕ)) × (end : End) × LogOf checked size records end offset bytes

-- these are the first of the records, at least so many
pub record AreFirst (least : ℕ) (records found : List (List ℕ)) : Type 0 where
  -- how many they are
  pub count : ℕ
  -- at least so many as are asked for
  pub enough : least ≤ count
  -- and no more than there were
  pub there : count ≤ length records
  -- they are the first ones
  pub first : found ≡ take count records

-- A log cut anywhere reads as its first records, at least those that a front before the cut reads
-- as.
abbrev pub CutReads : Type 0
CutReads = (checked : Bool) (size offset : ℕ) (front part rest : List ℕ)
    (first found records : List (List ℕ)) (first_end found_end end : End) → IsBlockSize size
    → LogOf checked size first first_end offset front
    → LogOf checked size found found_end offset (front ++ part)
    → LogOf checked size records end offset (front ++ part ++ rest)
    → AreFirst (length first) records found

-- the first records of a log are a front of it, and end cleanly there
abbrev pub FirstRecords : Type 0
FirstRecords = (checked : Bool) (size offset : ℕ) (bytes : List ℕ) (records : List (List ℕ))
    (end : End) (n : ℕ) → n ≤ length records → LogOf checked size records end offset bytes
    → (front rest : List ℕ) × (bytes ≡ front ++ rest)
    × LogOf checked size (take n records) clean offset front

-- bytes that break off with a wrong checksum have a bad end there, whatever follows
abbrev pub BreaksBad : Type 0
BreaksBad = (size offset : ℕ) (front more : List ℕ) → IsBlockSize size → offset < size
    → BreaksOff size true offset front → LogOf true size [] bad offset (front ++ more)

-- bytes break off with a wrong checksum at one offset at most
abbrev pub BreaksOnce : Type 0
BreaksOnce = (size offset : ℕ) (these those more others : List ℕ) → IsBlockSize size
    → offset < size → BreaksOff size true offset these → BreaksOff size true offset those
    → these ++ more ≡ those ++ others → these ≡ those

-- ---- writing

-- a record that isn't empty has the framing that the function gives
abbrev pub RecordFramed : Type 0
RecordFramed = (size offset : ℕ) (text : List ℕ) → IsBlockSize size → offset < size → text ≢ []
    → IsFramedRecord size text offset (framed_record size text offset)

-- and so have records none of which is empty
abbrev pub RecordsFramed : Type 0
RecordsFramed = (size offset : ℕ) (records : List (List ℕ)) → IsBlockSize size → offset < size
    → All (λ text. text ≢ []) records → IsFramed size records offset (framed size records offset)

-- a record has one framing
abbrev pub OneRecordFraming : Type 0
OneRecordFraming = (size offset : ℕ) (text these those : List ℕ) → IsBlockSize size → offset < size
    → IsFramedRecord size text offset these → IsFramedRecord size text offset those → these ≡ those

-- records have one framing
abbrev pub OneFraming : Type 0
OneFraming = (size offset : ℕ) (records : List (List ℕ)) (these those : List ℕ) → IsBlockSize size
    → offset < size → IsFramed size records offset these → IsFramed size records offset those
    → these ≡ those

-- a framing reads as its records, with a clean end, whether checksums are asked for or not
abbrev pub FramingReads : Type 0
FramingReads = (checked : Bool) (size offset : ℕ) (records : List (List ℕ)) (bytes : List ℕ)
    → IsFramed size records offset bytes → LogOf checked size records clean offset bytes

-- a log after a clean end goes on with its records
abbrev pub LogsAppend : Type 0
LogsAppend = (checked : Bool) (size offset : ℕ) (records others : List (List ℕ))
    (front rest : List ℕ) (end : End) → IsBlockSize size → offset < size
    → LogOf checked size records clean offset front
    → LogOf checked size others end (offset_after size offset front) rest
    → LogOf checked size (records ++ others) end offset (front ++ rest)

-- a framing after another is the framing of both lists
abbrev pub FramingsAppend : Type 0
FramingsAppend = (size offset : ℕ) (records others : List (List ℕ)) (front rest : List ℕ)
    → IsBlockSize size → offset < size
    → IsFramed size records offset front
    → IsFramed size others (offset_after size offset front) rest
    → IsFramed size (records ++ others) offset (front ++ rest)

-- ---- a crash

-- a crash that only cuts bytes off is honest
abbrev pub CutIsHonest : Type 0
CutIsHonest = (size : ℕ) (front rest : List ℕ) → HonestTail size (front ++ rest) front

-- Of a log whose last bytes may be missing, as an append that failed leaves it, an honest crash
-- leaves the first of the records that were there: at least those that the kept bytes read as.
abbrev pub CrashLeaves : Type 0
CrashLeaves = (size : ℕ) (kept since missing tail : List ℕ)
    (first stood records found : List (List ℕ)) (first_end stood_end found_end : End)
    → IsBlockSize size
    → LogOf true size first first_end 0 kept → LogOf true size stood stood_end 0 (kept ++ since)
    → LogOf true size records clean 0 (kept ++ since ++ missing)
    → length tail ≤ length since → HonestTail size (kept ++ since) (kept ++ tail)
    → LogOf true size found found_end 0 (kept ++ tail)
    → AreFirst (length first) stood found

-- what a store takes of a log's file for its theorem on crashes
pub record LogLaws : Type 0 where
  -- bytes are one list of records
  pub one : (bytes : List ℕ) (these those : List (List ℕ)) (e1 e2 : End) → IsLogFile bytes these e1
      → IsLogFile bytes those e2 → (these ≡ those) × (e1 ≡ e2)
  -- a fragment is within the bytes
  pub fits : (bytes : List ℕ) (offset n : ℕ) → FragmentAt log_block_size bytes offset n
      → offset + n ≤ length bytes
  -- after a clean end the frame of a record is one record more
  pub more : (bytes : List ℕ) (records : List (List ℕ)) (text : List ℕ) → text ≢ []
      → IsLogFile bytes records clean
      → IsLogFile (bytes ++ frame_at (length bytes) text) (records ++ text ∷ []) clean
  -- a prefix of the frame is no record, or that one, and one that isn't whole is none
  pub part : (bytes : List ℕ) (records : List (List ℕ)) (text : List ℕ) (n : ℕ) → text ≢ []
      → IsLogFile bytes records clean
      → (found : List (List ℕ)) × (e : End)
      × IsLogFile (bytes ++ take n (frame_at (length bytes) text)) found e
      × ((found ≡ records) ⊎ (found ≡ records ++ text ∷ []))
      × (n < length (frame_at (length bytes) text) → found ≡ records)
  -- for each number of records, from those that a front has on, a longer front has exactly these
  pub cut : (front rest : List ℕ) (first records : List (List ℕ)) (e1 e2 : End) (n : ℕ)
      → IsLogFile front first e1 → IsLogFile (front ++ rest) records e2
      → length first ≤ n → n ≤ length records
      → (k : ℕ) × (e : End) × IsLogFile (front ++ take k rest) (take n records) e
  -- an honest tail after a front gives the first of the records that were there
  pub torn : (front rest tail : List ℕ) (first records stood : List (List ℕ)) (text : List ℕ)
      (n : ℕ) (e1 e2 : End) → text ≢ [] → IsLogFile front first e1
      → IsLogFile (front ++ rest) records clean
      → let whole = front ++ rest ++ take n (frame_at (length (front ++ rest)) text) in
      IsLogFile whole stood e2 → length (front ++ tail) ≤ length whole
      → HonestTail log_block_size whole (front ++ tail)
      → (found : List (List ℕ)) × (e : End) × IsLogFile (front ++ tail) found e
      × AreFirst (length first) stood found

-- ---- batches

-- the same bytes are the same batch
abbrev pub OneBatchReading : Type 0
OneBatchReading = (bytes : List ℕ) (m n : ℕ) (xs ys : List Item) → BatchOf bytes m xs
    → BatchOf bytes n ys → (m ≡ n) × (xs ≡ ys)

-- the same batch is the same bytes
abbrev pub OneBatchEncoding : Type 0
OneBatchEncoding = (bytes again : List ℕ) (first : ℕ) (items : List Item)
    → BatchOf bytes first items → BatchOf again first items → again ≡ bytes

-- the limit of a batch's bytes is one of each key and each value
abbrev pub EachShort : Type 0
EachShort = (bytes : List ℕ) (first : ℕ) (items : List Item) → BatchOf bytes first items
    → All IsShort items

-- a number of 32 bits counts the items
abbrev pub CountFits : Type 0
CountFits = (bytes : List ℕ) (first : ℕ) (items : List Item) → BatchOf bytes first items
    → length items < 2 ^ 32
