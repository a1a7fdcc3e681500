-- The record log: records cut into fragments, which lie in blocks of one size.
pub mod Writer
pub mod Reader
pub mod Taking
pub mod Files
pub mod LogFile
use Rattle.std.specs.Prelude.{◌≡◌, ◌≢◌, ℕ, zero, suc, ◌+◌, ◌-◌, ◌%◌, ◌≤◌, Bool, true, false}
use Rattle.std.specs.Prelude.{if◌then◌else◌, nat_lt, nat_le, List, [], ◌∷◌, ◌++◌, length, take}
use Rattle.std.specs.Prelude.{drop, replicate, ◌<◌}
use Rattle.std.specs.List.{concat}
use Rattle.leveldb_base.specs.Crc.{crc_of, masked}
use Rattle.leveldb_base.specs.Varint.{little}

-- ---- blocks and fragments

-- the size of a block where no other is given
abbrev pub log_block_size : ℕ
log_block_size = 32768

-- the sizes of blocks that a reader or a writer takes
pub record IsBlockSize (size : ℕ) : Type 0 where
  -- a header and a byte of data fit
  pub least : 8 ≤ size
  -- and a part's length fits into two bytes
  pub most : size ≤ 32768

-- a fragment's header: its checksum (4), its length (2) and its type (1)
abbrev pub header_size : ℕ
header_size = 7

-- what comes before a fragment at this offset of a block: nothing, or zeros to the block's end
-- where no header fits
abbrev pub filler : ℕ → ℕ → List ℕ
filler size offset =
    elim (nat_lt (size - offset) header_size) [ true ↦ replicate (size - offset) 0 | false ↦ [] ]

-- the most data that the next fragment can have
abbrev pub room : ℕ → ℕ → ℕ
room size offset =
    (if nat_lt (size - offset) header_size then size else size - offset) - header_size

-- the offset in its block after some bytes
abbrev pub offset_after : ℕ → ℕ → List ℕ → ℕ
offset_after size offset bytes = (offset + length bytes) % size

-- a fragment: its type and its data, which is a part of a record
pub record Fragment : Type 0 where
  -- whether the part is its record's first and whether it is the last
  pub type : ℕ
  -- the data
  pub part : List ℕ

-- a fragment by its parts
abbrev pub fragment_of : ℕ → List ℕ → Fragment
fragment_of type part = record { type = type; part = part }

-- the four bytes that guard a fragment: the masked checksum of its type and its data
unfoldable pub checksum : Fragment → List ℕ
checksum fragment = little 4 (masked (crc_of (fragment.type ∷ fragment.part)))

-- four bytes that are taken as a fragment's checksum: the right ones, or any where checksums aren't
-- asked for
abbrev pub IsChecksum : Bool → Fragment → List ℕ → Type 0
IsChecksum true fragment sum = sum ≡ checksum fragment
IsChecksum false fragment sum = length sum ≡ 4

-- a fragment's bytes after this checksum
unfoldable pub fragment_bytes : List ℕ → Fragment → List ℕ
fragment_bytes sum fragment =
    sum ++ (little 2 (length fragment.part) ++ fragment.type ∷ fragment.part)

-- from this offset on the bytes are filler and the fragment, which lies within its block
pub record IsFragment (checked : Bool) (size : ℕ) (fragment : Fragment) (offset : ℕ)
    (bytes : List ℕ) : Type 0 where
  -- the four bytes of its checksum
  pub sum : List ℕ
  -- its data end within the block
  pub within : length fragment.part ≤ room size offset
  -- the checksum is right, if it is asked for
  pub summed : IsChecksum checked fragment sum
  -- the bytes are filler and then these
  pub bytes_are : bytes ≡ filler size offset ++ fragment_bytes sum fragment

-- no front of the bytes is a fragment
abbrev pub NoFragment : Bool → ℕ → ℕ → List ℕ → Type 0
NoFragment checked size offset bytes = (f : Fragment) (front more : List ℕ) → bytes ≡ front ++ more
    → IsFragment checked size f offset front → ⊥

-- from this offset on the bytes are a front, and after it a rest
pub record IsFrontAndRest (size : ℕ) (IsFront IsRest : ℕ → List ℕ → Type 0) (offset : ℕ)
    (bytes : List ℕ) : Type 0 where
  -- the front
  pub front : List ℕ
  -- what follows it
  pub rest : List ℕ
  -- together they are the bytes
  pub bytes_are : bytes ≡ front ++ rest
  -- the front is so at this offset
  pub is_front : IsFront offset front
  -- and the rest at the offset after it
  pub is_rest : IsRest (offset_after size offset front) rest

-- from this offset on the bytes are these fragments
abbrev pub AreFragments : Bool → ℕ → List Fragment → ℕ → List ℕ → Type 0
AreFragments checked size [] offset bytes = bytes ≡ []
AreFragments checked size (fragment ∷ fragments) offset bytes =
    IsFrontAndRest size (IsFragment checked size fragment) (AreFragments checked size fragments)
    offset bytes

-- ---- records

-- a fragment's type, by whether its part is the record's first and whether it is the last: Full,
-- First, Middle, Last
abbrev pub record_type : Bool → Bool → ℕ
record_type true true = 1
record_type true false = 2
record_type false false = 3
record_type false true = 4

-- the fragments of a part and of those after it, the record's last among them
abbrev pub fragments_of : Bool → List ℕ → List (List ℕ) → List Fragment
fragments_of first part [] = record { type = record_type first true; part = part } ∷ []
fragments_of first part (next ∷ parts) =
    record { type = record_type first false; part = part } ∷ fragments_of false next parts

-- from this offset on the bytes are what is left of a record, from its first part on or from a
-- later one
pub record IsRemainder (checked : Bool) (size : ℕ) (first : Bool) (text : List ℕ) (offset : ℕ)
    (bytes : List ℕ) : Type 0 where
  -- the first part that is left
  pub part : List ℕ
  -- the parts after it
  pub parts : List (List ℕ)
  -- together they are what is left of the text
  pub text_is : part ++ concat parts ≡ text
  -- the bytes are their fragments
  pub laid : AreFragments checked size (fragments_of first part parts) offset bytes

-- from this offset on the bytes are one whole record that isn't empty, however it is cut into parts
pub record IsRecord (checked : Bool) (size : ℕ) (text : List ℕ) (offset : ℕ) (bytes : List ℕ)
    : Type 0 where
  -- the record has a byte at least
  pub some : text ≢ []
  -- all its parts are there
  pub whole : IsRemainder checked size true text offset bytes

-- how a log ends: between two records, or in bytes that are no record
pub data End : Type 0 where
  clean : End
  bad : End

-- nothing is left, or a rest of which no front is a whole record
abbrev pub Ends : Bool → ℕ → End → ℕ → List ℕ → Type 0
Ends checked size clean offset rest = rest ≡ []
Ends checked size bad offset rest = (rest ≢ [])
    × ((text front more : List ℕ) → rest ≡ front ++ more
    → IsRecord checked size text offset front → ⊥)

-- from this offset on the bytes are these records, and then this end
abbrev pub LogOf : Bool → ℕ → List (List ℕ) → End → ℕ → List ℕ → Type 0
LogOf checked size [] end offset bytes = Ends checked size end offset bytes
LogOf checked size (text ∷ texts) end offset bytes =
    IsFrontAndRest size (IsRecord checked size text) (LogOf checked size texts end) offset bytes

-- a whole file of a log: its blocks have the usual size, and checksums are asked for
abbrev pub IsLogFile : List ℕ → List (List ℕ) → End → Type 0
IsLogFile bytes records end = LogOf true log_block_size records end 0 bytes

-- ---- what is written

-- each part but the last fills its block, and the last has a byte
abbrev pub FillBlocks : ℕ → List ℕ → List (List ℕ) → ℕ → Type 0
FillBlocks size part [] offset = part ≢ []
FillBlocks size part (next ∷ parts) offset = (length part ≡ room size offset)
    × FillBlocks size next parts 0

-- from this offset on the bytes are the one framing of what is left of a record
pub record IsFramedRemainder (size : ℕ) (first : Bool) (text : List ℕ) (offset : ℕ)
    (bytes : List ℕ) : Type 0 where
  -- the bytes are what is left of the record
  pub whole : IsRemainder true size first text offset bytes
  -- and it is cut only where a block ends
  pub full : FillBlocks size whole.part whole.parts offset

-- from this offset on the bytes are the one framing of a record
abbrev pub IsFramedRecord : ℕ → List ℕ → ℕ → List ℕ → Type 0
IsFramedRecord size text offset bytes = IsFramedRemainder size true text offset bytes

-- from this offset on the bytes are the one framing of these records
abbrev pub IsFramed : ℕ → List (List ℕ) → ℕ → List ℕ → Type 0
IsFramed size [] offset bytes = bytes ≡ []
IsFramed size (text ∷ texts) offset bytes =
    IsFrontAndRest size (IsFramedRecord size text) (IsFramed size texts) offset bytes

-- a fragment with its filler and its checksum
unfoldable pub fragment_at : ℕ → Fragment → ℕ → List ℕ
fragment_at size fragment offset = filler size offset ++ fragment_bytes (checksum fragment) fragment

-- the framing of what is left of a record, in `fragments` fragments at most
abbrev pub framed_within : ℕ → ℕ → Bool → List ℕ → ℕ → List ℕ
framed_within zero size first text offset = []
framed_within (suc fragments) size first text offset =
    elim (nat_le (length text) (room size offset)) [
      | true ↦ fragment_at size (record { type = record_type first true; part = text }) offset
      | false ↦ fragment_at size (record {
        type = record_type first false;
        part = take (room size offset) text;
      }) offset
          ++ framed_within fragments size false (drop (room size offset) text) 0
    ]

-- the framing of a record as a function; an empty record has none
unfoldable pub framed_record : ℕ → List ℕ → ℕ → List ℕ
framed_record size [] offset = []
framed_record size (byte ∷ text) offset =
    framed_within (suc (suc (length text))) size true (byte ∷ text) offset

-- the framing of these records as a function
abbrev pub framed : ℕ → List (List ℕ) → ℕ → List ℕ
framed size [] offset = []
framed size (text ∷ texts) offset =
    framed_record size text offset
    ++ framed size texts (offset_after size offset (framed_record size text offset))

-- what a record adds at this offset of a log's file
abbrev pub frame_at : ℕ → List ℕ → List ℕ
frame_at offset text = framed_record log_block_size text (offset % log_block_size)

-- ---- a wrong checksum

-- from this offset on the bytes are filler and the fragment within its block, after four bytes that
-- aren't its checksum
pub record IsDamagedFragment (size : ℕ) (fragment : Fragment) (offset : ℕ) (bytes : List ℕ)
    : Type 0 where
  -- whatever the checksum is, it is the fragment
  pub unchecked : IsFragment false size fragment offset bytes
  -- and the checksum is wrong
  pub wrong : unchecked.sum ≢ checksum fragment

-- the fragments of a record's parts, none of them its last
abbrev pub begun_of : Bool → List (List ℕ) → List Fragment
begun_of first [] = []
begun_of first (part ∷ parts) =
    record { type = record_type first false; part = part } ∷ begun_of false parts

-- from this offset on the bytes are parts of a record, none of them its last, and then a fragment
-- of any type with a wrong checksum
pub record BreaksOff (size : ℕ) (first : Bool) (offset : ℕ) (bytes : List ℕ) : Type 0 where
  -- the parts before
  pub parts : List (List ℕ)
  -- the fragment with a wrong checksum
  pub fragment : Fragment
  -- the bytes are the fragments of the parts, and then this one
  pub laid : IsFrontAndRest size (AreFragments true size (begun_of first parts))
      (IsDamagedFragment size fragment) offset bytes

-- ---- what a crash leaves

-- as far as both go, the bytes are the same
pub record Agree (these those : List ℕ) : Type 0 where
  -- what these lack of those
  pub more : List ℕ
  -- what those lack of these
  pub others : List ℕ
  -- with it both are the same
  pub same : these ++ more ≡ those ++ others

-- At this offset of the bytes a fragment began, if only by its first byte: after whole fragments
-- come its filler and a byte at least.
pub record FragmentBegins (size : ℕ) (bytes : List ℕ) (offset : ℕ) : Type 0 where
  -- the bytes before it
  pub before : List ℕ
  -- the bytes from there on
  pub rest : List ℕ
  -- together they are all
  pub bytes_are : bytes ≡ before ++ rest
  -- it begins at the offset
  pub offset_is : length before ≡ offset
  -- the fragments before it
  pub fragments : List Fragment
  -- all of these are whole
  pub whole : AreFragments true size fragments 0 before
  -- the one that began
  pub fragment : Fragment
  -- its bytes, and filler before them
  pub written : List ℕ
  -- as it would be whole
  pub is_fragment : IsFragment true size fragment (offset_after size 0 before) written
  -- the bytes there are those, as far as both go
  pub agree : Agree rest written
  -- they go past the filler
  pub begun : length (filler size (offset_after size 0 before)) < length rest

-- At this offset are `n` bytes that are filler and a fragment with a right checksum.
pub record FragmentAt (size : ℕ) (bytes : List ℕ) (offset n : ℕ) : Type 0 where
  -- the bytes before it
  pub before : List ℕ
  -- the fragment and its filler
  pub found : List ℕ
  -- the bytes after it
  pub rest : List ℕ
  -- together they are all
  pub bytes_are : bytes ≡ before ++ (found ++ rest)
  -- it begins at the offset
  pub offset_is : length before ≡ offset
  -- and has n bytes
  pub length_is : length found ≡ n
  -- the fragment
  pub fragment : Fragment
  -- they are its bytes, with a right checksum
  pub is_fragment : IsFragment true size fragment (offset_after size 0 before) found

-- Wherever a fragment of the bytes began and what is left has a fragment with a right checksum,
-- that one is the bytes' own.
abbrev pub HonestTail : ℕ → List ℕ → List ℕ → Type 0
HonestTail size bytes left = (offset n : ℕ) → FragmentBegins size bytes offset
    → FragmentAt size left offset n → take n (drop offset left) ≡ take n (drop offset bytes)
