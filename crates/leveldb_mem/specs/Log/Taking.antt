-- How a reader takes the next fragment.
use Rattle.std.specs.Prelude.{◌≡◌, ◌≢◌, ◌+◌, ◌*◌, ℕ, true, false, List, [], ◌++◌, take, drop}
use Rattle.std.specs.Prelude.{slice_index, Result}
use Rattle.leveldb_base.specs.declared.error.Status.{Status}
use Rattle.leveldb_base.specs.Crc.{crc_of, masked}
use Rattle.leveldb_base.specs.Varint.{little}
use Rattle.leveldb_env.specs.Source.{GivesSome}
use Rattle.leveldb_mem.specs.declared.log.reader.Taken.{Taken}
use Rattle.leveldb_mem.specs.declared.log.reader.Taken.TheVariants.{End, Part, WrongChecksum}
use Rattle.leveldb_mem.specs.declared.log.reader.Taken.TheVariants.{Damage}
use Rattle.leveldb_mem.specs.Log.{filler, IsFragment, IsDamagedFragment, Fragment, fragment_of, NoFragment}
use Rattle.leveldb_mem.specs.Log.Reader.{ReaderState, after_front, IsUnreadThenGiven, HoldsOfRest}
use Rattle.leveldb_mem.specs.Log.Reader.{FindsEnd}

-- how long a header says that its data is
abbrev pub declared_length : List ℕ → ℕ
declared_length header = slice_index header 4 + 256 * slice_index header 5

-- the checksum in a fragment's header is that of what follows the length
abbrev pub HasRightChecksum : List ℕ → Type 0
HasRightChecksum fragment = take 4 fragment ≡ little 4 (masked (crc_of (drop 6 fragment)))

-- no fragment begins here, with a right checksum or a wrong one
pub record IsNoFragment (size offset : ℕ) (bytes : List ℕ) : Type 0 where
  -- there is a byte
  pub some : bytes ≢ []
  -- and no front of them is a fragment
  pub none : NoFragment false size offset bytes

-- a fragment that is at the front is passed, and its data is appended to the text
pub record PassesPart (old : ReaderState) (text : List ℕ) (type : ℕ) (new : ReaderState)
    (text_after : List ℕ) : Type 0 where
  -- the fragment's bytes
  pub front : List ℕ
  -- its data
  pub part : List ℕ
  -- the reader had them to read
  pub unread : old.unread ≡ front ++ new.unread
  -- they are the fragment
  pub is_fragment : IsFragment old.checked old.size (fragment_of type part) old.offset front
  -- the text has gained the data
  pub text_is : text_after ≡ text ++ part
  -- the reader is after the fragment
  pub reader : new ≡ after_front old front new.unread

-- a fragment with a wrong checksum that is at the front is passed
pub record PassesDamaged (old : ReaderState) (new : ReaderState) : Type 0 where
  -- the fragment's bytes
  pub front : List ℕ
  -- the fragment
  pub fragment : Fragment
  -- checksums are asked for
  pub asked : old.checked ≡ true
  -- the reader had the bytes to read
  pub unread : old.unread ≡ front ++ new.unread
  -- they are the fragment, but for its checksum
  pub damaged : IsDamagedFragment old.size fragment old.offset front
  -- the reader is after it
  pub reader : new ≡ after_front old front new.unread

-- what is at the front is passed, by what is returned
abbrev pub PassesFragment : Taken → ReaderState → List ℕ → ReaderState → List ℕ → Type 0
PassesFragment (Part type) old text new text_after = PassesPart old text type new text_after
PassesFragment WrongChecksum old text new text_after = PassesDamaged old new
PassesFragment taken old text new text_after = ⊥

-- a reader with these bytes to be read
abbrev pub with_unread : ReaderState → List ℕ → ReaderState
with_unread reader bytes = record reader { unread = bytes }

module _ {S : Type 0} (gives : S → ℕ → Result (List ℕ) Status → S → Type 0) where
  -- filler comes, and is passed
  pub record SkipsFiller (old : ReaderState) (source : S) (new : ReaderState) (to : S)
      : Type 0 where
    -- filler comes, and what the reader still has to read comes after it
    pub come : IsUnreadThenGiven (GivesSome gives) old.unread source
        (filler old.size old.offset ++ new.unread) to
    -- the reader is at the start of the next block
    pub reader : new ≡ record old { offset = 0; unread = new.unread }

  -- a fragment comes, and is passed
  pub record TakesPart (old : ReaderState) (source : S) (text : List ℕ) (type : ℕ)
      (new : ReaderState) (to : S) (text_after : List ℕ) : Type 0 where
    -- the bytes that came
    pub bytes : List ℕ
    -- what was still to be read, and what the source gave
    pub come : IsUnreadThenGiven (GivesSome gives) old.unread source bytes to
    -- the fragment at their front is passed
    pub passes : PassesPart (with_unread old bytes) text type new text_after

  -- a fragment with a wrong checksum comes, and is passed
  pub record TakesDamaged (old : ReaderState) (source : S) (new : ReaderState) (to : S)
      : Type 0 where
    -- the bytes that came
    pub bytes : List ℕ
    -- what was still to be read, and what the source gave
    pub come : IsUnreadThenGiven (GivesSome gives) old.unread source bytes to
    -- the fragment at their front is passed
    pub passes : PassesDamaged (with_unread old bytes) new

  -- what comes next, by what is returned
  abbrev pub TakesNext : Taken → ReaderState → S → List ℕ → ReaderState → S → List ℕ → Type 0
  TakesNext End old source text new to text_after =
      FindsEnd gives old source new to × (text_after ≡ text)
  TakesNext (Part type) old source text new to text_after =
      TakesPart old source text type new to text_after
  TakesNext WrongChecksum old source text new to text_after = TakesDamaged old source new to
  TakesNext (Damage cause) old source text new to text_after =
      HoldsOfRest gives (IsNoFragment old.size old.offset) old.unread source to
