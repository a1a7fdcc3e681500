-- Compressors: the block that stored bytes are decoded to, how a compressor fails, and which id has
-- which compressor.
use Rattle.std.specs.Prelude.{◌≡◌, ◌==◌, ℕ, Bool, false, if◌then◌else◌, List, [], ◌∷◌, ◌++◌, Option, None, Some, IfSome, IsTrue, Result, OnOk, OnErr, IfErr, codes, string_bytes}
use Rattle.std.specs.Fmt.{decimal}
use Rattle.std.specs.declared.vec.Vec.{Vec}
use Rattle.leveldb_base.specs.Error.{IsOutOfMemory}
use Rattle.leveldb_base.specs.declared.error.Status.{Status}
use Rattle.leveldb_base.specs.declared.error.StatusCode.{StatusCode}
use Rattle.leveldb_base.specs.declared.error.StatusCode.TheVariants.{NotSupported}

-- The block that stored bytes are decoded to, where there is one; the codes with which encoding
-- this very block may fail; and those with which decoding these very bytes may.
pub record Coding : Type 0 where
  -- the block that stored bytes are decoded to, where there is one
  pub decoded : List ℕ → Option (List ℕ)
  -- whether encoding this very block may fail with a code
  pub encode_fails : List ℕ → StatusCode → Bool
  -- whether decoding these very bytes may fail with a code
  pub decode_fails : List ℕ → StatusCode → Bool

-- a block is stored as it is, and none fails
abbrev pub plain : Coding
plain = record {
  decoded = λ stored. Some stored;
  encode_fails = λ block code. false;
  decode_fails = λ stored code. false;
}

-- this block isn't encoded, for a reason of the compressor's own
abbrev pub IsEncodeError : Coding → List ℕ → Status → Type 0
IsEncodeError coding block status = IsTrue (coding.encode_fails block status.code)

-- these bytes are decoded to no block, and the code is one of the compressor's own for them
abbrev pub IsDecodeError : Coding → List ℕ → Status → Type 0
IsDecodeError coding stored status = (coding.decoded stored ≡ None)
    × IsTrue (coding.decode_fails stored status.code)

-- the coding of each id that is set
abbrev pub Codings : Type 0
Codings = ℕ → Option Coding

-- no id is set
abbrev pub no_codings : Codings
no_codings id = None

-- the id 0 alone is set: a block is stored as it is
abbrev pub plain_codings : Codings
plain_codings id = if id == 0 then Some plain else None

-- the same codings, but for one id
abbrev pub with_coding : Codings → ℕ → Coding → Codings
with_coding codings id coding other = if id == other then Some coding else codings other

-- An id gets this coding. The only error is out of memory, and it changes nothing.
pub record SetsCoding {T : Type 0} (id : ℕ) (coding : Coding) (old : Codings)
    (result : Result T Status) (new : Codings) : Type 0 where
  -- the id has the coding
  pub ok : OnOk result (new ≡ with_coding old id coding)
  -- no coding changes
  pub err : OnErr result (new ≡ old)
  -- the only cause
  pub memory : IfErr result IsOutOfMemory

-- the block, under a coding where there is one
abbrev pub decoded_under : Option Coding → List ℕ → Option (List ℕ)
decoded_under None stored = None
decoded_under (Some coding) stored = coding.decoded stored

-- the block that bytes stored under this id are decoded to, where there is one
abbrev pub decoded_by : Codings → ℕ → List ℕ → Option (List ℕ)
decoded_by codings id stored = decoded_under (codings id) stored

-- bytes stored under this id are this block's
abbrev pub Decodes : Codings → ℕ → List ℕ → List ℕ → Type 0
Decodes codings id stored block = decoded_by codings id stored ≡ Some block

-- the coding of the first pair with this id, or that of the id otherwise
abbrev pub first_coding : List (ℕ × Coding) → Codings → Codings
first_coding [] otherwise id = otherwise id
first_coding (pair ∷ pairs) otherwise id =
    if pair.0 == id then Some pair.1 else first_coding pairs otherwise id

-- the text for an id without a compressor
abbrev pub unset_text : ℕ → List ℕ
unset_text id = codes "invalid compression id `" ++ decimal id ++ codes "`"

-- the error for an id without a compressor
abbrev pub IsUnset : ℕ → Status → Type 0
IsUnset id status = (status.code ≡ NotSupported)
    × IfSome status.err (λ text. string_bytes text ≡ unset_text id)

-- the items of a vector, where there is one
abbrev pub listed_items : {A B : Type 0} → Option (Vec A B) → List A
listed_items None = []
listed_items (Some vector) = vector.items
