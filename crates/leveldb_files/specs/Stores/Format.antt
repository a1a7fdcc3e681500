-- What the names and ids in a store's files mean, and what the options of one opening say of them.
use Rattle.std.specs.Prelude.{◌≡◌, ◌⊎◌, ℕ, Bool, List, Option, None, Some, IsSome, IsTrue}
use Rattle.std.specs.declared.cmp.Ordering.{Ordering}
use Rattle.leveldb_base.specs.KeyTypes.{user_part}
use Rattle.leveldb_base.specs.Types.{Pair}
use Rattle.leveldb_base.specs.declared.cmp.Cmp.{Ghosts as CmpGhosts}
use Rattle.leveldb_base.specs.declared.error.StatusCode.{StatusCode}
use Rattle.leveldb_base.specs.declared.error.StatusCode.TheVariants.{Corruption, NotSupported}
use Rattle.leveldb_env.specs.Compressor.{Coding, Codings, Decodes}
use Rattle.leveldb_env.specs.Options.{Boxed, OptionsOf}
use Rattle.leveldb_env.specs.declared.compressor.CompressorList.{CompressorList}
use Rattle.leveldb_env.specs.declared.filter.FilterPolicy.{Ghosts as FilterGhosts}
use Rattle.leveldb_files.specs.Stores.Store.{IsStoreTable}

-- What names and ids mean in the files of a store, at each of its openings alike: of a comparator's
-- name the order of users' keys, of an id its compressor, and of a filter policy's name whether an
-- internal key matches a filter.
pub record Meaning : Type 0 where
  pub orders : List ℕ → List ℕ → List ℕ → Ordering
  pub codings : Codings
  pub filters : List ℕ → Option (List ℕ → List ℕ → Bool)

-- The format of an opening, as its options say it: the order of keys and that order's name, the
-- compressors by their ids, and the filters of tables with their policy's name.
pub record Format : Type 0 where
  pub order : List ℕ → List ℕ → Ordering
  pub order_name : List ℕ
  pub codings : Codings
  pub policy_name : List ℕ
  -- whether a user's key matches a filter
  pub matches : List ℕ → List ℕ → Bool

-- the format of a store with these options, where the ghosts say what comparators and filter
-- policies mean, and `codings` which compressors a list has
abbrev pub format_of : {C FP : Type 0} {B : Boxed} → CmpGhosts C → FilterGhosts FP
    → (CompressorList B.compressors B.compressor → Codings) → OptionsOf C FP B → Format
format_of cmp filters codings options = record {
  order = cmp.cmp options.cmp;
  order_name = cmp.name options.cmp;
  codings = codings options.compressor_list;
  policy_name = filters.name options.filter_policy;
  matches = filters.matches options.filter_policy;
}

-- The format says of its names and ids what they mean. An internal key matches a filter where its
-- user's key does.
pub record Agrees (format : Format) (meaning : Meaning) : Type 0 where
  pub order : format.order ≡ meaning.orders format.order_name
  pub codings : (id : ℕ) (coding : Coding) → format.codings id ≡ Some coding
      → meaning.codings id ≡ Some coding
  pub filters : meaning.filters format.policy_name ≡ Some (λ key. format.matches (user_part key))

-- a compressor of the format fails with this code for some block that it is to encode
pub record HasCompressorError (format : Format) (code : StatusCode) : Type 0 where
  pub id : ℕ
  pub coding : Coding
  pub is_set : format.codings id ≡ Some coding
  pub block : List ℕ
  pub fails : IsTrue (coding.encode_fails block code)

-- bytes are a table of a store whose names and ids mean this, in this order of user keys
abbrev pub IsTableOf : (List ℕ → List ℕ → Ordering) → Meaning → List ℕ → List Pair → Type 0
IsTableOf cmp meaning = IsStoreTable (Decodes meaning.codings) cmp meaning.filters

-- an id has a compressor in the files, and none in this format
abbrev pub LacksCompressor : Format → Meaning → Type 0
LacksCompressor format meaning =
    (id : ℕ) × IsSome (meaning.codings id) × (format.codings id ≡ None)

-- a compressor of the format fails with this code for some text, which it decodes to no block
pub record HasDecodingError (format : Format) (code : StatusCode) : Type 0 where
  pub id : ℕ
  pub coding : Coding
  pub is_set : format.codings id ≡ Some coding
  pub text : List ℕ
  pub none : coding.decoded text ≡ None
  pub fails : IsTrue (coding.decode_fails text code)

-- what may be said of a table that can't be read: it is damaged or missing, an id has no
-- compressor, or the compressor fails
abbrev pub IsTableFault : Format → StatusCode → Type 0
IsTableFault format code =
    (code ≡ Corruption) ⊎ (code ≡ NotSupported) ⊎ HasDecodingError format code
