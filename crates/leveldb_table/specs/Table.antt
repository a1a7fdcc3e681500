-- A table file: sorted pairs in blocks, an index of these, filters of their keys, and a footer. A
-- list of pairs has many tables, as it is cut into blocks and as these are encoded.
use Rattle.std.specs.Prelude.{◌≡◌, ◌≢◌, ◌==◌, ℕ, zero, suc, ◌+◌, ◌/◌, Bool, true, false, if◌then◌else◌, List, [], ◌∷◌, ◌++◌, length, flat_map, map, codes, Option, None, Some, IfSome}
use Rattle.std.specs.List.{AllByRecursion}
use Rattle.std.specs.declared.cmp.Ordering.{Ordering}
use Rattle.std.specs.declared.cmp.Ordering.TheVariants.{Less}
use Rattle.std.specs.Ordering.{is_lt}
use Rattle.leveldb_base.specs.Cmp.{bytewise}
use Rattle.leveldb_base.specs.Crc.{crc_of, masked}
use Rattle.leveldb_base.specs.BlockHandle.{Handle, handle_bytes, HandleFits}
use Rattle.leveldb_base.specs.Types.{Pair}
use Rattle.leveldb_base.specs.Varint.{little}
use Rattle.leveldb_env.specs.FilterBlock.{IsFilterBlock, filter_of, finished, passes}
use Rattle.leveldb_table.specs.Block.{IsBlock, KeysRise}
use Rattle.leveldb_table.specs.Footer.{footer_bytes}

-- ---- blocks in a file

-- a stored block with its trailer: the compressor's id, and the masked checksum of both
abbrev pub with_trailer : ℕ → List ℕ → List ℕ
with_trailer id stored = stored ++ (id ∷ little 4 (masked (crc_of (stored ++ id ∷ []))))

-- at a handle the file has a stored block with its trailer
pub record StoresAt (file : List ℕ) (handle : Handle) (id : ℕ) (stored : List ℕ) : Type 0 where
  pub before : List ℕ
  pub after : List ℕ
  pub whole : file ≡ before ++ (with_trailer id stored ++ after)
  pub offset : length before ≡ handle.offset
  pub size : length stored ≡ handle.size
  pub fits : HandleFits handle

-- At a handle the file has a block of this text, stored under the id of a compressor. Decodes says
-- which text is stored so under which id.
pub record HasBlockAt (Decodes : ℕ → List ℕ → List ℕ → Type 0) (file : List ℕ) (handle : Handle)
    (text : List ℕ) : Type 0 where
  pub id : ℕ
  pub stored : List ℕ
  pub is_there : StoresAt file handle id stored
  pub decoded : Decodes id stored text

-- at a handle the file has stored bytes under this id
abbrev pub IsStoredUnder : List ℕ → ℕ → Handle → Type 0
IsStoredUnder file id handle = (stored : List ℕ) × StoresAt file handle id stored

-- ---- data blocks

-- a data block: where it is, its key in the index, and its pairs
pub record Part : Type 0 where
  pub handle : Handle
  pub index_key : List ℕ
  pub pairs : List Pair

-- the file has the data block, and it isn't empty
pub record IsPart (Decodes : ℕ → List ℕ → List ℕ → Type 0) (cmp : List ℕ → List ℕ → Ordering)
    (file : List ℕ) (part : Part) : Type 0 where
  pub text : List ℕ
  pub is_there : HasBlockAt Decodes file part.handle text
  pub block : IsBlock cmp text part.pairs
  pub some : part.pairs ≢ []

-- a data block's line in the index
abbrev pub index_pair : Part → Pair
index_pair part = (part.index_key, handle_bytes part.handle)

-- each of these keys is at or before a key; and each is after it
abbrev pub IsAtOrAfterAll : (List ℕ → List ℕ → Ordering) → List ℕ → List Pair → Type 0
IsAtOrAfterAll cmp key pairs = AllByRecursion (λ pair. cmp key pair.0 ≢ Less) pairs

-- a key is before all keys of some pairs
abbrev pub IsBeforeAll : (List ℕ → List ℕ → Ordering) → List ℕ → List Pair → Type 0
IsBeforeAll cmp key pairs = AllByRecursion (λ pair. cmp key pair.0 ≡ Less) pairs

-- each index key is between its block's keys and the next block's
abbrev pub AreParted : (List ℕ → List ℕ → Ordering) → List Part → Type 0
AreParted cmp [] = Unit {0}
AreParted cmp (part ∷ []) = IsAtOrAfterAll cmp part.index_key part.pairs
AreParted cmp (part ∷ next ∷ parts) =
    IsAtOrAfterAll cmp part.index_key part.pairs × IsBeforeAll cmp part.index_key next.pairs
    × AreParted cmp (next ∷ parts)

-- all keys of the blocks and of the index are accepted
pub record AreAccepted (accepts : List ℕ → Bool) (parts : List Part) : Type 0 where
  pub pairs : AllByRecursion (λ pair. accepts pair.0 ≡ true) (flat_map (λ part. part.pairs) parts)
  pub lines : AllByRecursion (λ part. accepts part.index_key ≡ true) parts

-- ---- filters

-- the filters at a block's offset let its keys pass
abbrev pub PartPasses : (List ℕ → List ℕ → Bool) → List (List ℕ) → ℕ → List Pair → Type 0
PartPasses matches filters offset pairs =
    AllByRecursion (λ pair. passes matches filters offset pair.0 ≡ true) pairs

-- Of each block all keys pass; and where the index key has a user's key that the next block has
-- too, that key's pairs pass at the offset of the block before too, since a look-up may be led
-- there.
abbrev pub AllPass : (List ℕ → List ℕ → Bool) → (List ℕ → List ℕ) → List (List ℕ) → List Part
    → Type 0
AllPass matches user filters [] = Unit {0}
AllPass matches user filters (part ∷ []) = PartPasses matches filters part.handle.offset part.pairs
AllPass matches user filters (part ∷ next ∷ parts) =
    PartPasses matches filters part.handle.offset part.pairs
    × AllByRecursion (λ pair. user pair.0 ≡ user part.index_key
    → passes matches filters part.handle.offset pair.0 ≡ true) next.pairs
    × AllPass matches user filters (next ∷ parts)

-- the keys of the blocks that begin in the stretch of 2048 bytes with this number
abbrev pub keys_for : ℕ → List Part → List (List ℕ)
keys_for n parts =
    flat_map (λ part.
    if part.handle.offset / 2048 == n then map (λ pair. pair.0) part.pairs else []) parts

-- the filters of the first `n` stretches, each of the keys of its blocks
abbrev pub filters_before : (List (List ℕ) → List ℕ) → List Part → ℕ → List (List ℕ)
filters_before make parts zero = []
filters_before make parts (suc n) =
    filters_before make parts n ++ filter_of make (keys_for n parts) ∷ []

-- the filters of blocks that end at this offset: of each stretch before its own, and of its own
-- where a block begins in it
abbrev pub filters_for : (List (List ℕ) → List ℕ) → List Part → ℕ → List (List ℕ)
filters_for make parts offset =
    finished make (filters_before make parts (offset / 2048)) (keys_for (offset / 2048) parts)

-- what the metaindex calls the filters of a policy
abbrev pub filter_key : List ℕ → List ℕ
filter_key policy = codes "filter." ++ policy

-- at a handle the file has filters that let each key pass, stored as they are
pub record HasFiltersAt (matches : List ℕ → List ℕ → Bool) (user : List ℕ → List ℕ) (file : List ℕ)
    (parts : List Part) (handle : Handle) : Type 0 where
  pub text : List ℕ
  pub filters : List (List ℕ)
  pub is_there : StoresAt file handle 0 text
  pub block : IsFilterBlock text filters
  pub pass : AllPass matches user filters parts

-- A pair of the metaindex that names a policy whose meaning is known gives a handle: of no filters
-- where its size is 0, else of filters that let each key pass.
abbrev pub FiltersHold : (List ℕ → Option (List ℕ → List ℕ → Bool)) → (List ℕ → List ℕ) → List ℕ
    → List Part → Pair → Type 0
FiltersHold meaning user file parts meta =
    (policy : List ℕ) → meta.0 ≡ filter_key policy → IfSome (meaning policy) (λ matches.
    (handle : Handle) × HandleFits handle × (meta.1 ≡ handle_bytes handle)
    × (handle.size ≢ 0 → HasFiltersAt matches user file parts handle))

-- ---- the table

-- Where the blocks of a table are, and what they hold: data blocks, the index of them, and the
-- metaindex, which is in byte order.
pub record HasTableBlocks (Decodes : ℕ → List ℕ → List ℕ → Type 0)
    (cmp : List ℕ → List ℕ → Ordering) (file : List ℕ)
    (parts : List Part) (metas : List Pair) (meta index : Handle) : Type 0 where
  pub front : List ℕ
  pub ends : file ≡ front ++ footer_bytes meta index
  pub index_text : List ℕ
  pub index_is_there : HasBlockAt Decodes file index index_text
  pub index_block : IsBlock cmp index_text (map index_pair parts)
  pub each : AllByRecursion (IsPart Decodes cmp file) parts
  pub parted : AreParted cmp parts
  pub meta_text : List ℕ
  pub meta_is_there : HasBlockAt Decodes file meta meta_text
  pub meta_block : IsBlock bytewise meta_text metas

-- The file is a table of these pairs, which rise strictly and are accepted as the index keys are,
-- with filters that let them pass under each policy whose meaning is known. The user's key is the
-- part of a key that filters go by: the key itself, or what an internal key has before its tag.
pub record IsTable (Decodes : ℕ → List ℕ → List ℕ → Type 0) (accepts : List ℕ → Bool)
    (cmp : List ℕ → List ℕ → Ordering) (meaning : List ℕ → Option (List ℕ → List ℕ → Bool))
    (user : List ℕ → List ℕ) (file : List ℕ) (pairs : List Pair) : Type 0 where
  pub parts : List Part
  pub metas : List Pair
  pub meta : Handle
  pub index : Handle
  pub tabled : HasTableBlocks Decodes cmp file parts metas meta index
  pub accepted : AreAccepted accepts parts
  pub sorted : KeysRise cmp pairs
  pub pairs_are : pairs ≡ flat_map (λ part. part.pairs) parts
  pub filters : AllByRecursion (FiltersHold meaning user file parts) metas

-- ---- what a builder writes

-- each block begins where the one before it ends with its trailer, the first at an offset
abbrev pub AreLinked : ℕ → List Handle → Type 0
AreLinked offset [] = Unit {0}
AreLinked offset (handle ∷ handles) =
    (handle.offset ≡ offset) × AreLinked (offset + handle.size + 5) handles

-- how many bytes blocks have with their trailers
abbrev pub blocks_len : List Handle → ℕ
blocks_len [] = 0
blocks_len (handle ∷ handles) = handle.size + 5 + blocks_len handles

-- a table's blocks as they are written: the data blocks, the filters, the metaindex, the index
abbrev pub written_blocks : List Part → Handle → Handle → Handle → List Handle
written_blocks parts filter meta index =
    map (λ part. part.handle) parts ++ filter ∷ meta ∷ index ∷ []

-- The file has these blocks one after the other and the footer, and nothing else: each under the
-- id of the compressor, but for the filters. The metaindex has one pair, of the filters.
pub record IsWritten (file : List ℕ) (id : ℕ) (policy : List ℕ) (parts : List Part)
    (metas : List Pair) (filter meta index : Handle) : Type 0 where
  pub linked : AreLinked 0 (written_blocks parts filter meta index)
  pub whole : length file ≡ blocks_len (written_blocks parts filter meta index) + 48
  pub under : AllByRecursion (IsStoredUnder file id)
      (map (λ part. part.handle) parts ++ meta ∷ index ∷ [])
  pub named : metas ≡ (filter_key policy, handle_bytes filter) ∷ []

-- ---- what is asked of a table

-- the first pair at or after a key
abbrev pub first_from : (List ℕ → List ℕ → Ordering) → List ℕ → List Pair → Option Pair
first_from cmp key [] = None
first_from cmp key (pair ∷ pairs) =
    elim (is_lt (cmp pair.0 key)) [ true ↦ first_from cmp key pairs | false ↦ Some pair ]

-- the block that the index names for a key: the first whose index key is at or after it
abbrev pub named_part : (List ℕ → List ℕ → Ordering) → List ℕ → List Part → Option Part
named_part cmp key [] = None
named_part cmp key (part ∷ parts) =
    elim (is_lt (cmp part.index_key key)) [ true ↦ named_part cmp key parts | false ↦ Some part ]

-- where the block is that would hold a key, and past the last where the metaindex is
abbrev pub offset_for : (List ℕ → List ℕ → Ordering) → List ℕ → List Part → Handle → ℕ
offset_for cmp key parts meta =
    elim (named_part cmp key parts) [ Some part ↦ part.handle.offset | None ↦ meta.offset ]

-- ---- laws

-- what is stored is one text
abbrev pub DecodesOne : (ℕ → List ℕ → List ℕ → Type 0) → Type 0
DecodesOne Decodes =
    (id : ℕ) (stored text other : List ℕ) → Decodes id stored text → Decodes id stored other
    → text ≡ other

-- a file is a table of one list of pairs, whatever is asked of its filters
abbrev pub OneTable : (ℕ → List ℕ → List ℕ → Type 0) → (List ℕ → List ℕ → Ordering) → Type 0
OneTable Decodes cmp =
    DecodesOne Decodes → (accepts others_accept : List ℕ → Bool)
    (meaning other : List ℕ → Option (List ℕ → List ℕ → Bool)) (user part : List ℕ → List ℕ)
    (file : List ℕ) (pairs others : List Pair)
    → IsTable Decodes accepts cmp meaning user file pairs
    → IsTable Decodes others_accept cmp other part file others → pairs ≡ others
