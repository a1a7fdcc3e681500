-- What an open table is, and what is found in it.
use Rattle.std.specs.Prelude.{◌≡◌, ◌≢◌, ◌⊎◌, ◌<◌, ◌≤◌, ◌+◌, ◌^◌, ℕ, Bool, true, if◌then◌else◌, List, ◌++◌, length, take, flat_map, Option, None, Some, IfSome, IsSomeAnd, Result, IfOk, OnErr}
use Rattle.std.specs.List.{AllByRecursion}
use Rattle.std.specs.Map.{lookup}
use Rattle.std.specs.Str.{bytes_eq}
use Rattle.std.specs.declared.cmp.Ordering.{Ordering}
use Rattle.std.specs.declared.cmp.Ordering.TheVariants.{Less, Greater}
use Rattle.leveldb_base.specs.Cmp.{bytewise}
use Rattle.leveldb_base.specs.BlockHandle.{Handle, handle_bytes, HandleFits}
use Rattle.leveldb_base.specs.Types.{Pair, seek_position, pair_at}
use Rattle.leveldb_base.specs.declared.cmp.Cmp.{Ghosts as CmpGhosts}
use Rattle.leveldb_base.specs.declared.error.Status.{Status}
use Rattle.leveldb_base.specs.declared.error.StatusCode.TheVariants.{Corruption, NotSupported}
use Rattle.leveldb_env.specs.declared.env.Env.{Ghosts as EnvGhosts}
use Rattle.leveldb_env.specs.Compressor.{Codings, Decodes}
use Rattle.leveldb_env.specs.FilterBlock.{IsFilterBlock, FiltersRead, passes}
use Rattle.leveldb_table.specs.Block.{BlockRead, IsBlock, KeysRise, pairs_of}
use Rattle.leveldb_table.specs.Footer.{footer_bytes}
use Rattle.leveldb_table.specs.Table.{Part, IsPart, HasBlockAt, StoresAt, AreParted, AreAccepted, AllPass, filter_key, first_from, named_part, offset_for}
use Rattle.leveldb_table.specs.Cache.{Cached}
use Rattle.leveldb_table.specs.BlockCache.{IsBlockOfFile, GainsBlocks}
use Rattle.leveldb_table.specs.TableBlock.{LacksBlock, ForBytesOf, IsLackError, ReadsFile}
use Rattle.leveldb_table.specs.declared.block_cache.CachedBlock.{CachedBlock}
use Rattle.leveldb_table.specs.declared.table_builder.footer.Footer.{Footer}

-- ---- what is read when a table is opened

-- filters, or none where the handle's size is 0
abbrev pub IsFiltersAt : List ℕ → Handle → Option (List (List ℕ)) → Type 0
IsFiltersAt bytes handle None = handle.size ≡ 0
IsFiltersAt bytes handle (Some filters) =
    (handle.size ≢ 0) × (text : List ℕ) × StoresAt bytes handle 0 text × IsFilterBlock text filters

-- a value of the metaindex is a handle's, and where there is no value, there is no handle
abbrev pub GivesHandle : Option (List ℕ) → Option Handle → Type 0
GivesHandle None handle = handle ≡ None
GivesHandle (Some value) handle =
    IsSomeAnd handle (λ there. HandleFits there × (value ≡ handle_bytes there))

-- there is a value, and it is no handle's
abbrev pub GivesNoHandle : Option (List ℕ) → Type 0
GivesNoHandle value =
    IsSomeAnd value
    (λ bytes. (handle : Handle) → HandleFits handle → bytes ≡ handle_bytes handle → ⊥)

-- the filters where a metaindex says that they are, and none where it says nothing of them
abbrev pub HasFiltersBy : List ℕ → Option (List ℕ) → Option (List (List ℕ)) → Type 0
HasFiltersBy bytes None filters = filters ≡ None
HasFiltersBy bytes (Some value) filters =
    (handle : Handle) × HandleFits handle × (value ≡ handle_bytes handle)
    × IsFiltersAt bytes handle filters

-- the first `size` bytes of a file end in a footer of these handles
pub record EndsInFooter (bytes : List ℕ) (size : ℕ) (meta index : Handle) : Type 0 where
  pub within : size ≤ length bytes
  pub front : List ℕ
  pub ends : take size bytes ≡ front ++ footer_bytes meta index
  pub meta_fits : HandleFits meta
  pub index_fits : HandleFits index

-- the first `size` bytes of a file end in a footer, and where that says, the index has these lines
pub record HasIndex (codings : Codings) (cmp : List ℕ → List ℕ → Ordering) (bytes : List ℕ)
    (size : ℕ) (lines : List Pair) (meta index : Handle) : Type 0 where
  pub footer : EndsInFooter bytes size meta index
  pub index_text : List ℕ
  pub index_is_there : HasBlockAt (Decodes codings) bytes index index_text
  pub index_block : IsBlock cmp index_text lines

-- A file has an index, and where its footer says, the metaindex says under this key where the
-- filters are.
pub record OpensAs (codings : Codings) (cmp : List ℕ → List ℕ → Ordering) (key bytes : List ℕ)
    (size : ℕ)
    (lines : List Pair) (meta index : Handle) (filters : Option (List (List ℕ))) : Type 0 where
  pub indexed : HasIndex codings cmp bytes size lines meta index
  pub meta_text : List ℕ
  pub metas : List Pair
  pub meta_is_there : HasBlockAt (Decodes codings) bytes meta meta_text
  pub meta_block : IsBlock bytewise meta_text metas
  pub filtered : HasFiltersBy bytes (lookup (bytes_eq key) metas) filters

-- A file lacks an index, as a status says: its first `size` bytes end in no footer, or the index
-- is lacking where the footer says.
pub data LacksIndex (codings : Codings) (cmp : List ℕ → List ℕ → Ordering) (bytes : List ℕ)
    (size : ℕ) (status : Status) : Type 0 where
  no_footer : ((meta index : Handle) → EndsInFooter bytes size meta index → ⊥)
      → status.code ≡ Corruption → LacksIndex codings cmp bytes size status
  no_index : (meta index : Handle) → EndsInFooter bytes size meta index
      → LacksBlock codings cmp bytes index status → LacksIndex codings cmp bytes size status

-- A part of the file is lacking, as a status says: the index, or the metaindex where the footer
-- says, or the metaindex names filters under the key that aren't there.
pub data LacksPart (codings : Codings) (cmp : List ℕ → List ℕ → Ordering) (key bytes : List ℕ)
    (size : ℕ) (status : Status) : Type 0 where
  not_indexed : LacksIndex codings cmp bytes size status
      → LacksPart codings cmp key bytes size status
  no_metaindex : (meta index : Handle) → EndsInFooter bytes size meta index
      → LacksBlock codings bytewise bytes meta status → LacksPart codings cmp key bytes size status
  no_filters : (meta index : Handle) → EndsInFooter bytes size meta index
      → (text : List ℕ) (metas : List Pair) → HasBlockAt (Decodes codings) bytes meta text
      → IsBlock bytewise text metas
      → ((filters : Option (List (List ℕ))) → HasFiltersBy bytes
      (lookup (bytes_eq key) metas) filters → ⊥) → status.code ≡ Corruption
      → LacksPart codings cmp key bytes size status

-- the file has no index
abbrev pub HasNoIndex : Codings → (List ℕ → List ℕ → Ordering) → List ℕ → ℕ → Type 0
HasNoIndex codings cmp bytes size =
    (lines : List Pair) (meta index : Handle) → HasIndex codings cmp bytes size lines meta index → ⊥

-- the file can't be opened so
abbrev pub CannotOpen : Codings → (List ℕ → List ℕ → Ordering) → List ℕ → List ℕ → ℕ → Type 0
CannotOpen codings cmp key bytes size =
    (lines : List Pair) (meta index : Handle) (filters : Option (List (List ℕ)))
    → OpensAs codings cmp key bytes size lines meta index filters → ⊥

-- the file has no index, and the status says why
abbrev pub IsNoIndex : Codings → (List ℕ → List ℕ → Ordering) → ℕ → List ℕ → Status → Type 0
IsNoIndex codings cmp size bytes status =
    HasNoIndex codings cmp bytes size × LacksIndex codings cmp bytes size status

-- the file can't be opened so, and the status says why
abbrev pub IsNoTable : Codings → (List ℕ → List ℕ → Ordering) → List ℕ → ℕ → List ℕ → Status
    → Type 0
IsNoTable codings cmp key size bytes status =
    CannotOpen codings cmp key bytes size × LacksPart codings cmp key bytes size status

-- ---- data blocks that an index names

-- all pairs of data blocks
abbrev pub pairs_in : List Part → List Pair
pairs_in parts = flat_map (λ part. part.pairs) parts

-- The file has these data blocks, in order, with index keys between them, and all these keys are
-- accepted.
pub record HasParts (codings : Codings) (accepts : List ℕ → Bool)
    (cmp : List ℕ → List ℕ → Ordering) (bytes : List ℕ) (parts : List Part) : Type 0 where
  pub each : AllByRecursion (IsPart (Decodes codings) cmp bytes) parts
  pub parted : AreParted cmp parts
  pub sorted : KeysRise cmp (pairs_in parts)
  pub accepted : AreAccepted accepts parts

-- the numbers of their handles have 64 bits
abbrev pub HandlesFit : List Part → Type 0
HandlesFit parts = AllByRecursion (λ part. HandleFits part.handle) parts

-- What a look-up finds: the first pair at or after the key, but none where the filters don't let
-- the key pass at the block that the index names for it.
abbrev pub found_in : (List ℕ → List ℕ → Ordering) → (ℕ → List ℕ → Bool) → List ℕ → List Part
    → Option Pair
found_in cmp may_contain key parts =
    elim (named_part cmp key parts) [
      | None ↦ None
      | Some part ↦ if may_contain part.handle.offset key then
          first_from cmp key (pairs_in parts) else None
    ]

-- the line that an index has for a key: the first whose key is at or after it
abbrev pub key_line : (List ℕ → List ℕ → Ordering) → List ℕ → List Pair → Option Pair
key_line cmp key lines = pair_at lines (seek_position cmp lines key)

-- The offset is that of the handle which the line names; without a line, it is the one given.
abbrev pub IsOffsetBy : Option Pair → ℕ → ℕ → Type 0
IsOffsetBy None past offset = offset ≡ past
IsOffsetBy (Some line) past offset =
    (handle : Handle) × HandleFits handle × (line.1 ≡ handle_bytes handle)
    × (offset ≡ handle.offset)

-- ---- what holds of tables that are opened

-- The table can be opened, and the filters, where it has some, let pass what they must.
pub record CanOpen (codings : Codings) (cmp : List ℕ → List ℕ → Ordering)
    (matches : List ℕ → List ℕ → Bool)
    (user : List ℕ → List ℕ) (name bytes : List ℕ) (parts : List Part) : Type 0 where
  pub lines : List Pair
  pub meta : Handle
  pub index : Handle
  pub filters : Option (List (List ℕ))
  pub opens : OpensAs codings cmp (filter_key name) bytes (length bytes) lines meta index filters
  pub pass : IfSome filters (λ texts. AllPass matches user texts parts)

-- between keys of one user's key are none of another's
abbrev pub KeepsUsersTogether : (List ℕ → Bool) → (List ℕ → List ℕ → Ordering) → (List ℕ → List ℕ)
    → Type 0
KeepsUsersTogether accepts cmp user =
    (a b c : List ℕ) → accepts a ≡ true → accepts b ≡ true → accepts c ≡ true → cmp a b ≢ Greater
    → cmp b c ≢ Greater → user a ≡ user c → user b ≡ user a

-- no pair at or after the key has its user's key
abbrev pub HasNoneFrom : (List ℕ → List ℕ → Ordering) → (List ℕ → List ℕ) → List ℕ → List Pair
    → Type 0
HasNoneFrom cmp user key pairs =
    AllByRecursion (λ pair. cmp pair.0 key ≢ Less → user pair.0 ≡ user key → ⊥) pairs

-- ---- an open table

-- What an open table is to its callers, as what it was opened: the order of its keys, its file, the
-- number that is in the keys of its blocks in a cache, its footer, its index, and its filters where
-- they were read.
pub record OpenTable (C FP F : Type 0) : Type 0 where
  pub cmp : C
  pub file : F
  pub id : ℕ
  pub footer : Footer
  pub index : BlockRead C
  pub filters : Option (FiltersRead FP)

-- the value that a block has under a key
abbrev pub value_under : {C : Type 0} → List ℕ → BlockRead C → Option (List ℕ)
value_under key block = lookup (bytes_eq key) (pairs_of None block.entries)

-- the filters, where they were read
abbrev pub filters_in : {FP : Type 0} → Option (FiltersRead FP) → Option (List (List ℕ))
filters_in None = None
filters_in (Some reader) = Some reader.filters

module _ {C FP F : Type 0} where
  -- the index's pairs
  abbrev pub lines_of : OpenTable C FP F → List Pair
  lines_of table = pairs_of None table.index.entries

  -- the filters
  abbrev pub filters_of : OpenTable C FP F → Option (List (List ℕ))
  filters_of table = filters_in table.filters

  -- where its metaindex is
  abbrev pub meta_of : OpenTable C FP F → Handle
  meta_of table = table.footer.meta_index

  -- whether the filters let a key pass at an offset; without filters each key passes
  abbrev pub may_contain : (FP → List ℕ → List ℕ → Bool) → OpenTable C FP F → ℕ → List ℕ → Bool
  may_contain matches table offset key = elim table.filters [
    | None ↦ true
    | Some reader ↦ passes (matches reader.policy) reader.filters offset key
  ]

module _ {C FP F : Type 0} (order : CmpGhosts C) where
  -- the line of its index for a key
  abbrev pub line_in : OpenTable C FP F → List ℕ → Option Pair
  line_in table key = key_line (order.cmp table.index.cmp) key (lines_of table)

  -- where the block is that would hold a key, if its index is that of these data blocks
  abbrev pub offset_in : OpenTable C FP F → List ℕ → List Part → ℕ
  offset_in table key parts = offset_for (order.cmp table.index.cmp) key parts (meta_of table)

  -- a cache gains blocks of the table's file alone
  abbrev pub GainsBlocksOf : {E : Type 0} → EnvGhosts E F → Codings → OpenTable C FP F → E
      → Cached (CachedBlock C) → Cached (CachedBlock C) → Type 0
  GainsBlocksOf env codings table old_env old_cache new_cache =
      GainsBlocks table.id (λ offset held. ForBytesOf env old_env table.file
      (λ bytes. IsBlockOfFile order codings (order.cmp table.cmp) bytes offset held)) old_cache
      new_cache

module _ {C FP F : Type 0} where
  -- the file, of these bytes, has this table with its filters
  abbrev pub IsOpenedAs : Codings → (List ℕ → List ℕ → Ordering) → List ℕ → ℕ
      → OpenTable C FP F → List ℕ → Type 0
  IsOpenedAs codings cmp key size table bytes =
      OpensAs codings cmp key bytes size (lines_of table) table.footer.meta_index
      table.footer.index (filters_of table)

  -- the file, of these bytes, has this table, whatever its metaindex and its filters are
  abbrev pub IsIndexedAs : Codings → (List ℕ → List ℕ → Ordering) → ℕ → OpenTable C FP F
      → List ℕ → Type 0
  IsIndexedAs codings cmp size table bytes =
      HasIndex codings cmp bytes size (lines_of table) table.footer.meta_index table.footer.index

-- filters that are read are of this policy
abbrev pub AreOfPolicy : {FP : Type 0} → FP → Option (FiltersRead FP) → Type 0
AreOfPolicy policy filters = IfSome filters (λ reader. reader.policy ≡ policy)

module _ {E C FP F : Type 0} where
  -- What a call says that opens a table in a file, in this order of keys: what the table then is
  -- by the file's bytes, what its filters are, and what these bytes lack where it fails.
  pub record OpensTable (env : EnvGhosts E F) (codings : Codings)
      (Is : OpenTable C FP F → List ℕ → Type 0)
      (Filters : Option (FiltersRead FP) → Type 0) (Lacks : List ℕ → Status → Type 0) (cmp : C)
      (from : F) (old_env : E) (old_cache : Cached (CachedBlock C))
      (result : Result (OpenTable C FP F) Status) (new_env : E)
      (new_cache : Cached (CachedBlock C)) : Type 0 where
    -- it fails out of memory, at a failure of the device, since the cache's numbers are used up,
    -- or since a part of the file is lacking
    pub reads : ReadsFile env
        (λ status. ((status.code ≡ NotSupported) × (old_cache.given + 1 ≡ 2 ^ 64))
        ⊎ IsLackError env codings Lacks old_env from status) old_env new_env result
    pub ok : IfOk result (λ table. ForBytesOf env old_env from (Is table))
    pub file : IfOk result (λ table. table.file ≡ from)
    pub order : IfOk result (λ table. (table.cmp ≡ cmp) × (table.index.cmp ≡ cmp))
    pub policy : IfOk result (λ table. Filters table.filters)
    -- it gets the cache's next number, of 64 bits
    pub id : IfOk result (λ table. (table.id ≡ old_cache.given + 1)
        × (new_cache ≡ record old_cache { given = table.id }))
    pub id_fits : IfOk result (λ table. table.id < 2 ^ 64)
    pub err : OnErr result (new_cache ≡ old_cache)
