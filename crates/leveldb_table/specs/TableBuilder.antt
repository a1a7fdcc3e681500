-- What the calls of a table builder do to it and to its sink.
use Rattle.std.specs.Prelude.{◌≡◌, ◌≢◌, ℕ, ◌+◌, ◌*◌, ◌<◌, Bool, true, false, max, List, [], ◌∷◌, ◌++◌, length, map, Result, Ok, Option, None, IfSome, codes, string_bytes}
use Rattle.std.specs.List.{AllByRecursion, concat}
use Rattle.std.specs.declared.cmp.Ordering.{Ordering}
use Rattle.std.specs.declared.cmp.Ordering.TheVariants.{Less, Greater}
use Rattle.leveldb_base.specs.declared.error.Status.{Status}
use Rattle.leveldb_base.specs.declared.error.StatusCode.TheVariants.{IOError}
use Rattle.leveldb_base.specs.Cmp.{bytewise}
use Rattle.leveldb_base.specs.BlockHandle.{Handle, handle_bytes, HandleFits}
use Rattle.leveldb_base.specs.Types.{Pair}
use Rattle.leveldb_base.specs.declared.cmp.Cmp.{Ghosts as CmpGhosts}
use Rattle.leveldb_env.specs.Sink.{PutsAll, PutsEach}
use Rattle.leveldb_env.specs.Compressor.{Codings, Decodes}
use Rattle.leveldb_env.specs.FilterBlock.{FiltersBuilt, IsFilterBlock, finished}
use Rattle.leveldb_env.specs.declared.filter.FilterPolicy.{Ghosts as PolicyGhosts}
use Rattle.leveldb_table.specs.Block.{pairs_of}
use Rattle.leveldb_table.specs.BlockBuilder.{BlockBuilt, last_added, block_made, IsMade, estimate}
use Rattle.leveldb_table.specs.Footer.{footer_bytes}
use Rattle.leveldb_table.specs.Table.{Part, HasBlockAt, index_pair, IsTable, IsWritten, HasFiltersAt, filters_for, filter_key, with_trailer}
use Rattle.leveldb_table.specs.TableBuilderStage.{Stage, stage_of, IsLaidOut, AreSeparated, AreReady, Follows, first_key}

-- What a table builder is to its callers: the builders of its open block and of its index, its
-- filters, how many bytes it has put, how many pairs were added, whether a call failed, and under
-- which compressor's id and of which size blocks are stored.
pub record TableBuilt (C FP : Type 0) : Type 0 where
  pub block : BlockBuilt C
  pub index : BlockBuilt C
  pub filter : FiltersBuilt FP
  pub offset : ℕ
  pub count : ℕ
  pub broken : Bool
  pub compressor : ℕ
  pub block_size : ℕ

-- how far a builder's table is built
abbrev pub stage : {C FP : Type 0} → TableBuilt C FP → Stage FP
stage core =
    stage_of core.filter core.offset (pairs_of None core.index.entries)
    (pairs_of None core.block.entries) core.count core.block.interval core.index.interval

-- the key that was added last
abbrev pub last_of : {C FP : Type 0} → TableBuilt C FP → List ℕ
last_of core = last_added (pairs_of None core.block.entries)

-- its comparator, and its filter policy
abbrev pub order_of : {C FP : Type 0} → TableBuilt C FP → C
order_of core = core.block.cmp

-- the filter policy of a table that is built
abbrev pub policy_of : {C FP : Type 0} → TableBuilt C FP → FP
policy_of core = core.filter.policy

-- the index's keys and after them those of the open block rise, and the open block's filter is
-- open
abbrev pub IsReady : {C FP : Type 0} → (C → List ℕ → Bool) → (C → List ℕ → List ℕ → Ordering)
    → TableBuilt C FP → Type 0
IsReady accepts cmp core =
    AreReady (accepts core.block.cmp) (cmp core.block.cmp) (cmp core.index.cmp) (stage core)

-- and this key is after them
abbrev pub IsReadyFor : {C FP : Type 0} → (C → List ℕ → Bool) → (C → List ℕ → List ℕ → Ordering)
    → TableBuilt C FP → List ℕ → Type 0
IsReadyFor accepts cmp core next =
    IsReady accepts cmp core
    × Follows (accepts core.block.cmp) (cmp core.block.cmp) (stage core) next

-- the open block can be closed before this key: it has a pair, and the key is accepted and at or
-- after the last one
pub record IsClosable {C FP : Type 0} (accepts : C → List ℕ → Bool)
    (cmp : C → List ℕ → List ℕ → Ordering) (core : TableBuilt C FP) (next : List ℕ) : Type 0 where
  pub ready : IsReady accepts cmp core
  pub some : (stage core).open_pairs ≢ []
  pub accepted : accepts (order_of core) next ≡ true
  pub after : cmp (order_of core) (last_of core) next ≢ Greater

-- the comparator, the policy, the compressor and the sizes stay
pub record KeepsChoices {C FP : Type 0} (old new : TableBuilt C FP) : Type 0 where
  pub same_order : order_of new ≡ order_of old
  pub same_policy : policy_of new ≡ policy_of old
  pub same_compressor : new.compressor ≡ old.compressor
  pub same_size : new.block_size ≡ old.block_size
  pub same_intervals : (new.block.interval ≡ old.block.interval)
      × (new.index.interval ≡ old.index.interval)

-- no pair was added, and the builder counts as broken until the call is done
abbrev pub StaysUnfinished : {C FP : Type 0} → TableBuilt C FP → TableBuilt C FP → Type 0
StaysUnfinished old new = (new.count ≡ old.count) × (new.broken ≡ true)

-- The builder has put these bytes, and these pairs were added.
abbrev pub IsBegun : {C FP : Type 0} → Codings → CmpGhosts C → PolicyGhosts FP → TableBuilt C FP
    → List ℕ → List Pair → Type 0
IsBegun codings order filters core written pairs =
    IsLaidOut (Decodes codings) (order.accepts core.block.cmp) (order.cmp core.block.cmp)
    (order.shortest_sep core.block.cmp) (filters.matches core.filter.policy)
    (filters.filter_for core.filter.policy) core.compressor
    (stage core) (first_key (stage core).open_pairs) written pairs

-- What a new builder is: nothing is put, no pair is added, no call has failed, and it has this
-- comparator, this policy, this compressor's id and these sizes.
pub record IsNewBuilder {C FP : Type 0} (ordered : CmpGhosts C) (filters : PolicyGhosts FP)
    (cmp : C) (chosen : FP) (id block_size restarts : ℕ)
    (core : TableBuilt C FP) : Type 0 where
  pub begun : (codings : Codings) → IsBegun codings ordered filters core [] []
  pub unbroken : core.broken ≡ false
  pub none : core.count ≡ 0
  pub order : order_of core ≡ cmp
  pub policy : policy_of core ≡ chosen
  pub compressor : core.compressor ≡ id
  pub size : core.block_size ≡ block_size
  -- 0 is taken as 1, and the index has a restart point at each line
  pub interval : (core.block.interval ≡ max 1 restarts) × (core.index.interval ≡ 1)

-- The open block has an entry, and more bytes than a block shall have: the next pair goes into
-- another.
abbrev pub IsFull : {C FP : Type 0} → TableBuilt C FP → Type 0
IsFull core = (core.block.entries ≢ []) × (core.block_size < estimate core.block.entries true)

-- how many bytes the table would have: the estimates of the open block, the index and the filters,
-- what was put, and a footer
abbrev pub table_estimate : {C FP : Type 0} → TableBuilt C FP → ℕ
table_estimate core =
    estimate core.block.entries true + estimate core.index.entries true
    + (length (concat core.filter.filters) + 4 * length core.filter.filters + 5) + core.offset
    + 48

-- a call came after one that failed
pub record IsBroken (status : Status) : Type 0 where
  pub code : status.code ≡ IOError
  pub text : IfSome status.err (λ text. string_bytes text ≡ codes "IOError: reopen the store")

-- a separator has the user's key of none that is at or after the second key, but where the first
-- key has it too
abbrev pub SeparatesUsers : (List ℕ → Bool) → (List ℕ → List ℕ → Ordering)
    → (List ℕ → List ℕ → List ℕ) → (List ℕ → List ℕ) → Type 0
SeparatesUsers accepts cmp sep user =
    (a b key : List ℕ) → accepts a ≡ true → accepts b ≡ true → accepts key ≡ true → cmp a b ≡ Less
    → cmp b key ≢ Greater → user key ≡ user (sep a b) → user a ≡ user key

-- keys with one user's key match the same filters
abbrev pub MatchesByUser : (List ℕ → List ℕ) → (List ℕ → List ℕ → Bool) → Type 0
MatchesByUser user matches =
    (key other filter : List ℕ) → user key ≡ user other → matches key filter ≡ matches other filter

-- each data block is the one that is made at one interval, and the metaindex and the index are
-- those made at another
pub record AreMade (Decodes : ℕ → List ℕ → List ℕ → Type 0) (interval index_interval : ℕ)
    (file : List ℕ) (parts : List Part) (metas : List Pair) (meta index : Handle) : Type 0 where
  pub each : AllByRecursion
      (λ part. HasBlockAt Decodes file part.handle (block_made interval part.pairs)) parts
  pub of_metas : HasBlockAt Decodes file meta (block_made index_interval metas)
  pub of_lines : HasBlockAt Decodes file index (block_made index_interval (map index_pair parts))

-- The file is a table of these pairs, its blocks are one after the other as they are made at these
-- intervals, and its one filter block is the named policy's: it has the filters of the blocks'
-- keys. The index keys are separators, and the last one separates the last key from the successor
-- of it.
pub record BuildsTable (codings : Codings) (accepts : List ℕ → Bool)
    (cmp : List ℕ → List ℕ → Ordering) (sep : List ℕ → List ℕ → List ℕ) (succ : List ℕ → List ℕ)
    (meaning : List ℕ → Option (List ℕ → List ℕ → Bool)) (user : List ℕ → List ℕ)
    (matches : List ℕ → List ℕ → Bool)
    (make : List (List ℕ) → List ℕ) (id : ℕ) (policy : List ℕ) (interval index_interval : ℕ)
    (file : List ℕ) (pairs : List Pair) : Type 0 where
  pub table : IsTable (Decodes codings) accepts cmp meaning user file pairs
  pub filter : Handle
  pub written : IsWritten file id policy table.parts table.metas filter table.meta table.index
  pub exact : AreMade (Decodes codings) interval index_interval file table.parts table.metas
      table.meta table.index
  pub separated : AreSeparated sep table.parts (succ (last_added pairs))
  pub filtered : HasFiltersAt matches user file table.parts filter
  pub exactly : filtered.filters ≡ filters_for make table.parts filter.offset

-- the policy's name means what the policy matches, or its meaning isn't known
abbrev pub IsMeaningOf : (List ℕ → Option (List ℕ → List ℕ → Bool)) → List ℕ
    → (List ℕ → List ℕ → Bool) → Type 0
IsMeaningOf meaning name matches = IfSome (meaning name) (λ known. known ≡ matches)

-- The file is such a table by whatever part of a key the filters go, if separators keep the order
-- of these parts.
abbrev pub IsBuiltTable : Codings → (List ℕ → Bool) → (List ℕ → List ℕ → Ordering)
    → (List ℕ → List ℕ → List ℕ) → (List ℕ → List ℕ) → (List ℕ → List ℕ → Bool)
    → (List (List ℕ) → List ℕ) → ℕ → List ℕ → ℕ → ℕ → List ℕ → List Pair → Type 0
IsBuiltTable codings accepts cmp sep succ matches make id name interval index_interval file pairs =
    (meaning : List ℕ → Option (List ℕ → List ℕ → Bool)) (user : List ℕ → List ℕ)
    → SeparatesUsers accepts cmp sep user → MatchesByUser user matches
    → IsMeaningOf meaning name matches
    → BuildsTable codings accepts cmp sep succ meaning user matches make id name interval
    index_interval file pairs

-- the handle is that of stored bytes at this offset
abbrev pub IsPlaced : ℕ → List ℕ → Handle → Type 0
IsPlaced offset stored handle =
    (handle.offset ≡ offset) × (handle.size ≡ length stored) × HandleFits handle

-- no block is open, and where there are keys, this accepted key is the successor of the last and
-- at or after it
pub record IsLast {FP : Type 0} (accepts : List ℕ → Bool) (cmp : List ℕ → List ℕ → Ordering)
    (succ : List ℕ → List ℕ)
    (stage : Stage FP) (next : List ℕ) (pairs : List Pair) : Type 0 where
  pub none_open : stage.open_pairs ≡ []
  pub accepted : stage.lines ≢ [] → accepts next ≡ true
  pub after : stage.lines ≢ [] → cmp (last_added pairs) next ≢ Greater
  pub successor : stage.lines ≢ [] → next ≡ succ (last_added pairs)

-- What follows the data blocks: the filters as they are, the metaindex and the index as they are
-- made at the index's interval and stored under the id, and the footer. With it the file has
-- `size` bytes.
pub record IsEnd {FP : Type 0} (Decodes : ℕ → List ℕ → List ℕ → Type 0)
    (cmp : List ℕ → List ℕ → Ordering) (make : List (List ℕ) → List ℕ)
    (id : ℕ) (name : List ℕ) (stage : Stage FP) (bytes : List ℕ) (size : ℕ) : Type 0 where
  pub filters : List ℕ
  pub meta_text : List ℕ
  pub meta_stored : List ℕ
  pub index_text : List ℕ
  pub index_stored : List ℕ
  pub filter : Handle
  pub meta : Handle
  pub index : Handle
  pub filter_block : IsFilterBlock filters (finished make stage.filter.filters stage.filter.keys)
  pub meta_made : IsMade bytewise stage.index_interval
      ((filter_key name, handle_bytes filter) ∷ []) meta_text
  pub index_made : IsMade cmp stage.index_interval stage.lines index_text
  pub meta_decoded : Decodes id meta_stored meta_text
  pub index_decoded : Decodes id index_stored index_text
  pub filter_placed : IsPlaced stage.offset filters filter
  pub meta_placed : IsPlaced (filter.offset + filter.size + 5) meta_stored meta
  pub index_placed : IsPlaced (meta.offset + meta.size + 5) index_stored index
  pub encoded : bytes ≡ with_trailer 0 filters ++ (with_trailer id meta_stored
      ++ (with_trailer id index_stored ++ footer_bytes meta index))
  pub ends : size ≡ index.offset + index.size + 5 + 48

module _ {S : Type 0} (puts : S → List ℕ → Result (Unit {0}) Status → S → Type 0) where
  -- The open block was put, or it had room: the file so far is laid out, and the next key goes
  -- into the open block.
  pub record MakesRoom {FP : Type 0} (old : List ℕ → List Pair → Type 0)
      (Decodes : ℕ → List ℕ → List ℕ → Type 0)
      (accepts : List ℕ → Bool) (cmp : List ℕ → List ℕ → Ordering) (sep : List ℕ → List ℕ → List ℕ)
      (matches : List ℕ → List ℕ → Bool) (make : List (List ℕ) → List ℕ) (id : ℕ) (new : Stage FP)
      (next : List ℕ) (from to : S) : Type 0 where
    pub bytes : List ℕ
    pub put : PutsAll puts from bytes to
    pub laid : (written : List ℕ) (pairs : List Pair) → old written pairs
        → IsLaidOut Decodes accepts cmp sep matches make id new
        (first_key (new.open_pairs ++ (next, []) ∷ [])) (written ++ bytes) pairs
        × (pairs ≢ [] → cmp (last_added pairs) next ≡ Less)

  -- a pair was added: some bytes were put, and the builder has put these after what it had put
  -- before
  pub record AddsPair (old new : List ℕ → List Pair → Type 0) (from : S) (pair : Pair)
      (to : S) : Type 0 where
    pub bytes : List ℕ
    pub put : PutsAll puts from bytes to
    pub begun : (written : List ℕ) (pairs : List Pair) → old written pairs
        → new (written ++ bytes) (pairs ++ pair ∷ [])

  -- the table was finished: the last bytes were put and then the sink was flushed
  pub record FinishesTable (flushes : S → Result (Unit {0}) Status → S → Type 0)
      (old table : List ℕ → List Pair → Type 0) (from : S) (size : ℕ) (to : S) : Type 0 where
    pub bytes : List ℕ
    pub mid : S
    pub put : PutsAll puts from bytes mid
    pub flushed : flushes mid (Ok tt) to
    pub made : (written : List ℕ) (pairs : List Pair) → old written pairs
        → table (written ++ bytes) pairs × (size ≡ length (written ++ bytes))

  -- the open block was put, or it was empty: the file so far is laid out, and this key is after
  -- all blocks
  pub record ClosesLast {FP : Type 0} (old : List ℕ → List Pair → Type 0)
      (Decodes : ℕ → List ℕ → List ℕ → Type 0)
      (accepts : List ℕ → Bool) (cmp : List ℕ → List ℕ → Ordering) (sep : List ℕ → List ℕ → List ℕ)
      (succ : List ℕ → List ℕ) (matches : List ℕ → List ℕ → Bool) (make : List (List ℕ) → List ℕ)
      (id : ℕ) (new : Stage FP) (from to : S) : Type 0 where
    pub next : List ℕ
    pub bytes : List ℕ
    pub put : PutsAll puts from bytes to
    pub laid : (written : List ℕ) (pairs : List Pair) → old written pairs
        → IsLaidOut Decodes accepts cmp sep matches make id new next (written ++ bytes) pairs
        × IsLast accepts cmp succ new next pairs

  -- what follows the data blocks was put, each block with its trailer in one put and the footer in
  -- one, and then the sink was flushed
  pub record PutsEnd {FP : Type 0} (flushes : S → Result (Unit {0}) Status → S → Type 0)
      (Decodes : ℕ → List ℕ → List ℕ → Type 0)
      (cmp : List ℕ → List ℕ → Ordering) (make : List (List ℕ) → List ℕ) (id : ℕ) (name : List ℕ)
      (stage : Stage FP) (from : S) (size : ℕ) (to : S) : Type 0 where
    pub bytes : List ℕ
    pub mid : S
    pub ended : IsEnd Decodes cmp make id name stage bytes size
    pub put : PutsEach puts from (with_trailer 0 ended.filters
        ∷ with_trailer id ended.meta_stored ∷ with_trailer id ended.index_stored
        ∷ footer_bytes ended.meta ended.index ∷ []) mid
    pub flushed : flushes mid (Ok tt) to
