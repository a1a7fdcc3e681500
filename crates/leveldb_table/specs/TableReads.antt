-- What a reader of an open table is to its callers, and what calls that read a table by one say.
use Rattle.std.specs.Prelude.{◌≡◌, ℕ, Bool, true, List, Option, None, Result, OnOk, OnErr, IfOk}
use Rattle.std.specs.declared.cmp.Ordering.{Ordering}
use Rattle.leveldb_base.specs.BlockHandle.{Handle}
use Rattle.leveldb_base.specs.Types.{Pair, next_position, previous_position, seek_position, position_within, last_position}
use Rattle.leveldb_base.specs.declared.cmp.Cmp.{Ghosts as CmpGhosts}
use Rattle.leveldb_base.specs.declared.error.Status.{Status}
use Rattle.leveldb_env.specs.declared.compressor.CompressorList.{CompressorList}
use Rattle.leveldb_env.specs.declared.env.Env.{Ghosts as EnvGhosts}
use Rattle.leveldb_env.specs.Compressor.{Codings, Decodes}
use Rattle.leveldb_table.specs.Block.{BlockRead, HasEntries}
use Rattle.leveldb_table.specs.BlockCache.{HoldsOnlyOf}
use Rattle.leveldb_table.specs.BlockWalk.{position_over}
use Rattle.leveldb_table.specs.Table.{Part, HasBlockAt}
use Rattle.leveldb_table.specs.TableBlock.{LacksBlock, LacksLine, ForBytesOf, IsLackError, ReadsFile}
use Rattle.leveldb_table.specs.TableReader.{OpenTable, pairs_in, may_contain, GainsBlocksOf}
use Rattle.leveldb_table.specs.TableReaderBlocks.{IsBlockAt, IsBlockOf, line_of, IsAfterLine, IsBeforeBlock, IsKeyPosition, IsLetPosition, MovesFromLine}
use Rattle.leveldb_table.specs.TableReaderMoves.{LooksUp, Forward, Backward, ToFirst, ToLast, ToNextBlock, ToPreviousBlock, ToKey, ToKeyIfLet}
use Rattle.leveldb_table.specs.TableReaderSteps.{StepTo, StepsInTable}
use Rattle.leveldb_table.specs.TableReaderWalk.{MovesInTable, TablePlace, inner_block, inner_position}
use Rattle.leveldb_table.specs.declared.table_reader.reader.TableReader.{TableReader}

-- X is the type of what compressors own in boxes, and Y what holds of such a box.
module _ {E C FP F X : Type 0} {Y : X → Type 0} where
  -- A reader borrows what it did: only what the environment and the cache are may have changed.
  pub record IsSameReader (old new : TableReader E C FP F X Y) : Type 0 where
    -- the table and the compressors are those
    pub table : new.table.now ≡ old.table.now
    pub compressors : new.compressors.now ≡ old.compressors.now
    -- the environment and the cache are borrowed by the same borrows
    pub env : new.env.ghost_name ≡ old.env.ghost_name
    pub cache : new.cache.ghost_name ≡ old.cache.ghost_name

module _ {E C FP F X : Type 0} {Y : X → Type 0} (order : CmpGhosts C) (env : EnvGhosts E F)
    (codings : CompressorList X Y → Codings) where
  -- which coding each id has
  abbrev pub codings_in : TableReader E C FP F X Y → Codings
  codings_in reader = codings reader.compressors.now

  -- the order of the table's keys
  abbrev pub order_in : TableReader E C FP F X Y → List ℕ → List ℕ → Ordering
  order_in reader = order.cmp reader.table.now.cmp

  -- The call reads the table's file. It fails for no more than a cause of reading, or since the
  -- file lacks something, as the status says, and leaves the disk as it is.
  abbrev pub ReadsTable : {T : Type 0} → (List ℕ → Status → Type 0) → TableReader E C FP F X Y
      → Result T Status → TableReader E C FP F X Y → Type 0
  ReadsTable Lacks old result new =
      ReadsFile env (IsLackError env (codings_in old) Lacks old.env.now old.table.now.file)
      old.env.now new.env.now result

  -- what is so of the bytes of the table's file, if the cache holds only the file's blocks under
  -- the table's number
  abbrev pub ForBytesIn : TableReader E C FP F X Y → (List ℕ → Type 0) → Type 0
  ForBytesIn old Holds =
      ForBytesOf env old.env.now old.table.now.file (λ bytes.
      HoldsOnlyOf order (codings_in old) (order_in old) old.table.now.id bytes old.cache.now
      → Holds bytes)

  -- the cache gains blocks of the table's file alone
  abbrev pub GainsOnly : (old new : TableReader E C FP F X Y) → Type 0
  GainsOnly old new =
      GainsBlocksOf order env (codings_in old) old.table.now old.env.now old.cache.now new.cache.now

  -- What reading the block at a handle says.
  pub record ReadsBlock (handle : Handle) (old : TableReader E C FP F X Y)
      (result : Result (BlockRead C) Status) (new : TableReader E C FP F X Y) : Type 0 where
    -- it fails also since the file has no block there
    pub reads : ReadsTable
        (λ bytes. LacksBlock (codings_in old) (order_in old) bytes handle) old result new
    -- it is the block that the file has there
    pub ok : IfOk result (λ block. ForBytesIn old (λ bytes.
        HasBlockAt (Decodes (codings_in old)) bytes handle block.contents
        × (order.cmp block.cmp ≡ order_in old)))
    -- and has entries
    pub encoded : IfOk result
        (λ block. HasEntries (order.cmp block.cmp) block.contents block.entries)
    pub gathers : GainsOnly old new
    pub same : IsSameReader old new

  -- What a walk says that goes into a block, to no position of it.
  pub record LoadsBlock {T : Type 0}
      (Lacks : Codings → (List ℕ → List ℕ → Ordering) → List ℕ → Status → Type 0)
      (Is : Codings → (List ℕ → List ℕ → Ordering) → List ℕ → Option (BlockRead C) → Type 0)
      (old : TableReader E C FP F X Y) (from : TablePlace C) (result : Result T Status)
      (new : TableReader E C FP F X Y) (at : TablePlace C) : Type 0 where
    -- it fails also since the file lacks the block so
    pub reads : ReadsTable (Lacks (codings_in old) (order_in old)) old result new
    -- it is in this block of the file
    pub block : OnOk result (ForBytesIn old
        (λ bytes. Is (codings_in old) (order_in old) bytes (inner_block at.inner)))
    pub position : OnOk result (inner_position at.inner ≡ None)
    -- an error leaves it where it is
    pub err : OnErr result (at.inner ≡ from.inner)
    -- the line of the index stays
    pub index : at.index ≡ from.index
    pub gathers : GainsOnly old new
    pub same : IsSameReader old new

  -- what it says that goes into the block at a handle
  abbrev pub LoadsHandle : {T : Type 0} → Handle → TableReader E C FP F X Y → TablePlace C
      → Result T Status → TableReader E C FP F X Y → TablePlace C → Type 0
  LoadsHandle handle =
      LoadsBlock (λ codings cmp bytes. LacksBlock codings cmp bytes handle)
      (λ codings cmp bytes. IsBlockAt order codings cmp bytes handle)

  -- what it says that goes into the block that the line of the index names
  abbrev pub LoadsLine : {T : Type 0} → TableReader E C FP F X Y → TablePlace C
      → Result T Status → TableReader E C FP F X Y → TablePlace C → Type 0
  LoadsLine old from =
      LoadsBlock (λ codings cmp bytes. LacksLine codings cmp bytes (line_of from))
      (λ codings cmp bytes. IsBlockOf order codings cmp bytes (line_of from)) old from

  -- What a look-up of a key in the table says.
  abbrev pub LooksUpBy : (FP → List ℕ → List ℕ → Bool) → List ℕ → TableReader E C FP F X Y
      → Result (Option Pair) Status → TableReader E C FP F X Y → Type 0
  LooksUpBy matches key old result new =
      LooksUp order env (codings_in old) matches old.table.now key old.env.now old.cache.now result
      new.env.now new.cache.now

  -- What a move from block to block says, whatever the file is.
  abbrev pub StepsOver : StepTo C → TableReader E C FP F X Y → TablePlace C → Result Bool Status
      → TableReader E C FP F X Y → TablePlace C → Type 0
  StepsOver Step old from result new at =
      StepsInTable order env (codings_in old) (order_in old) old.table.now.id old.table.now.file
      Step old.env.now old.cache.now from result new.env.now new.cache.now at

-- ---- the moves of a walk

module _ {E C FP F X T : Type 0} {Y : X → Type 0} (order : CmpGhosts C) (env : EnvGhosts E F)
    (codings : CompressorList X Y → Codings) where
  -- a move over the table's file, which leads to a position and is this step
  abbrev MovesOver : (OpenTable C FP F → List Part → Type 0)
      → (OpenTable C FP F → List Pair → Option ℕ → Option ℕ) → StepTo C
      → TableReader E C FP F X Y → TablePlace C → Result T Status
      → TableReader E C FP F X Y → TablePlace C → Type 0
  MovesOver Fit to Step old from result new at =
      MovesInTable order env (codings_in order env codings old)
      (order.accepts old.table.now.cmp) (order.cmp old.table.now.cmp) old.table.now.id
      old.table.now.file (Fit old.table.now) (to old.table.now) Step old.env.now old.cache.now from
      result new.env.now new.cache.now at

  -- to the next pair
  abbrev pub Advances : TableReader E C FP F X Y → TablePlace C → Result T Status
      → TableReader E C FP F X Y → TablePlace C → Type 0
  Advances = MovesOver (λ _ _. Unit {0}) (λ _. next_position) Forward

  -- to the pair before
  abbrev pub StepsBack : TableReader E C FP F X Y → TablePlace C → Result T Status
      → TableReader E C FP F X Y → TablePlace C → Type 0
  StepsBack = MovesOver (λ _ _. Unit {0}) (λ _ _. previous_position) Backward

  -- to the first pair at or after a key, which is accepted
  abbrev pub SeeksKey : List ℕ → TableReader E C FP F X Y → TablePlace C → Result T Status
      → TableReader E C FP F X Y → TablePlace C → Type 0
  SeeksKey key =
      MovesOver (λ table _. order.accepts table.cmp key ≡ true)
      (λ table pairs _. seek_position (order.cmp table.cmp) pairs key) (ToKey order key)

  -- to the first pair
  abbrev pub SeeksFirst : TableReader E C FP F X Y → TablePlace C → Result T Status
      → TableReader E C FP F X Y → TablePlace C → Type 0
  SeeksFirst = MovesOver (λ _ _. Unit {0}) (λ _ pairs _. position_within pairs 0) ToFirst

  -- to the last pair
  abbrev pub SeeksLast : TableReader E C FP F X Y → TablePlace C → Result T Status
      → TableReader E C FP F X Y → TablePlace C → Type 0
  SeeksLast = MovesOver (λ _ _. Unit {0}) (λ _ pairs _. last_position pairs) ToLast

  -- such a move from the line of the index where the walk is, to a position that is fit for that
  abbrev MovesOverFromLine : (OpenTable C FP F → TablePlace C → List Part → Option ℕ → Type 0)
      → StepTo C → TableReader E C FP F X Y → TablePlace C → Result T Status
      → TableReader E C FP F X Y → TablePlace C → Type 0
  MovesOverFromLine Fit Step old from result new at =
      MovesFromLine order env (codings_in order env codings old)
      (order.accepts old.table.now.cmp) (order.cmp old.table.now.cmp) old.table.now.id
      old.table.now.file (Fit old.table.now from) Step old.env.now old.cache.now from result
      new.env.now new.cache.now at

  -- to the first pair of the next block
  abbrev pub EntersNextBlock : TableReader E C FP F X Y → TablePlace C → Result T Status
      → TableReader E C FP F X Y → TablePlace C → Type 0
  EntersNextBlock =
      MovesOverFromLine
      (λ _ from parts position. IsAfterLine parts (position_over from.index) position) ToNextBlock

  -- to the last pair of the block before
  abbrev pub EntersBlockBefore : TableReader E C FP F X Y → TablePlace C → Result T Status
      → TableReader E C FP F X Y → TablePlace C → Type 0
  EntersBlockBefore =
      MovesOverFromLine
      (λ _ from parts position. IsBeforeBlock parts (position_over from.index) position)
      ToPreviousBlock

  -- to the last pair of the last block
  abbrev pub EntersLastBlock : TableReader E C FP F X Y → TablePlace C → Result T Status
      → TableReader E C FP F X Y → TablePlace C → Type 0
  EntersLastBlock =
      MovesOverFromLine (λ _ _ parts position. position ≡ last_position (pairs_in parts)) ToLast

  -- to the first pair at or after a key, which is accepted
  abbrev pub EntersForKey : List ℕ → TableReader E C FP F X Y → TablePlace C → Result T Status
      → TableReader E C FP F X Y → TablePlace C → Type 0
  EntersForKey key =
      MovesOverFromLine
      (λ table _. IsKeyPosition (order.accepts table.cmp) (order.cmp table.cmp) key)
      (ToKey order key)

  -- to the first pair at or after a key, where the filters let it pass
  abbrev pub EntersIfLet : (FP → List ℕ → List ℕ → Bool) → List ℕ → TableReader E C FP F X Y
      → TablePlace C → Result T Status → TableReader E C FP F X Y → TablePlace C → Type 0
  EntersIfLet matches key old =
      MovesOverFromLine (λ table _. IsLetPosition (order.accepts table.cmp) (order.cmp table.cmp)
      (may_contain matches table) key)
      (ToKeyIfLet order (may_contain matches old.table.now) key) old
