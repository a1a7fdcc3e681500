-- What a step of a walk over a table comes to, whatever its file is: a position, or an error. From
-- block to block it goes by the lines of the index, in order, and passes over none; it fails where
-- a block on its way is lacking, or is empty where it moves to its first or last pair, and for no
-- other block.
use Rattle.std.specs.Prelude.{◌≡◌, ◌≢◌, ◌⊎◌, ◌+◌, ℕ, Bool, true, false, List, [], map, Option, None, Some, Result, Ok, Err, IfOk, IsOkAnd}
use Rattle.std.specs.declared.cmp.Ordering.{Ordering}
use Rattle.leveldb_base.specs.BlockHandle.{Handle, HandleFits}
use Rattle.leveldb_base.specs.Types.{Pair, position_within, next_position, previous_position, seek_position, pair_at, last_position}
use Rattle.leveldb_base.specs.declared.cmp.Cmp.{Ghosts as CmpGhosts}
use Rattle.leveldb_base.specs.declared.error.Status.{Status}
use Rattle.leveldb_base.specs.declared.error.StatusCode.TheVariants.{Corruption}
use Rattle.leveldb_env.specs.declared.env.Env.{Ghosts as EnvGhosts}
use Rattle.leveldb_env.specs.Compressor.{Codings}
use Rattle.leveldb_table.specs.Block.{IsBlock}
use Rattle.leveldb_table.specs.BlockWalk.{pair_with, pairs_over, position_over}
use Rattle.leveldb_table.specs.Cache.{Cached}
use Rattle.leveldb_table.specs.BlockCache.{HoldsOnlyOf}
use Rattle.leveldb_table.specs.Table.{Part, index_pair}
use Rattle.leveldb_table.specs.TableReader.{OpenTable, lines_of, may_contain, HasParts, found_in, GainsBlocksOf}
use Rattle.leveldb_table.specs.TableBlock.{IsNamedBy, NamesNone, LacksLine, ForBytesOf, IsLackError, ReadsFile}
use Rattle.leveldb_table.specs.TableReaderWalk.{TablePlace, TablePosition, Outcome, IsNamed, inner_position, table_position}
use Rattle.leveldb_table.specs.declared.block_cache.CachedBlock.{CachedBlock}

-- it comes to no line, and to no pair
abbrev pub IsNowhere : Outcome → Type 0
IsNowhere out = IsOkAnd out (λ new. (new.line ≡ None) × (new.inner ≡ None))

-- it comes to this position of the same block, or where that is none, elsewhere
abbrev pub InsideOr : Option ℕ → TablePosition → Outcome → Type 0 → Type 0
InsideOr None old out Else = Else
InsideOr (Some i) old out Else = out ≡ Ok (record old { inner = Some i })

-- By the lines of an index, for a file of these bytes, with keys in this order.
module _ (codings : Codings) (cmp : List ℕ → List ℕ → Ordering) (bytes : List ℕ)
    (lines : List Pair) where
  -- the line of this number names a handle, and there the file has a block of these pairs
  pub record HasLine (line : ℕ) (pairs : List Pair) : Type 0 where
    pub text : List ℕ
    pub named : IsNamed codings bytes (pair_at lines (Some line)) text
    pub block : IsBlock cmp text pairs

  -- it is at this line, whose block isn't empty, and at this position of the block's pairs
  pub record IsInBlock (to : List Pair → Option ℕ) (line : ℕ) (new : TablePosition) : Type 0 where
    pub at_line : new.line ≡ Some line
    pub block : HasLine line new.pairs
    pub some : new.pairs ≢ []
    pub position : new.inner ≡ to new.pairs

  -- the line's block is lacking, or it is empty
  abbrev pub LacksPairs : ℕ → Status → Type 0
  LacksPairs line status =
      LacksLine codings cmp bytes (pair_at lines (Some line)) status
      ⊎ (HasLine line [] × (status.code ≡ Corruption))

  -- it comes into this line's block, or fails since that has no pairs; and nowhere without a line
  abbrev pub ToBlock : (List Pair → Option ℕ) → Option ℕ → Outcome → Type 0
  ToBlock to None out = IsNowhere out
  ToBlock to (Some line) (Ok new) = IsInBlock to line new
  ToBlock to (Some line) (Err status) = LacksPairs line status

  -- to the first pair of this line's block, and to its last
  abbrev pub ToFirstPair : Option ℕ → Outcome → Type 0
  ToFirstPair line out = ToBlock (λ pairs. position_within pairs 0) line out

  -- to the last pair of a line's block
  abbrev pub ToLastPair : Option ℕ → Outcome → Type 0
  ToLastPair line out = ToBlock last_position line out

  -- From a pair to the next of its block, and from its last to the first pair of the next line's
  -- block; from no position to that of the first line's.
  abbrev pub ToNextPair : Option ℕ → TablePosition → Outcome → Type 0
  ToNextPair None old out = ToFirstPair (position_within lines 0) out
  ToNextPair (Some i) old out =
      InsideOr (position_within old.pairs (i + 1)) old out
      (ToFirstPair (next_position lines old.line) out)

  -- From a pair to the one before it in its block, and from its first to the last pair of the
  -- block of the line before; from no position it stays.
  abbrev pub ToPreviousPair : Option ℕ → TablePosition → Outcome → Type 0
  ToPreviousPair None old out = out ≡ Ok old
  ToPreviousPair (Some i) old out =
      InsideOr (previous_position (Some i)) old out (ToLastPair (previous_position old.line) out)

  -- to the first pair at or after the key in this line's block, and where that has none, to the
  -- first pair of the next line's
  pub record ToKeyInBlock (key : List ℕ) (line : ℕ) (out : Outcome) : Type 0 where
    pub pairs : List Pair
    pub block : HasLine line pairs
    pub outcome : InsideOr (seek_position cmp pairs key)
        (record { line = Some line; pairs = pairs; inner = None }) out
        (ToFirstPair (next_position lines (Some line)) out)

  -- Without a line it comes nowhere. Else it seeks in the line's block, or fails since that is
  -- lacking.
  abbrev pub ToKeyByLine : List ℕ → Option ℕ → Outcome → Type 0
  ToKeyByLine key None out = IsNowhere out
  ToKeyByLine key (Some line) (Ok new) = ToKeyInBlock key line (Ok new)
  ToKeyByLine key (Some line) (Err status) =
      LacksLine codings cmp bytes (pair_at lines (Some line)) status
      ⊎ ToKeyInBlock key line (Err status)

  -- it seeks where the key is let pass, and comes to no pair where it isn't
  abbrev pub ToKeyByLineIfLet : Bool → List ℕ → ℕ → Outcome → Type 0
  ToKeyByLineIfLet true key line out = ToKeyByLine key (Some line) out
  ToKeyByLineIfLet false key line out = IsOkAnd out (λ new. new.inner ≡ None)

  -- The line names a handle, and it goes as the filters let the key pass there.
  pub record LookUpByLine (may_contain : ℕ → List ℕ → Bool) (key : List ℕ) (line : ℕ)
      (out : Outcome) : Type 0 where
    pub handle : Handle
    pub fits : HandleFits handle
    pub names : IsNamedBy (pair_at lines (Some line)) handle
    pub outcome : ToKeyByLineIfLet (may_contain handle.offset key) key line out

  -- Without a line it comes nowhere. Else it goes as the filters let it, or fails since the line
  -- names no handle.
  abbrev pub LookUpFromLine : (ℕ → List ℕ → Bool) → List ℕ → Option ℕ → Outcome → Type 0
  LookUpFromLine may_contain key None out = IsNowhere out
  LookUpFromLine may_contain key (Some line) (Ok new) = LookUpByLine may_contain key line (Ok new)
  LookUpFromLine may_contain key (Some line) (Err status) =
      (NamesNone (pair_at lines (Some line)) × (status.code ≡ Corruption))
      ⊎ LookUpByLine may_contain key line (Err status)

module _ {C FP F : Type 0} (order : CmpGhosts C) where
  -- what a look-up of a key in an open table comes to
  abbrev pub LookUpInTable : Codings → (FP → List ℕ → List ℕ → Bool) → OpenTable C FP F
      → List ℕ → List ℕ → Outcome → Type 0
  LookUpInTable codings matches table key bytes out =
      LookUpFromLine codings (order.cmp table.cmp) bytes (lines_of table)
      (may_contain matches table) key
      (seek_position (order.cmp table.index.cmp) (lines_of table) key) out

  -- What it finds: the pair at the position to which it comes, if that is one.
  pub record FindsPair (codings : Codings) (matches : FP → List ℕ → List ℕ → Bool)
      (table : OpenTable C FP F) (key bytes : List ℕ) (found : Option Pair) : Type 0 where
    pub position : TablePosition
    pub look_up : LookUpInTable codings matches table key bytes (Ok position)
    pub is : found ≡ pair_at position.pairs position.inner

-- what a look-up found that returns a value and leaves its key
abbrev pub found_with : List ℕ → Result (Option (List ℕ)) Status → Result (Option Pair) Status
found_with key (Ok value) = Ok (pair_with key value)
found_with key (Err status) = Err status

module _ {E C FP F : Type 0} (order : CmpGhosts C) where
  -- What a look-up of a key in an open table says, whatever its file is.
  pub record LooksUp (env : EnvGhosts E F) (codings : Codings)
      (matches : FP → List ℕ → List ℕ → Bool) (table : OpenTable C FP F) (key : List ℕ)
      (old_env : E) (old_cache : Cached (CachedBlock C))
      (result : Result (Option Pair) Status)
      (new_env : E) (new_cache : Cached (CachedBlock C)) : Type 0 where
    -- it fails out of memory, at a failure of the device, or since a block on its way is lacking;
    -- for none where the file has data blocks that are those of the index
    pub reads : ReadsFile env (IsLackError env codings (λ bytes status.
        ((parts : List Part) → lines_of table ≡ map index_pair parts
        → order.cmp table.index.cmp ≡ order.cmp table.cmp
        → HasParts codings (order.accepts table.cmp) (order.cmp table.cmp) bytes parts
        → order.accepts table.cmp key ≡ true
        → HoldsOnlyOf order codings (order.cmp table.cmp) table.id bytes old_cache → ⊥)
        × (HoldsOnlyOf order codings (order.cmp table.cmp) table.id bytes old_cache
        → LookUpInTable order codings matches table key bytes (Err status))) old_env table.file)
        old_env new_env result
    -- where the file has such data blocks, it finds the first pair of theirs at or after the key,
    -- but none where the filters rule the key out
    pub ok : ForBytesOf env old_env table.file (λ bytes. (parts : List Part)
        → lines_of table ≡ map index_pair parts
        → order.cmp table.index.cmp ≡ order.cmp table.cmp
        → HasParts codings (order.accepts table.cmp) (order.cmp table.cmp) bytes parts
        → order.accepts table.cmp key ≡ true
        → HoldsOnlyOf order codings (order.cmp table.cmp) table.id bytes old_cache
        → IfOk result (λ found. found ≡ found_in (order.cmp table.cmp)
        (may_contain matches table) key parts))
    -- in each file it finds what the block of the key's line says, or that of the next line
    pub finds : ForBytesOf env old_env table.file (λ bytes.
        HoldsOnlyOf order codings (order.cmp table.cmp) table.id bytes old_cache
        → IfOk result (FindsPair order codings matches table key bytes))
    -- the cache gains blocks of this file alone
    pub gathers : GainsBlocksOf order env codings table old_env old_cache new_cache

-- ---- the moves of a walk

module _ {C : Type 0} where
  -- to the next pair, and to the one before
  abbrev pub Forward : Codings → (List ℕ → List ℕ → Ordering) → List ℕ → TablePlace C
      → Outcome → Type 0
  Forward codings cmp bytes old out =
      ToNextPair codings cmp bytes (pairs_over old.index) (inner_position old.inner)
      (table_position old) out

  -- from where the iterator is to the pair before
  abbrev pub Backward : Codings → (List ℕ → List ℕ → Ordering) → List ℕ → TablePlace C
      → Outcome → Type 0
  Backward codings cmp bytes old out =
      ToPreviousPair codings cmp bytes (pairs_over old.index) (inner_position old.inner)
      (table_position old) out

  -- to the first pair of the first block
  abbrev pub ToFirst : Codings → (List ℕ → List ℕ → Ordering) → List ℕ → TablePlace C
      → Outcome → Type 0
  ToFirst codings cmp bytes old out =
      ToFirstPair codings cmp bytes (pairs_over old.index)
      (position_within (pairs_over old.index) 0) out

  -- to the last pair of the last block
  abbrev pub ToLast : Codings → (List ℕ → List ℕ → Ordering) → List ℕ → TablePlace C
      → Outcome → Type 0
  ToLast codings cmp bytes old out =
      ToLastPair codings cmp bytes (pairs_over old.index) (last_position (pairs_over old.index)) out

  -- to the first pair of the next line's block, and to the last of that of the line before
  abbrev pub ToNextBlock : Codings → (List ℕ → List ℕ → Ordering) → List ℕ → TablePlace C
      → Outcome → Type 0
  ToNextBlock codings cmp bytes old out =
      ToFirstPair codings cmp bytes (pairs_over old.index)
      (next_position (pairs_over old.index) (position_over old.index)) out

  -- to the last pair of the block of the line before the index's
  abbrev pub ToPreviousBlock : Codings → (List ℕ → List ℕ → Ordering) → List ℕ → TablePlace C
      → Outcome → Type 0
  ToPreviousBlock codings cmp bytes old out =
      ToLastPair codings cmp bytes (pairs_over old.index)
      (previous_position (position_over old.index)) out

module _ {C : Type 0} (order : CmpGhosts C) where
  -- the line of its index for a key
  abbrev pub line_for : List ℕ → TablePlace C → Option ℕ
  line_for key core = seek_position (order.cmp core.index.block.cmp) (pairs_over core.index) key

  -- to the first pair at or after a key by the line that the index has for it, and the same where
  -- the filters let the key pass
  abbrev pub ToKey : List ℕ → Codings → (List ℕ → List ℕ → Ordering) → List ℕ → TablePlace C
      → Outcome → Type 0
  ToKey key codings cmp bytes old out =
      ToKeyByLine codings cmp bytes (pairs_over old.index) key (line_for key old) out

  -- as ToKey, where the filters let the key pass
  abbrev pub ToKeyIfLet : (ℕ → List ℕ → Bool) → List ℕ → Codings → (List ℕ → List ℕ → Ordering)
      → List ℕ → TablePlace C → Outcome → Type 0
  ToKeyIfLet may_contain key codings cmp bytes old out =
      LookUpFromLine codings cmp bytes (pairs_over old.index) may_contain key (line_for key old) out
