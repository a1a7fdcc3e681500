-- Moves of a walk over a table that may leave the block where it is, whatever its file is.
use Rattle.std.specs.Prelude.{◌≡◌, ℕ, Bool, List, None, Result, Ok, Err, OnOk, OnErr, IfOk, is_some}
use Rattle.std.specs.declared.cmp.Ordering.{Ordering}
use Rattle.leveldb_base.specs.declared.cmp.Cmp.{Ghosts as CmpGhosts}
use Rattle.leveldb_base.specs.declared.error.Status.{Status}
use Rattle.leveldb_env.specs.declared.env.Env.{Ghosts as EnvGhosts}
use Rattle.leveldb_env.specs.Compressor.{Codings}
use Rattle.leveldb_table.specs.Cache.{Cached}
use Rattle.leveldb_table.specs.BlockCache.{HoldsOnlyOf, IsBlockOfFile, GainsBlocks}
use Rattle.leveldb_table.specs.TableBlock.{ForBytesOf, IsLackError, ReadsFile}
use Rattle.leveldb_table.specs.TableReaderMoves.{ToFirst, ToLast, ToNextBlock, ToPreviousBlock, ToKey}
use Rattle.leveldb_table.specs.BlockWalk.{pairs_over}
use Rattle.leveldb_table.specs.TableReaderWalk.{TablePlace, Outcome, inner_position, table_position}
use Rattle.leveldb_table.specs.declared.block_cache.CachedBlock.{CachedBlock}
use Rattle.leveldb_table.specs.declared.table_reader.walk.TableStep.{TableStep}
use Rattle.leveldb_table.specs.declared.table_reader.walk.TableStep.TheVariants.{First, Last, NextBlock, BlockBefore, Seek}

-- what a step from block to block comes to, by the lines of an index, for a file of these bytes
abbrev pub StepTo : Type 0 → Type 1
StepTo C = Codings → (List ℕ → List ℕ → Ordering) → List ℕ → TablePlace C
    → Outcome → Type 0

module _ {C : Type 0} (order : CmpGhosts C) where
  -- what this move is
  abbrev pub step_to : TableStep → StepTo C
  step_to First = ToFirst
  step_to Last = ToLast
  step_to NextBlock = ToNextBlock
  step_to BlockBefore = ToPreviousBlock
  step_to (Seek key) = ToKey order key.now

  -- Whatever the file is, the move is this step; or it fails, out of memory, at a failure of the
  -- device, or as the step says. After an Err the walk is at no pair. The index stays.
  pub record StepsInTable {E F : Type 0} (env : EnvGhosts E F) (codings : Codings)
      (cmp : List ℕ → List ℕ → Ordering) (id : ℕ) (file : F) (Step : StepTo C) (old_env : E)
      (old_cache : Cached (CachedBlock C)) (old : TablePlace C)
      (result : Result Bool Status) (new_env : E) (new_cache : Cached (CachedBlock C))
      (new : TablePlace C) : Type 0 where
    -- an error has a cause, and the disk stays as it is
    pub reads : ReadsFile env (IsLackError env codings (λ bytes status.
        HoldsOnlyOf order codings cmp id bytes old_cache → Step codings cmp bytes old (Err status))
        old_env file) old_env new_env result
    -- it is where the step leads
    pub steps : ForBytesOf env old_env file (λ bytes. HoldsOnlyOf order codings cmp id bytes
        old_cache → OnOk result (Step codings cmp bytes old (Ok (table_position new))))
    -- the result says whether it is at a pair
    pub there : IfOk result (λ there. there ≡ is_some (inner_position new.inner))
    -- after an error it is at none
    pub err : OnErr result (inner_position new.inner ≡ None)
    -- the cache gains blocks of the file alone
    pub gathers : GainsBlocks id (λ offset held. ForBytesOf env old_env file
        (λ bytes. IsBlockOfFile order codings cmp bytes offset held)) old_cache new_cache
    -- the index's lines stay
    pub same_lines : pairs_over new.index ≡ pairs_over old.index
    -- and so does its order
    pub same_order : new.index.block.cmp ≡ old.index.block.cmp
