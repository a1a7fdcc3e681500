-- Readers of open tables from one call to the next.
use Rattle.std.proofs.Common.{◌≡◌, ◌∙◌, ℕ, Bool, List, None, Option, Result, inl, subst}
use Rattle.std.specs.Prelude.{IsErrAnd}
use Rattle.std.specs.declared.cmp.Ordering.{Ordering}
use Rattle.leveldb_base.specs.Error.{IsOutOfMemory}
use Rattle.leveldb_base.specs.declared.cmp.Cmp.{Ghosts as CmpGhosts}
use Rattle.leveldb_base.specs.declared.error.Status.{Status}
use Rattle.leveldb_env.specs.Compressor.{Codings}
use Rattle.leveldb_env.specs.declared.compressor.CompressorList.{CompressorList}
use Rattle.leveldb_env.specs.declared.env.Env.{Ghosts as EnvGhosts}
use Rattle.leveldb_table.specs.BlockCache.{GainsBlocks, IsBlockOfFile}
use Rattle.leveldb_table.specs.BlockWalk.{pairs_over, position_over}
use Rattle.leveldb_table.specs.Cache.{Cached}
use Rattle.leveldb_table.specs.Table.{Part}
use Rattle.leveldb_table.specs.TableBlock.{ForBytesOf, KeepsDisk}
use Rattle.leveldb_table.specs.TableReaderBlocks.{IsAfterLine, MovesFromLine}
use Rattle.leveldb_table.specs.TableReaderMoves.{ToNextBlock}
use Rattle.leveldb_table.specs.TableReaderSteps.{StepTo}
use Rattle.leveldb_table.specs.TableReaderWalk.{TablePlace, inner_position}
use Rattle.leveldb_table.specs.TableReads.{EntersNextBlock, IsSameReader}
use Rattle.leveldb_table.specs.declared.block_cache.CachedBlock.{CachedBlock}
use Rattle.leveldb_table.specs.declared.table_reader.reader.TableReader.{TableReader}
use Rattle.leveldb_table.proofs.TableBlockLemmas.{reads_passed}
use Rattle.leveldb_table.proofs.TableReaderWalkLemmas.{err_holds, ok_refused}

module _ {E C FP F X : Type 0} {Y : X → Type 0} where
  -- one call after another
  pub IsSameReader-trans : {old mid new : TableReader E C FP F X Y} → IsSameReader old mid → IsSameReader mid new → IsSameReader old new
  IsSameReader-trans first second = record {
    table = second.table ∙ first.table;
    compressors = second.compressors ∙ first.compressors;
    env = second.env ∙ first.env;
    cache = second.cache ∙ first.cache;
  }

  -- a move into the next block is one over the table that the reader had before
  pub enters_same : {T : Type 0} (order : CmpGhosts C) (env : EnvGhosts E F) (codings : CompressorList X Y → Codings) (old mid new : TableReader E C FP F X Y) (from at : TablePlace C) (result : Result T Status)
      → IsSameReader old mid → EntersNextBlock order env codings mid from result new at
      → MovesFromLine order env (codings old.compressors.now) (order.accepts old.table.now.cmp) (order.cmp old.table.now.cmp) old.table.now.id old.table.now.file
      (λ parts position. IsAfterLine parts (position_over from.index) position) ToNextBlock mid.env.now mid.cache.now from result new.env.now new.cache.now at
  enters_same order env codings old mid new from at result same enters =
      subst (λ t. MovesFromLine order env (codings old.compressors.now) (order.accepts t.cmp) (order.cmp t.cmp) t.id t.file (λ parts position. IsAfterLine parts (position_over from.index) position) ToNextBlock mid.env.now mid.cache.now from result new.env.now new.cache.now at) same.table
      (subst (λ k. MovesFromLine order env (codings k) (order.accepts mid.table.now.cmp) (order.cmp mid.table.now.cmp) mid.table.now.id mid.table.now.file (λ parts position. IsAfterLine parts (position_over from.index) position) ToNextBlock mid.env.now mid.cache.now from result new.env.now new.cache.now at) same.compressors enters)

-- a walk that stops out of memory, at no pair
module _ {E F C : Type 0} {order : CmpGhosts C} {env : EnvGhosts E F} {codings : Codings} {accepts : List ℕ → Bool} {cmp : List ℕ → List ℕ → Ordering} {id : ℕ} {file : F} {Fit : List Part → Option ℕ → Type 0} {Step : StepTo C} {old_env new_env : E} {old_cache new_cache : Cached (CachedBlock C)} where
  pub enters_memory : {T : Type 0} {status : Status} (old new : TablePlace C) (result : Result T Status) → IsErrAnd result (λ other. other ≡ status) → IsOutOfMemory status → KeepsDisk env old_env new_env → env.failures new_env ≡ env.failures old_env
      → GainsBlocks id (λ offset held. ForBytesOf env old_env file (λ bytes. IsBlockOfFile order codings cmp bytes offset held)) old_cache new_cache → pairs_over new.index ≡ pairs_over old.index → new.index.block.cmp ≡ old.index.block.cmp → inner_position new.inner ≡ None
      → MovesFromLine order env codings accepts cmp id file Fit Step old_env old_cache old result new_env new_cache new
  enters_memory old new result refused memory kept counted gathers lines same none = record {
    reads = reads_passed env result kept counted refused (inl memory);
    ok = λ bytes has parts position right fit holds is. ok_refused _ _ result refused;
    steps = λ bytes has holds. ok_refused _ _ result refused;
    err = err_holds result none;
    gathers = gathers;
    same_lines = lines;
    same_order = same;
  }
