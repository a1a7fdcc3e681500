use Rattle.std.proofs.Common.{◌≡◌, ℕ, Bool, List, Option, Result, Ok, Err}
use Rattle.std.specs.Prelude.{IfOk, IsErrAnd, is_some}
use Rattle.std.specs.declared.cmp.Ordering.{Ordering}
use Rattle.leveldb_base.specs.Types.{Pair}
use Rattle.leveldb_base.specs.declared.cmp.Cmp.{Ghosts as CmpGhosts}
use Rattle.leveldb_base.specs.declared.error.Status.{Status}
use Rattle.leveldb_env.specs.Compressor.{Codings}
use Rattle.leveldb_env.specs.declared.env.Env.{Ghosts as EnvGhosts}
use Rattle.leveldb_table.specs.Cache.{Cached}
use Rattle.leveldb_table.specs.Table.{Part}
use Rattle.leveldb_table.specs.TableReaderBlocks.{MovesFromLine}
use Rattle.leveldb_table.specs.TableReaderSteps.{StepTo, StepsInTable}
use Rattle.leveldb_table.specs.TableReaderWalk.{MovesInTable, TablePlace, inner_position}
use Rattle.leveldb_table.specs.declared.block_cache.CachedBlock.{CachedBlock}
use Rattle.leveldb_table.proofs.RefusalLemmas.{IfOk-refused}
use Rattle.leveldb_table.proofs.TableBlockLemmas.{reads_ok, reads_refused, reads_weaker}
use Rattle.leveldb_table.proofs.TableReaderWalkLemmas.{err_holds, ok_refused}
use Rattle.leveldb_table.proofs.table_reader.walk.TableCore.step.Goals as goal

module _ {E F C : Type 0} {order : CmpGhosts C} {env : EnvGhosts E F} {codings : Codings} {accepts : List ℕ → Bool} {cmp : List ℕ → List ℕ → Ordering} {id : ℕ} {file : F} {Step : StepTo C} {old_env new_env : E} {old_cache new_cache : Cached (CachedBlock C)} {old new : TablePlace C} where
  -- a move to a position is a step
  steps_moved : {T : Type 0} {Fit : List Part → Type 0} {to : List Pair → Option ℕ → Option ℕ} {answer : T} (there : Bool) → there ≡ is_some (inner_position new.inner)
      → MovesInTable order env codings accepts cmp id file Fit to Step old_env old_cache old (Ok answer) new_env new_cache new
      → StepsInTable order env codings cmp id file Step old_env old_cache old (Ok there) new_env new_cache new
  steps_moved there is moves = record {
    reads = reads_ok env moves.reads.kept_disk moves.reads.cause.ok;
    steps = moves.steps;
    there = is;
    err = tt;
    gathers = moves.gathers;
    same_lines = moves.same_lines;
    same_order = moves.same_order;
  }

  -- and so is one that fails
  steps_refused : {T : Type 0} {Fit : List Part → Type 0} {to : List Pair → Option ℕ → Option ℕ} {status : Status} (result : Result Bool Status) → IsErrAnd result (λ other. other ≡ status)
      → MovesInTable order {T = T} env codings accepts cmp id file Fit to Step old_env old_cache old (Err status) new_env new_cache new
      → StepsInTable order env codings cmp id file Step old_env old_cache old result new_env new_cache new
  steps_refused result same moves = record {
    reads = reads_weaker env result (λ status lacks. (lacks.0, λ bytes has. (lacks.1 bytes has).1)) (reads_refused env result same moves.reads);
    steps = λ bytes has holds. ok_refused _ _ result same;
    there = IfOk-refused _ _ result same;
    err = err_holds result moves.err;
    gathers = moves.gathers;
    same_lines = moves.same_lines;
    same_order = moves.same_order;
  }

  -- a move from a line is one too
  steps_entered : {Fit : List Part → Option ℕ → Type 0} (result : Result Bool Status) → IfOk result (λ there. there ≡ is_some (inner_position new.inner))
      → MovesFromLine order env codings accepts cmp id file Fit Step old_env old_cache old result new_env new_cache new
      → StepsInTable order env codings cmp id file Step old_env old_cache old result new_env new_cache new
  steps_entered result there enters = record {
    reads = reads_weaker env result (λ status lacks. (lacks.0, λ bytes has. (lacks.1 bytes has).1)) enters.reads;
    steps = enters.steps;
    there = there;
    err = enters.err;
    gathers = enters.gathers;
    same_lines = enters.same_lines;
    same_order = enters.same_order;
  }

pub returns-in_err-seek_to_first-in-First-clause-steps : goal.returns-in_err-seek_to_first-in-First-clause-steps
returns-in_err-seek_to_first-in-First-clause-steps g c =
    rw (c.in-First.is) (steps_refused c.from_residual.result c.from_residual.ensures.1 c.in_err-seek_to_first-in-First.ensures.moves)

pub returns-in_err-seek_to_first-in-First-clause-same : goal.returns-in_err-seek_to_first-in-First-clause-same
returns-in_err-seek_to_first-in-First-clause-same g c = c.in_err-seek_to_first-in-First.ensures.same

pub returns-in_err-seek_to_last-in-Last-clause-steps : goal.returns-in_err-seek_to_last-in-Last-clause-steps
returns-in_err-seek_to_last-in-Last-clause-steps g c =
    let result = c.from_residual-in_err-seek_to_last-in-Last.result in
    rw (c.in-Last.is) (steps_refused result c.from_residual-in_err-seek_to_last-in-Last.ensures.1 c.in_err-seek_to_last-in-Last.ensures.moves)

pub returns-in_err-seek_to_last-in-Last-clause-same : goal.returns-in_err-seek_to_last-in-Last-clause-same
returns-in_err-seek_to_last-in-Last-clause-same g c = c.in_err-seek_to_last-in-Last.ensures.same

pub returns-in_err-seek-in-Seek-clause-steps : goal.returns-in_err-seek-in-Seek-clause-steps
returns-in_err-seek-in-Seek-clause-steps g c =
    rw (c.in-Seek.is) (steps_refused c.from_residual-in_err-seek-in-Seek.result c.from_residual-in_err-seek-in-Seek.ensures.1 c.in_err-seek-in-Seek.ensures.moves)

pub returns-in_err-seek-in-Seek-clause-same : goal.returns-in_err-seek-in-Seek-clause-same
returns-in_err-seek-in-Seek-clause-same g c = c.in_err-seek-in-Seek.ensures.same

pub returns-in_ok-seek_to_first-in-First-clause-steps : goal.returns-in_ok-seek_to_first-in-First-clause-steps
returns-in_ok-seek_to_first-in-First-clause-steps g c = rw (c.in-First.is) (steps_moved c.valid.result c.valid.ensures c.in_ok-seek_to_first-in-First.ensures.moves)

pub returns-in_ok-seek_to_first-in-First-clause-same : goal.returns-in_ok-seek_to_first-in-First-clause-same
returns-in_ok-seek_to_first-in-First-clause-same g c = c.in_ok-seek_to_first-in-First.ensures.same

pub returns-in_ok-seek_to_last-in-Last-clause-steps : goal.returns-in_ok-seek_to_last-in-Last-clause-steps
returns-in_ok-seek_to_last-in-Last-clause-steps g c = rw (c.in-Last.is) (steps_moved c.valid-in-Last.result c.valid-in-Last.ensures c.in_ok-seek_to_last-in-Last.ensures.moves)

pub returns-in_ok-seek_to_last-in-Last-clause-same : goal.returns-in_ok-seek_to_last-in-Last-clause-same
returns-in_ok-seek_to_last-in-Last-clause-same g c = c.in_ok-seek_to_last-in-Last.ensures.same

pub returns-in-NextBlock-clause-steps : goal.returns-in-NextBlock-clause-steps
returns-in-NextBlock-clause-steps g c = rw (c.in-NextBlock.is) (steps_entered c.to_next_block.result c.to_next_block.ensures.there c.to_next_block.ensures.enters)

pub returns-in-NextBlock-clause-same : goal.returns-in-NextBlock-clause-same
returns-in-NextBlock-clause-same g c = c.to_next_block.ensures.same

pub returns-in-BlockBefore-clause-steps : goal.returns-in-BlockBefore-clause-steps
returns-in-BlockBefore-clause-steps g c = rw (c.in-BlockBefore.is) (steps_entered c.to_block_before.result c.to_block_before.ensures.there c.to_block_before.ensures.enters)

pub returns-in-BlockBefore-clause-same : goal.returns-in-BlockBefore-clause-same
returns-in-BlockBefore-clause-same g c = c.to_block_before.ensures.same

pub returns-in_ok-seek-in-Seek-clause-steps : goal.returns-in_ok-seek-in-Seek-clause-steps
returns-in_ok-seek-in-Seek-clause-steps g c = rw (c.in-Seek.is) (steps_moved c.valid-in-Seek.result c.valid-in-Seek.ensures c.in_ok-seek-in-Seek.ensures.moves)

pub returns-in_ok-seek-in-Seek-clause-same : goal.returns-in_ok-seek-in-Seek-clause-same
returns-in_ok-seek-in-Seek-clause-same g c = c.in_ok-seek-in-Seek.ensures.same
