use Rattle.std.proofs.Common.{inl, ◌∙◌, ◌≡◌, ap, sym, subst, ℕ, Bool, List, Option, Some, Result, Ok}
use Rattle.leveldb_base.specs.declared.cmp.Cmp.{Ghosts as CmpGhosts}
use Rattle.leveldb_base.specs.Types.{Pair}
use Rattle.leveldb_base.specs.declared.error.Status.{Status}
use Rattle.leveldb_env.specs.declared.env.Env.{Ghosts as EnvGhosts}
use Rattle.leveldb_env.specs.Compressor.{Codings}
use Rattle.leveldb_table.specs.Cache.{Cached}
use Rattle.leveldb_table.specs.TableReader.{OpenTable}
use Rattle.leveldb_table.specs.TableReaderMoves.{LooksUp, found_with}
use Rattle.leveldb_table.specs.declared.block_cache.CachedBlock.{CachedBlock}
use Rattle.leveldb_table.proofs.TableReaderMovesLemmas.{looks_up_err}
use Rattle.leveldb_table.proofs.TableBlockLemmas.{reads_own, reads_refused}
use Rattle.leveldb_table.proofs.table_reader.reader.TableReader.get.Goals as goal

-- a look-up with the same answer
looks_up_as : {E C FP F : Type 0} {order : CmpGhosts C} {env : EnvGhosts E F} {codings : Codings} {matches : FP → List ℕ → List ℕ → Bool} {table : OpenTable C FP F} {key : List ℕ} {old_env new_env : E} {old_cache new_cache : Cached (CachedBlock C)} {result other : Result (Option Pair) Status}
    → result ≡ other → LooksUp order env codings matches table key old_env old_cache result new_env new_cache → LooksUp order env codings matches table key old_env old_cache other new_env new_cache
looks_up_as {order = order} {env = env} {codings = codings} {matches = matches} {table = table} {key = key} {old_env = old_env} {new_env = new_env} {old_cache = old_cache} {new_cache = new_cache} same up =
    subst (λ found. LooksUp order env codings matches table key old_env old_cache found new_env new_cache) same up

pub returns-in_err-value-clause-looks_up : goal.returns-in_err-value-clause-looks_up
returns-in_err-value-clause-looks_up g c =
    let up = c.in_err-value.ensures.looks_up in
    looks_up_err _ c.from_residual.result c.from_residual.ensures.1 (reads_refused g.E.Env c.from_residual.result c.from_residual.ensures.1 up.reads) up.gathers

pub returns-in_err-value-clause-same : goal.returns-in_err-value-clause-same
returns-in_err-value-clause-same g c = c.in_err-value.ensures.same

pub returns-in_default-clause-same : goal.returns-in_default-clause-same
returns-in_default-clause-same g c = c.in_ok-value.ensures.same

pub returns-in_err-from_vec-clause-same : goal.returns-in_err-from_vec-clause-same
returns-in_err-from_vec-clause-same g c = c.in_ok-value.ensures.same

pub returns-clause-same : goal.returns-clause-same
returns-clause-same g c = c.in_ok-value.ensures.same

pub returns-in_default-clause-looks_up : goal.returns-in_default-clause-looks_up
returns-in_default-clause-looks_up g c = looks_up_as (ap (λ value. found_with c.find.new.key_buffers (Ok value)) c.in_default.is) c.in_ok-value.ensures.looks_up

pub returns-in_err-from_vec-clause-looks_up : goal.returns-in_err-from_vec-clause-looks_up
returns-in_err-from_vec-clause-looks_up g c =
    let up = c.in_ok-value.ensures.looks_up in
    looks_up_err _ c.from_residual-in_err-from_vec.result c.from_residual-in_err-from_vec.ensures.1 (reads_own g.E.Env c.from_residual-in_err-from_vec.result up.reads.kept_disk up.reads.cause.ok c.from_residual-in_err-from_vec.ensures.1 (λ status memory. inl memory)) up.gathers

pub returns-clause-looks_up : goal.returns-clause-looks_up
returns-clause-looks_up g c =
    looks_up_as (ap (λ value. found_with c.find.new.key_buffers (Ok value)) c.in-Some.is ∙ ap (λ key. Ok (Some (key, c.in-Some.value))) (sym (c.in_ok-from_vec.ensures.ok ∙ c.into_key.ensures)))
    c.in_ok-value.ensures.looks_up
