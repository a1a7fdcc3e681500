use Rattle.std.proofs.Common.{◌≡◌, Bool, List, ℕ, Option, Result, Ok, Err, subst, sym}
use Rattle.std.specs.Prelude.{IsErrAnd}
use Rattle.std.specs.declared.cmp.Ordering.{Ordering}
use Rattle.leveldb_base.specs.Types.{Pair}
use Rattle.leveldb_base.specs.declared.cmp.Cmp.{Ghosts as CmpGhosts}
use Rattle.leveldb_base.specs.declared.error.Status.{Status}
use Rattle.leveldb_env.proofs.EnvLemmas.{cause_refused}
use Rattle.leveldb_env.specs.Compressor.{Codings}
use Rattle.leveldb_env.specs.declared.env.Env.{Ghosts as EnvGhosts}
use Rattle.leveldb_env.specs.contracts.compressor.CompressorListCompressors.TheImpl.{ghosts as compressors}
use Rattle.leveldb_table.specs.Cache.{Cached}
use Rattle.leveldb_table.specs.Table.{Part}
use Rattle.leveldb_table.specs.TableReaderSteps.{StepTo}
use Rattle.leveldb_table.specs.TableReaderWalk.{MovesInTable, TablePlace}
use Rattle.leveldb_table.specs.declared.block_cache.CachedBlock.{CachedBlock}
use Rattle.leveldb_repair.specs.FoundWalkTable.{MovesInOpen}
use Rattle.leveldb_repair.specs.declared.found_walk.table.FoundMove.TheVariants.{Before, First, Last, Next, Seek}
use Rattle.leveldb_repair.proofs.found_walk.moves.move_in.Goals as goal

-- what is so of two values is so of their equals
at_both : {A B : Type 0} (P : A → B → Type 0) {a x : A} {b y : B} → x ≡ a → y ≡ b → P a b → P x y
at_both P {a = a} {x = x} {b = b} {y = y} e f p = subst (λ z. P z y) (sym e) (subst (P a) (sym f) p)

module _ {E C F T U : Type 0} {order : CmpGhosts C} {env : EnvGhosts E F} {codings : Codings} {accepts : List ℕ → Bool} {cmp : List ℕ → List ℕ → Ordering} {id : ℕ} {file : F}
    {Fit : List Part → Type 0} {to : List Pair → Option ℕ → Option ℕ} {Step : StepTo C} {old_env new_env : E} {old_cache new_cache : Cached (CachedBlock C)} {old new : TablePlace C} where
  -- a move that is done, told by another answer
  told : {x : T} {y : U} → MovesInTable order {T = T} env codings accepts cmp id file Fit to Step old_env old_cache old (Ok x) new_env new_cache new
      → MovesInTable order {T = U} env codings accepts cmp id file Fit to Step old_env old_cache old (Ok y) new_env new_cache new
  told moves = let reads = moves.reads in let cause = reads.cause in record {
    reads = record { kept_disk = reads.kept_disk; cause = record { later = cause.later; ok = cause.ok; uncounted = tt; cause = tt } };
    ok = moves.ok;
    steps = moves.steps;
    err = tt;
    gathers = moves.gathers;
    same_lines = moves.same_lines;
    same_order = moves.same_order;
  }

  -- one that isn't, whose error is passed on
  passed_on : {status : Status} (result : Result U Status) → IsErrAnd result (λ other. other ≡ status)
      → MovesInTable order {T = T} env codings accepts cmp id file Fit to Step old_env old_cache old (Err status) new_env new_cache new
      → MovesInTable order {T = U} env codings accepts cmp id file Fit to Step old_env old_cache old result new_env new_cache new
  passed_on (Ok value) refused moves = absurd refused
  passed_on (Err other) refused moves =
      subst (λ s. MovesInTable order {T = U} env codings accepts cmp id file Fit to Step old_env old_cache old (Err s) new_env new_cache new) (sym refused)
      (let reads = moves.reads in record {
        reads = record { kept_disk = reads.kept_disk; cause = cause_refused reads.cause };
        ok = moves.ok;
        steps = moves.steps;
        err = moves.err;
        gathers = moves.gathers;
        same_lines = moves.same_lines;
        same_order = moves.same_order;
      })

pub returns-in-Next-clause-moves : goal.returns-in-Next-clause-moves
returns-in-Next-clause-moves g c =
    let codings = (compressors g.dyn-1).codings c.args.compressors.now in
    let same = c.advance.ensures.same in
    subst (λ to. MovesInOpen g.C.Cmp g.E.Env codings c.args.table.now to c.args.env.now c.args.blocks.now c.args.core.now c.advance.result c.env-1.given.0 c.blocks-1.given.0 c.advance.new.self) (sym c.in-Next.is)
    (at_both (λ env blocks. MovesInOpen g.C.Cmp g.E.Env codings c.args.table.now Next c.args.env.now c.args.blocks.now c.args.core.now c.advance.result env blocks c.advance.new.self)
    (c.env-1.given.1 (sym same.env)) (c.blocks-1.given.1 (sym same.cache)) (c.advance.ensures.moves))

pub returns-in-Before-clause-moves : goal.returns-in-Before-clause-moves
returns-in-Before-clause-moves g c =
    let codings = (compressors g.dyn-1).codings c.args.compressors.now in
    let same = c.prev.ensures.same in
    subst (λ to. MovesInOpen g.C.Cmp g.E.Env codings c.args.table.now to c.args.env.now c.args.blocks.now c.args.core.now c.prev.result c.env-in-Before-1.given.0 c.blocks-in-Before-1.given.0 c.prev.new.self) (sym c.in-Before.is)
    (at_both (λ env blocks. MovesInOpen g.C.Cmp g.E.Env codings c.args.table.now Before c.args.env.now c.args.blocks.now c.args.core.now c.prev.result env blocks c.prev.new.self)
    (c.env-in-Before-1.given.1 (sym same.env)) (c.blocks-in-Before-1.given.1 (sym same.cache)) (c.prev.ensures.moves))

pub returns-in_err-seek-in-Seek-clause-moves : goal.returns-in_err-seek-in-Seek-clause-moves
returns-in_err-seek-in-Seek-clause-moves g c =
    let codings = (compressors g.dyn-1).codings c.args.compressors.now in
    let same = c.seek.ensures.same in
    subst (λ to. MovesInOpen g.C.Cmp g.E.Env codings c.args.table.now to c.args.env.now c.args.blocks.now c.args.core.now c.from_residual.result c.env-in-Seek-1.given.0 c.blocks-in-Seek-1.given.0 c.seek.new.self) (sym c.in-Seek.is)
    (at_both (λ env blocks. MovesInOpen g.C.Cmp g.E.Env codings c.args.table.now (Seek c.in-Seek.key) c.args.env.now c.args.blocks.now c.args.core.now c.from_residual.result env blocks c.seek.new.self)
    (c.env-in-Seek-1.given.1 (sym same.env)) (c.blocks-in-Seek-1.given.1 (sym same.cache)) (passed_on c.from_residual.result c.from_residual.ensures.1 c.in_err-seek-in-Seek.ensures.moves))

pub returns-in_ok-seek-in-Seek-clause-moves : goal.returns-in_ok-seek-in-Seek-clause-moves
returns-in_ok-seek-in-Seek-clause-moves g c =
    let codings = (compressors g.dyn-1).codings c.args.compressors.now in
    let same = c.seek.ensures.same in
    subst (λ to. MovesInOpen g.C.Cmp g.E.Env codings c.args.table.now to c.args.env.now c.args.blocks.now c.args.core.now (Ok c.valid.result) c.env-in-Seek-1.given.0 c.blocks-in-Seek-1.given.0 c.seek.new.self) (sym c.in-Seek.is)
    (at_both (λ env blocks. MovesInOpen g.C.Cmp g.E.Env codings c.args.table.now (Seek c.in-Seek.key) c.args.env.now c.args.blocks.now c.args.core.now (Ok c.valid.result) env blocks c.seek.new.self)
    (c.env-in-Seek-1.given.1 (sym same.env)) (c.blocks-in-Seek-1.given.1 (sym same.cache)) (told c.in_ok-seek-in-Seek.ensures.moves))

pub returns-in_err-seek_to_first-in-First-clause-moves : goal.returns-in_err-seek_to_first-in-First-clause-moves
returns-in_err-seek_to_first-in-First-clause-moves g c =
    let codings = (compressors g.dyn-1).codings c.args.compressors.now in
    let same = c.seek_to_first.ensures.same in
    subst (λ to. MovesInOpen g.C.Cmp g.E.Env codings c.args.table.now to c.args.env.now c.args.blocks.now c.args.core.now c.from_residual-in_err-seek_to_first-in-First.result c.env-in-First-1.given.0 c.blocks-in-First-1.given.0 c.seek_to_first.new.self) (sym c.in-First.is)
    (at_both (λ env blocks. MovesInOpen g.C.Cmp g.E.Env codings c.args.table.now First c.args.env.now c.args.blocks.now c.args.core.now c.from_residual-in_err-seek_to_first-in-First.result env blocks c.seek_to_first.new.self)
    (c.env-in-First-1.given.1 (sym same.env)) (c.blocks-in-First-1.given.1 (sym same.cache)) (passed_on c.from_residual-in_err-seek_to_first-in-First.result c.from_residual-in_err-seek_to_first-in-First.ensures.1 c.in_err-seek_to_first-in-First.ensures.moves))

pub returns-in_ok-seek_to_first-in-First-clause-moves : goal.returns-in_ok-seek_to_first-in-First-clause-moves
returns-in_ok-seek_to_first-in-First-clause-moves g c =
    let codings = (compressors g.dyn-1).codings c.args.compressors.now in
    let same = c.seek_to_first.ensures.same in
    subst (λ to. MovesInOpen g.C.Cmp g.E.Env codings c.args.table.now to c.args.env.now c.args.blocks.now c.args.core.now (Ok c.valid-in-First.result) c.env-in-First-1.given.0 c.blocks-in-First-1.given.0 c.seek_to_first.new.self) (sym c.in-First.is)
    (at_both (λ env blocks. MovesInOpen g.C.Cmp g.E.Env codings c.args.table.now First c.args.env.now c.args.blocks.now c.args.core.now (Ok c.valid-in-First.result) env blocks c.seek_to_first.new.self)
    (c.env-in-First-1.given.1 (sym same.env)) (c.blocks-in-First-1.given.1 (sym same.cache)) (told c.in_ok-seek_to_first-in-First.ensures.moves))

pub returns-in_err-seek_to_last-in-Last-clause-moves : goal.returns-in_err-seek_to_last-in-Last-clause-moves
returns-in_err-seek_to_last-in-Last-clause-moves g c =
    let codings = (compressors g.dyn-1).codings c.args.compressors.now in
    let same = c.seek_to_last.ensures.same in
    subst (λ to. MovesInOpen g.C.Cmp g.E.Env codings c.args.table.now to c.args.env.now c.args.blocks.now c.args.core.now c.from_residual-in_err-seek_to_last-in-Last.result c.env-in-Last-1.given.0 c.blocks-in-Last-1.given.0 c.seek_to_last.new.self) (sym c.in-Last.is)
    (at_both (λ env blocks. MovesInOpen g.C.Cmp g.E.Env codings c.args.table.now Last c.args.env.now c.args.blocks.now c.args.core.now c.from_residual-in_err-seek_to_last-in-Last.result env blocks c.seek_to_last.new.self)
    (c.env-in-Last-1.given.1 (sym same.env)) (c.blocks-in-Last-1.given.1 (sym same.cache)) (passed_on c.from_residual-in_err-seek_to_last-in-Last.result c.from_residual-in_err-seek_to_last-in-Last.ensures.1 c.in_err-seek_to_last-in-Last.ensures.moves))

pub returns-in_ok-seek_to_last-in-Last-clause-moves : goal.returns-in_ok-seek_to_last-in-Last-clause-moves
returns-in_ok-seek_to_last-in-Last-clause-moves g c =
    let codings = (compressors g.dyn-1).codings c.args.compressors.now in
    let same = c.seek_to_last.ensures.same in
    subst (λ to. MovesInOpen g.C.Cmp g.E.Env codings c.args.table.now to c.args.env.now c.args.blocks.now c.args.core.now (Ok c.valid-in-Last.result) c.env-in-Last-1.given.0 c.blocks-in-Last-1.given.0 c.seek_to_last.new.self) (sym c.in-Last.is)
    (at_both (λ env blocks. MovesInOpen g.C.Cmp g.E.Env codings c.args.table.now Last c.args.env.now c.args.blocks.now c.args.core.now (Ok c.valid-in-Last.result) env blocks c.seek_to_last.new.self)
    (c.env-in-Last-1.given.1 (sym same.env)) (c.blocks-in-Last-1.given.1 (sym same.cache)) (told c.in_ok-seek_to_last-in-Last.ensures.moves))
