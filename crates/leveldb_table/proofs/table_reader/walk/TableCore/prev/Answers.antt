use Rattle.std.proofs.Common.{sym, refl, ◌∙◌, ap, subst, ◌≡◌, ℕ, List, Option, None, Some, Ok}
use Rattle.std.specs.declared.cmp.Ordering.{Ordering}
use Rattle.leveldb_base.specs.Types.{Pair, previous_position}
use Rattle.leveldb_env.specs.contracts.compressor.CompressorListCompressors.TheImpl
use Rattle.leveldb_env.specs.Compressor.{Codings}
use Rattle.leveldb_table.specs.BlockWalk.{pairs_over, position_over}
use Rattle.leveldb_table.specs.TableReaderWalk.{IsAtPairOrNone, inner_position, inner_pairs, TablePosition, table_position}
use Rattle.leveldb_table.specs.Table.{Part}
use Rattle.leveldb_table.specs.TableReaderMoves.{ToPreviousPair}
use Rattle.leveldb_table.proofs.TableReaderWalkLemmas.{none_there, not_none, moves_enters, some_none}
use Rattle.leveldb_table.proofs.TableReaderMovesLemmas.{before_first, backward_previous}
use Rattle.leveldb_table.proofs.RefusalLemmas.{IfOk-refused}
use Rattle.leveldb_table.proofs.BlockCacheLemmas.{GainsBlocks-refl}
use Rattle.leveldb_table.proofs.TableBlockLemmas.{KeepsDisk-refl, reads_ok}
use Rattle.leveldb_table.proofs.table_reader.walk.TableCore.prev.Goals as goal

pub returns-clause-moves : goal.returns-clause-moves
returns-clause-moves g c =
    let old = c.args.self.now in
    let step = c.in_ok-step_back.ensures in
    let none = none_there (inner_position c.step_back.new.self.inner) (sym step.there ∙ c.if-branch.false) in
    moves_enters old (ap pairs_over step.index) (ap (λ z. z.block.cmp) step.index)
    (λ parts position fit is_there. before_first parts (position_over c.step_back.new.self.index) (inner_pairs old.inner) (inner_position old.inner) position (not_none (inner_position old.inner) (sym c.valid.ensures ∙ c.if-not-valid.false))
    (sym step.ok ∙ none) (subst (λ z. IsAtPairOrNone parts z (inner_pairs old.inner) (inner_position old.inner) position) (ap position_over (sym step.index)) is_there.at))
    (λ bytes out. backward_previous g.C.Cmp ((TheImpl.ghosts g.dyn-1).codings c.args.reader.now.compressors.now) (g.C.Cmp.cmp c.args.reader.now.table.now.cmp) bytes old c.step_back.new.self out step.index (not_none (inner_position old.inner) (sym c.valid.ensures ∙ c.if-not-valid.false)) (sym step.ok ∙ none)) c.to_block_before.ensures.enters

pub returns-then-not-valid-clause-same : goal.returns-then-not-valid-clause-same
returns-then-not-valid-clause-same g c = record { table = refl; compressors = refl; env = refl; cache = refl }

pub returns-in_err-step_back-clause-same : goal.returns-in_err-step_back-clause-same
returns-in_err-step_back-clause-same g c = record { table = refl; compressors = refl; env = refl; cache = refl }

pub returns-then-branch-clause-same : goal.returns-then-branch-clause-same
returns-then-branch-clause-same g c = record { table = refl; compressors = refl; env = refl; cache = refl }

pub returns-clause-same : goal.returns-clause-same
returns-clause-same g c = c.to_block_before.ensures.same

pub returns-then-not-valid-clause-there : goal.returns-then-not-valid-clause-there
returns-then-not-valid-clause-there g c = sym c.if-not-valid.true ∙ c.valid.ensures

pub returns-in_err-step_back-clause-there : goal.returns-in_err-step_back-clause-there
returns-in_err-step_back-clause-there g c = IfOk-refused _ _ c.from_residual.result c.from_residual.ensures.1

pub returns-then-branch-clause-there : goal.returns-then-branch-clause-there
returns-then-branch-clause-there g c = sym c.if-branch.true ∙ c.in_ok-step_back.ensures.there

pub returns-clause-there : goal.returns-clause-there
returns-clause-there g c = c.to_block_before.ensures.there

-- from no position there is none before
none_before : (parts : List Part) (line : Option ℕ) (pairs : List Pair) (inner position : Option ℕ) → inner ≡ None → IsAtPairOrNone parts line pairs inner position → IsAtPairOrNone parts line pairs inner (previous_position position)
none_before parts line pairs inner None none at = none
none_before parts line pairs inner (Some n) none at = absurd (some_none (sym at.at_position ∙ none))

-- and the step back stays there
stays_none : (codings : Codings) (cmp : List ℕ → List ℕ → Ordering) (bytes : List ℕ) (lines : List Pair) (at : Option ℕ) (old : TablePosition) → at ≡ None → ToPreviousPair codings cmp bytes lines at old (Ok old)
stays_none codings cmp bytes lines None old none = refl
stays_none codings cmp bytes lines (Some i) old none = absurd (some_none none)

pub returns-then-not-valid-clause-moves : goal.returns-then-not-valid-clause-moves
returns-then-not-valid-clause-moves g c =
    let old = c.args.self.now in
    let none = none_there (inner_position old.inner) (sym c.valid.ensures ∙ c.if-not-valid.true) in
    record {
      reads = reads_ok g.E.Env (KeepsDisk-refl g.E.Env c.args.reader.now.env.now) refl;
      ok = λ bytes has parts position right fit holds is_there. record {
        lines = is_there.lines;
        ordered = is_there.ordered;
        at = none_before parts (position_over old.index) (inner_pairs old.inner) (inner_position old.inner) position none is_there.at;
      };
      steps = λ bytes has holds. stays_none _ _ bytes (pairs_over old.index) (inner_position old.inner) (table_position old) none;
      err = tt;
      gathers = GainsBlocks-refl c.args.reader.now.table.now.id _ c.args.reader.now.cache.now;
      same_lines = refl;
      same_order = refl;
    }
