use Rattle.std.proofs.Common.{◌≡◌, false, List, ℕ, None, sym, ◌∙◌, ap, refl, inl, inr}
use Rattle.std.specs.Prelude.{is_some}
use Rattle.leveldb_base.specs.Types.{next_position, position_within}
use Rattle.leveldb_env.specs.contracts.compressor.CompressorListCompressors.TheImpl
use Rattle.leveldb_table.specs.BlockCache.{HoldsOnlyOf}
use Rattle.leveldb_table.specs.TableBlock.{FileHas}
use Rattle.leveldb_table.specs.BlockWalk.{pairs_over, position_over}
use Rattle.leveldb_table.specs.TableReaderWalk.{inner_position, inner_pairs}
use Rattle.leveldb_table.specs.TableReaderBlocks.{IsAfterLine}
use Rattle.leveldb_table.proofs.TableBlockLemmas.{KeepsDisk-refl, reads_weaker, reads_refused, reads_own, reads_ok}
use Rattle.leveldb_table.proofs.TableReaderWalkLemmas.{ok_refused, err_holds, none_there, block_lines, line_lacks, some_none, first_none, next_is_there, no_block_after, IsInto, is_into}
use Rattle.leveldb_table.proofs.TableReaderMovesLemmas.{enters_ends, to_no_block, into_lacking, into_at, into_empty}
use Rattle.leveldb_table.proofs.BlockCacheLemmas.{GainsBlocks-refl}
use Rattle.leveldb_table.proofs.RefusalLemmas.{IfOk-refused}
use Rattle.leveldb_table.proofs.TableReadsLemmas.{enters_memory}
use Rattle.leveldb_table.proofs.table_reader.walk.TableCore.to_next_block.Goals as goal

pub returns-in_err-load_line-clause-enters : goal.returns-in_err-load_line-clause-enters
returns-in_err-load_line-clause-enters g c =
    let block = c.in_ok-advance.ensures.block ∙ ap (λ z. z.index.block) c.self.view_is in
    let ok = c.in_ok-advance.ensures.ok ∙ ap (λ z. next_position (pairs_over z.index) (position_over z.index)) c.self.view_is in
    let codings = (TheImpl.ghosts g.dyn-1).codings c.args.reader.now.compressors.now in
    let cmp = g.C.Cmp.cmp c.args.reader.now.table.now.cmp in
    let none : inner_position c.load_line.new.self.inner ≡ None = ap inner_position (c.in_err-load_line.ensures.err ∙ c.leave.ensures) in
    let index = c.advance.new.self in
    let lines = block_lines index c.args.self.now.index block in
    let old = c.args.self.now in
    record {
      reads = reads_refused g.E.Env c.from_residual-in_err-load_line.result c.from_residual-in_err-load_line.ensures.1
          (reads_weaker g.E.Env _ (λ status lacks. (
            lacks.0,
            λ bytes has. (
              λ parts position right fit holds indexed. line_lacks index right (lines ∙ indexed.lines) (lacks.1 bytes has),
              λ holds. into_lacking codings cmp bytes (pairs_over old.index) (λ pairs. position_within pairs 0) lines ok (lacks.1 bytes has),
            ),
          )) c.in_err-load_line.ensures.reads);
      ok = λ bytes has parts position right fit holds indexed. ok_refused _ _ c.from_residual-in_err-load_line.result c.from_residual-in_err-load_line.ensures.1;
      steps = λ bytes has holds. ok_refused _ _ c.from_residual-in_err-load_line.result c.from_residual-in_err-load_line.ensures.1;
      err = err_holds c.from_residual-in_err-load_line.result none;
      gathers = c.in_err-load_line.ensures.gathers;
      same_lines = ap pairs_over c.in_err-load_line.ensures.index ∙ lines;
      same_order = ap (λ z. z.block.cmp) c.in_err-load_line.ensures.index ∙ ap (λ z. z.cmp) block;
    }

pub returns-then-not-branch-2-clause-enters : goal.returns-then-not-branch-2-clause-enters
returns-then-not-branch-2-clause-enters g c =
    let block = c.in_ok-advance.ensures.block ∙ ap (λ z. z.index.block) c.self.view_is in
    let ok = c.in_ok-advance.ensures.ok ∙ ap (λ z. next_position (pairs_over z.index) (position_over z.index)) c.self.view_is in
    let codings = (TheImpl.ghosts g.dyn-1).codings c.args.reader.now.compressors.now in
    let cmp = g.C.Cmp.cmp c.args.reader.now.table.now.cmp in
    let old = c.args.self.now in
    let loaded = c.load_line.new.self in
    let new = c.step_forward.new.self in
    let read = c.in_ok-load_line.ensures in
    let step = c.in_ok-step_forward.ensures in
    let there = sym c.in_ok-advance.ensures.there ∙ c.if-not-branch.false in
    let index : new.index ≡ c.advance.new.self = step.index ∙ read.index in
    let into : (bytes : List ℕ) → FileHas g.E.Env c.args.reader.now.env.now c.args.reader.now.table.now.file bytes → HoldsOnlyOf g.C.Cmp codings cmp c.args.reader.now.table.now.id bytes c.args.reader.now.cache.now
    → IsInto g.C.Cmp codings cmp bytes (next_position (pairs_over old.index) (position_over old.index)) (λ pairs. position_within pairs 0) old new = λ bytes has holds.
    is_into g.C.Cmp codings cmp bytes (next_position (pairs_over old.index) (position_over old.index)) (λ pairs. position_within pairs 0) old loaded new c.advance.new.self block ok there
    read.index (read.block bytes has holds) step.index step.block step.pairs (step.ok ∙ ap (next_position (inner_pairs loaded.inner)) read.position) in
    let none : inner_position new.inner ≡ None = none_there (inner_position new.inner) (sym step.there ∙ c.if-not-branch-2.true) in
    record {
      reads = reads_own g.E.Env c.empty_block_error.result read.reads.kept_disk read.reads.cause.ok c.empty_block_error.ensures
          (λ status code. inr (
            inl code,
            λ bytes has. (
              λ parts position right fit holds indexed. some_none (sym (next_is_there right fit indexed new (into bytes has holds)).0 ∙ none),
              λ holds. into_empty g.C.Cmp codings cmp bytes old new (into bytes has holds) status (first_none (inner_pairs new.inner) (sym (into bytes has holds).position ∙ none)) code,
            ),
          ));
      ok = λ bytes has parts position right fit holds indexed. ok_refused _ _ c.empty_block_error.result c.empty_block_error.ensures;
      steps = λ bytes has holds. ok_refused _ _ c.empty_block_error.result c.empty_block_error.ensures;
      err = err_holds c.empty_block_error.result none;
      gathers = read.gathers;
      same_lines = ap pairs_over index ∙ block_lines c.advance.new.self c.args.self.now.index block;
      same_order = ap (λ z. z.block.cmp) index ∙ ap (λ z. z.cmp) block;
    }

pub returns-clause-enters : goal.returns-clause-enters
returns-clause-enters g c =
    let block = c.in_ok-advance.ensures.block ∙ ap (λ z. z.index.block) c.self.view_is in
    let ok = c.in_ok-advance.ensures.ok ∙ ap (λ z. next_position (pairs_over z.index) (position_over z.index)) c.self.view_is in
    let codings = (TheImpl.ghosts g.dyn-1).codings c.args.reader.now.compressors.now in
    let cmp = g.C.Cmp.cmp c.args.reader.now.table.now.cmp in
    let old = c.args.self.now in
    let loaded = c.load_line.new.self in
    let new = c.step_forward.new.self in
    let read = c.in_ok-load_line.ensures in
    let step = c.in_ok-step_forward.ensures in
    let there = sym c.in_ok-advance.ensures.there ∙ c.if-not-branch.false in
    let index : new.index ≡ c.advance.new.self = step.index ∙ read.index in
    let into : (bytes : List ℕ) → FileHas g.E.Env c.args.reader.now.env.now c.args.reader.now.table.now.file bytes → HoldsOnlyOf g.C.Cmp codings cmp c.args.reader.now.table.now.id bytes c.args.reader.now.cache.now
    → IsInto g.C.Cmp codings cmp bytes (next_position (pairs_over old.index) (position_over old.index)) (λ pairs. position_within pairs 0) old new = λ bytes has holds.
    is_into g.C.Cmp codings cmp bytes (next_position (pairs_over old.index) (position_over old.index)) (λ pairs. position_within pairs 0) old loaded new c.advance.new.self block ok there
    read.index (read.block bytes has holds) step.index step.block step.pairs (step.ok ∙ ap (next_position (inner_pairs loaded.inner)) read.position) in
    record {
      reads = reads_ok g.E.Env read.reads.kept_disk read.reads.cause.ok;
      ok = λ bytes has parts position right fit holds indexed. (next_is_there right fit indexed new (into bytes has holds)).1;
      steps = λ bytes has holds. into_at g.C.Cmp codings cmp bytes old new (into bytes has holds) (sym step.there ∙ c.if-not-branch-2.false);
      err = tt;
      gathers = read.gathers;
      same_lines = ap pairs_over index ∙ block_lines c.advance.new.self c.args.self.now.index block;
      same_order = ap (λ z. z.block.cmp) index ∙ ap (λ z. z.cmp) block;
    }

pub returns-in_err-advance-clause-enters : goal.returns-in_err-advance-clause-enters
returns-in_err-advance-clause-enters g c =
    let block = c.in_err-advance.ensures.block ∙ ap (λ z. z.index.block) c.self.view_is in
    let result = c.from_residual.result in
    let old = c.args.self.now in
    enters_memory old _ result c.from_residual.ensures.1 c.in_err-advance.ensures.cause (KeepsDisk-refl g.E.Env c.args.reader.now.env.now) refl (GainsBlocks-refl c.args.reader.now.table.now.id _ c.args.reader.now.cache.now)
    (block_lines c.advance.new.self old.index block) (ap (λ z. z.cmp) block) (ap inner_position c.leave.ensures)

pub returns-in_err-step_forward-clause-enters : goal.returns-in_err-step_forward-clause-enters
returns-in_err-step_forward-clause-enters g c =
    let block = c.in_ok-advance.ensures.block ∙ ap (λ z. z.index.block) c.self.view_is in
    let read = c.in_ok-load_line.ensures in
    let step = c.in_err-step_forward.ensures in
    let index = step.index ∙ read.index in
    let old = c.args.self.now in
    enters_memory old c.step_forward.new.self c.from_residual-in_err-step_forward.result c.from_residual-in_err-step_forward.ensures.1 step.memory read.reads.kept_disk read.reads.cause.ok read.gathers
    (ap pairs_over index ∙ block_lines c.advance.new.self old.index block) (ap (λ z. z.block.cmp) index ∙ ap (λ z. z.cmp) block) step.err

pub returns-in_err-advance-clause-same : goal.returns-in_err-advance-clause-same
returns-in_err-advance-clause-same g c = record { table = refl; compressors = refl; env = refl; cache = refl }

pub returns-then-not-branch-clause-same : goal.returns-then-not-branch-clause-same
returns-then-not-branch-clause-same g c = record { table = refl; compressors = refl; env = refl; cache = refl }

pub returns-in_err-load_line-clause-same : goal.returns-in_err-load_line-clause-same
returns-in_err-load_line-clause-same g c = c.in_err-load_line.ensures.same

pub returns-in_err-step_forward-clause-same : goal.returns-in_err-step_forward-clause-same
returns-in_err-step_forward-clause-same g c = c.in_ok-load_line.ensures.same

pub returns-then-not-branch-2-clause-same : goal.returns-then-not-branch-2-clause-same
returns-then-not-branch-2-clause-same g c = c.in_ok-load_line.ensures.same

pub returns-clause-same : goal.returns-clause-same
returns-clause-same g c = c.in_ok-load_line.ensures.same

pub returns-in_err-advance-clause-there : goal.returns-in_err-advance-clause-there
returns-in_err-advance-clause-there g c = IfOk-refused _ _ c.from_residual.result c.from_residual.ensures.1

pub returns-then-not-branch-clause-there : goal.returns-then-not-branch-clause-there
returns-then-not-branch-clause-there g c = ap (λ inner. is_some (inner_position inner)) (sym c.leave.ensures)

pub returns-in_err-load_line-clause-there : goal.returns-in_err-load_line-clause-there
returns-in_err-load_line-clause-there g c = IfOk-refused _ _ c.from_residual-in_err-load_line.result c.from_residual-in_err-load_line.ensures.1

pub returns-in_err-step_forward-clause-there : goal.returns-in_err-step_forward-clause-there
returns-in_err-step_forward-clause-there g c = IfOk-refused _ _ c.from_residual-in_err-step_forward.result c.from_residual-in_err-step_forward.ensures.1

pub returns-then-not-branch-2-clause-there : goal.returns-then-not-branch-2-clause-there
returns-then-not-branch-2-clause-there g c = IfOk-refused _ _ c.empty_block_error.result c.empty_block_error.ensures

pub returns-clause-there : goal.returns-clause-there
returns-clause-there g c = sym c.if-not-branch-2.false ∙ c.in_ok-step_forward.ensures.there

pub returns-then-not-branch-clause-enters : goal.returns-then-not-branch-clause-enters
returns-then-not-branch-clause-enters g c =
    let block = c.in_ok-advance.ensures.block ∙ ap (λ z. z.index.block) c.self.view_is in
    let ok = c.in_ok-advance.ensures.ok ∙ ap (λ z. next_position (pairs_over z.index) (position_over z.index)) c.self.view_is in
    let old = c.args.self.now in
    let none = none_there (position_over c.advance.new.self) (sym c.in_ok-advance.ensures.there ∙ c.if-not-branch.true) in
    enters_ends {Fit = λ parts position. IsAfterLine parts (position_over old.index) position} old _ false (block_lines c.advance.new.self old.index block) (ap (λ z. z.cmp) block) (ap inner_position c.leave.ensures)
    (λ bytes parts position right fit indexed. no_block_after fit (ap (λ lines. next_position lines (position_over old.index)) (sym indexed.lines) ∙ sym ok ∙ none))
    (λ bytes. to_no_block ((TheImpl.ghosts g.dyn-1).codings c.args.reader.now.compressors.now) (g.C.Cmp.cmp c.args.reader.now.table.now.cmp) bytes (pairs_over old.index) (λ pairs. position_within pairs 0) (next_position (pairs_over old.index) (position_over old.index)) _ (sym ok ∙ none) none (ap inner_position c.leave.ensures))
