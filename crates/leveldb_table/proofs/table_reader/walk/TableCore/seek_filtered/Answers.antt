use Rattle.std.proofs.Common.{◌≡◌, true, false, Some, refl, sym, ◌∙◌, ap, inr, None}
use Rattle.std.specs.Prelude.{is_some}
use Rattle.leveldb_base.specs.Types.{pair_at, pair_of, seek_position}
use Rattle.leveldb_env.specs.contracts.compressor.CompressorListCompressors.TheImpl
use Rattle.leveldb_table.specs.TableReaderBlocks.{IsKeyPosition}
use Rattle.leveldb_table.specs.TableReaderMoves.{line_for}
use Rattle.leveldb_table.specs.TableReader.{may_contain}
use Rattle.leveldb_table.specs.TableBlock.{unnamed}
use Rattle.leveldb_table.specs.BlockWalk.{pairs_over, position_over}
use Rattle.leveldb_table.specs.TableReaderWalk.{inner_position}
use Rattle.leveldb_table.specs.Block.{pairs_of}
use Rattle.leveldb_table.proofs.BlockCacheLemmas.{GainsBlocks-refl}
use Rattle.leveldb_table.proofs.TableBlockLemmas.{KeepsDisk-refl}
use Rattle.leveldb_table.proofs.TableReaderWalkLemmas.{block_lines, line_lacks}
use Rattle.leveldb_table.proofs.TableReaderMovesLemmas.{names_one, names_none, none_at, index_line, let_none, let_by, enters_then, enters_ends, enters_own, enters_ok, enters_refused, looks_none, looks_unnamed, looks_refused, line_by, looked_up}
use Rattle.leveldb_table.proofs.RefusalLemmas.{IfOk-refused}
use Rattle.leveldb_table.proofs.TableReadsLemmas.{enters_memory}
use Rattle.leveldb_table.proofs.table_reader.walk.TableCore.seek_filtered.Goals as goal

pub returns-in_default-clause-enters : goal.returns-in_default-clause-enters
returns-in_default-clause-enters g c =
    let block = c.in_ok-seek.ensures.block ∙ ap (λ z. z.index.block) c.self.view_is in
    let ok = c.in_ok-seek.ensures.ok ∙ ap (λ z. seek_position (g.C.Cmp.cmp z.index.block.cmp) (pairs_over z.index) c.args.key.now) c.self.view_is in
    let old = c.args.self.now in
    let key = c.args.key.now in
    let none = none_at c.seek.new.self (sym c.current.ensures ∙ ap pair_of c.in_default.is) in
    enters_ends old _ false (block_lines c.seek.new.self old.index block) (ap (λ z. z.cmp) block) (ap inner_position c.leave.ensures)
    (λ bytes parts position right fit indexed. fit.1 ∙ let_none (g.C.Cmp.cmp c.args.reader.now.table.now.cmp) (may_contain g.FP.FilterPolicy.matches c.args.reader.now.table.now) key parts (index_line g.C.Cmp parts old.index key _ indexed.lines indexed.ordered ok ∙ none))
    (λ bytes. looks_none ((TheImpl.ghosts g.dyn-1).codings c.args.reader.now.compressors.now) (g.C.Cmp.cmp c.args.reader.now.table.now.cmp) bytes (pairs_over old.index) (may_contain g.FP.FilterPolicy.matches c.args.reader.now.table.now) key (line_for g.C.Cmp key old) _ (sym ok ∙ none) ok (ap inner_position c.leave.ensures))

pub returns-in_err-handle-clause-enters : goal.returns-in_err-handle-clause-enters
returns-in_err-handle-clause-enters g c =
    let block = c.in_ok-seek.ensures.block ∙ ap (λ z. z.index.block) c.self.view_is in
    let ok = c.in_ok-seek.ensures.ok ∙ ap (λ z. seek_position (g.C.Cmp.cmp z.index.block.cmp) (pairs_over z.index) c.args.key.now) c.self.view_is in
    let old = c.args.self.now in
    let lines = block_lines c.seek.new.self old.index block in
    let key = c.args.key.now in
    let line : pair_at (pairs_over c.seek.new.self) (position_over c.seek.new.self) ≡ Some (c.in-Some.field-0-0.now, c.in-Some.value.now) = sym c.current.ensures ∙ ap pair_of c.in-Some.is in
    enters_own old _ c.from_residual-in_err-handle.result lines (ap (λ z. z.cmp) block) (ap inner_position c.leave.ensures) c.from_residual-in_err-handle.ensures.1 (λ status is.
    let code = ap (λ z. z.code) is ∙ c.in_err-handle.ensures.err.0 in
    inr (
      code,
      λ bytes. (
        λ parts position right fit indexed. line_lacks {status = status} c.seek.new.self right (lines ∙ indexed.lines) (unnamed (names_none line c.in_err-handle.ensures.err.1) code),
        looks_unnamed ((TheImpl.ghosts g.dyn-1).codings c.args.reader.now.compressors.now) (g.C.Cmp.cmp c.args.reader.now.table.now.cmp) bytes (pairs_over old.index) (may_contain g.FP.FilterPolicy.matches c.args.reader.now.table.now) key (line_for g.C.Cmp key old) status (names_none (line_by lines ok line) c.in_err-handle.ensures.err.1) code,
      ),
    ))

pub returns-then-not-may_contain-clause-enters : goal.returns-then-not-may_contain-clause-enters
returns-then-not-may_contain-clause-enters g c =
    let block = c.in_ok-seek.ensures.block ∙ ap (λ z. z.index.block) c.self.view_is in
    let ok = c.in_ok-seek.ensures.ok ∙ ap (λ z. seek_position (g.C.Cmp.cmp z.index.block.cmp) (pairs_over z.index) c.args.key.now) c.self.view_is in
    let old = c.args.self.now in
    let key = c.args.key.now in
    let lines = block_lines c.seek.new.self old.index block in
    let refuses = ap (λ n. may_contain g.FP.FilterPolicy.matches c.args.reader.now.table.now n key) (sym c.offset.ensures) ∙ sym c.may_contain.ensures ∙ c.if-not-may_contain.true in
    enters_ends old _ false lines (ap (λ z. z.cmp) block) (ap inner_position c.leave.ensures)
    (λ bytes parts position right fit indexed. fit.1 ∙ let_by c.seek.new.self key c.in-Some.field-0-0.now c.in-Some.value.now c.in_ok-handle.handle (may_contain g.FP.FilterPolicy.matches c.args.reader.now.table.now) false right (lines ∙ indexed.lines)
    (index_line g.C.Cmp parts old.index key (position_over c.seek.new.self) indexed.lines indexed.ordered ok) (sym c.current.ensures ∙ ap pair_of c.in-Some.is) c.in_ok-handle.ensures.ok.1 refuses)
    (λ bytes. looks_refused ((TheImpl.ghosts g.dyn-1).codings c.args.reader.now.compressors.now) (g.C.Cmp.cmp c.args.reader.now.table.now.cmp) bytes (pairs_over old.index) (may_contain g.FP.FilterPolicy.matches c.args.reader.now.table.now) key (line_for g.C.Cmp key old) _ c.in_ok-handle.handle c.in_ok-handle.ensures.ok.0 (names_one c.in_ok-handle.handle (line_by lines ok (sym c.current.ensures ∙ ap pair_of c.in-Some.is)) c.in_ok-handle.ensures.ok.1) refuses (ap inner_position c.leave.ensures))

pub returns-in_err-enter-clause-enters : goal.returns-in_err-enter-clause-enters
returns-in_err-enter-clause-enters g c =
    let block = c.in_ok-seek.ensures.block ∙ ap (λ z. z.index.block) c.self.view_is in
    let ok = c.in_ok-seek.ensures.ok ∙ ap (λ z. seek_position (g.C.Cmp.cmp z.index.block.cmp) (pairs_over z.index) c.args.key.now) c.self.view_is in
    let old = c.args.self.now in
    let key = c.args.key.now in
    let lines = block_lines c.seek.new.self old.index block in
    let passes = ap (λ n. may_contain g.FP.FilterPolicy.matches c.args.reader.now.table.now n key) (sym c.offset.ensures) ∙ sym c.may_contain.ensures ∙ c.if-not-may_contain.false in
    enters_refused c.from_residual-in_err-enter.result c.from_residual-in_err-enter.ensures.1
    (enters_then {Way = IsKeyPosition (g.C.Cmp.accepts c.args.reader.now.table.now.cmp) (g.C.Cmp.cmp c.args.reader.now.table.now.cmp) key} old (KeepsDisk-refl g.E.Env c.args.reader.now.env.now) refl (GainsBlocks-refl c.args.reader.now.table.now.id _ c.args.reader.now.cache.now) lines (ap (λ z. z.cmp) block)
    (λ bytes has parts position right fit holds indexed. (
      fit.0,
      fit.1 ∙ let_by c.seek.new.self key c.in-Some.field-0-0.now c.in-Some.value.now c.in_ok-handle.handle (may_contain g.FP.FilterPolicy.matches c.args.reader.now.table.now) true right (lines ∙ indexed.lines)
          (index_line g.C.Cmp parts old.index key (position_over c.seek.new.self) indexed.lines indexed.ordered ok) (sym c.current.ensures ∙ ap pair_of c.in-Some.is) c.in_ok-handle.ensures.ok.1 passes,
    ))
    (λ bytes has holds out. looked_up g.C.Cmp ((TheImpl.ghosts g.dyn-1).codings c.args.reader.now.compressors.now) (g.C.Cmp.cmp c.args.reader.now.table.now.cmp) bytes (may_contain g.FP.FilterPolicy.matches c.args.reader.now.table.now) key c.in_ok-handle.handle old (record old { index = c.seek.new.self; inner = c.leave.new.inner }) out lines (ap (λ z. z.cmp) block) c.in_ok-handle.ensures.ok.0 (names_one c.in_ok-handle.handle (line_by lines ok (sym c.current.ensures ∙ ap pair_of c.in-Some.is)) c.in_ok-handle.ensures.ok.1) passes) c.in_err-enter.ensures.enters)

pub returns-clause-enters : goal.returns-clause-enters
returns-clause-enters g c =
    let block = c.in_ok-seek.ensures.block ∙ ap (λ z. z.index.block) c.self.view_is in
    let ok = c.in_ok-seek.ensures.ok ∙ ap (λ z. seek_position (g.C.Cmp.cmp z.index.block.cmp) (pairs_over z.index) c.args.key.now) c.self.view_is in
    let old = c.args.self.now in
    let key = c.args.key.now in
    let lines = block_lines c.seek.new.self old.index block in
    let passes = ap (λ n. may_contain g.FP.FilterPolicy.matches c.args.reader.now.table.now n key) (sym c.offset.ensures) ∙ sym c.may_contain.ensures ∙ c.if-not-may_contain.false in
    enters_ok c.valid.result
    (enters_then {Way = IsKeyPosition (g.C.Cmp.accepts c.args.reader.now.table.now.cmp) (g.C.Cmp.cmp c.args.reader.now.table.now.cmp) key} old (KeepsDisk-refl g.E.Env c.args.reader.now.env.now) refl (GainsBlocks-refl c.args.reader.now.table.now.id _ c.args.reader.now.cache.now) lines (ap (λ z. z.cmp) block)
    (λ bytes has parts position right fit holds indexed. (
      fit.0,
      fit.1 ∙ let_by c.seek.new.self key c.in-Some.field-0-0.now c.in-Some.value.now c.in_ok-handle.handle (may_contain g.FP.FilterPolicy.matches c.args.reader.now.table.now) true right (lines ∙ indexed.lines)
          (index_line g.C.Cmp parts old.index key (position_over c.seek.new.self) indexed.lines indexed.ordered ok) (sym c.current.ensures ∙ ap pair_of c.in-Some.is) c.in_ok-handle.ensures.ok.1 passes,
    ))
    (λ bytes has holds out. looked_up g.C.Cmp ((TheImpl.ghosts g.dyn-1).codings c.args.reader.now.compressors.now) (g.C.Cmp.cmp c.args.reader.now.table.now.cmp) bytes (may_contain g.FP.FilterPolicy.matches c.args.reader.now.table.now) key c.in_ok-handle.handle old (record old { index = c.seek.new.self; inner = c.leave.new.inner }) out lines (ap (λ z. z.cmp) block) c.in_ok-handle.ensures.ok.0 (names_one c.in_ok-handle.handle (line_by lines ok (sym c.current.ensures ∙ ap pair_of c.in-Some.is)) c.in_ok-handle.ensures.ok.1) passes) c.in_ok-enter.ensures.enters)

pub returns-in_err-seek-clause-enters : goal.returns-in_err-seek-clause-enters
returns-in_err-seek-clause-enters g c =
    let block = c.in_err-seek.ensures.block ∙ ap (λ z. z.index.block) c.self.view_is in
    let old = c.args.self.now in
    enters_memory old _ c.from_residual.result c.from_residual.ensures.1 c.in_err-seek.ensures.cause (KeepsDisk-refl g.E.Env c.args.reader.now.env.now) refl (GainsBlocks-refl c.args.reader.now.table.now.id _ c.args.reader.now.cache.now) (block_lines c.seek.new.self old.index block) (ap (λ z. z.cmp) block) (ap inner_position c.leave.ensures)

pub returns-in_err-seek-clause-same : goal.returns-in_err-seek-clause-same
returns-in_err-seek-clause-same g c = record { table = refl; compressors = refl; env = refl; cache = refl }

pub returns-in_default-clause-same : goal.returns-in_default-clause-same
returns-in_default-clause-same g c = record { table = refl; compressors = refl; env = refl; cache = refl }

pub returns-in_err-handle-clause-same : goal.returns-in_err-handle-clause-same
returns-in_err-handle-clause-same g c = record { table = refl; compressors = refl; env = refl; cache = refl }

pub returns-then-not-may_contain-clause-same : goal.returns-then-not-may_contain-clause-same
returns-then-not-may_contain-clause-same g c = record { table = refl; compressors = refl; env = refl; cache = refl }

pub returns-in_err-enter-clause-same : goal.returns-in_err-enter-clause-same
returns-in_err-enter-clause-same g c = c.in_err-enter.ensures.same

pub returns-clause-same : goal.returns-clause-same
returns-clause-same g c = c.in_ok-enter.ensures.same

pub returns-in_err-seek-clause-there : goal.returns-in_err-seek-clause-there
returns-in_err-seek-clause-there g c = IfOk-refused _ _ c.from_residual.result c.from_residual.ensures.1

pub returns-in_default-clause-there : goal.returns-in_default-clause-there
returns-in_default-clause-there g c = ap (λ inner. is_some (inner_position inner)) (sym c.leave.ensures)

pub returns-in_err-handle-clause-there : goal.returns-in_err-handle-clause-there
returns-in_err-handle-clause-there g c = IfOk-refused _ _ c.from_residual-in_err-handle.result c.from_residual-in_err-handle.ensures.1

pub returns-then-not-may_contain-clause-there : goal.returns-then-not-may_contain-clause-there
returns-then-not-may_contain-clause-there g c = ap (λ inner. is_some (inner_position inner)) (sym c.leave.ensures)

pub returns-in_err-enter-clause-there : goal.returns-in_err-enter-clause-there
returns-in_err-enter-clause-there g c = IfOk-refused _ _ c.from_residual-in_err-enter.result c.from_residual-in_err-enter.ensures.1

pub returns-clause-there : goal.returns-clause-there
returns-clause-there g c = c.valid.ensures

pub enter-requires : goal.enter-requires
enter-requires g c =
    record {
      none = c.leave.ensures;
      line = c.in_ok-seek.ensures.ok ∙ ap (λ block. seek_position (g.C.Cmp.cmp block.cmp) (pairs_of None block.entries) c.args.key.now) (sym c.in_ok-seek.ensures.block);
      names = names_one c.in_ok-handle.handle (sym c.current.ensures ∙ ap pair_of c.in-Some.is) c.in_ok-handle.ensures.ok.1;
      fits = c.in_ok-handle.ensures.ok.0;
    }
