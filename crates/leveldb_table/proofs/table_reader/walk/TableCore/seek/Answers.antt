use Rattle.std.proofs.Common.{◌≡◌, Some, refl, sym, ◌∙◌, ap, inr, None}
use Rattle.leveldb_base.specs.Types.{seek_position, pair_at, pair_of}
use Rattle.leveldb_env.specs.contracts.compressor.CompressorListCompressors.TheImpl
use Rattle.leveldb_table.specs.TableReaderBlocks.{IsKeyPosition}
use Rattle.leveldb_table.specs.TableReaderMoves.{line_for, ToKey}
use Rattle.leveldb_table.specs.TableBlock.{unnamed}
use Rattle.leveldb_table.specs.BlockWalk.{pairs_over, position_over}
use Rattle.leveldb_table.specs.TableReaderWalk.{inner_position}
use Rattle.leveldb_table.specs.Block.{pairs_of}
use Rattle.leveldb_table.proofs.TableReaderWalkLemmas.{block_lines, line_lacks, moves_enters, seek_none}
use Rattle.leveldb_table.proofs.TableReaderMovesLemmas.{names_none, none_at, index_line, enters_ends, enters_own, seeks_none, seeks_lacking, line_by, sought_along, names_one}
use Rattle.leveldb_table.proofs.BlockCacheLemmas.{GainsBlocks-refl}
use Rattle.leveldb_table.proofs.TableBlockLemmas.{KeepsDisk-refl}
use Rattle.leveldb_table.proofs.TableReadsLemmas.{enters_memory}
use Rattle.leveldb_table.proofs.table_reader.walk.TableCore.seek.Goals as goal

pub returns-in_default : goal.returns-in_default
returns-in_default g c =
    let block = c.in_ok-seek.ensures.block ∙ ap (λ z. z.index.block) c.self.view_is in
    let ok = c.in_ok-seek.ensures.ok ∙ ap (λ z. seek_position (g.C.Cmp.cmp z.index.block.cmp) (pairs_over z.index) c.args.key.now) c.self.view_is in
    let old = c.args.self.now in
    let key = c.args.key.now in
    let none = none_at c.seek.new.self (sym c.current.ensures ∙ ap pair_of c.in_default.is) in
    record {
      moves = moves_enters {Way = IsKeyPosition (g.C.Cmp.accepts c.args.reader.now.table.now.cmp) (g.C.Cmp.cmp c.args.reader.now.table.now.cmp) key} {to = λ pairs _. seek_position (g.C.Cmp.cmp c.args.reader.now.table.now.cmp) pairs key} {Part_step = ToKey g.C.Cmp key} old refl refl (λ parts position fit is_there. (fit, refl)) (λ bytes out sought. sought)
          (enters_ends old _ tt (block_lines c.seek.new.self old.index block) (ap (λ z. z.cmp) block) (ap inner_position c.leave.ensures)
          (λ bytes parts position right fit indexed. fit.1 ∙ seek_none (g.met.C.Cmp.preorder c.args.reader.now.table.now.cmp) right.parted right.accepted key fit.0 (index_line g.C.Cmp parts old.index key _ indexed.lines indexed.ordered ok ∙ none))
          (λ bytes. seeks_none ((TheImpl.ghosts g.dyn-1).codings c.args.reader.now.compressors.now) (g.C.Cmp.cmp c.args.reader.now.table.now.cmp) bytes (pairs_over old.index) key (line_for g.C.Cmp key old) _ (sym ok ∙ none) ok (ap inner_position c.leave.ensures)));
      same = record { table = refl; compressors = refl; env = refl; cache = refl };
    }

pub returns-in_err-handle : goal.returns-in_err-handle
returns-in_err-handle g c =
    let block = c.in_ok-seek.ensures.block ∙ ap (λ z. z.index.block) c.self.view_is in
    let ok = c.in_ok-seek.ensures.ok ∙ ap (λ z. seek_position (g.C.Cmp.cmp z.index.block.cmp) (pairs_over z.index) c.args.key.now) c.self.view_is in
    let old = c.args.self.now in
    let key = c.args.key.now in
    let lines = block_lines c.seek.new.self old.index block in
    let line : pair_at (pairs_over c.seek.new.self) (position_over c.seek.new.self) ≡ Some (c.in-Some.field-0-0.now, c.in-Some.value.now) = sym c.current.ensures ∙ ap pair_of c.in-Some.is in
    record {
      moves = moves_enters {Way = IsKeyPosition (g.C.Cmp.accepts c.args.reader.now.table.now.cmp) (g.C.Cmp.cmp c.args.reader.now.table.now.cmp) key} {to = λ pairs _. seek_position (g.C.Cmp.cmp c.args.reader.now.table.now.cmp) pairs key} {Part_step = ToKey g.C.Cmp key} old refl refl (λ parts position fit is_there. (fit, refl)) (λ bytes out sought. sought)
          (enters_own old _ c.from_residual-in_err-handle.result lines (ap (λ z. z.cmp) block) (ap inner_position c.leave.ensures) c.from_residual-in_err-handle.ensures.1 (λ status is.
          let code = ap (λ z. z.code) is ∙ c.in_err-handle.ensures.err.0 in
          inr (
            code,
            λ bytes. (
              λ parts position right fit indexed. line_lacks {status = status} c.seek.new.self right (lines ∙ indexed.lines) (unnamed (names_none line c.in_err-handle.ensures.err.1) code),
              seeks_lacking ((TheImpl.ghosts g.dyn-1).codings c.args.reader.now.compressors.now) (g.C.Cmp.cmp c.args.reader.now.table.now.cmp) bytes (pairs_over old.index) key (line_for g.C.Cmp key old) (unnamed (names_none (line_by lines ok line) c.in_err-handle.ensures.err.1) code),
            ),
          )));
      same = record { table = refl; compressors = refl; env = refl; cache = refl };
    }

pub returns : goal.returns
returns g c =
    let block = c.in_ok-seek.ensures.block ∙ ap (λ z. z.index.block) c.self.view_is in
    let old = c.args.self.now in
    record {
      moves = moves_enters {Way = IsKeyPosition (g.C.Cmp.accepts c.args.reader.now.table.now.cmp) (g.C.Cmp.cmp c.args.reader.now.table.now.cmp) c.args.key.now} {to = λ pairs _. seek_position (g.C.Cmp.cmp c.args.reader.now.table.now.cmp) pairs c.args.key.now} old (block_lines c.seek.new.self old.index block) (ap (λ z. z.cmp) block)
          (λ parts position fit is_there. (fit, refl)) (λ bytes out. sought_along g.C.Cmp ((TheImpl.ghosts g.dyn-1).codings c.args.reader.now.compressors.now) (g.C.Cmp.cmp c.args.reader.now.table.now.cmp) bytes c.args.key.now old (record old { index = c.seek.new.self; inner = c.leave.new.inner }) out (block_lines c.seek.new.self old.index block) (ap (λ z. z.cmp) block)) c.enter.ensures.enters;
      same = c.enter.ensures.same;
    }

pub returns-in_err-seek : goal.returns-in_err-seek
returns-in_err-seek g c =
    let block = c.in_err-seek.ensures.block ∙ ap (λ z. z.index.block) c.self.view_is in
    let old = c.args.self.now in
    let key = c.args.key.now in
    record {
      moves = moves_enters {Way = IsKeyPosition (g.C.Cmp.accepts c.args.reader.now.table.now.cmp) (g.C.Cmp.cmp c.args.reader.now.table.now.cmp) key} {to = λ pairs _. seek_position (g.C.Cmp.cmp c.args.reader.now.table.now.cmp) pairs key} {Part_step = ToKey g.C.Cmp key} old refl refl (λ parts position fit is_there. (fit, refl)) (λ bytes out sought. sought)
          (enters_memory old _ c.from_residual.result c.from_residual.ensures.1 c.in_err-seek.ensures.cause (KeepsDisk-refl g.E.Env c.args.reader.now.env.now) refl (GainsBlocks-refl c.args.reader.now.table.now.id _ c.args.reader.now.cache.now) (block_lines c.seek.new.self old.index block) (ap (λ z. z.cmp) block) (ap inner_position c.leave.ensures));
      same = record { table = refl; compressors = refl; env = refl; cache = refl };
    }

pub enter-requires : goal.enter-requires
enter-requires g c =
    record {
      none = c.leave.ensures;
      line = c.in_ok-seek.ensures.ok ∙ ap (λ block. seek_position (g.C.Cmp.cmp block.cmp) (pairs_of None block.entries) c.args.key.now) (sym c.in_ok-seek.ensures.block);
      names = names_one c.in_ok-handle.handle (sym c.current.ensures ∙ ap pair_of c.in-Some.is) c.in_ok-handle.ensures.ok.1;
      fits = c.in_ok-handle.ensures.ok.0;
    }
