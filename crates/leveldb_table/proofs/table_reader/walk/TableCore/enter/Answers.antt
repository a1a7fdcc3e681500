use Rattle.std.proofs.Common.{◌≡◌, List, ℕ, None, sym, ◌∙◌, ap, subst}
use Rattle.leveldb_env.specs.contracts.compressor.CompressorListCompressors.TheImpl
use Rattle.leveldb_table.specs.BlockCache.{HoldsOnlyOf}
use Rattle.leveldb_table.specs.TableReaderBlocks.{IsAfterLine}
use Rattle.leveldb_table.specs.TableBlock.{FileHas, lacking}
use Rattle.leveldb_table.specs.BlockWalk.{pairs_over, position_over}
use Rattle.leveldb_table.specs.TableReaderWalk.{IsAtPosition, inner_position}
use Rattle.leveldb_table.proofs.TableBlockLemmas.{reads_weaker, reads_refused, reads_ok}
use Rattle.leveldb_table.proofs.TableReaderWalkLemmas.{ok_refused, err_holds, none_there, line_lacks}
use Rattle.leveldb_table.proofs.TableReaderMovesLemmas.{line_there, IsSought, is_sought, sought_in, sought_after, enters_then, enters_ok, enters_refused, sought_inside, sought_next, sought_lacking}
use Rattle.leveldb_table.proofs.TableReadsLemmas.{IsSameReader-trans, enters_same}
use Rattle.leveldb_table.proofs.table_reader.walk.TableCore.enter.Goals as goal

pub returns-in_err-load : goal.returns-in_err-load
returns-in_err-load g c =
    let codings = (TheImpl.ghosts g.dyn-1).codings c.args.reader.now.compressors.now in
    let cmp = g.C.Cmp.cmp c.args.reader.now.table.now.cmp in
    let read = c.in_err-load.ensures in
    let none : inner_position c.load.new.self.inner ≡ None = ap inner_position (read.err ∙ c.requires.none) in
    let old = c.args.self.now in
    record {
      enters = record {
        reads = reads_refused g.E.Env c.from_residual.result c.from_residual.ensures.1
            (reads_weaker g.E.Env _ (λ status lacks. (
              lacks.0,
              λ bytes has. (
                λ parts position right fit holds indexed. line_lacks old.index right indexed.lines (lacking c.args.handle c.requires.names (lacks.1 bytes has)),
                λ holds. sought_lacking g.C.Cmp codings cmp bytes c.args.key.now old c.requires.line (lacking c.args.handle c.requires.names (lacks.1 bytes has)),
              ),
            )) read.reads);
        ok = λ bytes has parts position right fit holds indexed. ok_refused _ _ c.from_residual.result c.from_residual.ensures.1;
        steps = λ bytes has holds. ok_refused _ _ c.from_residual.result c.from_residual.ensures.1;
        err = err_holds c.from_residual.result none;
        gathers = read.gathers;
        same_lines = ap pairs_over read.index;
        same_order = ap (λ z. z.block.cmp) read.index;
      };
      same = read.same;
    }

pub returns-then-branch : goal.returns-then-branch
returns-then-branch g c =
    let codings = (TheImpl.ghosts g.dyn-1).codings c.args.reader.now.compressors.now in
    let cmp = g.C.Cmp.cmp c.args.reader.now.table.now.cmp in
    let old = c.args.self.now in
    let new = c.seek_inside.new.self in
    let read = c.in_ok-load.ensures in
    let step = c.in_ok-seek_inside.ensures in
    let sought : (bytes : List ℕ) → FileHas g.E.Env c.args.reader.now.env.now c.args.reader.now.table.now.file bytes → HoldsOnlyOf g.C.Cmp codings cmp c.args.reader.now.table.now.id bytes c.args.reader.now.cache.now → IsSought g.C.Cmp codings cmp bytes c.args.key.now old new = λ bytes has holds.
    is_sought g.C.Cmp codings cmp bytes c.args.key.now old c.load.new.self new c.args.handle c.requires.fits c.requires.names read.index (read.block bytes has holds) step.index step.block step.pairs step.ok in
    record {
      enters = record {
        reads = reads_ok g.E.Env read.reads.kept_disk read.reads.cause.ok;
        ok = λ bytes has parts position right fit holds indexed. subst (IsAtPosition g.C.Cmp cmp parts new) (sym fit.1)
            (sought_in c.args.key.now right indexed c.requires.line (g.met.C.Cmp.preorder c.args.reader.now.table.now.cmp) fit.0 new (line_there (pairs_over old.index) (position_over old.index) c.args.handle c.requires.names) (sought bytes has holds)
            (sym step.there ∙ c.if-branch.true));
        steps = λ bytes has holds. sought_inside g.C.Cmp codings cmp bytes c.args.key.now old new c.requires.line (line_there (pairs_over old.index) (position_over old.index) c.args.handle c.requires.names) (sought bytes has holds) (sym step.there ∙ c.if-branch.true);
        err = tt;
        gathers = read.gathers;
        same_lines = ap pairs_over (step.index ∙ read.index);
        same_order = ap (λ z. z.block.cmp) (step.index ∙ read.index);
      };
      same = read.same;
    }

pub returns-in_err-to_next_block : goal.returns-in_err-to_next_block
returns-in_err-to_next_block g c =
    let codings = (TheImpl.ghosts g.dyn-1).codings c.args.reader.now.compressors.now in
    let cmp = g.C.Cmp.cmp c.args.reader.now.table.now.cmp in
    let old = c.args.self.now in
    let mid = c.seek_inside.new.self in
    let read = c.in_ok-load.ensures in
    let step = c.in_ok-seek_inside.ensures in
    record {
      enters = enters_refused c.from_residual-in_err-to_next_block.result c.from_residual-in_err-to_next_block.ensures.1
          (enters_then old read.reads.kept_disk read.reads.cause.ok read.gathers (ap pairs_over (step.index ∙ read.index)) (ap (λ z. z.block.cmp) (step.index ∙ read.index))
          (λ bytes has parts position right fit holds indexed. subst (IsAfterLine parts (position_over mid.index)) (sym fit.1)
          (sought_after c.args.key.now right indexed c.requires.line (g.met.C.Cmp.preorder c.args.reader.now.table.now.cmp) fit.0 mid (line_there (pairs_over old.index) (position_over old.index) c.args.handle c.requires.names)
          (is_sought g.C.Cmp codings cmp bytes c.args.key.now old c.load.new.self mid c.args.handle c.requires.fits c.requires.names read.index (read.block bytes has holds) step.index step.block step.pairs step.ok)
          (none_there (inner_position mid.inner) (sym step.there ∙ c.if-branch.false))))
          (λ bytes has holds out. sought_next g.C.Cmp codings cmp bytes c.args.key.now old mid out c.requires.line (line_there (pairs_over old.index) (position_over old.index) c.args.handle c.requires.names)
          (is_sought g.C.Cmp codings cmp bytes c.args.key.now old c.load.new.self mid c.args.handle c.requires.fits c.requires.names read.index (read.block bytes has holds) step.index step.block step.pairs step.ok)
          (none_there (inner_position mid.inner) (sym step.there ∙ c.if-branch.false))) (enters_same g.C.Cmp g.E.Env (TheImpl.ghosts g.dyn-1).codings c.args.reader.now c.load.new.reader c.to_next_block.new.reader mid c.to_next_block.new.self _ read.same c.in_err-to_next_block.ensures.enters));
      same = IsSameReader-trans read.same c.in_err-to_next_block.ensures.same;
    }

pub returns : goal.returns
returns g c =
    let codings = (TheImpl.ghosts g.dyn-1).codings c.args.reader.now.compressors.now in
    let cmp = g.C.Cmp.cmp c.args.reader.now.table.now.cmp in
    let old = c.args.self.now in
    let mid = c.seek_inside.new.self in
    let read = c.in_ok-load.ensures in
    let step = c.in_ok-seek_inside.ensures in
    record {
      enters = enters_ok tt
          (enters_then old read.reads.kept_disk read.reads.cause.ok read.gathers (ap pairs_over (step.index ∙ read.index)) (ap (λ z. z.block.cmp) (step.index ∙ read.index))
          (λ bytes has parts position right fit holds indexed. subst (IsAfterLine parts (position_over mid.index)) (sym fit.1)
          (sought_after c.args.key.now right indexed c.requires.line (g.met.C.Cmp.preorder c.args.reader.now.table.now.cmp) fit.0 mid (line_there (pairs_over old.index) (position_over old.index) c.args.handle c.requires.names)
          (is_sought g.C.Cmp codings cmp bytes c.args.key.now old c.load.new.self mid c.args.handle c.requires.fits c.requires.names read.index (read.block bytes has holds) step.index step.block step.pairs step.ok)
          (none_there (inner_position mid.inner) (sym step.there ∙ c.if-branch.false))))
          (λ bytes has holds out. sought_next g.C.Cmp codings cmp bytes c.args.key.now old mid out c.requires.line (line_there (pairs_over old.index) (position_over old.index) c.args.handle c.requires.names)
          (is_sought g.C.Cmp codings cmp bytes c.args.key.now old c.load.new.self mid c.args.handle c.requires.fits c.requires.names read.index (read.block bytes has holds) step.index step.block step.pairs step.ok)
          (none_there (inner_position mid.inner) (sym step.there ∙ c.if-branch.false))) (enters_same g.C.Cmp g.E.Env (TheImpl.ghosts g.dyn-1).codings c.args.reader.now c.load.new.reader c.to_next_block.new.reader mid c.to_next_block.new.self _ read.same c.in_ok-to_next_block.ensures.enters));
      same = IsSameReader-trans read.same c.in_ok-to_next_block.ensures.same;
    }
