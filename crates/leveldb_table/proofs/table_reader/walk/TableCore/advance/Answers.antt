use Rattle.std.proofs.Common.{true, sym, ◌∙◌, ap, subst}
use Rattle.leveldb_env.specs.contracts.compressor.CompressorListCompressors.TheImpl
use Rattle.leveldb_table.specs.BlockWalk.{pairs_over, position_over}
use Rattle.leveldb_table.specs.TableReaderWalk.{IsAtPairOrNone, inner_position, inner_pairs}
use Rattle.leveldb_table.proofs.TableReaderWalkLemmas.{after_none, after_last, none_there, not_none, block_lines, moves_enters}
use Rattle.leveldb_table.proofs.TableReaderMovesLemmas.{moves_inside, forward_first, forward_inside, forward_next}
use Rattle.leveldb_table.proofs.table_reader.walk.TableCore.advance.Goals as goal
use Rattle.leveldb_table.proofs.table_reader.walk.TableCore.advance.Goals.{then-not-valid, else-not-valid+in_ok-step_forward+else-branch}

pub returns-then-branch-clause-moves : goal.returns-then-branch-clause-moves
returns-then-branch-clause-moves g c =
    let old = c.args.self.now in
    let new = c.step_forward.new.self in
    let step = c.in_ok-step_forward.ensures in
    let some = not_none (inner_position old.inner) (sym c.valid.ensures ∙ c.if-not-valid.false) in
    let there = sym step.there ∙ c.if-branch.true in
    moves_inside old new true some step.index step.pairs step.ok there
    (λ bytes. forward_inside g.C.Cmp ((TheImpl.ghosts g.dyn-1).codings c.args.reader.now.compressors.now) (g.C.Cmp.cmp c.args.reader.now.table.now.cmp) bytes old new some step.index step.pairs step.ok there)

pub returns-clause-moves : goal.returns-clause-moves
returns-clause-moves g c =
    let old = c.args.self.now in
    elim c.if-not-valid.branch [
      | then-not-valid w ↦
          moves_enters old (ap (λ z. pairs_over z.index) w.self-is ∙ block_lines w.reset.new.self old.index (w.reset.ensures.block ∙ ap (λ z. z.index.block) c.self.view_is)) (ap (λ z. z.index.block.cmp) w.self-is ∙ ap (λ z. z.cmp) (w.reset.ensures.block ∙ ap (λ z. z.index.block) c.self.view_is))
          (λ parts position fit is_there. after_none parts (position_over c.if-not-valid.self.index) (position_over old.index) (inner_pairs old.inner) (inner_position old.inner) position (ap (λ z. position_over z.index) w.self-is ∙ w.reset.ensures.no_position)
          (none_there (inner_position old.inner) (sym c.valid.ensures ∙ w.if-not-valid.true)) is_there.at)
          (λ bytes out. forward_first g.C.Cmp ((TheImpl.ghosts g.dyn-1).codings c.args.reader.now.compressors.now) (g.C.Cmp.cmp c.args.reader.now.table.now.cmp) bytes old c.if-not-valid.self out (ap (λ z. pairs_over z.index) w.self-is ∙ block_lines w.reset.new.self old.index (w.reset.ensures.block ∙ ap (λ z. z.index.block) c.self.view_is)) (ap (λ z. position_over z.index) w.self-is ∙ w.reset.ensures.no_position)
          (none_there (inner_position old.inner) (sym c.valid.ensures ∙ w.if-not-valid.true))) c.to_next_block.ensures.enters
      | else-not-valid+in_ok-step_forward+else-branch w ↦
          let none = none_there (inner_position w.step_forward.new.self.inner) (sym w.in_ok-step_forward.ensures.there ∙ w.if-branch.false) in
          let index = ap (λ z. z.index) w.self-is ∙ w.in_ok-step_forward.ensures.index in
          moves_enters old (ap pairs_over index) (ap (λ z. z.block.cmp) index)
          (λ parts position fit is_there. after_last parts (position_over c.if-not-valid.self.index) (inner_pairs old.inner) (inner_position old.inner) position (not_none (inner_position old.inner) (sym c.valid.ensures ∙ w.if-not-valid.false))
          (sym w.in_ok-step_forward.ensures.ok ∙ none) (subst (λ z. IsAtPairOrNone parts z (inner_pairs old.inner) (inner_position old.inner) position) (ap position_over (sym index)) is_there.at))
          (λ bytes out. forward_next g.C.Cmp ((TheImpl.ghosts g.dyn-1).codings c.args.reader.now.compressors.now) (g.C.Cmp.cmp c.args.reader.now.table.now.cmp) bytes old c.if-not-valid.self out index (not_none (inner_position old.inner) (sym c.valid.ensures ∙ w.if-not-valid.false)) (sym w.in_ok-step_forward.ensures.ok ∙ none)) c.to_next_block.ensures.enters
    ]
