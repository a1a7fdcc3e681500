use Rattle.std.proofs.Common.{Err, Ok, ap, arith, length, sym, ◌∙◌}
use Rattle.std.proofs.lemmas.Result.{IfOk-from_err}
use Rattle.leveldb_base.specs.Types.{next_position}
use Rattle.leveldb_version.proofs.Walks.VersionIterForwardLemmas.{walk_next_block, walk_next_file}
use Rattle.leveldb_version.proofs.Walks.VersionIterLemmas.{moves_inside, moves_then, no_some, told_here, told_inside, told_moved, walk_begins, walk_inside, walk_refused}
use Rattle.leveldb_version.proofs.version_iter.VersionIterWalkReadTables.advance.Goals as goal

pub returns-then-not-is_at_pair-clause-moves : goal.returns-then-not-is_at_pair-clause-moves
returns-then-not-is_at_pair-clause-moves g c =
    walk_begins _ g.E.Env g.C.Cmp g.FP.FilterPolicy g.K.Compressors.codings (c.args.env.now, c.args.tables.now) c.args.self.now c.to_file.result (c.to_file.new.env, c.to_file.new.tables) c.to_file.new.self (no_some _ (sym c.if-not-is_at_pair.true ∙ c.is_at_pair.ensures)) c.to_file.ensures

pub returns-in_err-next_inside-clause-moves : goal.returns-in_err-next_inside-clause-moves
returns-in_err-next_inside-clause-moves g c =
    walk_refused _ g.E.Env g.C.Cmp g.FP.FilterPolicy g.K.Compressors.codings _ _ (c.args.env.now, c.args.tables.now) c.args.self.now c.from_residual.result (c.args.env.now, c.args.tables.now) (record c.args.self.now { core = c.next_inside.new.core }) c.from_residual.ensures.1
    (moves_inside _ g.E.Env g.C.Cmp g.FP.FilterPolicy g.K.Compressors.codings next_position (c.args.env.now, c.args.tables.now) c.args.self.now (Err c.in_err-next_inside.field-0.0) c.next_inside.new.core c.in_err-next_inside.ensures)

pub returns-then-branch-clause-moves : goal.returns-then-branch-clause-moves
returns-then-branch-clause-moves g c =
    walk_inside _ g.E.Env g.C.Cmp g.FP.FilterPolicy g.K.Compressors.codings (c.args.env.now, c.args.tables.now) c.args.self.now c.next_inside.result c.next_inside.new.core c.next_inside.ensures (c.in_ok-next_inside.was ∙ ap Ok c.if-branch.true) (sym c.is_at_pair.ensures ∙ c.if-not-is_at_pair.false)

pub returns-in_err-step-clause-moves : goal.returns-in_err-step-clause-moves
returns-in_err-step-clause-moves g c =
    walk_refused _ g.E.Env g.C.Cmp g.FP.FilterPolicy g.K.Compressors.codings _ _ (c.args.env.now, c.args.tables.now) c.args.self.now c.from_residual-in_err-step.result (c.step.new.env, c.step.new.tables) c.step.new.self c.from_residual-in_err-step.ensures.1
    (moves_then _ g.E.Env g.C.Cmp g.FP.FilterPolicy g.K.Compressors.codings next_position (c.args.env.now, c.args.tables.now) c.args.self.now c.next_inside.result c.next_inside.new.core c.next_inside.ensures (Err c.in_err-step.field-0.0) (c.step.new.env, c.step.new.tables) c.step.new.self c.in_err-step.ensures.moves)

pub returns-then-branch-2-clause-moves : goal.returns-then-branch-2-clause-moves
returns-then-branch-2-clause-moves g c =
    walk_next_block _ g.E.Env g.C.Cmp g.FP.FilterPolicy g.K.Compressors.codings (c.args.env.now, c.args.tables.now) c.args.self.now c.next_inside.result c.next_inside.new.core c.next_inside.ensures (c.in_ok-next_inside.was ∙ ap Ok c.if-branch.false) (sym c.is_at_pair.ensures ∙ c.if-not-is_at_pair.false)
    c.step.result (c.step.new.env, c.step.new.tables) c.step.new.self c.step.ensures (c.in_ok-step.was ∙ ap Ok c.if-branch-2.true)

pub returns-clause-moves : goal.returns-clause-moves
returns-clause-moves g c =
    walk_next_file _ g.E.Env g.C.Cmp g.FP.FilterPolicy g.K.Compressors.codings (c.args.env.now, c.args.tables.now) c.args.self.now c.next_inside.result c.next_inside.new.core c.next_inside.ensures (c.in_ok-next_inside.was ∙ ap Ok c.if-branch.false) (sym c.is_at_pair.ensures ∙ c.if-not-is_at_pair.false)
    c.step.result (c.step.new.env, c.step.new.tables) c.step.new.self c.step.ensures (c.in_ok-step.was ∙ ap Ok c.if-branch-2.false) _ (λ within. let moves = c.step.ensures.moves in let stays = moves.stays in omega (arith, within, c.step.ensures.at, c.saturating_add-next.ensures, ap length stays.files))
    c.to_file-2.result (c.to_file-2.new.env, c.to_file-2.new.tables) c.to_file-2.new.self c.to_file-2.ensures

pub returns-then-not-is_at_pair-clause-valid : goal.returns-then-not-is_at_pair-clause-valid
returns-then-not-is_at_pair-clause-valid g c = told_here c.to_file.new.self.core c.to_file.result c.to_file.ensures.there

pub returns-in_err-next_inside-clause-valid : goal.returns-in_err-next_inside-clause-valid
returns-in_err-next_inside-clause-valid g c = IfOk-from_err c.from_residual.result _ c.from_residual.ensures.0

pub returns-then-branch-clause-valid : goal.returns-then-branch-clause-valid
returns-then-branch-clause-valid g c =
    told_inside next_position c.args.self.now.core c.next_inside.result c.next_inside.new.core c.next_inside.ensures (c.in_ok-next_inside.was ∙ ap Ok c.if-branch.true)

pub returns-in_err-step-clause-valid : goal.returns-in_err-step-clause-valid
returns-in_err-step-clause-valid g c = IfOk-from_err c.from_residual-in_err-step.result _ c.from_residual-in_err-step.ensures.0

pub returns-then-branch-2-clause-valid : goal.returns-then-branch-2-clause-valid
returns-then-branch-2-clause-valid g c = told_moved c.step.new.self.core (c.in_ok-step.was ∙ ap Ok c.if-branch-2.true) c.step.ensures.there

pub returns-clause-valid : goal.returns-clause-valid
returns-clause-valid g c = told_here c.to_file-2.new.self.core c.to_file-2.result c.to_file-2.ensures.there
