use Rattle.std.proofs.Common.{Err, Ok, ap, arith, sym, ◌∙◌}
use Rattle.std.proofs.lemmas.Result.{IfOk-from_err}
use Rattle.leveldb_base.specs.Types.{previous_position}
use Rattle.leveldb_version.proofs.Walks.VersionIterBackLemmas.{walk_back_inside, walk_block_before, walk_file_before, walk_no_pair}
use Rattle.leveldb_version.proofs.Walks.VersionIterLemmas.{here_some, moves_inside, moves_then, told_here, told_inside, told_moved, walk_refused}
use Rattle.leveldb_version.proofs.version_iter.VersionIterWalkReadTables.prev.Goals as goal

pub returns-in_err-back_inside-clause-moves : goal.returns-in_err-back_inside-clause-moves
returns-in_err-back_inside-clause-moves g c =
    walk_refused _ g.E.Env g.C.Cmp g.FP.FilterPolicy g.K.Compressors.codings _ _ (c.args.env.now, c.args.tables.now) c.args.self.now c.from_residual.result (c.args.env.now, c.args.tables.now) (record c.args.self.now { core = c.back_inside.new.core }) c.from_residual.ensures.1
    (moves_inside _ g.E.Env g.C.Cmp g.FP.FilterPolicy g.K.Compressors.codings (λ _. previous_position) (c.args.env.now, c.args.tables.now) c.args.self.now (Err c.in_err-back_inside.field-0.0) c.back_inside.new.core c.in_err-back_inside.ensures)

pub returns-then-branch-clause-moves : goal.returns-then-branch-clause-moves
returns-then-branch-clause-moves g c =
    walk_back_inside _ g.E.Env g.C.Cmp g.FP.FilterPolicy g.K.Compressors.codings (c.args.env.now, c.args.tables.now) c.args.self.now c.back_inside.result c.back_inside.new.core c.back_inside.ensures (c.in_ok-back_inside.was ∙ ap Ok c.if-branch.true) (sym c.is_at_pair.ensures ∙ c.if-not-is_at_pair.false)

pub returns-in_err-step-clause-moves : goal.returns-in_err-step-clause-moves
returns-in_err-step-clause-moves g c =
    walk_refused _ g.E.Env g.C.Cmp g.FP.FilterPolicy g.K.Compressors.codings _ _ (c.args.env.now, c.args.tables.now) c.args.self.now c.from_residual-in_err-step.result (c.step.new.env, c.step.new.tables) c.step.new.self c.from_residual-in_err-step.ensures.1
    (moves_then _ g.E.Env g.C.Cmp g.FP.FilterPolicy g.K.Compressors.codings (λ _. previous_position) (c.args.env.now, c.args.tables.now) c.args.self.now c.back_inside.result c.back_inside.new.core c.back_inside.ensures (Err c.in_err-step.field-0.0) (c.step.new.env, c.step.new.tables) c.step.new.self c.in_err-step.ensures.moves)

pub returns-then-branch-2-clause-moves : goal.returns-then-branch-2-clause-moves
returns-then-branch-2-clause-moves g c =
    walk_block_before _ g.E.Env g.C.Cmp g.FP.FilterPolicy g.K.Compressors.codings (c.args.env.now, c.args.tables.now) c.args.self.now c.back_inside.result c.back_inside.new.core c.back_inside.ensures (c.in_ok-back_inside.was ∙ ap Ok c.if-branch.false) (sym c.is_at_pair.ensures ∙ c.if-not-is_at_pair.false)
    c.step.result (c.step.new.env, c.step.new.tables) c.step.new.self c.step.ensures (c.in_ok-step.was ∙ ap Ok c.if-branch-2.true)

pub returns-then-self-eq0-clause-moves : goal.returns-then-self-eq0-clause-moves
returns-then-self-eq0-clause-moves g c =
    walk_no_pair _ g.E.Env g.C.Cmp g.FP.FilterPolicy g.K.Compressors.codings (c.args.env.now, c.args.tables.now) c.args.self.now c.back_inside.result c.back_inside.new.core c.back_inside.ensures (c.in_ok-back_inside.was ∙ ap Ok c.if-branch.false) (sym c.is_at_pair.ensures ∙ c.if-not-is_at_pair.false)
    c.step.result (c.step.new.env, c.step.new.tables) c.step.new.self c.step.ensures (c.in_ok-step.was ∙ ap Ok c.if-branch-2.false) (sym c.step.ensures.at ∙ c.if-self-eq0.true)

pub returns-clause-moves : goal.returns-clause-moves
returns-clause-moves g c =
    walk_file_before _ g.E.Env g.C.Cmp g.FP.FilterPolicy g.K.Compressors.codings (c.args.env.now, c.args.tables.now) c.args.self.now c.back_inside.result c.back_inside.new.core c.back_inside.ensures (c.in_ok-back_inside.was ∙ ap Ok c.if-branch.false) (sym c.is_at_pair.ensures ∙ c.if-not-is_at_pair.false)
    c.step.result (c.step.new.env, c.step.new.tables) c.step.new.self c.step.ensures (c.in_ok-step.was ∙ ap Ok c.if-branch-2.false) _ (omega (arith, c.step.ensures.at, c.if-self-eq0.false))
    c.to_file.result (c.to_file.new.env, c.to_file.new.tables) c.to_file.new.self c.to_file.ensures

pub returns-then-not-is_at_pair-clause-valid : goal.returns-then-not-is_at_pair-clause-valid
returns-then-not-is_at_pair-clause-valid g c = sym c.if-not-is_at_pair.true ∙ c.is_at_pair.ensures ∙ sym (here_some c.args.self.now.core)

pub returns-in_err-back_inside-clause-valid : goal.returns-in_err-back_inside-clause-valid
returns-in_err-back_inside-clause-valid g c = IfOk-from_err c.from_residual.result _ c.from_residual.ensures.0

pub returns-then-branch-clause-valid : goal.returns-then-branch-clause-valid
returns-then-branch-clause-valid g c =
    told_inside (λ _. previous_position) c.args.self.now.core c.back_inside.result c.back_inside.new.core c.back_inside.ensures (c.in_ok-back_inside.was ∙ ap Ok c.if-branch.true)

pub returns-in_err-step-clause-valid : goal.returns-in_err-step-clause-valid
returns-in_err-step-clause-valid g c = IfOk-from_err c.from_residual-in_err-step.result _ c.from_residual-in_err-step.ensures.0

pub returns-then-branch-2-clause-valid : goal.returns-then-branch-2-clause-valid
returns-then-branch-2-clause-valid g c = told_moved c.step.new.self.core (c.in_ok-step.was ∙ ap Ok c.if-branch-2.true) c.step.ensures.there

pub returns-then-self-eq0-clause-valid : goal.returns-then-self-eq0-clause-valid
returns-then-self-eq0-clause-valid g c = told_moved c.step.new.self.core (c.in_ok-step.was ∙ ap Ok c.if-branch-2.false) c.step.ensures.there

pub returns-clause-valid : goal.returns-clause-valid
returns-clause-valid g c = told_here c.to_file.new.self.core c.to_file.result c.to_file.ensures.there
