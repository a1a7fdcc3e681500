use Rattle.std.specs.Prelude.{◌&&◌, nat_le}
use Rattle.std.proofs.Common.{◌∙◌, Err, Ok, ap, arith, length, refl, subst, sym}
use Rattle.leveldb_base.specs.CmpLaws.{internal_preorder, total_order}
use Rattle.leveldb_base.specs.KeyTypes.{user_part}
use Rattle.leveldb_base.specs.contracts.cmp.internal.InternalKeyCmpCmp.TheImpl.{ghosts as key_order}
use Rattle.leveldb_version.proofs.Walks.VersionIterLemmas.{walk_refused}
use Rattle.leveldb_version.proofs.Walks.VersionIterSeekLemmas.{Sought, at_same, moves_on, moves_turned, seeks_after, seeks_in, seeks_none}
use Rattle.leveldb_version.specs.Walks.VersionIter.{KeepsTableOrNone}
use Rattle.leveldb_version.proofs.version_iter.VersionIterWalkReadTables.seek.Goals as goal
use Rattle.leveldb_version.proofs.version_iter.VersionIterWalkReadTables.seek.Goals.{else-not-branch, then-not-branch+in_ok-to_file}

pub returns-then-at-self : goal.returns-then-at-self
returns-then-at-self g c = record {
  moves = seeks_none _ g.E.Env g.C.Cmp g.FP.FilterPolicy g.K.Compressors.codings (λ cmp. refl) (λ cmp. total_order (g.met.C.Cmp.preorder cmp) (g.met.C.UserCmp.accepts_all cmp)) (λ cmp. internal_preorder (g.met.C.Cmp.preorder cmp)) (λ cmp key accepted. ap (λ b. nat_le 8 (length key) && b) (sym (g.met.C.UserCmp.accepts_all cmp (user_part key))) ∙ accepted) (c.args.env.now, c.args.tables.now) c.args.self.now c.args.key c.file_at_or_after-at.result c.file_at_or_after-at.ensures.bound c.file_at_or_after-at.ensures.parts c.leave.new.self c.leave.ensures.core c.leave.ensures.at (ap (λ f. f.now) c.leave.ensures.files) c.if-at-self.true;
}

pub returns-in_err-step : goal.returns-in_err-step
returns-in_err-step g c = record {
  moves = walk_refused _ g.E.Env g.C.Cmp g.FP.FilterPolicy g.K.Compressors.codings _ _ (c.args.env.now, c.args.tables.now) c.args.self.now c.from_residual.result (c.step.new.env, c.step.new.tables) c.step.new.self c.from_residual.ensures.1
      (moves_turned _ g.E.Env g.C.Cmp g.FP.FilterPolicy g.K.Compressors.codings (c.args.env.now, c.args.tables.now) c.args.self.now c.turn_to.new.self (subst (λ i. KeepsTableOrNone c.args.self.now.at c.args.self.now.core i c.turn_to.new.self.core) (sym c.turn_to.ensures.at) c.turn_to.ensures.turns) (ap (λ f. f.now) c.turn_to.ensures.files)
      (Err c.in_err-step.field-0.0) (c.step.new.env, c.step.new.tables) c.step.new.self c.in_err-step.ensures.moves);
}

pub returns-in_err-to_file : goal.returns-in_err-to_file
returns-in_err-to_file g c = record {
  moves = walk_refused _ g.E.Env g.C.Cmp g.FP.FilterPolicy g.K.Compressors.codings _ _ (c.args.env.now, c.args.tables.now) c.args.self.now c.from_residual-in_err-to_file.result (c.to_file.new.env, c.to_file.new.tables) c.to_file.new.self c.from_residual-in_err-to_file.ensures.1
      (moves_on _ g.E.Env g.C.Cmp g.FP.FilterPolicy g.K.Compressors.codings (c.args.env.now, c.args.tables.now) c.args.self.now (Ok c.in_ok-step.field-0) (c.step.new.env, c.step.new.tables) c.step.new.self
      (moves_turned _ g.E.Env g.C.Cmp g.FP.FilterPolicy g.K.Compressors.codings (c.args.env.now, c.args.tables.now) c.args.self.now c.turn_to.new.self (subst (λ i. KeepsTableOrNone c.args.self.now.at c.args.self.now.core i c.turn_to.new.self.core) (sym c.turn_to.ensures.at) c.turn_to.ensures.turns) (ap (λ f. f.now) c.turn_to.ensures.files)
      (Ok c.in_ok-step.field-0) (c.step.new.env, c.step.new.tables) c.step.new.self c.in_ok-step.ensures.moves)
      (Err c.in_err-to_file.field-0.0) (c.to_file.new.env, c.to_file.new.tables) c.to_file.new.self c.in_err-to_file.ensures.moves);
}

pub returns : goal.returns
returns g c = elim c.if-not-branch.branch [
  | then-not-branch+in_ok-to_file w ↦ record {
    moves = at_same (λ e t v. Sought (key_order g.row.C g.C.UserCmp g.C.UserCmp-dict g.C.Cmp g.C.Cmp-dict) g.E.Env g.C.Cmp g.FP.FilterPolicy g.K.Compressors.codings (λ cmp. refl) (λ cmp. total_order (g.met.C.Cmp.preorder cmp) (g.met.C.UserCmp.accepts_all cmp)) (λ cmp. internal_preorder (g.met.C.Cmp.preorder cmp)) (λ cmp key accepted. ap (λ b. nat_le 8 (length key) && b) (sym (g.met.C.UserCmp.accepts_all cmp (user_part key))) ∙ accepted) (c.args.env.now, c.args.tables.now) c.args.self.now c.args.key c.file_at_or_after-at.result c.file_at_or_after-at.ensures.bound c.file_at_or_after-at.ensures.parts (e, t) v) w.env-is w.tables-is w.self-is
        (seeks_after _ g.E.Env g.C.Cmp g.FP.FilterPolicy g.K.Compressors.codings (λ cmp. refl) (λ cmp. total_order (g.met.C.Cmp.preorder cmp) (g.met.C.UserCmp.accepts_all cmp)) (λ cmp. internal_preorder (g.met.C.Cmp.preorder cmp)) (λ cmp key accepted. ap (λ b. nat_le 8 (length key) && b) (sym (g.met.C.UserCmp.accepts_all cmp (user_part key))) ∙ accepted) (c.args.env.now, c.args.tables.now) c.args.self.now c.args.key c.file_at_or_after-at.result c.file_at_or_after-at.ensures.bound c.file_at_or_after-at.ensures.parts (omega (arith, c.file_at_or_after-at.ensures.bound, c.if-at-self.false)) c.turn_to.new.self (subst (λ i. KeepsTableOrNone c.args.self.now.at c.args.self.now.core i c.turn_to.new.self.core) (sym c.turn_to.ensures.at) c.turn_to.ensures.turns) c.turn_to.ensures.at (ap (λ f. f.now) c.turn_to.ensures.files) c.in_ok-step.field-0 (c.step.new.env, c.step.new.tables) c.step.new.self c.in_ok-step.ensures w.if-not-branch.true w.in_ok-to_file.field-0 (w.to_file.new.env, w.to_file.new.tables) w.to_file.new.self w.in_ok-to_file.ensures);
  }
  | else-not-branch w ↦ record {
    moves = at_same (λ e t v. Sought (key_order g.row.C g.C.UserCmp g.C.UserCmp-dict g.C.Cmp g.C.Cmp-dict) g.E.Env g.C.Cmp g.FP.FilterPolicy g.K.Compressors.codings (λ cmp. refl) (λ cmp. total_order (g.met.C.Cmp.preorder cmp) (g.met.C.UserCmp.accepts_all cmp)) (λ cmp. internal_preorder (g.met.C.Cmp.preorder cmp)) (λ cmp key accepted. ap (λ b. nat_le 8 (length key) && b) (sym (g.met.C.UserCmp.accepts_all cmp (user_part key))) ∙ accepted) (c.args.env.now, c.args.tables.now) c.args.self.now c.args.key c.file_at_or_after-at.result c.file_at_or_after-at.ensures.bound c.file_at_or_after-at.ensures.parts (e, t) v) w.env-is w.tables-is w.self-is
        (seeks_in _ g.E.Env g.C.Cmp g.FP.FilterPolicy g.K.Compressors.codings (λ cmp. refl) (λ cmp. total_order (g.met.C.Cmp.preorder cmp) (g.met.C.UserCmp.accepts_all cmp)) (λ cmp. internal_preorder (g.met.C.Cmp.preorder cmp)) (λ cmp key accepted. ap (λ b. nat_le 8 (length key) && b) (sym (g.met.C.UserCmp.accepts_all cmp (user_part key))) ∙ accepted) (c.args.env.now, c.args.tables.now) c.args.self.now c.args.key c.file_at_or_after-at.result c.file_at_or_after-at.ensures.bound c.file_at_or_after-at.ensures.parts (omega (arith, c.file_at_or_after-at.ensures.bound, c.if-at-self.false)) c.turn_to.new.self (subst (λ i. KeepsTableOrNone c.args.self.now.at c.args.self.now.core i c.turn_to.new.self.core) (sym c.turn_to.ensures.at) c.turn_to.ensures.turns) c.turn_to.ensures.at (ap (λ f. f.now) c.turn_to.ensures.files) c.in_ok-step.field-0 (c.step.new.env, c.step.new.tables) c.step.new.self c.in_ok-step.ensures w.if-not-branch.false);
  }
]
