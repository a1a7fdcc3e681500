use Rattle.std.specs.Prelude.{IfOk, IsTrue}
use Rattle.std.proofs.Common.{◌≡◌, ◌<◌, ◌∙◌, Err, Ok, ap, length, refl, subst, sym, true}
use Rattle.leveldb_base.specs.contracts.cmp.internal.InternalKeyCmpCmp.TheImpl.{ghosts as key_order}
use Rattle.leveldb_version.specs.Walks.VersionIter.{MovesToFile, KeepsTableOrNone}
use Rattle.leveldb_version.proofs.Walks.VersionIterLemmas.{to_file_empty, to_file_made, to_file_past, to_file_refused}
use Rattle.leveldb_version.proofs.version_iter.VersionIter.to_file.Goals as goal

pub returns-then-at-self : goal.returns-then-at-self
returns-then-at-self g c =
    to_file_past _ g.E.Env g.C.Cmp g.FP.FilterPolicy g.K.Compressors.codings c.args.at c.args.to (c.args.env.now, c.args.tables.now) c.args.self.now c.leave.new.self c.leave.ensures.core c.leave.ensures.at (ap (λ f. f.now) c.leave.ensures.files) c.if-at-self.true

pub returns-in_err-step : goal.returns-in_err-step
returns-in_err-step g c =
    let keys = key_order g.row.C g.C.UserCmp g.C.UserCmp-dict g.C.Cmp g.C.Cmp-dict in
    let old = c.args.self.now in
    let turned = c.turn_to.new.self in
    let at : turned.at ≡ c.args.at = c.turn_to.ensures.at in
    let turns = subst (λ n. KeepsTableOrNone old.at old.core n turned.core) (sym at) c.turn_to.ensures.turns in
    let within : turned.at < length old.files.now = subst (λ n. n < length old.files.now) (sym at) c.if-at-self.false in
    subst (λ n. MovesToFile keys g.E.Env g.C.Cmp g.FP.FilterPolicy g.K.Compressors.codings n c.args.to (c.args.env.now, c.args.tables.now) old c.from_residual.result (c.step.new.env, c.step.new.tables) c.step.new.self) at
    (to_file_refused _ g.E.Env g.C.Cmp g.FP.FilterPolicy g.K.Compressors.codings (c.args.env.now, c.args.tables.now) old turned turns (ap (λ f. f.now) c.turn_to.ensures.files) c.args.to c.requires (Err c.in_err-step.field-0.0) (c.step.new.env, c.step.new.tables) c.step.new.self c.in_err-step.ensures within refl c.from_residual.result c.from_residual.ensures.1)

pub returns-then-branch : goal.returns-then-branch
returns-then-branch g c =
    let keys = key_order g.row.C g.C.UserCmp g.C.UserCmp-dict g.C.Cmp g.C.Cmp-dict in
    let old = c.args.self.now in
    let turned = c.turn_to.new.self in
    let at : turned.at ≡ c.args.at = c.turn_to.ensures.at in
    let turns = subst (λ n. KeepsTableOrNone old.at old.core n turned.core) (sym at) c.turn_to.ensures.turns in
    let within : turned.at < length old.files.now = subst (λ n. n < length old.files.now) (sym at) c.if-at-self.false in
    subst (λ n. MovesToFile keys g.E.Env g.C.Cmp g.FP.FilterPolicy g.K.Compressors.codings n c.args.to (c.args.env.now, c.args.tables.now) old (Ok true) (c.step.new.env, c.step.new.tables) c.step.new.self) at
    (subst (λ r. MovesToFile keys g.E.Env g.C.Cmp g.FP.FilterPolicy g.K.Compressors.codings turned.at c.args.to (c.args.env.now, c.args.tables.now) old r (c.step.new.env, c.step.new.tables) c.step.new.self) (c.in_ok-step.was ∙ ap Ok c.if-branch.true)
    (to_file_made _ g.E.Env g.C.Cmp g.FP.FilterPolicy g.K.Compressors.codings (c.args.env.now, c.args.tables.now) old turned turns (ap (λ f. f.now) c.turn_to.ensures.files) c.args.to c.requires c.step.result (c.step.new.env, c.step.new.tables) c.step.new.self c.step.ensures within
    (subst (λ r. IfOk r IsTrue) (sym (c.in_ok-step.was ∙ ap Ok c.if-branch.true)) refl)))

pub returns : goal.returns
returns g c =
    let keys = key_order g.row.C g.C.UserCmp g.C.UserCmp-dict g.C.Cmp g.C.Cmp-dict in
    let old = c.args.self.now in
    let turned = c.turn_to.new.self in
    let at : turned.at ≡ c.args.at = c.turn_to.ensures.at in
    let turns = subst (λ n. KeepsTableOrNone old.at old.core n turned.core) (sym at) c.turn_to.ensures.turns in
    let within : turned.at < length old.files.now = subst (λ n. n < length old.files.now) (sym at) c.if-at-self.false in
    subst (λ n. MovesToFile keys g.E.Env g.C.Cmp g.FP.FilterPolicy g.K.Compressors.codings n c.args.to (c.args.env.now, c.args.tables.now) old c.err.result (c.step.new.env, c.step.new.tables) c.step.new.self) at
    (to_file_empty _ g.E.Env g.C.Cmp g.FP.FilterPolicy g.K.Compressors.codings (c.args.env.now, c.args.tables.now) old turned turns (ap (λ f. f.now) c.turn_to.ensures.files) c.args.to c.requires c.step.result (c.step.new.env, c.step.new.tables) c.step.new.self c.step.ensures within (c.in_ok-step.was ∙ ap Ok c.if-branch.false) c.err.result c.err.ensures.code)
