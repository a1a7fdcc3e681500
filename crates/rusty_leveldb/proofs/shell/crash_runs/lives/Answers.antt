-- Each life joins those before it, with its crash; a refusal is that of a life's memory or of a
-- crash.
use Rattle.std.proofs.Common.{rules, vec_len, vec_capacity, ◌<◌, append-nil, append_assoc, ◌≡◌, ◌+◌, ◌++◌, ◌∷◌, inl, inr, ⊎_elim, [], length, refl, sym, subst, ◌∙◌, ap, ap₂, arith}
use Rattle.std.proofs.lemmas.List.{nil_from_length}
use Rattle.std.proofs.lemmas.Result.{err_from_is_err_and}
use Rattle.leveldb_base.specs.contracts.cmp.internal.InternalKeyCmpCmp.TheImpl.{ghosts as key_order}
use Rattle.leveldb_env.specs.contracts.filter.internal.InternalFilterPolicyFilterPolicy.TheImpl.{ghosts as key_policy}
use Rattle.leveldb_disks.specs.contracts.mem_env.record.RecordEnvEnv.TheImpl.{ghosts}
use Rattle.leveldb_env.specs.Picks.{tails_of}
use Rattle.leveldb_disks.specs.Record.{moment_of, CanCrashTo}
use Rattle.leveldb_env.specs.contracts.compressor.CompressorListCompressors.TheImpl.{ghosts as compressors}
use Rattle.leveldb_store.specs.Tables.BuildTable.{choices_of}
use Rattle.rusty_leveldb.specs.Programs.RunCalls.{LivesByCalls}
use Rattle.rusty_leveldb.specs.Programs.Lives.{IsCrash, IsAlwaysLife, IsLifeOn}
use Rattle.rusty_leveldb.specs.Engines.Engine.{opening_of}
use Rattle.rusty_leveldb.proofs.Programs.Lives.{next_crash, next_same, reports_more, all_reported, says_lives, fails_for}
use Rattle.rusty_leveldb.proofs.shell.crash_runs.lives.Goals as goal
use Rattle.rusty_leveldb.proofs.shell.crash_runs.lives.Goals.{in-Some-moment+in_ok-env, in_default}

pub loop-life-init : goal.loop-life-init
loop-life-init g c =
    let none : c.reserve.new.self.items ≡ [] = c.reserve.ensures.items ∙ c.new-reports.ensures.items in (
      search rules,
      search rules,
      record { first = c.new-env.result; empty = c.new-env.ensures.files; fresh = c.new-env.ensures.fresh; reports_are = rw none refl },
    )

pub unwrap-requires : goal.unwrap-requires
unwrap-requires g c =
    let so_far = c.loop-life.invariant in
    let one_more = ap length c.in-Some.ensures.steps.0 in
    let room : vec_len c.loop-life.reports < vec_capacity c.loop-life.reports = omega (arith, one_more, so_far.0) in
    c.push.ensures.succeeds room

pub loop-life-preserved : goal.loop-life-preserved
loop-life-preserved g c =
    let so_far = c.loop-life.invariant in
    let life = c.in-Some.life in
    let report = c.in_ok-report.report in
    let pushed : c.push.new.self.items ≡ c.loop-life.reports.items ++ report ∷ [] = rw c.unwrap.ensures at c.push.ensures.items in
    let is : IsLifeOn ghosts g.C.Cmp g.FP.FilterPolicy (compressors g.dyn-2).codings (key_order g.row.C g.C.UserCmp g.C.UserCmp-dict g.C.Cmp g.C.Cmp-dict) (key_policy g.row.FP g.FP.FilterPolicy g.FP.FilterPolicy-dict) c.args.name.now c.loop-life.env life report c.live.new.env = record {
      from = c.fail.new.self;
      same = c.fail.ensures.same;
      failing = ap₂ (λ nth done. (nth, done)) c.fail.ensures.nth c.fail.ensures.done ∙ c.unwrap_or-nth.ensures;
      life_is = subst (λ commands. IsAlwaysLife ghosts c.args.name.now c.fail.new.self (opening_of g.C.Cmp g.FP.FilterPolicy (compressors g.dyn-2).codings c.in-Some.life.options) commands report c.live.new.env) c.deref.ensures.value c.in_ok-report.ensures.life;
      calls = subst (λ commands. LivesByCalls ghosts (choices_of g.C.Cmp g.FP.FilterPolicy (key_order g.row.C g.C.UserCmp g.C.UserCmp-dict g.C.Cmp g.C.Cmp-dict) (key_policy g.row.FP g.FP.FilterPolicy g.FP.FilterPolicy-dict) (compressors g.dyn-2).codings) c.args.name.now c.in-Some.life.options (opening_of g.C.Cmp g.FP.FilterPolicy (compressors g.dyn-2).codings c.in-Some.life.options) commands c.fail.new.self report c.live.new.env) c.deref.ensures.value c.in_ok-report.ensures.calls;
    } in
    let more = reports_more g.C.Cmp g.FP.FilterPolicy (compressors g.dyn-2).codings (key_order g.row.C g.C.UserCmp g.C.UserCmp-dict g.C.Cmp g.C.Cmp-dict) (key_policy g.row.FP g.FP.FilterPolicy g.FP.FilterPolicy-dict) c.args.name.now IsCrash so_far.2.first c.loop-life.yielded c.loop-life.reports.items c.loop-life.env c.live.new.env c.match-moment.env life report so_far.2.reports_are is
    (elim c.match-moment.branch [
      | in-Some-moment+in_ok-env w ↦ next_crash IsCrash (moment_of c.loop-life.env) c.moment-start.result w.in-Some-moment.moment c.in-Some.life.moment c.in-Some.life.pick c.live.new.env w.in_ok-env.env c.match-moment.env w.in-Some-moment.is c.moment-start.ensures w.env-is w.in_ok-env.ensures.crash
      | in_default w ↦ next_same IsCrash (moment_of c.loop-life.env) c.in-Some.life.moment c.in-Some.life.pick c.live.new.env c.match-moment.env w.in_default.is w.env-is
    ]) in (
      let one_more = ap length c.in-Some.ensures.steps.0 in omega (arith, one_more, so_far.0, c.push.ensures.upper_bound, c.push.ensures.capacity),
      append_assoc c.loop-life.yielded (life ∷ []) c.next.new.self.rest.items ∙ ap (λ rest. c.loop-life.yielded ++ rest) (sym c.in-Some.ensures.steps.0) ∙ so_far.1,
      record { first = so_far.2.first; empty = so_far.2.empty; fresh = so_far.2.fresh; reports_are = rw pushed more },
    )

pub returns-clause-story : goal.returns-clause-story
returns-clause-story g c =
    let so_far = c.loop-life.invariant in
    let none : c.loop-life.life-iterator.rest.items ≡ [] = nil_from_length c.loop-life.life-iterator.rest.items (omega (arith, c.in-None.ensures.steps.0, c.loop-life.life-iterator.rest.ok)) in
    let all : c.loop-life.yielded ≡ c.args.lives.items = sym (append-nil c.loop-life.yielded) ∙ ap (λ rest. c.loop-life.yielded ++ rest) (sym none) ∙ so_far.1 in
    says_lives g.C.Cmp g.FP.FilterPolicy (compressors g.dyn-2).codings (key_order g.row.C g.C.UserCmp g.C.UserCmp-dict g.C.Cmp g.C.Cmp-dict) (key_policy g.row.FP g.FP.FilterPolicy g.FP.FilterPolicy-dict) c.args.name.now c.args.lives.items c.loop-life.reports.items (c.loop-life.env, rw all at so_far.2)

pub returns-clause-reports : goal.returns-clause-reports
returns-clause-reports g c =
    let so_far = c.loop-life.invariant in
    let none : c.loop-life.life-iterator.rest.items ≡ [] = nil_from_length c.loop-life.life-iterator.rest.items (omega (arith, c.in-None.ensures.steps.0, c.loop-life.life-iterator.rest.ok)) in
    let all : c.loop-life.yielded ≡ c.args.lives.items = sym (append-nil c.loop-life.yielded) ∙ ap (λ rest. c.loop-life.yielded ++ rest) (sym none) ∙ so_far.1 in
    all_reported g.C.Cmp g.FP.FilterPolicy (compressors g.dyn-2).codings (key_order g.row.C g.C.UserCmp g.C.UserCmp-dict g.C.Cmp g.C.Cmp-dict) (key_policy g.row.FP g.FP.FilterPolicy g.FP.FilterPolicy-dict) c.args.name.now c.args.lives.items c.loop-life.reports (c.loop-life.env, rw all at so_far.2)

pub returns-in_err-env-clause-reports : goal.returns-in_err-env-clause-reports
returns-in_err-env-clause-reports g c =
    let so_far = c.loop-life.invariant in
    let p = err_from_is_err_and c.from_residual-in_err-env.result c.from_residual-in_err-env.ensures.1 in
    let is : IsLifeOn ghosts g.C.Cmp g.FP.FilterPolicy (compressors g.dyn-2).codings (key_order g.row.C g.C.UserCmp g.C.UserCmp-dict g.C.Cmp g.C.Cmp-dict) (key_policy g.row.FP g.FP.FilterPolicy g.FP.FilterPolicy-dict) c.args.name.now c.loop-life.env c.in-Some.life c.in_ok-report.report c.live.new.env = record {
      from = c.fail.new.self;
      same = c.fail.ensures.same;
      failing = ap₂ (λ nth done. (nth, done)) c.fail.ensures.nth c.fail.ensures.done ∙ c.unwrap_or-nth.ensures;
      life_is = subst (λ commands. IsAlwaysLife ghosts c.args.name.now c.fail.new.self (opening_of g.C.Cmp g.FP.FilterPolicy (compressors g.dyn-2).codings c.in-Some.life.options) commands c.in_ok-report.report c.live.new.env) c.deref.ensures.value c.in_ok-report.ensures.life;
      calls = subst (λ commands. LivesByCalls ghosts (choices_of g.C.Cmp g.FP.FilterPolicy (key_order g.row.C g.C.UserCmp g.C.UserCmp-dict g.C.Cmp g.C.Cmp-dict) (key_policy g.row.FP g.FP.FilterPolicy g.FP.FilterPolicy-dict) (compressors g.dyn-2).codings) c.args.name.now c.in-Some.life.options (opening_of g.C.Cmp g.FP.FilterPolicy (compressors g.dyn-2).codings c.in-Some.life.options) commands c.fail.new.self c.in_ok-report.report c.live.new.env) c.deref.ensures.value c.in_ok-report.ensures.calls;
    } in
    rw (p.1, p.2) (fails_for g.C.Cmp g.FP.FilterPolicy (compressors g.dyn-2).codings (key_order g.row.C g.C.UserCmp g.C.UserCmp-dict g.C.Cmp g.C.Cmp-dict) (key_policy g.row.FP g.FP.FilterPolicy g.FP.FilterPolicy-dict) c.args.name.now c.args.lives.items c.in_err-env.field-0.0
    (⊎_elim inl (λ why. inr (
      why.0,
      record {
        before = c.loop-life.yielded;
        life = c.in-Some.life;
        others = c.next.new.self.rest.items;
        split = sym so_far.1 ∙ ap (λ rest. c.loop-life.yielded ++ rest) c.in-Some.ensures.steps.0;
        reports = c.loop-life.reports.items;
        device = c.loop-life.env;
        ran = so_far.2;
        report = c.in_ok-report.report;
        to = c.live.new.env;
        life_is = is;
        moment = c.in-Some-moment.moment;
        crashes = c.in-Some-moment.is;
        none = λ can. why.1 (subst (λ n. CanCrashTo c.live.new.env (n + c.in-Some-moment.moment) c.in-Some.life.pick.after (tails_of c.in-Some.life.pick.tails.items)) (sym c.moment-start.ensures) can);
      },
    )) c.in_err-env.ensures.error))
