use Rattle.std.proofs.Common.{◌≡◌, ◌∙◌, ◌≤◌, [], ap, false, true, arith, length, refl, sym}
use Rattle.std.specs.Prelude.{IsTrue}
use Rattle.std.proofs.lemmas.Bool.{le-leb, leb-true}
use Rattle.std.proofs.lemmas.Result.{err_from_is_err_and}
use Rattle.leveldb_store.proofs.Logs.ReplayLogLemmas.{none_of_length}
use Rattle.leveldb_store.proofs.Logs.ReplayLoopLemmas.{IsReplaying-more, IsReplaying-none, ReplaysLogs-refused, last_is, log_number_still, no_last, unusable_before, used_so}
use Rattle.leveldb_store.proofs.opening.replay.replay_logs.Goals.{then-options, else-options, then-is_empty, else-is_empty}
use Rattle.leveldb_store.proofs.opening.replay.replay_logs.Goals as goal

pub loop-number-init : goal.loop-number-init
loop-number-init g c = record {
  replaying = IsReplaying-none g.E.Env _ _ c.args.versions.now c.args.logs.keys c.args.env.now _ c.new.ensures.items refl refl refl;
  used = λ some. absurd (cc);
  unused = λ none wanted unused modelled front number is least. no_last c.args.logs.keys front number none is;
  order = tt;
}

pub loop-number-preserved : goal.loop-number-preserved
loop-number-preserved g c =
    let left = c.pop_first.new.self.keys in
    let empty : c.if-options.value ≡ true → left ≡ [] = elim c.if-options.branch [
      | then-options w ↦ (λ e. let none : length left ≡ 0 = w.is_empty.ensures.0 (sym w.value-is ∙ e) in none_of_length left (omega (arith, none)))
      | else-options w ↦ (λ e. absurd (let never : false ≡ true = sym w.if-options.false ∙ sym w.value-is ∙ e in cc))
    ] in
    let may : IsTrue c.if-is_empty.may_go_on → (left ≡ []) × (c.loop-number.versions.log_number ≤ c.in-Some.number) = elim c.if-is_empty.branch [
      | then-is_empty w ↦ (λ e.
          let least = leb-true w.log_num.result c.in-Some.number (sym w.may_go_on-is ∙ e) in
          (empty w.if-is_empty.true, omega (arith, least, w.log_num.ensures)))
      | else-is_empty w ↦ (λ e. absurd (let never : false ≡ true = sym w.if-is_empty.false ∙ sym w.may_go_on-is ∙ e in cc))
    ] in
    let replaying = c.loop-number.invariant.replaying in
    let first = c.in-Some.ensures.removal in
    let still = log_number_still g.E.Env _ _ c.args.versions.now c.args.logs.keys c.args.env.now c.loop-number.replay c.loop-number.logs.keys c.in-Some.number left first c.loop-number.versions c.loop-number.env replaying in
    let wants : IsTrue c.if-is_empty.may_go_on → IsTrue c.args.options.now.reuse_logs = elim c.if-is_empty.branch [
      | then-is_empty w ↦ (λ e. elim c.if-options.branch [
        | then-options v ↦ v.if-options.true
        | else-options v ↦ absurd (let never : false ≡ true = sym v.if-options.false ∙ sym v.value-is ∙ w.if-is_empty.true in cc)
      ])
      | else-is_empty w ↦ (λ e. absurd (let never : false ≡ true = sym w.if-is_empty.false ∙ sym w.may_go_on-is ∙ e in cc))
    ] in
    let goes_on : IsTrue c.args.options.now.reuse_logs → left ≡ [] → c.args.versions.now.log_number ≤ c.in-Some.number → IsTrue c.if-is_empty.may_go_on = λ wanted none least. elim c.if-is_empty.branch [
      | then-is_empty w ↦ w.may_go_on-is ∙ le-leb w.log_num.result c.in-Some.number (omega (arith, w.log_num.ensures, still, least))
      | else-is_empty w ↦ absurd (elim c.if-options.branch [
        | then-options v ↦ (let yes = v.is_empty.ensures.1 (ap length none) in let never : true ≡ false = sym yes ∙ sym v.value-is ∙ w.if-is_empty.false in cc)
        | else-options v ↦ (let never : true ≡ false = sym wanted ∙ v.if-options.false in cc)
      ])
    ] in
    record {
      used = λ some. wants (used_so c.replay_next.new.replay.used c.in-Some.number c.in_ok-replay_next.ensures.replays.used some);
      unused = λ none wanted unused modelled front number is least.
          let same = last_is g.E.Env _ _ c.args.versions.now c.args.logs.keys c.args.env.now c.loop-number.replay c.loop-number.logs.keys c.in-Some.number left first c.loop-number.versions c.loop-number.env replaying none front number is in
          unusable_before g.E.Env _ _ c.args.versions.now c.args.logs.keys c.args.env.now c.loop-number.replay c.loop-number.logs.keys c.in-Some.number left first c.loop-number.versions c.loop-number.env replaying modelled
          (c.in_ok-replay_next.ensures.unused (goes_on wanted none (omega (arith, same, least))) unused modelled) number same;
      replaying = IsReplaying-more g.E.Env _ _ c.args.versions.now c.args.logs.keys c.args.env.now c.loop-number.replay c.loop-number.logs.keys c.in-Some.number left c.in-Some.ensures.removal c.loop-number.versions c.loop-number.env
          c.loop-number.invariant.replaying c.if-is_empty.may_go_on c.replay_next.new.replay c.replay_next.new.versions c.replay_next.new.env may c.in_ok-replay_next.ensures.replays;
      order = c.in_ok-replay_next.ensures.order;
    }

pub returns-in_err-replay_next-clause-replays : goal.returns-in_err-replay_next-clause-replays
returns-in_err-replay_next-clause-replays g c =
    let failed = err_from_is_err_and c.from_residual.result c.from_residual.ensures.1 in
    rw (failed.1, failed.2) (ReplaysLogs-refused g.E.Env _ _ c.args.versions.now c.args.logs.keys c.args.env.now c.loop-number.replay c.loop-number.logs.keys c.in-Some.number c.pop_first.new.self.keys c.in-Some.ensures.removal c.loop-number.versions c.loop-number.env
    c.loop-number.invariant.replaying c.if-is_empty.may_go_on c.replay_next.new.replay c.replay_next.new.versions c.replay_next.new.env _ c.in_err-replay_next.ensures.replays)
