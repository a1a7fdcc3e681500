use Rattle.std.proofs.Common.{◌≡◌, ◌==◌, ◌∙◌, inl, inr, false, true, [], ◌++◌, ap, arith, length, refl, sym}
use Rattle.std.proofs.lemmas.Bool.{eq-eqb, eqb-true}
use Rattle.std.proofs.lemmas.Result.{err_from_is_err_and}
use Rattle.leveldb_store.proofs.Logs.ReplayLogLemmas.{none_of_length}
use Rattle.leveldb_store.proofs.Logs.ReplayNextLemmas.{IsBoth, ReplaysNext-tables_made, ReplaysNext-torn, ReplaysNext-unlisted, ReplaysNext-unread, ReplaysNext-not_in_tables, ReplaysNext-used}
use Rattle.leveldb_store.proofs.opening.replay.replay_next.Goals.{then-replay, else-replay, else-may_go_on-via-then-may_go_on+then-log+else-is_empty, else-may_go_on-via-then-may_go_on+else-log, else-may_go_on-via-else-may_go_on}
use Rattle.leveldb_store.proofs.opening.replay.replay_next.Goals as goal

pub returns-in_err-log-clause-replays : goal.returns-in_err-log-clause-replays
returns-in_err-log-clause-replays g c =
    let failed = err_from_is_err_and c.from_residual.result c.from_residual.ensures.1 in
    rw (failed.1, failed.2) (ReplaysNext-unread g.E.Env _ _ c.args.number c.args.may_go_on c.args.replay.now c.args.versions.now c.args.env.now _ c.in_err-log.ensures.replays _)

pub returns-in_err-check_empty_if_torn-clause-replays : goal.returns-in_err-check_empty_if_torn-clause-replays
returns-in_err-check_empty_if_torn-clause-replays g c =
    let failed = err_from_is_err_and c.from_residual-in_err-check_empty_if_torn.result c.from_residual-in_err-check_empty_if_torn.ensures.1 in
    let why = c.in_err-check_empty_if_torn.ensures.cause in
    rw (failed.1, failed.2) (ReplaysNext-torn g.E.Env _ _ c.args.number c.args.may_go_on c.args.replay.now c.args.versions.now c.args.env.now c.in_ok-log.log c.in_ok-log.ensures.replays why.1 why.2 _ why.0 _)

pub returns-then-is_empty-clause-replays : goal.returns-then-is_empty-clause-replays
returns-then-is_empty-clause-replays g c =
    let log = c.in_ok-log.log in
    let both : IsBoth c.args.replay.now.is_clean log.is_clean c.if-replay.replay = elim c.if-replay.branch [ then-replay w ↦ inl (w.if-replay.true, w.replay-is) | else-replay w ↦ inr (w.if-replay.false, w.replay-is ∙ w.if-replay.false) ] in
    let test : true ≡ (log.tables.len == 0) = c.if-is_empty.ensures in
    let is_empty = eqb-true log.tables.len 0 (sym test) in
    let none : log.tables.items ≡ [] = none_of_length log.tables.items (omega (arith, is_empty, log.tables.ok.0)) in
    ReplaysNext-used g.E.Env _ _ c.args.number c.args.may_go_on c.args.replay.now c.args.versions.now c.args.env.now log c.in_ok-log.ensures.replays c.requires.none
    c.in_ok-check_empty_if_torn.ensures.ok c.if-may_go_on.true c.if-log.true none _ _ refl refl refl refl refl both refl refl

pub returns-in_err-tables-clause-replays : goal.returns-in_err-tables-clause-replays
returns-in_err-tables-clause-replays g c =
    let log = c.in_ok-log.log in
    let failed = err_from_is_err_and c.from_residual-in_err-tables.result c.from_residual-in_err-tables.ensures.1 in
    rw (failed.1, failed.2) (ReplaysNext-not_in_tables g.E.Env _ _ c.args.number c.args.may_go_on c.args.replay.now c.args.versions.now c.args.env.now log c.in_ok-log.ensures.replays c.requires.none
    c.in_ok-check_empty_if_torn.ensures.ok c.in_err-tables.ensures.spares _ c.in_err-tables.ensures.cause _)

pub returns-in_err-append-clause-replays : goal.returns-in_err-append-clause-replays
returns-in_err-append-clause-replays g c =
    let log = c.in_ok-log.log in
    let failed = err_from_is_err_and c.from_residual-in_err-append.result c.from_residual-in_err-append.ensures.1 in
    rw failed.1 (ReplaysNext-unlisted g.E.Env _ _ c.args.number c.args.may_go_on c.args.replay.now c.args.versions.now c.args.env.now log c.in_ok-log.ensures.replays c.requires.none
    c.in_ok-check_empty_if_torn.ensures.ok c.in_ok-tables.ensures.spares c.in_ok-tables.ensures.cause.ok failed.0 failed.2 _)

pub returns-clause-replays : goal.returns-clause-replays
returns-clause-replays g c =
    let log = c.in_ok-log.log in
    let both : IsBoth c.args.replay.now.is_clean log.is_clean c.if-replay.replay = elim c.if-replay.branch [ then-replay w ↦ inl (w.if-replay.true, w.replay-is) | else-replay w ↦ inr (w.if-replay.false, w.replay-is ∙ w.if-replay.false) ] in
    let items : c.append.new.self.items ≡ c.args.replay.now.tables.items ++ c.in_ok-tables.tables.items = c.in_ok-append.ensures.items in
    ReplaysNext-tables_made g.E.Env _ _ c.args.number c.args.may_go_on c.args.replay.now c.args.versions.now c.args.env.now log c.in_ok-log.ensures.replays c.requires.none
    c.in_ok-check_empty_if_torn.ensures.ok c.in_ok-tables.ensures.spares c.in_ok-tables.ensures.cause.ok c.in_ok-tables.tables.items c.in_ok-tables.ensures.ok _ c.requires.none refl both items refl

pub returns-clause-unused : goal.returns-clause-unused
returns-clause-unused g c = λ may none modelled. c.in_ok-log.ensures.replays.unusable modelled (elim c.else-may_go_on.branch [
  | else-may_go_on-via-then-may_go_on+then-log+else-is_empty w ↦ inr (λ nothing.
      let none : length c.in_ok-log.log.tables.items ≡ 0 = ap length nothing in
      let zero : (c.in_ok-log.log.tables.len == 0) ≡ true = eq-eqb c.in_ok-log.log.tables.len 0 (omega (arith, none, c.in_ok-log.log.tables.ok.0)) in
      absurd (let never : true ≡ false = sym zero ∙ sym w.is_empty.ensures ∙ w.if-is_empty.false in cc))
  | else-may_go_on-via-then-may_go_on+else-log w ↦ inl w.if-log.false
  | else-may_go_on-via-else-may_go_on w ↦ absurd (let never : true ≡ false = sym may ∙ w.if-may_go_on.false in cc)
])
