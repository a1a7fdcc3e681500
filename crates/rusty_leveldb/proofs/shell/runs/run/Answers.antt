use Rattle.std.proofs.Common.{rules, ◌≡◌, ◌++◌, ◌∷◌, [], length, map, take, drop, refl, ◌∙◌, ap, arith, append-nil, append_assoc, length-append, sym, inl, inr, Ok, Err}
use Rattle.std.proofs.Math.Seq.{drop-length, drop-append_seam}
use Rattle.std.proofs.lemmas.List.{take_all}
use Rattle.std.proofs.lemmas.Result.{err_from_is_err_and}
use Rattle.leveldb_env.specs.contracts.compressor.CompressorListCompressors.TheImpl.{ghosts as compressors}
use Rattle.rusty_leveldb.proofs.Openings.UnopenedLemmas.{given_back_under}
use Rattle.leveldb_env.proofs.FilterBlockLemmas.{on_ok}
use Rattle.rusty_leveldb.proofs.Programs.Playing.{abandon_fails, play_first, play_more, play_end, not_opened, not_begun, commands_up_to}
use Rattle.rusty_leveldb.proofs.Programs.TurnLemmas.{calls_later, calls_more, calls_step, calls_time}
use Rattle.rusty_leveldb.proofs.Programs.RunStories.{run_story}
use Rattle.rusty_leveldb.specs.Engines.Engine.{opening_of}
use Rattle.rusty_leveldb.specs.Engines.Serves.{snapshot_of}
use Rattle.leveldb_files.specs.Stores.Format.{format_of}
use Rattle.rusty_leveldb.proofs.shell.runs.run.Goals as goal

pub returns-in_err-reserve-clause-runs : goal.returns-in_err-reserve-clause-runs
returns-in_err-reserve-clause-runs g c =
    let failed = err_from_is_err_and c.from_residual.result c.from_residual.ensures.1 in
    let none : drop (length c.args.replies.now.items) c.reserve.new.self.items ≡ [] = rw c.reserve.ensures.items (drop-length c.args.replies.now.items) in
    rw failed.1 (not_begun g.E.Env c.args.name.now _ c.args.commands.now c.args.env.now (drop (length c.args.replies.now.items) c.reserve.new.self.items) failed.0 none failed.2)

pub returns-in_err-engine-clause-runs : goal.returns-in_err-engine-clause-runs
returns-in_err-engine-clause-runs g c =
    let failed = err_from_is_err_and c.from_residual-in_err-engine.result c.from_residual-in_err-engine.ensures.1 in
    let none : drop (length c.args.replies.now.items) c.reserve.new.self.items ≡ [] = rw c.reserve.ensures.items (drop-length c.args.replies.now.items) in
    rw (failed.1, failed.2) (record {
      plays = not_opened g.row.C.Denot g.row.FP.Denot _ g.E.Env (format_of g.C.Cmp g.FP.FilterPolicy (compressors g.dyn-2).codings) (g.met.E.Env.only_now, g.met.E.Env.counts_now) c.args.name.now c.args.opt c.args.env.now c.open.new.env (opening_of g.C.Cmp g.FP.FilterPolicy (compressors g.dyn-2).codings c.args.opt) c.args.commands.now
          (drop (length c.args.replies.now.items) c.reserve.new.self.items) c.in_err-engine.field-0.0 none c.in_err-engine.ensures.step;
      unopened = λ modelled never. (
        none,
        record {
          lock = given_back_under g.E.Env c.args.name.now _
              (opening_of g.C.Cmp g.FP.FilterPolicy (compressors g.dyn-2).codings c.args.opt) refl
              c.args.env.now c.in_err-engine.field-0.0 c.open.new.env
              (c.in_err-engine.ensures.unopened modelled);
          files = (c.in_err-engine.ensures.never_opens modelled never).1;
          others = c.in_err-engine.ensures.others modelled;
        },
      );
      misnamed = λ no. ((c.in_err-engine.ensures.misnamed no).0, none, tt);
    })

pub loop-command-init : goal.loop-command-init
loop-command-init g c = (
  search rules,
  omega (arith, c.in_ok-reserve.ensures.ok),
  [],
  c.reserve.ensures.items ∙ sym (append-nil c.args.replies.now.items),
  refl,
  rw (c.new-taken.ensures.items) (play_first g.row.C.Denot g.row.FP.Denot _ g.E.Env (format_of g.C.Cmp g.FP.FilterPolicy (compressors g.dyn-2).codings) (g.met.E.Env.only_now, g.met.E.Env.counts_now) c.args.name.now c.args.env.now c.open.new.env (opening_of g.C.Cmp g.FP.FilterPolicy (compressors g.dyn-2).codings c.args.opt) c.in_ok-engine.engine c.in_ok-engine.ensures.step),
  c.in_ok-engine.ensures.time,
  (refl, refl, c.new-taken.ensures.items),
)

pub unwrap-requires : goal.unwrap-requires
unwrap-requires g c =
    c.push.ensures.succeeds (omega (arith, c.loop-command.invariant.1, c.loop-command-test.true))

pub loop-command-preserved : goal.loop-command-preserved
loop-command-preserved g c =
    let so_far = c.loop-command.invariant in
    let command = c.command-item.result in
    let reply = c.answer.result in
    let pushed : c.push.new.self.items ≡ c.loop-command.replies.items ++ reply ∷ [] = rw c.unwrap.ensures at c.push.ensures.items in
    let engine = c.loop-command.engine in
    let env = c.loop-command.env in
    let taken = c.loop-command.taken.items in
    let calls = c.answer.ensures in
    let step = calls_step g.E.Env _ engine env taken reply c.answer.new.engine c.answer.new.env c.answer.new.taken.items command calls in
    let later = calls_later g.E.Env _ engine env taken reply c.answer.new.engine c.answer.new.env c.answer.new.taken.items command calls in
    let then = calls_time g.E.Env _ engine env taken reply c.answer.new.engine c.answer.new.env c.answer.new.taken.items command calls in
    let all = calls_more g.E.Env _ _ _ [] (take c.loop-command.command-index c.args.commands.now) so_far.2 engine env taken command reply
    c.answer.new.engine c.answer.new.env c.answer.new.taken.items so_far.7 calls in
    let more = play_more g.row.C.Denot g.row.FP.Denot _ g.E.Env (format_of g.C.Cmp g.FP.FilterPolicy (compressors g.dyn-2).codings) (g.met.E.Env.only_now, g.met.E.Env.counts_now) c.args.name.now c.args.env.now c.loop-command.env c.answer.new.env (opening_of g.C.Cmp g.FP.FilterPolicy (compressors g.dyn-2).codings c.args.opt)
    (take c.loop-command.command-index c.args.commands.now) so_far.2 (map snapshot_of c.loop-command.taken.items) (map snapshot_of c.answer.new.taken.items) c.loop-command.engine c.answer.new.engine command reply so_far.5 step in
    let behind = commands_up_to c.args.commands.now c.loop-command.command-index command c.loop-command-test.true c.command-item.is in (
      omega (arith, so_far.0, later),
      omega (arith, so_far.1, c.loop-command-test.true, c.push.ensures.upper_bound, c.push.ensures.capacity),
      so_far.2 ++ reply ∷ [],
      pushed ∙ ap (λ items. items ++ reply ∷ []) so_far.3 ∙ append_assoc c.args.replies.now.items so_far.2 (reply ∷ []),
      omega (arith, length-append so_far.2 (reply ∷ []), so_far.4),
      rw behind more,
      λ tells. let before = so_far.6 tells in let after = then tells in omega (arith, before, after),
      rw behind all,
    )

pub returns-clause-runs : goal.returns-clause-runs
returns-clause-runs g c =
    let so_far = c.loop-command.invariant in
    let given : drop (length c.args.replies.now.items) c.loop-command.replies.items ≡ so_far.2 = rw so_far.3 (drop-append_seam c.args.replies.now.items so_far.2) in
    let all : take c.loop-command.command-index c.args.commands.now ≡ c.args.commands.now = take_all c.loop-command.command-index c.args.commands.now c.loop-command-test.false in
    let step = c.abandon.ensures.step in
    rw given (record {
      plays = play_end g.row.C.Denot g.row.FP.Denot _ g.E.Env (format_of g.C.Cmp g.FP.FilterPolicy (compressors g.dyn-2).codings) (g.met.E.Env.only_now, g.met.E.Env.counts_now) c.args.name.now c.args.env.now c.loop-command.env c.abandon.new.env (opening_of g.C.Cmp g.FP.FilterPolicy (compressors g.dyn-2).codings c.args.opt)
          c.args.commands.now so_far.2 (map snapshot_of c.loop-command.taken.items) c.loop-command.engine c.abandon.result (rw all at so_far.5) step;
      unopened = λ modelled never. absurd (c.in_ok-engine.ensures.never_opens modelled never).0;
      misnamed = λ no. absurd (c.in_ok-engine.ensures.misnamed no).1;
    })

pub returns-in_err-reserve-clause-story : goal.returns-in_err-reserve-clause-story
returns-in_err-reserve-clause-story g c =
    run_story g.E.Env (g.met.E.Env.only_now, g.met.E.Env.counts_now) c.args.name.now _ c.args.commands.now c.args.env.now _ _ _ (returns-in_err-reserve-clause-runs g c)

pub returns-in_err-engine-clause-story : goal.returns-in_err-engine-clause-story
returns-in_err-engine-clause-story g c =
    run_story g.E.Env (g.met.E.Env.only_now, g.met.E.Env.counts_now) c.args.name.now _ c.args.commands.now c.args.env.now _ _ _ (returns-in_err-engine-clause-runs g c)

pub returns-clause-story : goal.returns-clause-story
returns-clause-story g c =
    run_story g.E.Env (g.met.E.Env.only_now, g.met.E.Env.counts_now) c.args.name.now _ c.args.commands.now c.args.env.now _ _ _ (returns-clause-runs g c)

pub returns-in_err-reserve-clause-calls : goal.returns-in_err-reserve-clause-calls
returns-in_err-reserve-clause-calls g c =
    let failed = err_from_is_err_and c.from_residual.result c.from_residual.ensures.1 in
    let none : drop (length c.args.replies.now.items) c.reserve.new.self.items ≡ [] = rw c.reserve.ensures.items (drop-length c.args.replies.now.items) in
    rw failed.1 (inl (failed.2, none, refl))

pub returns-in_err-engine-clause-calls : goal.returns-in_err-engine-clause-calls
returns-in_err-engine-clause-calls g c =
    let failed = err_from_is_err_and c.from_residual-in_err-engine.result c.from_residual-in_err-engine.ensures.1 in
    let none : drop (length c.args.replies.now.items) c.reserve.new.self.items ≡ [] = rw c.reserve.ensures.items (drop-length c.args.replies.now.items) in
    rw (failed.1, failed.2) (inr (Err c.in_err-engine.field-0.0, c.open.new.env, c.in_err-engine.ensures, (none, refl, refl)))

pub returns-clause-calls : goal.returns-clause-calls
returns-clause-calls g c =
    let so_far = c.loop-command.invariant in
    let given : drop (length c.args.replies.now.items) c.loop-command.replies.items ≡ so_far.2 = rw so_far.3 (drop-append_seam c.args.replies.now.items so_far.2) in
    let all : take c.loop-command.command-index c.args.commands.now ≡ c.args.commands.now = take_all c.loop-command.command-index c.args.commands.now c.loop-command-test.false in
    rw given (inr (
      Ok c.in_ok-engine.engine,
      c.open.new.env,
      c.in_ok-engine.ensures,
      (c.loop-command.engine, c.loop-command.env, c.loop-command.taken.items, rw all at so_far.7, c.abandon.ensures),
    ))

pub returns-clause-after : goal.returns-clause-after
returns-clause-after g c =
    let so_far = c.loop-command.invariant in
    let all : length so_far.2 ≡ length c.args.commands.now = search rules in
    (so_far.2, so_far.3, on_ok c.abandon.result all)

pub returns-clause-cause : goal.returns-clause-cause
returns-clause-cause g c =
    let failures = g.E.Env.failures in
    abandon_fails (failures c.args.env.now) (failures c.loop-command.env) (failures c.abandon.new.env)
    c.abandon.result c.loop-command.invariant.0 c.abandon.ensures.cause

pub returns-clause-time : goal.returns-clause-time
returns-clause-time g c = λ tells.
    let before = c.loop-command.invariant.6 tells in
    let last = c.abandon.ensures.time tells in
    omega (arith, before, last)
