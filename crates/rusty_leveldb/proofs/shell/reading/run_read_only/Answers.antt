-- No memory before it begins, a store that isn't opened, and the replies one after another.
use Rattle.std.proofs.Common.{rules, ◌≡◌, ◌++◌, ◌∷◌, [], length, take, drop, refl, ◌∙◌, ap, arith, append-nil, append_assoc, length-append, sym}
use Rattle.std.proofs.Math.Seq.{drop-length, drop-append_seam}
use Rattle.std.proofs.lemmas.List.{take_all}
use Rattle.std.proofs.lemmas.Result.{err_from_is_err_and}
use Rattle.leveldb_env.specs.contracts.compressor.CompressorListCompressors.TheImpl.{ghosts as compressors}
use Rattle.leveldb_files.specs.Stores.Format.{format_of}
use Rattle.rusty_leveldb.specs.Engines.Engine.{opening_of}
use Rattle.rusty_leveldb.proofs.Programs.Playing.{commands_up_to}
use Rattle.rusty_leveldb.proofs.Programs.RunAloneLemmas.{read_run, so_far_first, so_far_more, starved_run, unread_run}
use Rattle.rusty_leveldb.proofs.shell.reading.run_read_only.Goals as goal

pub returns-in_err-reserve-clause-reads : goal.returns-in_err-reserve-clause-reads
returns-in_err-reserve-clause-reads g c =
    let failed = err_from_is_err_and c.from_residual.result c.from_residual.ensures.1 in
    let none : drop (length c.args.replies.now.items) c.reserve.new.self.items ≡ [] =
    rw c.reserve.ensures.items (drop-length c.args.replies.now.items) in
    rw failed.1 (starved_run g.E.Env c.args.name.now _ c.args.commands.now c.args.env.now
    (drop (length c.args.replies.now.items) c.reserve.new.self.items) failed.0 none)

pub returns-in_err-engine-clause-reads : goal.returns-in_err-engine-clause-reads
returns-in_err-engine-clause-reads g c =
    let failed = err_from_is_err_and c.from_residual-in_err-engine.result
    c.from_residual-in_err-engine.ensures.1 in
    let none : drop (length c.args.replies.now.items) c.reserve.new.self.items ≡ [] =
    rw c.reserve.ensures.items (drop-length c.args.replies.now.items) in
    rw (failed.1, failed.2) (unread_run _ g.E.Env
    (format_of g.C.Cmp g.FP.FilterPolicy (compressors g.dyn-2).codings) c.args.name.now c.args.opt
    (opening_of g.C.Cmp g.FP.FilterPolicy (compressors g.dyn-2).codings c.args.opt)
    c.args.env.now c.open.new.env c.args.commands.now
    (drop (length c.args.replies.now.items) c.reserve.new.self.items)
    c.in_err-engine.field-0.0 none c.in_err-engine.ensures)

pub loop-command-init : goal.loop-command-init
loop-command-init g c = (
  omega (arith, c.in_ok-reserve.ensures.ok),
  [],
  c.reserve.ensures.items ∙ sym (append-nil c.args.replies.now.items),
  refl,
  so_far_first _ g.E.Env (format_of g.C.Cmp g.FP.FilterPolicy (compressors g.dyn-2).codings)
      c.in_ok-engine.engine c.open.new.env,
  omega arith,
)

pub unwrap-requires : goal.unwrap-requires
unwrap-requires g c =
    c.push.ensures.succeeds (omega (arith, c.loop-command.invariant.0, c.loop-command-test.true))

pub loop-command-preserved : goal.loop-command-preserved
loop-command-preserved g c =
    let so_far = c.loop-command.invariant in
    let command = c.command-item.result in
    let reply = c.answer.result in
    let pushed : c.push.new.self.items ≡ c.loop-command.replies.items ++ reply ∷ [] =
    rw c.unwrap.ensures at c.push.ensures.items in
    let more = so_far_more _ g.E.Env
    (format_of g.C.Cmp g.FP.FilterPolicy (compressors g.dyn-2).codings) _ _
    (take c.loop-command.command-index c.args.commands.now) so_far.1 c.loop-command.engine
    c.loop-command.env command reply c.answer.new.engine c.answer.new.env so_far.4 c.answer.ensures in
    let behind = commands_up_to c.args.commands.now c.loop-command.command-index command
    c.loop-command-test.true c.command-item.is in (
      omega (arith, so_far.0, c.loop-command-test.true, c.push.ensures.upper_bound, c.push.ensures.capacity),
      so_far.1 ++ reply ∷ [],
      pushed ∙ ap (λ items. items ++ reply ∷ []) so_far.2
          ∙ append_assoc c.args.replies.now.items so_far.1 (reply ∷ []),
      omega (arith, length-append so_far.1 (reply ∷ []), so_far.3),
      rw behind more,
      omega (arith, so_far.5, c.answer.ensures.later),
    )

pub returns-clause-reads : goal.returns-clause-reads
returns-clause-reads g c =
    let so_far = c.loop-command.invariant in
    let given : drop (length c.args.replies.now.items) c.loop-command.replies.items ≡ so_far.1 =
    rw so_far.2 (drop-append_seam c.args.replies.now.items so_far.1) in
    let all : take c.loop-command.command-index c.args.commands.now ≡ c.args.commands.now =
    take_all c.loop-command.command-index c.args.commands.now c.loop-command-test.false in
    rw given (read_run _ g.E.Env
    (format_of g.C.Cmp g.FP.FilterPolicy (compressors g.dyn-2).codings) c.args.name.now c.args.opt
    (opening_of g.C.Cmp g.FP.FilterPolicy (compressors g.dyn-2).codings c.args.opt)
    c.args.env.now c.open.new.env c.in_ok-engine.engine c.args.commands.now so_far.1
    c.loop-command.engine c.loop-command.env refl c.in_ok-engine.ensures (rw all at so_far.4))

pub returns-clause-after : goal.returns-clause-after
returns-clause-after g c =
    let so_far = c.loop-command.invariant in
    let all : length so_far.1 ≡ length c.args.commands.now = search rules in
    (so_far.1, so_far.2, all)

pub returns-clause-cause : goal.returns-clause-cause
returns-clause-cause g c =
    let so_far = c.loop-command.invariant in
    record { later = omega (arith, so_far.5, c.in_ok-engine.ensures.cause.later); cause = tt }
