use Rattle.std.proofs.Common.{◌≡◌, ◌++◌, ◌∷◌, [], ◌-◌, ◌≤◌, ℕ, Ok, Err, ap, ap₂, arith, map, take, refl, sym, subst, ◌+◌, ◌∙◌}
use Rattle.std.proofs.lemmas.List.{map-append, take_all}
use Rattle.leveldb_base.specs.contracts.cmp.internal.InternalKeyCmpCmp.TheImpl.{ghosts as key_order}
use Rattle.leveldb_disks.specs.RecordLaws.{record_only_now, record_counts_now}
use Rattle.leveldb_disks.specs.contracts.mem_env.record.RecordEnvEnv.TheImpl.{ghosts}
use Rattle.leveldb_disks.specs.Record.{moment_of}
use Rattle.leveldb_env.specs.contracts.compressor.CompressorListCompressors.TheImpl.{ghosts as compressors}
use Rattle.leveldb_env.specs.contracts.filter.internal.InternalFilterPolicyFilterPolicy.TheImpl.{ghosts as key_policy}
use Rattle.leveldb_store.specs.Tables.BuildTable.{choices_of}
use Rattle.rusty_leveldb.specs.declared.shell.commands.Reply.{Reply}
use Rattle.rusty_leveldb.specs.Programs.RunCalls.{CallsInTurn}
use Rattle.rusty_leveldb.specs.Engines.Serves.{done_or, snapshot_of}
use Rattle.rusty_leveldb.specs.Engines.Engine.{opening_of}
use Rattle.leveldb_files.specs.Stores.Format.{format_of}
use Rattle.rusty_leveldb.proofs.Programs.Playing.{commands_up_to}
use Rattle.rusty_leveldb.proofs.Programs.TurnLemmas.{calls_more, calls_step, calls_time}
use Rattle.rusty_leveldb.proofs.Programs.Living.{Given, LivesSoFar, given_more, lives_first, lives_more, lives_end, not_lived}
use Rattle.rusty_leveldb.proofs.Programs.Storied.{says_lived}
use Rattle.rusty_leveldb.proofs.shell.crash_runs.live.Goals as goal

pub returns-in-Err-clause-life : goal.returns-in-Err-clause-life
returns-in-Err-clause-life g c = not_lived g.row.C.Denot g.row.FP.Denot _ ghosts (format_of g.C.Cmp g.FP.FilterPolicy (compressors g.dyn-2).codings) (record_only_now, record_counts_now) refl c.args.name.now c.args.options c.args.env.now c.open.new.env (opening_of g.C.Cmp g.FP.FilterPolicy (compressors g.dyn-2).codings c.args.options) c.args.commands.now
    _ c.in-Err.status refl (c.reserve.ensures.items ∙ c.new-replies.ensures.items) c.in-Err.ensures.step

pub loop-command-init : goal.loop-command-init
loop-command-init g c =
    let none : c.reserve.new.self.items ≡ [] = c.reserve.ensures.items ∙ c.new-replies.ensures.items in (
      c.in-Ok.ensures.time refl,
      omega (arith, c.in_ok-reserve.ensures.ok),
      [],
      subst (λ items. Given (moment_of c.args.env.now) items []) (sym none) refl,
      subst (λ items. LivesSoFar g.row.C.Denot g.row.FP.Denot (key_order g.row.C g.C.UserCmp g.C.UserCmp-dict g.C.Cmp g.C.Cmp-dict) ghosts (format_of g.C.Cmp g.FP.FilterPolicy (compressors g.dyn-2).codings) c.args.name.now c.args.env.now (opening_of g.C.Cmp g.FP.FilterPolicy (compressors g.dyn-2).codings c.args.options) [] items (map snapshot_of c.new-taken.result.items) [] c.in-Ok.engine c.open.new.env) (sym none)
          (rw c.new-taken.ensures.items (lives_first g.row.C.Denot g.row.FP.Denot _ ghosts (format_of g.C.Cmp g.FP.FilterPolicy (compressors g.dyn-2).codings) (record_only_now, record_counts_now) refl c.args.name.now c.args.env.now c.open.new.env (opening_of g.C.Cmp g.FP.FilterPolicy (compressors g.dyn-2).codings c.args.options) c.in-Ok.engine c.in-Ok.ensures.step)),
      subst (λ items. CallsInTurn ghosts (choices_of g.C.Cmp g.FP.FilterPolicy (key_order g.row.C g.C.UserCmp g.C.UserCmp-dict g.C.Cmp g.C.Cmp-dict) (key_policy g.row.FP g.FP.FilterPolicy g.FP.FilterPolicy-dict) (compressors g.dyn-2).codings) c.in-Ok.engine c.open.new.env [] [] (map (λ (r : ℕ × Reply). r.1) items) c.in-Ok.engine c.open.new.env c.new-taken.result.items)
          (sym none) (refl, refl, c.new-taken.ensures.items),
    )

pub overflow_sub-moment : goal.overflow_sub-moment
overflow_sub-moment g c =
    let so_far = c.loop-command.invariant in
    let later : moment_of c.loop-command.env ≤ moment_of c.answer-reply.new.env =
    calls_time ghosts _ c.loop-command.engine c.loop-command.env c.loop-command.taken.items c.answer-reply.result c.answer-reply.new.engine
    c.answer-reply.new.env c.answer-reply.new.taken.items c.command-item.result c.answer-reply.ensures refl in
    omega (arith, so_far.0, later, c.moment.ensures, c.moment-start.ensures)

pub unwrap-requires : goal.unwrap-requires
unwrap-requires g c =
    c.push.ensures.succeeds (omega (arith, c.loop-command.invariant.1, c.loop-command-test.true))

pub loop-command-preserved : goal.loop-command-preserved
loop-command-preserved g c =
    let so_far = c.loop-command.invariant in
    let command = c.command-item.result in
    let reply = c.answer-reply.result in
    let told = c.moment.result - c.moment-start.result in
    let pushed : c.push.new.self.items ≡ c.loop-command.replies.items ++ (told, reply) ∷ [] =
    rw c.unwrap.ensures at c.push.ensures.items in
    let step = calls_step ghosts _ c.loop-command.engine c.loop-command.env c.loop-command.taken.items reply c.answer-reply.new.engine
    c.answer-reply.new.env c.answer-reply.new.taken.items command c.answer-reply.ensures in
    let more = lives_more g.row.C.Denot g.row.FP.Denot _ ghosts (format_of g.C.Cmp g.FP.FilterPolicy (compressors g.dyn-2).codings) (record_only_now, record_counts_now) refl c.args.name.now c.args.env.now c.loop-command.env c.answer-reply.new.env (opening_of g.C.Cmp g.FP.FilterPolicy (compressors g.dyn-2).codings c.args.options)
    (take c.loop-command.command-index c.args.commands.now) c.loop-command.replies.items (map snapshot_of c.loop-command.taken.items) (map snapshot_of c.answer-reply.new.taken.items) so_far.2 c.loop-command.engine c.answer-reply.new.engine command told reply so_far.4 step in
    let calls = calls_more ghosts _ _ _ [] (take c.loop-command.command-index c.args.commands.now) (map (λ (r : ℕ × Reply). r.1) c.loop-command.replies.items)
    c.loop-command.engine c.loop-command.env c.loop-command.taken.items command reply c.answer-reply.new.engine c.answer-reply.new.env c.answer-reply.new.taken.items
    so_far.5 c.answer-reply.ensures in
    let told_now : map (λ (r : ℕ × Reply). r.1) c.push.new.self.items ≡ map (λ (r : ℕ × Reply). r.1) c.loop-command.replies.items ++ reply ∷ [] =
    ap (map (λ (r : ℕ × Reply). r.1)) pushed ∙ map-append (λ (r : ℕ × Reply). r.1) c.loop-command.replies.items ((told, reply) ∷ []) in
    let behind = commands_up_to c.args.commands.now c.loop-command.command-index command c.loop-command-test.true c.command-item.is in
    let is : told ≡ moment_of c.answer-reply.new.env - moment_of c.args.env.now =
    ap₂ (λ now start. now - start) c.moment.ensures c.moment-start.ensures in
    let later : moment_of c.loop-command.env ≤ moment_of c.answer-reply.new.env =
    calls_time ghosts _ c.loop-command.engine c.loop-command.env c.loop-command.taken.items reply c.answer-reply.new.engine
    c.answer-reply.new.env c.answer-reply.new.taken.items command c.answer-reply.ensures refl in (
      omega (arith, so_far.0, later),
      omega (arith, so_far.1, c.loop-command-test.true, c.push.ensures.upper_bound, c.push.ensures.capacity),
      so_far.2 ++ moment_of c.answer-reply.new.env ∷ [],
      subst (λ items. Given (moment_of c.args.env.now) items (so_far.2 ++ moment_of c.answer-reply.new.env ∷ [])) (sym pushed)
          (given_more (moment_of c.args.env.now) c.loop-command.replies.items so_far.2 (moment_of c.answer-reply.new.env) told reply so_far.3 is),
      subst (λ items. LivesSoFar g.row.C.Denot g.row.FP.Denot (key_order g.row.C g.C.UserCmp g.C.UserCmp-dict g.C.Cmp g.C.Cmp-dict) ghosts (format_of g.C.Cmp g.FP.FilterPolicy (compressors g.dyn-2).codings) c.args.name.now c.args.env.now (opening_of g.C.Cmp g.FP.FilterPolicy (compressors g.dyn-2).codings c.args.options) (take (c.loop-command.command-index + 1) c.args.commands.now) items (map snapshot_of c.answer-reply.new.taken.items) (so_far.2 ++ moment_of c.answer-reply.new.env ∷ []) c.answer-reply.new.engine c.answer-reply.new.env) (sym pushed)
          (rw behind more),
      rw (told_now, behind) calls,
    )

pub returns-in-Err-clause-calls : goal.returns-in-Err-clause-calls
returns-in-Err-clause-calls g c =
    let none : c.reserve.new.self.items ≡ [] = c.reserve.ensures.items ∙ c.new-replies.ensures.items in (
      Err c.in-Err.status,
      c.open.new.env,
      Err c.in-Err.status,
      c.in-Err.ensures,
      refl,
      (ap (map (λ (r : ℕ × Reply). r.1)) none, refl, refl),
    )

pub returns-clause-calls : goal.returns-clause-calls
returns-clause-calls g c =
    let all : take c.loop-command.command-index c.args.commands.now ≡ c.args.commands.now = take_all c.loop-command.command-index c.args.commands.now c.loop-command-test.false in (
      Ok c.in-Ok.engine,
      c.open.new.env,
      c.abandon.result,
      c.in-Ok.ensures,
      refl,
      (c.loop-command.engine, c.loop-command.env, c.loop-command.taken.items, rw all at c.loop-command.invariant.5, c.abandon.ensures),
    )

pub returns-clause-life : goal.returns-clause-life
returns-clause-life g c =
    let so_far = c.loop-command.invariant in
    let all : take c.loop-command.command-index c.args.commands.now ≡ c.args.commands.now = take_all c.loop-command.command-index c.args.commands.now c.loop-command-test.false in
    let step = c.abandon.ensures.step in
    lives_end g.row.C.Denot g.row.FP.Denot _ ghosts (format_of g.C.Cmp g.FP.FilterPolicy (compressors g.dyn-2).codings) (record_only_now, record_counts_now) refl c.args.name.now c.args.env.now c.loop-command.env c.abandon.new.env (opening_of g.C.Cmp g.FP.FilterPolicy (compressors g.dyn-2).codings c.args.options)
    c.args.commands.now (map snapshot_of c.loop-command.taken.items) so_far.2 c.loop-command.engine (done_or c.abandon.result) _ refl so_far.3 (rw all at so_far.4) step

pub returns-in-Err-clause-story : goal.returns-in-Err-clause-story
returns-in-Err-clause-story g c =
    says_lived ghosts c.args.name.now _ c.args.commands.now c.args.env.now _ _
    (returns-in-Err-clause-life g c)

pub returns-clause-story : goal.returns-clause-story
returns-clause-story g c =
    says_lived ghosts c.args.name.now _ c.args.commands.now c.args.env.now _ _
    (returns-clause-life g c)
