use Rattle.std.proofs.Common.{◌∙◌, ℕ, ap, arith, refl, sym}
use Rattle.std.specs.Prelude.{max}
use Rattle.std.proofs.lemmas.Result.{err_from_is_err_and}
use Rattle.leveldb_mem.specs.Log.LogFile.{LogFileState}
use Rattle.leveldb_files.specs.Stores.Paths.{log_path}
use Rattle.leveldb_store.proofs.Openings.OpeningBeginLemmas.{all_begun, edit_refused, ended_levels, ended_given, ended_made, ended_own, ended_path, ended_up_to, log_refused, neither, nothing_begun, replay_refused, unversioned}
use Rattle.leveldb_store.proofs.opening.begin.open_to_write.Goals as goal

pub returns-in_err-path-clause-begins : goal.returns-in_err-path-clause-begins
returns-in_err-path-clause-begins g c =
    let failed = err_from_is_err_and c.from_residual.result c.from_residual.ensures.1 in
    rw failed.1 (nothing_begun g.E.Env _ _ c.args.name.now c.args.set.needs_new_manifest c.args.set.versions c.args.set.logs.keys c.args.env.now c.requires _ failed.0 failed.2)

pub returns-in_err-replay-clause-begins : goal.returns-in_err-replay-clause-begins
returns-in_err-replay-clause-begins g c =
    let failed = err_from_is_err_and c.from_residual-in_err-replay.result c.from_residual-in_err-replay.ensures.1 in
    rw (failed.1, failed.2) (replay_refused g.E.Env _ _ c.args.name.now c.args.set.needs_new_manifest c.args.set.versions c.args.set.logs.keys c.args.env.now c.requires _ c.replay_logs.new.versions
    c.replay_logs.new.env c.in_err-replay.ensures.replays)

pub returns-in_err-log-clause-begins : goal.returns-in_err-log-clause-begins
returns-in_err-log-clause-begins g c =
    let failed = err_from_is_err_and c.from_residual-in_err-log.result c.from_residual-in_err-log.ensures.1 in
    let set1 = c.replay_logs.new.versions in
    let last = c.max.ensures ∙ ap (λ (n : ℕ). max n c.in_ok-replay.replay.last) c.last_seq.ensures in
    let set2 = c.set_last_seq.ensures ∙ ap (λ (n : ℕ). record set1 { last_sequence = n }) last in
    rw (failed.1, failed.2) (log_refused g.E.Env _ _ c.args.name.now c.args.set.needs_new_manifest c.args.set.versions c.args.set.logs.keys c.args.env.now c.requires c.in_ok-replay.replay set1
    c.replay_logs.new.env c.in_ok-replay.ensures.replays c.set_last_seq.new.self set2 c.args.options.now.cmp _ c.open_log.new.versions c.open_log.new.env c.in_err-log.ensures.opens)

pub returns-in_err-log_if_wanted-clause-begins : goal.returns-in_err-log_if_wanted-clause-begins
returns-in_err-log_if_wanted-clause-begins g c =
    let failed = err_from_is_err_and c.from_residual-in_err-log_if_wanted.result c.from_residual-in_err-log_if_wanted.ensures.1 in
    let set1 = c.replay_logs.new.versions in
    let last = c.max.ensures ∙ ap (λ (n : ℕ). max n c.in_ok-replay.replay.last) c.last_seq.ensures in
    let set2 = c.set_last_seq.ensures ∙ ap (λ (n : ℕ). record set1 { last_sequence = n }) last in
    let logs = rw c.in_ok-versions.ensures.set at c.in_err-log_if_wanted.ensures.logs in
    rw (failed.1, failed.2) (edit_refused g.E.Env _ _ c.args.name.now c.args.set.needs_new_manifest c.args.set.versions c.args.set.logs.keys c.args.env.now c.requires c.in_ok-replay.replay set1
    c.replay_logs.new.env c.in_ok-replay.ensures.replays c.set_last_seq.new.self set2 c.args.options.now.cmp (c.in_ok-log.log, c.in_ok-log.mem) c.open_log.new.versions c.open_log.new.env
    c.in_ok-log.ensures.opens _ (neither c.args.set.needs_new_manifest c.in_ok-replay.replay.leaves_log) _ c.log_if_wanted.new.versions.set c.log_if_wanted.new.env logs
    c.in_err-log_if_wanted.ensures.locks)

pub returns-in_err-versions-clause-begins : goal.returns-in_err-versions-clause-begins
returns-in_err-versions-clause-begins g c =
    let failed = err_from_is_err_and c.from_residual-in_err-versions.result c.from_residual-in_err-versions.ensures.1 in
    let set1 = c.replay_logs.new.versions in
    let last = c.max.ensures ∙ ap (λ (n : ℕ). max n c.in_ok-replay.replay.last) c.last_seq.ensures in
    let set2 = c.set_last_seq.ensures ∙ ap (λ (n : ℕ). record set1 { last_sequence = n }) last in
    rw failed.1 (unversioned g.E.Env _ _ c.args.name.now c.args.set.needs_new_manifest c.args.set.versions c.args.set.logs.keys c.args.env.now c.requires c.in_ok-replay.replay set1
    c.replay_logs.new.env c.in_ok-replay.ensures.replays c.set_last_seq.new.self set2 c.args.options.now.cmp (c.in_ok-log.log, c.in_ok-log.mem) c.open_log.new.versions c.open_log.new.env
    c.in_ok-log.ensures.opens _ (rw failed.2 c.in_err-versions.ensures.memory))

pub invariant_of-result : goal.invariant_of-result
invariant_of-result g c =
    let set1 = c.replay_logs.new.versions in
    let last = c.max.ensures ∙ ap (λ (n : ℕ). max n c.in_ok-replay.replay.last) c.last_seq.ensures in
    let set2 = c.set_last_seq.ensures ∙ ap (λ (n : ℕ). record set1 { last_sequence = n }) last in
    let opens = c.in_ok-log.ensures.opens in
    let logs = rw c.in_ok-versions.ensures.set at c.in_ok-log_if_wanted.ensures.logs in
    let path = ended_path g.E.Env _ _ c.args.name.now c.args.set.needs_new_manifest c.args.set.versions c.args.set.logs.keys c.args.env.now c.requires c.in_ok-replay.replay set1
    c.replay_logs.new.env c.in_ok-replay.ensures.replays c.set_last_seq.new.self set2 c.args.options.now.cmp (c.in_ok-log.log, c.in_ok-log.mem) c.open_log.new.versions c.open_log.new.env
    opens _ (neither c.args.set.needs_new_manifest c.in_ok-replay.replay.leaves_log) c.in_ok-log_if_wanted.field-0 c.log_if_wanted.new.versions.set c.log_if_wanted.new.env logs
    c.in_ok-log_if_wanted.ensures.locks in
    let named = c.in_ok-path.ensures.ok in (
      path ∙ sym named,
      (
        ap (λ (f : LogFileState). f.path) opens.file ∙ ap (log_path c.args.name.now) (sym opens.number) ∙ ap (λ s. log_path s c.in_ok-log.log.number) (sym named),
        (let number = opens.number in let fits = opens.number_fits in omega (arith, number, fits)),
      ),
      opens.order,
      tt,
      ended_own g.E.Env _ _ c.args.name.now c.args.set.needs_new_manifest c.args.set.versions c.args.set.logs.keys c.args.env.now c.requires c.in_ok-replay.replay set1
          c.replay_logs.new.env c.in_ok-replay.ensures.replays c.set_last_seq.new.self set2 c.args.options.now.cmp (c.in_ok-log.log, c.in_ok-log.mem) c.open_log.new.versions c.open_log.new.env
          opens _ (neither c.args.set.needs_new_manifest c.in_ok-replay.replay.leaves_log) c.in_ok-log_if_wanted.field-0 c.log_if_wanted.new.versions.set c.log_if_wanted.new.env logs
          c.in_ok-log_if_wanted.ensures.locks,
      ended_made g.E.Env _ _ c.args.name.now c.args.set.needs_new_manifest c.args.set.versions c.args.set.logs.keys c.args.env.now c.requires c.in_ok-replay.replay set1
          c.replay_logs.new.env c.in_ok-replay.ensures.replays c.set_last_seq.new.self set2 c.args.options.now.cmp (c.in_ok-log.log, c.in_ok-log.mem) c.open_log.new.versions c.open_log.new.env
          opens _ (neither c.args.set.needs_new_manifest c.in_ok-replay.replay.leaves_log) c.in_ok-log_if_wanted.field-0 c.log_if_wanted.new.versions.set c.log_if_wanted.new.env logs
          c.in_ok-log_if_wanted.ensures.locks,
      ended_up_to g.E.Env _ _ c.args.name.now c.args.set.needs_new_manifest c.args.set.versions c.args.set.logs.keys c.args.env.now c.requires c.in_ok-replay.replay set1
          c.replay_logs.new.env c.in_ok-replay.ensures.replays c.set_last_seq.new.self set2 c.args.options.now.cmp (c.in_ok-log.log, c.in_ok-log.mem) c.open_log.new.versions c.open_log.new.env
          opens _ (neither c.args.set.needs_new_manifest c.in_ok-replay.replay.leaves_log) c.in_ok-log_if_wanted.field-0 c.log_if_wanted.new.versions.set c.log_if_wanted.new.env logs
          c.in_ok-log_if_wanted.ensures.locks c.in_ok-log.mem.kept.entries opens.entries,
      tt,
      c.log_if_wanted.ensures.cmp ∙ c.in_ok-versions.ensures.cmp,
      ended_given g.E.Env _ _ c.args.name.now c.args.set.needs_new_manifest c.args.set.versions c.args.set.logs.keys c.args.env.now c.requires c.in_ok-replay.replay set1
          c.replay_logs.new.env c.in_ok-replay.ensures.replays c.set_last_seq.new.self set2 c.args.options.now.cmp (c.in_ok-log.log, c.in_ok-log.mem) c.open_log.new.versions c.open_log.new.env
          opens _ (neither c.args.set.needs_new_manifest c.in_ok-replay.replay.leaves_log) c.in_ok-log_if_wanted.field-0 c.log_if_wanted.new.versions.set c.log_if_wanted.new.env logs
          c.in_ok-log_if_wanted.ensures.locks,
      ended_levels g.E.Env _ _ c.args.name.now c.args.set.needs_new_manifest c.args.set.versions c.args.set.logs.keys c.args.env.now c.requires c.in_ok-replay.replay set1
          c.replay_logs.new.env c.in_ok-replay.ensures.replays c.set_last_seq.new.self set2 c.args.options.now.cmp (c.in_ok-log.log, c.in_ok-log.mem) c.open_log.new.versions c.open_log.new.env
          opens _ (neither c.args.set.needs_new_manifest c.in_ok-replay.replay.leaves_log) c.in_ok-log_if_wanted.field-0 c.log_if_wanted.new.versions.set c.log_if_wanted.new.env logs
          c.in_ok-log_if_wanted.ensures.locks,
    )

pub returns-clause-begins : goal.returns-clause-begins
returns-clause-begins g c =
    let set1 = c.replay_logs.new.versions in
    let last = c.max.ensures ∙ ap (λ (n : ℕ). max n c.in_ok-replay.replay.last) c.last_seq.ensures in
    let set2 = c.set_last_seq.ensures ∙ ap (λ (n : ℕ). record set1 { last_sequence = n }) last in
    let opens = c.in_ok-log.ensures.opens in
    let logs = rw c.in_ok-versions.ensures.set at c.in_ok-log_if_wanted.ensures.logs in
    all_begun g.E.Env _ _ c.args.name.now c.args.set.needs_new_manifest c.args.set.versions c.args.set.logs.keys c.args.env.now c.requires c.in_ok-replay.replay set1
    c.replay_logs.new.env c.in_ok-replay.ensures.replays c.set_last_seq.new.self set2 c.args.options.now.cmp (c.in_ok-log.log, c.in_ok-log.mem) c.open_log.new.versions c.open_log.new.env
    opens _ (neither c.args.set.needs_new_manifest c.in_ok-replay.replay.leaves_log) c.in_ok-log_if_wanted.field-0 c.log_if_wanted.new.versions.set c.log_if_wanted.new.env logs
    c.in_ok-log_if_wanted.ensures.locks _ (record { set_is = refl; number = refl; writer = ap (λ (f : LogFileState). f.writer) opens.file; mem_is = opens.entries; imm = refl })
