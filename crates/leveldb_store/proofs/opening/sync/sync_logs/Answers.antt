use Rattle.std.proofs.Common.{◌≡◌, ◌∙◌, ◌∷◌, ◌++◌, [], map, ap, refl, sym}
use Rattle.std.proofs.lemmas.List.{map-append}
use Rattle.std.specs.Map.Iter.{deref}
use Rattle.leveldb_store.specs.Openings.OpeningSteps.{with_logs_kept}
use Rattle.leveldb_store.proofs.Openings.OpeningSyncsLemmas.{kept_then, run_on, walked_on}
use Rattle.leveldb_store.proofs.opening.sync.sync_logs.Goals as goal

pub loop-number-preserved : goal.loop-number-preserved
loop-number-preserved g c =
    let so_far = c.loop-number.invariant in
    let store = c.args.store.now in
    let logs = c.args.logs.now.keys in
    let front = map deref c.loop-number.yielded in
    let n = c.in-Some.number.now in
    let start = g.E.Env.observed c.args.env.now in
    let mid = g.E.Env.observed c.loop-number.env in
    let are : logs ≡ front ++ n ∷ c.next.new.self = sym so_far.rest ∙ ap (λ rest. front ++ rest) c.in-Some.ensures.steps in
    record {
      rest = walked_on c.loop-number.yielded c.in-Some.number c.loop-number.number-iterator c.next.new.self logs so_far.rest c.in-Some.ensures.steps;
      run = λ modelled. run_on store logs front n c.next.new.self are start.disk.files mid.disk.files (so_far.now modelled) start mid (g.E.Env.observed c.sync_log.new.env) refl (so_far.run modelled) (c.sync_log.ensures.run modelled);
      now = λ modelled. kept_then store logs front n c.next.new.self are start.disk.files mid.disk.files (so_far.now modelled) _ (c.in_ok-sync_log.ensures.ok modelled)
          ∙ ap (λ passed. with_logs_kept store passed start.disk.files) (sym (map-append deref c.loop-number.yielded (c.in-Some.number ∷ [])));
      locks = λ modelled. c.sync_log.ensures.locks modelled ∙ so_far.locks modelled;
      uncounted = c.in_ok-sync_log.ensures.cause.ok ∙ so_far.uncounted;
    }

pub returns-in_err-sync_log-clause-run : goal.returns-in_err-sync_log-clause-run
returns-in_err-sync_log-clause-run g c = λ modelled.
    let so_far = c.loop-number.invariant in
    let start = g.E.Env.observed c.args.env.now in
    let mid = g.E.Env.observed c.loop-number.env in
    let front = map deref c.loop-number.yielded in
    run_on c.args.store.now c.args.logs.now.keys front c.in-Some.number.now c.next.new.self (sym so_far.rest ∙ ap (λ rest. front ++ rest) c.in-Some.ensures.steps) start.disk.files mid.disk.files
    (so_far.now modelled) start mid (g.E.Env.observed c.sync_log.new.env) refl (so_far.run modelled) (c.sync_log.ensures.run modelled)
